-- Where a 1.0 board may answer, no bytes of its subnet get 24: they are read in it, and what follows the reader refuses for other reasons.
use Prim.Native.Nat.{ℕ}
use native.Mathlib.Omega.{arith}
use mathlib.Core.Path.{◌≡◌, refl, sym, ◌∙◌}
use mathlib.Core.Bool.{Bool, true, false, false≢true}
use mathlib.Core.List.{List}
use lib.Dec.{eqb, ltb}
use borrow.Author.Tests.{eq-eqb, eqb-false, not-true}
use Rattle.std.specs.Prelude.{Result}
use Rattle.ground.proofs.Choices.{or_left}
use Rattle.refusal.specs.Refusal.{Told, number_of}
use Rattle.refusal.specs.declared.Refusal.{Refusal}
use Rattle.refusal.specs.declared.Refusal.TheVariants.{StateUnfit, Short, OverLong, LengthMismatch, BadChecksum, NotForUs, NotDiscovering, NotAwaited, UnexpectedType, BadEcho, BadMethod, NoRoom}
use Rattle.refusal.proofs.Rules.{by_rules}
use Rattle.frame.specs.declared.Header.{Header}
use Rattle.frame.specs.Frame.{header_of, takes_subnet}
use Rattle.board.specs.declared.Node.{Node}
use Rattle.board.specs.Table.{at}
use Rattle.setup.specs.Setup.{old_subnet}
use Rattle.nodelist.specs.List.{same_list}
use Rattle.accept.specs.declared.Reply.{Reply}
use Rattle.accept.specs.Accept.{is_ack}
use Rattle.accept.specs.Replies.{heard_in_identify}
use Rattle.accept.proofs.Replied.{search_replied, identify_replied, assign_replied}
use Rattle.coordinator.specs.declared.Coordinator.{Coordinator}
use Rattle.coordinator.specs.declared.Exchange.{Exchange}
use Rattle.coordinator.specs.declared.Exchange.TheVariants.{Offer, List as Listing, Forward, Return}
use Rattle.coordinator.specs.declared.Found.{Found}
use Rattle.coordinator.specs.declared.Part.{Part}
use Rattle.coordinator.specs.declared.Part.TheVariants.{Search, IdentifyDue, Identify, Present, AssignDue, Assign}
use Rattle.coordinator.specs.declared.Phase.{Phase}
use Rattle.coordinator.specs.declared.Phase.TheVariants.{Resting, Awaiting, ForwardDue, ReturnDue, Seeking, Unknown}
use Rattle.steps.specs.After.{After, refused, transmits, delivers}
use Rattle.steps.specs.Seek.{join_found, discovered, identified, settled, replied_as, sought_in}
use Rattle.steps.specs.Receive.{payload, heard_in, acking, taken_as, taken_in, hears_old, read_in, receive_rules, receive_in}
use Rattle.steps.proofs.ReadBy.{read_old}
use Rattle.lasting.proofs.Heard.{offer_heard, list_heard, forward_heard, return_heard}
use Rattle.lasting.proofs.Taken.{by_choice}

-- a step that says something else than 24
abbrev Unsaid : After → Type 0
Unsaid a = a.says.number ≡ 24 → ⊥

module _ (c : Coordinator) (t : List Node) where
  apart : (r : Refusal) → eqb (number_of r) 24 ≡ false → Unsaid (refused c t r)
  apart r n = eqb-false (number_of r) 24 n

  acking_unsaid : (board room : ℕ) (says : Told) (after : Coordinator) → says.number ≡ 0 → Unsaid (acking c t board room says after)
  acking_unsaid board room says after z = by_choice Unsaid (ltb room 29) _ _ (λ _. apart NoRoom refl) (λ _ e. omega (arith, z, e))

  module _ (h : Header) (p : List ℕ) (room : ℕ) where
    -- in a wait for a board
    heard_unsaid : (exchange : Exchange) (board requester : ℕ) (ack : Bool) → Unsaid (taken_as (heard_in exchange board ack c t h p) exchange board requester c t h p room)
    heard_unsaid Offer board requester ack = offer_heard (λ x. Unsaid (taken_as x Offer board requester c t h p room)) (apart UnexpectedType refl) h.message h.method (is_ack (at t board).mac p) (apart BadMethod refl) (λ e. omega (arith, e)) (acking_unsaid board room delivers _ refl) (λ _ _ _. acking_unsaid board room transmits _ refl)
    heard_unsaid Listing board requester ack = list_heard (λ x. Unsaid (taken_as x Listing board requester c t h p room)) (apart UnexpectedType refl) h.message (same_list (at t board).version c.setup.internal t p) (apart BadEcho refl) (acking_unsaid board room transmits _ refl)
    heard_unsaid Forward board requester ack = forward_heard (λ x. Unsaid (taken_as x Forward board requester c t h p room)) (apart UnexpectedType refl) h.message c.kept.message (is_ack (at t board).mac p) ack (λ _ e. omega (arith, e)) (λ _. acking_unsaid board room transmits _ refl)
    heard_unsaid Return board requester ack = return_heard (λ x. Unsaid (taken_as x Return board requester c t h p room)) (apart UnexpectedType refl) h.message (is_ack (at t board).mac p) (λ e. omega (arith, e))

    -- in the exchange by which a board joins
    module _ (position : ℕ) where
      abbrev Replied : Result Reply Refusal → Type 0
      Replied r = Unsaid (replied_as r position c t h.packet p room)

      settled_unsaid : (f : Found) → Unsaid (settled c t position f room)
      settled_unsaid f = by_choice Unsaid (ltb room 29) _ _ (λ _. apart NoRoom refl) (λ _ e. omega (arith, e))

      identify_unsaid : (ack : Bool) → Replied (heard_in_identify h.message p ack)
      identify_unsaid ack = identify_replied Replied (apart UnexpectedType refl) h.message p ack (λ _ _ _ _ e. omega (arith, e)) (λ _ _. settled_unsaid (identified c.found.version p))

      sought_unsaid : (part : Part) → Unsaid (sought_in part position c t h p room)
      sought_unsaid Search = search_replied Replied (apart UnexpectedType refl) h.message p (λ _ _. by_choice Unsaid (ltb 0 (join_found c t (discovered h.packet p)).joined) _ _ (λ _ e. omega (arith, e)) (λ _ e. omega (arith, e)))
      sought_unsaid IdentifyDue = apart NotAwaited refl
      sought_unsaid Identify = identify_unsaid false
      sought_unsaid Present = identify_unsaid true
      sought_unsaid AssignDue = apart NotAwaited refl
      sought_unsaid Assign = assign_replied Replied (apart UnexpectedType refl) h.message _ (apart BadEcho refl) (λ _ _. settled_unsaid c.found)

    -- by the phases
    taken_unsaid : (phase : Phase) → Unsaid (taken_in phase c t h p room)
    taken_unsaid Resting = apart NotAwaited refl
    taken_unsaid (Awaiting board exchange requester ack) = heard_unsaid exchange board requester ack
    taken_unsaid (ForwardDue board requester) = apart NotAwaited refl
    taken_unsaid (ReturnDue board) = apart NotAwaited refl
    taken_unsaid (Seeking position part) = sought_unsaid position part
    taken_unsaid Unknown = apart NotAwaited refl

  module _ (phase : Phase) (b : List ℕ) (hears : hears_old phase c t ≡ true) (old : (header_of b).subnet ≡ old_subnet) where
    -- the subnet in which they are read takes them
    taken : takes_subnet (read_in phase c t b) (header_of b).subnet ≡ true
    taken = or_left _ (eqb (header_of b).subnet 0) (eq-eqb _ _ (old ∙ sym (read_old (hears_old phase c t) c.setup.subnet b hears old)))

    pub heard_old : (room : ℕ) → Unsaid (receive_in phase c t b room)
    unfolding receive_in
    heard_old room =
        by_rules Unsaid (receive_rules phase c t b) (refused c t) (taken_in phase c t (header_of b) (payload b) room) (
          (λ _. apart StateUnfit refl),
          λ _. (
            (λ _. apart Short refl),
            λ _. (
              (λ _. apart OverLong refl),
              λ _. (
                (λ _. apart LengthMismatch refl),
                λ _. (
                  (λ _. apart BadChecksum refl),
                  λ _. (
                    (λ n. absurd (false≢true (sym (not-true _ n) ∙ taken))),
                    λ _. (
                      (λ _. apart NotForUs refl),
                      λ _. (
                        (λ _. apart NotDiscovering refl),
                        λ _. (
                          (λ _. apart NotAwaited refl),
                          λ _. tt,
                        ),
                      ),
                    ),
                  ),
                ),
              ),
            ),
          ),
        )
        (λ _. taken_unsaid (header_of b) (payload b) room phase)
