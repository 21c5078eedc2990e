-- A frame's ACK carries the index that is stored for the position from whose address the frame came, in the records that the step leaves.
use Prim.Native.Nat.{ℕ, ◌≤◌}
use native.Mathlib.Omega.{arith}
use mathlib.Core.Path.{◌≡◌, refl, sym, ap, ◌∙◌}
use mathlib.Core.Bool.{true, false≢true}
use mathlib.Core.List.{List, []}
use lib.ListN.{length}
use lib.Dec.{eqb, ltb}
use borrow.Author.Tests.{eqb-true, eq-eqb}
use Rattle.std.specs.Prelude.{Result, Ok, Err}
use Rattle.refusal.specs.Refusal.{Told}
use Rattle.refusal.specs.declared.Refusal.TheVariants.{NoRoom}
use Rattle.frame.specs.Frame.{header_of, frame_of}
use Rattle.board.specs.declared.Node.{Node}
use Rattle.board.specs.Table.{at}
use Rattle.board.specs.Change.{heard}
use Rattle.board.proofs.Changes.{at_put}
use Rattle.setup.specs.Setup.{address}
use Rattle.message.specs.Message.{own_header}
use Rattle.refusal.specs.declared.Refusal.{Refusal}
use Rattle.accept.specs.declared.Heard.{Heard}
use Rattle.accept.specs.declared.Heard.TheVariants.{Ack, Echo, Deliver, Route, Answer}
use Rattle.accept.specs.declared.Reply.{Reply}
use Rattle.accept.specs.declared.Reply.TheVariants.{Discovered, Present as AckCame, Identified, Assigned}
use Rattle.accept.proofs.Replied.{search_replied}
use Rattle.coordinator.specs.declared.Coordinator.{Coordinator}
use Rattle.coordinator.specs.declared.Found.{Found}
use Rattle.coordinator.specs.declared.Exchange.{Exchange}
use Rattle.coordinator.specs.declared.Exchange.TheVariants.{Offer, List as Listing, Forward, Return}
use Rattle.coordinator.specs.declared.Part.{Part}
use Rattle.coordinator.specs.declared.Part.TheVariants.{Search, IdentifyDue, Identify, Present, AssignDue, Assign}
use Rattle.coordinator.specs.declared.Phase.{Phase}
use Rattle.coordinator.specs.declared.Phase.TheVariants.{Resting, Awaiting, ForwardDue, ReturnDue, Seeking, Unknown}
use Rattle.coordinator.specs.Phase.{phase_of}
use Rattle.coordinator.specs.Fit.{fits}
use Rattle.coordinator.proofs.Fitting.{Board, awaited, fit_told, fits_stake}
use Rattle.steps.specs.After.{After, refused}
use Rattle.steps.specs.Hear.{hear}
use Rattle.steps.specs.Seek.{join_found, answered, outcome, settled, reply_in, replied_as, sought_in}
use Rattle.steps.specs.Receive.{payload, awaits, acked, acking, heard_in, taken_as, taken_in, receive_rules, receive_in, receive_of}
use Rattle.steps.proofs.Admitted.{admitted}
use Rattle.lasting.proofs.Taken.{by_refusals, by_choice}
use Rattle.staying.proofs.Agreement.{inside}
use Rattle.staying.proofs.Addresses.{same_address}

-- a step that writes nothing
silent : {A : Type 0} → 1 ≤ length {A = ℕ} [] → A
silent l = absurd (let z : ⊥ = omega (arith, l) in z)

module _ (c : Coordinator) (t : List Node) (h : fits c t ≡ true) (received : List ℕ) (room p : ℕ) (from : address c.setup p ≡ (header_of received).source) where
  -- where a step writes, it writes the index of position p
  abbrev Signs : After → Type 0
  Signs a = 1 ≤ length a.bytes → (header_of a.bytes).parameter2 ≡ (at a.nodes p).index

  -- the position that is waited for is p
  there : (b : ℕ) → 1 ≤ b → b ≤ c.setup.k → (header_of received).source ≡ address c.setup b → p ≡ b
  there b least most e = eqb-true p b (sym (same_address c.setup (fit_told c t h).setup b p least most) ∙ eq-eqb _ _ (from ∙ e))

  -- the ACK to a board that is heard
  acking_signs : (b : ℕ) → Board c t b → p ≡ b → (says : Told) (after : Coordinator) → Signs (acking c t b room says after)
  unfolding own_header frame_of
  acking_signs b board e says after = by_choice Signs (ltb room 29) (refused c t NoRoom) _ (λ _. silent) (λ _ _. ap (λ (n : Node). n.index) (sym (ap (at (hear t b)) e ∙ at_put t b (heard (at t b)) board.from (inside c t h board))))

  -- an ACK is not acknowledged
  acked_signs : (x : Exchange) (b q : ℕ) (u : List Node) → Signs (acked x b q c u)
  acked_signs Offer b q u = silent
  acked_signs Listing b q u = silent
  acked_signs Forward b q u = silent
  acked_signs Return b q u = silent

  taken_signs : (b : ℕ) → Board c t b → p ≡ b → (x : Result Heard Refusal) (e : Exchange) (q : ℕ) → Signs (taken_as x e b q c t (header_of received) (payload received) room)
  taken_signs b board here (Ok Ack) e q = acked_signs e b q _
  taken_signs b board here (Ok Echo) e q = acking_signs b board here _ _
  taken_signs b board here (Ok Deliver) e q = acking_signs b board here _ _
  taken_signs b board here (Ok Route) e q = acking_signs b board here _ _
  taken_signs b board here (Ok Answer) e q = acking_signs b board here _ _
  taken_signs b board here (Err r) e q = silent

  -- in the exchange by which a board joins: a discovery's response is not acknowledged
  answered_signs : (f : Found) → Signs (answered c t f)
  answered_signs f = by_choice Signs (ltb 0 (join_found c t f).joined) _ _ (λ _. silent) (λ _. silent)

  settled_signs : (b : ℕ) → p ≡ b → (f : Found) → Signs (settled c t b f room)
  unfolding own_header frame_of
  settled_signs b here f = by_choice Signs (ltb room 29) (refused c t NoRoom) _ (λ _. silent) (λ _ _. ap (λ (q : ℕ). (at (outcome c t b f).nodes q).index) (sym here))

  replied_signs : (b : ℕ) → p ≡ b → (r : Result Reply Refusal) → Signs (replied_as r b c t (header_of received).packet (payload received) room)
  replied_signs b here (Ok Discovered) = answered_signs _
  replied_signs b here (Ok AckCame) = silent
  replied_signs b here (Ok Identified) = settled_signs b here _
  replied_signs b here (Ok Assigned) = settled_signs b here _
  replied_signs b here (Err r) = silent

  sought_signs : (b : ℕ) (part : Part) → phase_of c.stand ≡ Seeking b part → awaits (Seeking b part) c.setup (header_of received).source ≡ true → Signs (sought_in part b c t (header_of received) (payload received) room)
  sought_signs b part e = go part (λ w. replied_signs b (there b (fits_stake c t h e).0.from (fits_stake c t h e).0.up_to (eqb-true _ _ w)) (reply_in part b c (header_of received) (payload received)))
    where
      go : (part : Part) → (eqb (header_of received).source (address c.setup b) ≡ true → Signs (sought_in part b c t (header_of received) (payload received) room)) → awaits (Seeking b part) c.setup (header_of received).source ≡ true → Signs (sought_in part b c t (header_of received) (payload received) room)
      go Search there w = search_replied (λ r. Signs (replied_as r b c t (header_of received).packet (payload received) room)) silent (header_of received).message (payload received) (λ _ _. answered_signs _)
      go IdentifyDue there w = absurd (false≢true w)
      go Identify there w = there w
      go Present there w = there w
      go AssignDue there w = absurd (false≢true w)
      go Assign there w = there w

  -- by what is waited for
  value_signs : (phase : Phase) → phase_of c.stand ≡ phase → awaits phase c.setup (header_of received).source ≡ true → Signs (taken_in phase c t (header_of received) (payload received) room)
  value_signs Resting e w = silent
  value_signs (Awaiting b x q a) e w = taken_signs b (awaited c t h e) (there b (awaited c t h e).from (awaited c t h e).up_to (eqb-true _ _ w)) (heard_in x b a c t (header_of received) (payload received)) x q
  value_signs (ForwardDue b q) e w = silent
  value_signs (ReturnDue b) e w = silent
  value_signs (Seeking b part) e w = sought_signs b part e w
  value_signs Unknown e w = silent

  pub frame_signs : Signs (receive_of c t received room)
  unfolding receive_in
  frame_signs = by_refusals c t Signs (receive_rules (phase_of c.stand) c t received) _ (λ r. silent) (λ passed. value_signs (phase_of c.stand) refl (admitted (phase_of c.stand) c t received passed).awaited)
