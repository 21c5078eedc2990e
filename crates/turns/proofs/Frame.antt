-- What a frame is: a refusal, or work.
use Prim.Native.Nat.{ℕ}
use native.Mathlib.Omega.{arith}
use mathlib.Core.Path.{◌≡◌, refl, ◌∙◌}
use mathlib.Core.Bool.{Bool, true, false}
use mathlib.Core.List.{List, []}
use lib.Dec.{eqb, ltb}
use Rattle.ground.specs.Choose.{choose}
use Rattle.refusal.specs.Refusal.{Told}
use Rattle.refusal.specs.declared.Refusal.TheVariants.{NotAwaited, NoRoom, UnexpectedType, BadEcho, BadMethod}
use Rattle.frame.specs.declared.Header.{Header}
use Rattle.frame.specs.Frame.{header_of}
use Rattle.board.specs.declared.Node.{Node}
use Rattle.board.specs.declared.Wanted.TheVariants.{Listed, Owed}
use Rattle.board.specs.Table.{at, put}
use Rattle.board.specs.Wanted.{count_of}
use Rattle.board.specs.Change.{heard, renewed, owe_all}
use Rattle.board.proofs.Counts.{count_owe_all}
use Rattle.message.specs.Message.{signed_frame, ack_code}
use Rattle.routing.specs.Route.{route_of}
use Rattle.accept.specs.Accept.{ack_session, heard_after_offer, heard_after_list, heard_after_forward, heard_after_return}
use Rattle.coordinator.specs.declared.Coordinator.{Coordinator}
use Rattle.coordinator.specs.declared.Exchange.{Exchange}
use Rattle.coordinator.specs.declared.Exchange.TheVariants.{Offer, List as Listing, Forward, Return}
use Rattle.coordinator.specs.declared.Phase.{Phase}
use Rattle.coordinator.specs.declared.Phase.TheVariants.{Resting, Awaiting, ForwardDue, ReturnDue, Seeking, Unknown}
use Rattle.coordinator.specs.Phase.{phase_of}
use Rattle.coordinator.specs.Fit.{fits}
use Rattle.coordinator.specs.Change.{with_phase, keeping}
use Rattle.coordinator.proofs.Phases.{forwarding, forward_due_lem, return_due_lem}
use Rattle.coordinator.proofs.Fitting.{Board, awaited}
use Rattle.steps.specs.After.{refused, accepted, waits, delivers, transmits, rests}
use Rattle.steps.specs.Hear.{hear}
use Rattle.steps.specs.Receive.{payload, hear_ack, kept_of, acking, taken_as, taken_in, receive_rules, receive_in, receive_of}
use Rattle.lasting.proofs.Heard.{offer_heard, list_heard, forward_heard, return_heard}
use Rattle.turns.specs.Potential.{under_way}
use Rattle.turns.proofs.Moves.{Moves, refusing, guarded, Plain, plain_rests, plain_delivers, plain_transmits, plain_forward, put_keeps, moved, ended}
use Rattle.turns.proofs.Seek.{sought_moves}

module _ (c : Coordinator) (t : List Node) (h : fits c t ≡ true) where
  module _ {b q : ℕ} {e : Exchange} {a : Bool} (w : phase_of c.stand ≡ Awaiting b e q a) where
    here : Board c t b
    here = awaited c t h w

    -- the board that is heard is listed, and owed the list, as before
    hear_listed : count_of Listed (hear t b) ≡ count_of Listed t
    hear_listed = put_keeps c t h Listed (heard (at t b)) here refl

    hear_owed : count_of Owed (hear t b) ≡ count_of Owed t
    hear_owed = put_keeps c t h Owed (heard (at t b)) here refl

    ack_listed : (session : ℕ) → count_of Listed (hear_ack t b session) ≡ count_of Listed t
    unfolding choose
    ack_listed session = go (eqb session (at t b).session)
      where
        go : (s : Bool) → count_of Listed (choose s (hear t b) (owe_all (put t b (renewed (heard (at t b)) session)))) ≡ count_of Listed t
        go true = hear_listed
        go false = count_owe_all (put t b (renewed (heard (at t b)) session)) ∙ put_keeps c t h Listed (renewed (heard (at t b)) session) here refl

    -- an ACK that ends a wait other than a list's
    ack_ends : (session : ℕ) → (e ≡ Listing → ⊥) → Moves c t (accepted (with_phase c Resting) (hear_ack t b session) rests [])
    ack_ends session ne = ended c t h (hear_ack t b session) rests [] w plain_rests (ack_listed session) (λ x. absurd (ne x))

    -- where an ACK is written it has room, or all is refused
    module _ (room : ℕ) (says : Told) where
      acks : (after : Coordinator) → Moves c t (accepted after (hear t b) says (signed_frame c.setup t b (at t b).version ack_code)) → Moves c t (acking c t b room says after)
      unfolding choose
      acks after m = go (ltb room 29)
        where
          go : (s : Bool) → Moves c t (choose s (refused c t NoRoom) (accepted after (hear t b) says (signed_frame c.setup t b (at t b).version ack_code)))
          go true = refusing c t NoRoom
          go false = m

      acks_ending : Plain says → Moves c t (acking c t b room says (with_phase c Resting))
      acks_ending plain = acks (with_phase c Resting) (ended c t h (hear t b) says _ w plain hear_listed (λ x. hear_owed))

  module _ (b q : ℕ) (a : Bool) (hd : Header) (p : List ℕ) (room : ℕ) where
    -- a request goes on to its board, or the wait ends
    routes : phase_of c.stand ≡ Awaiting b Offer q a → (s : Bool) (to : ℕ) → Moves c t (accepted (choose s (with_phase (keeping c (kept_of hd p)) (ForwardDue to b)) (with_phase c Resting)) (hear t b) transmits (signed_frame c.setup t b (at t b).version ack_code))
    unfolding choose under_way
    routes w true to = moved c t h (kept_of hd p) (hear t b) transmits _ (forward_due_lem to b) plain_transmits (hear_listed w) (rw w (omega arith))
    routes w false to = ended c t h (hear t b) transmits _ w plain_transmits (hear_listed w) (λ y. hear_owed w)

    after_offer_lem : phase_of c.stand ≡ Awaiting b Offer q a → (m d : ℕ) (x : Bool) → Moves c t (taken_as (heard_after_offer m d x) Offer b q c t hd p room)
    after_offer_lem w m d x =
        offer_heard (λ v. Moves c t (taken_as v Offer b q c t hd p room)) (refusing c t UnexpectedType) m d x (refusing c t BadMethod)
        (ack_ends w (ack_session p) (λ y. let o : ◌≡◌ {A = ℕ} 0 1 = cc in omega arith))
        (acks_ending w room delivers plain_delivers)
        (λ request low high. acks w room transmits _ (routes w (ltb 0 (route_of t c.setup.k b hd.method hd.parameter1)) (route_of t c.setup.k b hd.method hd.parameter1)))

    after_list : phase_of c.stand ≡ Awaiting b Listing q a → (m : ℕ) (x : Bool) → Moves c t (taken_as (heard_after_list m x) Listing b q c t hd p room)
    after_list w m x = list_heard (λ v. Moves c t (taken_as v Listing b q c t hd p room)) (refusing c t UnexpectedType) m x (refusing c t BadEcho) (acks_ending w room transmits plain_transmits)

    -- the first ACK, or the response
    first_ack : phase_of c.stand ≡ Awaiting b Forward q a → a ≡ false → Moves c t (accepted (with_phase c (Awaiting b Forward q true)) (hear_ack t b (ack_session p)) (waits b Forward) [])
    unfolding under_way
    first_ack w e = moved c t h c.kept (hear_ack t b (ack_session p)) (waits b Forward) [] (forwarding b q true) (plain_forward b) (ack_listed w (ack_session p)) (rw (w, e) (omega arith))

    answered : (d : Bool) → phase_of c.stand ≡ Awaiting b Forward q d → Moves c t (accepted (with_phase (keeping c (kept_of hd p)) (ReturnDue q)) (hear t b) transmits (signed_frame c.setup t b (at t b).version ack_code))
    unfolding under_way
    answered true w = moved c t h (kept_of hd p) (hear t b) transmits _ (return_due_lem q) plain_transmits (hear_listed w) (rw w (omega arith))
    answered false w = moved c t h (kept_of hd p) (hear t b) transmits _ (return_due_lem q) plain_transmits (hear_listed w) (rw w (omega arith))

    after_forward_lem : phase_of c.stand ≡ Awaiting b Forward q a → (m r : ℕ) (x : Bool) → Moves c t (taken_as (heard_after_forward m r x a) Forward b q c t hd p room)
    after_forward_lem w m r x = forward_heard (λ v. Moves c t (taken_as v Forward b q c t hd p room)) (refusing c t UnexpectedType) m r x a (first_ack w) (λ type. acks w room transmits _ (answered a w))

    after_return_lem : phase_of c.stand ≡ Awaiting b Return q a → (m : ℕ) (x : Bool) → Moves c t (taken_as (heard_after_return m x) Return b q c t hd p room)
    after_return_lem w m x = return_heard (λ v. Moves c t (taken_as v Return b q c t hd p room)) (refusing c t UnexpectedType) m x (ack_ends w (ack_session p) (λ y. let o : ◌≡◌ {A = ℕ} 0 1 = cc in omega arith))

  value_moves : (hd : Header) (p : List ℕ) (room : ℕ) (phase : Phase) → phase_of c.stand ≡ phase → Moves c t (taken_in phase c t hd p room)
  value_moves hd p room Resting w = refusing c t NotAwaited
  value_moves hd p room (Awaiting b Offer q a) w = after_offer_lem b q a hd p room w _ _ _
  value_moves hd p room (Awaiting b Listing q a) w = after_list b q a hd p room w _ _
  value_moves hd p room (Awaiting b Forward q a) w = after_forward_lem b q a hd p room w _ _ _
  value_moves hd p room (Awaiting b Return q a) w = after_return_lem b q a hd p room w _ _
  value_moves hd p room (ForwardDue b q) w = refusing c t NotAwaited
  value_moves hd p room (ReturnDue b) w = refusing c t NotAwaited
  value_moves hd p room (Seeking position part) w = sought_moves c t h position hd p room part w
  value_moves hd p room Unknown w = refusing c t NotAwaited

  pub frame_moves : (bytes : List ℕ) (room : ℕ) → Moves c t (receive_of c t bytes room)
  unfolding receive_in
  frame_moves bytes room = guarded c t (receive_rules (phase_of c.stand) c t bytes) (taken_in (phase_of c.stand) c t (header_of bytes) (payload bytes) room) (λ passed. value_moves (header_of bytes) (payload bytes) room (phase_of c.stand) refl)
