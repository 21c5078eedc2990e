-- A received frame keeps fit.
use Prim.Native.Nat.{ℕ, ◌≤◌}
use native.Mathlib.Omega.{arith}
use mathlib.Core.Path.{◌≡◌, refl}
use mathlib.Core.Bool.{Bool, true, false}
use mathlib.Core.List.{List}
use lib.ListN.{length, drop, length-take}
use lib.Dec.{leb, ltb}
use borrow.Author.Tests.{ltb-true, leb-true, lt-ltb, le-leb}
use Rattle.std.specs.Prelude.{Ok}
use Rattle.ground.specs.Choose.{choose}
use Rattle.ground.proofs.Choices.{and_left, and_right, both, not_no}
use Rattle.refusal.specs.Refusal.{Told}
use Rattle.refusal.specs.declared.Refusal.TheVariants.{NotAwaited, UnexpectedType, BadEcho, BadMethod, NoRoom}
use Rattle.frame.specs.declared.Header.{Header}
use Rattle.frame.specs.Frame.{header_of, length_byte}
use Rattle.frame.proofs.Told.{Whole}
use Rattle.board.specs.declared.Node.{Node}
use Rattle.board.specs.Table.{at, listed_at}
use Rattle.routing.specs.Route.{route_of}
use Rattle.routing.proofs.Theorems.{route_suits}
use Rattle.accept.specs.declared.Heard.TheVariants.{Route}
use Rattle.accept.specs.Accept.{request_type, is_ack, ack_session}
use Rattle.nodelist.specs.List.{same_list}
use Rattle.message.specs.Message.{signed_frame, ack_code}
use Rattle.coordinator.specs.declared.Exchange.TheVariants.{Offer, List as Listing, Forward, Return}
use Rattle.coordinator.specs.declared.Phase.{Phase}
use Rattle.coordinator.specs.declared.Phase.TheVariants.{Resting, Awaiting, ForwardDue, ReturnDue, Seeking, Unknown}
use Rattle.coordinator.specs.declared.Coordinator.{Coordinator}
use Rattle.coordinator.specs.Phase.{phase_of}
use Rattle.coordinator.specs.Fit.{is_request, is_response, phase_fits, fits}
use Rattle.coordinator.specs.Change.{with_phase, keeping}
use Rattle.coordinator.proofs.Phases.{resting, forwarding, forward_due_lem, return_due_lem}
use Rattle.coordinator.proofs.Fitting.{Carried, phase_told, fits_in, awaited, awaited_forward}
use Rattle.steps.specs.After.{refused, accepted, delivers, transmits}
use Rattle.steps.specs.Hear.{hear}
use Rattle.steps.specs.Receive.{payload, hear_ack, kept_of, acking, routed, heard_in, taken_as, taken_in, receive_rules, receive_in, receive_of}
use Rattle.steps.proofs.Admitted.{admitted}
use Rattle.lasting.proofs.Keeps.{Keeps, accepted_keeps, Stays, refused_keeps, rules_keep, phase_keeps}
use Rattle.lasting.proofs.Hear.{hear_stays, hear_ack_stays}
use Rattle.lasting.proofs.Seek.{sought_keeps}
use Rattle.lasting.proofs.Heard.{offer_heard, list_heard, forward_heard, return_heard}

-- a request that is routed, and a response, are kept as fit asks
kept_request : (h : Header) (p : List ℕ) → request_type h.message ≡ true → 1 ≤ h.method → h.method ≤ 3 → length p ≤ 240 → is_request (kept_of h p) ≡ true
kept_request h p r low high few = both _ _ (both _ _ (both _ _ (both _ _ (lt-ltb 0 h.message (leb-true 1 h.message (and_left (leb 1 h.message) (leb h.message 127) r))) (lt-ltb h.message 128 (omega (arith, leb-true h.message 127 (and_right (leb 1 h.message) (leb h.message 127) r))))) (lt-ltb 0 h.method low)) (le-leb h.method 3 high)) (le-leb (length p) 240 few)

kept_response : (h : Header) (p : List ℕ) → 129 ≤ h.message → length p ≤ 240 → is_response (kept_of h p) ≡ true
kept_response h p m few = both _ _ (lt-ltb 128 h.message (omega arith)) (le-leb (length p) 240 few)

module _ (c : Coordinator) (t : List Node) (h : fits c t ≡ true) (b : ℕ) (l : listed_at t b ≡ true) where
  -- where the ACK has room: what the coordinator is then fits the table in which the board is heard
  acking_keeps : (room : ℕ) (says : Told) (after : Coordinator) → after.setup ≡ c.setup → fits after (hear t b) ≡ true → says.number ≡ 0 → Keeps c t (acking c t b room says after)
  unfolding choose
  acking_keeps room says after same fit u = go (ltb room 29)
    where
      go : (s : Bool) → Keeps c t (choose s (refused c t NoRoom) (accepted after (hear t b) says (signed_frame c.setup t b (at t b).version ack_code)))
      go true = refused_keeps c t NoRoom refl
      go false = accepted_keeps c t _ fit same u

  -- the wait ends
  ended : (u : List Node) → Stays c.setup.k t u → fits (with_phase c Resting) u ≡ true
  unfolding phase_fits
  ended u s = phase_keeps c t h u s c.kept resting refl refl

  -- a request that is routed is due to a listed board, for a listed one
  routed_fits : (f : Header) (p : List ℕ) → is_request (kept_of f p) ≡ true → (method parameter : ℕ) → (fits (routed c f p b (route_of t c.setup.k b method parameter)) (hear t b) ≡ true) × ((routed c f p b (route_of t c.setup.k b method parameter)).setup ≡ c.setup)
  unfolding choose phase_fits
  routed_fits f p r method parameter = go (ltb 0 (route_of t c.setup.k b method parameter)) refl
    where
      go : (s : Bool) → ltb 0 (route_of t c.setup.k b method parameter) ≡ s → (fits (choose s (with_phase (keeping c (kept_of f p)) (ForwardDue (route_of t c.setup.k b method parameter) b)) (with_phase c Resting)) (hear t b) ≡ true) × ((choose s (with_phase (keeping c (kept_of f p)) (ForwardDue (route_of t c.setup.k b method parameter) b)) (with_phase c Resting)).setup ≡ c.setup)
      go true e = (phase_keeps c t h (hear t b) (hear_stays c t h b l) (kept_of f p) (forward_due_lem (route_of t c.setup.k b method parameter) b) (both _ _ (route_suits t c.setup.k b method parameter (ltb-true 0 (route_of t c.setup.k b method parameter) e)).0.listed (both _ _ l r)) refl, refl)
      go false e = (ended (hear t b) (hear_stays c t h b l), refl)

-- what each wait hears
module _ (c : Coordinator) (t : List Node) (h : fits c t ≡ true) (f : Header) (p : List ℕ) (few : length p ≤ 240) (room : ℕ) where
  -- an ACK that ends its wait
  ack_ends : (b : ℕ) → listed_at t b ≡ true → fits (with_phase c Resting) (hear_ack t b (ack_session p)) ≡ true
  ack_ends b l = ended c t h b l (hear_ack t b (ack_session p)) (hear_ack_stays c t h b l (ack_session p))

  -- a frame that is acknowledged and ends its wait
  acking_ends : (b : ℕ) → listed_at t b ≡ true → (says : Told) → says.number ≡ 0 → Keeps c t (acking c t b room says (with_phase c Resting))
  acking_ends b l says u = acking_keeps c t h b l room says (with_phase c Resting) refl (ended c t h b l (hear t b) (hear_stays c t h b l)) u

  taken_offer : (b q : ℕ) (a : Bool) → listed_at t b ≡ true → Keeps c t (taken_as (heard_in Offer b a c t f p) Offer b q c t f p room)
  taken_offer b q a l =
      offer_heard (λ x. Keeps c t (taken_as x Offer b q c t f p room)) (refused_keeps c t UnexpectedType refl) f.message f.method (is_ack (at t b).mac p) (refused_keeps c t BadMethod refl)
      (accepted_keeps c t _ (ack_ends b l) refl refl)
      (acking_ends b l delivers refl)
      (λ r low high. route (routed_fits c t h b l f p (kept_request f p r low high few) f.method f.parameter1))
    where
      route : (fits (routed c f p b (route_of t c.setup.k b f.method f.parameter1)) (hear t b) ≡ true) × ((routed c f p b (route_of t c.setup.k b f.method f.parameter1)).setup ≡ c.setup) → Keeps c t (taken_as (Ok Route) Offer b q c t f p room)
      route (fit, same) = acking_keeps c t h b l room transmits (routed c f p b (route_of t c.setup.k b f.method f.parameter1)) same fit refl

  taken_list : (b q : ℕ) (a : Bool) → listed_at t b ≡ true → Keeps c t (taken_as (heard_in Listing b a c t f p) Listing b q c t f p room)
  taken_list b q a l = list_heard (λ x. Keeps c t (taken_as x Listing b q c t f p room)) (refused_keeps c t UnexpectedType refl) f.message (same_list (at t b).version c.setup.internal t p) (refused_keeps c t BadEcho refl) (acking_ends b l transmits refl)

  taken_forward : (b q : ℕ) (a : Bool) → phase_of c.stand ≡ Awaiting b Forward q a → Keeps c t (taken_as (heard_in Forward b a c t f p) Forward b q c t f p room)
  unfolding phase_fits
  taken_forward b q a e =
      forward_heard (λ x. Keeps c t (taken_as x Forward b q c t f p room)) (refused_keeps c t UnexpectedType refl) f.message c.kept.message (is_ack (at t b).mac p) a
      (λ first. accepted_keeps c t _ (phase_keeps c t h _ (hear_ack_stays c t h b l (ack_session p)) c.kept (forwarding b q true) (both _ _ l (both _ _ carried.requester.listed carried.request)) refl) refl refl)
      (λ type. acking_keeps c t h b l room transmits (with_phase (keeping c (kept_of f p)) (ReturnDue q)) refl (phase_keeps c t h _ (hear_stays c t h b l) (kept_of f p) (return_due_lem q) (both _ _ carried.requester.listed (kept_response f p (omega (arith, (phase_told t c.kept (Awaiting b Forward q a) (fits_in c t h e)).1.message.from)) few)) refl) refl)
    where
      carried : Carried c t b q
      carried = awaited_forward c t h e

      l : listed_at t b ≡ true
      l = carried.board.listed

  taken_return : (b q : ℕ) (a : Bool) → listed_at t b ≡ true → Keeps c t (taken_as (heard_in Return b a c t f p) Return b q c t f p room)
  taken_return b q a l = return_heard (λ x. Keeps c t (taken_as x Return b q c t f p room)) (refused_keeps c t UnexpectedType refl) f.message (is_ack (at t b).mac p) (accepted_keeps c t _ (ack_ends b l) refl refl)

  taken_keeps : (ph : Phase) → phase_of c.stand ≡ ph → Keeps c t (taken_in ph c t f p room)
  taken_keeps Resting e = refused_keeps c t NotAwaited refl
  taken_keeps (Awaiting b Offer q a) e = taken_offer b q a (awaited c t h e).listed
  taken_keeps (Awaiting b Listing q a) e = taken_list b q a (awaited c t h e).listed
  taken_keeps (Awaiting b Forward q a) e = taken_forward b q a e
  taken_keeps (Awaiting b Return q a) e = taken_return b q a (awaited c t h e).listed
  taken_keeps (ForwardDue b q) e = refused_keeps c t NotAwaited refl
  taken_keeps (ReturnDue b) e = refused_keeps c t NotAwaited refl
  taken_keeps (Seeking position part) e = sought_keeps c t h position f p room part e
  taken_keeps Unknown e = refused_keeps c t NotAwaited refl

-- the payload of what passed the reader is short enough to keep
few_bytes : (b : List ℕ) → Whole b → length (payload b) ≤ 240
few_bytes b w = omega (arith, length-take (length_byte b) (drop 10 b), w.small)

pub receive_keeps : (c : Coordinator) (t : List Node) (b : List ℕ) (room : ℕ) → Keeps c t (receive_of c t b room)
unfolding receive_in
receive_keeps c t b room = rules_keep c t (drop 1 (receive_rules (phase_of c.stand) c t b)) refl (taken_in (phase_of c.stand) c t (header_of b) (payload b) room) (λ h passed. taken_keeps c t h (header_of b) (payload b) (few_bytes b (admitted (phase_of c.stand) c t b (not_no _ h, passed)).read.bytes) room (phase_of c.stand) refl)
