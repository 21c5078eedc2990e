-- What C is told: the packed answer's eight bytes are its parts, what stands where it was lent is what the step leaves, and a number that names no event changes nothing.
use Prim.Native.Nat.{ℕ, zero, suc, ◌<◌, ◌/◌, ◌%◌}
use native.Mathlib.Nat.{mod-lt, mod-eq_of_lt}
use native.Mathlib.Omega.{arith}
use mathlib.Core.Path.{◌≡◌, refl, sym, ap, ◌∙◌}
use mathlib.Core.Bool.{Bool, true, false}
use mathlib.Core.List.{List, [], ◌∷◌, ◌++◌}
use lib.ListN.{get_or, length}
use borrow.Author.Tests.{ne_eqb}
use Rattle.ground.specs.Choose.{choose}
use Rattle.ground.specs.Bytes.{laid}
use Rattle.ground.proofs.Choices.{choose_no}
use Rattle.refusal.specs.Refusal.{Told, number_of}
use Rattle.refusal.specs.declared.Refusal.{Refusal}
use Rattle.refusal.specs.declared.Refusal.TheVariants.{BadType, StateUnfit}
use Rattle.refusal.proofs.Numbers.{number_byte}
use Rattle.word.specs.Words.{bytes_of}
use Rattle.word.proofs.Words.{Bytes, bytes_of_value}
use Rattle.board.specs.declared.Node.{Node}
use Rattle.coordinator.specs.declared.Coordinator.{Coordinator}
use Rattle.coordinator.specs.declared.Exchange.{Exchange}
use Rattle.coordinator.specs.declared.Exchange.TheVariants.{Offer, List as Listing, Forward, Return}
use Rattle.coordinator.specs.Fit.{fits}
use Rattle.steps.specs.declared.Seek.{Seek as Seeks}
use Rattle.steps.specs.declared.Seek.TheVariants.{Search, Identify, Assign}
use Rattle.steps.specs.declared.Answer.{Answer}
use Rattle.steps.specs.declared.Answer.TheVariants.{Wait, Seek, Deliver, Transmit, Rest, Refuse}
use Rattle.steps.specs.declared.Event.{Event}
use Rattle.steps.specs.declared.Event.TheVariants.{Join}
use Rattle.steps.specs.declared.Outcome.{Outcome}
use Rattle.steps.specs.After.{After, Shown, shows, refused, told, exchange_number, seek_number}
use Rattle.steps.specs.Join.{join_of}
use Rattle.steps.specs.Step.{step_of}
use Rattle.lent.specs.Lent.{in_place}
use Rattle.lent.specs.Numbers.{event_of, saying, parts, packed, facing, faced}

-- what stands where it was lent, with the outcome packed, is the step's own, packed
pub faced_as : (r : Outcome) (c : Coordinator) (zs : List Node) (n : ℕ) (a : After) → in_place r c zs ≡ shows a → n ≡ packed (told r.answer) r.written r.joined r.dropped → facing n c zs ≡ faced a
faced_as r c zs n a e h = ap (λ (m : ℕ). facing m c zs) h ∙ ap (λ (s : Shown). facing (packed s.says s.written s.joined s.dropped) s.coordinator s.nodes) e

-- the same of a step on an event that C named, with the output beside it
pub step_faced : (r : Outcome) (c k : Coordinator) (ys zs : List Node) (e f : Event) (b os us : List ℕ) (n : ℕ) → e ≡ f → (in_place r k zs ≡ shows (step_of c ys e b (length os))) × (us ≡ laid (step_of c ys e b (length os)).bytes os) → n ≡ packed (told r.answer) r.written r.joined r.dropped → (facing n k zs ≡ faced (step_of c ys f b (length os))) × (us ≡ laid (step_of c ys f b (length os)).bytes os)
step_faced r c k ys zs e f b os us n ef h p = (
  faced_as r k zs n (step_of c ys f b (length os)) (h.0 ∙ ap (λ (v : Event). shows (step_of c ys v b (length os))) ef) p,
  h.1 ∙ ap (λ (v : Event). laid (step_of c ys v b (length os)).bytes os) ef,
)

-- the number of an exchange and that of a wait in the exchange by which a board joins are bytes

exchange_byte : (e : Exchange) → exchange_number e < 256
exchange_byte Offer = omega arith
exchange_byte Listing = omega arith
exchange_byte Forward = omega arith
exchange_byte Return = omega arith

seek_byte : (s : Seeks) → seek_number s < 256
seek_byte Search = omega arith
seek_byte Identify = omega arith
seek_byte Assign = omega arith

low_byte : (n : ℕ) → n % 256 < 256
low_byte n = mod-lt n (omega arith)

no_bytes : Bytes []
no_bytes i = omega arith

-- four bytes before others
four : (a b c d : ℕ) (bs : List ℕ) → a < 256 → b < 256 → c < 256 → d < 256 → Bytes bs → Bytes (a ∷ b ∷ c ∷ d ∷ bs)
four a b c d bs ha hb hc hd h zero = ha
four a b c d bs ha hb hc hd h (suc zero) = hb
four a b c d bs ha hb hc hd h (suc (suc zero)) = hc
four a b c d bs ha hb hc hd h (suc (suc (suc zero))) = hd
four a b c d bs ha hb hc hd h (suc (suc (suc (suc i)))) = h i

-- what an answer says is four bytes, before any others
saying_bytes : (a : Answer) (bs : List ℕ) → Bytes bs → Bytes (saying (told a) ++ bs)
saying_bytes (Wait board exchange) bs h = four 0 1 (board % 256) (exchange_number exchange) bs (omega arith) (omega arith) (low_byte board) (exchange_byte exchange) h
saying_bytes (Seek position seek) bs h = four 0 1 (position % 256) (seek_number seek) bs (omega arith) (omega arith) (low_byte position) (seek_byte seek) h
saying_bytes Deliver bs h = four 0 2 0 0 bs (omega arith) (omega arith) (omega arith) (omega arith) h
saying_bytes Transmit bs h = four 0 3 0 0 bs (omega arith) (omega arith) (omega arith) (omega arith) h
saying_bytes Rest bs h = four 0 4 0 0 bs (omega arith) (omega arith) (omega arith) (omega arith) h
saying_bytes (Refuse r) bs h = four (number_of r) 0 0 0 bs (number_byte r) (omega arith) (omega arith) (omega arith) h

-- the packed answer's eight bytes are the parts
pub parts_back : (a : Answer) (written joined dropped : ℕ) → bytes_of 8 (packed (told a) written joined dropped) ≡ parts (told a) written joined dropped
parts_back a written joined dropped = bytes_of_value (parts (told a) written joined dropped) (saying_bytes a (joined % 256 ∷ dropped % 256 ∷ written % 256 ∷ written / 256 % 256 ∷ []) (four _ _ _ _ [] (low_byte joined) (low_byte dropped) (low_byte written) (low_byte (written / 256)) no_bytes))

-- and those that are small enough stand there whole: positions below 256, a count below 65536
pub whole_parts : (says : Told) (written joined dropped : ℕ) → get_or says.values 1 0 < 256 → written < 65536 → joined < 256 → dropped < 256 → parts says written joined dropped ≡ says.number ∷ get_or says.values 0 0 ∷ get_or says.values 1 0 ∷ get_or says.values 2 0 ∷ joined ∷ dropped ∷ written % 256 ∷ written / 256 ∷ []
whole_parts says written joined dropped hb hw hj hd =
    λ i. says.number ∷ get_or says.values 0 0 ∷ mod-eq_of_lt hb i ∷ get_or says.values 2 0 ∷ mod-eq_of_lt hj i ∷ mod-eq_of_lt hd i ∷ written % 256 ∷ mod-eq_of_lt high i ∷ []
  where
    high : written / 256 < 256
    high = omega (arith, hw)

-- a number that names no event is a join of type 0
unknown_event : (number kind mac session version : ℕ) → (number ≡ 1 → ⊥) → (number ≡ 2 → ⊥) → (number ≡ 3 → ⊥) → (number ≡ 4 → ⊥) → (number ≡ 5 → ⊥) → event_of number kind mac session version ≡ Join 0 mac session version
unknown_event number kind mac session version a b c d e = sym (choose_no _ _ _ _ (ne_eqb number 1 a) (choose_no _ _ _ _ (ne_eqb number 2 b) (choose_no _ _ _ _ (ne_eqb number 3 c) (choose_no _ _ _ _ (ne_eqb number 4 d) (choose_no _ _ _ _ (ne_eqb number 5 e) refl)))))

-- which is refused, with 22 or with 12
kindless_refused : (c : Coordinator) (t : List Node) (mac session version : ℕ) → (r : Refusal) × (join_of c t 0 mac session version ≡ refused c t r)
unfolding join_of choose
kindless_refused c t mac session version = go (fits c t) refl
  where
    go : (b : Bool) → fits c t ≡ b → (r : Refusal) × (join_of c t 0 mac session version ≡ refused c t r)
    go true h = (BadType, rw h refl)
    go false h = (StateUnfit, rw h refl)

-- an event number that is none of 1 to 5 is refused, and so changes nothing
pub unknown_refused : (c : Coordinator) (t : List Node) (number kind mac session version : ℕ) (b : List ℕ) (room : ℕ) → (number ≡ 1 → ⊥) → (number ≡ 2 → ⊥) → (number ≡ 3 → ⊥) → (number ≡ 4 → ⊥) → (number ≡ 5 → ⊥) → (r : Refusal) × (step_of c t (event_of number kind mac session version) b room ≡ refused c t r)
unknown_refused c t number kind mac session version b room n1 n2 n3 n4 n5 = (kindless.0, ap (λ e. step_of c t e b room) (unknown_event number kind mac session version n1 n2 n3 n4 n5) ∙ kindless.1)
  where
    kindless : (r : Refusal) × (join_of c t 0 mac session version ≡ refused c t r)
    kindless = kindless_refused c t mac session version
