-- When each number is given: by the reader the frame's own first, then 31 and 30; by the writer 31, then 10, then 11 (02, C-21).
use Prim.Native.Nat.{ℕ, ◌+◌, ◌*◌, ◌≤◌, ◌<◌}
use native.Mathlib.Omega.{arith}
use mathlib.Core.Path.{◌≡◌, refl, sym, ap, ◌∙◌}
use mathlib.Core.Logic.{◌↔◌, ◌⊎◌, inl, inr}
use mathlib.Core.Bool.{Bool, true, false, false≢true}
use mathlib.Core.List.{List, [], ◌∷◌}
use lib.ListN.{length}
use lib.Dec.{eqb, ltb}
use borrow.Author.Tests.{lt-ltb, le-ltb, ltb-true, ltb-false, eqb-true, eq-eqb}
use Rattle.refusal.specs.Refusal.{number_of, refuses, gives, ruled}
use Rattle.refusal.specs.declared.Refusal.{Refusal}
use Rattle.refusal.specs.declared.Refusal.TheVariants.{PayloadTooLong, NoRoom, BadInner, TooDeep}
use Rattle.refusal.proofs.Numbers.{same_refused, gives_not}
use Rattle.refusal.proofs.Rules.{Passed, whether, passed, stopped, said, ruled_through, Unsaid, refused_not, refused_first, refused_later}
use Rattle.frame.specs.declared.Header.{Header}
use Rattle.frame.specs.Frame.{read_rules, reading, write_rules, writing}
use Rattle.encapsulation.specs.declared.Level.{Level}
use Rattle.encapsulation.specs.Message.{encapsulation, most}
use Rattle.encapsulation.specs.Unwrap.{plain, refused, opened, message_of, unwrapping}
use Rattle.encapsulation.specs.Wrap.{sent, outermost, depth_rules, wrapping}
use Rattle.encapsulation.specs.Answer.{told_opened}
use Rattle.encapsulation.proofs.Answers.{same_opened, plain_not}
use Rattle.encapsulation.proofs.Exactly.{Holding, Broken, too_deep_exactly, bad_inner_exactly, only_these}
use Rattle.encapsulation.proofs.Received.{unread_opened}
use Rattle.encapsulation.proofs.Writing.{outermost_length, says_as_frame}

module _ (ours : ℕ) (b : List ℕ) where
  -- no rule of the frame reader says a number above 24
  unsaid : (q : Refusal) → 24 < number_of q → Unsaid (read_rules ours b) q
  unsaid q h = ((λ e. omega (arith, ap number_of e)), ((λ e. omega (arith, ap number_of e)), ((λ e. omega (arith, ap number_of e)), ((λ e. omega (arith, ap number_of e)), ((λ e. omega (arith, ap number_of e)), tt)))))

  -- such a one is given exactly where the bytes read well and it is given for their message
  beyond_frame : (q : Refusal) → 24 < number_of q → (P : Type 0) → (opened most (message_of b) ≡ refused q) ↔ P → (unwrapping ours b ≡ refused q) ↔ (Passed (read_rules ours b) × P)
  unfolding unwrapping
  beyond_frame q above P exactly = (only (whether (read_rules ours b)), λ h. passed (read_rules ours b) refused _ h.0 ∙ exactly.1 h.1)
    where
      only : Dec (Passed (read_rules ours b)) → unwrapping ours b ≡ refused q → Passed (read_rules ours b) × P
      only (yes ok) e = (ok, exactly.0 (sym (passed (read_rules ours b) refused _ ok) ∙ e))
      only (no bad) e = absurd (refused_not refused (plain [] (message_of b)) same_opened (plain_not [] (message_of b)) (read_rules ours b) q (unsaid q above) (sym (stopped (read_rules ours b) [] refused (opened most (message_of b)) (plain [] (message_of b)) bad) ∙ e))

  -- 31 is given exactly where the bytes read well and an encapsulation lies in four levels
  pub unwrap_too_deep_exactly : (unwrapping ours b ≡ refused TooDeep) ↔ (Passed (read_rules ours b) × Holding (message_of b) (λ ls inner. length ls ≡ most))
  unwrap_too_deep_exactly = beyond_frame TooDeep (omega arith) _ (too_deep_exactly most (message_of b))

  -- 30 exactly where they do and a broken one lies in fewer
  pub unwrap_bad_inner_exactly : (unwrapping ours b ≡ refused BadInner) ↔ (Passed (read_rules ours b) × Holding (message_of b) (λ ls inner. (length ls < most) × Broken inner))
  unwrap_bad_inner_exactly = beyond_frame BadInner (omega arith) _ (bad_inner_exactly most (message_of b))

  -- and any other number exactly where the frame reader gives it
  pub frame_exactly : (q : Refusal) → (q ≡ TooDeep → ⊥) → (q ≡ BadInner → ⊥) → (unwrapping ours b ≡ refused q) ↔ (reading ours b ≡ refuses q)
  unfolding unwrapping reading
  frame_exactly q shallow whole = (only (whether (read_rules ours b)), unread_opened ours b q)
    where
      neither : (q ≡ TooDeep) ⊎ (q ≡ BadInner) → ⊥
      neither (inl e) = shallow e
      neither (inr e) = whole e

      only : Dec (Passed (read_rules ours b)) → unwrapping ours b ≡ refused q → reading ours b ≡ refuses q
      only (yes ok) e = absurd (neither (only_these most (message_of b) q (sym (passed (read_rules ours b) refused _ ok) ∙ e)))
      only (no bad) e = stopped (read_rules ours b) [] refuses _ (told_opened (opened most (message_of b))) bad ∙ sym (ruled_through told_opened (read_rules ours b) refused (opened most (message_of b))) ∙ ap told_opened e

module _ (h : Header) (levels : List Level) (depth : ℕ) (p : List ℕ) (room : ℕ) where
  -- the rules by which a frame is too deep
  abbrev rules : List (Bool × Refusal)
  rules = depth_rules depth (sent h p)

  -- how long the outermost payload is
  abbrev long : ℕ
  long = length (outermost h levels depth p).payload

  -- what is said of it where it can be written
  counted : List ℕ
  counted = (12 + long) ∷ []

  deep : (Passed rules → ⊥) → wrapping h levels depth p room ≡ refuses TooDeep
  unfolding wrapping
  deep bad = said (depth_rules depth (sent h p)) TooDeep refuses _ (refl, (refl, tt)) bad

  -- any other number is given exactly where it is not, and the frame writer gives it for the outermost message
  beyond_depth : (q : Refusal) → (TooDeep ≡ q → ⊥) → (P : Type 0) → (Passed rules → (writing (outermost h levels depth p).payload room ≡ refuses q) ↔ P) → (wrapping h levels depth p room ≡ refuses q) ↔ (Passed rules × P)
  beyond_depth q other P exactly = (only (whether rules), λ a. says_as_frame h levels depth p room a.0 ∙ (exactly a.0).1 a.1)
    where
      only : Dec (Passed rules) → wrapping h levels depth p room ≡ refuses q → Passed rules × P
      only (yes ok) e = (ok, (exactly ok).0 (sym (says_as_frame h levels depth p room ok) ∙ e))
      only (no bad) e = absurd (other (same_refused TooDeep q (sym (deep bad) ∙ e)))

  -- 31 is given to a writer exactly at more than four levels, or where the message inside is an encapsulation, whatever payload and room
  pub wrap_too_deep_exactly : (wrapping h levels depth p room ≡ refuses TooDeep) ↔ ((most < depth) ⊎ (h.message ≡ encapsulation))
  unfolding writing counted
  wrap_too_deep_exactly = (only (ltb most depth) refl (eqb h.message encapsulation) refl, λ d. deep (λ ok. given ok d))
    where
      given : Passed rules → (most < depth) ⊎ (h.message ≡ encapsulation) → ⊥
      given ok (inl l) = omega (arith, ltb-false most depth ok.0, l)
      given ok (inr e) = false≢true (sym ok.1.0 ∙ eq-eqb h.message encapsulation e)

      only : (c : Bool) → ltb most depth ≡ c → (d : Bool) → eqb h.message encapsulation ≡ d → wrapping h levels depth p room ≡ refuses TooDeep → (most < depth) ⊎ (h.message ≡ encapsulation)
      only true l d m e = inl (ltb-true most depth l)
      only false l true m e = inr (eqb-true h.message encapsulation m)
      only false l false m e = absurd (refused_not refuses (gives counted) same_refused (gives_not _) (write_rules (outermost h levels depth p).payload room) TooDeep ((λ z. omega (arith, ap number_of z)), ((λ z. omega (arith, ap number_of z)), tt)) (sym (says_as_frame h levels depth p room (l, (m, tt))) ∙ e))

  module _ (four : length levels ≡ most) where
    size : Passed rules → long ≡ 7 * depth + length p
    size ok = outermost_length h levels depth p (omega (arith, ltb-false most depth ok.0, four))

    -- 10 exactly where neither holds and the outermost payload passes 240, whatever the room
    pub wrap_long_exactly : (wrapping h levels depth p room ≡ refuses PayloadTooLong) ↔ (Passed rules × (240 < 7 * depth + length p))
    unfolding writing counted
    wrap_long_exactly = beyond_depth PayloadTooLong (λ e. omega (arith, ap number_of e)) _ (λ ok. ((λ e. omega (arith, size ok, ltb-true 240 long (over.0 e))), λ l. over.1 (lt-ltb 240 long (omega (arith, size ok, l)))))
      where
        over : (writing (outermost h levels depth p).payload room ≡ refuses PayloadTooLong) ↔ (ltb 240 long ≡ true)
        over = refused_first refuses (gives counted) same_refused (gives_not counted) (ltb 240 long) PayloadTooLong ((ltb room (12 + long), NoRoom) ∷ []) ((λ e. omega (arith, ap number_of e)), tt)

    -- 11 exactly where it can be written and the room is shorter than the frame
    pub wrap_room_exactly : (wrapping h levels depth p room ≡ refuses NoRoom) ↔ (Passed rules × ((7 * depth + length p ≤ 240) × (room < 12 + 7 * depth + length p)))
    unfolding writing counted
    wrap_room_exactly = beyond_depth NoRoom (λ e. omega (arith, ap number_of e)) _ (λ ok. ((λ e. let a = narrow.0 e in (omega (arith, size ok, ltb-false 240 long a.0), omega (arith, size ok, ltb-true room (12 + long) (last.0 a.1)))), λ a. narrow.1 (le-ltb 240 long (omega (arith, size ok, a.0)), last.1 (lt-ltb room (12 + long) (omega (arith, size ok, a.1))))))
      where
        later : List (Bool × Refusal)
        later = (ltb room (12 + long), NoRoom) ∷ []

        narrow : (writing (outermost h levels depth p).payload room ≡ refuses NoRoom) ↔ ((ltb 240 long ≡ false) × (ruled later refuses (gives counted) ≡ refuses NoRoom))
        narrow = refused_later refuses (gives counted) same_refused (gives_not counted) (ltb 240 long) PayloadTooLong later NoRoom (λ e. omega (arith, ap number_of e))

        last : (ruled later refuses (gives counted) ≡ refuses NoRoom) ↔ (ltb room (12 + long) ≡ true)
        last = refused_first refuses (gives counted) same_refused (gives_not counted) (ltb room (12 + long)) NoRoom [] tt
