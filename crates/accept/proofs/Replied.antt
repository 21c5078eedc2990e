-- What each wait of the exchange takes, by which a board joins, and when it gives 7 or 8: exactly what the rule book says (02, C-11; 01, "Numbers").
use Prim.Native.Nat.{ℕ, ◌<◌, ◌^◌}
use native.Mathlib.Omega.{arith}
use mathlib.Core.Path.{◌≡◌, refl, sym, ap, ◌∙◌}
use mathlib.Core.Logic.Iff
use mathlib.Core.Logic.{◌⊎◌, inl, inr, ◌↔◌}
use mathlib.Core.Bool.{Bool, true, false, ◌&&◌, ◌||◌, not, false≢true}
use mathlib.Core.List.{List, [], ◌∷◌}
use lib.ListN.{length}
use lib.Dec.{eqb}
use Rattle.std.specs.Prelude.{Result, Ok, Err}
use borrow.Author.Tests.{eqb-true, eqb-false, eq-eqb, not-true, not-false}
use Rattle.ground.specs.Choose.{choose}
use Rattle.ground.proofs.Choices.{and_left, both, not_yes, not_no}
use Rattle.refusal.specs.Refusal.{number_of, ruled}
use Rattle.refusal.specs.declared.Refusal.{Refusal}
use Rattle.refusal.specs.declared.Refusal.TheVariants.{UnexpectedType, BadEcho}
use Rattle.refusal.proofs.Numbers.{not_zero}
use Rattle.refusal.proofs.Rules.{by_rules, accepted_exactly}
use Rattle.frame.specs.Frame.{byte}
use Rattle.word.proofs.Words.{Bytes}
use Rattle.accept.specs.declared.Reply.{Reply}
use Rattle.accept.specs.declared.Reply.TheVariants.{Discovered, Present, Identified, Assigned}
use Rattle.accept.specs.Accept.{ack_type, is_ack}
use Rattle.accept.specs.Replies.{is_discovery, is_identity, mac_after, is_any_ack, is_assignment, heard_in_search, heard_in_identify, heard_in_assign, told_reply}
use Rattle.accept.proofs.Cases.{equal_exactly, and_exactly, or_exactly, err_first, err_later}
use Rattle.accept.proofs.Assignments.{table_assignment, assignment_exactly}

-- a frame is accepted: no number is given
abbrev pub Taken : Result Reply Refusal → Type 0
Taken r = (told_reply r).number ≡ 0

-- a Node Discovery Response: type 0xF9, 18 bytes (003, Table 58)
abbrev pub Discovery : ℕ → List ℕ → Type 0
Discovery m payload = (m ≡ 249) × (length payload ≡ 18)

-- an ACK of any MAC: type 0, 17 bytes, code 6 (003, Table 49)
abbrev pub AnyAck : ℕ → List ℕ → Type 0
AnyAck m payload = (m ≡ 0) × ((length payload ≡ 17) × (byte payload 0 ≡ 6))

-- a Get Node ID Response: type 0xFB, 17 bytes (003, Table 62)
abbrev pub Identity : ℕ → List ℕ → Type 0
Identity m payload = (m ≡ 251) × (length payload ≡ 17)

-- the tests of the definitions are these
module _ (m : ℕ) (payload : List ℕ) where
  pub discovery_exactly : (is_discovery m payload ≡ true) ↔ Discovery m payload
  discovery_exactly = and_exactly _ _ (equal_exactly m 249) (equal_exactly (length payload) 18)

  pub identity_exactly : (is_identity m payload ≡ true) ↔ Identity m payload
  identity_exactly = and_exactly _ _ (equal_exactly m 251) (equal_exactly (length payload) 17)

  pub any_ack_exactly : (is_any_ack m payload ≡ true) ↔ AnyAck m payload
  unfolding is_ack
  any_ack_exactly =
      and_exactly (ack_type m) (is_ack (mac_after payload) payload) (equal_exactly m 0)
      (and_exactly (eqb (length payload) 17) (eqb (byte payload 0) 6 && own) (equal_exactly (length payload) 17) (
        (λ h. eqb-true (byte payload 0) 6 (and_left (eqb (byte payload 0) 6) own h)),
        (λ e. both (eqb (byte payload 0) 6) own (eq-eqb (byte payload 0) 6 e) (eq-eqb (mac_after payload) (mac_after payload) refl)),
      ))
    where
      own : Bool
      own = eqb (mac_after payload) (mac_after payload)

-- a test turned round fails exactly where what it tests holds, and holds exactly where that does not
fails_exactly : {b : Bool} {A : Type 0} → ((b ≡ true) ↔ A) → (not b ≡ false) ↔ A
fails_exactly {b} f = Iff.trans (not-false b, not_no b) f

holds_exactly : {b : Bool} {A : Type 0} → ((b ≡ true) ↔ A) → (not b ≡ true) ↔ (A → ⊥)
holds_exactly {b} {A} f = ((λ h x. false≢true (sym (not-true b h) ∙ f.1 x)), λ ne. go ne b refl)
  where
    go : (A → ⊥) → (c : Bool) → b ≡ c → not c ≡ true
    go ne true e = absurd (ne (f.0 e))
    go ne false e = refl

-- in identify: at most one ACK, or the ID
pub identify_exactly : (m : ℕ) (payload : List ℕ) (d : Bool) → (((is_any_ack m payload && not d) || is_identity m payload) ≡ true) ↔ ((AnyAck m payload × (d ≡ false)) ⊎ Identity m payload)
identify_exactly m payload d =
    or_exactly (is_any_ack m payload && not d) (is_identity m payload) (and_exactly (is_any_ack m payload) (not d) (any_ack_exactly m payload) (not-true d, not_yes d)) (identity_exactly m payload)

-- what holds of each case that a wait of the exchange may hear holds of what is heard
module _ {ℓ} (P : Result Reply Refusal → Type ℓ) (unexpected-type : P (Err UnexpectedType)) where
  -- in search: the discovery's response, or 7
  pub search_replied : (m : ℕ) (payload : List ℕ) → (m ≡ 249 → length payload ≡ 18 → P (Ok Discovered)) → P (heard_in_search m payload)
  unfolding heard_in_search
  search_replied m payload discovered =
      by_rules P ((not (is_discovery m payload), UnexpectedType) ∷ []) Err (Ok Discovered) ((λ _. unexpected-type), λ _. tt) (λ passed. let h : Discovery m payload = (fails_exactly (discovery_exactly m payload)).0 passed.0 in discovered h.0 h.1)

  -- in identify: an ACK where none came yet, the ID of who has the address, or 7
  pub identify_replied : (m : ℕ) (payload : List ℕ) (acked : Bool) → (acked ≡ false → m ≡ 0 → length payload ≡ 17 → byte payload 0 ≡ 6 → P (Ok Present)) → (m ≡ 251 → length payload ≡ 17 → P (Ok Identified)) → P (heard_in_identify m payload acked)
  unfolding heard_in_identify choose
  identify_replied m payload acked present identified =
      by_rules P ((not ((is_any_ack m payload && not acked) || is_identity m payload), UnexpectedType) ∷ []) Err (Ok (choose (ack_type m) Present Identified)) ((λ _. unexpected-type), λ _. tt) (λ passed. value (ack_type m) refl ((fails_exactly (identify_exactly m payload acked)).0 passed.0))
    where
      value : (x : Bool) → ack_type m ≡ x → (AnyAck m payload × (acked ≡ false)) ⊎ Identity m payload → P (Ok (choose x Present Identified))
      value true e (inl ((z, (l, c)), d)) = present d z l c
      value true e (inr (z, l)) = absurd (let n : ⊥ = omega (arith, eqb-true m 0 e) in n)
      value false e (inl ((z, _), d)) = absurd (eqb-false m 0 e z)
      value false e (inr (z, l)) = identified z l

  -- in assign: the echo, or 7 or 8
  pub assign_replied : (m : ℕ) (same : Bool) → P (Err BadEcho) → (same ≡ true → m ≡ 250 → P (Ok Assigned)) → P (heard_in_assign m same)
  unfolding heard_in_assign
  assign_replied m same bad assigned =
      by_rules P ((not (eqb m 250), UnexpectedType) ∷ (not same, BadEcho) ∷ []) Err (Ok Assigned) ((λ _. unexpected-type), λ _. ((λ _. bad), λ _. tt)) (λ passed. assigned (not-false same passed.1.0) (eqb-true m 250 (not-false (eqb m 250) passed.0)))

-- a wait with one rule: what it takes, and 7 for all else
module _ (v : Reply) (b : Bool) {A : Type 0} (f : (b ≡ true) ↔ A) where
  takes : Taken (ruled ((not b, UnexpectedType) ∷ []) Err (Ok v)) ↔ A
  takes = Iff.trans (accepted_exactly Taken Err (Ok v) refl not_zero ((not b, UnexpectedType) ∷ [])) ((λ h. (fails_exactly f).0 h.0), λ x. ((fails_exactly f).1 x, tt))

  refuses_else : (ruled ((not b, UnexpectedType) ∷ []) Err (Ok v) ≡ Err UnexpectedType) ↔ (A → ⊥)
  refuses_else = Iff.trans (err_first v (not b) UnexpectedType [] tt) (holds_exactly f)

-- in search: a Node Discovery Response is accepted, and all else gets 7
pub accepted_in_search : (m : ℕ) (payload : List ℕ) → Taken (heard_in_search m payload) ↔ Discovery m payload
unfolding heard_in_search
accepted_in_search m payload = takes Discovered (is_discovery m payload) (discovery_exactly m payload)

pub unexpected_in_search : (m : ℕ) (payload : List ℕ) → (heard_in_search m payload ≡ Err UnexpectedType) ↔ (Discovery m payload → ⊥)
unfolding heard_in_search
unexpected_in_search m payload = refuses_else Discovered (is_discovery m payload) (discovery_exactly m payload)

-- in identify: an ACK where none came yet and a Get Node ID Response are accepted, and all else gets 7
module _ (m : ℕ) (payload : List ℕ) (acked : Bool) where
  pub accepted_in_identify : Taken (heard_in_identify m payload acked) ↔ ((AnyAck m payload × (acked ≡ false)) ⊎ Identity m payload)
  unfolding heard_in_identify
  accepted_in_identify = takes _ ((is_any_ack m payload && not acked) || is_identity m payload) (identify_exactly m payload acked)

  pub unexpected_in_identify : (heard_in_identify m payload acked ≡ Err UnexpectedType) ↔ ((AnyAck m payload × (acked ≡ false)) ⊎ Identity m payload → ⊥)
  unfolding heard_in_identify
  unexpected_in_identify = refuses_else _ ((is_any_ack m payload && not acked) || is_identity m payload) (identify_exactly m payload acked)

  -- and the reply says which of the two it is
  pub present_in_identify : (heard_in_identify m payload acked ≡ Ok Present) ↔ (AnyAck m payload × (acked ≡ false))
  present_in_identify = (only, when)
    where
      only : heard_in_identify m payload acked ≡ Ok Present → AnyAck m payload × (acked ≡ false)
      only = identify_replied (λ r. r ≡ Ok Present → AnyAck m payload × (acked ≡ false)) (λ e. cc) m payload acked (λ d z l c _. ((z, (l, c)), d)) (λ _ _ e. cc)

      when : AnyAck m payload × (acked ≡ false) → heard_in_identify m payload acked ≡ Ok Present
      when h = identify_replied (λ r. Taken r → r ≡ Ok Present) (λ z. absurd (not_zero UnexpectedType z)) m payload acked (λ _ _ _ _ _. refl) (λ z _ _. absurd (let n : ⊥ = omega (arith, h.0.0) in n)) (accepted_in_identify.1 (inl h))

  pub identified_in_identify : (heard_in_identify m payload acked ≡ Ok Identified) ↔ Identity m payload
  identified_in_identify = (only, when)
    where
      only : heard_in_identify m payload acked ≡ Ok Identified → Identity m payload
      only = identify_replied (λ r. r ≡ Ok Identified → Identity m payload) (λ e. cc) m payload acked (λ _ _ _ _ e. cc) (λ z l _. (z, l))

      when : Identity m payload → heard_in_identify m payload acked ≡ Ok Identified
      when h = identify_replied (λ r. Taken r → r ≡ Ok Identified) (λ z. absurd (not_zero UnexpectedType z)) m payload acked (λ _ z _ _ _. absurd (let n : ⊥ = omega (arith, h.0) in n)) (λ _ _ _. refl) (accepted_in_identify.1 (inr h))

-- so a second ACK gets 7
pub second_ack_in_identify : (payload : List ℕ) → heard_in_identify 0 payload true ≡ Err UnexpectedType
second_ack_in_identify payload = (unexpected_in_identify 0 payload true).1 none
  where
    none : (AnyAck 0 payload × (true ≡ false)) ⊎ Identity 0 payload → ⊥
    none (inl (_, e)) = false≢true (sym e)
    none (inr (z, _)) = omega arith

-- in assign: 0xFA whose payload is that of the address, subnet, MAC and session sent is accepted, with another it gets 8, and another type gets 7
module _ (m address subnet mac session : ℕ) (payload : List ℕ) (bytes : Bytes payload) (h : mac < 256 ^ 8) (k : session < 256 ^ 8) where
  pub accepted_in_assign : Taken (heard_in_assign m (is_assignment address subnet mac session payload)) ↔ ((m ≡ 250) × (payload ≡ table_assignment address subnet mac session))
  unfolding heard_in_assign
  accepted_in_assign =
      Iff.trans (accepted_exactly Taken Err (Ok Assigned) refl not_zero ((not (eqb m 250), UnexpectedType) ∷ (not (is_assignment address subnet mac session payload), BadEcho) ∷ [])) (
        (λ p. ((fails_exactly (equal_exactly m 250)).0 p.0, (fails_exactly (assignment_exactly address subnet mac session payload bytes h k)).0 p.1.0)),
        (λ p. ((fails_exactly (equal_exactly m 250)).1 p.0, ((fails_exactly (assignment_exactly address subnet mac session payload bytes h k)).1 p.1, tt))),
      )

  pub bad_echo_in_assign : (heard_in_assign m (is_assignment address subnet mac session payload) ≡ Err BadEcho) ↔ ((m ≡ 250) × (payload ≡ table_assignment address subnet mac session → ⊥))
  unfolding heard_in_assign
  bad_echo_in_assign =
      Iff.trans (err_later Assigned (not (eqb m 250)) UnexpectedType ((not (is_assignment address subnet mac session payload), BadEcho) ∷ []) BadEcho (λ e. omega (arith, ap number_of e)))
      (Iff.and (fails_exactly (equal_exactly m 250)) (Iff.trans (err_first Assigned (not (is_assignment address subnet mac session payload)) BadEcho [] tt) (holds_exactly (assignment_exactly address subnet mac session payload bytes h k))))

pub unexpected_in_assign : (m : ℕ) (same : Bool) → (heard_in_assign m same ≡ Err UnexpectedType) ↔ (m ≡ 250 → ⊥)
unfolding heard_in_assign
unexpected_in_assign m same =
    Iff.trans (err_first Assigned (not (eqb m 250)) UnexpectedType ((not same, BadEcho) ∷ []) ((λ e. omega (arith, ap number_of e)), tt)) (holds_exactly (equal_exactly m 250))
