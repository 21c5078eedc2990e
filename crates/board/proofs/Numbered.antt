-- Counting every index anew: what becomes of each record, and that stored is counted then.
use Prim.Native.Nat.{ℕ, ◌+◌, ◌≤◌, ◌<◌, min}
use native.Mathlib.Omega.{arith}
use mathlib.Core.Path.{◌≡◌, refl, sym, ap, ◌∙◌}
use mathlib.Core.Logic.{◌⊎◌, inl, inr}
use mathlib.Core.Bool.{Bool, true}
use mathlib.Core.List.{List}
use lib.ListN.{length, length-map}
use lib.Seq.{ext_get_or}
use Rattle.ground.proofs.Runs.{run_length}
use Rattle.board.specs.declared.Node.{Node}
use Rattle.board.specs.declared.Wanted.TheVariants.{Listed}
use Rattle.board.specs.Node.{none}
use Rattle.board.specs.Table.{at, put, listed_at}
use Rattle.board.specs.Wanted.{index_of, count_of}
use Rattle.board.specs.Index.{indexed, numbered, Numbered}
use Rattle.board.specs.Change.{owe, owe_all, relisted}
use Rattle.board.proofs.Positions.{Outside, at_made, at_next, at_alike, at_outside, position_case}
use Rattle.board.proofs.Index.{index_nobody, index_within}
use Rattle.board.proofs.SameKinds.{SameKinds, kinds_index, kinds_listed}
use Rattle.board.proofs.Changes.{SameBoard, put_alike, at_owe_all, owe_all_length, owe_all_keeps, owe_all_owed}
use Rattle.board.proofs.Counts.{count_listed}

pub numbered_length : (t : List Node) → length (numbered t) ≡ length t
unfolding numbered
numbered_length t = rw (length-map, run_length) refl

-- every record has the index that is counted, and is else as it was
pub at_numbered : (t : List Node) (p : ℕ) → at (numbered t) p ≡ indexed (at t p) (index_of t p)
unfolding numbered
at_numbered t p = go (position_case (length t) p)
  where
    go : Outside (length t) p ⊎ ((0 < p) × (p ≤ length t)) → at (numbered t) p ≡ indexed (at t p) (index_of t p)
    go (inl o) =
        let nobody = at_outside t p (length t) refl o in
        at_outside (numbered t) p (length t) (numbered_length t) o ∙ rw (nobody, ← index_nobody t p (ap (λ (n : Node). n.kind) nobody)) refl
    go (inr (h, l)) = at_made (λ q. indexed (at t q) (index_of t q)) (length t) p h l

-- the types are as they were
pub numbered_kinds : (t : List Node) → SameKinds (numbered t) t
numbered_kinds t = record { kind = λ p. ap (λ (n : Node). n.kind) (at_numbered t p) }

-- stored is counted then, for every position
pub numbered_stored : (t : List Node) → length t ≡ 40 → Numbered (numbered t)
numbered_stored t forty p = ap (λ (n : Node). n.index) (at_numbered t p) ∙ (let e : min (index_of t p) 255 ≡ index_of t p = omega (arith, index_within t p forty) in e) ∙ sym (kinds_index (numbered_kinds t) p)

-- and where stored is counted, counting anew changes nothing
pub numbered_again : (t : List Node) → length t ≡ 40 → Numbered t → numbered t ≡ t
numbered_again t forty h = ext_get_or none (numbered t) t (numbered_length t) (λ i l. sym (at_next (numbered t) i) ∙ at_numbered t (i + 1) ∙ as_stored (at t (i + 1)) (index_of t (i + 1)) (h (i + 1)) (index_within t (i + 1) forty) ∙ at_next t i)
  where
    as_stored : (n : Node) (x : ℕ) → n.index ≡ x → x ≤ 40 → indexed n x ≡ n
    as_stored n x e l = ap (λ (y : ℕ). record { kind = n.kind; mac = n.mac; session = n.session; misses = n.misses; owed = n.owed; index = y; version = n.version }) (let z : min x 255 ≡ n.index = omega (arith, e, l) in z)

-- stored stays counted where types and indexes stay
pub same_numbered : (t u : List Node) → SameKinds u t → ((p : ℕ) → (at u p).index ≡ (at t p).index) → Numbered t → Numbered u
same_numbered t u same kept h p = kept p ∙ h p ∙ sym (kinds_index same p)

-- so it does where a record is put over one of the same type and index
pub put_numbered : (t : List Node) (p : ℕ) (n : Node) → n.kind ≡ (at t p).kind → n.index ≡ (at t p).index → Numbered t → Numbered (put t p n)
put_numbered t p n kind index = same_numbered t (put t p n) (record { kind = at_alike (λ m. m.kind) (put t p n) t (put_alike (λ m. m.kind) t p n kind) }) (at_alike (λ m. m.index) (put t p n) t (put_alike (λ m. m.index) t p n index))

pub owe_all_numbered : (t : List Node) → Numbered t → Numbered (owe_all t)
owe_all_numbered t = same_numbered t (owe_all t) (record { kind = λ p. (owe_all_keeps t p).kind }) (λ p. ap (λ (n : Node). n.index) (at_owe_all t p))

-- who is listed, or as what, is another: each record is its board's, its index is the counted one, and the list is owed to it
pub at_relisted : (t : List Node) (p : ℕ) → at (relisted t) p ≡ owe (indexed (at t p) (index_of t p))
unfolding relisted
at_relisted t p = at_owe_all (numbered t) p ∙ ap owe (at_numbered t p)

pub relisted_length : (t : List Node) → length (relisted t) ≡ length t
unfolding relisted
relisted_length t = owe_all_length (numbered t) ∙ numbered_length t

pub relisted_keeps : (t : List Node) (p : ℕ) → SameBoard (at (relisted t) p) (at t p)
relisted_keeps t p = rw (at_relisted t p) (record { kind = refl; mac = refl; session = refl; misses = refl; version = refl })

pub relisted_kinds : (t : List Node) → SameKinds (relisted t) t
relisted_kinds t = record { kind = λ p. (relisted_keeps t p).kind }

pub relisted_listed : (t : List Node) (p : ℕ) → listed_at (relisted t) p ≡ listed_at t p
relisted_listed t p = ap (λ (f : ℕ → Bool). f p) (kinds_listed (relisted_kinds t))

pub relisted_owed : (t : List Node) (p : ℕ) → listed_at t p ≡ true → (at (relisted t) p).owed ≡ 1
unfolding relisted
relisted_owed t p h = owe_all_owed (numbered t) p (ap (λ (f : ℕ → Bool). f p) (kinds_listed (numbered_kinds t)) ∙ h)

pub relisted_stored : (t : List Node) → length t ≡ 40 → Numbered (relisted t)
unfolding relisted
relisted_stored t forty = owe_all_numbered (numbered t) (numbered_stored t forty)

pub count_relisted : (t : List Node) → count_of Listed (relisted t) ≡ count_of Listed t
count_relisted t = count_listed (relisted t) t (relisted_listed t)

-- where stored is counted, the list is owed to all and nothing else changes
pub relisted_again : (t : List Node) → length t ≡ 40 → Numbered t → relisted t ≡ owe_all t
unfolding relisted
relisted_again t forty h = ap owe_all (numbered_again t forty h)
