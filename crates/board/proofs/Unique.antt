-- The contracts, as they stand in the source, leave one result for each input.
use mathlib.Core.Path.{◌≡◌, sym, ◌∙◌}
use mathlib.Core.Bool.{Bool}
use mathlib.Core.List.{List}
use base.Fml.{Lft}
use denote.Ref.{MutBor}
use Prim.Native.Nat.{ℕ}
use Rattle.board.specs.declared.Node.{Node}
use Rattle.board.proofs.blank_node.Reads as blank-node
use Rattle.board.proofs.joined_node.Reads as joined-node
use Rattle.board.proofs.version_of.Reads as version_of
use Rattle.board.proofs.with_byte.Reads as with_byte
use Rattle.board.proofs.is_kind.Reads as is-kind
use Rattle.board.proofs.is_version.Reads as is-version
use Rattle.board.proofs.mark.Reads as mark
use Rattle.board.proofs.has_old.Reads as has-old
use Rattle.board.proofs.too_many_with.Reads as too-many-with
use Rattle.board.proofs.owe.Reads as owe
use Rattle.board.proofs.unmarked.Reads as unmarked
use Rattle.board.proofs.heard.Reads as heard
use Rattle.board.proofs.missed.Reads as missed
use Rattle.board.proofs.renewed.Reads as renewed
use Rattle.board.proofs.lowest.Reads as lowest
use Rattle.board.proofs.listed_at.Reads as listed_at
use Rattle.board.proofs.indexed.Reads as indexed
use Rattle.board.proofs.counted.Reads as counted
use Rattle.board.proofs.lowest_mac.Reads as lowest-mac
use Rattle.board.proofs.mac_at.Reads as mac-at
use Rattle.board.proofs.byte_at.Reads as byte_at
use Rattle.board.proofs.next_listed.Reads as next_listed_lem
use Rattle.board.proofs.index_of.Reads as index_of

pub unique_blank_node : (a s t : _) (r q : Node) → blank-node.Post tt a r s → blank-node.Post tt a q t → r ≡ q
unique_blank_node a s t r q p p' = p ∙ sym p'

pub unique_joined_node : (a s t : _) (r q : Node) → joined-node.Post tt a r s → joined-node.Post tt a q t → r ≡ q
unique_joined_node a s t r q p p' = p ∙ sym p'

pub unique_version_of : (a s t : _) (r q : ℕ) → version_of.Post tt a r s → version_of.Post tt a q t → r ≡ q
unique_version_of a s t r q p p' = p ∙ sym p'

pub unique_owe : (a s t : _) (r q : Node) → owe.Post tt a r s → owe.Post tt a q t → r ≡ q
unique_owe a s t r q p p' = p ∙ sym p'

pub unique_unmarked : (a s t : _) (r q : Node) → unmarked.Post tt a r s → unmarked.Post tt a q t → r ≡ q
unique_unmarked a s t r q p p' = p ∙ sym p'

pub unique_heard : (a s t : _) (r q : Node) → heard.Post tt a r s → heard.Post tt a q t → r ≡ q
unique_heard a s t r q p p' = p ∙ sym p'

pub unique_missed : (a s t : _) (r q : Node) → missed.Post tt a r s → missed.Post tt a q t → r ≡ q
unique_missed a s t r q p p' = p ∙ sym p'

pub unique_renewed : (a s t : _) (r q : Node) → renewed.Post tt a r s → renewed.Post tt a q t → r ≡ q
unique_renewed a s t r q p p' = p ∙ sym p'

pub unique_lowest : (κs a s t : _) (r q : ℕ) → lowest.Post κs a r s → lowest.Post κs a q t → r ≡ q
unique_lowest κs a s t r q p p' = p ∙ sym p'

pub unique_listed_at : (κs a s t : _) (r q : Bool) → listed_at.Post κs a r s → listed_at.Post κs a q t → r ≡ q
unique_listed_at κs a s t r q p p' = p ∙ sym p'

pub unique_indexed : (a s t : _) (r q : Node) → indexed.Post tt a r s → indexed.Post tt a q t → r ≡ q
unique_indexed a s t r q p p' = p ∙ sym p'

pub unique_counted : (a s t : _) (r q : ℕ) → counted.Post tt a r s → counted.Post tt a q t → r ≡ q
unique_counted a s t r q p p' = p ∙ sym p'

pub unique_byte_at : (κs a s t : _) (r q : ℕ) → byte_at.Post κs a r s → byte_at.Post κs a q t → r ≡ q
unique_byte_at κs a s t r q p p' = p ∙ sym p'

pub unique_with_byte : (κs a s t : _) (r q : List ℕ) → with_byte.Post κs a r s → with_byte.Post κs a q t → r ≡ q
unique_with_byte κs a s t r q p p' = p ∙ sym p'

pub unique_is_kind : (a s t : _) (r q : Bool) → is-kind.Post tt a r s → is-kind.Post tt a q t → r ≡ q
unique_is_kind a s t r q p p' = p ∙ sym p'

pub unique_is_version : (a s t : _) (r q : Bool) → is-version.Post tt a r s → is-version.Post tt a q t → r ≡ q
unique_is_version a s t r q p p' = p ∙ sym p'

pub unique_mark : (κs : _) (a s t : MutBor (List ℕ) × (ℕ × Unit {0})) (r q : Bool) → mark.Post κs a r s → mark.Post κs a q t → (r ≡ q) × (s.0.now ≡ t.0.now)
unique_mark κs a s t r q p p' = (p.0 ∙ sym p'.0, p.1 ∙ sym p'.1)

pub unique_has_old : (κs a s t : _) (r q : Bool) → has-old.Post κs a r s → has-old.Post κs a q t → r ≡ q
unique_has_old κs a s t r q p p' = p ∙ sym p'

pub unique_too_many_with : (κs : Lft × Unit {0}) (a s t : _) (r q : Bool) → too-many-with.Post κs a r s → too-many-with.Post κs a q t → r ≡ q
unique_too_many_with κs a s t r q p p' = p ∙ sym p'

pub unique_lowest_mac : (κs a s t : _) (r q : ℕ) → lowest-mac.Post κs a r s → lowest-mac.Post κs a q t → r ≡ q
unique_lowest_mac κs a s t r q p p' = p ∙ sym p'

pub unique_mac_at : (κs a s t : _) (r q : ℕ) → mac-at.Post κs a r s → mac-at.Post κs a q t → r ≡ q
unique_mac_at κs a s t r q p p' = p ∙ sym p'

pub unique_next_listed : (κs a s t : _) (r q : ℕ) → next_listed_lem.Post κs a r s → next_listed_lem.Post κs a q t → r ≡ q
unique_next_listed κs a s t r q p p' = p ∙ sym p'

pub unique_index_of : (κs a s t : _) (r q : ℕ) → index_of.Post κs a r s → index_of.Post κs a q t → r ≡ q
unique_index_of κs a s t r q p p' = p ∙ sym p'
