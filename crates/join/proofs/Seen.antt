-- What is asked of the columns is asked of the records that they are of, where coordinator and records are fit.
use Prim.Native.Nat.{ℕ}
use mathlib.Core.Path.{◌≡◌, refl, sym, ap, ◌∙◌}
use mathlib.Core.Bool.{Bool, true}
use mathlib.Core.List.{List, map}
use lib.ListN.{length, length-map}
use lib.Dec.{ltb}
use borrow.Author.Tests.{ltb-true}
use Rattle.ground.proofs.Choices.{and_left}
use Rattle.board.specs.declared.Node.{Node}
use Rattle.board.specs.Node.{none, is_mac, version_of}
use Rattle.board.specs.Table.{put}
use Rattle.board.specs.Columns.{kind_of, kinds_of, stored_version, versions_of, macs_of, lowest_in, column_with, forty}
use Rattle.board.specs.Types.{many_in}
use Rattle.board.proofs.SameKinds.{kinds_free}
use Rattle.board.proofs.Column.{lowest_of_mac, column_put, forty_whole}
use Rattle.board.proofs.Changes.{put_length}
use Rattle.coordinator.specs.declared.Coordinator.{Coordinator}
use Rattle.coordinator.proofs.Fitting.{fits_forty}
use Rattle.look.specs.declared.Seen.{Seen}
use Rattle.look.specs.Seen.{Saw}
use Rattle.look.proofs.Seeing.{fit_blanks, kinds_seen}
use Rattle.steps.specs.Join.{is_busy, known, chosen, too_many_with}
use Rattle.join.specs.Parts.{busy_in, chosen_in}

module _ {s : Seen} {c : Coordinator} {t : List Node} (saw : Saw s c t) where
  -- whether the panel is busy
  pub busy_seen : {b : Bool} → b ≡ busy_in s.state s.owed → b ≡ is_busy c t
  busy_seen b = b ∙ rw (saw.state, saw.owed) refl

  -- the position of a listed MAC
  pub known_seen : {macs : List ℕ} {own : ℕ} → macs ≡ macs_of t → (mac : ℕ) → own ≡ lowest_in macs mac s.setup.k → is_mac mac ≡ true → own ≡ known t c.setup.k mac
  known_seen f mac own m = own ∙ rw (saw.setup, f) (lowest_of_mac t (fit_blanks c t saw.fit) mac c.setup.k (ltb-true 0 mac (and_left (ltb 0 mac) _ m)))

  -- the position for a MAC, by its own
  pub chosen_seen : {kinds : List ℕ} {own n : ℕ} (mac : ℕ) → kinds ≡ kinds_of t → own ≡ known t c.setup.k mac → n ≡ chosen_in kinds own s.setup.k → n ≡ chosen t c.setup.k mac
  chosen_seen mac e own n = n ∙ rw (saw.setup, e, own, kinds_free (kinds_seen saw refl) c.setup.k) refl

  -- whether there would be too many types
  pub many_seen : {kinds versions : List ℕ} {own joining : ℕ} {many : Bool} (p kind version : ℕ) → kinds ≡ kinds_of t → versions ≡ versions_of t → own ≡ p → joining ≡ version_of version → many ≡ many_in kinds versions own kind joining → many ≡ too_many_with t p kind version
  many_seen p kind version e f own joining many = many ∙ rw (e, f, own, joining, whole kind_of refl, whole stored_version refl) refl
    where
      forties : length t ≡ 40
      forties = fits_forty c t saw.fit

      whole : (g : Node → ℕ) → g none ≡ 0 → forty (column_with (map g t) p 0) ≡ map g (put t p none)
      whole g z = ap forty (ap (column_with (map g t) p) (sym z) ∙ column_put g t forties p none) ∙ forty_whole (map g (put t p none)) (length-map (put t p none) g ∙ put_length t p none ∙ forties)
