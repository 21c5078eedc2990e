-- What a transmission takes from what was seen: the header of a message of ours, the node list, who is owed the list, who is next.
use Prim.Native.Nat.{ℕ, zero, suc, ◌≤◌}
use native.Mathlib.Omega.{arith}
use mathlib.Core.Path.{◌≡◌, refl, sym, ◌∙◌}
use mathlib.Core.Bool.{not}
use mathlib.Core.List.{List}
use lib.Dec.{eqb, ltb}
use borrow.Author.Tests.{ne_eqb, lt-ltb}
use Rattle.ground.proofs.Choices.{not_no}
use Rattle.board.specs.declared.Node.{Node}
use Rattle.board.specs.Columns.{kinds_of, stored_indexes, versions_of, typed, column_at}
use Rattle.board.specs.Table.{at}
use Rattle.board.specs.Wanted.{highest_listed, some_listed}
use Rattle.board.specs.Round.{next_listed}
use Rattle.board.proofs.NextListed.{next_to_top}
use Rattle.board.proofs.SameKinds.{kinds_next}
use Rattle.board.proofs.LowestWanted.{some_highest}
use Rattle.nodelist.specs.List.{list_for, list_over}
use Rattle.nodelist.proofs.Theorems.{columns_to_list}
use Rattle.message.specs.Message.{own_header}
use Rattle.coordinator.specs.declared.Coordinator.{Coordinator}
use Rattle.coordinator.specs.declared.Phase.TheVariants.{ForwardDue, ReturnDue}
use Rattle.coordinator.specs.Phase.{phase_of}
use Rattle.coordinator.proofs.Fitting.{fits_forty, due_forward, due_response, request_told, response_told}
use Rattle.look.specs.declared.Seen.{Seen}
use Rattle.look.specs.Seen.{Saw}
use Rattle.look.proofs.Seeing.{top_within, kinds_seen, index_seen}

module _ {s : Seen} {c : Coordinator} {t : List Node} (saw : Saw s c t) where
  -- nobody is listed where the highest listed position is 0
  pub nobody_seen : eqb s.top 0 ≡ not (some_listed t)
  nobody_seen = rw (saw.top, ← some_highest t) (zero_or (highest_listed t))
    where
      zero_or : (n : ℕ) → eqb n 0 ≡ not (ltb 0 n)
      zero_or zero = refl
      zero_or (suc n) = ne_eqb (suc n) 0 (λ e. omega (arith, e)) ∙ sym (not_no (ltb 0 (suc n)) (lt-ltb 0 (suc n) (omega arith)))

  -- what a forward or a return carries is no longer than a frame takes
  pub forward_small : {b q : ℕ} → phase_of c.stand ≡ ForwardDue b q → c.kept.length ≤ 240
  forward_small e = (request_told c.kept (due_forward c t saw.fit e).request).payload

  pub return_small : {b : ℕ} → phase_of c.stand ≡ ReturnDue b → c.kept.length ≤ 240
  return_small e = (response_told c.kept (due_response c t saw.fit e)).payload

  -- the header of a message of ours, with the index that the column holds, in the subnet of a version
  pub header_seen : {indexes : List ℕ} → indexes ≡ stored_indexes t → (board message packet : ℕ) {version own index : ℕ} → version ≡ own → index ≡ column_at indexes board → own_header s.setup board version index message packet ≡ own_header c.setup board own (at t board).index message packet
  header_seen known board message packet v e = λ i. own_header (saw.setup i) board (v i) ((e ∙ index_seen saw known board) i) message packet

  module _ {kinds : List ℕ} (known : kinds ≡ kinds_of t) where
    -- the node list in the form of a version
    pub list_seen : {versions : List ℕ} {version own : ℕ} → versions ≡ versions_of t → version ≡ own → list_over version s.top s.setup.internal kinds versions ≡ list_for own c.setup.internal t
    list_seen {own = own} e v = rw (saw.setup, saw.top, known, e, v) (columns_to_list own c.setup.internal t (fits_forty c t saw.fit))

    -- the next listed position after the last one offered
    pub next_seen : next_listed (typed kinds) s.top s.state.last ≡ next_listed t c.setup.k c.last
    next_seen = rw (saw.top, saw.state) (kinds_next (kinds_seen saw known) (highest_listed t) c.last ∙ sym (next_to_top t c.setup.k (top_within c t saw.fit) c.last))
