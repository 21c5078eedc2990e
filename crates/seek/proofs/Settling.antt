-- What the ACK to a response leaves that ends the exchange, by what its writing gave.
use Prim.Native.Nat.{ℕ, ◌-◌}
use mathlib.Core.Path.{◌≡◌, refl, sym, ap, ◌∙◌}
use mathlib.Core.Bool.{Bool, true, false, ◌&&◌}
use mathlib.Core.List.{List}
use lib.Dec.{eqb, leb, ltb}
use lib.ListN.{length, set, length-set, length-map}
use Rattle.ground.specs.Choose.{choose}
use Rattle.refusal.specs.declared.Refusal.{Refusal}
use Rattle.refusal.proofs.Rules.{Passed, each, by_rules}
use Rattle.frame.specs.Frame.{Writing}
use Rattle.std.specs.Prelude.{Ok, Err}
use Rattle.board.specs.declared.Node.{Node}
use Rattle.board.specs.declared.Wanted.TheVariants.{Mac}
use Rattle.board.specs.Table.{at}
use Rattle.board.specs.Wanted.{wanted_at, index_of}
use Rattle.board.specs.Index.{Numbered}
use Rattle.board.specs.Change.{joined_node, heard}
use Rattle.board.specs.Columns.{kind_of, kinds_of, typed, column_with}
use Rattle.board.proofs.SameKinds.{kinds_index}
use Rattle.board.proofs.Column.{typed_kinds, same_kinds, column_put}
use Rattle.board.proofs.Changes.{put_length, put_alike}
use Rattle.board.proofs.Numbered.{put_numbered, relisted_kinds, relisted_length, relisted_stored}
use Rattle.setup.specs.Fitness.{FitTable}
use Rattle.message.specs.Message.{signed_header, signed, ack_code, Sends}
use Rattle.coordinator.specs.declared.Coordinator.{Coordinator}
use Rattle.coordinator.specs.declared.Found.{Found}
use Rattle.coordinator.specs.Fit.{fits}
use Rattle.coordinator.specs.Change.{ended}
use Rattle.coordinator.proofs.Fitting.{fits_forty, fit_told}
use Rattle.coordinator.proofs.Changing.{ended_fits}
use Rattle.look.specs.declared.Seen.{Seen}
use Rattle.look.specs.Seen.{Saw}
use Rattle.steps.specs.declared.Answer.TheVariants.{Transmit}
use Rattle.steps.specs.After.{After, Shown, shows, leaving, refused, resting, transmits, Leaves}
use Rattle.steps.specs.Hear.{hear, hear_mac}
use Rattle.steps.specs.Join.{join_rules, joined_as, join_of}
use Rattle.steps.specs.Seek.{join_found, outcome, acknowledged, settled}
use Rattle.steps.proofs.Writes.{shown_as, leaves_ack_written}
use Rattle.change.proofs.Making.{made}
use Rattle.change.specs.declared.Change.{Change}
use Rattle.change.specs.Change.{applied}

-- hearing a board changes no type
kinds_heard : (t : List Node) (p mac : ℕ) → kinds_of (hear_mac t p mac) ≡ kinds_of t
unfolding choose
kinds_heard t p mac = go (wanted_at (Mac mac) t p)
  where
    go : (b : Bool) → kinds_of (choose b (hear t p) t) ≡ kinds_of t
    go true = put_alike kind_of t p (heard (at t p)) refl
    go false = refl

-- the types after a step that may have joined a board of this type
abbrev Retypes : List Node → ℕ → After → Type 0
Retypes t kind a = column_with (kinds_of t) a.joined kind ≡ kinds_of a.nodes

-- those of a join: its own where it is taken, else as they were
join_retypes : (c : Coordinator) (t : List Node) → fits c t ≡ true → (kind mac session version : ℕ) → Retypes t kind (join_of c t kind mac session version)
unfolding join_of choose
join_retypes c t fit kind mac session version = by_rules (Retypes t kind) (join_rules c t kind mac version) (refused c t) (joined_as c t kind mac session version) (each {Q = λ (r : Refusal). Retypes t kind (refused c t r)} (λ r. refl) (join_rules c t kind mac version)) taken
  where
    taken : Passed (join_rules c t kind mac version) → Retypes t kind (joined_as c t kind mac session version)
    taken _ = column_put kind_of t (fits_forty c t fit) _ (joined_node kind mac session version) ∙ sym (same_kinds (relisted_kinds _) (relisted_length _))

-- stored is counted after hearing a board too, and after a join
numbered_heard : (t : List Node) (p mac : ℕ) → Numbered t → Numbered (hear_mac t p mac)
unfolding choose
numbered_heard t p mac stored = go (wanted_at (Mac mac) t p)
  where
    go : (b : Bool) → Numbered (choose b (hear t p) t)
    go true = put_numbered t p (heard (at t p)) refl refl stored
    go false = stored

numbered_join : (c : Coordinator) (t : List Node) → fits c t ≡ true → (kind mac session version : ℕ) → Numbered (join_of c t kind mac session version).nodes
unfolding join_of
numbered_join c t fit kind mac session version = by_rules (λ (a : After). Numbered a.nodes) (join_rules c t kind mac version) (refused c t) (joined_as c t kind mac session version) (each {Q = λ (r : Refusal). Numbered t} (λ r. table.numbered) (join_rules c t kind mac version)) (λ _. relisted_stored _ (put_length t _ _ ∙ table.boards.forty))
  where
    table : FitTable c.setup.k t
    table = (fit_told c t fit).table

-- what the caller is shown of the ACK, by what its writing gave and by what was shown of how the exchange ends
abbrev ack_shown : Writing → Coordinator → List Node → Shown → Shown
ack_shown (Ok n) c t s = leaving s.coordinator s.nodes transmits n s.joined 0
ack_shown (Err q) c t s = shows (refused c t q)

-- the change that ends the exchange, once its ACK is written
abbrev pub acked : Change → ℕ → Change
acked x n =
    record {
      ended = x.ended;
      moves = x.moves;
      position = x.position;
      edit = x.edit;
      owe = x.owe;
      outcome = record { answer = Transmit; written = n; joined = x.outcome.joined; dropped = 0 };
    }

module _ (c : Coordinator) (t : List Node) (position : ℕ) (f : Found) where
  -- the types that the end of the exchange leaves
  outcome_retypes : fits c t ≡ true → Retypes t f.kind (outcome c t position f)
  unfolding choose
  outcome_retypes fit = go (eqb (join_found c t f).joined position)
    where
      go : (b : Bool) → Retypes t f.kind (choose b (join_found c t f) (resting (ended c) (hear_mac t position f.mac) 0 0))
      go true = join_retypes (ended c) t (ended_fits c t fit) f.kind f.mac f.session f.version
      go false = sym (kinds_heard t position f.mac)

  -- what is shown of the ACK is what is shown of a step that has it as its bytes
  as_written : (w : Writing) → ack_shown w c t (shows (outcome c t position f)) ≡ shown_as w c t (acknowledged c.setup position f.version (outcome c t position f))
  as_written (Ok n) = refl
  as_written (Err q) = refl

  module _ {s : Seen} (saw : Saw s c t) {kinds : List ℕ} (known : kinds ≡ kinds_of t) where
    -- the records after it are forty
    outcome_forty : length (outcome c t position f).nodes ≡ 40
    unfolding choose
    outcome_forty = sym (length-map (outcome c t position f).nodes kind_of) ∙ ap length (sym (outcome_retypes saw.fit)) ∙ go (ltb 0 (outcome c t position f).joined && leb (outcome c t position f).joined 40) ∙ length-map t kind_of ∙ fits_forty c t saw.fit
      where
        go : (b : Bool) → length (choose b (set (kinds_of t) ((outcome c t position f).joined - 1) f.kind) (kinds_of t)) ≡ length (kinds_of t)
        go true = length-set (kinds_of t) _ _
        go false = refl

    -- and stored is counted in them
    outcome_numbered : Numbered (outcome c t position f).nodes
    unfolding choose
    outcome_numbered = go (eqb (join_found c t f).joined position)
      where
        go : (b : Bool) → Numbered (choose b (join_found c t f) (resting (ended c) (hear_mac t position f.mac) 0 0)).nodes
        go true = numbered_join (ended c) t (ended_fits c t saw.fit) f.kind f.mac f.session f.version
        go false = numbered_heard t position f.mac (fit_told c t saw.fit).table.numbered

    -- so what is counted among the types after it is the index that the ACK carries
    ack_index : {types : List ℕ} {joined index : ℕ} → types ≡ column_with kinds joined f.kind → joined ≡ (outcome c t position f).joined → index ≡ index_of (typed types) position → index ≡ (at (outcome c t position f).nodes position).index
    ack_index e j i = i ∙ rw (e, known, j, outcome_retypes saw.fit) (kinds_index (typed_kinds (outcome c t position f).nodes outcome_forty) position ∙ sym (outcome_numbered position))

    -- where the ACK carries the index of the records that the end leaves, it leaves what the definition says
    pub leaves_settled : (x : Change) (p before after : List ℕ) (ending : Change) → applied ending p c t ≡ shows (outcome c t position f) → {types : List ℕ} → types ≡ column_with kinds ending.outcome.joined f.kind → {index : ℕ} → index ≡ index_of (typed types) position → (w : Writing) → Sends (signed_header s.setup position f.version index) (signed s.setup ack_code) w before after → applied x p c t ≡ ack_shown w c t (applied ending p c t)
        → Leaves (settled c t position f (length before)) (made x p c t) before after
    leaves_settled x p before after ending e types index w sends h =
        leaves_ack_written c.setup (outcome c t position f).nodes position f.version c t (acknowledged c.setup position f.version (outcome c t position f)) refl (made x p c t) before after w
        (rw (ack_index types (ap (λ (y : Shown). y.joined) e) index, saw.setup) at sends)
        (h ∙ ap (ack_shown w c t) e ∙ as_written w)
