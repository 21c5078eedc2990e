-- What holds of bytes that pass the rules of a frame (01, "Order"), so that whoever has passed them need not know which stands where.
use Prim.Native.Nat.{ℕ}
use mathlib.Core.Path.{◌≡◌}
use mathlib.Core.Bool.{true}
use mathlib.Core.List.{List}
use borrow.Author.Tests.{not-false}
use Rattle.refusal.proofs.Rules.{Passed, passed_both}
use Rattle.frame.specs.Frame.{header_of, read_rules}
use Rattle.frame.proofs.Told.{Read, passed_read}
use Rattle.board.specs.declared.Node.{Node}
use Rattle.coordinator.specs.declared.Coordinator.{Coordinator}
use Rattle.coordinator.specs.declared.Phase.{Phase}
use Rattle.coordinator.specs.Fit.{fits}
use Rattle.steps.specs.Receive.{awaits, listen_rules, receive_rules, read_in}

-- coordinator and records are fit, the bytes read well in a subnet that is taken, and their source is awaited
pub record Admitted (phase : Phase) (c : Coordinator) (t : List Node) (b : List ℕ) : Type 0 where
  pub fit : fits c t ≡ true
  pub read : Read (read_in phase c t b) b
  pub awaited : awaits phase c.setup (header_of b).source ≡ true

pub admitted : (phase : Phase) (c : Coordinator) (t : List Node) (b : List ℕ) → Passed (receive_rules phase c t b) → Admitted phase c t b
admitted phase c t b ok =
    let parts = passed_both (read_rules (read_in phase c t b) b) (listen_rules phase c (header_of b)) ok.1 in
    record {
      fit = not-false _ ok.0;
      read = passed_read (read_in phase c t b) b parts.0;
      awaited = not-false _ parts.1.1.1.0;
    }
