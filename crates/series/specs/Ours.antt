-- Our panel: the definitions of the steps.
use Rattle.steps.specs.Start.{start_of}
use Rattle.steps.specs.Step.{step_of}
use Rattle.series.specs.Series.{Panel}

abbrev pub ours : Panel
ours =
    record {
      start = λ w addresses subnet internal mac session. start_of w.coordinator w.nodes addresses subnet internal mac session;
      step = λ w i. step_of w.coordinator w.nodes i.event i.received i.room;
    }
