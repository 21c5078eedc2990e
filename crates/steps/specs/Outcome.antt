-- What an answer comes with where the step does nothing besides.
use Rattle.steps.specs.declared.Answer.{Answer}
use Rattle.steps.specs.declared.Outcome.{Outcome}

-- an answer alone: nothing is written, nobody joins and nobody is dropped; 0 stands for none (house)
abbrev pub plain : Answer → Outcome
plain answer = record { answer = answer; written = 0; joined = 0; dropped = 0 }
