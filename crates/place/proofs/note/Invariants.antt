-- `place::note`. The loop's invariant: what is noted is what is noted of the records so far.
use mathlib.Core.Path.{◌≡◌}
use Rattle.look.specs.Digest.{digest_to}
use Rattle.place.proofs.note.Given as goal

abbrev pub invariant-loop-i : goal.invariant-loop-i
invariant-loop-i l = l.digest ≡ digest_to l.k l.nodes l.initial.digest l.i
