-- `finder::Notes::note` meets its contract: the next fourth place is noted beside those before it.
use Rattle.std.proofs.Common.{arith, ◌≡◌, ◌+◌, ◌-◌}
use Rattle.finder.proofs.Trail.{note_next}
use Rattle.finder.proofs.Notes.note.Goals as goal

pub invariant_of-self : goal.invariant_of-self
invariant_of-self c = let loop = c.loop-j in
    let last : loop.self.count - 1 ≡ loop.j = omega arith in
    let next : loop.j + 2 - 1 ≡ loop.j + 1 = omega arith in
    record { some = omega arith; noted = rw next (note_next _ _ _ loop.j _ (rw last at loop.self.noted) c.sums_on-sums.ensures) }
