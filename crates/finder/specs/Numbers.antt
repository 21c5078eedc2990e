-- The numbers by which C is told a finding (house; the findings' own numbers are those of Finder.antt).
use Rattle.std.specs.Prelude.{eqb}
use Rattle.ground.specs.Choose.{choose}
use Rattle.refusal.specs.Refusal.{Told, value}
use Rattle.finder.specs.declared.FindNumbers.{FindNumbers}

-- what C is given: of Found start, length and starts tried, of Nothing and Spent the starts tried, the other two 0
unfoldable pub find_numbers : Told → FindNumbers
find_numbers t =
    choose (eqb t.number 1)
    (record { number = t.number; start = value t 0; length = value t 1; tried = value t 2 })
    (record { number = t.number; start = 0; length = 0; tried = value t 0 })
