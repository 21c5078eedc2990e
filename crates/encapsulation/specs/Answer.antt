-- What the reader answers of a frame that was unwrapped, in Rattle and in C (02, C-21; house).
use Rattle.std.specs.Prelude.{ℕ, ◌+◌, ◌*◌, List, [], ◌∷◌, ◌++◌, length, take, replicate, Result}
use Rattle.refusal.specs.Refusal.{Told, number_of, refuses, gives, says}
use Rattle.refusal.specs.declared.Refusal.{Refusal}
use Rattle.encapsulation.specs.declared.Level.{Level}
use Rattle.encapsulation.specs.declared.Unwrapped.{Unwrapped}
use Rattle.encapsulation.specs.declared.UnwrapNumbers.{UnwrapNumbers}
use Rattle.encapsulation.specs.Message.{most}
use Rattle.encapsulation.specs.Unwrap.{Opened, plain, refused}

-- the numbers of what was found inside: the depth, the plain message's type and packet number, and its payload's length
abbrev pub inside_values : Unwrapped → List ℕ
inside_values u = u.depth ∷ u.message ∷ u.packet ∷ u.length ∷ []

-- what an answer says of it
abbrev pub told_inside : Result Unwrapped Refusal → Told
told_inside = says inside_values

-- and what it says of an opened message: the depth is the number of its levels
abbrev pub told_opened : Opened → Told
told_opened (plain ls m) = gives (length ls ∷ m.message ∷ m.packet ∷ length m.payload ∷ [])
told_opened (refused r) = refuses r

-- where no level is
abbrev pub blank : Level
blank = record { code = 0; operand1 = 0; operand2 = 0; operand3 = 0; packet = 0 }

-- levels in the four places of an answer, the rest blank
abbrev pub placed : List Level → List Level
placed ls = take most (ls ++ replicate most blank)

-- those of an opened message; none on a refusal
abbrev pub levels_in : Opened → List Level
levels_in (plain ls m) = placed ls
levels_in (refused r) = placed []

-- what C is told of it: all 0 but the refusal's number on a refusal, else where the payload stands, behind the frame's head and seven bytes for each level (house)
abbrev pub unwrap_numbers : Opened → UnwrapNumbers
unwrap_numbers (plain ls m) =
    record {
      refusal = 0;
      depth = length ls;
      message = m.message;
      packet = m.packet;
      levels = record { levels = placed ls };
      start = 10 + 7 * length ls;
      length = length m.payload;
    }
unwrap_numbers (refused r) = record { refusal = number_of r; depth = 0; message = 0; packet = 0; levels = record { levels = placed [] }; start = 0; length = 0 }
