-- How the code makes its answer and its frame (house): what the functions behind `unwrap` and `wrap` promise each other.
use Rattle.std.specs.Prelude.{ℕ, ◌+◌, ◌*◌, ◌≡◌, List, [], ◌∷◌, ◌++◌, length, get_or, take, Result, Ok, Err}
use Rattle.refusal.specs.declared.Refusal.{Refusal}
use Rattle.encapsulation.specs.declared.Level.{Level}
use Rattle.encapsulation.specs.declared.Front.{Front}
use Rattle.encapsulation.specs.declared.Unwrapped.{Unwrapped}
use Rattle.encapsulation.specs.Message.{Message, opening, wrapped}
use Rattle.encapsulation.specs.Unwrap.{Opened, plain, refused}
use Rattle.encapsulation.specs.Answer.{blank, placed}

-- the reader's answer, whole
abbrev pub answer_of : Opened → Result Unwrapped Refusal
answer_of (plain ls m) = Ok (record { levels = placed ls; depth = length ls; message = m.message; packet = m.packet; length = length m.payload })
answer_of (refused r) = Err r

-- what was found inside a message, with one level more around it
abbrev pub deeper : Level → Unwrapped → Unwrapped
deeper l u = record u { levels = l ∷ get_or u.levels 0 blank ∷ get_or u.levels 1 blank ∷ get_or u.levels 2 blank ∷ []; depth = u.depth + 1 }

-- what stands before the payload of a message in one level, by its type, packet number and payload length (003, Tables 1 and 65)
abbrev pub head_of : Level → ℕ → ℕ → ℕ → List ℕ
head_of l message packet n = opening l ++ message ∷ packet ∷ n ∷ []

-- and in several: seven bytes for each (02, C-21)
unfoldable pub heads : List Level → Message → List ℕ
heads [] m = []
heads (l ∷ ls) m = head_of l (wrapped ls m).message (wrapped ls m).packet (length (wrapped ls m).payload) ++ heads ls m

-- what the code makes of them: the bytes at the front of 28, and type and packet number of the outermost message
pub record Fronts (f : Front) (depth : ℕ) (ls : List Level) (m : Message) : Type 0 where
  pub long : length f.bytes ≡ 28
  pub bytes : take (7 * depth) f.bytes ≡ heads ls m
  pub message : f.message ≡ (wrapped ls m).message
  pub packet : f.packet ≡ (wrapped ls m).packet
