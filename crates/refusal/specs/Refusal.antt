-- The refusals and their numbers (01, "Numbers a caller may be given").
use Rattle.std.specs.Prelude.{ℕ, Bool, List, [], ◌∷◌, get_or, Result, Ok, Err}
use Rattle.ground.specs.Choose.{choose}
use Rattle.refusal.specs.declared.Refusal.{Refusal}
use Rattle.refusal.specs.declared.Refusal.TheVariants.{Short, OverLong, LengthMismatch, BadChecksum, NotForUs, NotAwaited, UnexpectedType, BadEcho, BadMethod, PayloadTooLong, NoRoom, BadType, BadMac, Busy, Held, Full, AwaitingReply, NobodyListed, NotWaiting, BadPool, StateUnfit, NotDiscovering, OtherSubnet, TooManyTypes, BadLength, NoSlot, BadInner, TooDeep, BadTextLength, BadText}

-- the rule book's number of each refusal (01, "Numbers"; 02, C-11, C-14, C-15, C-16, C-21 and C-22). 17 is retired and is given to nothing else (02, C-23)
abbrev pub number_of : Refusal → ℕ
number_of Short = 1
number_of OverLong = 2
number_of LengthMismatch = 3
number_of BadChecksum = 4
number_of NotForUs = 5
number_of NotAwaited = 6
number_of UnexpectedType = 7
number_of BadEcho = 8
number_of BadMethod = 9
number_of PayloadTooLong = 10
number_of NoRoom = 11
number_of BadType = 12
number_of BadMac = 13
number_of Busy = 14
number_of Held = 15
number_of Full = 16
number_of AwaitingReply = 18
number_of NobodyListed = 19
number_of NotWaiting = 20
number_of BadPool = 21
number_of StateUnfit = 22
number_of NotDiscovering = 23
number_of OtherSubnet = 24
number_of TooManyTypes = 25
number_of BadLength = 26
number_of NoSlot = 27
number_of BadInner = 30
number_of TooDeep = 31
number_of BadTextLength = 32
number_of BadText = 33

-- what an answer says: its number (0 where nothing is refused) and the values that go with it
pub record Told : Type 0 where
  pub number : ℕ
  pub values : List ℕ

-- the value at a place of what an answer says, 0 where it has none (house)
abbrev pub value : Told → ℕ → ℕ
value t i = get_or t.values i 0

-- an answer that refuses: the number alone (01, "A refusal returns its number alone")
abbrev pub refuses : Refusal → Told
refuses r = record { number = number_of r; values = [] }

-- an answer that gives these values
abbrev pub gives : List ℕ → Told
gives vs = record { number = 0; values = vs }

-- what an answer says that gives a value or refuses: the numbers of the value, or the refusal's number alone
abbrev pub says : {A : Type 0} → (A → List ℕ) → Result A Refusal → Told
says values (Ok x) = gives (values x)
says values (Err r) = refuses r

-- what one says that counts, or gives another number, or refuses
abbrev pub counts : Result ℕ Refusal → Told
counts = says (λ n. n ∷ [])

-- rules in the order in which they are tested: the first that holds refuses, and where none does the value stands
abbrev pub ruled {ℓ} : {A : Type ℓ} → List (Bool × Refusal) → (Refusal → A) → A → A
ruled [] refusing value = value
ruled (rule ∷ rules) refusing value = choose rule.0 (refusing rule.1) (ruled rules refusing value)
