-- A panel and a series of steps from a fresh start (00, demand 3).
use Rattle.std.specs.Prelude.{ℕ, ◌+◌, ◌≡◌, Bool, ◌&&◌, List, [], ◌∷◌, length, get_or, eqb, leb}
use Rattle.ground.specs.Choose.{choose}
use Rattle.refusal.specs.Refusal.{Told}
use Rattle.board.specs.declared.Node.{Node}
use Rattle.board.specs.Table.{listed_at}
use Rattle.coordinator.specs.declared.Coordinator.{Coordinator}
use Rattle.steps.specs.declared.Event.{Event}
use Rattle.steps.specs.After.{After, rests}

-- what comes to the panel at one moment: an event, with the bytes received and the room lent beside it
pub record Input : Type 0 where
  pub event : Event
  pub received : List ℕ
  pub room : ℕ

-- what the host lends: the coordinator's record and the node records
pub record World : Type 0 where
  pub coordinator : Coordinator
  pub nodes : List Node

-- a panel: what setup leaves, of any lent record and table, and what a step leaves. Ours is one; a wrong one can be stated too.
pub record Panel : Type 0 where
  pub start : World → List ℕ → ℕ → ℕ → ℕ → ℕ → After
  pub step : World → Input → After

-- the world that a step leaves
abbrev pub left : After → World
left a = record { coordinator = a.coordinator; nodes = a.nodes }

-- a fresh start with k addresses: what a setup leaves that was taken (00, demand 3: "Take a fresh start with k addresses")
pub data Fresh (P : Panel) (k : ℕ) : World → Type 0 where
  fresh_start : (w : World) (addresses : List ℕ) (subnet internal mac session : ℕ) → length addresses ≡ k → (P.start w addresses subnet internal mac session).says ≡ rests → Fresh P k (left (P.start w addresses subnet internal mac session))

-- the world after a series of steps, refused ones among them
unfoldable pub after : Panel → World → List Input → World
after P w [] = w
after P w (i ∷ is) = after P (left (P.step w i)) is

-- an answer that does not refuse
abbrev pub is_accepted : Told → Bool
is_accepted says = eqb says.number 0

-- the board for which an answer waits, 0 where it waits for none
abbrev pub waited_for : Told → ℕ
waited_for says = choose (is_accepted says && eqb (get_or says.values 0 0) 1) (get_or says.values 1 0) 0

-- the kind of exchange in which an answer waits, 0 where it waits in none: offer 1, list 2, forward 3, return 4, search 5, identify 6, assign 7
abbrev pub waits_in : Told → ℕ
waits_in says = choose (is_accepted says && eqb (get_or says.values 0 0) 1) (get_or says.values 2 0) 0

-- search, identify and assign are the waits of the exchange by which a board joins; theirs is a position at stake, and no message to a board (02, C-11)
abbrev pub is_seek : ℕ → Bool
is_seek exchange = leb 5 exchange && leb exchange 7

-- the board to which an offer was made, 0 where none was: an answer that waits in exchange 1, the offer
abbrev pub offered_to : Told → ℕ
offered_to says = choose (eqb (get_or says.values 2 0) 1) (waited_for says) 0

-- the boards to which offers were made in a series, one after another
unfoldable pub offers : Panel → World → List Input → List ℕ
offers P w [] = []
offers P w (i ∷ is) = choose (eqb (offered_to (P.step w i).says) 0) (offers P (left (P.step w i)) is) (offered_to (P.step w i).says ∷ offers P (left (P.step w i)) is)

-- how many steps of a series were accepted
unfoldable pub accepted : Panel → World → List Input → ℕ
accepted P w [] = 0
accepted P w (i ∷ is) = choose (is_accepted (P.step w i).says) (accepted P (left (P.step w i)) is + 1) (accepted P (left (P.step w i)) is)

-- a board stays listed: it is listed now and after each step of the series
unfoldable pub stays : Panel → World → List Input → ℕ → Bool
stays P w [] p = listed_at w.nodes p
stays P w (i ∷ is) p = listed_at w.nodes p && stays P (left (P.step w i)) is p
