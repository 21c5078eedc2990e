-- The potential: how many accepted steps there can still be before an offer (house; 00, demand 3: "within k times (2k² + 2k + 8) accepted steps", 8 become 14 by 02, C-11).
-- It falls with every accepted step that is no offer: proofs/Moves.antt.
use Rattle.std.specs.Prelude.{ℕ, ◌+◌, ◌-◌, ◌*◌, Bool, true, false, not, List, eqb}
use Rattle.ground.specs.Below.{one}
use Rattle.board.specs.declared.Node.{Node}
use Rattle.board.specs.declared.Wanted.TheVariants.{Listed, Owed}
use Rattle.board.specs.Wanted.{count_of}
use Rattle.coordinator.specs.declared.Coordinator.{Coordinator}
use Rattle.coordinator.specs.declared.Exchange.TheVariants.{Offer, List as Listing, Forward, Return}
use Rattle.coordinator.specs.declared.Part.{Part}
use Rattle.coordinator.specs.declared.Part.TheVariants.{Search, IdentifyDue, Identify, Present, AssignDue, Assign}
use Rattle.coordinator.specs.declared.Phase.{Phase}
use Rattle.coordinator.specs.declared.Phase.TheVariants.{Resting, Awaiting, ForwardDue, ReturnDue, Seeking, Unknown}
use Rattle.coordinator.specs.Phase.{phase_of}

-- a list that is owed takes two steps: it goes out, and its wait ends
abbrev pub list_steps : ℕ
list_steps = 2

-- a join takes one step, and owes a list to each of at most k boards
abbrev pub join_steps : ℕ → ℕ
join_steps k = 1 + list_steps * k

-- a board that is dropped owes a list to each of at most k - 1 others
abbrev pub drop_steps : ℕ → ℕ
drop_steps k = list_steps * (k - 1)

-- 1 where a join may still come before an offer, 0 where joins are held
abbrev pub unheld : ℕ → ℕ
unheld held = one (not (eqb held 1))

-- what is left of an exchange: after its offer, with the forward due, in its wait, in its wait after the ACK, with the return due, in its wait
abbrev pub after_offer : ℕ
after_offer = 6

abbrev pub forward_due : ℕ
forward_due = 5

abbrev pub after_forward : Bool → ℕ
after_forward false = 4
after_forward true = 3

abbrev pub return_due : ℕ
return_due = 2

abbrev pub after_return : ℕ
after_return = 1

-- the longest exchange by which a board joins: discover, frame, turn, quiet, turn, frame (02, C-11)
abbrev pub seek_steps : ℕ
seek_steps = 6

-- 1 where a discovery may still be started before an offer, 0 where one was
abbrev pub unsearched : ℕ → ℕ
unsearched searched = one (not (eqb searched 1))

-- what is left of it: in the search's wait, with Get Node ID due, in its wait, in its wait after the ACK, with Set Address due, in its wait
abbrev pub left_of : Part → ℕ
left_of Search = 5
left_of IdentifyDue = 4
left_of Identify = 3
left_of Present = 1
left_of AssignDue = 2
left_of Assign = 1

-- what may still come of itself, with n boards listed: each but the last may be dropped, the one that may join too, and the join itself
unfoldable pub ahead : ℕ → ℕ → ℕ → ℕ
ahead k n joins = drop_steps k * (n - 1 + joins) + joins * join_steps k

-- what is under way: the lists that are owed, and what is left of an exchange; one with a board may end in a list to each of k boards, the lists of a join are ahead
unfoldable pub under_way : ℕ → Phase → ℕ → ℕ
under_way k Resting owed = list_steps * owed
under_way k (Awaiting board Offer requester acked) owed = list_steps * k + after_offer
under_way k (Awaiting board Listing requester acked) owed = list_steps * owed + 1
under_way k (Awaiting board Forward requester acked) owed = list_steps * k + after_forward acked
under_way k (Awaiting board Return requester acked) owed = list_steps * k + after_return
under_way k (ForwardDue board requester) owed = list_steps * k + forward_due
under_way k (ReturnDue board) owed = list_steps * k + return_due
under_way k (Seeking position part) owed = list_steps * owed + left_of part
under_way k Unknown owed = 0

-- the potential of a coordinator and its table: what may come, a discovery too, and what is under way
unfoldable pub potential : Coordinator → List Node → ℕ
potential c t =
    ahead c.setup.k (count_of Listed t) (unheld c.held) + seek_steps * unsearched c.searched + under_way c.setup.k (phase_of c.stand) (count_of Owed t)

-- so an offer comes within this many accepted steps of any moment: one more than the potential can be
abbrev pub between : ℕ → ℕ
between k = 2 * (k * k) + 2 * k + 14
