-- How the finder keeps the sums of a stretch, so that it need not sum each frame anew (02, C-19). No promise speaks of it.
use Rattle.std.specs.Prelude.{ℕ, ◌+◌, ◌-◌, ◌*◌, ◌%◌, ◌≤◌, ◌<◌, ◌≡◌, Bool, ◌&&◌, List, length, get_or, take, leb}
use Rattle.fletcher.specs.declared.Sums.{Sums}
use Rattle.fletcher.specs.declared.Run.{Run}
use Rattle.fletcher.specs.Joined.{unreduced}
use Rattle.frame.specs.Frame.{takes_subnet}
use Rattle.finder.specs.Finder.{length_at, subnet_at}

-- a frame has room at start i: its n is at most 240 and 12 + n bytes are there (01, "Finder")
abbrev pub has_room : List ℕ → ℕ → Bool
has_room s i = leb (length_at s i) 240 && leb (12 + length_at s i) (length s - i)

-- a frame that we take can begin there, before its sums are looked at (02, C-14)
abbrev pub can_begin : ℕ → List ℕ → ℕ → Bool
can_begin ours s i = takes_subnet ours (subnet_at s i) && has_room s i

-- the sums over the bytes before place k, with no remainder taken (house)
abbrev pub sums_to : List ℕ → ℕ → Sums
sums_to s k = unreduced (take k s)

-- the run of n bytes between two places, by the difference of the sums before them (02, C-19)
abbrev pub apart : Sums → Sums → ℕ → Run
apart before after n =
    record {
      first = after.first - before.first;
      second = after.second - before.second - n * before.first;
      length = n;
    }

-- a trail of sums goes round: what is noted of place 4 j has its slot at j mod 64 (house)
abbrev pub slot : List ℕ → ℕ → ℕ
slot trail j = get_or trail (j % 64) 0

-- place 4 j is noted: the one trail has the first sum before it, the other the second (house)
pub record NotedAt (s firsts seconds : List ℕ) (j : ℕ) : Type 0 where
  pub first : slot firsts j ≡ (sums_to s (4 * j)).first
  pub second : slot seconds j ≡ (sums_to s (4 * j)).second

-- both trails have their 64 slots, and the last 64 fourth places up to place 4 end are noted (house)
pub record NotedTo (s firsts seconds : List ℕ) (end : ℕ) : Type 0 where
  pub slots : (length firsts ≡ 64) × (length seconds ≡ 64)
  pub places : (j : ℕ) → j ≤ end → end < j + 64 → NotedAt s firsts seconds j
