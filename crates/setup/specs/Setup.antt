-- The panel's setup (01, "Boards and positions") and what its step refuses.
use Rattle.std.specs.Prelude.{ℕ, ◌+◌, ◌-◌, Bool, ◌&&◌, not, List, [], ◌∷◌, get_or, length, take, leb, ltb, Result, Ok, Err}
use Rattle.ground.specs.Choose.{choose}
use Rattle.ground.specs.Below.{all, up_from}
use Rattle.refusal.specs.declared.Refusal.{Refusal}
use Rattle.refusal.specs.declared.Refusal.TheVariants.{BadPool, BadMac}
use Rattle.refusal.specs.Refusal.{Told, refuses, gives}
use Rattle.board.specs.Node.{is_mac, is_old}
use Rattle.setup.specs.declared.Setup.{Setup}

-- the first n are addresses, each 1 to 254 (01, "each 1 to 254")
abbrev pub are_addresses : List ℕ → ℕ → Bool
are_addresses addresses n = all (λ i. ltb 0 (get_or addresses i 0) && leb (get_or addresses i 0) 254) n

-- each of the first n is below the next (01, "strictly rising")
abbrev pub are_rising : List ℕ → ℕ → Bool
are_rising addresses n = all (λ i. ltb (get_or addresses i 0) (get_or addresses (i + 1) 0)) n

-- the first k are a pool: k from 1 to 40, strictly rising, each 1 to 254 (01, "Boards and positions")
unfoldable pub are_pool : ℕ → List ℕ → Bool
are_pool k addresses = ltb 0 k && leb k 40 && (are_addresses addresses k && are_rising addresses (k - 1))

-- the whole list is a pool
abbrev pub is_pool : List ℕ → Bool
is_pool addresses = are_pool (length addresses) addresses

-- the shipped pool, 16 to 55: the first forty of Table 2's range for boards later than 1.0 (000, Table 2)
abbrev pub shipped_pool : List ℕ
shipped_pool = up_from 16 40

-- position i, from 1 to k, stands for the pool's i-th address (01, "Boards and positions"); 0 elsewhere
unfoldable pub address : Setup → ℕ → ℕ
address s p = get_or (0 ∷ take s.k s.pool) p 0

-- the subnet of 1.0 boards (000, 11.11, 2.1.2.1.1)
abbrev pub old_subnet : ℕ
old_subnet = 2

-- the subnet of a board of a version: a 1.0 board's, or ours (000, 11.11, 2.1.2; 02, C-15)
abbrev pub subnet_of : Setup → ℕ → ℕ
subnet_of s version = choose (is_old version) old_subnet s.subnet

-- pool and own MAC as the rules say (01, "Fit")
unfoldable pub setup_fits : Setup → Bool
setup_fits s = are_pool s.k s.pool && is_mac s.mac

-- what setup refuses, in its order: 21, 13 (01, "Order")
abbrev pub setup_rules : List ℕ → ℕ → List (Bool × Refusal)
setup_rules addresses mac = (not (is_pool addresses), BadPool) ∷ (not (is_mac mac), BadMac) ∷ []

-- what a judgement says: number 0, or the refusal's
abbrev pub told_of : Result (Unit {0}) Refusal → Told
told_of (Ok _) = gives []
told_of (Err r) = refuses r
