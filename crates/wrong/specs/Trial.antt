-- The series that show what is wrong with a panel.
use Rattle.std.specs.Prelude.{ℕ, List, [], ◌∷◌, ◌++◌, map}
use Rattle.ground.specs.Below.{up_from}
use Rattle.coordinator.specs.Fresh.{fresh, blank_table}
use Rattle.steps.specs.declared.Event.TheVariants.{Join, Discover}
use Rattle.steps.specs.Start.{setup_of}
use Rattle.series.specs.Series.{Input, World, left}
use Rattle.series.specs.Demand.{frame_with, turn_with, quiet_with}
use Rattle.series.specs.Ours.{ours}

-- the world before setup, and after one with this pool: subnet 3, internal type 1, MAC 9, session 4
abbrev pub before : World
before = record { coordinator = fresh (setup_of [] 0 0 0 0); nodes = blank_table }

abbrev pub begun : List ℕ → World
begun pool = left (ours.start before pool 3 1 9 4)

-- a pool of one address, and of two
abbrev pub one : List ℕ
one = 2 ∷ []

abbrev pub two : List ℕ
two = 2 ∷ 5 ∷ []

-- what comes to the panel, with room for any frame
abbrev pub turn : Input
turn = turn_with 252

abbrev pub quiet : Input
quiet = quiet_with 252

abbrev pub joins : ℕ → ℕ → Input
joins kind mac = record { event = Join kind mac 1 2; received = []; room = 252 }

-- a 1.0 board (02, C-15)
abbrev pub joins_old : ℕ → ℕ → Input
joins_old kind mac = record { event = Join kind mac 1 1; received = []; room = 252 }

abbrev pub hears : List ℕ → Input
hears bytes = frame_with bytes 252

-- the board at address 2, of type 2 with MAC 7 and session 1: it joins, its ACK (003, Table 49), its echo of the list of itself alone (003, Table 31)
abbrev pub first : Input
first = joins 2 7

abbrev pub ack : Input
ack =
    hears (255 ∷ 2 ∷ 3 ∷ 0 ∷ 0 ∷ 0 ∷ 2 ∷ 0 ∷ 128 ∷ 17 ∷ 6 ∷ 7 ∷ 0 ∷ 0 ∷ 0 ∷ 0 ∷ 0 ∷ 0 ∷ 0 ∷ 1 ∷ 0 ∷ 0 ∷ 0 ∷ 0 ∷ 0 ∷ 0 ∷ 0 ∷ 105 ∷ 69 ∷ [])

abbrev pub echo : Input
echo = hears (255 ∷ 2 ∷ 3 ∷ 0 ∷ 0 ∷ 0 ∷ 2 ∷ 148 ∷ 0 ∷ 2 ∷ 1 ∷ 2 ∷ 131 ∷ 49 ∷ [])

-- another board: it joins, its request for the host from address 5, type 1 with method 0
abbrev pub second : Input
second = joins 5 8

abbrev pub request : Input
request = hears (255 ∷ 5 ∷ 3 ∷ 0 ∷ 0 ∷ 0 ∷ 5 ∷ 1 ∷ 0 ∷ 0 ∷ 64 ∷ 7 ∷ [])

-- it misses twice, and has a third message; it misses twice, answers, and has another message
abbrev pub misses_twice : List Input
misses_twice = first ∷ turn ∷ quiet ∷ turn ∷ quiet ∷ turn ∷ []

abbrev pub answers_between : List Input
answers_between = misses_twice ++ ack ∷ turn ∷ []

-- the same, with another board's request in place of its answer
abbrev pub another_between : List Input
another_between = misses_twice ++ request ∷ turn ∷ []

-- a request of another system's board at address 2, in subnet 4; the same, with that in place of its answer
abbrev pub other_request : Input
other_request = hears (255 ∷ 2 ∷ 4 ∷ 0 ∷ 0 ∷ 0 ∷ 2 ∷ 1 ∷ 0 ∷ 0 ∷ 100 ∷ 231 ∷ [])

-- the same in the subnet of 1.0 boards, 2 (02, C-15)
abbrev pub old_request : Input
old_request = hears (255 ∷ 2 ∷ 2 ∷ 0 ∷ 0 ∷ 0 ∷ 2 ∷ 1 ∷ 0 ∷ 0 ∷ 118 ∷ 215 ∷ [])

abbrev pub other_between : List Input
other_between = misses_twice ++ other_request ∷ []

-- it has its list, and eighteen times there is quiet
abbrev pub listed : List Input
listed = first ∷ turn ∷ []

abbrev six_quiets : List Input
six_quiets = quiet ∷ quiet ∷ quiet ∷ quiet ∷ quiet ∷ quiet ∷ []

abbrev pub eighteen_quiets : List Input
eighteen_quiets = six_quiets ++ six_quiets ++ six_quiets

-- it is offered the bus, and has not answered
abbrev pub offered_once : List Input
offered_once = first ∷ turn ∷ quiet ∷ turn ∷ []

-- it has had its list; it has had its list and an offer, and has answered neither
abbrev pub listed_once : List Input
listed_once = first ∷ turn ∷ quiet ∷ []

abbrev pub joined_once : List Input
joined_once = offered_once ++ quiet ∷ []

-- it joins again after that
abbrev pub joins_again : List Input
joins_again = offered_once ++ quiet ∷ first ∷ []

-- it joins again as a 1.0 board (02, C-15)
abbrev pub came_back_old : List Input
came_back_old = joined_once ++ joins_old 2 7 ∷ []

-- it joins again as another type, 3
abbrev pub retyped : List Input
retyped = joined_once ++ joins 3 7 ∷ []

-- a second board, at address 5, is of type 3 from the beginning; the first joins again as that type
abbrev pub retyped_below : List Input
retyped_below = first ∷ turn ∷ quiet ∷ turn ∷ ack ∷ joins 3 8 ∷ turn ∷ quiet ∷ turn ∷ quiet ∷ turn ∷ request ∷ joins 3 7 ∷ []

-- both have their lists, and the next offer is the second's
abbrev pub retyped_listed : List Input
retyped_listed = retyped_below ++ turn ∷ quiet ∷ turn ∷ quiet ∷ turn ∷ quiet ∷ []

-- a board of this type joins at address 5, and the first, which misses its third message, is dropped
abbrev pub dropped_below : ℕ → List Input
dropped_below kind = joined_once ++ joins kind 10 ∷ turn ∷ quiet ∷ []

-- one of the second board's type is at address 5, has had its list and an offer, and the first position is free
abbrev free_below : List Input
free_below = dropped_below 5 ++ turn ∷ quiet ∷ turn ∷ quiet ∷ []

-- the second board joins there
abbrev pub joined_below : List Input
joined_below = free_below ++ second ∷ []

-- its request for a board of type 3: type 1 with method 2
abbrev pub asks_for_type : List ℕ
asks_for_type = 255 ∷ 5 ∷ 3 ∷ 2 ∷ 3 ∷ 0 ∷ 3 ∷ 1 ∷ 0 ∷ 0 ∷ 37 ∷ 31 ∷ []

-- it has had its list and an offer; nine lists more
abbrev pub first_round : List Input
first_round = first ∷ turn ∷ echo ∷ turn ∷ ack ∷ []

abbrev three_lists : List Input
three_lists = turn ∷ echo ∷ turn ∷ echo ∷ turn ∷ echo ∷ []

abbrev pub nine_lists : List Input
nine_lists = three_lists ++ three_lists ++ three_lists

-- two boards; then two lists and an offer, the first board joins again, two lists and an offer
abbrev pub both_join : List Input
both_join = first ∷ turn ∷ quiet ∷ turn ∷ ack ∷ second ∷ []

abbrev pub two_offers : List Input
two_offers =
    turn ∷ quiet ∷ turn ∷ quiet ∷ turn ∷ ack ∷ first ∷ turn ∷ quiet ∷ turn ∷ quiet ∷ turn ∷ []

-- two 1.0 boards of one type: the second of them stands in no condensed list (02, C-15)
abbrev pub both_old : List Input
both_old = joins_old 2 7 ∷ turn ∷ quiet ∷ turn ∷ ack ∷ joins_old 2 8 ∷ []

-- a 1.0 board, then a later one of another type, 3 (02, C-15)
abbrev pub old_and_later : List Input
old_and_later = joins_old 2 7 ∷ turn ∷ quiet ∷ turn ∷ ack ∷ joins 3 8 ∷ []

-- a pool of sixteen addresses, and for it sixteen boards of sixteen types, the first of them a 1.0 board (02, C-15)
abbrev pub sixteen : List ℕ
sixteen = up_from 16 16

abbrev pub sixteen_types : List Input
sixteen_types = joins_old 1 1 ∷ map (λ n. joins n n) (up_from 2 15)

-- boards without an address are looked for; the second board answers, the first one does (003, Table 58); the second board takes address 2 (003, Table 60)
abbrev pub discover : Input
discover = record { event = Discover; received = []; room = 252 }

abbrev pub second_answers : Input
second_answers =
    hears (255 ∷ 0 ∷ 0 ∷ 0 ∷ 0 ∷ 0 ∷ 5 ∷ 249 ∷ 0 ∷ 18 ∷ 5 ∷ 0 ∷ 8 ∷ 0 ∷ 0 ∷ 0 ∷ 0 ∷ 0 ∷ 0 ∷ 0 ∷ 1 ∷ 0 ∷ 0 ∷ 0 ∷ 0 ∷ 0 ∷ 0 ∷ 0 ∷ 97 ∷ 212 ∷ [])

abbrev pub first_answers : Input
first_answers =
    hears (255 ∷ 0 ∷ 0 ∷ 0 ∷ 0 ∷ 0 ∷ 2 ∷ 249 ∷ 0 ∷ 18 ∷ 2 ∷ 0 ∷ 7 ∷ 0 ∷ 0 ∷ 0 ∷ 0 ∷ 0 ∷ 0 ∷ 0 ∷ 1 ∷ 0 ∷ 0 ∷ 0 ∷ 0 ∷ 0 ∷ 0 ∷ 0 ∷ 240 ∷ 76 ∷ [])

abbrev pub second_takes : Input
second_takes =
    hears (255 ∷ 2 ∷ 3 ∷ 0 ∷ 0 ∷ 0 ∷ 5 ∷ 250 ∷ 0 ∷ 19 ∷ 2 ∷ 3 ∷ 8 ∷ 0 ∷ 0 ∷ 0 ∷ 0 ∷ 0 ∷ 0 ∷ 0 ∷ 1 ∷ 0 ∷ 0 ∷ 0 ∷ 0 ∷ 0 ∷ 0 ∷ 0 ∷ 1 ∷ 221 ∷ 80 ∷ [])

-- the second board is found, nobody has address 2, and it takes it
abbrev pub second_found : List Input
second_found = second_answers ∷ turn ∷ quiet ∷ turn ∷ second_takes ∷ []

-- and so where one of its type is at address 5
abbrev pub found_below : List Input
found_below = free_below ++ discover ∷ second_found

-- the first board misses twice, and answers a discovery; nobody answers at its own address, and it is given it again
abbrev pub first_found : List Input
first_found = first ∷ turn ∷ quiet ∷ turn ∷ quiet ∷ discover ∷ first_answers ∷ turn ∷ quiet ∷ turn ∷ []

-- the first board answers a discovery as another type, 3, and takes its own address again (003, Tables 58 and 60)
abbrev pub another_answers : Input
another_answers =
    hears (255 ∷ 0 ∷ 0 ∷ 0 ∷ 0 ∷ 0 ∷ 3 ∷ 249 ∷ 0 ∷ 18 ∷ 3 ∷ 0 ∷ 7 ∷ 0 ∷ 0 ∷ 0 ∷ 0 ∷ 0 ∷ 0 ∷ 0 ∷ 1 ∷ 0 ∷ 0 ∷ 0 ∷ 0 ∷ 0 ∷ 0 ∷ 0 ∷ 198 ∷ 116 ∷ [])

abbrev pub another_takes : Input
another_takes =
    hears (255 ∷ 2 ∷ 3 ∷ 0 ∷ 0 ∷ 0 ∷ 3 ∷ 250 ∷ 0 ∷ 19 ∷ 2 ∷ 3 ∷ 7 ∷ 0 ∷ 0 ∷ 0 ∷ 0 ∷ 0 ∷ 0 ∷ 0 ∷ 1 ∷ 0 ∷ 0 ∷ 0 ∷ 0 ∷ 0 ∷ 0 ∷ 0 ∷ 1 ∷ 32 ∷ 17 ∷ [])

abbrev pub found_retyped : List Input
found_retyped = joined_once ++ discover ∷ another_answers ∷ turn ∷ quiet ∷ turn ∷ another_takes ∷ []

-- two discoveries that nobody answers
abbrev pub two_discoveries : List Input
two_discoveries = discover ∷ quiet ∷ discover ∷ []
