-- What a reader may rely on: a request goes to a listed board other than its sender that it names, and is discarded exactly where
-- there is no such board or the board is the sender.
use Prim.Native.Nat.{ℕ, ◌≤◌, ◌<◌, min}
use native.Mathlib.Omega.{arith}
use native.Mathlib.Decide.{ℕ_discrete}
use mathlib.Core.Path.{◌≡◌, refl, ap, sym, subst, ◌∙◌}
use mathlib.Core.Logic.{◌⊎◌, inl, inr}
use mathlib.Core.List.{List, [], ◌∷◌, ◌++◌}
use mathlib.Core.Bool.{Bool, true, false, ◌&&◌, ◌||◌, not, false≢true}
use lib.ListN.{length}
use lib.Dec.{eqb, leb, ltb}
use borrow.Author.Tests.{eqb-true, eqb-false, eq-eqb, ne_eqb, ltb-true, leb-true, lt-ltb, le-leb}
use Rattle.ground.specs.Choose.{choose}
use Rattle.ground.specs.Below.{first_or, among}
use Rattle.ground.proofs.Choices.{and_left, and_right, both}
use Rattle.ground.proofs.Firsts.{First}
use Rattle.ground.proofs.Picks.{first_passes, first_among, first_after}
use Rattle.board.specs.declared.Node.{Node}
use Rattle.board.specs.declared.Wanted.TheVariants.{Kind}
use Rattle.board.specs.Table.{at, listed_at}
use Rattle.board.specs.Wanted.{wanted_at, lowest_of}
use Rattle.board.proofs.Positions.{listed_within}
use Rattle.board.proofs.LowestWanted.{lowest_wanted, lowest_found}
use Rattle.board.proofs.SameKinds.{SameKinds, kinds_listed, kinds_lowest}
use Rattle.routing.specs.Priority.{priority_list, dash}
use Rattle.routing.specs.Route.{has_kind, priority_kind, at_socket, named_position, route_of}
use Rattle.routing.specs.Suits.{meant, Suits}

-- a listed position has a type other than 0
listed_kind : (t : List Node) (p : ℕ) → listed_at t p ≡ true → (at t p).kind ≡ 0 → ⊥
listed_kind t p h e = false≢true (sym (ap not (eq-eqb (at t p).kind 0 e)) ∙ h)

-- a board of a type is at the lowest position of that type, and there is none where that is 0
module _ (t : List Node) (k kind : ℕ) where
  lowest_is : 0 < lowest_of t (Kind kind) k → (listed_at t (lowest_of t (Kind kind) k) ≡ true) × ((at t (lowest_of t (Kind kind) k)).kind ≡ kind) × (lowest_of t (Kind kind) k ≤ k)
  lowest_is h =
      (and_left (listed_at t (lowest_of t (Kind kind) k)) (eqb (at t (lowest_of t (Kind kind) k)).kind kind) first.passes, eqb-true (at t (lowest_of t (Kind kind) k)).kind kind (and_right (listed_at t (lowest_of t (Kind kind) k)) (eqb (at t (lowest_of t (Kind kind) k)).kind kind) first.passes), omega (arith, first.within))
    where
      first : First (wanted_at (Kind kind) t) 1 (min k 40) (lowest_of t (Kind kind) k)
      first = lowest_wanted t (Kind kind) k h

  lowest_any : (p : ℕ) → length t ≡ 40 → 1 ≤ p → p ≤ k → listed_at t p ≡ true → (at t p).kind ≡ kind → 0 < lowest_of t (Kind kind) k
  lowest_any p size l w h e =
      (lowest_found t (Kind kind) k p (both (listed_at t p) (eqb (at t p).kind kind) h (eq-eqb (at t p).kind kind e)) l (omega (arith, (listed_within t p size h).1))).from

-- no method but 1, 2 and 3 names a board
named_other : (t : List Node) (k method parameter : ℕ) → (method ≡ 1 → ⊥) → (method ≡ 2 → ⊥) → (method ≡ 3 → ⊥) → named_position t k method parameter ≡ 0
unfolding named_position choose
named_other t k method parameter a b c = rw (ne_eqb method 1 a, ne_eqb method 2 b, ne_eqb method 3 c) refl

meant_other : (method parameter p kind : ℕ) → (method ≡ 1 → ⊥) → (method ≡ 2 → ⊥) → (method ≡ 3 → ⊥) → meant method parameter p kind ≡ false
unfolding meant choose
meant_other method parameter p kind a b c = rw (ne_eqb method 1 a, ne_eqb method 2 b, ne_eqb method 3 c) refl

-- the methods one by one: what is named suits
suits_command : (t : List Node) (k code : ℕ) → 0 < named_position t k 1 code → Suits t k 1 code (named_position t k 1 code)
unfolding named_position choose meant priority_kind
suits_command t k code h = go (lowest_is t k (priority_kind t k code) h)
  where
    go : (listed_at t (lowest_of t (Kind (priority_kind t k code)) k) ≡ true) × ((at t (lowest_of t (Kind (priority_kind t k code)) k)).kind ≡ priority_kind t k code) × (lowest_of t (Kind (priority_kind t k code)) k ≤ k) → Suits t k 1 code (lowest_of t (Kind (priority_kind t k code)) k)
    go (listed, kind, within) =
        record { from = h; within = within; listed = listed; meets = rw kind (first_among 0 (has_kind t k) (priority_list code) (λ e. listed_kind t (lowest_of t (Kind (priority_kind t k code)) k) listed (kind ∙ e))) }

suits_kind : (t : List Node) (k kind : ℕ) → 0 < named_position t k 2 kind → Suits t k 2 kind (named_position t k 2 kind)
unfolding named_position choose meant
suits_kind t k kind h = go (lowest_is t k kind h)
  where
    go : (listed_at t (lowest_of t (Kind kind) k) ≡ true) × ((at t (lowest_of t (Kind kind) k)).kind ≡ kind) × (lowest_of t (Kind kind) k ≤ k) → Suits t k 2 kind (lowest_of t (Kind kind) k)
    go (listed, same, within) = record { from = h; within = within; listed = listed; meets = eq-eqb (at t (lowest_of t (Kind kind) k)).kind kind same }

suits_socket : (t : List Node) (k p : ℕ) → 0 < named_position t k 3 p → Suits t k 3 p (named_position t k 3 p)
unfolding named_position choose meant at_socket
suits_socket t k p h = go (ltb 0 p) refl (leb p k) refl (listed_at t p) refl h
  where
    go : (a : Bool) → ltb 0 p ≡ a → (b : Bool) → leb p k ≡ b → (c : Bool) → listed_at t p ≡ c → 0 < choose (a && b && c) p 0 → Suits t k 3 p (choose (a && b && c) p 0)
    go true e true f true g l = record { from = ltb-true 0 p e; within = leb-true p k f; listed = g; meets = eq-eqb p p refl }
    go true e true f false g l = absurd (let z : ⊥ = omega arith in z)
    go true e false f c g l = absurd (let z : ⊥ = omega arith in z)
    go false e b f c g l = absurd (let z : ⊥ = omega arith in z)

-- and where nothing is named nothing suits
none_command : (t : List Node) (k code p : ℕ) → length t ≡ 40 → named_position t k 1 code ≡ 0 → Suits t k 1 code p → ⊥
unfolding named_position choose meant priority_kind has_kind
none_command t k code p size z s =
    let found : ltb 0 (lowest_of t (Kind (priority_kind t k code)) k) ≡ true =
    first_passes 0 (has_kind t k) (priority_list code) (at t p).kind s.meets (lt-ltb 0 (lowest_of t (Kind (at t p).kind) k) (lowest_any t k (at t p).kind p size s.from s.within s.listed refl))
    in
    let l : 0 < lowest_of t (Kind (priority_kind t k code)) k = ltb-true 0 (lowest_of t (Kind (priority_kind t k code)) k) found in
    omega arith

none_kind : (t : List Node) (k kind p : ℕ) → length t ≡ 40 → named_position t k 2 kind ≡ 0 → Suits t k 2 kind p → ⊥
unfolding named_position choose meant
none_kind t k kind p size z s =
    let l : 0 < lowest_of t (Kind kind) k = lowest_any t k kind p size s.from s.within s.listed (eqb-true (at t p).kind kind s.meets) in omega arith

none_socket : (t : List Node) (k q p : ℕ) → named_position t k 3 q ≡ 0 → Suits t k 3 q p → ⊥
unfolding named_position choose meant at_socket
none_socket t k q p z s = go (subst (Suits t k 3 q) (eqb-true p q s.meets) s)
  where
    tested : Suits t k 3 q q → (ltb 0 q && leb q k && listed_at t q) ≡ true
    tested s = rw (lt-ltb 0 q s.from, le-leb q k s.within, s.listed) refl

    go : Suits t k 3 q q → ⊥
    go s = let e : q ≡ 0 = rw (tested s) at z in omega (arith, s.from)

-- what holds for methods 1, 2, 3 and for any other holds for all
by_method : (P : ℕ → Type 0) (method : ℕ) → P 1 → P 2 → P 3 → ((method ≡ 1 → ⊥) → (method ≡ 2 → ⊥) → (method ≡ 3 → ⊥) → P method) → P method
by_method P method one two three other = go (ℕ_discrete method 1) (ℕ_discrete method 2) (ℕ_discrete method 3)
  where
    go : Dec (method ≡ 1) → Dec (method ≡ 2) → Dec (method ≡ 3) → P method
    go (yes e) b c = subst P (sym e) one
    go (no a) (yes e) c = subst P (sym e) two
    go (no a) (no b) (yes e) = subst P (sym e) three
    go (no a) (no b) (no c) = other a b c

-- what a request names suits, and where it names nothing no board does
pub named_suits : (t : List Node) (k method parameter : ℕ) → 0 < named_position t k method parameter → Suits t k method parameter (named_position t k method parameter)
named_suits t k method parameter =
    by_method (λ (m : ℕ). 0 < named_position t k m parameter → Suits t k m parameter (named_position t k m parameter)) method (suits_command t k parameter) (suits_kind t k parameter) (suits_socket t k parameter)
    (λ a b c h. absurd (let z : ⊥ = omega (arith, named_other t k method parameter a b c) in z))

pub none_suits : (t : List Node) (k method parameter p : ℕ) → length t ≡ 40 → named_position t k method parameter ≡ 0 → Suits t k method parameter p → ⊥
none_suits t k method parameter p size =
    by_method (λ (m : ℕ). named_position t k m parameter ≡ 0 → Suits t k m parameter p → ⊥) method (none_command t k parameter p size) (none_kind t k parameter p size) (none_socket t k parameter p)
    (λ a b c z s. false≢true (sym (meant_other method parameter p (at t p).kind a b c) ∙ s.meets))

-- a request is discarded where it names nothing, and where it names its sender; and only there
unrouted : (t : List Node) (k sender method parameter : ℕ) → route_of t k sender method parameter ≡ 0 → (named_position t k method parameter ≡ 0) ⊎ (named_position t k method parameter ≡ sender)
unfolding route_of choose
unrouted t k sender method parameter h = go (eqb (named_position t k method parameter) sender) refl h
  where
    go : (b : Bool) → eqb (named_position t k method parameter) sender ≡ b → choose b 0 (named_position t k method parameter) ≡ 0 → (named_position t k method parameter ≡ 0) ⊎ (named_position t k method parameter ≡ sender)
    go true e z = inr (eqb-true (named_position t k method parameter) sender e)
    go false e z = inl z

routes_none : (t : List Node) (k sender method parameter : ℕ) → (named_position t k method parameter ≡ 0) ⊎ (named_position t k method parameter ≡ sender) → route_of t k sender method parameter ≡ 0
unfolding route_of choose
routes_none t k sender method parameter (inr e) = rw (eq-eqb (named_position t k method parameter) sender e) refl
routes_none t k sender method parameter (inl z) = go (eqb (named_position t k method parameter) sender)
  where
    go : (b : Bool) → choose b 0 (named_position t k method parameter) ≡ 0
    go true = refl
    go false = z

-- a request is discarded exactly where there is no such board, or it is the sender itself (01, "Steps")
pub discarded_only : (t : List Node) (k sender method parameter : ℕ) → length t ≡ 40 → route_of t k sender method parameter ≡ 0 → ((p : ℕ) → Suits t k method parameter p → ⊥) ⊎ (named_position t k method parameter ≡ sender)
discarded_only t k sender method parameter size h = go (unrouted t k sender method parameter h)
  where
    go : (named_position t k method parameter ≡ 0) ⊎ (named_position t k method parameter ≡ sender) → ((p : ℕ) → Suits t k method parameter p → ⊥) ⊎ (named_position t k method parameter ≡ sender)
    go (inl z) = inl (λ p s. none_suits t k method parameter p size z s)
    go (inr e) = inr e

pub discarded_there : (t : List Node) (k sender method parameter : ℕ) → ((p : ℕ) → Suits t k method parameter p → ⊥) ⊎ (named_position t k method parameter ≡ sender) → route_of t k sender method parameter ≡ 0
discarded_there t k sender method parameter (inr e) = routes_none t k sender method parameter (inr e)
discarded_there t k sender method parameter (inl none) = go (ℕ_discrete (named_position t k method parameter) 0)
  where
    go : Dec (named_position t k method parameter ≡ 0) → route_of t k sender method parameter ≡ 0
    go (yes z) = routes_none t k sender method parameter (inl z)
    go (no n) = absurd (none (named_position t k method parameter) (named_suits t k method parameter (omega arith)))

-- a request that is not discarded goes to the board that it names, which is not its sender
pub route_named : (t : List Node) (k sender method parameter : ℕ) → 0 < route_of t k sender method parameter → (route_of t k sender method parameter ≡ named_position t k method parameter) × (named_position t k method parameter ≡ sender → ⊥)
unfolding route_of choose
route_named t k sender method parameter h = go (eqb (named_position t k method parameter) sender) refl h
  where
    go : (b : Bool) → eqb (named_position t k method parameter) sender ≡ b → 0 < choose b 0 (named_position t k method parameter) → (choose b 0 (named_position t k method parameter) ≡ named_position t k method parameter) × (named_position t k method parameter ≡ sender → ⊥)
    go true e l = absurd (let z : ⊥ = omega arith in z)
    go false e l = (refl, eqb-false (named_position t k method parameter) sender e)

-- the route is 0, or a board that suits and is not the sender
pub route_suits : (t : List Node) (k sender method parameter : ℕ) → 0 < route_of t k sender method parameter → (Suits t k method parameter (route_of t k sender method parameter)) × (route_of t k sender method parameter ≡ sender → ⊥)
route_suits t k sender method parameter h = go (route_named t k sender method parameter h)
  where
    go : (route_of t k sender method parameter ≡ named_position t k method parameter) × (named_position t k method parameter ≡ sender → ⊥) → (Suits t k method parameter (route_of t k sender method parameter)) × (route_of t k sender method parameter ≡ sender → ⊥)
    go (e, apart) = (rw e (named_suits t k method parameter (omega arith)), λ q. apart (sym e ∙ q))

-- by control command, the first type of the list of which a board is listed is taken
pub command_order : (t : List Node) (k code : ℕ) (before after : List ℕ) (kind : ℕ) → priority_list code ≡ before ++ kind ∷ after → ((other : ℕ) → among other before ≡ true → has_kind t k other ≡ false) → has_kind t k kind ≡ true → named_position t k 1 code ≡ lowest_of t (Kind kind) k
unfolding named_position choose priority_kind
command_order t k code before after kind e none h = rw (e, first_after 0 (has_kind t k) before after kind none h) refl

-- and where the lowest board of that type is the sender the request is discarded: no later type is tried
pub next_not_tried : (t : List Node) (k code : ℕ) (before after : List ℕ) (kind : ℕ) → priority_list code ≡ before ++ kind ∷ after → ((other : ℕ) → among other before ≡ true → has_kind t k other ≡ false) → has_kind t k kind ≡ true → route_of t k (lowest_of t (Kind kind) k) 1 code ≡ 0
next_not_tried t k code before after kind e none h = routes_none t k (lowest_of t (Kind kind) k) 1 code (inr (command_order t k code before after kind e none h))

-- the list of a code outside Table 3
no_list : (code : ℕ) → (code < 100) ⊎ (105 < code) → priority_list code ≡ dash ∷ dash ∷ dash ∷ dash ∷ dash ∷ []
unfolding priority_list choose
no_list code h = rw (differs 100 (omega arith) (omega arith), differs 101 (omega arith) (omega arith), differs 102 (omega arith) (omega arith), differs 103 (omega arith) (omega arith), differs 104 (omega arith) (omega arith), differs 105 (omega arith) (omega arith)) refl
  where
    apart : (n : ℕ) → 100 ≤ n → n ≤ 105 → (code < 100) ⊎ (105 < code) → code ≡ n → ⊥
    apart n a b (inl l) e = omega arith
    apart n a b (inr l) e = omega arith

    differs : (n : ℕ) → 100 ≤ n → n ≤ 105 → eqb code n ≡ false
    differs n a b = ne_eqb code n (apart n a b h)

-- type 0, a code that has no list, and a socket outside 1 to k name no board
pub no_kind : (t : List Node) (k sender : ℕ) → route_of t k sender 2 0 ≡ 0
unfolding meant choose
no_kind t k sender = discarded_there t k sender 2 0 (inl (λ p s. listed_kind t p s.listed (eqb-true (at t p).kind 0 s.meets)))

pub no_code : (t : List Node) (k sender code : ℕ) → (code < 100) ⊎ (105 < code) → route_of t k sender 1 code ≡ 0
unfolding meant choose among
no_code t k sender code h = discarded_there t k sender 1 code (inl (λ p s. listed_kind t p s.listed (only (at t p).kind (rw (no_list code h) at s.meets))))
  where
    only : (x : ℕ) → among x (dash ∷ dash ∷ dash ∷ dash ∷ dash ∷ []) ≡ true → x ≡ 0
    only x a = go (eqb x 0) refl a
      where
        go : (b : Bool) → eqb x 0 ≡ b → (b || (b || (b || (b || (b || false))))) ≡ true → x ≡ 0
        go true e r = eqb-true x 0 e
        go false e r = absurd (false≢true r)

pub no_socket : (t : List Node) (k sender p : ℕ) → (p ≡ 0) ⊎ (k < p) → route_of t k sender 3 p ≡ 0
unfolding meant choose
no_socket t k sender p h = discarded_there t k sender 3 p (inl (λ q s. outside q s (eqb-true q p s.meets) h))
  where
    outside : (q : ℕ) → Suits t k 3 p q → q ≡ p → (p ≡ 0) ⊎ (k < p) → ⊥
    outside q s e (inl z) = omega (arith, s.from)
    outside q s e (inr l) = omega (arith, s.within)

-- a request for the host, by method 0, goes to no board
pub route_host : (t : List Node) (k sender parameter : ℕ) → route_of t k sender 0 parameter ≡ 0
unfolding route_of named_position choose
route_host t k sender parameter = go (eqb 0 sender)
  where
    go : (b : Bool) → ◌≡◌ {A = ℕ} (choose b 0 0) 0
    go true = refl
    go false = refl

-- where a request goes is told by the types alone
module _ {t u : List Node} (same : SameKinds t u) (k : ℕ) where
  kinds_has : has_kind t k ≡ has_kind u k
  unfolding has_kind
  kinds_has = λ i kind. ltb 0 (kinds_lowest same kind k i)

  kinds_priority : (code : ℕ) → priority_kind t k code ≡ priority_kind u k code
  unfolding priority_kind
  kinds_priority code = ap (λ (f : ℕ → Bool). first_or 0 f (priority_list code)) kinds_has

  kinds_socket : (p : ℕ) → at_socket t k p ≡ at_socket u k p
  unfolding at_socket
  kinds_socket p = ap (λ (f : ℕ → Bool). choose (ltb 0 p && leb p k && f p) p 0) (kinds_listed same)

  kinds_named : (method parameter : ℕ) → named_position t k method parameter ≡ named_position u k method parameter
  unfolding named_position
  kinds_named method parameter =
      λ i. choose (eqb method 1) ((kinds_lowest same (priority_kind t k parameter) k ∙ ap (λ (kind : ℕ). lowest_of u (Kind kind) k) (kinds_priority parameter)) i)
      (choose (eqb method 2) (kinds_lowest same parameter k i)
      (choose (eqb method 3) (kinds_socket parameter i) 0))

  pub kinds_route : (sender method parameter : ℕ) → route_of t k sender method parameter ≡ route_of u k sender method parameter
  unfolding route_of
  kinds_route sender method parameter = ap (λ (p : ℕ). choose (eqb p sender) 0 p) (kinds_named method parameter)
