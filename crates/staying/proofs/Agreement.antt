-- What is seen of a series agrees with what the panel's records hold, and how a step keeps it so.
use Prim.Native.Nat.{ℕ, ◌≤◌}
use native.Mathlib.Omega.{arith}
use native.Mathlib.Decide.{ℕ_discrete}
use mathlib.Core.Path.{◌≡◌, refl, sym, ap, subst, ◌∙◌}
use mathlib.Core.Bool.{Bool, true, false, not, false≢true}
use mathlib.Core.List.{List}
use lib.ListN.{length}
use lib.Dec.{eqb}
use borrow.Author.Tests.{eq-eqb, ne_eqb}
use Rattle.ground.specs.Choose.{choose}
use Rattle.ground.proofs.Choices.{choose_yes, choose_no}
use Rattle.refusal.specs.Refusal.{number_of, ruled}
use Rattle.refusal.specs.declared.Refusal.{Refusal}
use Rattle.refusal.proofs.Numbers.{not_zero}
use Rattle.refusal.proofs.Rules.{Passed, each, by_rules}
use Rattle.board.specs.declared.Node.{Node}
use Rattle.board.specs.Node.{is_listed}
use Rattle.board.specs.Table.{at, put, listed_at}
use Rattle.board.specs.Change.{owe_all, relisted}
use Rattle.board.proofs.Changes.{SameBoard, at_put, at_put_other, owe_all_keeps}
use Rattle.board.proofs.Numbered.{relisted_keeps}
use Rattle.coordinator.specs.declared.Found.{Found}
use Rattle.coordinator.specs.declared.Part.{Part}
use Rattle.coordinator.specs.declared.Part.TheVariants.{Search, IdentifyDue, Identify, Present, AssignDue, Assign}
use Rattle.coordinator.specs.declared.Phase.{Phase}
use Rattle.coordinator.specs.declared.Phase.TheVariants.{Resting, Awaiting, ForwardDue, ReturnDue, Seeking, Unknown}
use Rattle.coordinator.specs.declared.Coordinator.{Coordinator}
use Rattle.coordinator.specs.Phase.{phase_of}
use Rattle.coordinator.specs.Fit.{fits}
use Rattle.coordinator.proofs.Fitting.{Board, fits_forty}
use Rattle.steps.specs.declared.Event.{Event}
use Rattle.steps.specs.After.{After, refused}
use Rattle.series.specs.Series.{is_accepted, is_seek}
use Rattle.series.specs.Observed.{Who, recorded, Seen, changed, saw_event}

-- a wait of this kind, and no message to a board
abbrev pub Seeks : ℕ → Seen → Type 0
Seeks kind s = (s.wait ≡ kind) × (s.awaited ≡ 0)

-- in the exchange by which a board joins the wait is its part's, no message to a board is waited for, and from the discovery's response on who answered is what was discovered
abbrev pub InPart : Seen → Found → Part → Type 0
InPart s f Search = Seeks 5 s
InPart s f IdentifyDue = (s.found ≡ f) × (s.awaited ≡ 0)
InPart s f Identify = (Seeks 6 s) × (s.found ≡ f)
InPart s f Present = (Seeks 6 s) × (s.found ≡ f)
InPart s f AssignDue = (s.found ≡ f) × (s.awaited ≡ 0)
InPart s f Assign = (Seeks 7 s) × (s.found ≡ f)

-- in a wait for a board, that board and whether it was heard in it are those of the phase; outside of a wait nothing is asked
abbrev pub Waits : Seen → Found → Phase → Type 0
Waits s f Resting = Unit {0}
Waits s f (Awaiting board exchange requester acked) = (s.awaited ≡ board) × ((s.heard ≡ acked) × (is_seek s.wait ≡ false))
Waits s f (ForwardDue board requester) = Unit {0}
Waits s f (ReturnDue board) = Unit {0}
Waits s f (Seeking position part) = InPart s f part
Waits s f Unknown = Unit {0}

-- the list is the table's, the run of each listed board is its misses, who it is is the record's, and the wait is the phase's
pub record Agrees (s : Seen) (c : Coordinator) (t : List Node) : Type 0 where
  pub listed : (p : ℕ) → s.listed p ≡ listed_at t p
  pub run : (p : ℕ) → listed_at t p ≡ true → s.run p ≡ (at t p).misses
  pub who : (p : ℕ) → listed_at t p ≡ true → s.who p ≡ recorded (at t p)
  pub wait : Waits s c.found (phase_of c.stand)

-- position p is listed in one table and not in the other
abbrev pub Gone : List Node → List Node → ℕ → Type 0
Gone t u p = (listed_at t p ≡ true) × (listed_at u p ≡ false)

-- the run of unanswered messages to position p comes from two to three
abbrev pub Thrice : Seen → Seen → ℕ → Type 0
Thrice s s' p = (s.run p ≡ 2) × (s'.run p ≡ 3)

-- a step after which s' is seen: it keeps the agreement, and a board leaves the list exactly when its run comes to three
pub record Tells (s s' : Seen) (t : List Node) (a : After) : Type 0 where
  pub agrees : Agrees s' a.coordinator a.nodes
  pub only : (p : ℕ) → Gone t a.nodes p → Thrice s s' p
  pub then : (p : ℕ) → Thrice s s' p → Gone t a.nodes p

-- a step by which nobody leaves the list and no run comes from two to three
pub nobody_leaves : {s s' : Seen} {t : List Node} {a : After} → Agrees s' a.coordinator a.nodes → ((p : ℕ) → listed_at t p ≡ true → listed_at a.nodes p ≡ true) → ((p : ℕ) → Thrice s s' p → ⊥) → Tells s s' t a
nobody_leaves g stay never = record { agrees = g; only = λ p (l, n). absurd (false≢true (sym n ∙ stay p l)); then = λ p e. absurd (never p e) }

-- what a change at position b leaves there, and elsewhere
module _ {ℓ} {A : Type ℓ} (f : ℕ → A) (b : ℕ) (v : A) (q : ℕ) where
  pub changed_here : q ≡ b → changed f b v q ≡ v
  unfolding choose
  changed_here e = rw (eq-eqb q b e) refl

  pub changed_other : (q ≡ b → ⊥) → changed f b v q ≡ f q
  unfolding choose
  changed_other ne = rw (ne_eqb q b ne) refl

  -- what holds of the new value there and of the old one elsewhere
  pub changed_case {κ} : (P : A → Type κ) → (q ≡ b → P v) → ((q ≡ b → ⊥) → P (f q)) → P (changed f b v q)
  changed_case P here other = go (ℕ_discrete q b)
    where
      go : Dec (q ≡ b) → P (changed f b v q)
      go (yes e) = subst P (sym (changed_here e)) (here e)
      go (no ne) = subst P (sym (changed_other ne)) (other ne)

-- a change to what was there is none
pub changed_none {ℓ} : {A : Type ℓ} (f : ℕ → A) (b : ℕ) (v : A) → f b ≡ v → (q : ℕ) → f q ≡ changed f b v q
changed_none f b v e q = changed_case f b v q (λ x. f q ≡ x) (λ h. ap f h ∙ e) (λ ne. refl)

-- a listed board's position is one of the table
pub inside : (c : Coordinator) (t : List Node) → fits c t ≡ true → {b : ℕ} → Board c t b → b ≤ length t
inside c t h board = omega (arith, board.up_to, board.few, fits_forty c t h)

-- two tables that differ, in who is listed, in the misses and in who each one is, at position b only
pub record Changes (t u : List Node) (b : ℕ) (l : Bool) (m : ℕ) (n : Who) : Type 0 where
  pub listed : (p : ℕ) → listed_at u p ≡ changed (listed_at t) b l p
  pub misses : (p : ℕ) → (at u p).misses ≡ changed (λ q. (at t q).misses) b m p
  pub who : (p : ℕ) → recorded (at u p) ≡ changed (λ q. recorded (at t q)) b n p

pub put_changes : (t : List Node) (b : ℕ) (n : Node) {l : Bool} {m : ℕ} → 1 ≤ b → b ≤ length t → is_listed n ≡ l → n.misses ≡ m → Changes t (put t b n) b l m (recorded n)
put_changes t b n from up_to el em = record { listed = each_is is_listed el; misses = each_is (λ m. m.misses) em; who = each_is recorded refl }
  where
    each_is : {A : Type 0} (f : Node → A) {v : A} → f n ≡ v → (p : ℕ) → f (at (put t b n) p) ≡ changed (λ q. f (at t q)) b v p
    each_is f {v} e p = changed_case (λ q. f (at t q)) b v p (λ x. f (at (put t b n) p) ≡ x) (λ here. ap f (ap (at (put t b n)) here ∙ at_put t b n from up_to) ∙ e) (λ ne. ap f (at_put_other t b p n ne))

-- a change that leaves each board where it was is none such
alike_changes : {t u : List Node} (v : List Node) {b : ℕ} {l : Bool} {m : ℕ} {n : Who} → ((p : ℕ) → SameBoard (at v p) (at u p)) → Changes t u b l m n → Changes t v b l m n
alike_changes v same g = record { listed = λ p. ap (λ (k : ℕ). not (eqb k 0)) (same p).kind ∙ g.listed p; misses = λ p. (same p).misses ∙ g.misses p; who = λ p. (λ i. record { kind = (same p).kind i; version = (same p).version i; mac = (same p).mac i }) ∙ g.who p }

-- as owing the list to all does, and counting every index anew with it
pub owe_changes : {t u : List Node} {b : ℕ} {l : Bool} {m : ℕ} {n : Who} → Changes t u b l m n → Changes t (owe_all u) b l m n
owe_changes {u = u} = alike_changes (owe_all u) (owe_all_keeps u)

pub relist_changes : {t u : List Node} {b : ℕ} {l : Bool} {m : ℕ} {n : Who} → Changes t u b l m n → Changes t (relisted u) b l m n
relist_changes {u = u} = alike_changes (relisted u) (relisted_keeps u)

-- a change that is seen as it is made: who is listed, and the run and who it is where the board stays listed
pub record Sees (s s' : Seen) (b : ℕ) (l : Bool) (v : ℕ) (n : Who) : Type 0 where
  pub listed : (p : ℕ) → s'.listed p ≡ changed s.listed b l p
  pub run : (p : ℕ) → s'.run p ≡ changed s.run b v p
  pub who : (p : ℕ) → s'.who p ≡ changed s.who b n p

-- what is seen of a listed board is the record's after the change as it was before
seen_changed : {A : Type 0} (t u : List Node) (b : ℕ) {l : Bool} (f : Node → A) (old new : ℕ → A) {v m : A} → ((p : ℕ) → listed_at u p ≡ changed (listed_at t) b l p) → ((p : ℕ) → f (at u p) ≡ changed (λ q. f (at t q)) b m p) → ((p : ℕ) → new p ≡ changed old b v p) → ((p : ℕ) → listed_at t p ≡ true → old p ≡ f (at t p)) → (l ≡ true → v ≡ m) → (p : ℕ) → listed_at u p ≡ true → new p ≡ f (at u p)
seen_changed t u b {l} f old new {v} {m} listed held seen_as was same p h = seen_as p ∙ go (ℕ_discrete p b) ∙ sym (held p)
  where
    go : Dec (p ≡ b) → changed old b v p ≡ changed (λ q. f (at t q)) b m p
    go (yes e) = changed_here old b v p e ∙ same (sym (changed_here (listed_at t) b l p e) ∙ sym (listed p) ∙ h) ∙ sym (changed_here (λ q. f (at t q)) b m p e)
    go (no ne) = changed_other old b v p ne ∙ was p (sym (changed_other (listed_at t) b l p ne) ∙ sym (listed p) ∙ h) ∙ sym (changed_other (λ q. f (at t q)) b m p ne)

pub agrees_changed : {s s' : Seen} {c c' : Coordinator} {t u : List Node} {b : ℕ} {l : Bool} {m v : ℕ} {n x : Who} → Agrees s c t → Changes t u b l m n → (l ≡ true → v ≡ m) → (l ≡ true → x ≡ n) → Sees s s' b l v x → Waits s' c'.found (phase_of c'.stand) → Agrees s' c' u
agrees_changed {s} {s'} {t = t} {u} {b} {l} g ch same alike sees wait =
    record {
      listed = λ p. sees.listed p ∙ ap (choose (eqb p b) l) (g.listed p) ∙ sym (ch.listed p);
      run = seen_changed t u b (λ n. n.misses) s.run s'.run ch.listed ch.misses sees.run g.run same;
      who = seen_changed t u b recorded s.who s'.who ch.listed ch.who sees.who g.who alike;
      wait = wait;
    }

-- so nobody leaves the list where the board at b stays or comes on it, and its run is not the one that comes from two to three
pub listed_tells : {s s' : Seen} {c : Coordinator} {t : List Node} {a : After} {b m v : ℕ} {n x : Who} → Agrees s c t → Changes t a.nodes b true m n → v ≡ m → x ≡ n → (s.run b ≡ 2 → v ≡ 3 → ⊥) → Sees s s' b true v x → Waits s' a.coordinator.found (phase_of a.coordinator.stand) → Tells s s' t a
listed_tells {s} {s'} {t = t} {a} {b} {v = v} g ch same alike below sees wait = nobody_leaves (agrees_changed g ch (λ _. same) (λ _. alike) sees wait) stay never
  where
    stay : (p : ℕ) → listed_at t p ≡ true → listed_at a.nodes p ≡ true
    stay p l = ch.listed p ∙ changed_case (listed_at t) b true p (λ x. x ≡ true) (λ e. refl) (λ ne. l)

    never : (p : ℕ) → Thrice s s' p → ⊥
    never p (two, three) = changed_case s.run b v p (λ x. x ≡ 3 → ⊥) (λ e m. below (sym (ap s.run e) ∙ two) m) (λ ne m. omega arith) (sym (sees.run p) ∙ three)

-- a step that leaves who is listed, the misses and who each one is as they were, and of which the same is seen
pub still_tells : {s s' : Seen} {c : Coordinator} {t : List Node} {a : After} → Agrees s c t → ((p : ℕ) → listed_at a.nodes p ≡ listed_at t p) → ((p : ℕ) → (at a.nodes p).misses ≡ (at t p).misses) → ((p : ℕ) → recorded (at a.nodes p) ≡ recorded (at t p)) → ((p : ℕ) → s'.listed p ≡ s.listed p) → ((p : ℕ) → s'.run p ≡ s.run p) → ((p : ℕ) → s'.who p ≡ s.who p) → Waits s' a.coordinator.found (phase_of a.coordinator.stand) → Tells s s' t a
still_tells g listed misses whos l r n wait =
    nobody_leaves (record { listed = λ p. l p ∙ g.listed p ∙ sym (listed p); run = λ p h. r p ∙ g.run p (sym (listed p) ∙ h) ∙ sym (misses p); who = λ p h. n p ∙ g.who p (sym (listed p) ∙ h) ∙ sym (whos p); wait = wait })
    (λ p h. listed p ∙ h) (λ p e. omega (arith, r p))

-- what is asked of a step that leaves a after this event with these bytes received: it is seen where it is accepted
abbrev pub Told : Seen → List Node → Event → List ℕ → After → Type 0
Told s t event received a = Tells s (choose (is_accepted a.says) (saw_event event received a s) s) t a

-- a step that is accepted is seen
pub seen_tells : {s : Seen} {t : List Node} {a : After} (event : Event) (received : List ℕ) → a.says.number ≡ 0 → Tells s (saw_event event received a s) t a → Told s t event received a
seen_tells {s} {t} {a} event received e g = subst (λ (s' : Seen). Tells s s' t a) (choose_yes (is_accepted a.says) (saw_event event received a s) (saw_event event received a s) s (eq-eqb a.says.number 0 e) refl) g

module _ (s : Seen) (c : Coordinator) (t : List Node) (event : Event) (received : List ℕ) (g : Agrees s c t) where
  -- a refusal shows nothing and changes nothing
  pub refused_tells : (r : Refusal) → Told s t event received (refused c t r)
  refused_tells r = subst (λ (s' : Seen). Tells s s' t (refused c t r)) (choose_no (is_accepted (refused c t r).says) s (saw_event event received (refused c t r) s) s (ne_eqb (number_of r) 0 (not_zero r)) refl) (nobody_leaves g (λ p l. l) (λ p e. omega arith))

  -- so only the value of a step by rules is looked at
  pub rules_tell : (rules : List (Bool × Refusal)) (a : After) → (Passed rules → Told s t event received a) → Told s t event received (ruled rules (refused c t) a)
  rules_tell rules a value = by_rules (Told s t event received) rules (refused c t) a (each refused_tells rules) value
