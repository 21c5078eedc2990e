-- "An exchange that ends well produces exactly one join; one that breaks off produces none" (02, C-11), over any series.
use Prim.Native.Nat.{ℕ, ◌+◌, ◌≤◌}
use native.Mathlib.Omega.{arith}
use mathlib.Core.Path.{◌≡◌, refl, sym, ap, subst, ◌∙◌}
use mathlib.Core.Bool.{Bool, true, false, ◌&&◌, ◌||◌, not, false≢true}
use mathlib.Core.List.{List, [], ◌∷◌}
use lib.ListN.{length}
use lib.Dec.{eqb, ltb}
use borrow.Author.Tests.{eqb-false, le-ltb}
use Rattle.ground.specs.Choose.{choose}
use Rattle.ground.proofs.Choices.{choose_yes, choose_no, and_left, and_right, not_yes, not_no, not_right}
use Rattle.refusal.specs.Refusal.{refuses}
use Rattle.refusal.specs.declared.Refusal.TheVariants.{Busy, NoRoom, UnexpectedType, BadEcho}
use Rattle.refusal.proofs.Rules.{passed}
use Rattle.frame.specs.Frame.{header_of}
use Rattle.board.specs.declared.Node.{Node}
use Rattle.board.specs.Node.{is_kind, is_mac}
use Rattle.board.specs.Wanted.{some_listed}
use Rattle.accept.proofs.Replied.{assign_replied}
use Rattle.message.proofs.Messages.{assignment_small}
use Rattle.coordinator.specs.declared.Coordinator.{Coordinator}
use Rattle.coordinator.specs.declared.Found.{Found}
use Rattle.coordinator.specs.declared.Part.{Part}
use Rattle.coordinator.specs.declared.Part.TheVariants.{Search, IdentifyDue, Identify, Present, AssignDue, Assign}
use Rattle.coordinator.specs.declared.Phase.TheVariants.{Seeking}
use Rattle.coordinator.specs.Fresh.{blank_found}
use Rattle.coordinator.specs.Fit.{fits}
use Rattle.coordinator.specs.Change.{searching}
use Rattle.coordinator.proofs.Phases.{seeking, phase_back}
use Rattle.steps.specs.declared.Event.{Event}
use Rattle.steps.specs.declared.Event.TheVariants.{Join, Turn, Frame, Quiet, Discover}
use Rattle.steps.specs.After.{After, refused}
use Rattle.steps.specs.Join.{join_of}
use Rattle.steps.specs.Seek.{is_waiting, join_found, acknowledged, settled, replied_as, sought_in}
use Rattle.steps.specs.Discover.{free_place, discover_rules, discover_of, searched}
use Rattle.steps.specs.Turn.{due_seek, sent, turn_rules, turn_in, turn_of}
use Rattle.steps.specs.Receive.{payload, receive_rules, receive_in, receive_of}
use Rattle.steps.specs.Step.{step_of}
use Rattle.series.specs.Series.{Input, World, left, after, is_accepted, waits_in, is_seek}
use Rattle.series.specs.Demand.{join_with}
use Rattle.series.specs.Exchange.{Course, before, is_discover, is_frame, begun, gone, is_of, goes_on, course, is_running, Runs, comes, reached, OneJoin}
use Rattle.series.specs.Ours.{ours}
use Rattle.lasting.proofs.Keeps.{AsItWas}
use Rattle.lasting.proofs.Keeping.{is_fit, step_fit, step_refused}
use Rattle.lasting.proofs.Series.{series_fit, lasting}
use Rattle.lasting.proofs.Taken.{never_accepted, by_accepted, by_choice}
use Rattle.exchanges.proofs.Course.{found_takes, wait_of, Stands, Reach, going, over, joined}
use Rattle.exchanges.proofs.Going.{few_steps, busy, step_goes}
use Rattle.exchanges.proofs.Alone.{alone_while}
use Rattle.exchanges.proofs.Rest.{over_rests, joined_rests, none_of, runs_no_more}

-- a discovery that is accepted begins it
begins : (w : World) (d : Input) → is_discover d.event ≡ true → is_accepted (ours.step w d).says ≡ true → Reach w.coordinator (begun (ours.step w d) w.nodes) (left (ours.step w d))
unfolding discover_of choose
begins w d = go d.event
  where
    go : (e : Event) → is_discover e ≡ true → is_accepted (step_of w.coordinator w.nodes e d.received d.room).says ≡ true → Reach w.coordinator (begun (step_of w.coordinator w.nodes e d.received d.room) w.nodes) (left (step_of w.coordinator w.nodes e d.received d.room))
    go (Join kind mac session version) n = absurd (false≢true n)
    go Turn n = absurd (false≢true n)
    go Frame n = absurd (false≢true n)
    go Quiet n = absurd (false≢true n)
    go Discover n = by_accepted w.coordinator w.nodes (λ a. Reach w.coordinator (begun a w.nodes) (left a)) (discover_rules w.coordinator w.nodes d.room) (searched w.coordinator w.nodes) (λ ok _. starts (eqb-false (free_place w.coordinator w.nodes) 0 ok.1.1.1.0))
      where
        starts : (free_place w.coordinator w.nodes ≡ 0 → ⊥) → Reach w.coordinator (begun (searched w.coordinator w.nodes) w.nodes) (left (searched w.coordinator w.nodes))
        starts some = going Search (searching w.coordinator (free_place w.coordinator w.nodes)) w.nodes (free_place w.coordinator w.nodes) (free_place w.coordinator w.nodes) blank_found (record { phase = phase_back (seeking (free_place w.coordinator w.nodes) Search); from = omega (arith, some); over = refl; knows = tt })

-- an accepted step of it leads on, to the end at most
one_step : {c₀ : Coordinator} {x : Course} {w : World} → Reach c₀ x w → (i : Input) → is_accepted (ours.step w i).says ≡ true → is_of x i (ours.step w i) ≡ true → Reach c₀ (gone x i (ours.step w i)) (left (ours.step w i))
one_step {c₀} (going part c t p q f k) i a o = step_goes c₀ c t p q f i.received i.room part k i.event a
one_step (over r) i a o = absurd (none_of _ _ (over_rests r) i o)
one_step (joined r) i a o = absurd (none_of _ _ (joined_rests r) i o)

-- so does any series through which it goes on; a refused step changes nothing
reaching : {c₀ : Coordinator} {x : Course} {w : World} (js : List Input) → Reach c₀ x w → goes_on ours w x js ≡ true → Reach c₀ (course ours w x js) (after ours w js)
unfolding goes_on course after choose
reaching [] r g = r
reaching {c₀ = c₀} {x = x} {w = w} (i ∷ js) r g = go (λ y s h. reaching {x = y} {w = left (ours.step w i)} js s h) (is_accepted (ours.step w i).says) refl g
  where
    go : ((y : Course) → Reach c₀ y (left (ours.step w i)) → goes_on ours (left (ours.step w i)) y js ≡ true → Reach c₀ (course ours (left (ours.step w i)) y js) (after ours (left (ours.step w i)) js)) → (b : Bool) → is_accepted (ours.step w i).says ≡ b → choose b (is_of x i (ours.step w i) && goes_on ours (left (ours.step w i)) (gone x i (ours.step w i)) js) (goes_on ours (left (ours.step w i)) x js) ≡ true → Reach c₀ (course ours (left (ours.step w i)) (choose b (gone x i (ours.step w i)) x) js) (after ours (left (ours.step w i)) js)
    go rest true e h = rest (gone x i (ours.step w i)) (one_step r i e (and_left (is_of x i (ours.step w i)) (goes_on ours (left (ours.step w i)) (gone x i (ours.step w i)) js) h)) (and_right (is_of x i (ours.step w i)) (goes_on ours (left (ours.step w i)) (gone x i (ours.step w i)) js) h)
    go rest false e h = rest x (subst (λ (u : World). Reach c₀ x u) (sym same) r) h
      where
        as_was : AsItWas w.coordinator w.nodes (ours.step w i)
        as_was = step_refused w i e

        same : left (ours.step w i) ≡ w
        same = λ j. record { coordinator = as_was.coordinator j; nodes = as_was.nodes j }

-- an exchange stands where it came to
arrives : (w : World) (d : Input) (js : List Input) → Runs ours w d js → Reach w.coordinator (comes ours w d js) (reached ours w d js)
arrives w d js r = reaching js (begins w d r.discovers r.taken) r.on

-- it has six accepted steps at most
six : {c₀ : Coordinator} {x : Course} {w : World} → Reach c₀ x w → x.steps ≤ 6
six (going part c t p q f k) = omega (arith, few_steps part)
six (over r) = r.steps
six (joined r) = r.steps

module _ {c₀ c : Coordinator} {t : List Node} {p q : ℕ} {f : Found} (fit : fits c t ≡ true) where
  -- in every part any other join gets 14
  join_busy : {part : Part} → Stands c₀ part c t p q f → (kind mac session version : ℕ) → is_kind kind ≡ true → is_mac mac ≡ true → join_of c t kind mac session version ≡ refused c t Busy
  unfolding join_of
  join_busy {part} k kind mac session version one own =
      sym (choose_no _ _ _ _ (not_no (fits c t) fit) (choose_no _ _ _ _ (not_no (is_kind kind) one) (choose_no _ _ _ _ (not_no (is_mac mac) own) (choose_yes _ _ _ _ (busy c₀ c t p q f part k) refl))))

  -- a turn that is lent room for a frame goes on with what is due
  due_goes : {part : Part} → Stands c₀ part c t p q f → is_waiting part ≡ false → length (due_seek part c t p).payload ≤ 240 → turn_of c t 252 ≡ sent (due_seek part c t p)
  unfolding turn_in
  due_goes {part} k n small = rw k.phase (passed (turn_rules (Seeking p part) c t 252) (refused c t) (sent (due_seek part c t p)) (not_no (fits c t) fit, (n, (not_right (not (some_listed t)) (not (not (is_waiting part))) (not_no (not (is_waiting part)) (not_yes (is_waiting part) n)), (le-ltb 252 (12 + length (due_seek part c t p).payload) (omega (arith, small)), tt)))))

  -- so in every part it runs
  stands_runs : (part : Part) → Stands c₀ part c t p q f → (is_seek (wait_of part) || is_seek (waits_in (turn_of c t 252).says)) ≡ true
  unfolding choose
  stands_runs Search k = refl
  stands_runs IdentifyDue k = ap (λ (a : After). is_seek (waits_in a.says)) (due_goes k refl (omega arith))
  stands_runs Identify k = refl
  stands_runs Present k = refl
  stands_runs AssignDue k = ap (λ (a : After). is_seek (waits_in a.says)) (due_goes k refl (assignment_small c.setup p c.found.version c.found.mac c.found.session))
  stands_runs Assign k = refl

-- so while it runs any other join does
busy_while : {c₀ : Coordinator} {x : Course} {w : World} → Reach c₀ x w → is_fit w ≡ true → is_running ours w x ≡ true → (kind mac session version : ℕ) → is_kind kind ≡ true → is_mac mac ≡ true → (ours.step w (join_with kind mac session version)).says ≡ refuses Busy
busy_while (going part c t p q f k) fit n kind mac session version one own = ap (λ (a : After). a.says) (join_busy fit k kind mac session version one own)
busy_while (over r) fit n kind mac session version one own = absurd (runs_no_more _ _ (over_rests r) n)
busy_while (joined r) fit n kind mac session version one own = absurd (runs_no_more _ _ (joined_rests r) n)

-- over without a join it has left what was there
left_as_was : {c₀ : Coordinator} {x : Course} {w : World} → Reach c₀ x w → is_fit w ≡ true → is_running ours w x ≡ false → x.joins ≡ 0 → w ≡ record { coordinator = before c₀; nodes = x.nodes }
left_as_was (going part c t p q f k) fit n z = absurd (false≢true (sym n ∙ stands_runs fit part k))
left_as_was (over r) fit n z = r.world
left_as_was (joined r) fit n z = absurd (let y : ⊥ = omega (arith, r.joins) in y)

-- with a join it has left what 01's join of who answered leaves, and has no other
left_joined : {c₀ : Coordinator} {x : Course} {w : World} → Reach c₀ x w → 1 ≤ x.joins → (x.joins ≡ 1) × (w ≡ left (join_of (before c₀) x.nodes x.who.kind x.who.mac x.who.session x.who.version))
left_joined (going part c t p q f k) l = absurd (let y : ⊥ = omega arith in y)
left_joined (over r) l = absurd (let y : ⊥ = omega (arith, r.joins) in y)
left_joined (joined r) l = (r.joins, r.world)

-- in assign a frame that is accepted joins, and takes the position
assign_joins : {c₀ c : Coordinator} {t : List Node} {p q : ℕ} {f : Found} → Stands c₀ Assign c t p q f → (b : List ℕ) (room : ℕ) → is_accepted (receive_of c t b room).says ≡ true → (receive_of c t b room).joined ≡ q
unfolding receive_in
assign_joins {c₀} {c} {t} {p} {q} {f} k b room =
    rw k.phase (by_accepted c t (λ a. a.joined ≡ q) (receive_rules (Seeking p Assign) c t b) (sought_in Assign p c t (header_of b) (payload b) room) (λ _. assign_replied (λ r. is_accepted (replied_as r p c t (header_of b).packet (payload b) room).says ≡ true → (replied_as r p c t (header_of b).packet (payload b) room).joined ≡ q) (never_accepted c t UnexpectedType) (header_of b).message _ (never_accepted c t BadEcho) (λ _ _. echo)))
  where
    same : (join_found c t c.found).joined ≡ p
    same = found_takes c t p f k.knows.1

    echo : is_accepted (settled c t p c.found room).says ≡ true → (settled c t p c.found room).joined ≡ q
    echo = by_choice (λ (a : After). is_accepted a.says ≡ true → a.joined ≡ q) (ltb room 29) _ _ (λ _. never_accepted c t NoRoom) (λ _ _. by_choice (λ (a : After). (acknowledged c.setup p c.found.version a).joined ≡ q) (eqb (join_found c t c.found).joined p) _ _ (λ _. same ∙ sym k.knows.0) (λ n. absurd (eqb-false (join_found c t c.found).joined p n same)))

-- so one that waits in assign does
joins_then : {c₀ : Coordinator} {x : Course} {w : World} → Reach c₀ x w → x.wait ≡ 7 → (i : Input) → is_frame i.event ≡ true → is_accepted (ours.step w i).says ≡ true → (ours.step w i).joined ≡ x.position
joins_then (going Search c t p q f k) e i n a = absurd (let y : ⊥ = omega (arith, e) in y)
joins_then (going IdentifyDue c t p q f k) e i n a = absurd (let y : ⊥ = omega (arith, e) in y)
joins_then (going Identify c t p q f k) e i n a = absurd (let y : ⊥ = omega (arith, e) in y)
joins_then (going Present c t p q f k) e i n a = absurd (let y : ⊥ = omega (arith, e) in y)
joins_then (going AssignDue c t p q f k) e i n a = absurd (let y : ⊥ = omega (arith, e) in y)
joins_then (going Assign c t p q f k) e i n a = go i.event n a
  where
    go : (v : Event) → is_frame v ≡ true → is_accepted (step_of c t v i.received i.room).says ≡ true → (step_of c t v i.received i.room).joined ≡ q
    go (Join kind mac session version) m = absurd (false≢true m)
    go Turn m = absurd (false≢true m)
    go Frame m = assign_joins k i.received i.room
    go Quiet m = absurd (false≢true m)
    go Discover m = absurd (false≢true m)
joins_then (over r) e i n a = absurd (let y : ⊥ = omega (arith, e, r.wait) in y)
joins_then (joined r) e i n a = absurd (let y : ⊥ = omega (arith, e, r.wait) in y)

-- the panel is fit wherever it comes to
reached_fit : (w : World) (d : Input) (js : List Input) → is_fit w ≡ true → is_fit (reached ours w d js) ≡ true
reached_fit w d js fit = series_fit (left (ours.step w d)) js (step_fit w d fit)

-- an exchange that ends well produces exactly one join; one that breaks off produces none
pub one_join : OneJoin ours
one_join =
    record {
      few = λ k w f is d js r. six (arrives (after ours w is) d js r);
      busy = λ k w f is d js r. busy_while (arrives (after ours w is) d js r) (reached_fit (after ours w is) d js (lasting f is).fit);
      alone = λ k w f is d js r. alone_while (arrives (after ours w is) d js r);
      broken = λ k w f is d js r. left_as_was (arrives (after ours w is) d js r) (reached_fit (after ours w is) d js (lasting f is).fit);
      joined = λ k w f is d js r. left_joined (arrives (after ours w is) d js r);
      assigned = λ k w f is d js r. joins_then (arrives (after ours w is) d js r);
    }
