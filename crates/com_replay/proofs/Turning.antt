-- From the entry that a runtime made to a turn of the schedule, and from a turn to a step of the course.
use Rattle.std.proofs.Common.{sym, subst, ◌∙◌, ap, arith, inl, inr, drop}
use Rattle.std.specs.Prelude.{◌≡◌, refl, ℕ, zero, suc, ◌+◌, ◌≤◌, ◌<◌, Bool, true, false, List, ◌∷◌, ◌++◌, Option, Some, None, Result, Ok, Err, OnErr}
use Rattle.com_io.specs.Told.{GainsPrefix}
use Rattle.com_model.specs.declared.counts.Ended.{Ended}
use Rattle.com_model.specs.declared.deeds.Entry.{Entry}
use Rattle.com_model.specs.declared.scenario.Scenario.{Scenario}
use Rattle.com_model.specs.Ends.{Turn, last_after, limit}
use Rattle.com_model.specs.Rules.{next}
use Rattle.com_model.specs.State.{State, StandsFor}
use Rattle.com_model.specs.Tables.{lanes}
use Rattle.com_model.specs.Text.{line_text}
use Rattle.com_model.proofs.Sights.{same-next}
use Rattle.com_runtime.proofs.Runs.{stands-later}
use Rattle.com_runtime.specs.declared.runtime.Standing.{Standing}
use Rattle.com_runtime.specs.declared.runtime.Standing.TheVariants as standing
use Rattle.com_runtime.specs.Standings.{standing_of, ended_now, none_can_in, Reached}
use Rattle.com_runtime.specs.declared.schedule.Chosen.{Chosen}
use Rattle.com_schedule.specs.Tried.{NoTurn, TakesTurn, TurnTried}
use Rattle.com_runtime.specs.Turns.{IsNext, IsTurn, GoesOn, next_line, served_in}
use Rattle.com_replay.specs.declared.course.Turned.{Turned}
use Rattle.com_replay.specs.declared.course.Turned.TheVariants.{Made, Over}
use Rattle.com_replay.specs.Steps.{Moment, Place, TurnsTo, IsMade, IsOver, Fails, HasEnded, HasNoTurn, IsLaneTurn, IsTurned}
use Rattle.com_runtime.proofs.Choices.{not_runs, turn_ticks}
use Rattle.com_runtime.proofs.Limits.{below_limit, not_finished, not_stuck, one_entry}

last-same : (l last : ℕ) → l ≡ 0 → last ≡ last_after l last
last-same zero last e = refl
last-same (suc l) last e = absurd (omega (arith, e))

turn_of_clock : (s : Scenario) (st new : State) (picks : List ℕ) (last : ℕ) (e : Entry) → ended_now s st ≡ None → standing.Ticks ≡ standing_of s st → IsNext s st 0 e new → IsTurn s st picks last e new picks last
turn_of_clock s st new picks last e goes t p = record {
  goes_on = goes;
  turn = turn_ticks s st picks last (sym t) ∙ ap (λ (l : ℕ). at l) (sym p.by);
  next = subst (λ (l : ℕ). IsNext s st l e new) (sym p.by) p;
  follows = last-same e.lane last p.by;
}
  where
    at : ℕ → Option Turn
    at l = Some (record { lane = l; picks = picks })

clock_serves : (s : Scenario) (st new : State) (e : Entry) (steps : List ℕ) → IsNext s st 0 e new → steps ≡ served_in s st e.lane steps
unfolding served_in
clock_serves s st new e steps p = ap (λ (l : ℕ). served_in s st l steps) (sym p.by)

line-is : (s : Scenario) (st new : State) (picks picks_new : List ℕ) (last last_new place : ℕ) (e : Entry) → IsTurn s st picks last e new picks_new last_new → place ≡ new.entries → line_text s.version place e ≡ next_line s st e
unfolding next_line
line-is s st new picks picks_new last last_new place e t p =
    ap (λ (n : ℕ). line_text s.version n e) (p ∙ one_entry s st new e.lane e t.next)

pub step_made : (s : Scenario) (m n : Moment) (place : ℕ) (e : Entry) → IsTurn s m.state m.picks m.last e n.state n.picks n.last → place ≡ n.state.entries → GoesOn m.held n.held m.lines n.lines (line_text s.version place e) → n.steps ≡ served_in s m.state e.lane m.steps → IsMade s m n e
step_made s m n place e t p g q = record {
  turn = t;
  line = subst (λ (x : List ℕ). GoesOn m.held n.held m.lines n.lines x) (line-is s m.state n.state m.picks n.picks m.last n.last place e t p) g;
  steps = q;
}

pub step_failed : (s : Scenario) (m : Moment) (held : Option (List ℕ)) → held ≡ m.held → Fails s m held
step_failed s m held e = inl e

pub step_began : (s : Scenario) (m : Moment) (held : Option (List ℕ)) (new : State) (picks : List ℕ) (last place : ℕ) (e : Entry) → IsTurn s m.state m.picks m.last e new picks last → place ≡ new.entries → GainsPrefix m.held held (m.lines ++ line_text s.version place e) → Fails s m held
step_began s m held new picks last place e t p g =
    inr (record {
      entry = e;
      state = new;
      picks = picks;
      last = last;
      turn = t;
      prefix = subst (λ (x : List ℕ). GainsPrefix m.held held (m.lines ++ x)) (line-is s m.state new m.picks picks m.last last place e t p) g;
    })

-- After a turn the state stands for a history again, and the history is no longer than it may be.
pub reached_turn : (s : Scenario) (st new : State) (picks picks_new : List ℕ) (last last_new : ℕ) (e : Entry) → Reached s st → IsTurn s st picks last e new picks_new last_new → Reached s new
unfolding Reached
reached_turn s st new picks picks_new last last_new e r t =
    let stands : StandsFor s st r.1.0 = r.1.1 in
    let nexts : next s r.1.0 e.lane ≡ Some e.deed = sym (same-next s st r.1.0 e.lane stands) ∙ t.next.deed in
    (r.0, (e ∷ r.1.0, subst (λ (x : State). StandsFor s x (e ∷ r.1.0)) (sym t.next.becomes) (stands-later s st r.1.0 e.lane e.deed r.0 (stands.lawful, nexts) stands)))

pub within_turn : (s : Scenario) (st new : State) (picks picks_new : List ℕ) (last last_new : ℕ) (e : Entry) → st.entries ≤ limit s → IsTurn s st picks last e new picks_new last_new → new.entries ≤ limit s
within_turn s st new picks picks_new last last_new e w t =
    let low : st.entries < limit s = below_limit s st t.goes_on w in
    let one : new.entries ≡ st.entries + 1 = one_entry s st new e.lane e t.next in
    omega (arith, low, one)

-- ---- a turn, by the lanes that were tried or by the clock

abbrev place : State → List ℕ → ℕ → List ℕ → Place
place st picks last steps = record { state = st; picks = picks; last = last; steps = steps }

taken-seen : (r s : Scenario) (all picks : List ℕ) (st new : State) (tried last : ℕ) (x : Option Chosen) (c : Chosen) (e : Entry) (a b : List ℕ) → r ≡ s → all ≡ picks → x ≡ Some c
    → TurnTried r st all tried last x e new a b → TakesTurn s st picks tried last c e new a b
taken-seen r s all picks st new tried last x c e a b same list some t =
    subst (λ (k : Scenario). TakesTurn k st picks tried last c e new a b) same
    (subst (λ (ls : List ℕ). TakesTurn r st ls tried last c e new a b) list
    (subst (λ (y : Option Chosen). TurnTried r st all tried last y e new a b) some t))

pub lane_turned : (r s : Scenario) (all picks : List ℕ) (st new : State) (tried last : ℕ) (x : Option Chosen) (c : Chosen) (e : Entry) (a b : List ℕ) → r ≡ s → all ≡ picks → x ≡ Some c
    → TurnTried r st all tried last x e new a b → IsTurned s (place st (drop tried picks) last a) (place new (drop c.tried picks) c.lane b) e
lane_turned r s all picks st new tried last x c e a b same list some t =
    let w : TakesTurn s st picks tried last c e new a b = taken-seen r s all picks st new tried last x c e a b same list some t in
    record { turn = w.turn; steps = w.steps_are }

pub lane_within : (r s : Scenario) (all picks : List ℕ) (st new : State) (tried last : ℕ) (x : Option Chosen) (c : Chosen) (e : Entry) (a b : List ℕ) → r ≡ s → all ≡ picks → x ≡ Some c
    → TurnTried r st all tried last x e new a b → c.lane ≤ lanes s
lane_within r s all picks st new tried last x c e a b same list some t = (taken-seen r s all picks st new tried last x c e a b same list some t).is_lane

pub no_lane : (r s : Scenario) (all picks : List ℕ) (st new : State) (tried last : ℕ) (x : Option Chosen) (e : Entry) (a b : List ℕ) → r ≡ s → x ≡ None
    → TurnTried r st all tried last x e new a b → HasNoTurn s (place st (drop tried picks) last a) (place new (drop tried picks) last b)
no_lane r s all picks st new tried last x e a b same none t =
    let w : NoTurn s st new a b = subst (λ (k : Scenario). NoTurn k st new a b) same (subst (λ (y : Option Chosen). TurnTried r st all tried last y e new a b) none t) in
    record { same = λ i. place (w.still.state i) (drop tried picks) last (w.still.steps_are i); none = λ h. w.none }

pub no_room : (s : Scenario) (st : State) (picks : List ℕ) (last : ℕ) (a : List ℕ) → limit s ≤ st.entries → HasNoTurn s (place st picks last a) (place st picks last a)
no_room s st picks last a h = record { same = refl; none = λ k. absurd (omega (arith, h, k)) }

pub turn_by_lane : (s : Scenario) (p q : Place) (e : Entry) (b : Bool) → b ≡ true → IsLaneTurn s p q e b → IsTurned s p q e
turn_by_lane s p q e true is t = t
turn_by_lane s p q e false is t = cc

pub turn_by_none : (s : Scenario) (p q : Place) (e : Entry) (b : Bool) → b ≡ false → IsLaneTurn s p q e b → HasNoTurn s p q
turn_by_none s p q e true is t = cc
turn_by_none s p q e false is t = t

-- Where no lane had the turn, the history has ended where it has ended now.
pub turn_over : (s : Scenario) (p q : Place) (x : Ended) → HasNoTurn s p q → ended_now s q.state ≡ Some x → HasEnded s p q x
turn_over s p q x h e = record { ended = ap (λ (y : Place). ended_now s y.state) (sym h.same) ∙ e; same = h.same }

-- Where it has not ended, no lane can step, and the clock makes the turn.
pub none_left : (s : Scenario) (p q : Place) → HasNoTurn s p q → ended_now s q.state ≡ None → q.state.entries ≤ limit s → none_can_in s q.state ≡ true
none_left s p q h e w =
    ap (λ (y : Place). none_can_in s y.state) h.same
    ∙ h.none (subst (λ (y : Place). y.state.entries < limit s) h.same (below_limit s q.state e w))

pub turn_by_clock : (r s : Scenario) (p q : Place) (new : State) (e : Entry) → r ≡ s → HasNoTurn s p q → ended_now s q.state ≡ None → standing.Ticks ≡ standing_of s q.state → IsNext r q.state 0 e new
    → IsTurned s p (place new q.picks q.last q.steps) e
turn_by_clock r s p q new e same h goes t n =
    let next : IsNext s q.state 0 e new = subst (λ (k : Scenario). IsNext k q.state 0 e new) same n in
    subst (λ (y : Place). IsTurned s y (place new q.picks q.last q.steps) e) h.same (record {
      turn = turn_of_clock s q.state new q.picks q.last e goes t next;
      steps = clock_serves s q.state new e q.steps next;
    })

-- What was known before the lanes were tried is known after none had the turn.
pub reached_left : (r w s : Scenario) (p q : Place) → r ≡ s → w ≡ s → HasNoTurn s p q → Reached r p.state → Reached w q.state
reached_left r w s p q same is h reached =
    subst (λ (k : Scenario). Reached k q.state) (same ∙ sym is) (subst (λ (y : Place). Reached r y.state) (sym h.same) reached)

pub within_left : (s : Scenario) (p q : Place) → HasNoTurn s p q → p.state.entries ≤ limit s → q.state.entries ≤ limit s
within_left s p q h w = subst (λ (y : Place). y.state.entries ≤ limit s) (sym h.same) w

pub room_left : (w s : Scenario) (q : Place) → w ≡ s → ended_now s q.state ≡ None → q.state.entries ≤ limit s → q.state.entries < limit w
room_left w s q is e n = subst (λ (k : Scenario). q.state.entries < limit k) (sym is) (below_limit s q.state e n)

-- ---- a step of the course

abbrev moment : Place → (lines : List ℕ) → (held : Option (List ℕ)) → Moment
moment p lines held = record { state = p.state; picks = p.picks; last = p.last; lines = lines; held = held; steps = p.steps }

pub step_over_at : (s : Scenario) (p q : Place) (lines kept : List ℕ) (held : Option (List ℕ)) (x : Ended) → HasEnded s p q x → kept ≡ lines → IsOver s (moment p lines held) (moment q kept held) x
step_over_at s p q lines kept held x h k = record { ended = h.ended; same = λ i. moment (h.same i) (k i) held }

pub step_made_at : (s : Scenario) (st new : State) (picks picks_new : List ℕ) (last last_new place : ℕ) (lines lines_new kept : List ℕ) (held held_new : Option (List ℕ)) (steps steps_new : List ℕ) (e : Entry) → kept ≡ lines → IsTurn s st picks last e new picks_new last_new → place ≡ new.entries → GoesOn held held_new kept lines_new (line_text s.version place e) → steps_new ≡ served_in s st e.lane steps → IsMade s (record { state = st; picks = picks; last = last; lines = lines; held = held; steps = steps }) (record { state = new; picks = picks_new; last = last_new; lines = lines_new; held = held_new; steps = steps_new }) e
step_made_at s st new picks picks_new last last_new place lines lines_new kept held held_new steps steps_new e k t p g q =
    step_made s (record { state = st; picks = picks; last = last; lines = lines; held = held; steps = steps }) (record { state = new; picks = picks_new; last = last_new; lines = lines_new; held = held_new; steps = steps_new }) place e t p
    (subst (λ (x : List ℕ). GoesOn held held_new x lines_new (line_text s.version place e)) k g) q

pub on_err : {A E : Type 0} (r : Result A E) (P : Type 0) → P → OnErr r P
on_err (Ok x) P p = tt
on_err (Err e) P p = p

pub step_began_at : {A E : Type 0} (r : Result A E) (s : Scenario) (st new : State) (picks picks_new : List ℕ) (last last_new place : ℕ) (lines kept : List ℕ) (old held : Option (List ℕ)) (steps : List ℕ) (e : Entry) → kept ≡ lines → IsTurn s st picks last e new picks_new last_new → place ≡ new.entries → GainsPrefix old held (kept ++ line_text s.version place e) → OnErr r (Fails s (record { state = st; picks = picks; last = last; lines = lines; held = old; steps = steps }) held)
step_began_at r s st new picks picks_new last last_new place lines kept old held steps e k t p g =
    on_err r _
    (step_began s (record { state = st; picks = picks; last = last; lines = lines; held = old; steps = steps }) held new picks_new last_new place e t p
    (subst (λ (x : List ℕ). GainsPrefix old held (x ++ line_text s.version place e)) k g))

-- ---- where no lane had the turn, and the history has not ended

by-standing : (s : Scenario) (st : State) (x : Standing) → x ≡ standing_of s st → ended_now s st ≡ None → none_can_in s st ≡ true → standing.Ticks ≡ standing_of s st
by-standing s st standing.Runs is e n = absurd (not_runs s st is n)
by-standing s st standing.Ticks is e n = is
by-standing s st standing.Finished is e n = absurd (not_finished s st is e)
by-standing s st standing.Stuck is e n = absurd (not_stuck s st is e)

clock-due : (s : Scenario) (p q : Place) → HasNoTurn s p q → ended_now s q.state ≡ None → p.state.entries ≤ limit s → standing.Ticks ≡ standing_of s q.state
clock-due s p q h e n = by-standing s q.state (standing_of s q.state) refl e (none_left s p q h e (within_left s p q h n))

pub tick_due : (w s : Scenario) (p q : Place) → HasNoTurn s p q → w ≡ s → ended_now s q.state ≡ None → p.state.entries ≤ limit s → standing_of w q.state ≡ standing.Ticks
tick_due w s p q h is e n = subst (λ (k : Scenario). standing_of k q.state ≡ standing.Ticks) (sym is) (sym (clock-due s p q h e n))

pub tick_room : (w s : Scenario) (p q : Place) → HasNoTurn s p q → w ≡ s → ended_now s q.state ≡ None → p.state.entries ≤ limit s → q.state.entries < limit w
tick_room w s p q h is e n = room_left w s q is e (within_left s p q h n)

pub tick_turned : (w s : Scenario) (p q : Place) (new : State) (e : Entry) → HasNoTurn s p q → w ≡ s → ended_now s q.state ≡ None → p.state.entries ≤ limit s → IsNext w q.state 0 e new → IsTurned s p (place new q.picks q.last q.steps) e
tick_turned w s p q new e h is goes n next = turn_by_clock w s p q new e is h goes (clock-due s p q h goes n) next

-- ---- a step, by the turn that it makes

turned-made : (s : Scenario) (p q : Place) (e : Entry) (x : Turned) → x ≡ Made → TurnsTo s p q e x → IsTurned s p q e
turned-made s p q e x is t = subst (λ (y : Turned). TurnsTo s p q e y) is t

turned-over : (s : Scenario) (p q : Place) (e : Entry) (x : Turned) (y : Ended) → x ≡ Over y → TurnsTo s p q e x → HasEnded s p q y
turned-over s p q e x y is t = subst (λ (z : Turned). TurnsTo s p q e z) is t

pub over_at : (s : Scenario) (p q : Place) (e : Entry) (x : Turned) (y : Ended) (lines kept : List ℕ) (held : Option (List ℕ)) → TurnsTo s p q e x → x ≡ Over y → kept ≡ lines → IsOver s (moment p lines held) (moment q kept held) y
over_at s p q e x y lines kept held t is k = step_over_at s p q lines kept held y (turned-over s p q e x y is t) k

pub over_within : (s : Scenario) (p q : Place) (e : Entry) (x : Turned) (y : Ended) → TurnsTo s p q e x → x ≡ Over y → p.state.entries ≤ limit s → q.state.entries ≤ limit s
over_within s p q e x y t is w = subst (λ (z : Place). z.state.entries ≤ limit s) (sym (turned-over s p q e x y is t).same) w

pub over_reached : (s : Scenario) (p q : Place) (e : Entry) (x : Turned) (y : Ended) → TurnsTo s p q e x → x ≡ Over y → Reached s p.state → Reached s q.state
over_reached s p q e x y t is r = subst (λ (z : Place). Reached s z.state) (sym (turned-over s p q e x y is t).same) r

pub made_within : (s : Scenario) (p q : Place) (e : Entry) (x : Turned) → TurnsTo s p q e x → x ≡ Made → p.state.entries ≤ limit s → q.state.entries ≤ limit s
made_within s p q e x t is w = within_turn s p.state q.state p.picks q.picks p.last q.last e w (turned-made s p q e x is t).turn

pub made_reached : (s : Scenario) (p q : Place) (e : Entry) (x : Turned) → TurnsTo s p q e x → x ≡ Made → Reached s p.state → Reached s q.state
made_reached s p q e x t is r = reached_turn s p.state q.state p.picks q.picks p.last q.last e r (turned-made s p q e x is t).turn

pub made_at : (s : Scenario) (p q : Place) (e l : Entry) (x : Turned) (place : ℕ) (lines kept lines_new : List ℕ) (held held_new : Option (List ℕ)) → TurnsTo s p q e x → x ≡ Made → l ≡ e → kept ≡ lines → place ≡ q.state.entries → GoesOn held held_new kept lines_new (line_text s.version place l) → IsMade s (moment p lines held) (moment q lines_new held_new) e
made_at s p q e l x place lines kept lines_new held held_new t is same k n g =
    let m : IsTurned s p q e = turned-made s p q e x is t in
    step_made_at s p.state q.state p.picks q.picks p.last q.last place lines lines_new kept held held_new p.steps q.steps e k m.turn n
    (subst (λ (y : Entry). GoesOn held held_new kept lines_new (line_text s.version place y)) same g) m.steps

pub began_at : {A E : Type 0} (r : Result A E) (s : Scenario) (p q : Place) (e l : Entry) (x : Turned) (place : ℕ) (lines kept : List ℕ) (old held : Option (List ℕ)) → TurnsTo s p q e x → x ≡ Made → l ≡ e → kept ≡ lines → place ≡ q.state.entries → GainsPrefix old held (kept ++ line_text s.version place l) → OnErr r (Fails s (moment p lines old) held)
began_at r s p q e l x place lines kept old held t is same k n g =
    let m : IsTurned s p q e = turned-made s p q e x is t in
    step_began_at r s p.state q.state p.picks q.picks p.last q.last place lines kept old held p.steps e k m.turn n
    (subst (λ (y : Entry). GainsPrefix old held (kept ++ line_text s.version place y)) same g)
