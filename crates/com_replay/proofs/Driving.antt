-- From the first state to the whole history: what stands between two steps.
use Rattle.std.proofs.Common.{sym, subst, ◌∙◌, ap, arith, inl, inr, append_assoc, append-nil, drop}
use Rattle.std.specs.Prelude.{◌≡◌, refl, ℕ, zero, suc, ◌+◌, ◌-◌, ◌≤◌, ◌<◌, Bool, true, cond, nat_le, List, [], ◌∷◌, ◌++◌, length, Option, Some, None, Result, Ok, Err, OnOk, slice_index_or}
use Rattle.com_io.specs.Told.{Gains, GainsPrefix}
use Rattle.com_io.proofs.Passing.{gains_both, gains_then_prefix, prefix_of_more, gains_nothing}
use Rattle.com_model.specs.declared.counts.Counts.{Counts}
use Rattle.com_model.specs.declared.counts.Ended.{Ended}
use Rattle.com_model.specs.declared.deeds.Deed.{Deed}
use Rattle.com_model.specs.declared.deeds.Entry.{Entry}
use Rattle.com_model.specs.declared.keeps.Opener.{Opener}
use Rattle.com_model.specs.declared.scenario.Scenario.{Scenario}
use Rattle.com_model.specs.Lists.{first}
use Rattle.com_model.specs.Objects.{class_of}
use Rattle.com_model.specs.Clock.{clock}
use Rattle.com_model.specs.Text.{history_text, line_text, report_text}
use Rattle.com_model.specs.Sight.{Sight, sight}
use Rattle.com_model.specs.Rules.{next}
use Rattle.com_model.specs.Ends.{Turn, turn, ended_by, ended_as, last_after, limit, run_on, with_entry, with_turn, unless_ended, scheduled, text, report, report_as}
use Rattle.com_model.specs.Formed.{Formed}
use Rattle.com_model.specs.State.{State, StandsFor, sight_of, first_tables}
use Rattle.com_model.proofs.Whole.{first-stands}
use Rattle.com_model.proofs.Sights.{same-sight, same-next, same-class}
use Rattle.com_runtime.proofs.Runs.{stands-later}
use Rattle.com_runtime.specs.Standings.{ended_now, turn_now, Reached}
use Rattle.com_runtime.specs.Turns.{IsTurn, next_line, served_in, served_at, served_by, body_kind}
use Rattle.com_replay.specs.declared.course.Turned.{Turned}
use Rattle.com_replay.specs.declared.course.Turned.TheVariants.{Made, Over}
use Rattle.com_replay.specs.Steps.{Moment, IsMade, Fails, StepsTo, over_of}
use Rattle.com_runtime.specs.Reports.{all_counts_in}
use Rattle.com_replay.specs.Replays.{whole_text, whole_history, whole_served, IsReplay}
use Rattle.com_runtime.proofs.Limits.{below_limit, one_entry}
use Rattle.com_runtime.proofs.Counting.{all-counted}
use Rattle.com_runtime.proofs.Resting.{reached_by}
use Rattle.com_servant.specs.Rows.{one_served}

-- ---- the whole text begins with the lines so far

pub record Begins (front whole : List ℕ) : Type 0 where
  pub back : List ℕ
  pub parts : whole ≡ front ++ back

begins-same : (a : List ℕ) → Begins a a
begins-same a = record { back = []; parts = sym (append-nil a) }

begins-more : (a b c : List ℕ) → Begins (a ++ b) c → Begins a c
begins-more a b c h = record { back = b ++ h.back; parts = h.parts ∙ append_assoc a b h.back }

abbrev On : ℕ → Scenario → Type 0
On n s = (h : List Entry) (picks : List ℕ) (last : ℕ) → Begins (history_text s.version h) (history_text s.version (run_on n s h picks last))

by-deed : (n : ℕ) (s : Scenario) → On n s → (h : List Entry) (t : Turn) (last : ℕ) (d : Option Deed) → Begins (history_text s.version h) (history_text s.version (with_entry (run_on n s) h t last d))
by-deed n s go h t last None = begins-same (history_text s.version h)
by-deed n s go h t last (Some d) =
    begins-more (history_text s.version h) (line_text s.version (length h + 1) (record { lane = t.lane; deed = d })) _
    (go (record { lane = t.lane; deed = d } ∷ h) t.picks (last_after t.lane last))

by-turn : (n : ℕ) (s : Scenario) → On n s → (h : List Entry) (last : ℕ) (t : Option Turn) → Begins (history_text s.version h) (history_text s.version (with_turn s (run_on n s) h last t))
by-turn n s go h last None = begins-same (history_text s.version h)
by-turn n s go h last (Some t) = by-deed n s go h t last (next s h t.lane)

by-end : (n : ℕ) (s : Scenario) → On n s → (h : List Entry) (picks : List ℕ) (last : ℕ) (x : Option Ended) → Begins (history_text s.version h) (history_text s.version (unless_ended s (run_on n s) h picks last x))
by-end n s go h picks last (Some x) = begins-same (history_text s.version h)
by-end n s go h picks last None = by-turn n s go h last (turn s (sight s h) picks last)

text-on : (n : ℕ) (s : Scenario) → On n s
text-on zero s h picks last = begins-same (history_text s.version h)
text-on (suc n) s h picks last = by-end n s (text-on n s) h picks last (ended_as s h)

-- ---- the same by the tables as by the history

is-low : (k n : ℕ) → k ≤ n → nat_le k n ≡ true
is-low k n q = grind (arith, q)

pub ended-same : (s : Scenario) (st : State) (h : List Entry) → StandsFor s st h → length h ≤ limit s → ended_as s h ≡ ended_now s st
unfolding ended_now
ended-same s st h p q =
    ap (λ (b : Bool). cond b (ended_by s (sight s h) (length h)) None) (is-low (length h) (limit s) q)
    ∙ ap (λ (v : Sight). ended_by s v (length h)) (sym (same-sight s st h p))
    ∙ ap (ended_by s (sight_of s st)) (sym p.entries)

turn-same : (s : Scenario) (st : State) (h : List Entry) (picks : List ℕ) (last : ℕ) → StandsFor s st h → turn s (sight s h) picks last ≡ turn_now s st picks last
unfolding turn_now
turn-same s st h picks last p = ap (λ (v : Sight). turn s v picks last) (sym (same-sight s st h p))

pub served-same : (s : Scenario) (st : State) (h : List Entry) (l : ℕ) (steps : List ℕ) → StandsFor s st h → served_in s st l steps ≡ served_at s h l steps
unfolding served_in served_at
served-same s st h zero steps p = refl
served-same s st h (suc l) steps p =
    ap (λ (k : ℕ → ℕ). one_served (body_kind s k (first (slice_index_or st.openers (suc l) []))) steps) (same-class st h p.objects)
    ∙ ap (λ (os : List Opener). one_served (body_kind s (class_of h) (first os)) steps) (p.lanes.openers (suc l))

-- ---- between two steps

-- The history behind the runtime's state, which is on the way to the whole one, what was written of its lines, and the counts.
pub record Driving (s : Scenario) (start : Option (List ℕ)) (from : List ℕ) (m : Moment) : Type 0 where
  pub history : List Entry
  pub more : ℕ
  pub stands : StandsFor s m.state history
  pub count : more + length history ≡ limit s
  pub way : run_on more s history m.picks m.last ≡ whole_history s
  pub written : List ℕ
  pub gained : Gains start m.held written
  pub parts : written ++ m.lines ≡ history_text s.version history
  pub counts : m.steps ≡ served_by s history from

whole-way : (s : Scenario) → run_on (limit s) s [] s.picks 0 ≡ whole_history s
unfolding whole_history
whole-way s = refl

pub driving_start : (s : Scenario) (start : Option (List ℕ)) (from : List ℕ) (m : Moment) → m.state ≡ first_tables s → m.picks ≡ s.picks → m.last ≡ 0 → m.lines ≡ [] → m.held ≡ start → m.steps ≡ from → Driving s start from m
driving_start s start from m e picks last none held steps = record {
  history = [];
  more = limit s;
  stands = subst (λ (st : State). StandsFor s st []) (sym e) (first-stands s);
  count = no-sum (limit s);
  way = ap (λ (ls : List ℕ). run_on (limit s) s [] ls m.last) picks ∙ ap (λ (l : ℕ). run_on (limit s) s [] s.picks l) last ∙ whole-way s;
  written = [];
  gained = subst (λ (o : Option (List ℕ)). Gains start o []) (sym held) (gains_nothing start);
  parts = none;
  counts = steps;
}
  where
    no-sum : (n : ℕ) → n + 0 ≡ n
    no-sum n = omega arith

one-less : (n k q : ℕ) → suc n + k ≡ q → n + suc k ≡ q
one-less n k q c = omega (arith, c)

-- One turn further, but for its line.
record Further (s : Scenario) (m : Moment) (h : List Entry) (e : Entry) (new : State) (picks : List ℕ) (last : ℕ) : Type 0 where
  more : ℕ
  stands : StandsFor s new (e ∷ h)
  count : more + length (e ∷ h) ≡ limit s
  way : run_on more s (e ∷ h) picks last ≡ whole_history s
  line : next_line s m.state e ≡ line_text s.version (length h + 1) e

pub line-same : (s : Scenario) (st : State) (h : List Entry) (e : Entry) → st.entries ≡ length h → next_line s st e ≡ line_text s.version (length h + 1) e
unfolding next_line
line-same s st h e p = ap (λ (n : ℕ). line_text s.version (n + 1) e) p

run-more : (n : ℕ) (s : Scenario) (h : List Entry) (picks left : List ℕ) (last : ℕ) (e : Entry) → ended_as s h ≡ None → turn s (sight s h) picks last ≡ Some (record { lane = e.lane; picks = left }) → next s h e.lane ≡ Some e.deed → run_on (suc n) s h picks last ≡ run_on n s (e ∷ h) left (last_after e.lane last)
run-more n s h picks left last e a b c =
    ap (unless_ended s (run_on n s) h picks last) a
    ∙ ap (with_turn s (run_on n s) h last) b
    ∙ ap (with_entry (run_on n s) h (record { lane = e.lane; picks = left }) last) c

further : (s : Scenario) (start : Option (List ℕ)) (from : List ℕ) (m : Moment) (e : Entry) (new : State) (picks : List ℕ) (last : ℕ) → Formed s → (p : Driving s start from m) → IsTurn s m.state m.picks m.last e new picks last → Further s m p.history e new picks last
further s start from m e new picks last f p t = on p.more p.count p.way
  where
    within : length p.history ≤ limit s
    within = let c = p.count in omega (arith, c)

    goes : ended_as s p.history ≡ None
    goes = ended-same s m.state p.history p.stands within ∙ t.goes_on

    turns : turn s (sight s p.history) m.picks m.last ≡ Some (record { lane = e.lane; picks = picks })
    turns = turn-same s m.state p.history m.picks m.last p.stands ∙ t.turn

    nexts : next s p.history e.lane ≡ Some e.deed
    nexts = sym (same-next s m.state p.history e.lane p.stands) ∙ t.next.deed

    stands : StandsFor s new (e ∷ p.history)
    stands = subst (λ (st : State). StandsFor s st (e ∷ p.history)) (sym t.next.becomes) (stands-later s m.state p.history e.lane e.deed f (p.stands.lawful, nexts) p.stands)

    small : m.state.entries < limit s
    small = below_limit s m.state t.goes_on (let c = within in let k = p.stands.entries in omega (arith, c, k))

    on : (more : ℕ) → more + length p.history ≡ limit s → run_on more s p.history m.picks m.last ≡ whole_history s → Further s m p.history e new picks last
    on zero c w = absurd (let k = p.stands.entries in let b = small in omega (arith, c, k, b))
    on (suc n) c w = record {
      more = n;
      stands = stands;
      count = one-less n (length p.history) (limit s) c;
      way = ap (λ (l : ℕ). run_on n s (e ∷ p.history) picks l) t.follows ∙ sym (run-more n s p.history m.picks picks m.last e goes turns nexts) ∙ w;
      line = line-same s m.state p.history e p.stands.entries;
    }

pub driving_on : (s : Scenario) (start : Option (List ℕ)) (from : List ℕ) (m n : Moment) (e : Entry) → Formed s → Driving s start from m → IsMade s m n e → Driving s start from n
driving_on s start from m n e f p q =
    let w : Further s m p.history e n.state n.picks n.last = further s start from m e n.state n.picks n.last f p q.turn in
    record {
      history = e ∷ p.history;
      more = w.more;
      stands = w.stands;
      count = w.count;
      way = w.way;
      written = p.written ++ q.line.written;
      gained = gains_both start m.held n.held p.written q.line.written p.gained q.line.gained;
      parts = append_assoc p.written q.line.written n.lines
          ∙ ap (λ (x : List ℕ). p.written ++ x) q.line.parts
          ∙ sym (append_assoc p.written m.lines (next_line s m.state e))
          ∙ ap (λ (x : List ℕ). x ++ next_line s m.state e) p.parts
          ∙ ap (λ (x : List ℕ). history_text s.version p.history ++ x) w.line;
      counts = q.steps ∙ served-same s m.state p.history e.lane m.steps p.stands ∙ ap (served_at s p.history e.lane) p.counts;
    }

-- ---- where a step failed

begins-whole : (s : Scenario) (h : List Entry) (n : ℕ) (picks : List ℕ) (last : ℕ) → run_on n s h picks last ≡ whole_history s → Begins (history_text s.version h) (whole_text s)
unfolding whole_history whole_text
begins-whole s h n picks last w =
    let b : Begins (history_text s.version h) (history_text s.version (scheduled s)) = subst (λ (x : List Entry). Begins (history_text s.version h) (history_text s.version x)) w (text-on n s h picks last) in
    record {
      back = b.back ++ report s (scheduled s);
      parts = ap (λ (x : List ℕ). x ++ report s (scheduled s)) b.parts ∙ append_assoc (history_text s.version h) b.back (report s (scheduled s));
    }

pub driving_stopped : (s : Scenario) (start held : Option (List ℕ)) (from : List ℕ) (m : Moment) → Formed s → Driving s start from m → Fails s m held → GainsPrefix start held (whole_text s)
driving_stopped s start held from m f p (inl same) =
    let b : Begins (history_text s.version p.history) (whole_text s) = begins-whole s p.history p.more m.picks m.last p.way in
    record {
      front = p.written;
      back = m.lines ++ b.back;
      parts = b.parts ∙ ap (λ (x : List ℕ). x ++ b.back) (sym p.parts) ∙ append_assoc p.written m.lines b.back;
      gained = subst (λ (o : Option (List ℕ)). Gains start o p.written) (sym same) p.gained;
    }
driving_stopped s start held from m f p (inr q) =
    let w : Further s m p.history q.entry q.state q.picks q.last = further s start from m q.entry q.state q.picks q.last f p q.turn in
    let b : Begins (history_text s.version (q.entry ∷ p.history)) (whole_text s) = begins-whole s (q.entry ∷ p.history) w.more q.picks q.last w.way in
    let lines : p.written ++ (m.lines ++ next_line s m.state q.entry) ≡ history_text s.version (q.entry ∷ p.history) =
    sym (append_assoc p.written m.lines (next_line s m.state q.entry))
    ∙ ap (λ (x : List ℕ). x ++ next_line s m.state q.entry) p.parts
    ∙ ap (λ (x : List ℕ). history_text s.version p.history ++ x) w.line in
    let g : GainsPrefix start held (p.written ++ (m.lines ++ next_line s m.state q.entry)) = gains_then_prefix start m.held held p.written (m.lines ++ next_line s m.state q.entry) p.gained q.prefix in
    subst (λ (x : List ℕ). GainsPrefix start held x) (sym b.parts)
    (prefix_of_more start held (history_text s.version (q.entry ∷ p.history)) b.back (subst (λ (x : List ℕ). GainsPrefix start held x) lines g))

-- ---- where the history has ended

pub record Ending (s : Scenario) (start : Option (List ℕ)) (from : List ℕ) (m : Moment) (x : Ended) : Type 0 where
  pub written : List ℕ
  pub gained : Gains start m.held written
  pub whole : whole_text s ≡ written ++ (m.lines ++ report_text (all_counts_in s m.state) m.state.entries m.state.clock x)
  pub replay : IsReplay s (record { ended = x; entries = m.state.entries; clock = m.state.clock })
  pub counts : m.steps ≡ whole_served s from

run-over : (n : ℕ) (s : Scenario) (h : List Entry) (picks : List ℕ) (last : ℕ) (x : Ended) → ended_as s h ≡ Some x → run_on n s h picks last ≡ h
run-over zero s h picks last x e = refl
run-over (suc n) s h picks last x e = ap (unless_ended s (run_on n s) h picks last) e

ending-whole : (s : Scenario) (st : State) (h : List Entry) (x : Ended) (written lines : List ℕ) → whole_history s ≡ h → ended_as s h ≡ Some x → StandsFor s st h → written ++ lines ≡ history_text s.version h → whole_text s ≡ written ++ (lines ++ report_text (all_counts_in s st) st.entries st.clock x)
unfolding whole_history whole_text
ending-whole s st h x written lines same e p parts =
    ap (λ (k : List Entry). text s k ++ report s k) same
    ∙ ap (λ (y : Option Ended). text s h ++ report_as s h y) e
    ∙ ap (λ (cs : List Counts). text s h ++ report_text cs (length h) (clock h) x) (sym (all-counted s st h p))
    ∙ ap (λ (n : ℕ). text s h ++ report_text (all_counts_in s st) n (clock h) x) (sym p.entries)
    ∙ ap (λ (n : ℕ). text s h ++ report_text (all_counts_in s st) st.entries n x) (sym p.clock)
    ∙ ap (λ (t : List ℕ). t ++ report_text (all_counts_in s st) st.entries st.clock x) (sym parts)
    ∙ append_assoc written lines (report_text (all_counts_in s st) st.entries st.clock x)

ending-replay : (s : Scenario) (st : State) (h : List Entry) (x : Ended) → whole_history s ≡ h → ended_as s h ≡ Some x → StandsFor s st h → IsReplay s (record { ended = x; entries = st.entries; clock = st.clock })
unfolding whole_history
ending-replay s st h x same e p = record {
  ends = ap (ended_as s) same ∙ e;
  length_is = p.entries ∙ ap (λ (k : List Entry). length k) (sym same);
  clock_is = p.clock ∙ ap clock (sym same);
}

ending-served : (s : Scenario) (h : List Entry) (from : List ℕ) → whole_history s ≡ h → served_by s h from ≡ whole_served s from
unfolding whole_history whole_served
ending-served s h from same = ap (λ (k : List Entry). served_by s k from) (sym same)

pub driving_over : (s : Scenario) (start : Option (List ℕ)) (from : List ℕ) (m : Moment) (x : Ended) → Driving s start from m → ended_now s m.state ≡ Some x → Ending s start from m x
driving_over s start from m x p e =
    let within : length p.history ≤ limit s = let c = p.count in omega (arith, c) in
    let ends : ended_as s p.history ≡ Some x = ended-same s m.state p.history p.stands within ∙ e in
    let same : whole_history s ≡ p.history = sym p.way ∙ run-over p.more s p.history m.picks m.last x ends in
    record {
      written = p.written;
      gained = p.gained;
      whole = ending-whole s m.state p.history x p.written m.lines same ends p.stands p.parts;
      replay = ending-replay s m.state p.history x same ends p.stands;
      counts = p.counts ∙ ending-served s p.history from same;
    }

pub ended_gains : (s : Scenario) (start held : Option (List ℕ)) (from : List ℕ) (m : Moment) (x : Ended) → Ending s start from m x → Gains m.held held (m.lines ++ report_text (all_counts_in s m.state) m.state.entries m.state.clock x) → Gains start held (whole_text s)
ended_gains s start held from m x e g =
    subst (λ (t : List ℕ). Gains start held t) (sym e.whole) (gains_both start m.held held e.written _ e.gained g)

pub ended_prefix : (s : Scenario) (start held : Option (List ℕ)) (from : List ℕ) (m : Moment) (x : Ended) → Ending s start from m x → GainsPrefix m.held held (m.lines ++ report_text (all_counts_in s m.state) m.state.entries m.state.clock x) → GainsPrefix start held (whole_text s)
ended_prefix s start held from m x e g =
    subst (λ (t : List ℕ). GainsPrefix start held t) (sym e.whole) (gains_then_prefix start m.held held e.written _ e.gained g)

pub driving_within : (s : Scenario) (start : Option (List ℕ)) (from : List ℕ) (m : Moment) → Driving s start from m → m.state.entries ≤ limit s
driving_within s start from m p = let c = p.count in let k = p.stands.entries in omega (arith, c, k)

-- ---- for the loop

pub driving_start_at : (s : Scenario) (start : Option (List ℕ)) (from : List ℕ) (st : State) (tried last : ℕ) (lines : List ℕ) → st ≡ first_tables s → tried ≡ 0 → last ≡ 0 → lines ≡ [] → Driving s start from (record { state = st; picks = drop tried s.picks; last = last; lines = lines; held = start; steps = from })
driving_start_at s start from st tried last lines e t l none =
    driving_start s start from (record { state = st; picks = drop tried s.picks; last = last; lines = lines; held = start; steps = from }) e (ap (λ (n : ℕ). drop n s.picks) t) l none refl refl

pub driving_on_step : (s : Scenario) (start : Option (List ℕ)) (from : List ℕ) (m n : Moment) (e : Entry) (step : Turned) → Formed s → Driving s start from m → StepsTo s m n e step → over_of step ≡ None → Driving s start from n
driving_on_step s start from m n e Made f p q is = driving_on s start from m n e f p q
driving_on_step s start from m n e (Over x) f p q is = cc

-- The state that a runtime has after its last entry was taken is the one before.
pub driving_same : (s : Scenario) (start : Option (List ℕ)) (from : List ℕ) (st new : State) (picks : List ℕ) (last : ℕ) (lines : List ℕ) (held : Option (List ℕ)) (steps : List ℕ) → new ≡ st
    → Driving s start from (record { state = st; picks = picks; last = last; lines = lines; held = held; steps = steps })
    → Driving s start from (record { state = new; picks = picks; last = last; lines = lines; held = held; steps = steps })
driving_same s start from st new picks last lines held steps e d =
    subst (λ (x : State). Driving s start from (record { state = x; picks = picks; last = last; lines = lines; held = held; steps = steps })) (sym e) d

fewer : (most a b : ℕ) → a < most → b ≡ a + 1 → most - b < most - a
fewer most a b h k = omega (arith, h, k)

pub driving_smaller : (s : Scenario) (start : Option (List ℕ)) (from : List ℕ) (m n : Moment) (e : Entry) (step : Turned) → Driving s start from m → StepsTo s m n e step → over_of step ≡ None → limit s - n.state.entries < limit s - m.state.entries
driving_smaller s start from m n e Made p q is =
    fewer (limit s) m.state.entries n.state.entries
    (below_limit s m.state q.turn.goes_on (driving_within s start from m p))
    (one_entry s m.state n.state e.lane e q.turn.next)
driving_smaller s start from m n e (Over x) p q is = cc

pub driving_over_step : (s : Scenario) (start : Option (List ℕ)) (from : List ℕ) (m n : Moment) (e : Entry) (step : Turned) (x : Ended) → Driving s start from m → StepsTo s m n e step → over_of step ≡ Some x → Ending s start from n x
driving_over_step s start from m n e Made x p q is = cc
driving_over_step s start from m n e (Over y) x p q is =
    subst (λ (k : Moment). Ending s start from k x) (sym q.same) (driving_over s start from m x p (q.ended ∙ is))

pub reached_over_step : (s : Scenario) (start : Option (List ℕ)) (from : List ℕ) (m n : Moment) (e : Entry) (step : Turned) (x : Ended) → Formed s → Driving s start from m → StepsTo s m n e step → over_of step ≡ Some x → Reached s n.state
reached_over_step s start from m n e Made x f p q is = cc
reached_over_step s start from m n e (Over y) x f p q is =
    subst (λ (k : Moment). Reached s k.state) (sym q.same) (reached_by s m.state p.history f p.stands)

pub on-ok : {A E : Type 0} (r : Result A E) (P : Type 0) → P → OnOk r P
on-ok (Ok x) P p = p
on-ok (Err e) P p = tt
