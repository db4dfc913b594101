-- From a turn and its line to a step of a stream: it makes the next entry of the one history, or the history has ended.
use Rattle.std.proofs.Common.{sym, subst, ◌∙◌, ap, arith, inl, inr, append_assoc, append-nil}
use Rattle.std.proofs.lemmas.List.{reverse-append, reverse-reverse}
use Rattle.std.specs.Prelude.{◌≡◌, refl, ℕ, zero, suc, ◌+◌, ◌≤◌, List, [], ◌∷◌, ◌++◌, length, Option, Some, None, is_some, reverse}
use Rattle.com_io.specs.Told.{Gains, GainsPrefix}
use Rattle.com_io.proofs.Passing.{gains_then_prefix, gains_nothing}
use Rattle.com_model.specs.declared.counts.Counts.{Counts}
use Rattle.com_model.specs.declared.counts.Ended.{Ended}
use Rattle.com_model.specs.declared.deeds.Deed.{Deed}
use Rattle.com_model.specs.declared.deeds.Entry.{Entry}
use Rattle.com_model.specs.declared.scenario.Scenario.{Scenario}
use Rattle.com_model.specs.Clock.{clock}
use Rattle.com_model.specs.Ends.{Turn, turn, ended_as, last_after, limit, report, report_as, run_on, with_entry, with_turn, unless_ended}
use Rattle.com_model.specs.Formed.{Formed}
use Rattle.com_model.specs.Rules.{next}
use Rattle.com_model.specs.Sight.{sight}
use Rattle.com_model.specs.State.{State, StandsFor, first_tables}
use Rattle.com_model.specs.Text.{line_text, report_text}
use Rattle.com_runtime.specs.Reports.{all_counts_in}
use Rattle.com_runtime.specs.Standings.{ended_now, Reached}
use Rattle.com_runtime.specs.Turns.{next_line, served_at, served_in}
use Rattle.com_runtime.proofs.Counting.{all-counted}
use Rattle.com_runtime.proofs.Resting.{reached_by}
use Rattle.com_replay.specs.declared.replayed.Replayed.{Replayed}
use Rattle.com_replay.specs.Replays.{whole_history}
use Rattle.com_replay.specs.Steps.{Moment, IsMade, IsOver, Fails}
use Rattle.com_replay.specs.Streams.{Position, StandsAt, UnderWay, IsNextOf, GoesFurther, Concludes, Advances, BrokenOff, position}
use Rattle.com_replay.specs.Playing.{IsReady}
use Rattle.com_replay.specs.declared.course.Course.{Course}
use Rattle.com_replay.proofs.Driving.{ended-same, line-same, served-same}
use Rattle.com_replay.proofs.Recording.{Recording, recording_goes_on, recording_starts}

-- ---- a history that goes on keeps what it had

record Later (front whole : List Entry) : Type 0 where
  later : List Entry
  parts : whole ≡ later ++ front

later-same : (h : List Entry) → Later h h
later-same h = record { later = []; parts = refl }

later-more : (e : Entry) (h whole : List Entry) → Later (e ∷ h) whole → Later h whole
later-more e h whole l = record { later = l.later ++ e ∷ []; parts = l.parts ∙ sym (append_assoc l.later (e ∷ []) h) }

abbrev On : ℕ → Scenario → Type 0
On n s = (h : List Entry) (picks : List ℕ) (last : ℕ) → Later h (run_on n s h picks last)

by-deed : (n : ℕ) (s : Scenario) → On n s → (h : List Entry) (t : Turn) (last : ℕ) (d : Option Deed) → Later h (with_entry (run_on n s) h t last d)
by-deed n s go h t last None = later-same h
by-deed n s go h t last (Some d) =
    later-more (record { lane = t.lane; deed = d }) h _ (go (record { lane = t.lane; deed = d } ∷ h) t.picks (last_after t.lane last))

by-turn : (n : ℕ) (s : Scenario) → On n s → (h : List Entry) (last : ℕ) (t : Option Turn) → Later h (with_turn s (run_on n s) h last t)
by-turn n s go h last None = later-same h
by-turn n s go h last (Some t) = by-deed n s go h t last (next s h t.lane)

by-end : (n : ℕ) (s : Scenario) → On n s → (h : List Entry) (picks : List ℕ) (last : ℕ) (x : Option Ended) → Later h (unless_ended s (run_on n s) h picks last x)
by-end n s go h picks last (Some x) = later-same h
by-end n s go h picks last None = by-turn n s go h last (turn s (sight s h) picks last)

run-later : (n : ℕ) (s : Scenario) → On n s
run-later zero s h picks last = later-same h
run-later (suc n) s h picks last = by-end n s (run-later n s) h picks last (ended_as s h)

next-of-way : (s : Scenario) (h : List Entry) (e : Entry) (n : ℕ) (picks : List ℕ) (last : ℕ) → run_on n s (e ∷ h) picks last ≡ whole_history s → IsNextOf s h e
next-of-way s h e n picks last way =
    let l : Later (e ∷ h) (run_on n s (e ∷ h) picks last) = run-later n s (e ∷ h) picks last in
    record { later = l.later; whole = sym way ∙ l.parts }

-- ---- where a stream stands

abbrev at : Scenario → Moment → Position
at s m = record { scenario = s; state = m.state; picks = m.picks; last = m.last }

within : (p : Position) (h : List Entry) → StandsAt p h → length h ≤ limit p.scenario
within p h q = let c = q.count in omega (arith, c)

recording-of : (p : Position) (h : List Entry) → StandsAt p h → Recording p.scenario p.state p.picks p.last (reverse h)
recording-of p h q = record {
  history = h;
  is = reverse-reverse h;
  more = q.more;
  stands = q.stands;
  count = q.count;
  way = q.way;
}

stands-of : (p : Position) (entries h : List Entry) → Recording p.scenario p.state p.picks p.last entries → reverse entries ≡ h → StandsAt p h
stands-of p entries h r e =
    let same : r.history ≡ h = sym r.is ∙ e in
    record {
      stands = subst (λ (k : List Entry). StandsFor p.scenario p.state k) same r.stands;
      more = r.more;
      count = subst (λ (k : List Entry). r.more + length k ≡ limit p.scenario) same r.count;
      way = subst (λ (k : List Entry). run_on r.more p.scenario k p.picks p.last ≡ whole_history p.scenario) same r.way;
    }

stands-on : (s : Scenario) (m n : Moment) (e : Entry) (h : List Entry) → Formed s → IsMade s m n e → StandsAt (at s m) h → StandsAt (at s n) (e ∷ h)
stands-on s m n e h formed made q =
    let all : List Entry = reverse h ++ e ∷ [] in
    stands-of (at s n) all (e ∷ h)
    (recording_goes_on s m n e (reverse h) all formed made (recording-of (at s m) h q) refl)
    (reverse-append (reverse h) (e ∷ []) ∙ ap (λ (k : List Entry). e ∷ k) (reverse-reverse h))

pub under_way_within : (p : Position) → UnderWay p → p.state.entries ≤ limit p.scenario
under_way_within p u = let low = within p u.history u.stands in let k = u.stands.stands.entries in omega (arith, low, k)

pub under_way_reached : (p : Position) → UnderWay p → Reached p.scenario p.state
under_way_reached p u = reached_by p.scenario p.state u.history u.formed u.stands.stands

-- ---- where an entry was made

pub made_under_way : (s : Scenario) (m n : Moment) (e : Entry) → IsMade s m n e → UnderWay (at s m) → UnderWay (at s n)
made_under_way s m n e made u = record {
  formed = u.formed;
  history = e ∷ u.history;
  stands = stands-on s m n e u.history u.formed made u.stands;
}

-- What was written of the line before, and what is kept of it.
line-parts : (s : Scenario) (m n : Moment) (e : Entry) (h : List Entry) → m.lines ≡ [] → (made : IsMade s m n e) → StandsAt (at s m) h
    → made.line.written ++ n.lines ≡ line_text s.version (length h + 1) e
line-parts s m n e h none made q =
    made.line.parts
    ∙ ap (λ (xs : List ℕ). xs ++ next_line s m.state e) none
    ∙ line-same s m.state h e q.stands.entries

-- All of it was written, where none is kept.
line-whole : (s : Scenario) (m n : Moment) (e : Entry) (h : List Entry) → m.lines ≡ [] → n.lines ≡ [] → (made : IsMade s m n e) → StandsAt (at s m) h
    → made.line.written ≡ line_text s.version (length h + 1) e
line-whole s m n e h none all made q =
    sym (append-nil made.line.written) ∙ ap (λ (xs : List ℕ). made.line.written ++ xs) (sym all) ∙ line-parts s m n e h none made q

pub made_goes : (s : Scenario) (m n : Moment) (e : Entry) → IsMade s m n e → n.lines ≡ [] → UnderWay (at s m) → m.lines ≡ []
    → (h : List Entry) → StandsAt (at s m) h → GoesFurther s (at s n) h e m.held n.held m.steps n.steps
made_goes s m n e made all u none h q =
    let on : StandsAt (at s n) (e ∷ h) = stands-on s m n e h u.formed made q in
    record {
      goes_on = ended-same s m.state h q.stands (within (at s m) h q) ∙ made.turn.goes_on;
      next = next-of-way s h e on.more n.picks n.last on.way;
      stands = on;
      line = subst (λ (t : List ℕ). Gains m.held n.held t) (line-whole s m n e h none all made q) made.line.gained;
      serves = made.steps ∙ served-same s m.state h e.lane m.steps q.stands;
    }

made_broken : (s : Scenario) (m n : Moment) (e : Entry) (new : Option (List ℕ)) → IsMade s m n e → GainsPrefix n.held new n.lines → UnderWay (at s m) → m.lines ≡ []
    → (h : List Entry) → StandsAt (at s m) h → BrokenOff s h m.held new
made_broken s m n e new made begun u none h q =
    let on : StandsAt (at s n) (e ∷ h) = stands-on s m n e h u.formed made q in
    inr (inl (record {
      entry = e;
      next = next-of-way s h e on.more n.picks n.last on.way;
      prefix = subst (λ (t : List ℕ). GainsPrefix m.held new t) (line-parts s m n e h none made q)
          (gains_then_prefix m.held n.held new made.line.written n.lines made.line.gained begun);
    }))

-- Where the turn failed, or its line.
pub fails_broken : (s : Scenario) (m : Moment) (new : Option (List ℕ)) → Fails s m new → UnderWay (at s m) → m.lines ≡ []
    → (h : List Entry) → StandsAt (at s m) h → BrokenOff s h m.held new
fails_broken s m new (inl same) u none h q = inl same
fails_broken s m new (inr i) u none h q = made_broken s m n i.entry new made i.prefix u none h q
  where
    n : Moment
    n = record {
      state = i.state;
      picks = i.picks;
      last = i.last;
      lines = m.lines ++ next_line s m.state i.entry;
      held = m.held;
      steps = served_in s m.state i.entry.lane m.steps;
    }

    made : IsMade s m n i.entry
    made = record {
      turn = i.turn;
      line = record { written = []; gained = gains_nothing m.held; parts = refl };
      steps = refl;
    }

-- ---- where the history has ended

pub over_under_way : (s : Scenario) (m n : Moment) (x : Ended) → IsOver s m n x → UnderWay (at s m) → UnderWay (at s n)
over_under_way s m n x over u = subst (λ (k : Moment). UnderWay (at s k)) (sym over.same) u

pub over_reached_at : (s : Scenario) (m n : Moment) (x : Ended) → IsOver s m n x → UnderWay (at s m) → Reached s n.state
over_reached_at s m n x over u = under_way_reached (at s n) (over_under_way s m n x over u)

ends-at : (s : Scenario) (m : Moment) (x : Ended) (h : List Entry) → ended_now s m.state ≡ Some x → StandsAt (at s m) h → ended_as s h ≡ Some x
ends-at s m x h e q = ended-same s m.state h q.stands (within (at s m) h q) ∙ e

-- The report that a moment tells, behind the lines that are kept.
abbrev ending-text : Scenario → Moment → Ended → List ℕ
ending-text s m x = m.lines ++ report_text (all_counts_in s m.state) m.state.entries m.state.clock x

text-same : (s : Scenario) (m : Moment) (x : Ended) (h : List Entry) → m.lines ≡ [] → ended_now s m.state ≡ Some x → StandsAt (at s m) h → ending-text s m x ≡ report s h
text-same s m x h none e q =
    ap (λ (xs : List ℕ). xs ++ report_text (all_counts_in s m.state) m.state.entries m.state.clock x) none
    ∙ ap (λ (n : ℕ). report_text (all_counts_in s m.state) m.state.entries n x) q.stands.clock
    ∙ ap (λ (n : ℕ). report_text (all_counts_in s m.state) n (clock h) x) q.stands.entries
    ∙ ap (λ (cs : List Counts). report_text cs (length h) (clock h) x) (all-counted s m.state h q.stands)
    ∙ ap (report_as s h) (sym (ends-at s m x h e q))

abbrev answer : Moment → Ended → Replayed
answer m x = record { ended = x; entries = m.state.entries; clock = m.state.clock }

concludes-at : (s : Scenario) (m : Moment) (x : Ended) (r : Replayed) (new : Option (List ℕ)) → m.lines ≡ [] → ended_now s m.state ≡ Some x
    → r ≡ answer m x → Gains m.held new (ending-text s m x) → (h : List Entry) → StandsAt (at s m) h → Concludes s h r m.held new m.steps m.steps
concludes-at s m x r new none e is gained h q = record {
  end = record {
    ends = ends-at s m x h e q ∙ ap (λ (y : Replayed). Some y.ended) (sym is);
    length_is = ap (λ (y : Replayed). y.entries) is ∙ q.stands.entries;
    clock_is = ap (λ (y : Replayed). y.clock) is ∙ q.stands.clock;
  };
  told = subst (λ (t : List ℕ). Gains m.held new t) (text-same s m x h none e q) gained;
  same = refl;
}

pub over_concludes : (s : Scenario) (m n : Moment) (x : Ended) (r : Replayed) (new : Option (List ℕ)) → IsOver s m n x → r ≡ answer n x
    → Gains n.held new (ending-text s n x) → m.lines ≡ [] → (h : List Entry) → StandsAt (at s m) h → Concludes s h r m.held new m.steps n.steps
over_concludes s m n x r new over is gained none h q =
    subst (λ (k : Moment). r ≡ answer k x → Gains k.held new (ending-text s k x) → Concludes s h r m.held new m.steps k.steps) (sym over.same)
    (λ a b. concludes-at s m x r new none over.ended a b h q) is gained

broken-at : (s : Scenario) (m : Moment) (x : Ended) (new : Option (List ℕ)) → m.lines ≡ [] → ended_now s m.state ≡ Some x
    → GainsPrefix m.held new (ending-text s m x) → (h : List Entry) → StandsAt (at s m) h → BrokenOff s h m.held new
broken-at s m x new none e begun h q =
    inr (inr (record {
      over = ap is_some (ends-at s m x h e q);
      prefix = subst (λ (t : List ℕ). GainsPrefix m.held new t) (text-same s m x h none e q) begun;
    }))

pub over_broken : (s : Scenario) (m n : Moment) (x : Ended) (new : Option (List ℕ)) → IsOver s m n x → GainsPrefix n.held new (ending-text s n x)
    → m.lines ≡ [] → (h : List Entry) → StandsAt (at s m) h → BrokenOff s h m.held new
over_broken s m n x new over begun none h q =
    subst (λ (k : Moment). GainsPrefix k.held new (ending-text s k x) → BrokenOff s h m.held new) (sym over.same)
    (λ b. broken-at s m x new none over.ended b h q) begun

-- ---- by what a contract sees of a stream

pub step_goes : (p self q : Position) (h : List Entry) (e : Entry) (old new : Option (List ℕ)) (a b : List ℕ) (x : Option Replayed) → p ≡ self → x ≡ None
    → ((k : List Entry) → StandsAt p k → Advances p.scenario q k e old new a b x) → StandsAt self h → GoesFurther self.scenario q h e old new a b
step_goes p self q h e old new a b x same is go stands =
    subst (λ (r : Position). GoesFurther r.scenario q h e old new a b) same
    (subst (λ (y : Option Replayed). Advances p.scenario q h e old new a b y) is (go h (subst (λ (r : Position). StandsAt r h) (sym same) stands)))

pub step_concludes : (p self q : Position) (h : List Entry) (e : Entry) (old new : Option (List ℕ)) (a b : List ℕ) (x : Option Replayed) (r : Replayed) → p ≡ self → x ≡ Some r
    → ((k : List Entry) → StandsAt p k → Advances p.scenario q k e old new a b x) → StandsAt self h → Concludes self.scenario h r old new a b
step_concludes p self q h e old new a b x r same is go stands =
    subst (λ (t : Position). Concludes t.scenario h r old new a b) same
    (subst (λ (y : Option Replayed). Advances p.scenario q h e old new a b y) is (go h (subst (λ (t : Position). StandsAt t h) (sym same) stands)))

pub step_broken : (p self : Position) (h : List Entry) (old new : Option (List ℕ)) → p ≡ self
    → ((k : List Entry) → StandsAt p k → BrokenOff p.scenario k old new) → StandsAt self h → BrokenOff self.scenario h old new
step_broken p self h old new same go stands =
    subst (λ (r : Position). BrokenOff r.scenario h old new) same (go h (subst (λ (r : Position). StandsAt r h) (sym same) stands))

-- The entry that was made is taken: the state stays.
pub stands_taken : (s t : Scenario) (st new : State) (tried last : ℕ) (e taken : Entry) (h : List Entry) → s ≡ t → new ≡ st → taken ≡ e
    → StandsAt (position s st tried last) (e ∷ h) → StandsAt (position t new tried last) (taken ∷ h)
stands_taken s t st new tried last e taken h same stays is stands =
    subst (λ (k : Scenario). StandsAt (position k new tried last) (taken ∷ h)) same
    (subst (λ (x : State). StandsAt (position s x tried last) (taken ∷ h)) (sym stays)
    (subst (λ (x : Entry). StandsAt (position s st tried last) (x ∷ h)) (sym is) stands))

-- Before the first entry.
pub stands_first : (s : Scenario) (st : State) (tried last : ℕ) → st ≡ first_tables s → tried ≡ 0 → last ≡ 0 → StandsAt (position s st tried last) []
stands_first s st tried last first none zeroth =
    stands-of (position s st tried last) [] [] (recording_starts s st tried last [] first none zeroth refl) refl

pub ready_first : (s own : Scenario) (st : State) (course : Course) → Formed s → own ≡ s → st ≡ first_tables s → course.tried ≡ 0 → course.last ≡ 0 → course.lines ≡ [] → IsReady s own st course
ready_first s own st course formed same first none zeroth empty = record {
  same = same;
  under_way = record { formed = formed; history = []; stands = stands_first s st course.tried course.last first none zeroth };
  last = omega (arith, zeroth);
  none = empty;
}

pub next_taken : (s : Scenario) (h : List Entry) (e taken : Entry) → taken ≡ e → IsNextOf s h e → IsNextOf s h taken
next_taken s h e taken is next = subst (λ (x : Entry). IsNextOf s h x) (sym is) next

pub line_taken : (s : Scenario) (h : List Entry) (e taken : Entry) (old new : Option (List ℕ)) → taken ≡ e
    → Gains old new (line_text s.version (length h + 1) e) → Gains old new (line_text s.version (length h + 1) taken)
line_taken s h e taken old new is gained = subst (λ (x : Entry). Gains old new (line_text s.version (length h + 1) x)) (sym is) gained

pub served_taken : (s : Scenario) (h : List Entry) (e taken : Entry) (a b : List ℕ) → taken ≡ e → b ≡ served_at s h e.lane a → b ≡ served_at s h taken.lane a
served_taken s h e taken a b is serves = subst (λ (x : Entry). b ≡ served_at s h x.lane a) (sym is) serves
