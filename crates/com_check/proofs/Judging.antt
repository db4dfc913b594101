-- Judging a trace: what its steps make of what was known.
use Rattle.std.proofs.Common.{◌≡◌, ℕ, zero, suc, ◌+◌, ◌-◌, ◌^◌, ◌<◌, ◌≤◌, refl, sym, ◌∙◌, ap, subst, append_assoc, append-nil, length-append, arith, List, [], ◌∷◌, ◌++◌, length, take, Bool, true, false, Option, Some, None}
use Rattle.std.proofs.lemmas.Grind.{common_steps}
use Rattle.std.specs.Prelude.{◌==◌, MatchOption, codes, cond, if◌then◌else◌, is_some, nat_le, option_map, option_and_then}
use Rattle.com_model.specs.declared.counts.Counts.{Counts}
use Rattle.com_model.specs.declared.counts.Ended.{Ended}
use Rattle.com_model.specs.declared.counts.Ended.TheVariants as ended
use Rattle.com_model.specs.declared.deeds.Deed.{Deed}
use Rattle.com_model.specs.declared.deeds.Entry.{Entry}
use Rattle.com_model.specs.declared.scenario.Scenario.{Scenario}
use Rattle.com_model.specs.Ends.{all_counts, ended_as, ended_by, last_after, limit, report_as, turn}
use Rattle.com_model.specs.Formed.{Formed}
use Rattle.com_model.specs.Lists.{first}
use Rattle.com_model.specs.Rules.{legal, next}
use Rattle.com_model.specs.Sight.{Sight, sight}
use Rattle.com_model.specs.State.{State, StandsFor, first_tables, sight_of}
use Rattle.com_model.specs.Tables.{lanes}
use Rattle.com_model.specs.Text.{line_text, report_text}
use Rattle.com_model.proofs.Lanes.{lane-within}
use Rattle.com_model.proofs.Sights.{same-next, same-sight}
use Rattle.com_model.proofs.Whole.{first-stands}
use Rattle.com_runtime.proofs.Runs.{stands-later}
use Rattle.com_runtime.specs.Reports.{all_counts_in}
use Rattle.com_runtime.specs.declared.runtime.Standing.TheVariants as standing
use Rattle.com_runtime.specs.Standings.{can_step_in, ended_now, standing_of, turn_now, CanGo, Reached}
use Rattle.com_runtime.specs.Turns.{IsNext}
use Rattle.com_runtime.proofs.Choices.{ended_runs, ended_ticks}
use Rattle.com_runtime.proofs.Counting.{all-counted}
use Rattle.com_runtime.proofs.Resting.{reached_by, runs_reached}
use Rattle.com_runtime.proofs.Limits.{below_limit, one_entry}
use Rattle.com_schedule.specs.Tried.{Tried}
use Rattle.com_check.specs.declared.judged.Judged.{Judged}
use Rattle.com_check.specs.declared.judged.Judged.TheVariants as judged
use Rattle.com_check.specs.Fronts.{named, IsNoLane}
use Rattle.com_check.specs.Lines.{lines_of}
use Rattle.com_check.specs.Judging.{IsJudged, Unended, entry_line, entry_of, history_lines, lane_due, lane_of_turn, last_lane, legal_line, line_due, report_lines, shown}
use Rattle.com_check.specs.Turning.{IsCompared, IsEntry, IsLast, IsNextOf, IsOther, IsReported, IsScheduled, IsTold, IsTried, IsWritten, NamesNone, entry_in, lane_in, line_in}
use Rattle.com_check.proofs.Entries.{entry_made, none_above, none_still}
use Rattle.com_check.proofs.Histories.{history_length, nothing_told}

-- ---- a line

front_taken : (front back : List ℕ) → take (length front) (front ++ back) ≡ front
front_taken [] back = refl
front_taken (b ∷ bs) back = ap (λ (t : List ℕ). b ∷ t) (front_taken bs back)

front_of : (line : List ℕ) → take (length (line ++ 10 ∷ []) - 1) (line ++ 10 ∷ []) ≡ line
front_of line =
    let count : length (line ++ 10 ∷ []) - 1 ≡ length line = omega (arith, length-append line (10 ∷ [])) in
    rw count (front_taken line (10 ∷ []))

-- The text of an entry's line without its last byte is the line.
pub without_end : (version place : ℕ) (e : Entry) (text : List ℕ) → text ≡ line_text version place e
    → take (length text - 1) text ≡ entry_line version place e
unfolding entry_line
without_end version place e text is = rw is (front_of _)

-- ---- turns

line_made : (s : Scenario) (st new : State) (last lane : ℕ) (found : Option (List ℕ)) (e : Entry) → lane_in s st last found ≡ Some lane
    → IsNext s st lane e new → line_in s st last found ≡ Some (entry_line s.version (st.entries + 1) e)
unfolding line_in
line_made s st new last lane found e due p =
    ap (λ (x : Option ℕ). option_map (entry_line s.version (st.entries + 1)) (option_and_then (entry_in s st) x)) due
    ∙ ap (option_map (entry_line s.version (st.entries + 1))) (entry_made s st new lane e p)

no_line : (s : Scenario) (st : State) (last lane : ℕ) (found : Option (List ℕ)) → lane_in s st last found ≡ Some lane → entry_in s st lane ≡ None
    → line_in s st last found ≡ None
unfolding line_in
no_line s st last lane found due none =
    ap (λ (x : Option ℕ). option_map (entry_line s.version (st.entries + 1)) (option_and_then (entry_in s st) x)) due
    ∙ ap (option_map (entry_line s.version (st.entries + 1))) none

no_lane : (s : Scenario) (st : State) (last : ℕ) (found : Option (List ℕ)) → lane_in s st last found ≡ None → line_in s st last found ≡ None
unfolding line_in
no_lane s st last found none =
    ap (λ (x : Option ℕ). option_map (entry_line s.version (st.entries + 1)) (option_and_then (entry_in s st) x)) none

one_line : (a b : List ℕ) → Some a ≡ Some b → a ≡ b
one_line a b same = cc

not_none : (a : List ℕ) → Some a ≡ None → ⊥
not_none a same = cc

-- The found line is that of the entry that was made.
pub entry_agrees : (s : Scenario) (st new : State) (last old last_new lane : ℕ) (found line : List ℕ) (b : Bool) → old ≡ last → b ≡ true → IsWritten s st found lane new line
    → IsCompared lane found line old b last_new → IsEntry s st last found new last_new
entry_agrees s st new last old last_new lane found line b kept is w same =
    let both : (found ≡ line) × (last_new ≡ last_after lane old) = subst (λ (x : Bool). IsCompared lane found line old x last_new) is same in
    record {
      entry = w.entry;
      next = subst (λ (k : ℕ). IsNext s st k w.entry new) (sym w.next.by) w.next;
      line = both.0 ∙ w.line_is;
      follows = both.1 ∙ ap (λ (l : ℕ). last_after lane l) kept ∙ ap (λ (k : ℕ). last_after k last) (sym w.next.by);
    }

-- The line of the entry that was made is another one.
pub entry_differs : (s : Scenario) (st new : State) (last lane n : ℕ) (found line : List ℕ) (j : Judged) → IsWritten s st found lane new line → (found ≡ line → ⊥)
    → n ≡ new.entries → j ≡ judged.Differs n found line → IsOther s st last (Some found) j
entry_differs s st new last lane n found line j w other count is =
    let place : n ≡ st.entries + 1 = count ∙ one_entry s st new lane w.entry w.next in
    let legal : Some line ≡ line_in s st last (Some found) =
    ap (λ (x : List ℕ). Some x) w.line_is ∙ sym (line_made s st new last lane (Some found) w.entry w.names w.next) in
    record {
      answer = is ∙ ap (λ (k : ℕ). judged.Differs k found line) place
          ∙ ap (λ (x : Option (List ℕ)). judged.Differs (st.entries + 1) found (shown x)) legal;
      differ = λ same. other (one_line found line (same ∙ sym legal));
    }

named_none : (s : Scenario) (st : State) (last : ℕ) (found : List ℕ) (x : Option ℕ) → named found ≡ x → ((l : ℕ) → x ≡ Some l → entry_in s st l ≡ None)
    → line_in s st last (Some found) ≡ None
named_none s st last found None e none = no_lane s st last (Some found) e
named_none s st last found (Some l) e none = no_line s st last l (Some found) e (none l refl)

-- The found line names no lane that has a next entry.
pub none_legal : (s : Scenario) (st : State) (last n : ℕ) (found : List ℕ) (j : Judged) → NamesNone s st found → ended_now s st ≡ None → n ≡ st.entries
    → j ≡ judged.Differs (n + 1) found (codes "none") → IsOther s st last (Some found) j
none_legal s st last n found j names goes count is =
    let none : line_in s st last (Some found) ≡ None = named_none s st last found (named found) refl (names.none goes) in
    record {
      answer = is ∙ ap (λ (k : ℕ). judged.Differs (k + 1) found (codes "none")) count
          ∙ ap (λ (x : Option (List ℕ)). judged.Differs (st.entries + 1) found (shown x)) (sym none);
      differ = λ same. not_none found (same ∙ none);
    }

few_lanes : (s : Scenario) (st : State) (lane : ℕ) → Reached s st → 2 ^ 32 ≤ lane → lanes s < lane
unfolding Reached
few_lanes s st lane r high = few s.pool (length s.threads) lane r.0.pool.1 r.0.threads.1 high
  where
    few : (p t n : ℕ) → p ≤ 8 → t ≤ 16 → 2 ^ 32 ≤ n → t + 1 + p < n
    few p t n a b c = omega (arith, a, b, c)

-- The trace has ended in the place of the schedule's entry.
pub early_by : (s : Scenario) (st new : State) (last n : ℕ) (e : Entry) (line : List ℕ) (j : Judged) → IsScheduled s st last e new → n ≡ st.entries + 1
    → line ≡ entry_line s.version n e → j ≡ judged.Differs n (codes "none") line → IsOther s st last None j
early_by s st new last n e line j p count is answer =
    let legal : Some line ≡ line_in s st last None =
    ap (λ (x : List ℕ). Some x) (is ∙ ap (λ (k : ℕ). entry_line s.version k e) count) ∙ sym (line_made s st new last e.lane None e p.turn p.next) in
    record {
      answer = answer ∙ ap (λ (k : ℕ). judged.Differs k (codes "none") line) count
          ∙ ap (λ (x : Option (List ℕ)). judged.Differs (st.entries + 1) (codes "none") (shown x)) legal;
      differ = λ same. not_none line (legal ∙ sym same);
    }

-- ---- the same by the history as by the tables

is_low : (k n : ℕ) → k ≤ n → nat_le k n ≡ true
is_low k n q = grind (arith, q)

ended_same : (s : Scenario) (st : State) (h : List Entry) → StandsFor s st h → length h ≤ limit s → ended_as s h ≡ ended_now s st
unfolding ended_now
ended_same s st h p q =
    ap (λ (b : Bool). cond b (ended_by s (sight s h) (length h)) None) (is_low (length h) (limit s) q)
    ∙ ap (λ (v : Sight). ended_by s v (length h)) (sym (same-sight s st h p))
    ∙ ap (ended_by s (sight_of s st)) (sym p.entries)

lane_same : (s : Scenario) (st : State) (h : List Entry) (last : ℕ) (found : Option (List ℕ)) → StandsFor s st h → last ≡ last_lane h
    → lane_in s st last found ≡ lane_due s h found
unfolding turn_now
lane_same s st h last None p e =
    ap (λ (v : Sight). lane_of_turn (turn s v [] last)) (same-sight s st h p) ∙ ap (λ (l : ℕ). lane_of_turn (turn s (sight s h) [] l)) e
lane_same s st h last (Some line) p e = refl

entry_same : (s : Scenario) (st : State) (h : List Entry) (l : ℕ) → StandsFor s st h → entry_in s st l ≡ entry_of s h l
unfolding entry_in entry_of
entry_same s st h l p = ap (option_map (λ (d : Deed). record { lane = l; deed = d })) (same-next s st h l p)

entries_same : (s : Scenario) (st : State) (h : List Entry) (x : Option ℕ) → StandsFor s st h
    → option_and_then (entry_in s st) x ≡ option_and_then (entry_of s h) x
entries_same s st h None p = refl
entries_same s st h (Some l) p = entry_same s st h l p

line_same : (s : Scenario) (st : State) (h : List Entry) (last : ℕ) (found : Option (List ℕ)) → StandsFor s st h → last ≡ last_lane h
    → line_in s st last found ≡ line_due s h found
unfolding line_in line_due
line_same s st h last found p e =
    ap (λ (n : ℕ). option_map (entry_line s.version (n + 1)) (option_and_then (entry_in s st) (lane_in s st last found))) p.entries
    ∙ ap (λ (x : Option ℕ). option_map (entry_line s.version (length h + 1)) (option_and_then (entry_in s st) x)) (lane_same s st h last found p e)
    ∙ ap (option_map (entry_line s.version (length h + 1))) (entries_same s st h (lane_due s h found) p)

told_same : (s : Scenario) (st : State) (h : List Entry) (x : Ended) → StandsFor s st h → ended_as s h ≡ Some x
    → lines_of (report_text (all_counts_in s st) st.entries st.clock x) ≡ report_lines s h
unfolding report_lines
told_same s st h x p e =
    ap (λ (cs : List Counts). lines_of (report_text cs st.entries st.clock x)) (all-counted s st h p)
    ∙ ap (λ (n : ℕ). lines_of (report_text (all_counts s h) n st.clock x)) p.entries
    ∙ ap (λ (t : ℕ). lines_of (report_text (all_counts s h) (length h) t x)) p.clock
    ∙ ap (λ (y : Option Ended). lines_of (report_as s h y)) (sym e)

-- ---- a whole trace

-- A history stands behind the lines that were judged so far.
pub record Sofar (s : Scenario) (trace : List ℕ) (st : State) (last : ℕ) (rest : List ℕ) : Type 0 where
  pub history : List Entry
  pub stands : StandsFor s st history
  pub few : length history ≤ limit s
  pub unended : Unended s history
  pub last_is : last ≡ last_lane history
  pub parts : lines_of trace ≡ history_lines s.version history ++ lines_of rest

nothing_yet : (version : ℕ) (lines : List (List ℕ)) → lines ≡ history_lines version [] ++ lines
unfolding history_lines
nothing_yet version lines = refl

pub first_sofar : (s : Scenario) (trace : List ℕ) (st : State) (last : ℕ) → st ≡ first_tables s → last ≡ 0 → Sofar s trace st last trace
first_sofar s trace st last is none = record {
  history = [];
  stands = subst (λ (x : State). StandsFor s x []) (sym is) (first-stands s);
  few = omega arith;
  unended = tt;
  last_is = none;
  parts = nothing_yet s.version (lines_of trace);
}

pub sofar_reached : (s : Scenario) (trace : List ℕ) (st : State) (last : ℕ) (rest : List ℕ) → Formed s → Sofar s trace st last rest → Reached s st
sofar_reached s trace st last rest f p = reached_by s st p.history f p.stands

pub sofar_within : (s : Scenario) (trace : List ℕ) (st : State) (last : ℕ) (rest : List ℕ) → Sofar s trace st last rest → st.entries ≤ limit s
sofar_within s trace st last rest p = let c = p.few in let k = p.stands.entries in omega (arith, c, k)

pub sofar_below : (s : Scenario) (trace : List ℕ) (st : State) (last : ℕ) (rest : List ℕ) → Sofar s trace st last rest → ended_now s st ≡ None
    → st.entries < limit s
sofar_below s trace st last rest p goes = below_limit s st goes (sofar_within s trace st last rest p)

last_within : (s : Scenario) (h : List Entry) → legal s h → last_lane h ≤ lanes s
last_within s [] q = omega arith
last_within s (e ∷ h) q = later e.lane (last_lane h) (lane-within s h e.lane e.deed q.1) (last_within s h q.0)
  where
    later : (l last : ℕ) → l ≤ lanes s → last ≤ lanes s → last_after l last ≤ lanes s
    later zero last a b = b
    later (suc l) last a b = a

pub sofar_last : (s : Scenario) (trace : List ℕ) (st : State) (last : ℕ) (rest : List ℕ) → Sofar s trace st last rest → last ≤ lanes s
sofar_last s trace st last rest p = subst (λ (l : ℕ). l ≤ lanes s) (sym p.last_is) (last_within s p.history p.stands.lawful)

-- One line more.
longer : (version n : ℕ) (h : List Entry) (e : Entry) (found : List ℕ) (behind : List (List ℕ)) → found ≡ entry_line version n e → n ≡ length h + 1
    → history_lines version h ++ (found ∷ behind) ≡ history_lines version (e ∷ h) ++ behind
unfolding history_lines
longer version n h e found behind is count =
    ap (λ (l : List ℕ). history_lines version h ++ (l ∷ behind)) (is ∙ ap (λ (k : ℕ). entry_line version k e) count)
    ∙ sym (append_assoc (history_lines version h) (entry_line version (length h + 1) e ∷ []) behind)

pub more_sofar : (s : Scenario) (trace : List ℕ) (st new : State) (last last_new : ℕ) (rest found behind : List ℕ) → Formed s
    → Sofar s trace st last rest → ended_now s st ≡ None → lines_of rest ≡ found ∷ lines_of behind → IsEntry s st last found new last_new
    → Sofar s trace new last_new behind
more_sofar s trace st new last last_new rest found behind f p goes cut made =
    let e : Entry = made.entry in
    let nexts : next s p.history e.lane ≡ Some e.deed = sym (same-next s st p.history e.lane p.stands) ∙ made.next.deed in
    let below : st.entries < limit s = sofar_below s trace st last rest p goes in
    let count : st.entries ≡ length p.history = p.stands.entries in
    record {
      history = e ∷ p.history;
      stands = subst (λ (x : State). StandsFor s x (e ∷ p.history)) (sym made.next.becomes)
          (stands-later s st p.history e.lane e.deed f (p.stands.lawful, nexts) p.stands);
      few = omega (arith, below, count);
      unended = (p.unended, omega (arith, below, count), ended_same s st p.history p.stands p.few ∙ goes);
      last_is = made.follows ∙ ap (λ (l : ℕ). last_after e.lane l) p.last_is;
      parts = p.parts ∙ ap (λ (ls : List (List ℕ)). history_lines s.version p.history ++ ls) cut
          ∙ longer s.version (st.entries + 1) p.history e found (lines_of behind) made.line (ap (λ (k : ℕ). k + 1) count);
    }

-- ---- answers

other_judged : (s : Scenario) (trace : List ℕ) (st : State) (last : ℕ) (rest : List ℕ) (ls : List (List ℕ)) (j : Judged) → Sofar s trace st last rest
    → lines_of rest ≡ ls → ended_now s st ≡ None → IsOther s st last (first ls) j → IsJudged s trace j
other_judged s trace st last rest ls j p cut goes other =
    let h : List Entry = p.history in
    let on : ended_as s h ≡ None = ended_same s st h p.stands p.few ∙ goes in
    let due : line_in s st last (first ls) ≡ legal_line s h [] (first ls) =
    line_same s st h last (first ls) p.stands p.last_is
    ∙ ap (λ (x : Option Ended). if is_some x then first [] else line_due s h (first ls)) (sym on) in
    let count : st.entries ≡ length h = p.stands.entries in
    subst (λ (x : Judged). IsJudged s trace x) (sym other.answer) (record {
      before = history_lines s.version h;
      rest = ls;
      parts = p.parts ∙ ap (λ (x : List (List ℕ)). history_lines s.version h ++ x) cut;
      place = omega (arith, count, history_length s.version h);
      begins = record {
        history = h;
        lawful = p.stands.lawful;
        unended = p.unended;
        told = [];
        left = [];
        report = nothing_told s h on;
        are = sym (append-nil (history_lines s.version h));
      };
      differ = λ same. other.differ (same ∙ sym due);
      found_is = refl;
      legal_is = ap shown due;
    })

no_lines : (rest : List ℕ) → rest ≡ [] → lines_of rest ≡ []
unfolding lines_of
no_lines rest none = rw none refl

-- What a trace has left beside the report.
reported_judged : (s : Scenario) (trace : List ℕ) (st : State) (last : ℕ) (rest : List ℕ) (x : Ended) (j : Judged) (p : Sofar s trace st last rest)
    → ended_as s p.history ≡ Some x → IsReported st.entries (report_lines s p.history) (lines_of rest) j → IsJudged s trace j
reported_judged s trace st last rest x judged.Agrees p ends same = record {
  history = p.history;
  lawful = p.stands.lawful;
  unended = p.unended;
  ends = ap is_some ends;
  lines = p.parts ∙ ap (λ (ls : List (List ℕ)). history_lines s.version p.history ++ ls) (sym same);
}
reported_judged s trace st last rest x (judged.Differs line found legal) p ends d =
    let h : List Entry = p.history in
    let count : st.entries ≡ length h = p.stands.entries in
    let due : first d.back ≡ legal_line s h d.back (first d.rest) =
    ap (λ (y : Option Ended). if is_some y then first d.back else line_due s h (first d.rest)) (sym ends) in
    record {
      before = history_lines s.version h ++ d.front;
      rest = d.rest;
      parts = p.parts ∙ ap (λ (ls : List (List ℕ)). history_lines s.version h ++ ls) d.trace_is
          ∙ sym (append_assoc (history_lines s.version h) d.front d.rest);
      place = omega (arith, d.place, count, history_length s.version h, length-append (history_lines s.version h) d.front);
      begins = record {
        history = h;
        lawful = p.stands.lawful;
        unended = p.unended;
        told = d.front;
        left = d.back;
        report = d.report_is;
        are = refl;
      };
      differ = λ same. d.differ (same ∙ sym due);
      found_is = d.found_is;
      legal_is = d.legal_is ∙ ap shown due;
    }

pub judged_told : (s : Scenario) (trace : List ℕ) (st : State) (last : ℕ) (rest : List ℕ) (x : Ended) (j : Judged) → Sofar s trace st last rest
    → ended_now s st ≡ Some x → IsTold s st x rest j → IsJudged s trace j
judged_told s trace st last rest x j p ends told =
    let over : ended_as s p.history ≡ Some x = ended_same s st p.history p.stands p.few ∙ ends in
    reported_judged s trace st last rest x j p over
    (subst (λ (ls : List (List ℕ)). IsReported st.entries ls (lines_of rest) j) (told_same s st p.history x p.stands over) told)

-- What a trace has left was judged, by how the history stands.
pub judged_last : (s : Scenario) (trace : List ℕ) (st : State) (last : ℕ) (rest : List ℕ) (ls : List (List ℕ)) (j : Judged) → Sofar s trace st last rest
    → lines_of rest ≡ ls → IsLast s st last rest (first ls) (ended_now s st) j → IsJudged s trace j
judged_last s trace st last rest ls j p cut = by (ended_now s st) refl
  where
    by : (x : Option Ended) → ended_now s st ≡ x → IsLast s st last rest (first ls) x j → IsJudged s trace j
    by None goes other = other_judged s trace st last rest ls j p cut goes other
    by (Some x) ends told = judged_told s trace st last rest x j p ends told

-- A trace that has ended.
pub judged_end : (s : Scenario) (trace : List ℕ) (st : State) (last : ℕ) (rest : List ℕ) (j : Judged) → Sofar s trace st last rest → rest ≡ []
    → IsLast s st last rest None (ended_now s st) j → IsJudged s trace j
judged_end s trace st last rest j p none over = judged_last s trace st last rest [] j p (no_lines rest none) over

-- ---- what a trace has left

pub last_told : (s : Scenario) (st : State) (last : ℕ) (rest : List ℕ) (found : Option (List ℕ)) (x : Ended) (j : Judged) → ended_now s st ≡ Some x
    → IsTold s st x rest j → IsLast s st last rest found (ended_now s st) j
last_told s st last rest found x j ends told = subst (λ (y : Option Ended). IsLast s st last rest found y j) (sym ends) told

pub last_other : (r s : Scenario) (st : State) (last : ℕ) (rest : List ℕ) (found : Option (List ℕ)) (j : Judged) → r ≡ s → ended_now s st ≡ None
    → IsOther r st last found j → IsLast s st last rest found (ended_now s st) j
last_other r s st last rest found j same goes other =
    subst (λ (y : Option Ended). IsLast s st last rest found y j) (sym goes) (subst (λ (x : Scenario). IsOther x st last found j) same other)

-- The found line is another one than that of the entry that was made.
pub judged_other : (s : Scenario) (trace : List ℕ) (st new : State) (last lane n : ℕ) (rest found behind line : List ℕ) (b : Bool) (old last_new : ℕ) (j : Judged)
    → Sofar s trace st last rest → lines_of rest ≡ found ∷ lines_of behind → IsWritten s st found lane new line → b ≡ false → IsCompared lane found line old b last_new
    → n ≡ new.entries → j ≡ judged.Differs n found line → IsJudged s trace j
judged_other s trace st new last lane n rest found behind line b old last_new j p cut w differs compared count is =
    let other : found ≡ line → ⊥ = subst (λ (x : Bool). IsCompared lane found line old x last_new) differs compared in
    judged_last s trace st last rest (found ∷ lines_of behind) j p cut
    (last_other s s st last rest (Some found) j refl w.goes_on (entry_differs s st new last lane n found line j w other count is))

-- No entry was made.
pub judged_unmade : (s : Scenario) (trace : List ℕ) (st now : State) (last : ℕ) (rest found behind : List ℕ) (j : Judged) → Sofar s trace st last rest
    → lines_of rest ≡ found ∷ lines_of behind → now ≡ st → ((l : ℕ) → IsLast s now l rest (Some found) (ended_now s now) j) → IsJudged s trace j
judged_unmade s trace st now last rest found behind j p cut same over =
    judged_last s trace st last rest (found ∷ lines_of behind) j p cut
    (subst (λ (x : State). IsLast s x last rest (Some found) (ended_now s x) j) same (over last))

-- ---- lanes that are tried

apart : (n m : ℕ) → n < m → (n == m) ≡ false
apart n m p = grind (arith, common_steps, p)

goes_on : (s : Scenario) (st : State) (l : ℕ) → Reached s st → CanGo s st l → st.entries < limit s → ended_now s st ≡ None
goes_on s st l r g room =
    sym (ended_runs s st (runs_reached s st l r g))
    ∙ ap (λ (b : Bool). cond b (Some ended.Budget) None) (apart st.entries (limit s) room)

-- A lane that was tried made its next entry, or it has none.
pub lane_next : (s : Scenario) (st new : State) (l : ℕ) (made : Bool) (e : Entry) (a b : List ℕ) → Reached s st → st.entries < limit s → 1 ≤ l → l ≤ lanes s
    → made ≡ can_step_in s st l → Tried s st l made e new a b → IsNextOf s st l made e new
lane_next s st new l true e a b r room low high can tried = (goes_on s st l r (low, high, sym can) room, tried.next)
lane_next s st new l false e a b r room low high can tried = (tried.state, λ goes. none_still s st l low can)

-- The clock, where it goes on and there is room for an entry.
pub clock_goes_on : (s : Scenario) (st : State) → standing.Ticks ≡ standing_of s st → st.entries < limit s → ended_now s st ≡ None
clock_goes_on s st ticks room = sym (ended_ticks s st ticks) ∙ ap (λ (b : Bool). cond b (Some ended.Budget) None) (apart st.entries (limit s) room)

-- The lane that a found line names made its entry, and its line was written.
pub named_written : (r s : Scenario) (st new : State) (found line : List ℕ) (l n : ℕ) (made : Bool) (e : Entry) → r ≡ s → named found ≡ Some l → made ≡ true
    → IsNextOf r st l made e new → n ≡ new.entries → line ≡ entry_line s.version n e → IsWritten s st found l new line
named_written r s st new found line l n made e same names is next count written =
    let both : (ended_now s st ≡ None) × IsNext s st l e new = subst (λ (x : Scenario). IsNextOf x st l true e new) same (subst (λ (b : Bool). IsNextOf r st l b e new) is next) in
    let place : n ≡ st.entries + 1 = count ∙ one_entry s st new l e both.1 in
    record {
      goes_on = both.0;
      names = names;
      entry = e;
      next = both.1;
      line_is = written ∙ ap (λ (k : ℕ). entry_line s.version k e) place;
    }

-- ---- lines that name no lane with a next entry

one_lane : (a b : ℕ) → Some a ≡ Some b → a ≡ b
one_lane a b same = cc

not_named : (l : ℕ) → None ≡ Some l → ⊥
not_named l same = cc

-- There is no room for an entry.
pub names_full : (s : Scenario) (st : State) (found : List ℕ) → limit s ≤ st.entries → st.entries ≤ limit s → NamesNone s st found
names_full s st found full few = record { none = λ goes l names. absurd (let room = below_limit s st goes few in omega (arith, room, full)) }

-- The line names this lane alone.
names_one : (s : Scenario) (st : State) (found : List ℕ) (lane : ℕ) → named found ≡ Some lane → (ended_now s st ≡ None → entry_in s st lane ≡ None) → NamesNone s st found
names_one s st found lane names none = record { none = λ goes l is. subst (λ (n : ℕ). entry_in s st n ≡ None) (one_lane lane l (sym names ∙ is)) (none goes) }

names_by : (s : Scenario) (st : State) (found : List ℕ) (x : Option ℕ) → Reached s st → named found ≡ x → IsNoLane x → NamesNone s st found
names_by s st found None r e p = record { none = λ goes l is. absurd (not_named l (sym e ∙ is)) }
names_by s st found (Some lane) r e p = names_one s st found lane e (λ goes. none_above s st lane r (few_lanes s st lane r p))

-- The line names no lane, or none that there is.
pub names_nobody : (s : Scenario) (st : State) (found : List ℕ) → Reached s st → IsNoLane (named found) → NamesNone s st found
names_nobody s st found r p = names_by s st found (named found) r refl p

-- ---- what is known where a pattern was not met

pub when_none : (P : Type 0) (Q : ℕ → Type 0) (o : Option ℕ) → ((x : ℕ) → o ≡ Some x → ⊥) → MatchOption o P Q → P
when_none P Q None n p = p
when_none P Q (Some x) n p = absurd (n x refl)

-- A lane was tried, and the answer is that lane.
pub when_written : (s : Scenario) (st new : State) (found line : List ℕ) (lane : ℕ) (o : Option ℕ) → o ≡ Some lane → IsTried s st found o new line
    → IsWritten s st found lane new line
when_written s st new found line lane o is tried = subst (λ (x : Option ℕ). IsTried s st found x new line) is tried

-- None made an entry.
pub when_untried : (s : Scenario) (st now : State) (found line : List ℕ) (o : Option ℕ) → ((x : ℕ) → o ≡ Some x → ⊥) → IsTried s st found o now line
    → (now ≡ st) × NamesNone s st found
when_untried s st now found line None n tried = tried
when_untried s st now found line (Some l) n tried = absurd (n l refl)

-- There is room, where a runtime's scenario is known by an equation.
pub below_at : (r s : Scenario) (st : State) → r ≡ s → ended_now s st ≡ None → st.entries ≤ limit s → st.entries < limit r
below_at r s st e goes few = subst (λ (x : Scenario). st.entries < limit x) (sym e) (below_limit s st goes few)

-- What is known of a state is known of one where nothing has changed.
pub now_reached : (s : Scenario) (st now : State) → now ≡ st → Reached s st → Reached s now
now_reached s st now e p = subst (λ (x : State). Reached s x) (sym e) p

pub now_few : (s : Scenario) (st now : State) → now ≡ st → st.entries ≤ limit s → now.entries ≤ limit s
now_few s st now e p = subst (λ (x : State). x.entries ≤ limit s) (sym e) p

pub now_none : (s : Scenario) (st now : State) (found : List ℕ) → now ≡ st → NamesNone s st found → NamesNone s now found
now_none s st now found e p = subst (λ (x : State). NamesNone s x found) (sym e) p
