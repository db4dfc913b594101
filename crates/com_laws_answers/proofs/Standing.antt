-- A runtime's answers, read off the tables, are those of the history that the tables stand for.
use Rattle.std.proofs.Common.{ap, sym, ◌∙◌}
use Rattle.std.specs.Prelude.{◌≡◌, ℕ, suc, zero, Bool, true, false, List, [], if◌then◌else◌, slice_index_or}
use Rattle.com_model.specs.declared.deeds.Entry.{Entry}
use Rattle.com_model.specs.declared.keeps.Opener.{Opener}
use Rattle.com_model.specs.declared.scenario.Scenario.{Scenario}
use Rattle.com_model.specs.Cases.{direct_call}
use Rattle.com_model.specs.Ends.{finished_by, stuck_by}
use Rattle.com_model.specs.Lists.{first}
use Rattle.com_model.specs.Openers.{is_body, openers}
use Rattle.com_model.specs.Rules.{can_step, no_lane_can}
use Rattle.com_model.specs.Sight.{Sight, sight}
use Rattle.com_model.specs.State.{State, StandsFor}
use Rattle.com_model.proofs.Sights.{same-sight}
use Rattle.com_runtime.specs.declared.runtime.Standing.{Standing}
use Rattle.com_runtime.specs.declared.runtime.Standing.TheVariants as standing
use Rattle.com_runtime.specs.Jobs.{next_by, next_in}
use Rattle.com_runtime.specs.Standings.{can_step_in, standing_of}
use Rattle.com_runtime.proofs.Counting.{counted_as, all-counted}
use Rattle.com_laws_answers.specs.Answers.{AnswersOf, standing_after, next_after}
use Rattle.com_laws_answers.specs.Broken.{counts_too_many, goes_ahead, has_an_object, is_over_at_once}

can-same : (s : Scenario) (st : State) (h : List Entry) (l : ℕ) → StandsFor s st h → can_step_in s st l ≡ can_step s (sight s h) l
unfolding can_step_in
can-same s st h l p = ap (λ (v : Sight). can_step s v l) (same-sight s st h p)

next-same : (s : Scenario) (st : State) (h : List Entry) (l : ℕ) → StandsFor s st h → next_in s st l ≡ next_after s h l
unfolding next_in
next-same s st h l p =
    ap (λ (os : List Opener). next_by (is_body (first os)) (can_step_in s st l) (slice_index_or st.over l false)) (p.lanes.openers l)
    ∙ ap (λ (b : Bool). next_by (is_body (first (openers h l))) b (slice_index_or st.over l false)) (can-same s st h l p)
    ∙ ap (λ (b : Bool). next_by (is_body (first (openers h l))) (can_step s (sight s h) l) b) (p.lanes.over l)

abbrev stands-by : Scenario → Sight → Standing
stands-by s v =
    if finished_by s v then standing.Finished
    else if stuck_by s v then standing.Stuck
    else if no_lane_can s v then standing.Ticks
    else standing.Runs

stands-same : (s : Scenario) (st : State) (h : List Entry) → StandsFor s st h → standing_of s st ≡ standing_after s h
unfolding standing_of
stands-same s st h p = ap (stands-by s) (same-sight s st h p)

pub answered : (s : Scenario) (st : State) (h : List Entry) → StandsFor s st h → AnswersOf s st h
answered s st h p = record {
  can = λ l. can-same s st h l p;
  next = λ l. next-same s st h l p;
  stands = stands-same s st h p;
  entries = p.entries;
  time = p.clock;
  made = p.objects.number;
  counts = λ o. counted_as s st h o p;
  all_counts = all-counted s st h p;
}

-- ---- states that stand for nothing

is_zero : ℕ → Bool
is_zero zero = true
is_zero (suc n) = false

true-false : true ≡ false → ⊥
true-false e = cc

pub entries-bite : AnswersOf direct_call counts_too_many [] → ⊥
unfolding is_zero
entries-bite p = true-false (sym (ap is_zero p.entries))

pub time-bites : AnswersOf direct_call goes_ahead [] → ⊥
unfolding is_zero
time-bites p = true-false (sym (ap is_zero p.time))

pub made-bites : AnswersOf direct_call has_an_object [] → ⊥
unfolding is_zero
made-bites p = true-false (sym (ap is_zero p.made))

is_running : Standing → Bool
is_running standing.Runs = true
is_running standing.Ticks = false
is_running standing.Finished = false
is_running standing.Stuck = false

pub stands-bites : AnswersOf direct_call is_over_at_once [] → ⊥
unfolding standing_of is_running
stands-bites p = true-false (sym (ap is_running p.stands))
