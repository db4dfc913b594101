-- The least time that a call waits for is that to which the clock goes on.
use Rattle.std.proofs.Common.{◌≡◌, ℕ, ap, refl, sym, ◌∙◌}
use Rattle.std.specs.Prelude.{Bool, true, false, cond, Option, Some, None, is_none, is_some}
use Rattle.com_model.specs.declared.scenario.Scenario.{Scenario}
use Rattle.com_model.specs.Ends.{finished_by}
use Rattle.com_model.specs.Sight.{Sight}
use Rattle.com_runtime.specs.declared.runtime.Standing.{Standing}
use Rattle.com_runtime.specs.declared.runtime.Standing.TheVariants as standing
use Rattle.com_view.specs.Standings.{standing_by}
use Rattle.com_refs_books.specs.Changes.{Books}
use Rattle.com_calls.specs.Waits.{next_wait}
use Rattle.com_model.specs.Rules.{no_lane_can, tick_time}
use Rattle.com_view.specs.Seen.{Seen, sight_by}

pub time_is : (w : Seen) (b : Books) → next_wait w.calls w.clock ≡ tick_time (sight_by w b)
time_is w b = refl

pub time_is_due : (w : Seen) (b : Books) (r : Bool) → r ≡ is_some (next_wait w.calls w.clock) → r ≡ is_some (tick_time (sight_by w b))
time_is_due w b r e = e ∙ ap is_some (time_is w b)

-- ---- how the lanes stand

some-is : (t : Option ℕ) → is_some t ≡ true → is_none t ≡ false
some-is None e = cc
some-is (Some x) e = refl

none-is : (t : Option ℕ) → is_some t ≡ false → is_none t ≡ true
none-is None e = refl
none-is (Some x) e = cc

abbrev kind : (finished none waits : Bool) → Standing
kind f c t = cond f standing.Finished (cond c (cond t standing.Stuck standing.Ticks) standing.Runs)

pub stands_finished : (s : Scenario) (v : Sight) → finished_by s v ≡ true → standing.Finished ≡ standing_by s v
stands_finished s v f = sym (ap (λ (b : Bool). kind b (no_lane_can s v) (is_none (tick_time v))) f)

pub stands_running : (s : Scenario) (v : Sight) → finished_by s v ≡ false → no_lane_can s v ≡ false → standing.Runs ≡ standing_by s v
stands_running s v f c = sym (λ i. kind (f i) (c i) (is_none (tick_time v)))

pub stands_ticking : (s : Scenario) (v : Sight) → finished_by s v ≡ false → no_lane_can s v ≡ true → is_some (tick_time v) ≡ true → standing.Ticks ≡ standing_by s v
stands_ticking s v f c t = sym (λ i. kind (f i) (c i) (some-is (tick_time v) t i))

pub stands_stuck : (s : Scenario) (v : Sight) → finished_by s v ≡ false → no_lane_can s v ≡ true → is_some (tick_time v) ≡ false → standing.Stuck ≡ standing_by s v
stands_stuck s v f c t = sym (λ i. kind (f i) (c i) (none-is (tick_time v) t i))
