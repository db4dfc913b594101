-- How a runtime stands behind a history, and whether the history is stuck.
use Rattle.std.proofs.Common.{ap, ◌∙◌}
use Rattle.std.specs.Prelude.{◌≡◌, refl, Bool, true, false, not, cond, ◌&&◌, List, is_none}
use Rattle.com_model.specs.declared.deeds.Entry.{Entry}
use Rattle.com_model.specs.declared.scenario.Scenario.{Scenario}
use Rattle.com_model.specs.Sight.{Sight}
use Rattle.com_model.specs.Rules.{no_lane_can, tick_time}
use Rattle.com_model.specs.Ends.{finished_by, stuck, stuck_by}
use Rattle.com_model.specs.State.{State, StandsFor, sight_of}
use Rattle.com_model.proofs.Sights.{same-sight}
use Rattle.com_runtime.specs.declared.runtime.Standing.{Standing}
use Rattle.com_runtime.specs.declared.runtime.Standing.TheVariants as standing
use Rattle.com_runtime.specs.Standings.{standing_of}
use Rattle.com_replay.specs.Stuck.{is_stuck}

abbrev kind : (finished stuck none : Bool) → Standing
kind f k n = cond f standing.Finished (cond k standing.Stuck (cond n standing.Ticks standing.Runs))

stuck-kind : (f n t : Bool) → is_stuck (kind f (n && (t && not f)) n) ≡ (n && (t && not f))
stuck-kind true true true = refl
stuck-kind true true false = refl
stuck-kind true false t = refl
stuck-kind false true true = refl
stuck-kind false true false = refl
stuck-kind false false t = refl

pub stands_stuck : (s : Scenario) (st : State) (h : List Entry) → StandsFor s st h → is_stuck (standing_of s st) ≡ stuck s h
unfolding standing_of
stands_stuck s st h p =
    let v : Sight = sight_of s st in
    stuck-kind (finished_by s v) (no_lane_can s v) (is_none (tick_time v)) ∙ ap (λ (w : Sight). stuck_by s w) (same-sight s st h p)
