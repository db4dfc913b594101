-- What a stream keeps, and what a contract sees of it.
use Rattle.std.proofs.Common.{ap, ◌∙◌}
use Rattle.std.specs.Arc.{arc_value}
use Rattle.std.specs.Prelude.{◌≡◌}
use Rattle.com_core.specs.Seen.{core_state}
use Rattle.com_model.specs.declared.scenario.Scenario.{Scenario}
use Rattle.com_replay.specs.declared.playing.Playing.{Playing}
use Rattle.com_replay.specs.Streams.{Position, position}

abbrev position-of : Playing → Position
position-of p = position (arc_value p.scenario) (core_state p.core.core) p.course.tried p.course.last

pub position_seen : (s : Scenario) (kept inside : Playing) (self : Position) → s ≡ arc_value kept.scenario → kept ≡ inside → position-of inside ≡ self
    → position s (core_state kept.core.core) kept.course.tried kept.course.last ≡ self
position_seen s kept inside self same is seen =
    ap (λ (k : Scenario). position k (core_state kept.core.core) kept.course.tried kept.course.last) same ∙ ap position-of is ∙ seen
