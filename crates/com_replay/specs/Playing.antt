-- What is true of what a stream keeps.
use Rattle.std.specs.Prelude.{◌≡◌, ◌≤◌, []}
use Rattle.com_model.specs.declared.scenario.Scenario.{Scenario}
use Rattle.com_model.specs.State.{State}
use Rattle.com_model.specs.Tables.{lanes}
use Rattle.com_replay.specs.declared.course.Course.{Course}
use Rattle.com_replay.specs.Streams.{UnderWay, position}

-- A runtime of this scenario and in this state, and the course of its schedule: they stand for a history of the
-- scenario, which is formed, and no line is kept.
pub record IsReady (s own : Scenario) (st : State) (course : Course) : Type 0 where
  pub same : own ≡ s
  pub under_way : UnderWay (position s st course.tried course.last)
  pub last : course.last ≤ lanes s
  pub none : course.lines ≡ []
