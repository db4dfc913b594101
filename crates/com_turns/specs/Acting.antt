-- The step of whoever acts in a scene.
use Rattle.std.specs.Prelude.{ℕ, List, [], Option, Some, None}
use Rattle.com_body.specs.declared.statements.Stmt.{Stmt}
use Rattle.com_body.specs.declared.frame.Cells.{Cells}
use Rattle.com_body.specs.declared.frame.Outcome.{Outcome}
use Rattle.com_body.specs.BodySteps.{body_step}
use Rattle.com_body.specs.Operands.{new_cells}
use Rattle.com_classes.specs.Lookups.{body_of}
use Rattle.com_model.specs.declared.keeps.Issue.{Issue}
use Rattle.com_model.specs.declared.scenario.Scenario.{Scenario}
use Rattle.com_model.specs.Tables.{script}
use Rattle.com_model.specs.Frames.{Actor as Acting, Body, Script, Nobody}
use Rattle.com_model.specs.State.{SceneTables}
use Rattle.com_state.specs.SceneParts.{body_at, script_at, cells_at}

-- A body has its object's cells, and a script none but zeros and nulls.
abbrev pub cells_for : SceneTables → Acting → Cells
cells_for t (Body c o) = cells_at t o
cells_for t _ = new_cells

abbrev pub step_of : List Stmt → SceneTables → Acting → Option Outcome
step_of b t (Body c o) = Some (body_step b (body_at t c) (cells_at t o))
step_of b t (Script l) = Some (body_step b (script_at t l) new_cells)
step_of b t Nobody = None

-- The statements of whoever acts, by the classes of objects and the issues of calls.
abbrev pub issued_statements : Scenario → (class : ℕ) → Option Issue → List Stmt
issued_statements s k None = []
issued_statements s k (Some i) = body_of s.classes k i.iface i.method

abbrev pub statements_of : Scenario → (class : ℕ → ℕ) → (issue : ℕ → Option Issue) → Acting → List Stmt
statements_of s k i (Body c o) = issued_statements s (k o) (i c)
statements_of s k i (Script l) = script s l
statements_of s k i Nobody = []
