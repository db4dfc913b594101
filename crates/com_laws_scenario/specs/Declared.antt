-- What the names above a line say of a scenario.
use Rattle.std.specs.Prelude.{◌≡◌, length}
use Rattle.com_body.specs.declared.statements.Stmt.{Stmt}
use Rattle.com_body.specs.Bodies.{IsInRange}
use Rattle.com_model.specs.declared.scenario.Scenario.{Scenario}
use Rattle.com_model.specs.Formed.{Context, IsStatement}
use Rattle.com_read_statements.specs.declared.keywords.Program.{Program}
use Rattle.com_read_statements.specs.declared.names.Names.{Names}
use Rattle.com_read_statements.specs.Keywords.{has_cells, has_links}

-- The names are those of a scenario's interfaces, classes and filters, and the context is that of a body or
-- script.
pub record Declares (s : Scenario) (x : Context) (p : Program) (names : Names) : Type 0 where
  pub tables : names.tables ≡ s.classes.interfaces
  pub interfaces : length names.interfaces ≡ length s.classes.interfaces
  pub classes : length names.classes ≡ x.classes
  pub filters : length names.filters ≡ length s.filters
  pub body : x.body ≡ has_cells p
  pub links : x.links ≡ has_links p

-- A statement of the scenario in a context, each number of it in its range.
pub record Fits (s : Scenario) (x : Context) (st : Stmt) : Type 0 where
  pub in_range : IsInRange st
  pub stated : IsStatement s x st
