-- Scenarios whose numbers are in the ranges of their types.
use Rattle.std.specs.Prelude.{List, All, drop}
use Rattle.com_base.specs.declared.built_ins.TheConstants.{BUILT_IN_COUNT}
use Rattle.com_body.specs.declared.statements.Stmt.{Stmt}
use Rattle.com_body.specs.declared.frame.Native.{Native}
use Rattle.com_body.specs.declared.frame.Native.TheVariants as natives
use Rattle.com_classes.specs.declared.interfaces.Interface.{Interface}
use Rattle.com_classes.specs.declared.classes.Class.{Class}
use Rattle.com_classes.specs.declared.classes.MethodBody.{MethodBody}
use Rattle.com_model.specs.declared.scenario.Scenario.{Scenario}
use Rattle.com_print.specs.Ranges.{IsGuid, Fits}

-- each number in the statements of a body or a script is one that its type has
abbrev pub FitsProgram : List Stmt → Type 0
FitsProgram statements = All Fits statements

-- each number in the bodies of a class is one that its type has
abbrev pub FitsBodies : List MethodBody → Type 0
FitsBodies bodies = All (λ (b : MethodBody). FitsProgram b.body) bodies

-- a native's bodies are not its own
abbrev pub FitsAs : Native → List MethodBody → Type 0
FitsAs natives.Bodies bodies = FitsBodies bodies
FitsAs _ bodies = Unit {0}

-- the numbers of the CLSID, and of the bodies that are the class's own, are such as their types have
abbrev pub FitsClass : Class → Type 0
FitsClass c = IsGuid c.clsid × FitsAs c.native c.bodies

-- the numbers of the IID are such as their types have
abbrev pub FitsInterface : Interface → Type 0
FitsInterface i = IsGuid i.iid

-- Of a scenario each number in the IID of an interface that is not built in, in a CLSID, in a body that is a class's
-- own and in a script is one that its type has. The first four interfaces are built in.
pub record FitsTypes (s : Scenario) : Type 0 where
  pub interfaces : All FitsInterface (drop BUILT_IN_COUNT s.classes.interfaces)
  pub classes : All FitsClass s.classes.classes
  pub threads : All FitsProgram s.threads
