-- The work of open bodies.
use Rattle.std.specs.Prelude.{List, IsSome}
use Rattle.com_classes.specs.Lookups.{class_at}
use Rattle.com_model.specs.declared.deeds.Entry.{Entry}
use Rattle.com_model.specs.declared.keeps.Opener.{Opener}
use Rattle.com_model.specs.declared.keeps.Opener.TheVariants.{Enters}
use Rattle.com_model.specs.declared.scenario.Scenario.{Scenario}
use Rattle.com_model.specs.Calls.{issue}
use Rattle.com_model.specs.Objects.{class_of}

-- Of an Enter the call was issued, and the class of the object is declared.
abbrev pub HasWork : Scenario → List Entry → Opener → Type 0
HasWork s h (Enters c o a) = IsSome (issue h c) × IsSome (class_at s.classes (class_of h o))
HasWork s h _ = Unit {0}
