-- What the tables of interfaces and classes hold.
use Rattle.std.specs.Prelude.{List}
use Rattle.com_classes.specs.declared.interfaces.Interface.{Interface}
use Rattle.com_classes.specs.declared.classes.Class.{Class}

-- what contracts see of the tables: the interfaces, the built-in ones first, and the classes, in order of
-- declaration
pub record Tables : Type 0 where
  pub interfaces : List Interface
  pub classes : List Class
