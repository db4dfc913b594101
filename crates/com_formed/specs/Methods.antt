-- Methods by their parts.
use Rattle.std.specs.Prelude.{ℕ, List, Option}
use Rattle.com_base.specs.declared.value.Kind.{Kind}
use Rattle.com_classes.specs.declared.interfaces.Method.{Method}

-- the method with a name, the kinds of its parameters and that of its result
abbrev pub method_of : List ℕ → List Kind → Option Kind → Method
method_of name params kind = record { name = name; params = params; result = kind }
