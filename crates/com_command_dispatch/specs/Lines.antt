-- The lines that say what each late-bound call of a text is bound to.
use Rattle.std.specs.Prelude.{ℕ, ◌+◌, List, [], ◌∷◌, ◌++◌, codes, decimal, unwrap_or}
use Rattle.com_base.specs.HResults.{name_of}
use Rattle.com_print.specs.Words.{value_word}
use Rattle.com_dispatch.specs.declared.members.DispArg.{DispArg}
use Rattle.com_dispatch.specs.declared.members.DispArg.TheVariants as given
use Rattle.com_dispatch.specs.declared.invoke.BindOutcome.{BindOutcome}
use Rattle.com_dispatch.specs.declared.invoke.BindOutcome.TheVariants as outcomes
use Rattle.com_dispatch.specs.declared.outcomes.Binding.{Binding}

-- a literal or a slot as the language writes it, or null
abbrev pub arg_text : DispArg → List ℕ
arg_text (given.Literal v) = (value_word v).bytes
arg_text (given.Slot slot) = codes "s" ++ decimal slot
arg_text given.Null = codes "null"

-- an argument behind a comma
abbrev pub later_arg_text : DispArg → List ℕ
later_arg_text a = codes "," ++ arg_text a

-- arguments with a comma before each
abbrev pub later_args_text : List DispArg → List ℕ
later_args_text [] = []
later_args_text (a ∷ rest) = later_arg_text a ++ later_args_text rest

-- arguments with commas between
abbrev pub args_text : List DispArg → List ℕ
args_text [] = []
args_text (a ∷ rest) = arg_text a ++ later_args_text rest

-- the method with its arguments, or the refusal's name, which each has
abbrev pub outcome_text : ℕ → BindOutcome → List ℕ
outcome_text iface (outcomes.Bound b) =
    codes "I" ++ decimal iface ++ codes "." ++ decimal b.method ++ codes " (" ++ args_text b.args ++ codes ")"
outcome_text iface (outcomes.Refused hr) = unwrap_or (name_of hr.0) []

-- one line: the call's number in the text's order, from 1, and what it is bound to
abbrev pub binding_text : ℕ → Binding → List ℕ
binding_text number b =
    codes "bind " ++ decimal number ++ codes " " ++ outcome_text b.iface b.outcome ++ codes "\n"

-- the lines from a number on
abbrev pub bindings_on : ℕ → List Binding → List ℕ
bindings_on number [] = []
bindings_on number (b ∷ bs) = binding_text number b ++ bindings_on (number + 1) bs

unfoldable pub bindings_text : List Binding → List ℕ
bindings_text bs = bindings_on 1 bs
