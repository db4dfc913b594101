-- Texts that spell a scenario, and texts that spell none.
use Rattle.std.specs.Prelude.{ℕ, List, [], ◌∷◌, ◌++◌, Some, codes}
use Rattle.com_body.specs.declared.statements.Stmt.TheVariants as stmts
use Rattle.com_classes.specs.BuiltIns.{built_in_interfaces}
use Rattle.com_model.specs.declared.scenario.Scenario.{Scenario}

-- a filter without rules
abbrev pub filter_section : List ℕ
filter_section = codes "filter F" ++ 10 ∷ codes "end" ++ 10 ∷ []

-- a script that names it
abbrev pub thread_section : List ℕ
thread_section = codes "thread" ++ 10 ∷ codes "setfilter F" ++ 10 ∷ codes "end" ++ 10 ∷ []

abbrev pub header_line : List ℕ
header_line = codes "scenario 1" ++ 10 ∷ []

abbrev pub filter_first : List ℕ
filter_first = header_line ++ filter_section ++ thread_section

abbrev pub thread_first : List ℕ
thread_first = header_line ++ thread_section ++ filter_section

-- the first one again, with a comment, spaces and an empty line, and without a last line end
abbrev pub commented : List ℕ
commented =
    codes "; a filter" ++ 10 ∷ codes " scenario  1" ++ 10 ∷ 10 ∷ codes "filter F ; no rules" ++ 10 ∷ codes "end"
    ++ 10 ∷ codes "thread" ++ 10 ∷ 9 ∷ codes "setfilter F" ++ 13 ∷ 10 ∷ codes "end ;"

-- a script without its end
abbrev pub unended : List ℕ
unended = header_line ++ codes "thread" ++ 10 ∷ []

-- what the first one spells
abbrev pub filtered : Scenario
filtered = record {
  version = 1;
  pool = 1;
  classes = record { interfaces = built_in_interfaces; classes = [] };
  filters = [] ∷ [];
  threads = (stmts.SetFilter (Some 1) ∷ []) ∷ [];
  picks = [];
}
