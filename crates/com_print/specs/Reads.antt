-- What reading a written line gives.
use Rattle.std.specs.Prelude.{◌≡◌, List, ◌∷◌, Some, Ok, true}
use Rattle.com_body.specs.declared.statements.Stmt.{Stmt}
use Rattle.com_text.specs.Words.{WordAt}
use Rattle.com_read_statements.specs.declared.keywords.Program.{Program}
use Rattle.com_read_statements.specs.declared.keywords.Keyword.{Keyword}
use Rattle.com_read_statements.specs.declared.names.Names.{Names}
use Rattle.com_read_statements.specs.Keywords.{keyword_of, takes}
use Rattle.com_read_statements.specs.Statements.{stmt_of}

-- A line's first word is a keyword that may stand in the program, and the line is read as the statement.
pub record Reads (p : Program) (names : Names) (s : Stmt) (first : WordAt) (rest : List WordAt) : Type 0 where
  pub keyword : Keyword
  pub begins : keyword_of first.bytes ≡ Some keyword
  pub taken : takes p keyword ≡ true
  pub read : stmt_of p names keyword (first ∷ rest) ≡ Ok s
