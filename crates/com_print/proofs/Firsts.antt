-- A line that is written as a statement.
use Rattle.std.proofs.Common.{◌≡◌, ℕ, List, [], ◌∷◌, map, ap}
use Rattle.com_body.specs.declared.statements.Stmt.{Stmt}
use Rattle.com_body.specs.Bodies.{IsInRange}
use Rattle.com_text.specs.Words.{WordAt}
use Rattle.com_read_statements.specs.declared.keywords.Program.{Program}
use Rattle.com_read_statements.specs.declared.names.Names.{Names}
use Rattle.com_print.specs.Spelled.{Spelled, spelled_of}
use Rattle.com_print.specs.Ranges.{Fits}
use Rattle.com_print.specs.StatementWords.{statement_words}
use Rattle.com_print.specs.Standing.{Stands}

-- the line, and what its statement keeps
pub record Written (p : Program) (names : Names) (s : Stmt) (w : WordAt) (ws : List WordAt) : Type 0 where
  pub words : map spelled_of (w ∷ ws) ≡ statement_words names s
  pub range : IsInRange s
  pub stands : Stands p names s
  pub fits : Fits s

abbrev pub bytes_of : List Spelled → List ℕ
bytes_of [] = []
bytes_of (s ∷ more) = s.bytes

pub first_bytes : (w : WordAt) (ws : List WordAt) {more : List Spelled} → map spelled_of (w ∷ ws) ≡ more → w.bytes ≡ bytes_of more
first_bytes w ws h = ap bytes_of h
