-- Faults that stand in a beginning of a text.
use Rattle.std.specs.Prelude.{◌≡◌, ℕ, ◌<◌, ◌⊎◌, List, false}
use Rattle.com_text.specs.declared.scan.Within.TheVariants as within
use Rattle.com_text.specs.Scanning.{lines_of}
use Rattle.com_read_operands.specs.declared.faults.Fault.{Fault}
use Rattle.com_read_operands.specs.declared.faults.TheConstants.Fault.{MISSING, UNENDED}
use Rattle.com_laws_faults.specs.Prefixes.{end_of, EndsAtWord, lacks_header}

-- It stands before a column of a line.
abbrev pub IsBefore : ℕ → ℕ → Fault → Type 0
IsBefore line column f = (f.line < line) ⊎ ((f.line ≡ line) × (f.column < column))

-- Between a text and what follows no word is cut, and no comment.
abbrev pub IsApart : List ℕ → List ℕ → Type 0
IsApart text rest = ((end_of text).stands ≡ within.Nothing) ⊎ EndsAtWord text rest

-- A fault stands in a text that has its header: above the header a comment's fault is found with the
-- header. Where a word is missing the text ends with a line's end, and something stands before the fault.
-- Fault `UNENDED` is found later: that of a skip at the end of its body or script, and that of a section
-- that is open at the text's end.
pub record StandsIn (text : List ℕ) (f : Fault) : Type 0 where
  pub headed : lacks_header (lines_of text) ≡ false
  pub no_end : f.number ≡ UNENDED → ⊥
  pub missing : f.number ≡ MISSING → ((end_of text).column ≡ 1) × (1 < f.column)
  pub before : IsBefore (end_of text).line (end_of text).column f
