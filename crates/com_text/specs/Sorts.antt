-- A word's sort, by the kind that it keeps and its bytes.
use Rattle.std.specs.Prelude.{ℕ, List, unwrap_or}
use Rattle.com_text.specs.declared.word.Sort.{Sort}
use Rattle.com_text.specs.declared.word.Sort.TheVariants as sorts
use Rattle.com_text.specs.declared.word.Kind.{Kind}
use Rattle.com_text.specs.declared.word.Kind.TheVariants as kinds
use Rattle.com_text.specs.Tokens.{stray_from}

-- the column of the first byte outside the characters, of a word that begins at a column
abbrev pub stray_column : ℕ → List ℕ → ℕ
stray_column column bytes = unwrap_or (stray_from column bytes) column

abbrev pub sort_of : Kind → ℕ → List ℕ → Sort
sort_of kinds.Plain column bytes = sorts.Plain
sort_of kinds.Text column bytes = sorts.Text
sort_of kinds.Bytes column bytes = sorts.Bytes
sort_of kinds.Unclosed column bytes = sorts.Unclosed
sort_of kinds.Stray column bytes = sorts.Stray (stray_column column bytes)
sort_of kinds.Remark column bytes = sorts.Remark (stray_column column bytes)
