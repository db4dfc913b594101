-- Local statements are read again.
use Rattle.std.proofs.Common.{ℕ, List, ◌∷◌, refl, ap, arith, slice_get}
use Rattle.com_body.specs.declared.operands.Op.{Op}
use Rattle.com_body.specs.declared.statements.Stmt.TheVariants as stmts
use Rattle.com_text.specs.Words.{WordAt}
use Rattle.com_read_statements.specs.declared.keywords.Program.{Program}
use Rattle.com_read_statements.specs.declared.keywords.LocalWord.TheVariants as locals
use Rattle.com_read_statements.specs.declared.keywords.Keyword.TheVariants as keywords
use Rattle.com_read_statements.specs.declared.names.Names.{Names}
use Rattle.com_read_statements.specs.Keywords.{keyword_of, has_cells}
use Rattle.com_read_statements.specs.Statements.{stmt_of, local_of}
use Rattle.com_print.specs.Spelled.{Spelled}
use Rattle.com_print.proofs.Places.{end_again, register_again, slot_again, cell_again, number_at_again}
use Rattle.com_print.proofs.Literals.{op_again}
use Rattle.com_print.specs.Standing.{AreDeclared}
use Rattle.com_print.specs.Reads.{Reads}
use Rattle.com_print.proofs.Firsts.{first_bytes, Written}

pub set_reads : (p : Program) (names : Names) (to : ℕ) (from : Op) (w : WordAt) (ws : List WordAt) → AreDeclared names → Written p names (stmts.Set to from) w ws → Reads p names (stmts.Set to from) w ws
unfolding stmt_of local_of keyword_of
set_reads p names to from w ws are h =
    let g = λ (k : ℕ). ap (λ (l : List Spelled). slice_get l k) h.words in
    record {
      keyword = keywords.Local locals.Set;
      begins = ap keyword_of (first_bytes w ws h.words);
      taken = refl;
      read = rw (register_again (w ∷ ws) 1 to (g 1) h.range.0, op_again (w ∷ ws) 2 from (g 2) h.range.1 h.stands h.fits, end_again (w ∷ ws) 3 (g 3)) refl;
    }

pub add_reads : (p : Program) (names : Names) (to : ℕ) (from : Op) (w : WordAt) (ws : List WordAt) → AreDeclared names → Written p names (stmts.Add to from) w ws → Reads p names (stmts.Add to from) w ws
unfolding stmt_of local_of keyword_of
add_reads p names to from w ws are h =
    let g = λ (k : ℕ). ap (λ (l : List Spelled). slice_get l k) h.words in
    record {
      keyword = keywords.Local locals.Add;
      begins = ap keyword_of (first_bytes w ws h.words);
      taken = refl;
      read = rw (register_again (w ∷ ws) 1 to (g 1) h.range.0, op_again (w ∷ ws) 2 from (g 2) h.range.1 h.stands h.fits, end_again (w ∷ ws) 3 (g 3)) refl;
    }

pub sub_reads : (p : Program) (names : Names) (to : ℕ) (from : Op) (w : WordAt) (ws : List WordAt) → AreDeclared names → Written p names (stmts.Sub to from) w ws → Reads p names (stmts.Sub to from) w ws
unfolding stmt_of local_of keyword_of
sub_reads p names to from w ws are h =
    let g = λ (k : ℕ). ap (λ (l : List Spelled). slice_get l k) h.words in
    record {
      keyword = keywords.Local locals.Sub;
      begins = ap keyword_of (first_bytes w ws h.words);
      taken = refl;
      read = rw (register_again (w ∷ ws) 1 to (g 1) h.range.0, op_again (w ∷ ws) 2 from (g 2) h.range.1 h.stands h.fits, end_again (w ∷ ws) 3 (g 3)) refl;
    }

pub less_reads : (p : Program) (names : Names) (to : ℕ) (left : Op) (right : Op) (w : WordAt) (ws : List WordAt) → AreDeclared names → Written p names (stmts.Less to left right) w ws → Reads p names (stmts.Less to left right) w ws
unfolding stmt_of local_of keyword_of
less_reads p names to left right w ws are h =
    let g = λ (k : ℕ). ap (λ (l : List Spelled). slice_get l k) h.words in
    record {
      keyword = keywords.Local locals.Less;
      begins = ap keyword_of (first_bytes w ws h.words);
      taken = refl;
      read = rw (register_again (w ∷ ws) 1 to (g 1) h.range.0, op_again (w ∷ ws) 2 left (g 2) h.range.1 h.stands.0 h.fits.0, op_again (w ∷ ws) 3 right (g 3) h.range.2 h.stands.1 h.fits.1, end_again (w ∷ ws) 4 (g 4)) refl;
    }

pub same_reads : (p : Program) (names : Names) (to : ℕ) (left : ℕ) (right : ℕ) (w : WordAt) (ws : List WordAt) → AreDeclared names → Written p names (stmts.Same to left right) w ws → Reads p names (stmts.Same to left right) w ws
unfolding stmt_of local_of keyword_of
same_reads p names to left right w ws are h =
    let g = λ (k : ℕ). ap (λ (l : List Spelled). slice_get l k) h.words in
    record {
      keyword = keywords.Local locals.Same;
      begins = ap keyword_of (first_bytes w ws h.words);
      taken = refl;
      read = rw (register_again (w ∷ ws) 1 to (g 1) h.range.0, slot_again (w ∷ ws) 2 left (g 2) h.range.1, slot_again (w ∷ ws) 3 right (g 3) h.range.2, end_again (w ∷ ws) 4 (g 4)) refl;
    }

pub load_reads : (p : Program) (names : Names) (to : ℕ) (cell : ℕ) (w : WordAt) (ws : List WordAt) → AreDeclared names → Written p names (stmts.Load to cell) w ws → Reads p names (stmts.Load to cell) w ws
unfolding stmt_of local_of keyword_of
load_reads p names to cell w ws are h =
    let g = λ (k : ℕ). ap (λ (l : List Spelled). slice_get l k) h.words in
    record {
      keyword = keywords.Local locals.Load;
      begins = ap keyword_of (first_bytes w ws h.words);
      taken = refl;
      read = rw (register_again (w ∷ ws) 1 to (g 1) h.range.0, cell_again (has_cells p) (w ∷ ws) 2 cell (g 2) h.range.1 h.stands, end_again (w ∷ ws) 3 (g 3)) refl;
    }

pub store_reads : (p : Program) (names : Names) (cell : ℕ) (from : Op) (w : WordAt) (ws : List WordAt) → AreDeclared names → Written p names (stmts.Store cell from) w ws → Reads p names (stmts.Store cell from) w ws
unfolding stmt_of local_of keyword_of
store_reads p names cell from w ws are h =
    let g = λ (k : ℕ). ap (λ (l : List Spelled). slice_get l k) h.words in
    record {
      keyword = keywords.Local locals.Store;
      begins = ap keyword_of (first_bytes w ws h.words);
      taken = refl;
      read = rw (cell_again (has_cells p) (w ∷ ws) 1 cell (g 1) h.range.0 h.stands.0, op_again (w ∷ ws) 2 from (g 2) h.range.1 h.stands.1 h.fits, end_again (w ∷ ws) 3 (g 3)) refl;
    }

pub skip_reads : (p : Program) (names : Names) (count : ℕ) (w : WordAt) (ws : List WordAt) → AreDeclared names → Written p names (stmts.Skip count) w ws → Reads p names (stmts.Skip count) w ws
unfolding stmt_of local_of keyword_of
skip_reads p names count w ws are h =
    let g = λ (k : ℕ). ap (λ (l : List Spelled). slice_get l k) h.words in
    record {
      keyword = keywords.Local locals.Skip;
      begins = ap keyword_of (first_bytes w ws h.words);
      taken = refl;
      read = rw (number_at_again 1 2000 (w ∷ ws) 1 count (g 1) h.stands.0 h.stands.1 (omega arith), end_again (w ∷ ws) 2 (g 2)) refl;
    }

pub skip_zero_reads : (p : Program) (names : Names) (register : ℕ) (count : ℕ) (w : WordAt) (ws : List WordAt) → AreDeclared names → Written p names (stmts.SkipZero register count) w ws → Reads p names (stmts.SkipZero register count) w ws
unfolding stmt_of local_of keyword_of
skip_zero_reads p names register count w ws are h =
    let g = λ (k : ℕ). ap (λ (l : List Spelled). slice_get l k) h.words in
    record {
      keyword = keywords.Local locals.SkipZero;
      begins = ap keyword_of (first_bytes w ws h.words);
      taken = refl;
      read = rw (register_again (w ∷ ws) 1 register (g 1) h.range, number_at_again 1 2000 (w ∷ ws) 2 count (g 2) h.stands.0 h.stands.1 (omega arith), end_again (w ∷ ws) 3 (g 3)) refl;
    }
