-- Actions on references and packets are read again.
use Rattle.std.proofs.Common.{ℕ, List, ◌∷◌, refl, ap, slice_get}
use Rattle.com_base.specs.declared.value.MarshalMode.{MarshalMode}
use Rattle.com_body.specs.declared.operands.Asked.{Asked}
use Rattle.com_body.specs.declared.operands.Place.{Place}
use Rattle.com_body.specs.declared.statements.Stmt.TheVariants as stmts
use Rattle.com_text.specs.Words.{WordAt}
use Rattle.com_read_statements.specs.declared.keywords.Program.{Program}
use Rattle.com_read_statements.specs.declared.keywords.ObjectWord.TheVariants as objects
use Rattle.com_read_statements.specs.declared.keywords.Keyword.TheVariants as keywords
use Rattle.com_read_statements.specs.declared.names.Names.{Names}
use Rattle.com_read_statements.specs.Keywords.{keyword_of, has_links}
use Rattle.com_read_statements.specs.Statements.{stmt_of, object_of}
use Rattle.com_print.specs.Spelled.{Spelled}
use Rattle.com_print.proofs.Places.{end_again, slot_again, buffer_again, place_again, marshal_mode_again}
use Rattle.com_print.proofs.Names.{asked_again}
use Rattle.com_print.specs.Standing.{AreDeclared}
use Rattle.com_print.specs.Reads.{Reads}
use Rattle.com_print.proofs.Firsts.{first_bytes, Written}
use Rattle.com_print.proofs.Raws.{raw_again}

pub create_reads : (p : Program) (names : Names) (slot : ℕ) (class : Asked) (iface : Asked) (w : WordAt) (ws : List WordAt) → AreDeclared names → Written p names (stmts.Create slot class iface) w ws → Reads p names (stmts.Create slot class iface) w ws
unfolding stmt_of object_of keyword_of
create_reads p names slot class iface w ws are h =
    let g = λ (k : ℕ). ap (λ (l : List Spelled). slice_get l k) h.words in
    record {
      keyword = keywords.Object objects.Create;
      begins = ap keyword_of (first_bytes w ws h.words);
      taken = refl;
      read = rw (slot_again (w ∷ ws) 1 slot (g 1) h.range, asked_again names.classes 1 (w ∷ ws) 2 class (g 2) are.classes h.stands.0 h.fits.0, asked_again names.interfaces 0 (w ∷ ws) 3 iface (g 3) are.interfaces h.stands.1 h.fits.1, end_again (w ∷ ws) 4 (g 4)) refl;
    }

pub query_reads : (p : Program) (names : Names) (to : ℕ) (from : ℕ) (iface : Asked) (w : WordAt) (ws : List WordAt) → AreDeclared names → Written p names (stmts.Query to from iface) w ws → Reads p names (stmts.Query to from iface) w ws
unfolding stmt_of object_of keyword_of
query_reads p names to from iface w ws are h =
    let g = λ (k : ℕ). ap (λ (l : List Spelled). slice_get l k) h.words in
    record {
      keyword = keywords.Object objects.Query;
      begins = ap keyword_of (first_bytes w ws h.words);
      taken = refl;
      read = rw (slot_again (w ∷ ws) 1 to (g 1) h.range.0, slot_again (w ∷ ws) 2 from (g 2) h.range.1, asked_again names.interfaces 0 (w ∷ ws) 3 iface (g 3) are.interfaces h.stands h.fits, end_again (w ∷ ws) 4 (g 4)) refl;
    }

pub copy_reads : (p : Program) (names : Names) (to : Place) (from : Place) (w : WordAt) (ws : List WordAt) → AreDeclared names → Written p names (stmts.Copy to from) w ws → Reads p names (stmts.Copy to from) w ws
unfolding stmt_of object_of keyword_of
copy_reads p names to from w ws are h =
    let g = λ (k : ℕ). ap (λ (l : List Spelled). slice_get l k) h.words in
    record {
      keyword = keywords.Object objects.Copy;
      begins = ap keyword_of (first_bytes w ws h.words);
      taken = refl;
      read = rw (place_again (has_links p) (w ∷ ws) 1 to (g 1) h.range.0 h.stands.0, place_again (has_links p) (w ∷ ws) 2 from (g 2) h.range.1 h.stands.1, end_again (w ∷ ws) 3 (g 3)) refl;
    }

pub release_reads : (p : Program) (names : Names) (from : Place) (w : WordAt) (ws : List WordAt) → AreDeclared names → Written p names (stmts.Release from) w ws → Reads p names (stmts.Release from) w ws
unfolding stmt_of object_of keyword_of
release_reads p names from w ws are h =
    let g = λ (k : ℕ). ap (λ (l : List Spelled). slice_get l k) h.words in
    record {
      keyword = keywords.Object objects.Release;
      begins = ap keyword_of (first_bytes w ws h.words);
      taken = refl;
      read = rw (place_again (has_links p) (w ∷ ws) 1 from (g 1) h.range h.stands, end_again (w ∷ ws) 2 (g 2)) refl;
    }

pub marshal_reads : (p : Program) (names : Names) (buffer : ℕ) (slot : ℕ) (mode : MarshalMode) (w : WordAt) (ws : List WordAt) → AreDeclared names → Written p names (stmts.Marshal buffer slot mode) w ws → Reads p names (stmts.Marshal buffer slot mode) w ws
unfolding stmt_of object_of keyword_of
marshal_reads p names buffer slot mode w ws are h =
    let g = λ (k : ℕ). ap (λ (l : List Spelled). slice_get l k) h.words in
    record {
      keyword = keywords.Object objects.Marshal;
      begins = ap keyword_of (first_bytes w ws h.words);
      taken = refl;
      read = rw (buffer_again (w ∷ ws) 1 buffer (g 1) h.range.0, slot_again (w ∷ ws) 2 slot (g 2) h.range.1, marshal_mode_again (w ∷ ws) 3 mode (g 3), end_again (w ∷ ws) 4 (g 4)) refl;
    }

pub unmarshal_reads : (p : Program) (names : Names) (slot : ℕ) (buffer : ℕ) (w : WordAt) (ws : List WordAt) → AreDeclared names → Written p names (stmts.Unmarshal slot buffer) w ws → Reads p names (stmts.Unmarshal slot buffer) w ws
unfolding stmt_of object_of keyword_of
unmarshal_reads p names slot buffer w ws are h =
    let g = λ (k : ℕ). ap (λ (l : List Spelled). slice_get l k) h.words in
    record {
      keyword = keywords.Object objects.Unmarshal;
      begins = ap keyword_of (first_bytes w ws h.words);
      taken = refl;
      read = rw (slot_again (w ∷ ws) 1 slot (g 1) h.range.0, buffer_again (w ∷ ws) 2 buffer (g 2) h.range.1, end_again (w ∷ ws) 3 (g 3)) refl;
    }

pub drop_reads : (p : Program) (names : Names) (buffer : ℕ) (w : WordAt) (ws : List WordAt) → AreDeclared names → Written p names (stmts.Drop buffer) w ws → Reads p names (stmts.Drop buffer) w ws
unfolding stmt_of object_of keyword_of
drop_reads p names buffer w ws are h =
    let g = λ (k : ℕ). ap (λ (l : List Spelled). slice_get l k) h.words in
    record {
      keyword = keywords.Object objects.Drop;
      begins = ap keyword_of (first_bytes w ws h.words);
      taken = refl;
      read = rw (buffer_again (w ∷ ws) 1 buffer (g 1) h.range, end_again (w ∷ ws) 2 (g 2)) refl;
    }

pub raw_reads : (p : Program) (names : Names) (buffer : ℕ) (bytes : List ℕ) (w : WordAt) (ws : List WordAt) → AreDeclared names → Written p names (stmts.Raw buffer bytes) w ws → Reads p names (stmts.Raw buffer bytes) w ws
unfolding stmt_of object_of keyword_of
raw_reads p names buffer bytes w ws are h =
    let g = λ (k : ℕ). ap (λ (l : List Spelled). slice_get l k) h.words in
    record {
      keyword = keywords.Object objects.Raw;
      begins = ap keyword_of (first_bytes w ws h.words);
      taken = refl;
      read = rw (buffer_again (w ∷ ws) 1 buffer (g 1) h.range, raw_again (w ∷ ws) 2 bytes (g 2) h.fits h.stands.1, end_again (w ∷ ws) 3 (g 3)) refl;
    }

pub disconnect_reads : (p : Program) (names : Names) (slot : ℕ) (w : WordAt) (ws : List WordAt) → AreDeclared names → Written p names (stmts.Disconnect slot) w ws → Reads p names (stmts.Disconnect slot) w ws
unfolding stmt_of object_of keyword_of
disconnect_reads p names slot w ws are h =
    let g = λ (k : ℕ). ap (λ (l : List Spelled). slice_get l k) h.words in
    record {
      keyword = keywords.Object objects.Disconnect;
      begins = ap keyword_of (first_bytes w ws h.words);
      taken = refl;
      read = rw (slot_again (w ∷ ws) 1 slot (g 1) h.range, end_again (w ∷ ws) 2 (g 2)) refl;
    }
