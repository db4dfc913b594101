-- Actions on cookies, lanes and apartments are read again.
use Rattle.std.proofs.Common.{◌≡◌, ℕ, ◌<◌, List, [], ◌∷◌, Some, None, Ok, Bool, true, false, not, refl, ap, ◌∙◌, arith, slice_get, codes, bytes_eq, if◌then◌else◌, ◌+◌, ◌-◌, Option, Result, length}
use Rattle.com_base.specs.declared.value.Mode.{Mode}
use Rattle.com_body.specs.declared.operands.Op.{Op}
use Rattle.com_body.specs.declared.operands.Code.{Code}
use Rattle.com_body.specs.declared.operands.Given.{Given}
use Rattle.com_body.specs.declared.statements.Stmt.TheVariants as stmts
use Rattle.com_text.specs.Words.{WordAt}
use Rattle.com_read_statements.specs.declared.keywords.Program.{Program}
use Rattle.com_read_statements.specs.declared.keywords.LaneWord.TheVariants as lanes
use Rattle.com_read_statements.specs.declared.keywords.Keyword.TheVariants as keywords
use Rattle.com_read_statements.specs.declared.names.Names.{Names}
use Rattle.com_read_statements.specs.Keywords.{keyword_of}
use Rattle.com_read_statements.specs.Statements.{stmt_of, lane_of, filter_at}
use Rattle.com_print.specs.Spelled.{Spelled, plain}
use Rattle.com_print.proofs.Places.{at, StandsAt, stands, end_again, register_again, slot_again, number_at_again, mode_again}
use Rattle.com_print.proofs.Literals.{op_again, code_again, given_again}
use Rattle.std.proofs.lemmas.List.Elements.{All-get_or}
use Rattle.com_body.specs.declared.operands.Given.TheVariants as gifts
use Rattle.com_read_operands.specs.declared.faults.Fault.{Fault}
use Rattle.com_read_operands.specs.Reading.{◌>>=◌, end_at}
use Rattle.com_read_operands.specs.Operands.{code_at, given_at}
use Rattle.com_read_operands.specs.Naming.{is_name, declared_at}
use Rattle.com_print.proofs.Names.{name_word, is_name_at, declared_again}
use Rattle.com_print.specs.Words.{name_at}
use Rattle.com_print.specs.StatementWords.{filter_word}
use Rattle.com_print.specs.Standing.{AreDeclared, IsFilter}
use Rattle.com_print.specs.Reads.{Reads}
use Rattle.com_print.proofs.Firsts.{first_bytes, Written}

-- a filter by its name, or none
abbrev filter_by : List (List ℕ) → List WordAt → ℕ → WordAt → List ℕ → Result (Option ℕ) Fault
filter_by filters line k w bs = if bytes_eq bs (codes "none") then Ok None else (declared_at filters line k >>= λ n. Ok (Some (n + 1)))

filter_word_at : (filters : List (List ℕ)) (line : List WordAt) (k : ℕ) (bs : List ℕ) (h : StandsAt line k (plain bs)) → is_name bs ≡ true
    → filter_at filters line k ≡ filter_by filters line k h.word bs
unfolding filter_at
filter_word_at filters line k bs h is =
    ap (λ (r : Result WordAt Fault). r >>= λ w. filter_by filters line k w w.bytes) (name_word line k bs h is)
    ∙ ap (filter_by filters line k h.word) h.bytes

filter_again : (names : Names) (line : List WordAt) (k : ℕ) (f : Option ℕ) → at line k ≡ Some (filter_word names f) → AreDeclared names → IsFilter names f
    → filter_at names.filters line k ≡ Ok f
filter_again names line k None h are is = filter_word_at names.filters line k (codes "none") (stands line k _ h) refl
filter_again names line k (Some n) h are is =
    let a = is.0 in
    let b = is.1 in
    let lt : n - 1 < length names.filters = omega arith in
    let s = stands line k (plain (name_at names.filters (n - 1))) h in
    let other : bytes_eq (name_at names.filters (n - 1)) (codes "none") ≡ false = All-get_or (λ m. bytes_eq m (codes "none") ≡ false) names.filters (n - 1) [] lt are.no_none in
    let e : n - 1 + 1 ≡ n = omega arith in
    filter_word_at names.filters line k (name_at names.filters (n - 1)) s (is_name_at names.filters (n - 1) are.filters lt)
    ∙ ap (λ (t : Bool). if t then Ok None else (declared_at names.filters line k >>= λ j. Ok (Some (j + 1)))) other
    ∙ ap (λ (r : Result ℕ Fault). r >>= λ j. Ok (Some (j + 1))) (declared_again names.filters line k (n - 1) h are.filters lt)
    ∙ ap (λ (j : ℕ). Ok (Some j)) e

pub register_reads : (p : Program) (names : Names) (to : ℕ) (slot : ℕ) (w : WordAt) (ws : List WordAt) → AreDeclared names → Written p names (stmts.Register to slot) w ws → Reads p names (stmts.Register to slot) w ws
unfolding stmt_of lane_of keyword_of
register_reads p names to slot w ws are h =
    let g = λ (k : ℕ). ap (λ (l : List Spelled). slice_get l k) h.words in
    record {
      keyword = keywords.Lane lanes.Register;
      begins = ap keyword_of (first_bytes w ws h.words);
      taken = refl;
      read = rw (register_again (w ∷ ws) 1 to (g 1) h.range.0, slot_again (w ∷ ws) 2 slot (g 2) h.range.1, end_again (w ∷ ws) 3 (g 3)) refl;
    }

pub get_reads : (p : Program) (names : Names) (slot : ℕ) (cookie : Op) (w : WordAt) (ws : List WordAt) → AreDeclared names → Written p names (stmts.Get slot cookie) w ws → Reads p names (stmts.Get slot cookie) w ws
unfolding stmt_of lane_of keyword_of
get_reads p names slot cookie w ws are h =
    let g = λ (k : ℕ). ap (λ (l : List Spelled). slice_get l k) h.words in
    record {
      keyword = keywords.Lane lanes.Get;
      begins = ap keyword_of (first_bytes w ws h.words);
      taken = refl;
      read = rw (slot_again (w ∷ ws) 1 slot (g 1) h.range.0, op_again (w ∷ ws) 2 cookie (g 2) h.range.1 h.stands h.fits, end_again (w ∷ ws) 3 (g 3)) refl;
    }

pub revoke_reads : (p : Program) (names : Names) (cookie : Op) (w : WordAt) (ws : List WordAt) → AreDeclared names → Written p names (stmts.Revoke cookie) w ws → Reads p names (stmts.Revoke cookie) w ws
unfolding stmt_of lane_of keyword_of
revoke_reads p names cookie w ws are h =
    let g = λ (k : ℕ). ap (λ (l : List Spelled). slice_get l k) h.words in
    record {
      keyword = keywords.Lane lanes.Revoke;
      begins = ap keyword_of (first_bytes w ws h.words);
      taken = refl;
      read = rw (op_again (w ∷ ws) 1 cookie (g 1) h.range h.stands h.fits, end_again (w ∷ ws) 2 (g 2)) refl;
    }

pub post_reads : (p : Program) (names : Names) (lane : Op) (word : Op) (w : WordAt) (ws : List WordAt) → AreDeclared names → Written p names (stmts.Post lane word) w ws → Reads p names (stmts.Post lane word) w ws
unfolding stmt_of lane_of keyword_of
post_reads p names lane word w ws are h =
    let g = λ (k : ℕ). ap (λ (l : List Spelled). slice_get l k) h.words in
    record {
      keyword = keywords.Lane lanes.Post;
      begins = ap keyword_of (first_bytes w ws h.words);
      taken = refl;
      read = rw (op_again (w ∷ ws) 1 lane (g 1) h.range.0 h.stands.0 h.fits.0, op_again (w ∷ ws) 2 word (g 2) h.range.1 h.stands.1 h.fits.1, end_again (w ∷ ws) 3 (g 3)) refl;
    }

pub quit_reads : (p : Program) (names : Names) (lane : Op) (w : WordAt) (ws : List WordAt) → AreDeclared names → Written p names (stmts.Quit lane) w ws → Reads p names (stmts.Quit lane) w ws
unfolding stmt_of lane_of keyword_of
quit_reads p names lane w ws are h =
    let g = λ (k : ℕ). ap (λ (l : List Spelled). slice_get l k) h.words in
    record {
      keyword = keywords.Lane lanes.Quit;
      begins = ap keyword_of (first_bytes w ws h.words);
      taken = refl;
      read = rw (op_again (w ∷ ws) 1 lane (g 1) h.range h.stands h.fits, end_again (w ∷ ws) 2 (g 2)) refl;
    }

pub init_reads : (p : Program) (names : Names) (mode : Mode) (w : WordAt) (ws : List WordAt) → AreDeclared names → Written p names (stmts.Init mode) w ws → Reads p names (stmts.Init mode) w ws
unfolding stmt_of lane_of keyword_of
init_reads p names mode w ws are h =
    let g = λ (k : ℕ). ap (λ (l : List Spelled). slice_get l k) h.words in
    record {
      keyword = keywords.Lane lanes.Init;
      begins = ap keyword_of (first_bytes w ws h.words);
      taken = ap not h.stands;
      read = rw (mode_again (w ∷ ws) 1 mode (g 1), end_again (w ∷ ws) 2 (g 2)) refl;
    }

pub uninit_reads : (p : Program) (names : Names) (w : WordAt) (ws : List WordAt) → AreDeclared names → Written p names stmts.Uninit w ws → Reads p names stmts.Uninit w ws
unfolding stmt_of lane_of keyword_of
uninit_reads p names w ws are h =
    let g = λ (k : ℕ). ap (λ (l : List Spelled). slice_get l k) h.words in
    record {
      keyword = keywords.Lane lanes.Uninit;
      begins = ap keyword_of (first_bytes w ws h.words);
      taken = ap not h.stands;
      read = rw (end_again (w ∷ ws) 1 (g 1)) refl;
    }

pub pump_reads : (p : Program) (names : Names) (bound : ℕ) (w : WordAt) (ws : List WordAt) → AreDeclared names → Written p names (stmts.Pump bound) w ws → Reads p names (stmts.Pump bound) w ws
unfolding stmt_of lane_of keyword_of
pump_reads p names bound w ws are h =
    let g = λ (k : ℕ). ap (λ (l : List Spelled). slice_get l k) h.words in
    record {
      keyword = keywords.Lane lanes.Pump;
      begins = ap keyword_of (first_bytes w ws h.words);
      taken = ap not h.stands.0;
      read = rw (number_at_again 0 1000 (w ∷ ws) 1 bound (g 1) (omega arith) h.stands.1 (omega arith), end_again (w ∷ ws) 2 (g 2)) refl;
    }

pub set_filter_reads : (p : Program) (names : Names) (filter : Option ℕ) (w : WordAt) (ws : List WordAt) → AreDeclared names → Written p names (stmts.SetFilter filter) w ws → Reads p names (stmts.SetFilter filter) w ws
unfolding stmt_of lane_of keyword_of
set_filter_reads p names filter w ws are h =
    let g = λ (k : ℕ). ap (λ (l : List Spelled). slice_get l k) h.words in
    record {
      keyword = keywords.Lane lanes.SetFilter;
      begins = ap keyword_of (first_bytes w ws h.words);
      taken = ap not h.stands.0;
      read = rw (filter_again names (w ∷ ws) 1 filter (g 1) are h.stands.1, end_again (w ∷ ws) 2 (g 2)) refl;
    }

leave_at : (p : Program) (names : Names) (w : WordAt) (ws : List WordAt) (answer : Code) (given : Given) → code_at (w ∷ ws) 1 ≡ Ok answer → given_at (w ∷ ws) 2 ≡ Ok given → end_at (w ∷ ws) 3 ≡ Ok tt
    → stmt_of p names (keywords.Lane lanes.Leave) (w ∷ ws) ≡ Ok (stmts.Leave answer given)
unfolding stmt_of lane_of
leave_at p names w ws answer given a b c = rw (a, b, c) refl

pub leave_reads : (p : Program) (names : Names) (answer : Code) (given : Given) (w : WordAt) (ws : List WordAt) → AreDeclared names → Written p names (stmts.Leave answer given) w ws → Reads p names (stmts.Leave answer given) w ws
unfolding keyword_of
leave_reads p names answer gifts.Nothing w ws are h =
    let g = λ (k : ℕ). ap (λ (l : List Spelled). slice_get l k) h.words in
    record {
      keyword = keywords.Lane lanes.Leave;
      begins = ap keyword_of (first_bytes w ws h.words);
      taken = h.stands.0;
      read = leave_at p names w ws answer gifts.Nothing (code_again (w ∷ ws) 1 answer (g 1) h.range.0 h.fits.0) (given_again (w ∷ ws) 2 gifts.Nothing (g 2) h.range.1 h.stands.1 h.fits.1) (end_again (w ∷ ws) 3 (g 3));
    }
leave_reads p names answer (gifts.Op op) w ws are h =
    let g = λ (k : ℕ). ap (λ (l : List Spelled). slice_get l k) h.words in
    record {
      keyword = keywords.Lane lanes.Leave;
      begins = ap keyword_of (first_bytes w ws h.words);
      taken = h.stands.0;
      read = leave_at p names w ws answer (gifts.Op op) (code_again (w ∷ ws) 1 answer (g 1) h.range.0 h.fits.0) (given_again (w ∷ ws) 2 (gifts.Op op) (g 2) h.range.1 h.stands.1 h.fits.1) (end_again (w ∷ ws) 3 (g 3));
    }
leave_reads p names answer (gifts.Slot n) w ws are h =
    let g = λ (k : ℕ). ap (λ (l : List Spelled). slice_get l k) h.words in
    record {
      keyword = keywords.Lane lanes.Leave;
      begins = ap keyword_of (first_bytes w ws h.words);
      taken = h.stands.0;
      read = leave_at p names w ws answer (gifts.Slot n) (code_again (w ∷ ws) 1 answer (g 1) h.range.0 h.fits.0) (given_again (w ∷ ws) 2 (gifts.Slot n) (g 2) h.range.1 h.stands.1 h.fits.1) (end_again (w ∷ ws) 3 (g 3));
    }
