-- The words of operands are read as what they were written for.
use Rattle.std.proofs.Common.{◌≡◌, ℕ, zero, suc, ◌^◌, ◌<◌, ◌≤◌, List, [], ◌∷◌, map, Option, Some, None, Bool, true, false, nat_lt, nat_le, if◌then◌else◌, refl, ap, ◌∙◌, arith, slice_get, codes, decimal, Result, Ok, Err, bytes_eq}
use Rattle.std.proofs.lemmas.Bool.Decides.{nat_tests}
use Rattle.com_base.specs.declared.value.Mode.{Mode}
use Rattle.com_base.specs.declared.value.Mode.TheVariants as modes
use Rattle.com_base.specs.declared.value.MarshalMode.{MarshalMode}
use Rattle.com_base.specs.declared.value.MarshalMode.TheVariants as packets
use Rattle.com_body.specs.declared.operands.Place.{Place}
use Rattle.com_body.specs.declared.operands.Place.TheVariants as places
use Rattle.com_body.specs.Bodies.{IsPlace}
use Rattle.com_text.specs.declared.word.Sort.{Sort}
use Rattle.com_text.specs.declared.word.Sort.TheVariants as sorts
use Rattle.com_text.specs.Words.{WordAt}
use Rattle.com_read_operands.specs.declared.faults.Fault.{Fault}
use Rattle.com_read_operands.specs.declared.operands.Operand.{Operand}
use Rattle.com_read_operands.specs.declared.operands.Operand.TheVariants as operands
use Rattle.com_read_operands.specs.Numbers.{number_of}
use Rattle.com_read_operands.specs.Reading.{◌>>=◌, needed, judged, word_at, nothing, end_at, stands_at, is_there, is_word, within, number_at, fault_at}
use Rattle.com_read_operands.specs.Operands.{small_of, lettered, plain_of, operand_by, operand_of, as_register, register_at, as_slot, slot_at, as_cell, cell_at, as_buffer, buffer_at, as_place, place_at, mode_at, marshal_mode_at}
use Rattle.com_print.specs.Spelled.{Spelled, plain, spelled_of}
use Rattle.com_print.specs.Words.{register_word, slot_word, cell_word, link_word, buffer_word, place_word, mode_word, marshal_mode_word}
use Rattle.com_print.specs.Ranges.{TakesPlace}
use Rattle.com_print.proofs.Decimals.{number_again, small_again}

-- ---- the word at an index

-- the word that a line has at an index, as it is written
abbrev pub at : List WordAt → ℕ → Option Spelled
at line k = slice_get (map spelled_of line) k

-- a word that was read at an index, and what it is as it is written
pub record StandsAt (line : List WordAt) (k : ℕ) (s : Spelled) : Type 0 where
  pub word : WordAt
  pub there : slice_get line k ≡ Some word
  pub sort : word.sort ≡ s.sort
  pub bytes : word.bytes ≡ s.bytes

pub stands : (line : List WordAt) (k : ℕ) (s : Spelled) → at line k ≡ Some s → StandsAt line k s
stands [] k s h = absurd cc
stands (w ∷ line) zero s h =
    let e : spelled_of w ≡ s = cc in
    record { word = w; there = refl; sort = ap (λ (x : Spelled). x.sort) e; bytes = ap (λ (x : Spelled). x.bytes) e }
stands (w ∷ line) (suc k) s h =
    let r = stands line k s h in
    record { word = r.word; there = r.there; sort = r.sort; bytes = r.bytes }

-- a word that is judged by its form
abbrev pub IsGood : Sort → Type 0
IsGood sorts.Plain = Unit {0}
IsGood sorts.Text = Unit {0}
IsGood sorts.Bytes = Unit {0}
IsGood _ = ⊥

judged_good : (line : List WordAt) (k : ℕ) (w : WordAt) (s : Sort) → IsGood s → judged line k w s ≡ Ok w
judged_good line k w sorts.Plain g = refl
judged_good line k w sorts.Text g = refl
judged_good line k w sorts.Bytes g = refl
judged_good line k w sorts.Unclosed g = absurd g
judged_good line k w (sorts.Stray c) g = absurd g
judged_good line k w (sorts.Remark c) g = absurd g

pub word_again : (line : List WordAt) (k : ℕ) (s : Spelled) (h : StandsAt line k s) → IsGood s.sort → word_at line k ≡ Ok h.word
unfolding word_at
word_again line k s h g =
    ap (needed line k) h.there ∙ ap (judged line k h.word) h.sort ∙ judged_good line k h.word s.sort g

gone : (line : List WordAt) (k : ℕ) → at line k ≡ None → slice_get line k ≡ None
gone [] k h = refl
gone (w ∷ line) zero h = absurd cc
gone (w ∷ line) (suc k) h = gone line k h

pub end_again : (line : List WordAt) (k : ℕ) → at line k ≡ None → end_at line k ≡ Ok tt
unfolding end_at
end_again line k h = ap nothing (gone line k h)

pub missing : (line : List WordAt) (k : ℕ) → at line k ≡ None → stands_at line k ≡ Ok false
unfolding stands_at
missing line k h = ap is_there (gone line k h)

is_word_good : (w : WordAt) (s : Sort) → IsGood s → is_word w s ≡ Ok true
is_word_good w sorts.Plain g = refl
is_word_good w sorts.Text g = refl
is_word_good w sorts.Bytes g = refl
is_word_good w sorts.Unclosed g = absurd g
is_word_good w (sorts.Stray c) g = absurd g
is_word_good w (sorts.Remark c) g = absurd g

pub present : (line : List WordAt) (k : ℕ) (s : Spelled) (h : StandsAt line k s) → IsGood s.sort → stands_at line k ≡ Ok true
unfolding stands_at
present line k s h g = ap is_there h.there ∙ ap (is_word h.word) h.sort ∙ is_word_good h.word s.sort g

pub operand_again : (line : List WordAt) (k : ℕ) (s : Spelled) (h : StandsAt line k s) → operand_of h.word ≡ operand_by s.bytes s.sort
unfolding operand_of
operand_again line k s h = ap (operand_by h.word.bytes) h.sort ∙ ap (λ (b : List ℕ). operand_by b s.sort) h.bytes

-- ---- letters and numbers

register_plain : (bs : List ℕ) → plain_of (114 ∷ bs) ≡ lettered 114 (small_of bs)
unfolding plain_of
register_plain [] = refl
register_plain (b ∷ bs) = refl

slot_plain : (bs : List ℕ) → plain_of (115 ∷ bs) ≡ lettered 115 (small_of bs)
unfolding plain_of
slot_plain [] = refl
slot_plain (b ∷ bs) = refl

cell_plain : (bs : List ℕ) → plain_of (99 ∷ bs) ≡ lettered 99 (small_of bs)
unfolding plain_of
cell_plain [] = refl
cell_plain (b ∷ bs) = refl

link_plain : (bs : List ℕ) → plain_of (107 ∷ bs) ≡ lettered 107 (small_of bs)
unfolding plain_of
link_plain [] = refl
link_plain (b ∷ bs) = refl

buffer_plain : (bs : List ℕ) → plain_of (112 ∷ bs) ≡ lettered 112 (small_of bs)
unfolding plain_of
buffer_plain [] = refl
buffer_plain (b ∷ bs) = refl

pub register_operand : (n : ℕ) → n < 16 → plain_of (114 ∷ decimal n) ≡ operands.Register n
unfolding lettered
register_operand n lt =
    let t : nat_lt n 16 ≡ true = grind (arith, nat_tests) in
    register_plain (decimal n) ∙ ap (lettered 114) (small_again n (omega arith)) ∙ rw t refl

pub slot_operand : (n : ℕ) → n < 8 → plain_of (115 ∷ decimal n) ≡ operands.Slot n
unfolding lettered
slot_operand n lt =
    let t : nat_lt n 8 ≡ true = grind (arith, nat_tests) in
    slot_plain (decimal n) ∙ ap (lettered 115) (small_again n (omega arith)) ∙ rw t refl

pub cell_operand : (n : ℕ) → n < 8 → plain_of (99 ∷ decimal n) ≡ operands.Cell n
unfolding lettered
cell_operand n lt =
    let t : nat_lt n 8 ≡ true = grind (arith, nat_tests) in
    cell_plain (decimal n) ∙ ap (lettered 99) (small_again n (omega arith)) ∙ rw t refl

pub link_operand : (n : ℕ) → n < 4 → plain_of (107 ∷ decimal n) ≡ operands.Link n
unfolding lettered
link_operand n lt =
    let t : nat_lt n 4 ≡ true = grind (arith, nat_tests) in
    link_plain (decimal n) ∙ ap (lettered 107) (small_again n (omega arith)) ∙ rw t refl

pub buffer_operand : (n : ℕ) → n < 64 → plain_of (112 ∷ decimal n) ≡ operands.Buffer n
unfolding lettered
buffer_operand n lt =
    let t : nat_lt n 64 ≡ true = grind (arith, nat_tests) in
    buffer_plain (decimal n) ∙ ap (lettered 112) (small_again n (omega arith)) ∙ rw t refl

-- ---- readers that take one operand

-- what is read at an index, from its word and the operand
pub read_by : {A : Type 0} (f : WordAt → Operand → Result A Fault) (line : List WordAt) (k : ℕ) (s : Spelled) (o : Operand) (h : StandsAt line k s)
    → IsGood s.sort → operand_by s.bytes s.sort ≡ o
    → (word_at line k >>= λ w. f w (operand_of w)) ≡ f h.word o
read_by f line k s o h g e =
    ap (λ (r : Result WordAt Fault). r >>= λ w. f w (operand_of w)) (word_again line k s h g)
    ∙ ap (f h.word) (operand_again line k s h ∙ e)

pub register_again : (line : List WordAt) (k n : ℕ) → at line k ≡ Some (register_word n) → n < 16 → register_at line k ≡ Ok n
unfolding register_at
register_again line k n h lt = read_by as_register line k (register_word n) (operands.Register n) (stands line k _ h) tt (register_operand n lt)

pub slot_again : (line : List WordAt) (k n : ℕ) → at line k ≡ Some (slot_word n) → n < 8 → slot_at line k ≡ Ok n
unfolding slot_at
slot_again line k n h lt = read_by as_slot line k (slot_word n) (operands.Slot n) (stands line k _ h) tt (slot_operand n lt)

pub cell_again : (cells : Bool) (line : List WordAt) (k n : ℕ) → at line k ≡ Some (cell_word n) → n < 8 → cells ≡ true → cell_at cells line k ≡ Ok n
unfolding cell_at
cell_again cells line k n h lt has =
    read_by (as_cell cells) line k (cell_word n) (operands.Cell n) (stands line k _ h) tt (cell_operand n lt) ∙ rw has refl

pub buffer_again : (line : List WordAt) (k n : ℕ) → at line k ≡ Some (buffer_word n) → n < 64 → buffer_at line k ≡ Ok n
unfolding buffer_at
buffer_again line k n h lt = read_by as_buffer line k (buffer_word n) (operands.Buffer n) (stands line k _ h) tt (buffer_operand n lt)

slot_place : (links : Bool) (line : List WordAt) (k n : ℕ) → at line k ≡ Some (slot_word n) → n < 8 → place_at links line k ≡ Ok (places.Slot n)
unfolding place_at
slot_place links line k n h lt =
    read_by (as_place links) line k (slot_word n) (operands.Slot n) (stands line k _ h) tt (slot_operand n lt)

link_place : (links : Bool) (line : List WordAt) (k n : ℕ) → at line k ≡ Some (link_word n) → n < 4 → links ≡ true → place_at links line k ≡ Ok (places.Link n)
unfolding place_at
link_place links line k n h lt has =
    read_by (as_place links) line k (link_word n) (operands.Link n) (stands line k _ h) tt (link_operand n lt) ∙ rw has refl

pub place_again : (links : Bool) (line : List WordAt) (k : ℕ) (p : Place) → at line k ≡ Some (place_word p) → IsPlace p → TakesPlace links p → place_at links line k ≡ Ok p
place_again links line k (places.Slot n) h lt takes = slot_place links line k n h lt
place_again links line k (places.Link n) h lt takes = link_place links line k n h lt takes

-- a number in its range
pub number_at_again : (low high : ℕ) (line : List WordAt) (k n : ℕ) → at line k ≡ Some (plain (decimal n)) → low ≤ n → n ≤ high → high < 2 ^ 32
    → number_at low high line k ≡ Ok n
unfolding number_at
number_at_again low high line k n h ge le few =
    let s = stands line k (plain (decimal n)) h in
    let a : nat_le low n ≡ true = grind (arith, nat_tests) in
    let b : nat_le n high ≡ true = grind (arith, nat_tests) in
    ap (λ (r : Result WordAt Fault). r >>= λ w. within low high w (number_of w.bytes)) (word_again line k _ s tt)
    ∙ ap (λ (bs : List ℕ). within low high s.word (number_of bs)) s.bytes
    ∙ ap (within low high s.word) (number_again n (omega arith))
    ∙ rw (a, b) refl

-- a word that is one of some fixed words
pub word_bytes : {A : Type 0} (f : WordAt → List ℕ → Result A Fault) (line : List WordAt) (k : ℕ) (bs : List ℕ) (h : StandsAt line k (plain bs))
    → (word_at line k >>= λ w. f w w.bytes) ≡ f h.word bs
word_bytes f line k bs h =
    ap (λ (r : Result WordAt Fault). r >>= λ w. f w w.bytes) (word_again line k (plain bs) h tt) ∙ ap (f h.word) h.bytes

pub mode_again : (line : List WordAt) (k : ℕ) (m : Mode) → at line k ≡ Some (mode_word m) → mode_at line k ≡ Ok m
unfolding mode_at
mode_again line k modes.Sta h = word_bytes (λ w bs. if bytes_eq bs (codes "sta") then Ok modes.Sta else (if bytes_eq bs (codes "mta") then Ok modes.Mta else Err (fault_at 3 w))) line k (codes "sta") (stands line k _ h)
mode_again line k modes.Mta h = word_bytes (λ w bs. if bytes_eq bs (codes "sta") then Ok modes.Sta else (if bytes_eq bs (codes "mta") then Ok modes.Mta else Err (fault_at 3 w))) line k (codes "mta") (stands line k _ h)

abbrev marshal_by : WordAt → List ℕ → Result MarshalMode Fault
marshal_by w bs =
    if bytes_eq bs (codes "normal") then Ok packets.Normal
    else (if bytes_eq bs (codes "strong") then Ok packets.Strong
    else (if bytes_eq bs (codes "weak") then Ok packets.Weak
    else Err (fault_at 3 w)))

pub marshal_mode_again : (line : List WordAt) (k : ℕ) (m : MarshalMode) → at line k ≡ Some (marshal_mode_word m) → marshal_mode_at line k ≡ Ok m
unfolding marshal_mode_at
marshal_mode_again line k packets.Normal h = word_bytes marshal_by line k (codes "normal") (stands line k _ h)
marshal_mode_again line k packets.Strong h = word_bytes marshal_by line k (codes "strong") (stands line k _ h)
marshal_mode_again line k packets.Weak h = word_bytes marshal_by line k (codes "weak") (stands line k _ h)
