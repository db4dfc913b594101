-- Readers that the law refuses, and texts without which it would say more.
use Rattle.std.proofs.Common.{◌≡◌, ℕ, inl, inr, Bool, true, false, List, [], ◌∷◌, ◌++◌, Result, Ok, Err, refl, sym, ap, ◌∙◌, arith}
use Rattle.std.specs.Prelude.{codes}
use Rattle.com_model.specs.declared.scenario.Scenario.{Scenario}
use Rattle.com_text.specs.Scanning.{lines_of}
use Rattle.com_read_operands.specs.declared.faults.Fault.{Fault}
use Rattle.com_read_operands.specs.Reading.{word_at, first_at, end_at, number_at}
use Rattle.com_read_lines.specs.Codes.{first_position}
use Rattle.com_read_lines.specs.Header.{version_at}
use Rattle.com_read_sections.specs.Header.{header_line}
use Rattle.com_read_sections.specs.Beginning.{top_line, thread_line}
use Rattle.com_read_sections.specs.Opened.{inner_thread, step}
use Rattle.com_read_sections.specs.Outlines.{finish, read}
use Rattle.com_scenario.specs.Scenarios.{reading}
use Rattle.com_laws_faults.specs.Prefixes.{lacks_header, EndsEarly}
use Rattle.com_laws_faults.specs.Places.{StandsIn}
use Rattle.com_read_statements.specs.Keywords.{keyword_of}
use Rattle.com_read_statements.specs.Statements.{local_of, stmt_of}
use Rattle.com_read_operands.specs.Numbers.{number_of as digits_number}
use Rattle.com_read_lines.specs.Programs.{program_line}
use Rattle.com_laws_faults.specs.Laws.{IsDecided, Stays, StaysCut, StaysEarly, IsKnown, IsKnownAll, at_the_end, blames, bytes_first, length_first}

-- a fault of another number than these says nothing of the text's end
late : (text : List ℕ) (f : Fault) → (f.number ≡ 4 → ⊥) → (f.number ≡ 11 → ⊥) → (f.number ≡ 1 → ⊥) → EndsEarly text f → ⊥
late text f four eleven one (inl h) = four h.number
late text f four eleven one (inr (inl e)) = eleven (ap (λ (g : Fault). g.number) e)
late text f four eleven one (inr (inr h)) = one (ap (λ (g : Fault). g.number) h.first)

-- faults of two numbers, and of two columns, are two
abbrev number_of : Result Scenario Fault → ℕ
number_of (Ok s) = 0
number_of (Err f) = f.number

abbrev column_of : Result Scenario Fault → ℕ
column_of (Ok s) = 0
column_of (Err f) = f.column

eight_six : ◌≡◌ {A = ℕ} 8 6 → ⊥
eight_six e = absurd cc

two_one : ◌≡◌ {A = ℕ} 2 1 → ⊥
two_one e = absurd cc

twelve_one : ◌≡◌ {A = ℕ} 12 1 → ⊥
twelve_one e = absurd cc

pub end_fails : Stays at_the_end → ⊥
end_fails h =
    let f : Fault = record { number = 3; line = 1; column = 6 } in
    let decided : IsDecided at_the_end (codes "pool ") (codes "8 ") f = record { whole = inl refl; fault = refl; not_early = late (codes "pool ") f (λ e. absurd cc) (λ e. absurd cc) (λ e. absurd cc) } in
    let same : ◌≡◌ {A = Result Scenario Fault} (Err (record { number = 3; line = 1; column = 8 })) (Err f) = h (codes "pool ") (codes "8 ") f decided in
    eight_six (ap column_of same)

one_four : ◌≡◌ {A = ℕ} 1 4 → ⊥
one_four e = absurd cc

one_eleven : ◌≡◌ {A = ℕ} 1 11 → ⊥
one_eleven e = absurd cc

no_lack : lacks_header (lines_of (codes "pool ")) ≡ true → ⊥
unfolding lines_of
no_lack e = absurd cc

unheaded : EndsEarly (codes "pool ") first_position → ⊥
unheaded (inl h) = one_four h.number
unheaded (inr (inl e)) = one_eleven (ap (λ (g : Fault). g.number) e)
unheaded (inr (inr h)) = no_lack h.lacks

pool_read : reading (codes "pool ") ≡ Err first_position
unfolding reading read lines_of step header_line
pool_read = refl

pub bytes_fail : Stays bytes_first → ⊥
bytes_fail h =
    let decided : IsDecided bytes_first (codes "pool ") (1 ∷ []) first_position = record { whole = inl refl; fault = pool_read; not_early = unheaded } in
    let same : ◌≡◌ {A = Result Scenario Fault} (Err (record { number = 2; line = 1; column = 6 })) (Err first_position) = h (codes "pool ") (1 ∷ []) first_position decided in
    two_one (ap number_of same)

pub length_fails : Stays length_first → ⊥
length_fails h =
    let decided : IsDecided length_first (codes "pool ") (codes "8    ") first_position = record { whole = inl refl; fault = pool_read; not_early = unheaded } in
    let same : ◌≡◌ {A = Result Scenario Fault} (Err (record { number = 12; line = 0; column = 0 })) (Err first_position) = h (codes "pool ") (codes "8    ") first_position decided in
    twelve_one (ap number_of same)

one_two : ◌≡◌ {A = ℕ} 1 3 → ⊥
one_two e = absurd cc

headed : lacks_header (lines_of (codes "pool ")) ≡ false
unfolding lines_of
headed = refl

pub blame_fails : IsKnown blames → ⊥
blame_fails h =
    let f : Fault = record { number = 3; line = 1; column = 2 } in
    let stands : StandsIn (codes "pool ") f = record { headed = headed; no_end = λ e. absurd cc; missing = λ e. absurd cc; before = inr (refl, omega arith) } in
    let same : reading (codes "pool ") ≡ Err f = h (codes "pool ") (codes "8    ") f (inl refl) stands refl in
    one_two (ap number_of (sym pool_read ∙ same))

-- ---- the premises

abbrev is_read : Result Scenario Fault → Bool
is_read (Ok s) = true
is_read (Err f) = false

cut_read : reading (codes "scenario 1" ++ 10 ∷ codes "thr") ≡ Err (record { number = 3; line = 2; column = 1 })
unfolding reading read lines_of step header_line version_at end_at top_line first_at
cut_read = refl

open_read : reading (codes "scenario 1" ++ 10 ∷ codes "thread" ++ 10 ∷ []) ≡ Err (record { number = 11; line = 3; column = 1 })
unfolding reading read lines_of step header_line version_at end_at top_line first_at thread_line finish
open_read = refl

whole_read : is_read (reading (codes "scenario 1" ++ 10 ∷ codes "thread" ++ 10 ∷ codes "end" ++ 10 ∷ [])) ≡ true
unfolding reading read lines_of step header_line version_at end_at top_line first_at thread_line inner_thread finish
whole_read = refl

skip_read : reading (codes "scenario 1" ++ 10 ∷ codes "thread" ++ 10 ∷ codes "skip 1" ++ 10 ∷ codes "end" ++ 10 ∷ []) ≡ Err (record { number = 11; line = 3; column = 6 })
unfolding reading read lines_of step header_line version_at end_at top_line first_at thread_line inner_thread program_line keyword_of stmt_of local_of number_at word_at digits_number finish
skip_read = refl

open_skip : reading (codes "scenario 1" ++ 10 ∷ codes "thread" ++ 10 ∷ codes "skip 1" ++ 10 ∷ []) ≡ Err (record { number = 11; line = 4; column = 1 })
unfolding reading read lines_of step header_line version_at end_at top_line first_at thread_line inner_thread program_line keyword_of stmt_of local_of number_at word_at digits_number finish
open_skip = refl

one_six : ◌≡◌ {A = ℕ} 1 6 → ⊥
one_six e = absurd cc

pub skip_fails : IsKnownAll reading → ⊥
skip_fails h =
    let f : Fault = record { number = 11; line = 3; column = 6 } in
    let same : reading (codes "scenario 1" ++ 10 ∷ codes "thread" ++ 10 ∷ codes "skip 1" ++ 10 ∷ []) ≡ Err f = h (codes "scenario 1" ++ 10 ∷ codes "thread" ++ 10 ∷ codes "skip 1" ++ 10 ∷ []) (codes "end" ++ 10 ∷ []) f refl (inl (omega arith)) skip_read in
    one_six (ap column_of (sym open_skip ∙ same))

not_read : (text : List ℕ) (f : Fault) → is_read (reading text) ≡ true → reading text ≡ Err f → ⊥
not_read text f t e = let q : true ≡ false = sym t ∙ ap is_read e in absurd cc

pub cut_fails : StaysCut reading → ⊥
cut_fails h =
    let f : Fault = record { number = 3; line = 2; column = 1 } in
    not_read _ f whole_read (h (codes "scenario 1" ++ 10 ∷ codes "thr") (codes "ead" ++ 10 ∷ codes "end" ++ 10 ∷ []) f cut_read (late _ f (λ e. absurd cc) (λ e. absurd cc) (λ e. absurd cc)))

pub early_fails : StaysEarly reading → ⊥
early_fails h =
    let f : Fault = record { number = 11; line = 3; column = 1 } in
    not_read _ f whole_read (h (codes "scenario 1" ++ 10 ∷ codes "thread" ++ 10 ∷ []) (codes "end" ++ 10 ∷ []) f (inl refl) open_read)
