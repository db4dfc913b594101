-- The loop over a line's arguments reads what the definition reads.
use Rattle.std.proofs.Common.{◌≡◌, ℕ, ◌+◌, ◌<◌, List, [], ◌∷◌, ◌++◌, length, get_or, drop, Option, Some, None, Result, Ok, refl, sym, ap, ◌∙◌}
use Rattle.std.proofs.lemmas.List.{drop_more}
use Rattle.com_text.specs.Words.{WordAt}
use Rattle.com_text.specs.declared.word.Sort.TheVariants as sorts
use Rattle.com_read_operands.specs.declared.faults.Fault.{Fault}
use Rattle.com_read_operands.specs.Reading.{◌>>=◌}
use Rattle.com_dispatch.specs.declared.members.DispArg.{DispArg}
use Rattle.com_dispatch.specs.Invoking.{Arguments, item_at, arguments_on}

any_word : WordAt
any_word = record { line = 0; column = 0; after = 0; start = 0; end = 0; sort = sorts.Plain; bytes = [] }

-- the words from an index on are the word there and the rest
next_word : (line : List WordAt) (i : ℕ) → i < length line → (v : WordAt) × (drop i line ≡ v ∷ drop (i + 1) line)
next_word line i lt = (get_or line i any_word, drop_more line i any_word lt)

pub arguments_more : (done : List DispArg) (line : List WordAt) (i : ℕ) → i < length line
    → arguments_on done line i (drop i line) ≡ (item_at line i >>= λ o. elim o as (λ _. Result Arguments Fault) [
      | None ↦ Ok (record { args = done; index = i })
      | Some a ↦ arguments_on (done ++ a ∷ []) line (i + 1) (drop (i + 1) line)
    ])
arguments_more done line i lt = rw (next_word line i lt).1 refl

-- one argument more
pub arguments_step : (done new : List DispArg) (line : List WordAt) (i : ℕ) (a : DispArg) → i < length line → item_at line i ≡ Ok (Some a) → new ≡ done ++ a ∷ []
    → arguments_on new line (i + 1) (drop (i + 1) line) ≡ arguments_on done line i (drop i line)
arguments_step done new line i a lt is e =
    ap (λ (x : List DispArg). arguments_on x line (i + 1) (drop (i + 1) line)) e
    ∙ sym (arguments_more done line i lt ∙ ap (λ (r : Result (Option DispArg) Fault). r >>= λ o. elim o as (λ _. Result Arguments Fault) [
      | None ↦ Ok (record { args = done; index = i })
      | Some x ↦ arguments_on (done ++ x ∷ []) line (i + 1) (drop (i + 1) line)
    ]) is)
