-- The lines of the entries so far, with one entry more.
use Rattle.std.proofs.Common.{◌≡◌, ℕ, zero, suc, ◌+◌, ◌<◌, ◌≤◌, List, [], ◌∷◌, ◌++◌, length, reverse, take, get_or, refl, sym, ap, ◌∙◌, subst, arith, length-append}
use Rattle.std.proofs.Math.Seq.{take-suc}
use Rattle.std.proofs.lemmas.List.{reverse-append}
use Rattle.com_model.specs.declared.deeds.Entry.{Entry}
use Rattle.com_model.specs.Text.{history_text, line_text}

take_more : (es : List Entry) (n : ℕ) (d : Entry) → n < length es → take (n + 1) es ≡ take n es ++ get_or es n d ∷ []
take_more es n d less =
    let same : suc n ≡ n + 1 = omega arith in
    subst (λ (k : ℕ). take k es ≡ take n es ++ get_or es n d ∷ []) same (take-suc es n d less)

pub length_reversed : (es : List Entry) → length (reverse es) ≡ length es
length_reversed [] = refl
length_reversed (e ∷ es) = ap length (reverse-append (e ∷ []) es) ∙ length-append (reverse es) (e ∷ []) ∙ ap (λ (n : ℕ). n + 1) (length_reversed es) ∙ omega arith

length_taken : (es : List Entry) (n : ℕ) → n ≤ length es → length (take n es) ≡ n
length_taken es zero h = refl
length_taken [] (suc n) h = absurd (omega arith)
length_taken (e ∷ es) (suc n) h = ap suc (length_taken es n (omega arith))

pub line_more : (v : ℕ) (es : List Entry) (n : ℕ) (d : Entry) (out new : List ℕ) → n < length es → out ≡ history_text v (reverse (take n es))
    → new ≡ out ++ line_text v (n + 1) (get_or es n d) → new ≡ history_text v (reverse (take (n + 1) es))
line_more v es n d out new less was is =
    is ∙ ap (λ (x : List ℕ). x ++ line_text v (n + 1) (get_or es n d)) was
    ∙ ap (λ (k : ℕ). history_text v (reverse (take n es)) ++ line_text v (k + 1) (get_or es n d)) (sym (length_reversed (take n es) ∙ length_taken es n (omega arith)))
    ∙ sym (ap (history_text v) (ap reverse (take_more es n d less) ∙ reverse-append (take n es) (get_or es n d ∷ [])))

take_all : (es : List Entry) → take (length es) es ≡ es
take_all [] = refl
take_all (e ∷ es) = ap (λ (xs : List Entry). e ∷ xs) (take_all es)

pub lines_all : (v : ℕ) (es : List Entry) (out : List ℕ) → out ≡ history_text v (reverse (take (length es) es)) → out ≡ history_text v (reverse es)
lines_all v es out is = is ∙ ap (λ (xs : List Entry). history_text v (reverse xs)) (take_all es)
