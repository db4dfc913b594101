-- Lines that were written so far.
use Rattle.std.proofs.Common.{sym, ap, ◌∙◌, arith, append_assoc, append-nil, length-append}
use Rattle.std.proofs.lemmas.List.{length-reverse, reverse-append}
use Rattle.std.specs.Prelude.{◌≡◌, refl, ℕ, ◌+◌, ◌-◌, List, [], ◌∷◌, ◌++◌, length, reverse}
use Rattle.com_model.specs.declared.deeds.Entry.{Entry}
use Rattle.com_model.specs.Text.{history_text, line_text}

-- The entries so far, whose lines stand behind a text, and those that are left.
pub record Written (all rest : List Entry) (old out : List ℕ) : Type 0 where
  pub so_far : List Entry
  pub parts : all ≡ so_far ++ rest
  pub text : out ≡ old ++ history_text 2 (reverse so_far)

pub starts : (all : List Entry) (out : List ℕ) → Written all all out out
starts all out = record { so_far = []; parts = refl; text = sym (append-nil out) }

place_of : (a n m : ℕ) → a ≡ n + (m + 1) → a - m ≡ n + 1
place_of a n m e = omega (arith, e)

pub goes_on : (all rest others : List Entry) (e : Entry) (old out new : List ℕ) (place : ℕ) → rest ≡ e ∷ others → place ≡ length all - length others
    → new ≡ out ++ line_text 2 place e → Written all rest old out → Written all others old new
goes_on all rest others e old out new place cut at line p =
    let done : List Entry = p.so_far in
    let parts : all ≡ done ++ e ∷ others = p.parts ∙ ap (λ (xs : List Entry). done ++ xs) cut in
    let back : reverse (done ++ e ∷ []) ≡ e ∷ reverse done = reverse-append done (e ∷ []) in
    let whole : length all ≡ length done + (length others + 1) =
    omega (arith, ap length parts, length-append done (e ∷ others)) in
    let here : place ≡ length (reverse done) + 1 =
    at ∙ place_of (length all) (length done) (length others) whole ∙ ap (λ (n : ℕ). n + 1) (sym (length-reverse done)) in
    record {
      so_far = done ++ e ∷ [];
      parts = parts ∙ sym (append_assoc done (e ∷ []) others);
      text = line ∙ ap (λ (x : List ℕ). x ++ line_text 2 place e) p.text
          ∙ append_assoc old (history_text 2 (reverse done)) (line_text 2 place e)
          ∙ ap (λ (n : ℕ). old ++ (history_text 2 (reverse done) ++ line_text 2 n e)) here
          ∙ ap (λ (xs : List Entry). old ++ history_text 2 xs) (sym back);
    }

pub ends : (all rest : List Entry) (old out : List ℕ) → rest ≡ [] → Written all rest old out → out ≡ old ++ history_text 2 (reverse all)
ends all rest old out none p =
    p.text ∙ ap (λ (xs : List Entry). old ++ history_text 2 (reverse xs)) (sym (p.parts ∙ ap (λ (xs : List Entry). p.so_far ++ xs) none ∙ append-nil p.so_far))
