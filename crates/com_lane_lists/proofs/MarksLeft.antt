-- The mark of a call in what is left of the marks.
use Rattle.std.proofs.Common.{◌≡◌, ℕ, zero, suc, ◌+◌, ◌<◌, ◌≤◌, Bool, true, ◌==◌, if◌then◌else◌, List, [], ◌∷◌, length, refl, ◌∙◌, ap, subst, arith, slice_index_or, drop, eqb-true}
use Rattle.std.proofs.lemmas.Bool.{false_from_ne_true}
use Rattle.std.proofs.lemmas.Grind.{common_steps}
use Rattle.com_model.specs.declared.keeps.Mark.{Mark}
use Rattle.com_model.specs.Waiting.{mark_of}

test-same : (a b : ℕ) → a ≡ b → (a == b) ≡ true
test-same a b e = subst (λ (c : ℕ). (a == c) ≡ true) e (grind (arith, common_steps))

pub mark_here : (ms : List Mark) (i c : ℕ) (d : Mark) → i < length ms → (slice_index_or ms i d).call ≡ c → mark_of (drop i ms) c ≡ (slice_index_or ms i d).number
mark_here [] i c d h e = absurd (omega (arith, h))
mark_here (m ∷ ms) zero c d h e = ap (λ (b : Bool). if b then m.number else mark_of ms c) (test-same m.call c e)
mark_here (m ∷ ms) (suc i) c d h e = mark_here ms i c d (omega (arith, h)) e

pub mark_next : (ms : List Mark) (i c : ℕ) (d : Mark) → i < length ms → ((slice_index_or ms i d).call ≡ c → ⊥) → mark_of (drop i ms) c ≡ mark_of (drop (i + 1) ms) c
mark_next ms i c d h e = next ms i c d h e ∙ ap (λ (k : ℕ). mark_of (drop k ms) c) (let z : suc i ≡ i + 1 = omega arith in z)
  where
    next : (ms : List Mark) (i c : ℕ) (d : Mark) → i < length ms → ((slice_index_or ms i d).call ≡ c → ⊥) → mark_of (drop i ms) c ≡ mark_of (drop (suc i) ms) c
    next [] i c d h e = absurd (omega (arith, h))
    next (m ∷ ms) zero c d h e = ap (λ (b : Bool). if b then m.number else mark_of ms c) (false_from_ne_true (m.call == c) (λ q. e (eqb-true m.call c q)))
    next (m ∷ ms) (suc i) c d h e = next ms i c d (omega (arith, h)) e

pub mark_end : (ms : List Mark) (i c : ℕ) → length ms ≤ i → mark_of (drop i ms) c ≡ 0
mark_end [] zero c h = refl
mark_end [] (suc i) c h = refl
mark_end (m ∷ ms) zero c h = absurd (omega (arith, h))
mark_end (m ∷ ms) (suc i) c h = mark_end ms i c (omega (arith, h))
