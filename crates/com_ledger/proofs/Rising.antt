-- Numbers that climb, of which those of objects are left.
use Rattle.std.proofs.Common.{◌≡◌, refl, arith, eqb, eqb-true, cond, subst, sym, ◌∙◌, ℕ, suc, zero, Bool, true, false, ◌&&◌, ◌||◌, ◌+◌, ◌<◌, ◌≤◌, List, [], ◌∷◌, nat_le}
use Rattle.std.proofs.lemmas.Grind.{common_steps}
use Rattle.std.proofs.lemmas.Bool.Decides.{nat_tests}
use Rattle.std.specs.Prelude.{filter, nat_lt}
use Rattle.com_model.specs.Lists.{is_member}
use Rattle.com_objects.specs.Settled.{Rise}
use Rattle.com_refs_rows.specs.Moving.{Climbs}

-- The number is one of so many objects.
abbrev pub among_made : (made object : ℕ) → Bool
among_made n o = nat_lt 0 o && nat_le o n

weaker : (a b : ℕ) (xs : List ℕ) → a ≤ b → Climbs b xs → Climbs a xs
weaker a b [] l c = tt
weaker a b (x ∷ xs) l c = let low : b ≤ x = c.0 in (omega (arith, l, low), c.1)

within : (n x : ℕ) → among_made n x ≡ true → x ≤ n
within n x e = grind (arith, nat_tests, common_steps, e)

inside : (n x : ℕ) → 0 < x → x ≤ n → among_made n x ≡ true
inside n x a b = grind (arith, nat_tests, common_steps, a, b)

risen : (low : ℕ) (xs : List ℕ) (n : ℕ) → low ≤ n → Climbs (low + 1) xs → Rise low (filter (λ o. among_made n o) xs) n
risen low [] n l c = l
risen low (x ∷ xs) n l c = elim (among_made n x) as (λ b. among_made n x ≡ b → Rise low (cond b (x ∷ filter (λ o. among_made n o) xs) (filter (λ o. among_made n o) xs)) n) [
  | true ↦ λ e. let least : low + 1 ≤ x = c.0 in (omega (arith, least), risen x xs n (within n x e) c.1)
  | false ↦ λ e. let least : low + 1 ≤ x = c.0 in risen low xs n l (weaker (low + 1) (x + 1) xs (omega (arith, least)) c.1)
] refl

pub kept_rise : (xs : List ℕ) (n : ℕ) → Climbs 0 xs → Rise 0 (filter (λ o. among_made n o) xs) n
kept_rise [] n c = omega arith
kept_rise (zero ∷ xs) n c = risen 0 xs n (omega arith) c.1
kept_rise (suc x ∷ xs) n c = risen 0 (suc x ∷ xs) n (omega arith) (omega arith, c.1)

clash : false ≡ true → ⊥
clash e = cc

pub kept_member : (o n : ℕ) (xs : List ℕ) → 0 < o → o ≤ n → is_member o xs ≡ true → is_member o (filter (λ o. among_made n o) xs) ≡ true
kept_member o n [] some most m = absurd (clash m)
kept_member o n (x ∷ xs) some most m = elim (among_made n x) as (λ b. among_made n x ≡ b → is_member o (cond b (x ∷ filter (λ o. among_made n o) xs) (filter (λ o. among_made n o) xs)) ≡ true) [
  | true ↦ λ e. elim (eqb o x) as (λ b. (b || is_member o xs) ≡ true → (b || is_member o (filter (λ o. among_made n o) xs)) ≡ true) [
    | true ↦ λ m. refl
    | false ↦ λ m. kept_member o n xs some most m
  ] m
  | false ↦ λ e. elim (eqb o x) as (λ b. eqb o x ≡ b → (b || is_member o xs) ≡ true → is_member o (filter (λ o. among_made n o) xs) ≡ true) [
    | true ↦ λ q m. absurd (clash (sym e ∙ subst (λ (y : ℕ). among_made n y ≡ true) (eqb-true o x q) (inside n o some most)))
    | false ↦ λ q m. kept_member o n xs some most m
  ] refl m
] refl
