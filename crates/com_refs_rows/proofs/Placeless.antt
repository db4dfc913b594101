-- Where places are counted, an apartment has a place of what leaves one.
use Rattle.std.proofs.Common.{◌≡◌, ℕ, zero, suc, Bool, true, false, cond, ◌<◌, ◌≤◌, [], ◌∷◌, refl, ap, arith, inl, inr}
use Rattle.std.proofs.lemmas.Bool.{cases_lt}
use Rattle.std.proofs.lemmas.Grind.{common_steps}
use Rattle.com_refs_books.specs.Counting.{sum_below}
use Rattle.com_refs_holders.specs.Places.{Counts}
use Rattle.com_refs_holders.specs.Stands.{Tells}
use Rattle.com_refs_holders.specs.Tables.{Tables, object_in, owns_of, direct_in}
use Rattle.com_reference_moves.specs.declared.moves.Move.{Move}
use Rattle.com_proxy.specs.Rows.{IsFree}
use Rattle.com_refs_rows.specs.Moving.{plus}

sum-part : (n : ℕ) (f : ℕ → ℕ) (a : ℕ) → a < n → f a ≤ sum_below n f
sum-part zero f a h = absurd (omega (arith, h))
sum-part (suc n) f a h = elim (cases_lt a n) [
  | inl less ↦ let rest : f a ≤ sum_below n f = sum-part n f a less in omega (arith, rest)
  | inr more ↦ let same : a ≡ n = omega (arith, h, more) in let at : f a ≡ f n = ap f same in omega (arith, at)
]

one-there : (m : Move) (later : ℕ → ℕ → ℕ) → 0 < plus later (m ∷ []) m.apartment m.reference.object
one-there m later = grind (arith, common_steps)

-- A place of an object whose table has none.
pub no_place : (n : ℕ) (later : ℕ → ℕ → ℕ) (t : Tables) (m : Move) → m.apartment < n → Counts n (plus later (m ∷ [])) t → Tells n (plus later (m ∷ [])) t
    → (owns_of t.objects m.reference.object m.apartment ≡ false → IsFree t.proxies m.apartment m.reference.object)
    → (owns_of t.objects m.reference.object m.apartment ≡ true → (object_in t.objects m.reference.object).direct ≡ 0) → ⊥
no_place n later t m below counts tells free none =
    let some : 0 < plus later (m ∷ []) m.apartment m.reference.object = one-there m later in
    elim (owns_of t.objects m.reference.object m.apartment) as (λ b. owns_of t.objects m.reference.object m.apartment ≡ b → ⊥) [
      | true ↦ λ e.
          let part : cond (owns_of t.objects m.reference.object m.apartment) (plus later (m ∷ []) m.apartment m.reference.object) 0 ≤ direct_in t m.reference.object =
          omega (arith, counts.direct m.reference.object, sum-part n (λ a. cond (owns_of t.objects m.reference.object a) (plus later (m ∷ []) a m.reference.object) 0) m.apartment below) in
          let whole : cond (owns_of t.objects m.reference.object m.apartment) (plus later (m ∷ []) m.apartment m.reference.object) 0 ≡ plus later (m ∷ []) m.apartment m.reference.object =
          ap (λ (b : Bool). cond b (plus later (m ∷ []) m.apartment m.reference.object) 0) e in
          omega (arith, some, part, whole, none e)
      | false ↦ λ e.
          let zero-there : plus later (m ∷ []) m.apartment m.reference.object ≡ 0 = tells.some m.apartment m.reference.object below e (free e) in
          omega (arith, some, zero-there)
    ] refl
