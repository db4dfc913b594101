-- Giving back all at the end of an entry is giving back at the one proxy that lost its last place.
use Rattle.std.proofs.Common.{◌≡◌, ℕ, zero, suc, Bool, true, false, eqb, cond, ◌&&◌, ◌-◌, ◌<◌, refl, sym, ap, ◌∙◌, arith}
use Rattle.std.proofs.lemmas.Grind.{common_steps}
use Rattle.com_refs_books.specs.Counting.{sum_below}
use Rattle.com_refs_books.specs.Changes.{Books, given_back}
use Rattle.com_refs_books.proofs.Sums.{sum-changed}
use Rattle.com_refs_holders.proofs.Same.{same_books}

sum-nothing : (n : ℕ) → sum_below n (λ k. 0) ≡ 0
sum-nothing zero = refl
sum-nothing (suc n) = omega (arith, sum-nothing n)

sum-only : (n a : ℕ) (f : ℕ → ℕ) → a < n → ((k : ℕ) → (k ≡ a → ⊥) → f k ≡ 0) → sum_below n f ≡ f a
sum-only n a f h p = omega (arith, sum-changed n a (λ k. 0) f h (λ j o. sym (p j o)), sum-nothing n)

-- only this proxy may have something without a place
pub record OnlyAt (pl : ℕ → ℕ → ℕ) (b : Books) (a o : ℕ) : Type 0 where
  pub other : (c x i : ℕ) → eqb c a && eqb x o ≡ false → eqb (pl c x) 0 ≡ true → b.proxy c x i ≡ 0

-- what one proxy gives back, where it does
pub record GivesOne (b c : Books) (a o : ℕ) (free : Bool) : Type 0 where
  pub stub : (x i : ℕ) → c.stub x i ≡ b.stub x i - cond (eqb x o && free) (b.proxy a o i) 0
  pub proxy : (d x i : ℕ) → c.proxy d x i ≡ cond ((eqb d a && eqb x o) && free) 0 (b.proxy d x i)
  pub packets : c.packets ≡ b.packets
  pub cookies : c.cookies ≡ b.cookies
  pub live : (x : ℕ) → c.live x ≡ b.live x
  pub arguments : c.arguments ≡ b.arguments
  pub result : c.result ≡ b.result

pub cond-nothing : (t : Bool) (x : ℕ) → (t ≡ true → x ≡ 0) → cond t x 0 ≡ 0
cond-nothing true x p = p refl
cond-nothing false x p = refl

pub cond-nothing-else : (t : Bool) (x : ℕ) → (t ≡ true → x ≡ 0) → cond t 0 x ≡ x
cond-nothing-else true x p = sym (p refl)
cond-nothing-else false x p = refl

gives-proxy : (n : ℕ) (pl : ℕ → ℕ → ℕ) (b : Books) (a o c x i : ℕ) → OnlyAt pl b a o → (given_back n pl b).proxy c x i ≡ cond ((eqb c a && eqb x o) && eqb (pl a o) 0) 0 (b.proxy c x i)
gives-proxy n pl b a o c x i k =
    elim (eqb c a && eqb x o) as (λ t. eqb c a && eqb x o ≡ t → cond (eqb (pl c x) 0) 0 (b.proxy c x i) ≡ cond (t && eqb (pl a o) 0) 0 (b.proxy c x i)) [
      | true ↦ λ e. grind (arith, common_steps, e)
      | false ↦ λ e. cond-nothing-else (eqb (pl c x) 0) (b.proxy c x i) (k.other c x i e)
    ] refl

gives-stub : (n : ℕ) (pl : ℕ → ℕ → ℕ) (b : Books) (a o x i : ℕ) → a < n → OnlyAt pl b a o → (given_back n pl b).stub x i ≡ b.stub x i - cond (eqb x o && eqb (pl a o) 0) (b.proxy a o i) 0
gives-stub n pl b a o x i h k =
    let sum : sum_below n (λ c. cond (eqb (pl c x) 0) (b.proxy c x i) 0) ≡ cond (eqb (pl a x) 0) (b.proxy a x i) 0 =
    sum-only n a (λ c. cond (eqb (pl c x) 0) (b.proxy c x i) 0) h (λ c other. cond-nothing (eqb (pl c x) 0) (b.proxy c x i) (k.other c x i (grind (arith, common_steps, other)))) in
    elim (eqb x o) as (λ t. eqb x o ≡ t → b.stub x i - sum_below n (λ c. cond (eqb (pl c x) 0) (b.proxy c x i) 0) ≡ b.stub x i - cond (t && eqb (pl a o) 0) (b.proxy a o i) 0) [
      | true ↦ λ e. ap (λ (m : ℕ). b.stub x i - m) (sum ∙ grind (arith, common_steps, e))
      | false ↦ λ e. ap (λ (m : ℕ). b.stub x i - m) (sum ∙ cond-nothing (eqb (pl a x) 0) (b.proxy a x i) (k.other a x i (grind (arith, common_steps, e))))
    ] refl

pub gives_given : (n : ℕ) (pl : ℕ → ℕ → ℕ) (b c : Books) (a o : ℕ) → a < n → OnlyAt pl b a o → GivesOne b c a o (eqb (pl a o) 0) → c ≡ given_back n pl b
gives_given n pl b c a o h k g = same_books _ _ (record {
  stub = λ x i. g.stub x i ∙ sym (gives-stub n pl b a o x i h k);
  proxy = λ d x i. g.proxy d x i ∙ sym (gives-proxy n pl b a o d x i k);
  packets = g.packets;
  cookies = g.cookies;
  live = g.live;
  arguments = g.arguments;
  result = g.result;
})
