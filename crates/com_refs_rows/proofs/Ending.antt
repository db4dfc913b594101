-- The objects of an STA that ends, one after another.
use Rattle.std.proofs.Common.{◌≡◌, ℕ, zero, suc, Bool, true, false, eqb, not, nat_le, ◌&&◌, ◌+◌, ◌<◌, ◌≤◌, List, [], ◌∷◌, length, refl, ap, ◌∙◌, arith}
use Rattle.std.proofs.lemmas.Bool.Decides.{nat_tests}
use Rattle.std.proofs.lemmas.Grind.{common_steps}
use Rattle.std.specs.Prelude.{Option, None, option_map, slice_index_or}
use Rattle.com_refs_holders.specs.Tables.{Tables, books_of}
use Rattle.com_model.specs.declared.keeps.Making.{Making}
use Rattle.com_model.specs.Lists.{number_or_zero}
use Rattle.com_state.specs.Parts.{ObjectTables, named_at}
use Rattle.com_refs_rows.specs.Books.{Cut}
use Rattle.com_refs_rows.proofs.Cutting.{cut_nothing, cut_same, cut_more}

abbrev pub ended_to : ObjectTables → (apartment place : ℕ) → ℕ → Bool
ended_to os a k x = nat_le x k && eqb (named_at os x) a

none-first : (os : ObjectTables) (a x : ℕ) → 0 < a → ended_to os a 0 x ≡ false
none-first os a zero h = grind (arith, nat_tests, common_steps, h)
none-first os a (suc x) h = grind (arith, nat_tests, common_steps)

kept-live : (l g : Bool) → g ≡ false → l && not g ≡ l
kept-live true g e = rw e refl
kept-live false g e = refl

pub ended_first : (os : ObjectTables) (a : ℕ) (t : Tables) → 0 < a → Cut (ended_to os a 0) t t
ended_first os a t h = cut_nothing t t (ended_to os a 0) refl (λ x. kept-live ((books_of t).live x) (ended_to os a 0 x) (none-first os a x h))

owned-step : (n a x k : ℕ) (p : Bool) → (x ≡ k + 1 → p ≡ true) → not (nat_le x (k + 1) && p) ≡ not (nat_le x k && p) && not (eqb x (k + 1))
owned-step n a x k true h = grind (arith, nat_tests, common_steps)
owned-step n a x k false h = grind (arith, nat_tests, common_steps, h)

pub ended_owned : (os : ObjectTables) (a k : ℕ) (t v u : Tables) → named_at os (k + 1) ≡ a → Cut (ended_to os a k) t v → Cut (λ x. eqb x (k + 1)) v u → Cut (ended_to os a (k + 1)) t u
ended_owned os a k t v u e f g = cut_more t v u (ended_to os a k) (λ x. eqb x (k + 1)) (ended_to os a (k + 1))
    (λ x. owned-step 0 a x k (eqb (named_at os x) a) (λ s. let same : named_at os x ≡ a = ap (λ (y : ℕ). named_at os y) s ∙ e in rw same (grind (arith, common_steps)))) f g

other-step : (x k : ℕ) (p : Bool) → (x ≡ k + 1 → p ≡ false) → nat_le x k && p ≡ nat_le x (k + 1) && p
other-step x k true h = grind (arith, nat_tests, common_steps, h)
other-step x k false h = grind (arith, common_steps)

pub ended_other : (os : ObjectTables) (a k : ℕ) (t u : Tables) → (named_at os (k + 1) ≡ a → ⊥) → Cut (ended_to os a k) t u → Cut (ended_to os a (k + 1)) t u
ended_other os a k t u ne f = cut_same (ended_to os a k) (ended_to os a (k + 1)) t u
    (λ x. other-step x k (eqb (named_at os x) a) (λ s. let same : named_at os x ≡ named_at os (k + 1) = ap (λ (y : ℕ). named_at os y) s in rw same (grind (arith, common_steps, ne)))) f

past_makings : (ms : List (Option Making)) (k : ℕ) → length ms ≤ k → slice_index_or ms k None ≡ None
past_makings [] k h = refl
past_makings (m ∷ ms) zero h = absurd (omega (arith, h))
past_makings (m ∷ ms) (suc k) h = past_makings ms k (omega (arith, h))

pub unnamed : (os : ObjectTables) (x : ℕ) → length os.makings < x → named_at os x ≡ 0
unnamed os zero h = refl
unnamed os (suc k) h = ap (λ (m : Option Making). number_or_zero (option_map (λ (y : Making). y.apartment) m)) (past_makings os.makings k (omega (arith, h)))

last-step : (x k n a : ℕ) → 0 < a → (k < x → n ≡ 0) → nat_le x k && eqb n a ≡ eqb n a
last-step x k n a h z = grind (arith, nat_tests, common_steps, h, z)

pub ended_last : (os : ObjectTables) (a k : ℕ) (t u : Tables) → 0 < a → length os.makings ≤ k → Cut (ended_to os a k) t u → Cut (λ x. eqb (named_at os x) a) t u
ended_last os a k t u h l f = cut_same (ended_to os a k) (λ x. eqb (named_at os x) a) t u (λ x. last-step x k (named_at os x) a h (λ g. unnamed os x (omega (arith, g, l)))) f
