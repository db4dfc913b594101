-- Steps of a chain, and the least lane of a list.
use Rattle.std.proofs.Common.{sym, ap, ◌∙◌, arith}
use Rattle.std.specs.Prelude.{◌≡◌, refl, ℕ, suc, ◌+◌, ◌-◌, ◌<◌, ◌≤◌, Bool, true, false, cond, List, [], ◌∷◌, ◌++◌, length, Option, Some, None}
use Rattle.std.proofs.lemmas.List.{length-append}
use Rattle.com_model.specs.Lists.{is_member, least, lesser}
use Rattle.com_waits.specs.declared.reasons.Wait.{Wait}
use Rattle.com_waits.specs.Chains.{entered, from_lane, goes_on as goes_on_by, next_in}

suc-left : (w k : ℕ) → k ≤ w → w + 1 - k ≡ suc (w - k)
suc-left w k p = omega (arith, p)

step : (ws : List Wait) (n : ℕ) (chain : List ℕ) (l : ℕ) (b : Bool) (x : Option ℕ) → is_member l chain ≡ b → next_in ws l ≡ x
    → entered (next_in ws) (suc n) chain l ≡ cond b (from_lane l chain) (goes_on_by (entered (next_in ws) n) (chain ++ l ∷ []) x)
step ws n chain l b x e q =
    ap (λ (t : Bool). cond t (from_lane l chain) (goes_on_by (entered (next_in ws) n) (chain ++ l ∷ []) (next_in ws l))) e
    ∙ ap (λ (y : Option ℕ). cond b (from_lane l chain) (goes_on_by (entered (next_in ws) n) (chain ++ l ∷ []) y)) q

at-steps : (ws : List Wait) (w : ℕ) (chain : List ℕ) (l : ℕ) → length chain ≤ w → entered (next_in ws) (w + 1 - length chain) chain l ≡ entered (next_in ws) (suc (w - length chain)) chain l
at-steps ws w chain l p = ap (λ (k : ℕ). entered (next_in ws) k chain l) (suc-left w (length chain) p)

-- The chain comes back to a lane that came before.
pub goes_in : (ws : List Wait) (w : ℕ) (chain : List ℕ) (l : ℕ) → length chain ≤ w → is_member l chain ≡ true → entered (next_in ws) (w + 1 - length chain) chain l ≡ from_lane l chain
goes_in ws w chain l p e = at-steps ws w chain l p ∙ step ws (w - length chain) chain l true (next_in ws l) e refl

-- It ends at a lane that waits for no other.
pub goes_nowhere : (ws : List Wait) (w : ℕ) (chain : List ℕ) (l : ℕ) → length chain ≤ w → is_member l chain ≡ false → next_in ws l ≡ None → entered (next_in ws) (w + 1 - length chain) chain l ≡ []
goes_nowhere ws w chain l p e q = at-steps ws w chain l p ∙ step ws (w - length chain) chain l false None e q

one-longer : (w : ℕ) (chain : List ℕ) (l : ℕ) → length chain ≤ w → w - length chain ≡ w + 1 - length (chain ++ l ∷ [])
one-longer w chain l p = omega (arith, p, length-append chain (l ∷ []))

-- It goes on.
pub goes_on : (ws : List Wait) (w : ℕ) (chain : List ℕ) (l m : ℕ) → length chain ≤ w → is_member l chain ≡ false → next_in ws l ≡ Some m → entered (next_in ws) (w + 1 - length (chain ++ l ∷ [])) (chain ++ l ∷ []) m ≡ entered (next_in ws) (w + 1 - length chain) chain l
goes_on ws w chain l m p e q =
    sym (at-steps ws w chain l p ∙ step ws (w - length chain) chain l false (Some m) e q
    ∙ ap (λ (k : ℕ). entered (next_in ws) k (chain ++ l ∷ []) m) (one-longer w chain l p))

-- It has as many steps as it may have.
pub goes_out : (ws : List Wait) (w : ℕ) (chain : List ℕ) (l : ℕ) → w < length chain → entered (next_in ws) (w + 1 - length chain) chain l ≡ []
goes_out ws w chain l p = ap (λ (k : ℕ). entered (next_in ws) k chain l) (none w (length chain) p)
  where
    none : (w k : ℕ) → w < k → w + 1 - k ≡ 0
    none w k p = omega (arith, p)

-- ---- the least of a list, from its end

abbrev pub onto : List ℕ → Option ℕ → Option ℕ
onto [] a = a
onto (x ∷ xs) a = lesser x (onto xs a)

onto-end : (xs : List ℕ) (x : ℕ) (a : Option ℕ) → onto (xs ++ x ∷ []) a ≡ onto xs (lesser x a)
onto-end [] x a = refl
onto-end (y ∷ xs) x a = ap (λ (o : Option ℕ). lesser y o) (onto-end xs x a)

pub onto_last : (all rest : List ℕ) (x : ℕ) (a : Option ℕ) → all ≡ rest ++ x ∷ [] → onto all a ≡ onto rest (lesser x a)
onto_last all rest x a e = ap (λ (xs : List ℕ). onto xs a) e ∙ onto-end rest x a

pub onto_none : (xs : List ℕ) → onto xs None ≡ least xs
onto_none [] = refl
onto_none (x ∷ xs) = ap (λ (o : Option ℕ). lesser x o) (onto_none xs)
