-- The first byte outside the characters, of a word that grows byte by byte.
use Rattle.std.proofs.Common.{◌≡◌, ◌≢◌, ℕ, ◌+◌, Bool, true, false, cond, ◌==◌, ◌&&◌, ◌||◌, nat_lt, List, [], ◌∷◌, ◌++◌, length, Option, Some, None, refl, sym, ap, ◌∙◌, arith}
use Rattle.std.specs.Prelude.{slice_index, unwrap_or, option_map}
use Rattle.std.proofs.lemmas.Bool.{eqb-true}
use Rattle.com_text.specs.declared.scan.Class.{Class}
use Rattle.com_text.specs.declared.scan.Class.TheVariants as classes
use Rattle.com_text.specs.Scanning.{class_of, strayed}
use Rattle.com_text.specs.Tokens.{is_bad, stray_from}
use Rattle.com_text.specs.Sorts.{stray_column}

-- a line end's class
pub not_ten : (b next : ℕ) → class_of b next ≢ classes.LineEnd → b ≢ 10
not_ten b next h e = h (ap (λ (x : ℕ). class_of x next) e)

not_equal : (n m : ℕ) → n ≢ m → (n == m) ≡ false
not_equal n m h = by (n == m) (λ e. h (eqb-true n m e))
  where
    by : (t : Bool) → (t ≡ true → ⊥) → t ≡ false
    by true k = absurd (k refl)
    by false k = refl

-- the byte behind is of no matter where it ends no line
pub same_class : (b n m : ℕ) → n ≢ 10 → m ≢ 10 → class_of b n ≡ class_of b m
same_class b n m p q =
    let f = not_equal n 10 p in
    let g = not_equal m 10 q in
    ap (λ (t : Bool). cond (b == 10) classes.LineEnd (cond (b == 32 || b == 9 || (b == 13 && t)) classes.Blank (cond (nat_lt b 32 || nat_lt 126 b) classes.Bad (cond (b == 34) classes.Quote (cond (b == 59) classes.Semicolon classes.Other))))) (f ∙ sym g)

strayed_once : (k : ℕ) (c : Class) → cond (is_bad c) (Some k) None ≡ strayed None c k
strayed_once k classes.LineEnd = refl
strayed_once k classes.Blank = refl
strayed_once k classes.Bad = refl
strayed_once k classes.Quote = refl
strayed_once k classes.Semicolon = refl
strayed_once k classes.Other = refl

-- one byte more
pub stray_more : (k : ℕ) (bs : List ℕ) (b : ℕ) → b ≢ 10 → stray_from k (bs ++ b ∷ []) ≡ strayed (stray_from k bs) (class_of b 0) (k + length bs)
stray_more k [] b h = strayed_once k (class_of b 0) ∙ ap (λ (n : ℕ). strayed None (class_of b 0) n) (omega arith)
stray_more k (x ∷ []) b h =
    let e = same_class x b 0 h (λ z. absurd cc) in
    rw e (by (is_bad (class_of x 0)))
  where
    by : (t : Bool) → cond t (Some k) (stray_from (k + 1) (b ∷ [])) ≡ strayed (cond t (Some k) None) (class_of b 0) (k + 1)
    by true = refl
    by false = strayed_once (k + 1) (class_of b 0)
stray_more k (x ∷ y ∷ ys) b h = by (is_bad (class_of x y)) (stray_more (k + 1) (y ∷ ys) b h)
  where
    by : (t : Bool) → stray_from (k + 1) ((y ∷ ys) ++ b ∷ []) ≡ strayed (stray_from (k + 1) (y ∷ ys)) (class_of b 0) ((k + 1) + length (y ∷ ys))
        → cond t (Some k) (stray_from (k + 1) ((y ∷ ys) ++ b ∷ [])) ≡ strayed (cond t (Some k) (stray_from (k + 1) (y ∷ ys))) (class_of b 0) (k + length (x ∷ y ∷ ys))
    by true i = refl
    by false i = i ∙ ap (λ (n : ℕ). strayed (stray_from (k + 1) (y ∷ ys)) (class_of b 0) n) (omega arith)

-- ---- from another column

pub stray_moved : (k n : ℕ) (bs : List ℕ) → stray_from (k + n) bs ≡ option_map (λ i. k + i) (stray_from n bs)
stray_moved k n [] = refl
stray_moved k n (b ∷ bs) = by (is_bad (class_of b (slice_index bs 0))) (stray_moved k (n + 1) bs)
  where
    by : (t : Bool) → stray_from (k + (n + 1)) bs ≡ option_map (λ i. k + i) (stray_from (n + 1) bs)
        → cond t (Some (k + n)) (stray_from ((k + n) + 1) bs) ≡ option_map (λ i. k + i) (cond t (Some n) (stray_from (n + 1) bs))
    by true i = refl
    by false i = ap (λ (m : ℕ). stray_from m bs) (omega arith) ∙ i

pub column_of : (k : ℕ) (bs : List ℕ) (o : Option ℕ) → stray_from 0 bs ≡ o → stray_column k bs ≡ unwrap_or (option_map (λ i. k + i) o) k
column_of k bs o e =
    let m : stray_from k bs ≡ stray_from (k + 0) bs = ap (λ (n : ℕ). stray_from n bs) (omega arith) in
    ap (λ (x : Option ℕ). unwrap_or x k) (m ∙ stray_moved k 0 bs ∙ ap (λ (x : Option ℕ). option_map (λ i. k + i) x) e)
