-- Where the faults of a line stand: at its words from an index on, or they are of a kind that stands elsewhere.
use Rattle.std.proofs.Common.{Option, None, ◌≡◌, ℕ, zero, suc, ◌-◌, ◌≤◌, ◌<◌, ◌⊎◌, inl, inr, Bool, true, false, cond, List, [], ◌∷◌, ◌++◌, length, Some, Result, Ok, Err, refl, sym, ap, subst, ◌∙◌, arith, nat_lt}
use Rattle.std.specs.Prelude.{slice_get}
use Rattle.std.proofs.lemmas.Bool.{ltb-true, ltb-false}
use Rattle.com_text.specs.declared.word.Sort.{Sort}
use Rattle.com_text.specs.declared.word.Sort.TheVariants as sorts
use Rattle.com_text.specs.Words.{WordAt}
use Rattle.com_read_operands.specs.declared.faults.Fault.{Fault}
use Rattle.com_read_operands.specs.Reading.{◌>>=◌, fault_at, character_at, missing_at}

-- the column of a word's first byte outside the characters is from a column on
abbrev pub IsSorted : ℕ → Sort → Type 0
IsSorted column (sorts.Stray c) = column ≤ c
IsSorted column (sorts.Remark c) = column ≤ c
IsSorted column _ = Unit {0}

-- a word stands in a line, at a column or behind it
pub record IsFrom (n m : ℕ) (w : WordAt) : Type 0 where
  pub line : w.line ≡ n
  pub column : m ≤ w.column
  pub sort : IsSorted m w.sort

-- a fault stands so, or it is a missing word's in this line, or a skip's
abbrev pub IsOut : ℕ → ℕ → Fault → Type 0
IsOut line column f = ((f.number ≡ 4) × ((f.line ≡ line) ⊎ (f.column ≡ 1))) ⊎ ((f.number ≡ 11) ⊎ ((f.line ≡ line) × (column ≤ f.column)))

-- The words of a line, cut in two: those behind stand in the line from a column on.
pub record Cut : Type 0 where
  pub p : List WordAt
  pub a : List WordAt
  pub line : ℕ
  pub column : ℕ
  pub from : (k : ℕ) (w : WordAt) → slice_get a k ≡ Some w → IsFrom line column w
  pub lined : (k : ℕ) (w : WordAt) → slice_get (p ++ a) k ≡ Some w → w.line ≡ line

-- each fault stands behind the cut
pub record Outside {A : Type 0} (x : Cut) (r : Result A Fault) : Type 0 where
  pub of : (f : Fault) → r ≡ Err f → IsOut x.line x.column f

-- What is read at an index: the same in front of the cut, and if it is behind, its faults are.
pub record Reads {A : Type 0} (x : Cut) (k : ℕ) (short long : Result A Fault) : Type 0 where
  pub same : k < length x.p → long ≡ short
  pub late : length x.p ≤ k → Outside x long

-- What is read from an index on: each fault is that of the words in front of the cut, or stands behind it.
pub record Told {A : Type 0} (x : Cut) (k : ℕ) (short long : Result A Fault) : Type 0 where
  pub told : (f : Fault) → long ≡ Err f → (short ≡ Err f) ⊎ IsOut x.line x.column f
  pub late : length x.p ≤ k → Outside x long

pub okay : {A : Type 0} (x : Cut) (y : A) → Outside x (Ok y)
okay x y = record { of = λ f e. absurd cc }

pub wrong : {A : Type 0} (x : Cut) (n : ℕ) (w : WordAt) → IsFrom x.line x.column w → Outside {A = A} x (Err (fault_at n w))
wrong x n w h = record { of = λ f e. let q : fault_at n w ≡ f = cc in subst (IsOut x.line x.column) q (inr (inr (h.line, h.column))) }

missing : {A : Type 0} (x : Cut) (g : Fault) → g.number ≡ 4 → (g.line ≡ x.line) ⊎ (g.column ≡ 1) → Outside {A = A} x (Err g)
missing x g h k = record { of = λ f e. let q : g ≡ f = cc in subst (IsOut x.line x.column) q (inl (h, k)) }

-- a word that is missing behind another one of the line
pub missing_word : {A : Type 0} (x : Cut) (o : Option WordAt) → ((w : WordAt) → o ≡ Some w → w.line ≡ x.line) → Outside {A = A} x (Err (missing_at o))
missing_word x None h = missing x (missing_at None) refl (inr refl)
missing_word x (Some w) h = missing x (missing_at (Some w)) refl (inl (h w refl))

pub strays : {A : Type 0} (x : Cut) (w : WordAt) (c : ℕ) → IsFrom x.line x.column w → x.column ≤ c → Outside {A = A} x (Err (character_at w c))
strays x w c h low = record { of = λ f e. let q : character_at w c ≡ f = cc in subst (IsOut x.line x.column) q (inr (inr (h.line, low))) }

pub part : {A : Type 0} (x : Cut) (b : Bool) (r s : Result A Fault) → Outside x r → Outside x s → Outside x (cond b r s)
part x true r s h k = h
part x false r s h k = k

pub followed : {A B : Type 0} (x : Cut) (r : Result A Fault) (f : A → Result B Fault) → Outside x r → ((y : A) → r ≡ Ok y → Outside x (f y)) → Outside x (r >>= f)
followed x (Ok y) f h k = k y refl
followed x (Err e) f h k = record { of = λ g q. h.of g (let s : e ≡ g = cc in ap (λ (v : Fault). Err v) s) }

pub next : {A B : Type 0} (x : Cut) (k i : ℕ) (r s : Result A Fault) (f g : A → Result B Fault) → k ≤ i → Reads x i r s → ((y : A) → s ≡ Ok y → Told x i (f y) (g y)) → Told x k (r >>= f) (s >>= g)
next {A} {B} x k i r s f g le h go = record { told = by (nat_lt i (length x.p)) refl s refl; late = λ l. behind (omega arith) s refl }
  where
    behind : length x.p ≤ i → (t : Result A Fault) → s ≡ t → Outside x (t >>= g)
    behind l (Ok y) e = (go y e).late l
    behind l (Err v) e = record { of = λ u q. (h.late l).of u (e ∙ (let w : v ≡ u = cc in ap (λ (z : Fault). Err z) w)) }

    by : (b : Bool) → nat_lt i (length x.p) ≡ b → (t : Result A Fault) → s ≡ t → (u : Fault) → (t >>= g) ≡ Err u → ((r >>= f) ≡ Err u) ⊎ IsOut x.line x.column u
    by true q (Ok y) e u d = rewritten (sym (h.same (ltb-true i (length x.p) q)) ∙ e) ((go y e).told u d)
      where
        rewritten : r ≡ Ok y → (f y ≡ Err u) ⊎ IsOut x.line x.column u → ((r >>= f) ≡ Err u) ⊎ IsOut x.line x.column u
        rewritten is (inl m) = inl (ap (λ (z : Result A Fault). z >>= f) is ∙ m)
        rewritten is (inr m) = inr m
    by true q (Err v) e u d =
        let is : r ≡ Err v = sym (h.same (ltb-true i (length x.p) q)) ∙ e in
        let w : v ≡ u = cc in
        inl (ap (λ (z : Result A Fault). z >>= f) is ∙ ap (λ (z : Fault). Err z) w)
    by false q t e u d = inr ((behind (ltb-false i (length x.p) q) t e).of u d)

-- the same index, for what is made of a word and nothing behind it
pub also : {A B : Type 0} (x : Cut) (i : ℕ) (r s : Result A Fault) (f g : A → Result B Fault) → Reads x i r s → ((y : A) → s ≡ Ok y → Reads x i (f y) (g y)) → Reads x i (r >>= f) (s >>= g)
also {A} {B} x i r s f g h go = record { same = λ l. by l s refl; late = λ l. followed x s g (h.late l) (λ y e. (go y e).late l) }
  where
    by : i < length x.p → (t : Result A Fault) → s ≡ t → (s >>= g) ≡ (r >>= f)
    by l (Ok y) e =
        let is : r ≡ Ok y = sym (h.same l) ∙ e in
        ap (λ (z : Result A Fault). z >>= g) e ∙ ((go y e).same l ∙ sym (ap (λ (z : Result A Fault). z >>= f) is))
    by l (Err v) e =
        let is : r ≡ Err v = sym (h.same l) ∙ e in
        ap (λ (z : Result A Fault). z >>= g) e ∙ sym (ap (λ (z : Result A Fault). z >>= f) is)

pub tells : {A : Type 0} (x : Cut) (i : ℕ) (r s : Result A Fault) → Reads x i r s → Told x i r s
tells {A} x i r s h = record { told = λ f e. by (nat_lt i (length x.p)) refl f e; late = h.late }
  where
    by : (b : Bool) → nat_lt i (length x.p) ≡ b → (f : Fault) → s ≡ Err f → (r ≡ Err f) ⊎ IsOut x.line x.column f
    by true q f e = inl (sym (h.same (ltb-true i (length x.p) q)) ∙ e)
    by false q f e = inr ((h.late (ltb-false i (length x.p) q)).of f e)

-- a fault that is known, whatever follows
pub fixed : {A : Type 0} (x : Cut) (i : ℕ) (r : Result A Fault) → (length x.p ≤ i → Outside x r) → Reads x i r r
fixed x i r h = record { same = λ l. refl; late = h }

pub settled : {A : Type 0} (x : Cut) (k : ℕ) (r : Result A Fault) → (length x.p ≤ k → Outside x r) → Told x k r r
settled x k r h = record { told = λ f e. inl e; late = h }

pub branch : {A : Type 0} (x : Cut) (k : ℕ) (b : Bool) (r s t u : Result A Fault) → Told x k r t → Told x k s u → Told x k (cond b r s) (cond b t u)
branch x k true r s t u h l = h
branch x k false r s t u h l = l

pub fork : {A : Type 0} (x : Cut) (i : ℕ) (b : Bool) (r s t u : Result A Fault) → Reads x i r t → Reads x i s u → Reads x i (cond b r s) (cond b t u)
fork x i true r s t u h l = h
fork x i false r s t u h l = l

pub sooner : {A : Type 0} (x : Cut) (k i : ℕ) (r s : Result A Fault) → k ≤ i → Told x i r s → Told x k r s
sooner x k i r s le h = record { told = h.told; late = λ l. h.late (omega arith) }

-- what is made of what was read
pub made : {A B : Type 0} (x : Cut) (k : ℕ) (r s : Result A Fault) (f g : A → B) → Told x k r s → Told x k (r >>= λ y. Ok (f y)) (s >>= λ y. Ok (g y))
made {A} {B} x k r s f g h = record { told = by s refl; late = λ l. followed x s (λ y. Ok (g y)) (h.late l) (λ y e. okay x (g y)) }
  where
    by : (t : Result A Fault) → s ≡ t → (u : Fault) → (t >>= λ y. Ok (g y)) ≡ Err u → ((r >>= λ y. Ok (f y)) ≡ Err u) ⊎ IsOut x.line x.column u
    by (Ok y) e u d = absurd cc
    by (Err v) e u d =
        let w : v ≡ u = cc in
        elim (h.told u (e ∙ ap (λ (z : Fault). Err z) w)) [ inl m ↦ inl (ap (λ (z : Result A Fault). z >>= λ y. Ok (f y)) m) | inr m ↦ inr m ]

pub regrouped : {A B C : Type 0} (x : Cut) (k : ℕ) (r s : Result A Fault) (f f' : A → Result B Fault) (g g' : B → Result C Fault) → Told x k (r >>= λ y. f y >>= g) (s >>= λ y. f' y >>= g') → Told x k ((r >>= f) >>= g) ((s >>= f') >>= g')
regrouped x k (Ok y) (Ok z) f f' g g' h = h
regrouped x k (Ok y) (Err z) f f' g g' h = h
regrouped x k (Err y) (Ok z) f f' g g' h = h
regrouped x k (Err y) (Err z) f f' g g' h = h

-- ---- words

behind_cut : {A : Type 0} (p a : List A) (k : ℕ) → length p ≤ k → slice_get (p ++ a) k ≡ slice_get a (k - length p)
behind_cut [] a k h = let e : k - 0 ≡ k = omega arith in ap (λ (n : ℕ). slice_get a n) (sym e)
behind_cut (y ∷ ys) a zero h = absurd (omega arith)
behind_cut (y ∷ ys) a (suc k) h = let e : suc k - suc (length ys) ≡ k - length ys = omega arith in behind_cut ys a k (omega arith) ∙ ap (λ (n : ℕ). slice_get a n) (sym e)

pub is_from : (x : Cut) (k : ℕ) (w : WordAt) → length x.p ≤ k → slice_get (x.p ++ x.a) k ≡ Some w → IsFrom x.line x.column w
is_from x k w l e = x.from (k - length x.p) w (sym (behind_cut x.p x.a k l) ∙ e)
