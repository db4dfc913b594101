-- Between entries the books are at rest: nothing is to be given back and nothing is to be cut. An entry that moves no reference
-- leaves them, and the dying order.
use Rattle.std.proofs.Common.{◌≡◌, refl, sym, ◌∙◌, ap, arith, ℕ, zero, suc, ◌-◌, Bool, true, false, not, ◌==◌, ◌&&◌, ◌||◌, if◌then◌else◌, List, [], ◌∷◌, ◌++◌, filter, eqb-true}
use Rattle.std.proofs.lemmas.Grind.{common_steps}
use Rattle.com_refs_books.specs.Counting.{sum_below}
use Rattle.com_model.specs.Lists.{is_member, one_to}
use Rattle.com_refs_books.specs.Changes.{Books, given_back, cut}
use Rattle.com_model.specs.Dying.{fallen_more}
use Rattle.com_state.specs.Resting.{Rested}

none-given : (n : ℕ) (f : ℕ → ℕ) → ((a : ℕ) → f a ≡ 0) → sum_below n f ≡ 0
none-given zero f p = refl
none-given (suc n) f p = let x : sum_below n f ≡ 0 = none-given n f p in let y : f n ≡ 0 = p n in omega (arith, x, y)

zero-where : (x y : ℕ) → (x ≡ 0 → y ≡ 0) → (if x == 0 then y else 0) ≡ 0
zero-where x y p = elim (x == 0) as (λ b. x == 0 ≡ b → (if b then y else 0) ≡ 0) [
  | true ↦ λ e. p (eqb-true x 0 e)
  | false ↦ λ e. refl
] refl

kept-where : (x y : ℕ) → (x ≡ 0 → y ≡ 0) → (if x == 0 then 0 else y) ≡ y
kept-where x y p = elim (x == 0) as (λ b. x == 0 ≡ b → (if b then 0 else y) ≡ y) [
  | true ↦ λ e. sym (p (eqb-true x 0 e))
  | false ↦ λ e. refl
] refl

nothing-less : (x y : ℕ) → y ≡ 0 → x - y ≡ x
nothing-less x y e = omega (arith, e)

pub given-rested : (n : ℕ) (pl : ℕ → ℕ → ℕ) (holders : ℕ → ℕ) (b : Books) → Rested pl holders b → given_back n pl b ≡ b
given-rested n pl holders b p = λ i. record {
  stub = λ o k. nothing-less (b.stub o k) (sum_below n (λ a. if pl a o == 0 then b.proxy a o k else 0)) (none-given n (λ a. if pl a o == 0 then b.proxy a o k else 0) (λ a. zero-where (pl a o) (b.proxy a o k) (p.given a o k))) i;
  proxy = λ a o k. kept-where (pl a o) (b.proxy a o k) (p.given a o k) i;
  packets = b.packets;
  cookies = b.cookies;
  live = b.live;
  arguments = b.arguments;
  result = b.result;
}

-- What is connected stays so where it has a holder.
pub live-rested : (x h : Bool) → (x ≡ true → h ≡ false) → ((false || x) && (true && (true && not h))) ≡ x
live-rested true h p = ap not (p refl)
live-rested false h p = refl

uncut : (x : Bool) (y : ℕ) → (x ≡ false → y ≡ 0) → (if x then y else 0) ≡ y
uncut true y p = refl
uncut false y p = sym (p refl)

same-live : (pl : ℕ → ℕ → ℕ) (holders : ℕ → ℕ) (b : Books) → Rested pl holders b → cut b.live b ≡ b
same-live pl holders b p = λ i. record {
  stub = λ o k. uncut (b.live o) (b.stub o k) (p.stub o k) i;
  proxy = λ a o k. uncut (b.live o) (b.proxy a o k) (p.proxy a o k) i;
  packets = p.packets i;
  cookies = p.cookies i;
  live = b.live;
  arguments = b.arguments;
  result = b.result;
}

pub cut-rested : (pl : ℕ → ℕ → ℕ) (holders : ℕ → ℕ) (b : Books) (live : ℕ → Bool) → Rested pl holders b → ((o : ℕ) → live o ≡ b.live o) → cut live b ≡ b
cut-rested pl holders b live p q = ap (λ (f : ℕ → Bool). cut f b) (λ i o. q o i) ∙ same-live pl holders b p

-- Where each dying object has fallen, none falls.
none-pass : (f : ℕ → Bool) (xs : List ℕ) → ((x : ℕ) → f x ≡ false) → filter f xs ≡ []
none-pass f [] p = refl
none-pass f (x ∷ xs) p = rw (p x) (none-pass f xs p)

fell : (x m : Bool) → (x ≡ true → m ≡ true) → (x && not m) ≡ false
fell true m p = ap not (p refl)
fell false m p = refl

append-none : (xs ys : List ℕ) → ys ≡ [] → xs ++ ys ≡ xs
append-none xs ys e = grind (arith, common_steps, e)

front-same : (xs ys zs : List ℕ) → xs ≡ zs → xs ++ ys ≡ zs ++ ys
front-same xs ys zs e = ap (λ (x : List ℕ). x ++ ys) e

pub none-fall : (dying : ℕ → Bool) (n : ℕ) (before : List ℕ) → filter dying before ≡ before → ((o : ℕ) → dying o ≡ true → is_member o before ≡ true) → fallen_more dying n before ≡ before
none-fall dying n before q p =
    front-same (filter dying before) (filter (λ o. dying o && not (is_member o before)) (one_to n)) before q
    ∙ append-none before (filter (λ o. dying o && not (is_member o before)) (one_to n))
    (none-pass (λ o. dying o && not (is_member o before)) (one_to n) (λ o. fell (dying o) (is_member o before) (p o)))
