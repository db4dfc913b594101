-- What a place less does to the holders of each object, and what is written down of it.
use Rattle.std.proofs.Common.{◌≡◌, refl, sym, ap, ◌∙◌, arith, inl, inr, eqb-true, ℕ, zero, suc, Bool, true, false, cond, not, eqb, ◌&&◌, ◌||◌, ◌+◌, ◌<◌, ◌≤◌, ◌⊎◌, List, [], ◌∷◌, length, get_or, drop}
use Rattle.std.proofs.lemmas.Grind.{common_steps}
use Rattle.com_refs_books.specs.Changes.{Books, held_outside}
use Rattle.com_refs_books.specs.Counting.{sum_below, count_if}
use Rattle.com_refs_books.specs.Ends.{stays, ends}
use Rattle.com_refs_holders.specs.Places.{Counts, OneLess, OneMore, locals_of}
use Rattle.com_refs_holders.specs.Tables.{Tables, books_of, direct_in}
use Rattle.com_model.specs.Lists.{is_member}
use Rattle.com_reference_moves.specs.declared.moves.Move.{Move}
use Rattle.com_refs.specs.Counts.{holders_of, outside_of}
use Rattle.com_refs.specs.Totals.{Totals}
use Rattle.com_refs.proofs.Ends.{holds-kept, holds-same}
use Rattle.com_refs_rows.specs.Moving.{plus, AllBelow, Ended, Touches}
use Rattle.com_refs_rows.proofs.Placed.{EndedSome, below_at, falls_one, same_counts}

-- ---- one place less

none-of : (b : Bool) → count_if (b && false) ≡ 0
none-of true = refl
none-of false = refl

pub unlike : (x o : ℕ) → (x ≡ o → ⊥) → eqb x o ≡ false
unlike x o n = elim (eqb x o) as (λ b. eqb x o ≡ b → b ≡ false) [ true ↦ λ e. absurd (n (eqb-true x o e)) | false ↦ λ e. refl ] refl

clash : false ≡ true → ⊥
clash e = cc

module _ (n : ℕ) (before later : ℕ → ℕ → ℕ) (t u : Tables) (a o : ℕ) (owned : Bool) (less : OneLess t u a o owned) (was : Totals n before t) (now : Totals n later u)
    (rests : ends n before (books_of t) ≡ books_of t) (books : books_of u ≡ ends n later (books_of t)) where
  other-direct : (x : ℕ) → (x ≡ o → ⊥) → direct_in u x ≡ direct_in t x
  other-direct x ne =
      let none : count_if (owned && eqb x o) ≡ 0 = ap (λ (b : Bool). count_if (owned && b)) (unlike x o ne) ∙ none-of owned in
      omega (arith, none, less.direct x)

  other-locals : (x : ℕ) → (x ≡ o → ⊥) → locals_of x u.proxies ≡ locals_of x t.proxies
  other-locals x ne =
      let none : count_if (not owned && eqb x o) ≡ 0 = ap (λ (b : Bool). count_if (not owned && b)) (unlike x o ne) ∙ none-of (not owned) in
      omega (arith, none, less.all_elsewhere x)

  other-total : (x : ℕ) → (x ≡ o → ⊥) → sum_below n (λ c. later c x) ≡ sum_below n (λ c. before c x)
  other-total x ne = omega (arith, was.total x, now.total x, other-direct x ne, other-locals x ne)

  stays-as : (x : ℕ) → stays n before (books_of t) x ≡ (books_of t).live x
  unfolding ends
  stays-as x = ap (λ (b : Books). b.live x) rests

  stays-still : (x : ℕ) → (x ≡ o → ⊥) → stays n later (books_of t) x ≡ (books_of t).live x
  stays-still x ne = ap (λ (k : ℕ). (books_of t).live x && not (eqb (k + held_outside (books_of t) x) 0)) (other-total x ne) ∙ stays-as x

  other-live : (x : ℕ) → (x ≡ o → ⊥) → (books_of u).live x ≡ (books_of t).live x
  unfolding ends
  other-live x ne = ap (λ (b : Books). b.live x) books ∙ stays-still x ne

  other-outside : (x : ℕ) → (x ≡ o → ⊥) → (books_of t).live x ≡ true → held_outside (books_of u) x ≡ held_outside (books_of t) x
  unfolding ends
  other-outside x ne e =
      let held : held_outside (ends n later (books_of t)) x ≡ held_outside (books_of t) x =
      omega (arith, holds-kept (stays n later (books_of t)) x (stays-still x ne ∙ e) (books_of t).packets, holds-same (stays n later (books_of t)) x (books_of t).cookies) in
      ap (λ (b : Books). held_outside b x) books ∙ held

  -- The holders of every other object stay.
  pub others-held : (x : ℕ) → (x ≡ o → ⊥) → holders_of u x ≡ holders_of t x
  others-held x ne =
      let direct : direct_in u x ≡ direct_in t x = other-direct x ne in
      let locals : locals_of x u.proxies ≡ locals_of x t.proxies = other-locals x ne in
      let outside : (books_of t).live x ≡ true → held_outside (books_of u) x ≡ held_outside (books_of t) x = other-outside x ne in
      ap (λ (v : Bool). cond v (direct_in u x + outside_of u x) (direct_in u x)) (other-live x ne)
      ∙ elim ((books_of t).live x) as (λ v. (books_of t).live x ≡ v → cond v (direct_in u x + outside_of u x) (direct_in u x) ≡ cond v (direct_in t x + outside_of t x) (direct_in t x)) [
        | true ↦ λ e. omega (arith, direct, locals, outside e)
        | false ↦ λ e. direct
      ] refl

-- ---- what is written down

same-number : (x : ℕ) → eqb x x ≡ true
same-number x = grind (arith, common_steps)

none-or-some : (x : ℕ) → (x ≡ 0) ⊎ (0 < x)
none-or-some zero = inl refl
none-or-some (suc x) = inr (omega arith)

pub touches-more : (t u : Tables) (xs : List ℕ) → ((o : ℕ) → holders_of t o ≤ holders_of u o) → Touches t u xs xs
touches-more t u xs more = record {
  kept = λ o m. m;
  all = λ o some none. let le : holders_of t o ≤ holders_of u o = more o in absurd (omega (arith, some, none, le));
}

pub touches-then : (t v u : Tables) (xs ys zs : List ℕ) → Touches t v xs ys → Touches v u ys zs → Touches t u xs zs
touches-then t v u xs ys zs p q = record {
  kept = λ o m. q.kept o (p.kept o m);
  all = λ o some none. elim (none-or-some (holders_of v o)) [
    | inl e ↦ q.kept o (p.all o some e)
    | inr m ↦ q.all o m none
  ];
}

-- One object may have lost its last holder, and was written down where it did.
pub touches-one : (t u : Tables) (o : ℕ) (lost : Bool) (xs ys : List ℕ) → ((x : ℕ) → (x ≡ o → ⊥) → holders_of u x ≡ holders_of t x) → (holders_of u o ≡ 0 → lost ≡ true)
    → ((x : ℕ) → is_member x ys ≡ (is_member x xs || (lost && eqb x o))) → Touches t u xs ys
touches-one t u o lost xs ys others last members = record {
  kept = λ x m. members x ∙ ap (λ (b : Bool). b || (lost && eqb x o)) m;
  all = λ x some none. elim (eqb x o) as (λ b. eqb x o ≡ b → is_member x ys ≡ true) [
    | true ↦ λ e.
        let same : x ≡ o = eqb-true x o e in
        let gone : lost ≡ true = last (sym (ap (λ (k : ℕ). holders_of u k) same) ∙ none) in
        members x ∙ ap (λ (b : Bool). is_member x xs || (b && eqb x o)) gone ∙ ap (λ (b : Bool). is_member x xs || b) e ∙ or-true (is_member x xs)
    | false ↦ λ e. absurd (absent x e some none)
  ] refl;
} where
  or-true : (b : Bool) → (b || true) ≡ true
  or-true true = refl
  or-true false = refl

  differ : (x : ℕ) → eqb x o ≡ false → x ≡ o → ⊥
  differ x e q = clash (sym e ∙ ap (λ (k : ℕ). eqb k o) q ∙ same-number o)

  absent : (x : ℕ) → eqb x o ≡ false → 0 < holders_of t x → holders_of u x ≡ 0 → ⊥
  absent x e some none = let same : holders_of u x ≡ holders_of t x = others x (differ x e) in omega (arith, some, none, same)

-- Those that lost their last holder by the first of a list of moves.
abbrev pub TouchedSome : List Move → (t u : Tables) → (xs ys : List ℕ) → Type 0
TouchedSome ms t u xs ys = (n : ℕ) (later : ℕ → ℕ → ℕ) → AllBelow n ms → Counts n (plus later ms) t → Touches t u xs ys

pub touched-none : (ms : List Move) (t : Tables) (xs : List ℕ) → TouchedSome ms t t xs xs
touched-none ms t xs n later below counts = touches-more t t xs (λ o. omega arith)

pub touched-next : (ms : List Move) (k : ℕ) (d : Move) (t v u : Tables) (xs ys zs : List ℕ) → k < length ms → EndedSome ms k t v → TouchedSome ms t v xs ys
    → ((n : ℕ) (later : ℕ → ℕ → ℕ) → (get_or ms k d).apartment < n → Counts n (plus later (get_or ms k d ∷ [])) v → Touches v u ys zs)
    → TouchedSome ms t u xs zs
touched-next ms k d t v u xs ys zs within some before one n later below counts =
    let ended : Ended n (plus later (drop k ms)) t v = some n later below counts in
    touches-then t v u xs ys zs (before n later below counts)
    (one n (plus later (drop (k + 1) ms)) (below_at n ms k d within below)
    (same_counts n (plus later (drop k ms)) (plus (plus later (drop (k + 1) ms)) (get_or ms k d ∷ [])) v (λ c x. falls_one ms k d later within c x) ended.counts))

-- ---- one place more

pub more-held : (t u : Tables) (a o : ℕ) (owned : Bool) (x : ℕ) → OneMore t u a o owned → books_of u ≡ books_of t → holders_of t x ≤ holders_of u x
more-held t u a o owned x more books =
    let outside : held_outside (books_of u) x ≡ held_outside (books_of t) x = ap (λ (b : Books). held_outside b x) books in
    let live : (books_of u).live x ≡ (books_of t).live x = ap (λ (b : Books). b.live x) books in
    above ((books_of t).live x) ((books_of u).live x) (sym live) _ _ _ _ (omega (arith, more.direct x)) (omega (arith, more.direct x, more.all_elsewhere x, outside))
  where
    above : (b c : Bool) → b ≡ c → (p q r s : ℕ) → q ≤ s → p ≤ r → cond b p q ≤ cond c r s
    above true true e p q r s l m = m
    above true false e p q r s l m = absurd (clash (sym e))
    above false true e p q r s l m = absurd (clash e)
    above false false e p q r s l m = l
