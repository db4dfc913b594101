-- A table of places that is what the tables count: what it tells, and how it moves with them.
use Rattle.std.proofs.Common.{◌≡◌, ℕ, zero, suc, Bool, true, false, eqb, cond, not, ◌&&◌, ◌+◌, ◌<◌, ◌≤◌, List, [], ◌∷◌, refl, sym, ap, ◌∙◌, arith, eqb-true, inl, inr}
use Rattle.std.proofs.lemmas.Bool.{cases_lt}
use Rattle.std.proofs.lemmas.Grind.{common_steps}
use Rattle.com_proxy.specs.declared.ProxyRow.{ProxyRow}
use Rattle.com_refs_books.specs.Counting.{sum_below, count_if}
use Rattle.com_refs_books.proofs.Sums.{sum-same, sum-changed, sum-split, sum-nothing}
use Rattle.com_refs_holders.specs.Tables.{Tables, owns_of}
use Rattle.com_refs_holders.specs.Places.{Counts, OneMore, OneLess, SamePlaces, places_in, places_of, locals_of, local_at, local_for, distinct}
use Rattle.com_refs_holders.specs.Stands.{Tells}
use Rattle.com_refs_holders.proofs.Rowed.{places_none, free_places}
use Rattle.com_refs.specs.Totals.{Totals}

-- ---- what it tells

pub counts_tell : (n : ℕ) (places : ℕ → ℕ → ℕ) (t : Tables) → distinct t.proxies ≡ true → Counts n places t → Tells n places t
counts_tell n places t d c = record {
  none = λ a o w z. elim (cases_lt a n) [
    | inl l ↦ places_none t.proxies a o (sym (c.elsewhere a o l w) ∙ z)
    | inr l ↦ places_none t.proxies a o (c.past a o l)
  ];
  some = λ a o l w f. c.elsewhere a o l w ∙ free_places t.proxies a o d f;
}

sum-add : (n : ℕ) (f g : ℕ → ℕ) → sum_below n (λ a. f a + g a) ≡ sum_below n f + sum_below n g
sum-add zero f g = refl
sum-add (suc n) f g = omega (arith, sum-add n f g)

row-else : (r : ProxyRow) (a x : ℕ) → (a ≡ r.apartment → ⊥) → local_at a x r ≡ 0
row-else r a x n = grind (arith, common_steps, n)

row-sum : (n x : ℕ) (r : ProxyRow) → (n ≤ r.apartment → local_at r.apartment x r ≡ 0) → sum_below n (λ a. local_at a x r) ≡ local_for x r
row-sum n x r past =
    let here : local_at r.apartment x r ≡ local_for x r = grind (arith, common_steps) in
    elim (cases_lt r.apartment n) [
      | inl l ↦
          let one : sum_below n (λ a. local_at a x r) + 0 ≡ sum_below n (λ a. 0) + local_at r.apartment x r = sum-changed n r.apartment (λ a. 0) (λ a. local_at a x r) l (λ j other. sym (row-else r j x other)) in
          omega (arith, one, here, sum-nothing n (λ a. 0) (λ k. refl))
      | inr l ↦
          let none : sum_below n (λ a. local_at a x r) ≡ sum_below n (λ a. 0) = sum-same n (λ a. local_at a x r) (λ a. 0) (λ a h. row-else r a x (λ e. omega (arith, h, l, e))) in
          omega (arith, none, here, past l, sum-nothing n (λ a. 0) (λ k. refl))
    ]

rows-sum : (n x : ℕ) (rs : List ProxyRow) → ((a : ℕ) → n ≤ a → places_of a x rs ≡ 0) → sum_below n (λ a. places_of a x rs) ≡ locals_of x rs
rows-sum n x [] past = sum-nothing n (λ a. 0) (λ k. refl)
rows-sum n x (r ∷ rs) past =
    let parts : (a : ℕ) → places_of a x (r ∷ rs) ≡ local_at a x r + places_of a x rs = λ a. grind (arith, common_steps) in
    let whole : locals_of x (r ∷ rs) ≡ local_for x r + locals_of x rs = grind (arith, common_steps) in
    let split : sum_below n (λ a. places_of a x (r ∷ rs)) ≡ sum_below n (λ a. local_at a x r) + sum_below n (λ a. places_of a x rs) = sum-same n (λ a. places_of a x (r ∷ rs)) (λ a. local_at a x r + places_of a x rs) (λ a h. parts a) ∙ sum-add n (λ a. local_at a x r) (λ a. places_of a x rs) in
    let first : sum_below n (λ a. local_at a x r) ≡ local_for x r = row-sum n x r (λ l. omega (arith, past r.apartment l, parts r.apartment)) in
    let rest : sum_below n (λ a. places_of a x rs) ≡ locals_of x rs = rows-sum n x rs (λ a l. omega (arith, past a l, parts a)) in
    omega (arith, split, first, rest, whole)

pub counts_total : (n : ℕ) (places : ℕ → ℕ → ℕ) (t : Tables) → ((a o : ℕ) → owns_of t.objects o a ≡ true → places_in t a o ≡ 0) → Counts n places t → Totals n places t
counts_total n places t owned c = record {
  total = λ x.
      let kept : sum_below n (λ a. cond (owns_of t.objects x a) 0 (places a x)) ≡ sum_below n (λ a. places_in t a x) =
      sum-same n (λ a. cond (owns_of t.objects x a) 0 (places a x)) (λ a. places_in t a x) (λ a l. elim (owns_of t.objects x a) as (λ w. owns_of t.objects x a ≡ w → cond w 0 (places a x) ≡ places_in t a x) [
        | true ↦ λ w. sym (owned a x w)
        | false ↦ λ w. c.elsewhere a x l w
      ] refl) in
      omega (arith, sum-split n (λ a. owns_of t.objects x a) (λ a. places a x), c.direct x, kept, rows-sum n x t.proxies (λ a l. c.past a x l));
}

-- ---- how it moves

module _ (n : ℕ) (places later : ℕ → ℕ → ℕ) (t u : Tables) where
  pub counts_same : Counts n places t → SamePlaces t u → Counts n places u
  counts_same c s = record {
    direct = λ x. sum-same n (λ a. cond (owns_of u.objects x a) (places a x) 0) (λ a. cond (owns_of t.objects x a) (places a x) 0) (λ a l. ap (λ (w : Bool). cond w (places a x) 0) (s.owns x a)) ∙ c.direct x ∙ sym (s.direct x);
    elsewhere = λ a x l w. c.elsewhere a x l (sym (s.owns x a) ∙ w) ∙ sym (s.elsewhere a x);
    past = λ a x l. s.elsewhere a x ∙ c.past a x l;
  }

  row-more : (w owned e : Bool) (p q : ℕ) → (e ≡ true → w ≡ owned) → q ≡ p + count_if e → cond w q 0 ≡ cond w p 0 + count_if (owned && e)
  row-more true owned true p q h g = let o : true ≡ owned = h refl in rw (← o) g
  row-more true owned false p q h g = grind (arith, common_steps, g)
  row-more false owned true p q h g = let o : false ≡ owned = h refl in rw (← o) refl
  row-more false owned false p q h g = grind (arith, common_steps)

  pub counts_more : (a o : ℕ) (owned : Bool) → Counts n places t → OneMore t u a o owned → owns_of t.objects o a ≡ owned → a < n → ((c x : ℕ) → later c x ≡ places c x + count_if (eqb c a && eqb x o)) → Counts n later u
  counts_more a o owned c m w l h = record {
    direct = λ x.
        let others : (j : ℕ) → (j ≡ a → ⊥) → cond (owns_of t.objects x j) (places j x) 0 ≡ cond (owns_of u.objects x j) (later j x) 0 = λ j other. let same : later j x ≡ places j x = grind (arith, common_steps, h j x, other) in rw (m.owns x j, same) refl in
        let here : cond (owns_of u.objects x a) (later a x) 0 ≡ cond (owns_of t.objects x a) (places a x) 0 + count_if (owned && eqb x o) =
        ap (λ (w : Bool). cond w (later a x) 0) (m.owns x a) ∙ row-more (owns_of t.objects x a) owned (eqb x o) (places a x) (later a x) (λ e. let same : x ≡ o = eqb-true x o e in rw same w) (h a x ∙ grind (arith, common_steps)) in
        let sum = sum-changed n a (λ j. cond (owns_of t.objects x j) (places j x) 0) (λ j. cond (owns_of u.objects x j) (later j x) 0) l others in
        omega (arith, sum, here, c.direct x, m.direct x);
    elsewhere = λ d x k v. h d x ∙ ap (λ (p : ℕ). p + count_if (eqb d a && eqb x o)) (c.elsewhere d x k (sym (m.owns x d) ∙ v)) ∙ ap (λ (p : ℕ). places_in t d x + p) (tests d x v) ∙ sym (m.elsewhere d x);
    past = λ d x k. m.elsewhere d x ∙ (let z : places_in t d x ≡ 0 = c.past d x k in let other : eqb d a ≡ false = grind (arith, common_steps, k, l) in grind (arith, common_steps, z, other));
  } where
    tests : (d x : ℕ) → owns_of u.objects x d ≡ false → count_if (eqb d a && eqb x o) ≡ count_if (not owned && (eqb d a && eqb x o))
    tests d x v = elim (eqb d a && eqb x o) as (λ y. eqb d a && eqb x o ≡ y → count_if y ≡ count_if (not owned && y)) [
      | true ↦ λ y.
          let ed : d ≡ a = eqb-true d a (grind (arith, common_steps, y)) in
          let ex : x ≡ o = eqb-true x o (grind (arith, common_steps, y)) in
          let none : owned ≡ false = sym w ∙ sym (m.owns o a) ∙ rw (← ed, ← ex) v in
          rw none refl
      | false ↦ λ y. grind (arith, common_steps)
    ] refl

  row-less : (w owned e : Bool) (p q : ℕ) → (e ≡ true → w ≡ owned) → q + count_if e ≡ p → cond w q 0 + count_if (owned && e) ≡ cond w p 0
  row-less true owned true p q h g = let o : true ≡ owned = h refl in rw (← o) g
  row-less true owned false p q h g = grind (arith, common_steps, g)
  row-less false owned true p q h g = let o : false ≡ owned = h refl in rw (← o) refl
  row-less false owned false p q h g = grind (arith, common_steps)

  pub counts_less : (a o : ℕ) (owned : Bool) → Counts n places t → OneLess t u a o owned → owns_of t.objects o a ≡ owned → a < n → ((c x : ℕ) → later c x + count_if (eqb c a && eqb x o) ≡ places c x) → Counts n later u
  counts_less a o owned c m w l h = record {
    direct = λ x.
        let others : (j : ℕ) → (j ≡ a → ⊥) → cond (owns_of t.objects x j) (places j x) 0 ≡ cond (owns_of u.objects x j) (later j x) 0 = λ j other. let same : later j x ≡ places j x = grind (arith, common_steps, h j x, other) in rw (m.owns x j, same) refl in
        let here : cond (owns_of u.objects x a) (later a x) 0 + count_if (owned && eqb x o) ≡ cond (owns_of t.objects x a) (places a x) 0 =
        ap (λ (w : Bool). cond w (later a x) 0 + count_if (owned && eqb x o)) (m.owns x a) ∙ row-less (owns_of t.objects x a) owned (eqb x o) (places a x) (later a x) (λ e. let same : x ≡ o = eqb-true x o e in rw same w) (let g : later a x + count_if (eqb a a && eqb x o) ≡ places a x = h a x in grind (arith, common_steps, g)) in
        let sum = sum-changed n a (λ j. cond (owns_of t.objects x j) (places j x) 0) (λ j. cond (owns_of u.objects x j) (later j x) 0) l others in
        omega (arith, sum, here, c.direct x, m.direct x);
    elsewhere = λ d x k v.
        let before : places d x ≡ places_in t d x = c.elsewhere d x k (sym (m.owns x d) ∙ v) in
        let after : places_in u d x + count_if (eqb d a && eqb x o) ≡ places_in t d x = ap (λ (p : ℕ). places_in u d x + p) (tests d x v) ∙ m.elsewhere d x in
        omega (arith, before, after, h d x);
    past = λ d x k. omega (arith, m.elsewhere d x, c.past d x k);
  } where
    tests : (d x : ℕ) → owns_of u.objects x d ≡ false → count_if (eqb d a && eqb x o) ≡ count_if (not owned && (eqb d a && eqb x o))
    tests d x v = elim (eqb d a && eqb x o) as (λ y. eqb d a && eqb x o ≡ y → count_if y ≡ count_if (not owned && y)) [
      | true ↦ λ y.
          let ed : d ≡ a = eqb-true d a (grind (arith, common_steps, y)) in
          let ex : x ≡ o = eqb-true x o (grind (arith, common_steps, y)) in
          let none : owned ≡ false = sym w ∙ sym (m.owns o a) ∙ rw (← ed, ← ex) v in
          rw none refl
      | false ↦ λ y. grind (arith, common_steps)
    ] refl
