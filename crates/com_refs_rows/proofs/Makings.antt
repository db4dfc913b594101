-- An object that is made: nothing held it before, and one place holds it then.
use Rattle.std.proofs.Common.{◌≡◌, ℕ, zero, suc, Bool, true, false, eqb, cond, not, ◌&&◌, ◌+◌, ◌<◌, ◌≤◌, List, [], ◌∷◌, length, refl, sym, ap, ◌∙◌, arith, eqb-true, inl, inr}
use Rattle.std.proofs.lemmas.Bool.{cases_lt, ne_eqb}
use Rattle.std.proofs.lemmas.Grind.{common_steps}
use Rattle.std.specs.Prelude.{slice_index_or}
use Rattle.com_base.specs.declared.value.RefValue.{RefValue}
use Rattle.com_refs_books.specs.Counting.{sum_below, count_if}
use Rattle.com_refs_books.proofs.Sums.{sum-same, sum-changed, sum-nothing}
use Rattle.com_refs_books.specs.Changes.{Books, changed, change, ToProxy, Same, Makes}
use Rattle.com_refs_holders.specs.declared.ObjectRow.{ObjectRow}
use Rattle.com_refs_holders.specs.Places.{Counts, places_in}
use Rattle.com_refs_holders.proofs.Rowed.{places_le}
use Rattle.com_refs_holders.specs.Steps.{made_live}
use Rattle.com_refs_holders.specs.Tables.{Tables, owns_of, direct_in, no_object}
use Rattle.com_refs.specs.Totals.{Totals}
use Rattle.com_refs_rows.specs.Books.{moved_to, AreMade}
use Rattle.com_refs_rows.specs.Moving.{plus}

-- ---- the books

live-beside : (o : ℕ) (b : Books) (w : Bool) (a i : ℕ) → changed (made_live o b) (cond w Same (ToProxy a o i 5)) ≡ made_live o (changed b (cond w Same (ToProxy a o i 5)))
live-beside o b true a i = refl
live-beside o b false a i = refl

pub made_books : (owned : ℕ → ℕ → Bool) (b : Books) (a o i : ℕ) → changed (made_live o b) (change owned (made_live o b) (Makes a o i)) ≡ made_live o (changed b (change owned b (Makes a o i)))
made_books owned b a o i = live-beside o b (owned o a) a i

-- ---- the places

past_objects : (rows : List ObjectRow) (k : ℕ) → length rows ≤ k → slice_index_or rows k no_object ≡ no_object
past_objects [] k h = refl
past_objects (r ∷ rows) zero h = absurd (omega (arith, h))
past_objects (r ∷ rows) (suc k) h = past_objects rows k (omega (arith, h))

no-direct : (t : Tables) (x : ℕ) → length t.objects < x → direct_in t x ≡ 0
no-direct t zero h = refl
no-direct t (suc k) h = ap (λ (r : ObjectRow). r.direct) (past_objects t.objects k (omega (arith, h)))

-- A place more is counted where its apartment and its object are meant.
one-more : (k : ℕ) (p : Bool) → p ≡ false → k + (count_if p + 0) ≡ k
one-more k true e = absurd (cc)
one-more k false e = omega arith

none-either : (v : Bool) → ◌≡◌ {A = ℕ} (cond v 0 0) 0
none-either true = refl
none-either false = refl

self-test : (a : ℕ) (v : Bool) → cond v (count_if (eqb a a)) 0 ≡ count_if v
self-test a true = grind (arith, common_steps)
self-test a false = refl

module _ (n : ℕ) (places : ℕ → ℕ → ℕ) (t u : Tables) (a : ℕ) (r : RefValue) (w : Bool)
    (new : r.object ≡ length t.objects + 1)
    (mine : owns_of u.objects r.object a ≡ w)
    (owns : (x c : ℕ) → x ≤ length t.objects → owns_of u.objects x c ≡ owns_of t.objects x c)
    (direct : (x : ℕ) → direct_in u x ≡ direct_in t x + count_if (w && eqb x r.object))
    (elsewhere : (c x : ℕ) → places_in u c x ≡ places_in t c x + count_if (not w && (eqb c a && eqb x r.object)))
    (totals : Totals n places t) (below : a < n) (made : AreMade (length t.objects) places) (counts : Counts n places t) where
  abbrev later : ℕ → ℕ → ℕ
  later = plus places (moved_to a r ∷ [])

  other : (x : ℕ) → x ≤ length t.objects → eqb x r.object ≡ false
  other x h = ne_eqb x r.object (λ e. omega (arith, h, new, e))

  none-there : (c x : ℕ) → length t.objects < x → places_in t c x ≡ 0
  none-there c x h =
      let all : sum_below n (λ d. places d x) ≡ 0 = sum-nothing n (λ d. places d x) (λ d. made d x h) in
      omega (arith, places_le t.proxies c x, totals.total x, all, no-direct t x h)

  -- an object that was there before
  old-later : (c x : ℕ) → x ≤ length t.objects → later c x ≡ places c x
  old-later c x h = let no : (eqb c a && eqb x r.object) ≡ false = grind (arith, common_steps, other x h) in one-more (places c x) (eqb c a && eqb x r.object) no

  old-direct : (x : ℕ) → x ≤ length t.objects → sum_below n (λ c. cond (owns_of u.objects x c) (later c x) 0) ≡ direct_in u x
  old-direct x h =
      let no : count_if (w && eqb x r.object) ≡ 0 = grind (arith, common_steps, other x h) in
      sum-same n (λ c. cond (owns_of u.objects x c) (later c x) 0) (λ c. cond (owns_of t.objects x c) (places c x) 0) (λ c l. ap (λ (v : Bool). cond v (later c x) 0) (owns x c h) ∙ ap (λ (k : ℕ). cond (owns_of t.objects x c) k 0) (old-later c x h))
      ∙ counts.direct x ∙ omega (arith, direct x, no)

  old-elsewhere : (c x : ℕ) → x ≤ length t.objects → c < n → owns_of u.objects x c ≡ false → later c x ≡ places_in u c x
  old-elsewhere c x h l v =
      let no : count_if (not w && (eqb c a && eqb x r.object)) ≡ 0 = grind (arith, common_steps, other x h) in
      omega (arith, old-later c x h, counts.elsewhere c x l (sym (owns x c h) ∙ v), elsewhere c x, no)

  -- an object that was not
  new-later : (c x : ℕ) → length t.objects < x → later c x ≡ count_if (eqb c a && eqb x r.object)
  new-later c x h = omega (arith, made c x h)

  here-direct : sum_below n (λ c. cond (owns_of u.objects r.object c) (count_if (eqb c a)) 0) ≡ count_if w
  here-direct =
      let f : ℕ → ℕ = λ c. cond (owns_of u.objects r.object c) (count_if (eqb c a)) 0 in
      let sum : sum_below n f + 0 ≡ sum_below n (λ c. 0) + f a = sum-changed n a (λ c. 0) f below (λ j ne. no-other j ne) in
      let one : f a ≡ count_if w = ap (λ (v : Bool). cond v (count_if (eqb a a)) 0) mine ∙ self-test a w in
      omega (arith, sum, one, sum-nothing n (λ c. 0) (λ c. refl))
    where
      no-other : (j : ℕ) → (j ≡ a → ⊥) → 0 ≡ cond (owns_of u.objects r.object j) (count_if (eqb j a)) 0
      no-other j ne = sym (ap (λ (p : Bool). cond (owns_of u.objects r.object j) (count_if p) 0) (ne_eqb j a ne) ∙ none-either (owns_of u.objects r.object j))

  new-direct : (x : ℕ) → length t.objects < x → sum_below n (λ c. cond (owns_of u.objects x c) (later c x) 0) ≡ direct_in u x
  new-direct x h = by-test (eqb x r.object) refl where
    by-test : (p : Bool) → eqb x r.object ≡ p → sum_below n (λ c. cond (owns_of u.objects x c) (later c x) 0) ≡ direct_in u x
    by-test true e =
        let same : x ≡ r.object = eqb-true x r.object e in
        let each : (c : ℕ) → later c x ≡ count_if (eqb c a) = λ c. new-later c x h ∙ ap (λ (q : Bool). count_if (eqb c a && q)) e ∙ grind (arith, common_steps) in
        let here : count_if (w && eqb x r.object) ≡ count_if w = ap (λ (q : Bool). count_if (w && q)) e ∙ grind (arith, common_steps) in
        sum-same n (λ c. cond (owns_of u.objects x c) (later c x) 0) (λ c. cond (owns_of u.objects r.object c) (count_if (eqb c a)) 0) (λ c l. ap (λ (k : ℕ). cond (owns_of u.objects x c) k 0) (each c) ∙ ap (λ (y : ℕ). cond (owns_of u.objects y c) (count_if (eqb c a)) 0) same)
        ∙ here-direct ∙ omega (arith, direct x, here, no-direct t x h)
    by-test false e =
        let each : (c : ℕ) → later c x ≡ 0 = λ c. new-later c x h ∙ ap (λ (q : Bool). count_if (eqb c a && q)) e ∙ grind (arith, common_steps) in
        let here : count_if (w && eqb x r.object) ≡ 0 = ap (λ (q : Bool). count_if (w && q)) e ∙ grind (arith, common_steps) in
        sum-nothing n (λ c. cond (owns_of u.objects x c) (later c x) 0) (λ c. ap (λ (k : ℕ). cond (owns_of u.objects x c) k 0) (each c) ∙ none-either (owns_of u.objects x c))
        ∙ omega (arith, direct x, here, no-direct t x h)

  new-elsewhere : (c x : ℕ) → length t.objects < x → owns_of u.objects x c ≡ false → later c x ≡ places_in u c x
  new-elsewhere c x h v =
      new-later c x h ∙ tests (eqb c a && eqb x r.object) refl ∙ omega (arith, elsewhere c x, none-there c x h)
    where
      tests : (p : Bool) → (eqb c a && eqb x r.object) ≡ p → count_if (eqb c a && eqb x r.object) ≡ count_if (not w && (eqb c a && eqb x r.object))
      tests true e =
          let ec : c ≡ a = eqb-true c a (grind (arith, common_steps, e)) in
          let ex : x ≡ r.object = eqb-true x r.object (grind (arith, common_steps, e)) in
          let no : w ≡ false = sym mine ∙ rw (← ec, ← ex) v in
          rw no refl
      tests false e = ap (λ (p : Bool). count_if p) e ∙ sym (ap (λ (p : Bool). count_if (not w && p)) e ∙ grind (arith, common_steps))

  past-none : (c x : ℕ) → n ≤ c → places_in u c x ≡ 0
  past-none c x h =
      let no : count_if (not w && (eqb c a && eqb x r.object)) ≡ 0 = let ne : eqb c a ≡ false = ne_eqb c a (λ e. omega (arith, h, below, e)) in grind (arith, common_steps, ne) in
      omega (arith, elsewhere c x, counts.past c x h, no)

  pub made_counts : Counts n later u
  made_counts = record {
    direct = λ x. elim (cases_lt (length t.objects) x) [ inl h ↦ new-direct x h | inr h ↦ old-direct x h ];
    elsewhere = λ c x l v. elim (cases_lt (length t.objects) x) [ inl h ↦ new-elsewhere c x h v | inr h ↦ old-elsewhere c x h l v ];
    past = λ c x h. past-none c x h;
  }
