-- What is kept beside the apartments, after one is made and after one ends.
use Rattle.std.proofs.Common.{◌≡◌, ℕ, zero, suc, ◌+◌, ◌-◌, ◌<◌, ◌≤◌, ◌^◌, Bool, true, false, not, cond, ◌==◌, ◌&&◌, ◌||◌, List, [], ◌∷◌, ◌++◌, length, Some, refl, sym, ◌∙◌, ap, ap₂, subst, ⊎_elim, arith, get_or, set, filter, slice_index_or, slice_set, slice_get, nat_le, eqb-true, lit≤}
use Rattle.std.proofs.lemmas.Bool.{cases_eq, false_from_ne_true}
use Rattle.std.proofs.lemmas.Bool.Decides.{nat_tests}
use Rattle.std.proofs.lemmas.Grind.{common_steps}
use Rattle.std.proofs.lemmas.List.{get_or-set_same, get_or-set_other, length-append, length-set}
use Rattle.std.proofs.lemmas.List.Elements.{filter-append}
use Rattle.com_model.specs.Apartments.{or_host}
use Rattle.com_model.specs.Lists.{first, is_member, tabulated}
use Rattle.com_lane_lists.specs.declared.stas.Sta.{Sta}
use Rattle.com_lane_lists.specs.Apartments.{StaTables}
use Rattle.com_lane_lists.specs.StasKept.{StasKept, unmade, numbers_of, is_maker, made_by, gone_first}

-- the first apartments that have all ended

le-row : (b : Bool) (n m : ℕ) → n ≤ m → cond b (suc n) 0 ≤ suc m
le-row true n m h = omega (arith, h)
le-row false n m h = omega arith

pub gone_first_le : (rows : List Sta) → gone_first rows ≤ length rows
gone_first_le [] = omega arith
gone_first_le (r ∷ rows) = le-row r.is_gone (gone_first rows) (length rows) (gone_first_le rows)

more-row : (b : Bool) (n k : ℕ) → (k ≤ n → k + 1 ≤ n) → suc k ≤ cond b (suc n) 0 → suc k + 1 ≤ cond b (suc n) 0
more-row true n k f h = let z : k + 1 ≤ n = f (omega (arith, h)) in omega (arith, z)
more-row false n k f h = absurd (omega (arith, h))

pub gone_first_more : (rows : List Sta) (place : ℕ) (d : Sta) → place < length rows → place ≤ gone_first rows → (get_or rows place d).is_gone ≡ true → place + 1 ≤ gone_first rows
gone_first_more [] place d lt le e = absurd (omega arith)
gone_first_more (r ∷ rows) zero d lt le e = let z : 1 ≤ suc (gone_first rows) = omega arith in subst (λ (b : Bool). 1 ≤ cond b (suc (gone_first rows)) 0) (sym e) z
gone_first_more (r ∷ rows) (suc place) d lt le e = more-row r.is_gone (gone_first rows) place (λ h. gone_first_more rows place d (omega (arith, lt)) h e) le

here-row : (b : Bool) (n k : ℕ) → (k ≤ n → k ≡ n) → suc k ≤ cond b (suc n) 0 → suc k ≡ cond b (suc n) 0
here-row true n k f h = let z : k ≡ n = f (omega (arith, h)) in omega (arith, z)
here-row false n k f h = absurd (omega (arith, h))

pub gone_first_here : (rows : List Sta) (place : ℕ) (d : Sta) → place < length rows → place ≤ gone_first rows → (get_or rows place d).is_gone ≡ false → place ≡ gone_first rows
gone_first_here [] place d lt le e = absurd (omega arith)
gone_first_here (r ∷ rows) zero d lt le e = subst (λ (b : Bool). 0 ≡ cond b (suc (gone_first rows)) 0) (sym e) refl
gone_first_here (r ∷ rows) (suc place) d lt le e = here-row r.is_gone (gone_first rows) place (λ h. gone_first_here rows place d (omega (arith, lt)) h e) le

-- All before it have ended, and it has not.
before-row : (b : Bool) (n k : ℕ) → suc k < cond b (suc n) 0 → k < n
before-row true n k h = omega (arith, h)
before-row false n k h = absurd (omega (arith, h))

before-first : (b : Bool) (n : ℕ) → 0 < cond b (suc n) 0 → b ≡ true
before-first true n h = refl
before-first false n h = absurd (omega (arith, h))

pub gone_before : (rows : List Sta) (place : ℕ) (d : Sta) → place < gone_first rows → (get_or rows place d).is_gone ≡ true
gone_before [] place d h = absurd (omega (arith, h))
gone_before (r ∷ rows) zero d h = before-first r.is_gone (gone_first rows) h
gone_before (r ∷ rows) (suc place) d h = gone_before rows place d (before-row r.is_gone (gone_first rows) place h)

not-row : (b : Bool) (r : Sta) (rows : List Sta) (d : Sta) → r.is_gone ≡ b → (gone_first rows < length rows → (get_or rows (gone_first rows) d).is_gone ≡ false)
    → cond b (suc (gone_first rows)) 0 < suc (length rows) → (get_or (r ∷ rows) (cond b (suc (gone_first rows)) 0) d).is_gone ≡ false
not-row true r rows d e f q = f (omega (arith, q))
not-row false r rows d e f q = e

pub gone_not : (rows : List Sta) (d : Sta) → gone_first rows < length rows → (get_or rows (gone_first rows) d).is_gone ≡ false
gone_not [] d h = absurd (omega (arith, h))
gone_not (r ∷ rows) d h = not-row r.is_gone r rows d refl (gone_not rows d) h

pub gone_first_push : (rows : List Sta) (l : ℕ) → gone_first (rows ++ record { maker = l; is_gone = false } ∷ []) ≡ gone_first rows
gone_first_push [] l = refl
gone_first_push (r ∷ rows) l = ap (λ n. cond r.is_gone (suc n) 0) (gone_first_push rows l)

set-row : (b : Bool) (n m : ℕ) → n ≤ m → cond b (suc n) 0 ≤ cond b (suc m) 0
set-row true n m h = omega (arith, h)
set-row false n m h = omega arith

set-first : (b c : Bool) (n : ℕ) → c ≡ true → cond b (suc n) 0 ≤ cond c (suc n) 0
set-first true true n e = omega arith
set-first false true n e = omega arith
set-first b false n e = absurd cc

pub gone_first_set : (rows : List Sta) (place : ℕ) (r : Sta) → r.is_gone ≡ true → gone_first rows ≤ gone_first (set rows place r)
gone_first_set [] place r e = omega arith
gone_first_set (x ∷ rows) zero r e = set-first x.is_gone r.is_gone (gone_first rows) e
gone_first_set (x ∷ rows) (suc place) r e = set-row x.is_gone (gone_first rows) (gone_first (set rows place r)) (gone_first_set rows place r e)

-- members, after one more

pub member_push : (x : ℕ) (ys : List ℕ) (y : ℕ) → is_member x (ys ++ y ∷ []) ≡ (is_member x ys || x == y)
member_push x [] y = elim (x == y) as (λ b. (b || false) ≡ (false || b)) [ true ↦ refl | false ↦ refl ]
member_push x (z ∷ ys) y = ap (λ b. x == z || b) (member_push x ys y) ∙ (elim (x == z) as (λ b. (b || (is_member x ys || x == y)) ≡ ((b || is_member x ys) || x == y)) [ true ↦ refl | false ↦ refl ])

test_same : (x : ℕ) → (x == x) ≡ true
test_same x = grind (arith, common_steps)

test_other : (x y : ℕ) → (x ≡ y → ⊥) → (x == y) ≡ false
test_other x y ne = false_from_ne_true (x == y) (λ q. ne (eqb-true x y q))

or_false : (b : Bool) → (b || false) ≡ b
or_false true = refl
or_false false = refl

or_true : (b : Bool) → (b || true) ≡ true
or_true true = refl
or_true false = refl

pub member_last : (x y : ℕ) (ys : List ℕ) → x ≡ y → is_member x (ys ++ y ∷ []) ≡ true
member_last x y ys e = member_push x ys y ∙ ap (λ z. is_member x ys || z) (subst (λ z. (x == z) ≡ true) e (test_same x)) ∙ or_true (is_member x ys)

pub member_kept : (x y : ℕ) (ys : List ℕ) → (x ≡ y → ⊥) → is_member x (ys ++ y ∷ []) ≡ is_member x ys
member_kept x y ys ne = member_push x ys y ∙ ap (λ z. is_member x ys || z) (test_other x y ne) ∙ or_false (is_member x ys)

-- rows, after one more

pub get_push : {X : Type 0} (xs : List X) (i : ℕ) (y d : X) → i < length xs → slice_index_or (xs ++ y ∷ []) i d ≡ slice_index_or xs i d
get_push [] i y d h = absurd (omega (arith, h))
get_push (x ∷ xs) zero y d h = refl
get_push (x ∷ xs) (suc i) y d h = get_push xs i y d (omega (arith, h))

pub get_last : {X : Type 0} (xs : List X) (i : ℕ) (y d : X) → i ≡ length xs → slice_index_or (xs ++ y ∷ []) i d ≡ y
get_last [] zero y d e = refl
get_last [] (suc i) y d e = absurd (omega (arith, e))
get_last (x ∷ xs) zero y d e = absurd (omega (arith, e))
get_last (x ∷ xs) (suc i) y d e = get_last xs i y d (omega (arith, e))

pub maker_push : (rows : List Sta) (i l m : ℕ) → (i ≡ length rows → ⊥) → is_maker l (slice_get (rows ++ record { maker = m; is_gone = false } ∷ []) i) ≡ is_maker l (slice_get rows i)
maker_push [] zero l m ne = absurd (ne refl)
maker_push [] (suc i) l m ne = refl
maker_push (r ∷ rows) zero l m ne = refl
maker_push (r ∷ rows) (suc i) l m ne = maker_push rows i l m (λ e. ne (omega (arith, e)))

pub maker_last : (rows : List Sta) (i l m : ℕ) → i ≡ length rows → is_maker l (slice_get (rows ++ record { maker = m; is_gone = false } ∷ []) i) ≡ (m == l)
maker_last [] zero l m e = refl
maker_last [] (suc i) l m e = absurd (omega (arith, e))
maker_last (r ∷ rows) zero l m e = absurd (omega (arith, e))
maker_last (r ∷ rows) (suc i) l m e = maker_last rows i l m (omega (arith, e))

pub maker_set : (rows : List Sta) (i k l : ℕ) (r d : Sta) → r.maker ≡ (slice_index_or rows k d).maker → is_maker l (slice_get (slice_set rows k r) i) ≡ is_maker l (slice_get rows i)
maker_set [] i k l r d e = refl
maker_set (x ∷ rows) zero zero l r d e = ap (λ n. n == l) e
maker_set (x ∷ rows) (suc i) zero l r d e = refl
maker_set (x ∷ rows) zero (suc k) l r d e = refl
maker_set (x ∷ rows) (suc i) (suc k) l r d e = maker_set rows i k l r d e

pub maker_past : (rows : List Sta) (i l : ℕ) → length rows ≤ i → is_maker l (slice_get rows i) ≡ false
maker_past [] i l h = refl
maker_past (r ∷ rows) zero l h = absurd (omega (arith, h))
maker_past (r ∷ rows) (suc i) l h = maker_past rows i l (omega (arith, h))

-- who made an apartment, after one more is made

abbrev pub new_row : ℕ → Sta
new_row m = record { maker = m; is_gone = false }

and-by : (b x y : Bool) → (b ≡ true → x ≡ y) → (b && x) ≡ (b && y)
and-by true x y f = f refl
and-by false x y f = refl

le-true : (a : ℕ) → nat_le 3 a ≡ true → 3 ≤ a
le-true a e = grind (arith, nat_tests, common_steps)

true-le : (a : ℕ) → 3 ≤ a → nat_le 3 a ≡ true
true-le a h = grind (arith, nat_tests, common_steps)

made_by_other : (rows : List Sta) (l a m : ℕ) → (a ≡ length rows + 3 → ⊥) → made_by (rows ++ new_row m ∷ []) l a ≡ made_by rows l a
made_by_other rows l a m ne =
    and-by (nat_le 3 a) _ _ (λ t. let z : 3 ≤ a = le-true a t in maker_push rows (a - 3) l m (λ e. ne (omega (arith, z, e))))

made_by_new : (rows : List Sta) (l a m : ℕ) → a ≡ length rows + 3 → made_by (rows ++ new_row m ∷ []) l a ≡ (m == l)
made_by_new rows l a m e =
    ap (λ (b : Bool). b && is_maker l (slice_get (rows ++ new_row m ∷ []) (a - 3))) (true-le a (omega (arith, e)))
    ∙ maker_last rows (a - 3) l m (omega (arith, e))

made_by_none : (rows : List Sta) (l a : ℕ) → a ≡ length rows + 3 → made_by rows l a ≡ false
made_by_none rows l a e =
    ap (λ (b : Bool). b && is_maker l (slice_get rows (a - 3))) (true-le a (omega (arith, e))) ∙ maker_past rows (a - 3) l (omega (arith, e))

own-made : (rows : List Sta) (xs : List ℕ) (l a sta : ℕ) → sta ≡ length rows + 3 → is_member a xs ≡ made_by rows l a
    → is_member a (xs ++ sta ∷ []) ≡ made_by (rows ++ new_row l ∷ []) l a
own-made rows xs l a sta e k =
    ⊎_elim
    (λ same. member_last a sta xs same ∙ sym (made_by_new rows l a l (same ∙ e) ∙ test_same l))
    (λ other. member_kept a sta xs other ∙ k ∙ sym (made_by_other rows l a l (λ q. other (q ∙ sym e))))
    (cases_eq a sta)

others-made : (rows : List Sta) (x : Bool) (l a m : ℕ) → (m ≡ l → ⊥) → x ≡ made_by rows l a → x ≡ made_by (rows ++ new_row m ∷ []) l a
others-made rows x l a m ne k =
    ⊎_elim
    (λ same. k ∙ made_by_none rows l a same ∙ sym (made_by_new rows l a m same ∙ test_other m l ne))
    (λ other. k ∙ sym (made_by_other rows l a m other))
    (cases_eq a (length rows + 3))

pub kept_made : (made : List (List ℕ)) (rows : List Sta) (ended : List ℕ) (oldest lane sta : ℕ) → StasKept made rows ended oldest → length rows + 4 ≤ 2 ^ 32 → sta ≡ length rows + 3
    → StasKept (slice_set made lane (slice_index_or made lane [] ++ sta ∷ [])) (rows ++ new_row lane ∷ []) ended oldest
kept_made made rows ended oldest lane sta k room is =
    let long : length (rows ++ new_row lane ∷ []) ≡ length rows + 1 = length-append rows (new_row lane ∷ []) in
    record {
      oldest_is = k.oldest_is ∙ sym (gone_first_push rows lane);
      ended_are = λ i h. ⊎_elim
          (λ same. k.none_above (i + 3) (omega (arith, same)) ∙ sym (ap (λ (r : Sta). r.is_gone) (get_last rows i (new_row lane) unmade same)))
          (λ other. let lt : i < length rows = omega (arith, long, h, other) in k.ended_are i lt ∙ sym (ap (λ (r : Sta). r.is_gone) (get_push rows i (new_row lane) unmade lt)))
          (cases_eq i (length rows));
      none_above = λ a h. k.none_above a (omega (arith, long, h));
      makers = λ l a h. ⊎_elim
          (λ same. let lt : lane < length made = omega (arith, same, h, length-set made lane (slice_index_or made lane [] ++ sta ∷ [])) in
          subst (λ (n : ℕ). is_member a (slice_index_or (slice_set made lane (slice_index_or made lane [] ++ sta ∷ [])) n []) ≡ made_by (rows ++ new_row lane ∷ []) n a) (sym same)
          (ap (is_member a) (get_or-set_same made lane (slice_index_or made lane [] ++ sta ∷ []) [] lt) ∙ own-made rows (slice_index_or made lane []) lane a sta is (k.makers lane a lt)))
          (λ other. let lt : l < length made = omega (arith, h, length-set made lane (slice_index_or made lane [] ++ sta ∷ [])) in
          ap (is_member a) (get_or-set_other made lane l (slice_index_or made lane [] ++ sta ∷ []) [] other) ∙ others-made rows _ l a lane (λ e. other (sym e)) (k.makers l a lt))
          (cases_eq l lane);
      numbered = omega (arith, long, room);
    }

-- One ends that is no thread's.
pub kept_host : (made : List (List ℕ)) (rows : List Sta) (ended : List ℕ) (oldest a : ℕ) → StasKept made rows ended oldest → a < 3 → StasKept made rows (ended ++ a ∷ []) oldest
kept_host made rows ended oldest a k small = record {
  oldest_is = k.oldest_is;
  ended_are = λ i h. member_kept (i + 3) a ended (λ e. absurd (omega (arith, e, small))) ∙ k.ended_are i h;
  none_above = λ b h. member_kept b a ended (λ e. absurd (omega (arith, e, h, small))) ∙ k.none_above b h;
  makers = k.makers;
  numbered = k.numbered;
}

pub kept_ended : (made : List (List ℕ)) (rows : List Sta) (ended : List ℕ) (oldest a : ℕ) (r d : Sta) → StasKept made rows ended oldest → 3 ≤ a → a < length rows + 3
    → r.maker ≡ (slice_index_or rows (a - 3) d).maker → r.is_gone ≡ true → StasKept made (slice_set rows (a - 3) r) (ended ++ a ∷ []) (gone_first (slice_set rows (a - 3) r))
kept_ended made rows ended oldest a r d k low high m g =
    let long : length (slice_set rows (a - 3) r) ≡ length rows = length-set rows (a - 3) r in
    record {
      oldest_is = refl;
      ended_are = λ i h. ⊎_elim
          (λ same. member_last (i + 3) a ended (omega (arith, same, low)) ∙ sym (subst (λ (n : ℕ). (slice_index_or (slice_set rows (a - 3) r) n unmade).is_gone ≡ true) (sym same) (ap (λ (x : Sta). x.is_gone) (get_or-set_same rows (a - 3) r unmade (omega (arith, low, high))) ∙ g)))
          (λ other. member_kept (i + 3) a ended (λ e. other (omega (arith, e))) ∙ k.ended_are i (omega (arith, long, h)) ∙ sym (ap (λ (x : Sta). x.is_gone) (get_or-set_other rows (a - 3) i r unmade other)))
          (cases_eq i (a - 3));
      none_above = λ b h. member_kept b a ended (λ e. absurd (omega (arith, e, h, long, high))) ∙ k.none_above b (omega (arith, long, h));
      makers = λ l b h. k.makers l b h ∙ sym (ap (λ (x : Bool). nat_le 3 b && x) (maker_set rows (b - 3) (a - 3) l r d m));
      numbered = omega (arith, long, k.numbered);
    }

-- the oldest that has not ended

pub length_tab : {X : Type 0} (n : ℕ) (f : ℕ → X) → length (tabulated n f) ≡ n
length_tab zero f = refl
length_tab (suc n) f = let z : length (tabulated n f) ≡ n = length_tab n f in omega (arith, length-append (tabulated n f) (f n ∷ []), z)

pub tab_more : {X : Type 0} (n m : ℕ) (f : ℕ → X) → m ≡ n + 1 → tabulated m f ≡ tabulated n f ++ f n ∷ []
tab_more n zero f e = absurd (omega (arith, e))
tab_more n (suc m) f e = let z : m ≡ n = omega (arith, e) in ap (λ (k : ℕ). tabulated k f ++ f k ∷ []) z

none-passes : (n : ℕ) (p : ℕ → Bool) (f : ℕ → ℕ) → ((i : ℕ) → i < n → p (f i) ≡ false) → filter p (tabulated n f) ≡ []
none-passes zero p f h = refl
none-passes (suc n) p f h =
    filter-append p (tabulated n f) (f n ∷ [])
    ∙ ap (λ (xs : List ℕ). xs ++ filter p (f n ∷ [])) (none-passes n p f (λ i q. h i (omega (arith, q))))
    ∙ ap (λ (b : Bool). cond b (f n ∷ []) []) (h n (omega arith))

first-of : (xs ys : List ℕ) (x : ℕ) → first xs ≡ Some x → first (xs ++ ys) ≡ Some x
first-of [] ys x e = absurd cc
first-of (z ∷ xs) ys x e = e

first-passes : (n k : ℕ) (p : ℕ → Bool) (f : ℕ → ℕ) → k < n → ((i : ℕ) → i < k → p (f i) ≡ false) → p (f k) ≡ true → first (filter p (tabulated n f)) ≡ Some (f k)
first-passes zero k p f lt h e = absurd (omega (arith, lt))
first-passes (suc n) k p f lt h e =
    ap first (filter-append p (tabulated n f) (f n ∷ []))
    ∙ ⊎_elim
    (λ same. ap (λ (xs : List ℕ). first (xs ++ filter p (f n ∷ []))) (none-passes n p f (λ i q. h i (omega (arith, q, same))))
    ∙ ap (λ (b : Bool). first (cond b (f n ∷ []) [])) (subst (λ (j : ℕ). p (f j) ≡ true) same e) ∙ ap (λ (j : ℕ). Some (f j)) (sym same))
    (λ other. first-of (filter p (tabulated n f)) (filter p (f n ∷ [])) (f k) (first-passes n k p f (omega (arith, lt, other)) h e))
    (cases_eq k n)

abbrev lives : List ℕ → ℕ → Bool
lives ended a = not (is_member a ended)

pub main_lives : (made : List (List ℕ)) (rows : List Sta) (ended : List ℕ) (oldest : ℕ) → StasKept made rows ended oldest → oldest < length rows → or_host (first (filter (lives ended) (numbers_of rows))) ≡ oldest + 3
main_lives made rows ended oldest k lt =
    ap or_host (first-passes (length rows) oldest (lives ended) (λ i. i + 3) lt
    (λ i q. ap not (k.ended_are i (omega (arith, q, lt)) ∙ gone_before rows i unmade (subst (λ (n : ℕ). i < n) k.oldest_is q)))
    (ap not (k.ended_are oldest lt ∙ subst (λ (n : ℕ). (slice_index_or rows n unmade).is_gone ≡ false) (sym k.oldest_is) (gone_not rows unmade (subst (λ (n : ℕ). n < length rows) k.oldest_is lt)))))

pub main_host : (made : List (List ℕ)) (rows : List Sta) (ended : List ℕ) (oldest : ℕ) → StasKept made rows ended oldest → length rows ≤ oldest → or_host (first (filter (lives ended) (numbers_of rows))) ≡ 2
main_host made rows ended oldest k le =
    ap (λ (xs : List ℕ). or_host (first xs)) (none-passes (length rows) (lives ended) (λ i. i + 3)
    (λ i q. ap not (k.ended_are i q ∙ gone_before rows i unmade (omega (arith, q, le, k.oldest_is)))))

all-empty : (n l : ℕ) → slice_index_or {A = List ℕ} (tabulated n (λ k. [])) l [] ≡ []
all-empty zero l = refl
all-empty (suc n) l = last-empty (tabulated n (λ k. [])) l ∙ all-empty n l
  where
    last-empty : (xs : List (List ℕ)) (k : ℕ) → slice_index_or (xs ++ [] ∷ []) k [] ≡ slice_index_or xs k []
    last-empty [] zero = refl
    last-empty [] (suc k) = refl
    last-empty (x ∷ xs) zero = refl
    last-empty (x ∷ xs) (suc k) = last-empty xs k

and-false : (b : Bool) → (b && false) ≡ false
and-false true = refl
and-false false = refl

pub kept_none : (n : ℕ) → StasKept (tabulated n (λ l. [])) [] [] 0
kept_none n = record {
  oldest_is = refl;
  ended_are = λ i h. absurd (omega (arith, h));
  none_above = λ a h. refl;
  makers = λ l a h. ap (is_member a) (all-empty n l) ∙ sym (and-false (nat_le 3 a));
  numbered = lit≤ tt;
}

-- what a contract sees after one is made

abbrev pub seen : List (List ℕ) → List ℕ → List ℕ → StaTables
seen made stas ended = record { made = made; stas = stas; ended = ended }

numbers-more : (rows : List Sta) (r : Sta) → numbers_of (rows ++ r ∷ []) ≡ numbers_of rows ++ (length rows + 3) ∷ []
numbers-more rows r = tab_more (length rows) (length (rows ++ r ∷ [])) (λ i. i + 3) (length-append rows (r ∷ []))

abbrev pub with_made : StaTables → ℕ → StaTables
with_made t lane = record { made = slice_set t.made lane (slice_index_or t.made lane [] ++ (length t.stas + 3) ∷ []); stas = t.stas ++ (length t.stas + 3) ∷ []; ended = t.ended }

pub made_seen : (made made' : List (List ℕ)) (rows rows' : List Sta) (ended : List ℕ) (lane sta : ℕ) (t : StaTables)
    → seen made (numbers_of rows) ended ≡ t → made' ≡ slice_set made lane (slice_index_or made lane [] ++ sta ∷ []) → rows' ≡ rows ++ new_row lane ∷ [] → sta ≡ length rows + 3
    → seen made' (numbers_of rows') ended ≡ with_made t lane
made_seen made made' rows rows' ended lane sta t is m r e =
    let long : length (numbers_of rows) ≡ length rows = length_tab (length rows) (λ i. i + 3) in
    let number : sta ≡ length (numbers_of rows) + 3 = omega (arith, e, long) in
    subst (λ (t : StaTables). seen made' (numbers_of rows') ended ≡ with_made t lane) is
    (ap₂ (λ (x : List (List ℕ)) (y : List ℕ). seen x y ended)
    (m ∙ ap (λ (n : ℕ). slice_set made lane (slice_index_or made lane [] ++ n ∷ [])) number)
    (ap numbers_of r ∙ numbers-more rows (new_row lane) ∙ ap (λ (n : ℕ). numbers_of rows ++ n ∷ []) (sym e ∙ number)))
