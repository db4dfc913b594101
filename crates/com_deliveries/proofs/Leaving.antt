-- What the Leave of a call does to the objects of sources.
use Rattle.std.proofs.Common.{refl, ap, sym, subst, ◌∙◌, arith, eqb-true}
use Rattle.std.specs.Prelude.{◌≡◌, ℕ, ◌+◌, ◌-◌, ◌≤◌, ◌^◌, ℤ, Bool, true, false, cond, ◌&&◌, ◌==◌, List, [], ◌∷◌, ◌++◌, map, Option, Some, None, option_map}
use Rattle.com_base.specs.declared.value.Value.{Value}
use Rattle.com_deliveries.specs.declared.sources.Source.{Source}
use Rattle.com_deliveries.specs.declared.tally.Call.{Call}
use Rattle.com_deliveries.specs.Book.{no_source, took, lost, one_more, has_iface, on_source, changed_by}
use Rattle.com_deliveries.specs.Delivered.{cookie_of}
use Rattle.com_deliveries.specs.Rows.{row_at, with_row, removed}
use Rattle.com_deliveries.proofs.Standing.{SourceFor, ObjectFor, CallFor, apart}
use Rattle.com_deliveries.proofs.RowReads.{row-here, row-there}
use Rattle.com_model.specs.declared.keeps.Issue.{Issue}
use Rattle.com_model.specs.declared.keeps.Making.{Making}
use Rattle.com_model.specs.declared.scenario.Scenario.{Scenario}
use Rattle.com_model.specs.Lists.{is_number, number_or_zero}
use Rattle.com_laws_sources.specs.Histories.{is_on, Change, Takes, Loses, Stays, changed, one_taken, result_cookie}
use Rattle.com_laws_sources.specs.Sinks.{Sink, is_cookie, without}
use Rattle.com_laws_sources.specs.Sources.{advise, unadvise}

-- What the Leave of a call, issued so, changes of an object by an interface.
abbrev pub change_by : Option Issue → Sink → ℤ → (object iface : ℕ) → Change
change_by y x n o i = cond (is_on y o i advise) (Takes x) (cond (is_on y o i unadvise) (Loses n) Stays)

-- What such a Leave changes of the row of the call's object.
abbrev changes : Bool → Bool → Bool → ℕ → ℤ → Source → Source
changes a d u c n q = cond a (cond d (took c q) (cond u (lost n q) q)) q

changes-iface : (a d u : Bool) (c : ℕ) (n : ℤ) (q : Source) → (changes a d u c n q).iface ≡ q.iface
changes-iface false d u c n q = refl
changes-iface true true u c n q = refl
changes-iface true false true c n q = refl
changes-iface true false false c n q = refl

mapped-more : (xs : List Sink) (x : Sink) → map cookie_of xs ++ (x.cookie ∷ []) ≡ map cookie_of (xs ++ (x ∷ []))
mapped-more [] x = refl
mapped-more (y ∷ ys) x = ap (λ (cs : List ℕ). y.cookie ∷ cs) (mapped-more ys x)

without-by : (t : Bool) (x : Sink) (xs ys : List Sink) (cs : List ℕ) → cs ≡ map cookie_of ys → cond t (map cookie_of xs) (x.cookie ∷ cs) ≡ map cookie_of (cond t xs (x ∷ ys))
without-by true x xs ys cs e = refl
without-by false x xs ys cs e = ap (λ (ks : List ℕ). x.cookie ∷ ks) e

mapped-without : (n : ℤ) (xs : List Sink) → removed n (map cookie_of xs) ≡ map cookie_of (without n xs)
mapped-without n [] = refl
mapped-without n (x ∷ xs) = without-by (is_cookie n x.cookie) x xs (without n xs) (removed n (map cookie_of xs)) (mapped-without n xs)

one-more-is : (n : ℕ) → n + 1 ≤ 2 ^ 64 - 1 → one_more n ≡ n + 1
unfolding one_more
one-more-is n h = omega (arith, h)

kept-by : (a d u : Bool) (q : Source) (x : Sink) (c m : ℕ) (n k : ℤ) (xs : List Sink) → x.cookie ≡ c → k ≡ n → m + 1 ≤ 2 ^ 64 - 1 → q.cookies ≡ map cookie_of xs → q.advised ≡ m
    → ((changes a d u c k q).cookies ≡ map cookie_of (changed (cond (a && d) (Takes x) (cond (a && u) (Loses n) Stays)) xs))
    × ((changes a d u c k q).advised ≡ one_taken (cond (a && d) (Takes x) (cond (a && u) (Loses n) Stays)) m)
kept-by false d u q x c m n k xs ex ek r e f = (e, f)
kept-by true true u q x c m n k xs ex ek r e f = (
  ap (λ (cs : List ℕ). cs ++ (c ∷ [])) e ∙ ap (λ (j : ℕ). map cookie_of xs ++ (j ∷ [])) (sym ex) ∙ mapped-more xs x,
  ap one_more f ∙ one-more-is m r,
)
kept-by true false true q x c m n k xs ex ek r e f = (ap (removed k) e ∙ ap (λ (j : ℤ). removed j (map cookie_of xs)) ek ∙ mapped-without n xs, f)
kept-by true false false q x c m n k xs ex ek r e f = (e, f)

-- ---- the rows

changed-else : (objs : List Source) (r : Call) (c : ℕ) (o : ℕ) (a d u : Bool) → (o ≡ r.object → ⊥)
    → row_at (cond a (cond d (with_row (took c) no_source r.object objs) (cond u (with_row (lost r.number) no_source r.object objs) objs)) objs) o ≡ row_at objs o
changed-else objs r c o false d u f = refl
changed-else objs r c o true true u f = row-there (took c) no_source r.object o objs f
changed-else objs r c o true false true f = row-there (lost r.number) no_source r.object o objs f
changed-else objs r c o true false false f = refl

same-row : (c : ℕ) (n : ℤ) (q : Option Source) → q ≡ option_map (changes false false false c n) q
same-row c n None = refl
same-row c n (Some q) = refl

changed-own : (objs : List Source) (r : Call) (c : ℕ) (a d u : Bool)
    → row_at (cond a (cond d (with_row (took c) no_source r.object objs) (cond u (with_row (lost r.number) no_source r.object objs) objs)) objs) r.object ≡ option_map (changes a d u c r.number) (row_at objs r.object)
changed-own objs r c false d u = same-row c r.number (row_at objs r.object)
changed-own objs r c true true u = row-here (took c) no_source r.object objs
changed-own objs r c true false true = row-here (lost r.number) no_source r.object objs
changed-own objs r c true false false = same-row c r.number (row_at objs r.object)

-- ---- another object

pub object-same : (s : Scenario) (xs ys : ℕ → List Sink) (n m : ℕ → ℕ) (r : Option Source) (k : Option Making) → ((i : ℕ) → (ys i ≡ xs i) × (m i ≡ n i)) → ObjectFor s xs n r k → ObjectFor s ys m r k
object-same s xs ys n m None None f w = tt
object-same s xs ys n m (Some r) (Some k) f w = record {
  found = w.found;
  known = w.known;
  kept = λ i p. ((w.kept i p).0 ∙ ap (map cookie_of) (sym (f i).0), (w.kept i p).1 ∙ sym (f i).1);
}
object-same s xs ys n m None (Some k) f w = absurd w
object-same s xs ys n m (Some r) None f w = absurd w

number-same : (o : ℕ) (x : Option ℕ) → (o ≡ number_or_zero x → ⊥) → is_number o x ≡ false
number-same o None f = refl
number-same o (Some y) f = not-true (o == y) (λ t. f (eqb-true o y t))
  where
    not-true : (b : Bool) → (b ≡ true → ⊥) → b ≡ false
    not-true true g = absurd (g refl)
    not-true false g = refl

stays : (a b c : Bool) (x : Sink) (n : ℤ) → a ≡ false → cond (a && b) (Takes x) (cond (a && c) (Loses n) Stays) ≡ Stays
stays true b c x n e = cc
stays false b c x n e = refl

-- ---- the call's own object

abbrev own-change : Issue → Sink → ℤ → ℕ → Change
own-change y x n i = cond ((y.iface == i) && (y.method == advise)) (Takes x) (cond ((y.iface == i) && (y.method == unadvise)) (Loses n) Stays)

own-source : (s : Scenario) (y : Issue) (r : Call) (k o c : ℕ) (x : Sink) (n : ℤ) (xs : ℕ → List Sink) (ns : ℕ → ℕ) (q : Source)
    → y.object ≡ Some o → r.iface ≡ y.iface → r.method ≡ y.method → r.number ≡ n → x.cookie ≡ c → ((i : ℕ) → ns i + 1 ≤ 2 ^ 64 - 1) → SourceFor s k xs ns q
    → SourceFor s k (λ i. changed (change_by (Some y) x n o i) (xs i)) (λ i. one_taken (change_by (Some y) x n o i) (ns i)) (changes (is_number r.iface q.iface) (r.method == advise) (r.method == unadvise) c r.number q)
own-source s y r k o c x n xs ns q eo ei em en ex room w = record {
  found = λ i e. w.found i (sym (changes-iface (is_number r.iface q.iface) (r.method == advise) (r.method == unadvise) c r.number q) ∙ e);
  known = λ i p. changes-iface (is_number r.iface q.iface) (r.method == advise) (r.method == unadvise) c r.number q ∙ w.known i p;
  kept = λ i p.
      let ea : is_number r.iface q.iface ≡ (y.iface == i) = ap (is_number r.iface) (w.known i p) ∙ ap (λ (j : ℕ). j == i) ei in
      let ed : (r.method == advise) ≡ (y.method == advise) = ap (λ (j : ℕ). j == advise) em in
      let eu : (r.method == unadvise) ≡ (y.method == unadvise) = ap (λ (j : ℕ). j == unadvise) em in
      let is : change_by (Some y) x n o i ≡ own-change y x n i =
      ap (λ (u : Option ℕ). cond (is_number o u && (y.iface == i && y.method == advise)) (Takes x) (cond (is_number o u && (y.iface == i && y.method == unadvise)) (Loses n) Stays)) eo
      ∙ ap (λ (b : Bool). cond (b && (y.iface == i && y.method == advise)) (Takes x) (cond (b && (y.iface == i && y.method == unadvise)) (Loses n) Stays)) (same-number o) in
      let z : ((changes (y.iface == i) (y.method == advise) (y.method == unadvise) c r.number q).cookies ≡ map cookie_of (changed (own-change y x n i) (xs i)))
      × ((changes (y.iface == i) (y.method == advise) (y.method == unadvise) c r.number q).advised ≡ one_taken (own-change y x n i) (ns i)) =
      kept-by (y.iface == i) (y.method == advise) (y.method == unadvise) q x c (ns i) n r.number (xs i) ex en (room i) (w.kept i p).0 (w.kept i p).1 in
      let e : changes (is_number r.iface q.iface) (r.method == advise) (r.method == unadvise) c r.number q ≡ changes (y.iface == i) (y.method == advise) (y.method == unadvise) c r.number q =
      ap (λ (b : Bool). changes b (r.method == advise) (r.method == unadvise) c r.number q) ea
      ∙ ap (λ (b : Bool). changes (y.iface == i) b (r.method == unadvise) c r.number q) ed
      ∙ ap (λ (b : Bool). changes (y.iface == i) (y.method == advise) b c r.number q) eu in (
        ap (λ (v : Source). v.cookies) e ∙ z.0 ∙ ap (λ (v : Change). map cookie_of (changed v (xs i))) (sym is),
        ap (λ (v : Source). v.advised) e ∙ z.1 ∙ ap (λ (v : Change). one_taken v (ns i)) (sym is),
      );
}
  where
    same-number : (n : ℕ) → (n == n) ≡ true
    same-number n = grind arith

own-zero : (rows : List Source) (q : Source) → row_at rows 0 ≡ Some q → ⊥
own-zero rows q e = cc

pub own-number : (rows : List Source) (o : ℕ) (u : Option ℕ) (q : Source) → o ≡ number_or_zero u → row_at rows o ≡ Some q → u ≡ Some o
own-number rows o None q e p = absurd (own-zero rows q (subst (λ (j : ℕ). row_at rows j ≡ Some q) e p))
own-number rows o (Some k) q e p = ap (λ (j : ℕ). Some j) (sym e)

own-object : (s : Scenario) (objs : List Source) (y : Issue) (r : Call) (o c : ℕ) (x : Sink) (n : ℤ) (xs : ℕ → List Sink) (ns : ℕ → ℕ) (q : Option Source) (m : Option Making)
    → row_at objs o ≡ q → o ≡ number_or_zero y.object → r.iface ≡ y.iface → r.method ≡ y.method → r.number ≡ n → x.cookie ≡ c → ((i : ℕ) → ns i + 1 ≤ 2 ^ 64 - 1) → ObjectFor s xs ns q m
    → ObjectFor s (λ i. changed (change_by (Some y) x n o i) (xs i)) (λ i. one_taken (change_by (Some y) x n o i) (ns i)) (option_map (changes (has_iface q r.iface) (r.method == advise) (r.method == unadvise) c r.number) q) m
own-object s objs y r o c x n xs ns None None e eo ei em en ex room w = tt
own-object s objs y r o c x n xs ns (Some q) (Some m) e eo ei em en ex room w = own-source s y r m.class o c x n xs ns q (own-number objs o y.object q eo e) ei em en ex room w
own-object s objs y r o c x n xs ns None (Some m) e eo ei em en ex room w = absurd w
own-object s objs y r o c x n xs ns (Some q) None e eo ei em en ex room w = absurd w

-- ---- any object

pub leave-object : (s : Scenario) (objs : List Source) (d o : ℕ) (k : ℕ → ℕ) (vs : List Value) (lv : Bool) (l : ℕ → ℕ → ℕ) (seen : ℕ → ℕ → List Sink) (x : Sink) (n : ℤ) (v : Option Value) (xs : ℕ → List Sink) (ns : ℕ → ℕ) (r : Option Call) (y : Option Issue) (m : Option Making)
    → ((z : Call) → r ≡ Some z → z.number ≡ n) → x.cookie ≡ result_cookie v → ((i : ℕ) → ns i + 1 ≤ 2 ^ 64 - 1) → CallFor s d k vs lv l seen r y → ObjectFor s xs ns (row_at objs o) m
    → ObjectFor s (λ i. changed (change_by y x n o i) (xs i)) (λ i. one_taken (change_by y x n o i) (ns i)) (row_at (changed_by objs r v) o) m
leave-object s objs d o k vs lv l seen x n v xs ns None None m en ex room w st = st
leave-object s objs d o k vs lv l seen x n v xs ns (Some r) (Some y) m en ex room w st =
    elim (o == r.object) as (λ t. (o == r.object) ≡ t → ObjectFor s (λ i. changed (change_by (Some y) x n o i) (xs i)) (λ i. one_taken (change_by (Some y) x n o i) (ns i)) (row_at (changed_by objs (Some r) v) o) m) [
      | true ↦ λ t. let e : o ≡ r.object = eqb-true o r.object t in
          subst (λ (q : Option Source). ObjectFor s (λ i. changed (change_by (Some y) x n o i) (xs i)) (λ i. one_taken (change_by (Some y) x n o i) (ns i)) q m)
          (sym (ap (row_at (changed_by objs (Some r) v)) e
          ∙ changed-own objs r (result_cookie v) (on_source objs r) (r.method == advise) (r.method == unadvise)
          ∙ ap (λ (j : ℕ). option_map (changes (has_iface (row_at objs j) r.iface) (r.method == advise) (r.method == unadvise) (result_cookie v) r.number) (row_at objs j)) (sym e)))
          (own-object s objs y r o (result_cookie v) x n xs ns (row_at objs o) m refl (e ∙ w.object) w.iface w.method (en r refl) ex room st)
      | false ↦ λ t. let f : o ≡ r.object → ⊥ = apart o r.object t in
          subst (λ (q : Option Source). ObjectFor s (λ i. changed (change_by (Some y) x n o i) (xs i)) (λ i. one_taken (change_by (Some y) x n o i) (ns i)) q m)
          (sym (changed-else objs r (result_cookie v) o (on_source objs r) (r.method == advise) (r.method == unadvise) f))
          (object-same s xs (λ i. changed (change_by (Some y) x n o i) (xs i)) ns (λ i. one_taken (change_by (Some y) x n o i) (ns i)) (row_at objs o) m
          (λ i. let z : change_by (Some y) x n o i ≡ Stays = stays (is_number o y.object) (y.iface == i && y.method == advise) (y.iface == i && y.method == unadvise) x n (number-same o y.object (λ p. f (p ∙ sym w.object))) in
          (ap (λ (u : Change). changed u (xs i)) z, ap (λ (u : Change). one_taken u (ns i)) z)) st)
    ] refl
leave-object s objs d o k vs lv l seen x n v xs ns None (Some y) m en ex room w st = absurd w
leave-object s objs d o k vs lv l seen x n v xs ns (Some r) None m en ex room w st = absurd w
