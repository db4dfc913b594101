-- What is counted for each object, after a call and to the end of its entry.
use mathlib.Core.Path.{fun_ext}
use Rattle.std.proofs.Common.{◌≡◌, ℕ, zero, suc, Bool, true, false, eqb, cond, not, ◌&&◌, ◌+◌, ◌-◌, ◌<◌, ◌≤◌, List, [], ◌∷◌, length, refl, sym, ap, ◌∙◌, arith, eqb-true}
use Rattle.std.proofs.lemmas.Bool.{eqb-false}
use Rattle.std.proofs.lemmas.Grind.{common_steps}
use Rattle.std.proofs.lemmas.List.{length-set}
use Rattle.com_refs_books.specs.Counting.{sum_below, count_if}
use Rattle.com_refs_books.specs.Changes.{Books, cut, given_back, held_outside}
use Rattle.com_refs_books.specs.Ends.{holders_by, ends}
use Rattle.com_refs_holders.specs.Tables.{Tables, books_of, direct_in, object_in}
use Rattle.com_refs_holders.specs.Places.{locals_of}
use Rattle.com_refs.specs.Counts.{hold_of, hold_less, hold_more, outside_of, IsCounted, IsCountedBut}
use Rattle.com_refs.specs.Totals.{Totals}
use Rattle.com_refs.proofs.Ends.{holds-kept, holds-same}
use Rattle.com_refs.proofs.Settling.{tests_agree, cut_none}

-- ---- the rows of counts

less-other : (w : Bool) (hs : List ℕ) (o x : ℕ) → (x ≡ o → ⊥) → hold_of (hold_less o w hs) x ≡ hold_of hs x
less-other false hs o x n = refl
less-other true hs zero x n = refl
less-other true hs (suc o) zero n = refl
less-other true [] (suc o) (suc x) n = refl
less-other true (h ∷ hs) (suc zero) (suc zero) n = absurd (n refl)
less-other true (h ∷ hs) (suc zero) (suc (suc x)) n = refl
less-other true (h ∷ hs) (suc (suc o)) (suc zero) n = refl
less-other true (h ∷ hs) (suc (suc o)) (suc (suc x)) n = less-other true hs (suc o) (suc x) (λ e. n (ap (λ k. suc k) e))

less-here : (hs : List ℕ) (o : ℕ) → hold_of (hold_less o true hs) o ≡ hold_of hs o - 1
less-here hs zero = omega arith
less-here [] (suc o) = omega arith
less-here (h ∷ hs) (suc zero) = refl
less-here (h ∷ hs) (suc (suc o)) = less-here hs (suc o)

more-other : (w : Bool) (hs : List ℕ) (o x : ℕ) → (x ≡ o → ⊥) → hold_of (hold_more o w hs) x ≡ hold_of hs x
more-other false hs o x n = refl
more-other true hs zero x n = refl
more-other true hs (suc o) zero n = refl
more-other true [] (suc o) (suc x) n = refl
more-other true (h ∷ hs) (suc zero) (suc zero) n = absurd (n refl)
more-other true (h ∷ hs) (suc zero) (suc (suc x)) n = refl
more-other true (h ∷ hs) (suc (suc o)) (suc zero) n = refl
more-other true (h ∷ hs) (suc (suc o)) (suc (suc x)) n = more-other true hs (suc o) (suc x) (λ e. n (ap (λ k. suc k) e))

more-here : (hs : List ℕ) (o : ℕ) → 0 < o → o ≤ length hs → hold_of (hold_more o true hs) o ≡ hold_of hs o + 1
more-here hs zero p q = absurd (omega arith)
more-here [] (suc o) p q = absurd (omega (arith, q))
more-here (h ∷ hs) (suc zero) p q = refl
more-here (h ∷ hs) (suc (suc o)) p q = let r : suc o ≤ length hs = omega (arith, q) in more-here hs (suc o) (omega arith) r

pub less_length : (o : ℕ) (w : Bool) (hs : List ℕ) → length (hold_less o w hs) ≡ length hs
less_length o false hs = refl
less_length zero true hs = refl
less_length (suc o) true hs = length-set hs o _

pub more_length : (o : ℕ) (w : Bool) (hs : List ℕ) → length (hold_more o w hs) ≡ length hs
more_length o false hs = refl
more_length zero true hs = refl
more_length (suc o) true hs = length-set hs o _

less-small : (o : ℕ) (w : Bool) (hs : List ℕ) (x : ℕ) → hold_of (hold_less o w hs) x ≤ hold_of hs x
less-small o false hs x = omega arith
less-small o true hs x = elim (eqb x o) as (λ y. eqb x o ≡ y → hold_of (hold_less o true hs) x ≤ hold_of hs x) [
  | true ↦ λ y. let same : x ≡ o = eqb-true x o y in rw same (omega (arith, less-here hs o))
  | false ↦ λ y. omega (arith, less-other true hs o x (eqb-false x o y))
] refl

pub more_is : (o : ℕ) (w : Bool) (hs : List ℕ) (x : ℕ) → 0 < o → o ≤ length hs → hold_of (hold_more o w hs) x ≡ hold_of hs x + count_if (w && eqb x o)
more_is o false hs x p q = grind (arith, common_steps)
more_is o true hs x p q = elim (eqb x o) as (λ y. eqb x o ≡ y → hold_of (hold_more o true hs) x ≡ hold_of hs x + count_if (true && y)) [
  | true ↦ λ y. let same : x ≡ o = eqb-true x o y in rw same (more-here hs o p q)
  | false ↦ λ y. more-other true hs o x (eqb-false x o y) ∙ grind (arith, common_steps)
] refl

less-is : (o : ℕ) (w : Bool) (hs : List ℕ) (x h k : ℕ) → hold_of hs x ≡ h → k + count_if (w && eqb x o) ≡ h → hold_of (hold_less o w hs) x ≡ k
less-is o false hs x h k e f = grind (arith, common_steps, e, f)
less-is o true hs x h k e f = elim (eqb x o) as (λ y. eqb x o ≡ y → k + count_if (true && y) ≡ h → hold_of (hold_less o true hs) x ≡ k) [
  | true ↦ λ y g. let same : x ≡ o = eqb-true x o y in let here : hold_of (hold_less o true hs) x ≡ hold_of hs x - 1 = rw same (less-here hs o) in let one : k + 1 ≡ h = g in omega (arith, here, e, one)
  | false ↦ λ y g. let none : k + 0 ≡ h = g in omega (arith, less-other true hs o x (eqb-false x o y), e, none)
] refl f

pub at_most : (b : Bool) → count_if b ≤ 1
at_most true = omega arith
at_most false = omega arith

-- ---- a holder less, and one more

pub lost : (t v : Tables) (hs : List ℕ) (o : ℕ) (w : Bool) → IsCounted t hs → ((x : ℕ) → (books_of v).live x ≡ (books_of t).live x) → ((x : ℕ) → outside_of v x + count_if (w && eqb x o) ≡ outside_of t x)
    → ((x : ℕ) → (x ≡ o → ⊥) → direct_in v x ≡ direct_in t x) → length v.objects ≡ length t.objects → t.issued ≤ v.issued → IsCountedBut v (hold_less o w hs) o
lost t v hs o w c live outside direct len issued = record {
  counted = λ x l. less-is o w hs x (outside_of t x) (outside_of v x) (c.counted x (sym (live x) ∙ l)) (outside x);
  others = λ x n l. let same : outside_of v x ≡ outside_of t x = grind (arith, common_steps, outside x, n) in omega (arith, c.tidy x (sym (live x) ∙ l), same, direct x n);
  as_many = less_length o w hs ∙ c.as_many ∙ sym len;
  small = λ x. omega (arith, less-small o w hs x, c.small x, issued);
}

pub gained : (t v : Tables) (hs : List ℕ) (o : ℕ) (w : Bool) → IsCounted t hs → ((x : ℕ) → (books_of v).live x ≡ (books_of t).live x) → ((x : ℕ) → outside_of v x ≡ outside_of t x + count_if (w && eqb x o))
    → ((x : ℕ) → direct_in t x ≤ direct_in v x) → length v.objects ≡ length t.objects → v.issued ≡ t.issued + 1 → 0 < o → o ≤ length t.objects → IsCounted v (hold_more o w hs)
gained t v hs o w c live outside direct len issued some made =
    let range : o ≤ length hs = omega (arith, made, c.as_many) in
    record {
      counted = λ x l. more_is o w hs x some range ∙ ap (λ (n : ℕ). n + count_if (w && eqb x o)) (c.counted x (sym (live x) ∙ l)) ∙ sym (outside x);
      tidy = λ x l. omega (arith, c.tidy x (sym (live x) ∙ l), outside x, direct x);
      as_many = more_length o w hs ∙ c.as_many ∙ sym len;
      small = λ x. omega (arith, more_is o w hs x some range, at_most (w && eqb x o), c.small x, issued);
    }

-- nothing held less, in all
pub still : (t : Tables) (hs : List ℕ) (o : ℕ) → IsCountedBut t hs o → 0 < direct_in t o + outside_of t o → IsCounted t hs
still t hs o c some = record {
  counted = c.counted;
  tidy = λ x l. elim (eqb x o) as (λ y. eqb x o ≡ y → 0 < direct_in t x + outside_of t x) [
    | true ↦ λ y. let same : x ≡ o = eqb-true x o y in rw same some
    | false ↦ λ y. c.others x (eqb-false x o y) l
  ] refl;
  as_many = c.as_many;
  small = c.small;
}

-- ---- the end of an entry

and-true : (y : Bool) → y ≡ y && true
and-true true = refl
and-true false = refl

module _ (v : Tables) (o : ℕ) (hs : List ℕ) (c : IsCountedBut v hs o) where
  pub settled_ends : (u : Tables) (n : ℕ) (places : ℕ → ℕ → ℕ) (b : Books) → u.objects ≡ v.objects → u.proxies ≡ v.proxies → books_of v ≡ given_back n places b → Totals n places u
      → books_of u ≡ cond (eqb (direct_in v o + hold_of hs o) 0) (cut (λ x. (books_of v).live x && not (eqb x o)) (books_of v)) (books_of v) → books_of u ≡ ends n places b
  unfolding ends
  settled_ends u n places b eo er is totals ub =
      by_test ∙ ap (λ (l : ℕ → Bool). cut l (books_of v)) (sym (tests_agree (books_of v).live (holders_by n places b) o others)) ∙ ap (λ (d : Books). cut (λ x. d.live x && not (eqb (holders_by n places b x) 0)) d) is
    where
      total : (x : ℕ) → holders_by n places b x ≡ direct_in v x + outside_of v x
      total x =
          let sum : sum_below n (λ d. places d x) ≡ direct_in v x + locals_of x v.proxies = totals.total x ∙ ap (λ os. (object_in os x).direct + locals_of x u.proxies) eo ∙ ap (λ rs. direct_in v x + locals_of x rs) er in
          let out : held_outside (books_of v) x ≡ held_outside b x = ap (λ (d : Books). held_outside d x) is in
          omega (arith, sum, out)

      others : (x : ℕ) → (x ≡ o → ⊥) → (books_of v).live x ≡ true → 0 < holders_by n places b x
      others x m l = rw (total x) (c.others x m l)

      -- where the object is connected, the test in the tables is that of the definitions
      test-is : (books_of v).live o ≡ true → direct_in v o + hold_of hs o ≡ holders_by n places b o
      test-is l = omega (arith, total o, c.counted o l)

      flags : (b z : Bool) (x : ℕ) → ((books_of v).live o ≡ true → b ≡ z) → (books_of v).live x && not (eqb x o && b) ≡ (books_of v).live x && not (eqb x o && z)
      flags b z x h = elim (eqb x o) as (λ y. eqb x o ≡ y → (books_of v).live x && not (y && b) ≡ (books_of v).live x && not (y && z)) [
        | true ↦ λ y. let same : x ≡ o = eqb-true x o y in rw same (elim ((books_of v).live o) as (λ l. ((books_of v).live o ≡ l → l && not (true && b) ≡ l && not (true && z))) [ true ↦ λ l. rw (h l) refl | false ↦ λ l. refl ] refl)
        | false ↦ λ y. refl
      ] refl

      with_flag : (b : Bool) → books_of u ≡ cond b (cut (λ x. (books_of v).live x && not (eqb x o)) (books_of v)) (books_of v) → books_of u ≡ cut (λ x. (books_of v).live x && not (eqb x o && b)) (books_of v)
      with_flag true e = e ∙ ap (λ (l : ℕ → Bool). cut l (books_of v)) (fun_ext (λ x. ap (λ y. (books_of v).live x && not y) (and-true (eqb x o))))
      with_flag false e = e ∙ sym (cut_none v o)

      by_test : books_of u ≡ cut (λ x. (books_of v).live x && not (eqb x o && eqb (holders_by n places b o) 0)) (books_of v)
      by_test = with_flag _ ub ∙ ap (λ (l : ℕ → Bool). cut l (books_of v)) (fun_ext (λ x. flags _ _ x (λ l. ap (λ (m : ℕ). eqb m 0) (test-is l))))

  cut-live : (x : ℕ) → (b : Books) → b ≡ cut (λ x. (books_of v).live x && not (eqb x o)) (books_of v) → b.live x ≡ true → ((books_of v).live x && not (eqb x o)) ≡ true
  cut-live x b e l = sym (ap (λ (d : Books). d.live x) e) ∙ l

  first-true : (p q : Bool) → p && q ≡ true → p ≡ true
  first-true true q h = refl
  first-true false q h = h

  apart : (x : ℕ) → ((books_of v).live x && not (eqb x o)) ≡ true → x ≡ o → ⊥
  apart x h e = grind (arith, common_steps, h, e)

  pub settled_stands : (u : Tables) (z : Bool) → u.objects ≡ v.objects → u.proxies ≡ v.proxies → u.issued ≡ v.issued → eqb (direct_in v o + hold_of hs o) 0 ≡ z
      → books_of u ≡ cond z (cut (λ x. (books_of v).live x && not (eqb x o)) (books_of v)) (books_of v) → IsCounted u hs
  settled_stands u true eo er ei ez ub = record {
    counted = λ x l.
        let on : ((books_of v).live x && not (eqb x o)) ≡ true = cut-live x (books_of u) ub l in
        let same : held_outside (books_of u) x ≡ held_outside (books_of v) x = ap (λ (b : Books). held_outside b x) ub ∙ omega (arith, holds-kept (λ x. (books_of v).live x && not (eqb x o)) x on (books_of v).packets, holds-same (λ x. (books_of v).live x && not (eqb x o)) x (books_of v).cookies) in
        c.counted x (first-true _ _ on) ∙ omega (arith, same, ap (λ rs. locals_of x rs) er);
    tidy = λ x l.
        let on : ((books_of v).live x && not (eqb x o)) ≡ true = cut-live x (books_of u) ub l in
        let same : held_outside (books_of u) x ≡ held_outside (books_of v) x = ap (λ (b : Books). held_outside b x) ub ∙ omega (arith, holds-kept (λ x. (books_of v).live x && not (eqb x o)) x on (books_of v).packets, holds-same (λ x. (books_of v).live x && not (eqb x o)) x (books_of v).cookies) in
        let held : 0 < direct_in v x + outside_of v x = c.others x (apart x on) (first-true _ _ on) in
        omega (arith, held, same, ap (λ rs. locals_of x rs) er, ap (λ os. (object_in os x).direct) eo);
    as_many = c.as_many ∙ ap (λ os. length os) (sym eo);
    small = λ x. omega (arith, c.small x, ei);
  }
  settled_stands u false eo er ei ez ub = record {
    counted = λ x l. c.counted x (sym (ap (λ (b : Books). b.live x) ub) ∙ l) ∙ omega (arith, ap (λ (b : Books). held_outside b x) ub, ap (λ rs. locals_of x rs) er);
    tidy = λ x l.
        let on : (books_of v).live x ≡ true = sym (ap (λ (b : Books). b.live x) ub) ∙ l in
        let held : 0 < direct_in v x + outside_of v x = elim (eqb x o) as (λ y. eqb x o ≡ y → 0 < direct_in v x + outside_of v x) [
          | true ↦ λ y.
              let same : x ≡ o = eqb-true x o y in
              let some = eqb-false _ _ ez in
              let counted : hold_of hs o ≡ outside_of v o = c.counted o (rw same at on) in
              rw same (omega (arith, some, counted))
          | false ↦ λ y. c.others x (eqb-false x o y) on
        ] refl in
        omega (arith, held, ap (λ (b : Books). held_outside b x) ub, ap (λ rs. locals_of x rs) er, ap (λ os. (object_in os x).direct) eo);
    as_many = c.as_many ∙ ap (λ os. length os) (sym eo);
    small = λ x. omega (arith, c.small x, ei);
  }
