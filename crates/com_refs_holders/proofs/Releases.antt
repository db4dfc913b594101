-- A place less, in the tables and in the books.
use Rattle.std.proofs.Common.{◌≡◌, ℕ, Bool, true, false, eqb, cond, ◌&&◌, ◌-◌, ◌<◌, length, refl, sym, ap, ◌∙◌, arith, eqb-true}
use Rattle.std.proofs.lemmas.Grind.{common_steps}
use Rattle.std.specs.Prelude.{◌↔◌, IsTrue}
use Rattle.com_proxy.specs.Rows.{public_of, local_of, IsFree}
use Rattle.com_stub.specs.StubRows.{is_connected}
use Rattle.com_stub.specs.CounterRows.{counter_of}
use Rattle.com_refs_books.specs.Changes.{given_back}
use Rattle.com_refs_holders.specs.Tables.{Tables, books_of, owns_of, object_in, direct_in, made_in}
use Rattle.com_refs_holders.specs.Places.{OneLess}
use Rattle.com_refs_holders.specs.Stands.{IsHolders, Tells, Released}
use Rattle.com_refs_holders.proofs.Gives.{OnlyAt, GivesOne, gives_given}

stub-of : (l gave free : Bool) (cu ct p : ℕ) → (l ≡ true → gave ≡ free) → cu ≡ ct - cond gave p 0 → cond l cu 0 ≡ cond l ct 0 - cond free (cond l p 0) 0
stub-of true gave free cu ct p g e = e ∙ ap (λ (t : Bool). ct - cond t p 0) (g refl)
stub-of false gave true cu ct p g e = omega arith
stub-of false gave false cu ct p g e = omega arith

proxy-of : (l gave free : Bool) (pu pt : ℕ) → (l ≡ true → gave ≡ free) → pu ≡ cond gave 0 pt → cond l pu 0 ≡ cond free 0 (cond l pt 0)
proxy-of true gave free pu pt g e = e ∙ ap (λ (t : Bool). cond t 0 pt) (g refl)
proxy-of false gave true pu pt g e = refl
proxy-of false gave false pu pt g e = refl

same-test : (s t : Bool) → (s ≡ true → t ≡ true) → (t ≡ true → s ≡ true) → s ≡ t
same-test true t f g = sym (f refl)
same-test false true f g = g refl
same-test false false f g = refl

-- all but the objects' rows stays
pub record Rest (t u : Tables) : Type 0 where
  pub stubs : u.stubs ≡ t.stubs
  pub packets : u.packets ≡ t.packets
  pub cookies : u.cookies ≡ t.cookies

module _ (t u : Tables) (a o i : ℕ) (gave : Bool) (rest : Rest t u) (r : Released a o i gave t.proxies t.counters u.proxies u.counters) where
  live-same : (x : ℕ) → is_connected u.stubs x ≡ is_connected t.stubs x
  live-same x = ap (λ s. is_connected s x) rest.stubs

  pub released_gives : (free : Bool) → (is_connected t.stubs o ≡ true → gave ≡ free) → GivesOne (books_of t) (books_of u) a o free
  unfolding books_of
  released_gives free g = record {
    stub = λ x j. rw (rest.stubs) (elim (eqb x o) as (λ y. eqb x o ≡ y → cond (is_connected t.stubs x) (counter_of u.counters x j).count 0 ≡ cond (is_connected t.stubs x) (counter_of t.counters x j).count 0 - cond (y && free) (cond (is_connected t.stubs o) (public_of t.proxies a o j) 0) 0) [
      | true ↦ λ e. let same : x ≡ o = eqb-true x o e in rw same (stub-of (is_connected t.stubs o) gave free _ _ _ g (r.count o j ∙ grind (arith, common_steps)))
      | false ↦ λ e. let n : (counter_of u.counters x j).count ≡ (counter_of t.counters x j).count = r.count x j ∙ grind (arith, common_steps, e) in rw n (grind (arith, common_steps))
    ] refl);
    proxy = λ d x j. rw (rest.stubs) (elim (eqb d a && eqb x o) as (λ y. eqb d a && eqb x o ≡ y → cond (is_connected t.stubs x) (public_of u.proxies d x j) 0 ≡ cond (y && free) 0 (cond (is_connected t.stubs x) (public_of t.proxies d x j) 0)) [
      | true ↦ λ e. let same : x ≡ o = eqb-true x o (grind (arith, common_steps, e)) in proxy-of (is_connected t.stubs x) gave free _ _ (λ l. g (rw same at l)) (r.public d x j ∙ rw e refl)
      | false ↦ λ e. ap (λ (n : ℕ). cond (is_connected t.stubs x) n 0) (r.public d x j ∙ rw e refl)
    ] refl);
    packets = rw (rest.stubs, rest.packets) refl;
    cookies = rw (rest.stubs, rest.cookies) refl;
    live = live-same;
    arguments = refl;
    result = refl;
  }

  pub released_given : IsHolders t → u.objects ≡ t.objects → owns_of t.objects o a ≡ false
      → (is_connected t.stubs o ≡ true → (IsTrue gave ↔ IsFree u.proxies a o)) → (n : ℕ) (places : ℕ → ℕ → ℕ) → a < n → Tells n places u → books_of u ≡ given_back n places (books_of t)
  released_given st eo own free n places h tells = gives_given n places (books_of t) (books_of u) a o h only (released_gives (eqb (places a o) 0) gave-is) where
    only : OnlyAt places (books_of t) a o
    only = record {
      other = λ c x j e z. st.placed c x j (record {
        none_held = λ k. elim (owns_of t.objects x c) as (λ y. owns_of t.objects x c ≡ y → local_of t.proxies c x k ≡ 0) [
          | true ↦ λ y. st.owned c x k y
          | false ↦ λ y.
              let empty : IsFree u.proxies c x = tells.none c x (ap (λ os. owns_of os x c) eo ∙ y) (eqb-true _ _ z) in
              let local : local_of u.proxies c x k ≡ local_of t.proxies c x k = r.local c x k ∙ grind (arith, common_steps, e) in
              sym local ∙ empty.none_held k
        ] refl;
      });
    }

    gave-is : is_connected t.stubs o ≡ true → gave ≡ eqb (places a o) 0
    gave-is l = same-test gave (eqb (places a o) 0)
        (λ y. let none : places a o ≡ 0 = tells.some a o h (ap (λ os. owns_of os o a) eo ∙ own) ((free l).0 y) in grind (arith, common_steps, none))
        (λ z. (free l).1 (tells.none a o (ap (λ os. owns_of os o a) eo ∙ own) (eqb-true _ _ z)))

pub released_places : (t u : Tables) (a o i : ℕ) (gave : Bool) → u.objects ≡ t.objects → Released a o i gave t.proxies t.counters u.proxies u.counters → OneLess t u a o false
released_places t u a o i gave eo r = record {
  made = ap (λ os. length os) eo;
  owns = λ x c. ap (λ os. owns_of os x c) eo;
  as_made = λ x. ap (λ os. made_in os x) eo;
  direct = λ x. let e : direct_in u x ≡ direct_in t x = ap (λ os. (object_in os x).direct) eo in grind (arith, common_steps, e);
  elsewhere = λ c x. r.places c x;
  all_elsewhere = λ x. r.locals x;
}
