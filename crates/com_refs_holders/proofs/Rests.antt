-- Where each place is counted, nothing is left to give back.
use Rattle.std.proofs.Common.{◌≡◌, ℕ, true, false, eqb, cond, refl, arith, eqb-true}
use Rattle.com_proxy.specs.Rows.{local_of}
use Rattle.com_refs_books.specs.Changes.{given_back}
use Rattle.com_refs_books.proofs.Sums.{sum-nothing}
use Rattle.com_refs_holders.specs.Tables.{Tables, books_of, owns_of}
use Rattle.com_refs_holders.specs.Stands.{IsHolders, Tells}
use Rattle.com_refs_holders.proofs.Gives.{cond-nothing, cond-nothing-else}
use Rattle.com_refs_holders.proofs.Same.{same_books}

none-placed : (t : Tables) (n : ℕ) (places : ℕ → ℕ → ℕ) → IsHolders t → Tells n places t → (a o j : ℕ) → eqb (places a o) 0 ≡ true → (books_of t).proxy a o j ≡ 0
none-placed t n places s tells a o j z = s.placed a o j (record {
  none_held = λ k. elim (owns_of t.objects o a) as (λ y. owns_of t.objects o a ≡ y → local_of t.proxies a o k ≡ 0) [
    | true ↦ λ y. s.owned a o k y
    | false ↦ λ y. (tells.none a o y (eqb-true _ _ z)).none_held k
  ] refl;
})

pub gives_none : (t : Tables) (n : ℕ) (places : ℕ → ℕ → ℕ) → IsHolders t → Tells n places t → given_back n places (books_of t) ≡ books_of t
gives_none t n places s tells = same_books _ _ (record {
  stub = λ o i. omega (arith, sum-nothing n (λ a. cond (eqb (places a o) 0) ((books_of t).proxy a o i) 0) (λ a. cond-nothing (eqb (places a o) 0) _ (none-placed t n places s tells a o i)));
  proxy = λ a o i. cond-nothing-else (eqb (places a o) 0) _ (none-placed t n places s tells a o i);
  packets = refl;
  cookies = refl;
  live = λ o. refl;
  arguments = refl;
  result = refl;
})
