-- Only an object that lost a holder can have lost its last: what has no holder at an entry's end is cut by a test of that one.
use mathlib.Core.Path.{fun_ext}
use Rattle.std.proofs.Common.{◌≡◌, ℕ, Bool, true, false, eqb, not, ◌&&◌, ◌<◌, refl, sym, ap, ◌∙◌, arith, eqb-true}
use Rattle.std.proofs.lemmas.Bool.{eqb-false}
use Rattle.std.proofs.lemmas.Grind.{common_steps}
use Rattle.com_stub.specs.StubRows.{is_connected}
use Rattle.com_refs_books.specs.Changes.{cut}
use Rattle.com_refs_holders.specs.Tables.{Tables, books_of}
use Rattle.com_refs_holders.proofs.Cuts.{cut_reads}

pub one-test : (l : Bool) (total : ℕ) → (l ≡ true → 0 < total) → l && not (eqb total 0) ≡ l
one-test true total h = let some : 0 < total = h refl in grind (arith, common_steps, some)
one-test false total h = refl

-- the tests agree where no other object can have lost its last holder
pub tests_agree : (live : ℕ → Bool) (total : ℕ → ℕ) (o : ℕ) → ((x : ℕ) → (x ≡ o → ⊥) → live x ≡ true → 0 < total x) → ◌≡◌ {A = ℕ → Bool} (λ x. live x && not (eqb (total x) 0)) (λ x. live x && not (eqb x o && eqb (total o) 0))
tests_agree live total o h = fun_ext (λ x. elim (eqb x o) as (λ t. eqb x o ≡ t → live x && not (eqb (total x) 0) ≡ live x && not (t && eqb (total o) 0)) [
  | true ↦ λ e. let same : x ≡ o = eqb-true x o e in rw same refl
  | false ↦ λ e. one-test (live x) (total x) (h x (eqb-false x o e)) ∙ grind (arith, common_steps)
] refl)

keeps-all : (l : Bool) → l && true ≡ l
keeps-all true = refl
keeps-all false = refl

-- cutting by its own flags changes nothing
pub cut_none : (t : Tables) (o : ℕ) → cut (λ x. (books_of t).live x && not (eqb x o && false)) (books_of t) ≡ books_of t
unfolding books_of
cut_none t o =
    let same : ◌≡◌ {A = ℕ → Bool} (λ x. is_connected t.stubs x && not (eqb x o && false)) (is_connected t.stubs) = fun_ext (λ x. grind (arith, common_steps)) in
    ap (λ (l : ℕ → Bool). cut l (books_of t)) same ∙ sym (cut_reads (is_connected t.stubs) (is_connected t.stubs) (λ x h. h) t.counters t.proxies t.packets t.cookies)
