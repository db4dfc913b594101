-- What a loss answers: whether anything holds its object afterwards.
use Rattle.std.proofs.Common.{◌≡◌, ◌↔◌, ℕ, Bool, true, false, eqb, cond, not, ◌&&◌, ◌+◌, ◌<◌, List, refl, sym, ap, ◌∙◌, arith, eqb-true}
use Rattle.std.proofs.lemmas.Grind.{common_steps}
use Rattle.com_stub.specs.StubRows.{is_connected}
use Rattle.com_refs_books.specs.Changes.{Books, cut, held_outside}
use Rattle.com_refs_holders.specs.Tables.{Tables, books_of, direct_in, object_in}
use Rattle.com_refs_holders.specs.Places.{locals_of}
use Rattle.com_refs.specs.Counts.{hold_of, outside_of, holders_of, IsCounted, IsCountedBut}

-- Nothing holds an object by its direct places and its count, which stands where it is connected.
abbrev pub IsLost : (direct held : ℕ) → (connected : Bool) → Type 0
IsLost direct held connected = (direct ≡ 0) × (connected ≡ true → held ≡ 0)

pub live_is : (t : Tables) (o : ℕ) → is_connected t.stubs o ≡ (books_of t).live o
unfolding books_of
live_is t o = refl

holders_live : (t : Tables) (o : ℕ) → (books_of t).live o ≡ true → holders_of t o ≡ direct_in t o + outside_of t o
holders_live t o l = ap (λ b. cond b (direct_in t o + outside_of t o) (direct_in t o)) l

holders_dead : (t : Tables) (o : ℕ) → (books_of t).live o ≡ false → holders_of t o ≡ direct_in t o
holders_dead t o l = ap (λ b. cond b (direct_in t o + outside_of t o) (direct_in t o)) l

module _ (v u : Tables) (o : ℕ) (hs : List ℕ) (c : IsCountedBut v hs o) (eo : u.objects ≡ v.objects) (er : u.proxies ≡ v.proxies) where
  direct-same : direct_in u o ≡ direct_in v o
  direct-same = ap (λ os. (object_in os o).direct) eo

  -- it was the last, or it was not connected, and nobody counts it any more
  gone-now : books_of u ≡ cut (λ x. (books_of v).live x && not (eqb x o)) (books_of v) → holders_of u o ≡ direct_in v o
  gone-now e = holders_dead u o (ap (λ (b : Books). b.live o) e ∙ grind (arith, common_steps)) ∙ direct-same

  outside-same : books_of u ≡ books_of v → outside_of u o ≡ outside_of v o
  outside-same e = omega (arith, ap (λ rs. locals_of o rs) er, ap (λ (b : Books). held_outside b o) e)

  stays-live : books_of u ≡ books_of v → (books_of v).live o ≡ true → holders_of u o ≡ direct_in v o + hold_of hs o
  stays-live e l = holders_live u o (ap (λ (b : Books). b.live o) e ∙ l) ∙ omega (arith, direct-same, outside-same e, c.counted o l)

  stays-dead : books_of u ≡ books_of v → (books_of v).live o ≡ false → holders_of u o ≡ direct_in v o
  stays-dead e l = holders_dead u o (ap (λ (b : Books). b.live o) e ∙ l) ∙ direct-same

  by_test : (z l : Bool) → eqb (direct_in v o + hold_of hs o) 0 ≡ z → (books_of v).live o ≡ l → books_of u ≡ cond z (cut (λ x. (books_of v).live x && not (eqb x o)) (books_of v)) (books_of v)
      → IsLost (direct_in v o) (hold_of hs o) l ↔ (holders_of u o ≡ 0)
  by_test true l ez el e =
      let none : direct_in v o + hold_of hs o ≡ 0 = eqb-true _ _ ez in
      let now = gone-now e in
      (λ h. now ∙ h.0, λ h. (sym now ∙ h, λ m. omega (arith, none)))
  by_test false true ez el e =
      let now = stays-live e el in
      (λ h. now ∙ omega (arith, h.0, h.1 refl), λ h. (omega (arith, now, h), λ m. omega (arith, now, h)))
  by_test false false ez el e =
      let now = stays-dead e el in
      (λ h. now ∙ h.0, λ h. (sym now ∙ h, λ m. absurd (cc)))

  pub settled_lost : (lost : Bool) → books_of u ≡ cond (eqb (direct_in v o + hold_of hs o) 0) (cut (λ x. (books_of v).live x && not (eqb x o)) (books_of v)) (books_of v)
      → (lost ≡ true) ↔ IsLost (direct_in v o) (hold_of hs o) (is_connected v.stubs o) → (lost ≡ true) ↔ (holders_of u o ≡ 0)
  settled_lost lost e h =
      let same : (lost ≡ true) ↔ IsLost (direct_in v o) (hold_of hs o) ((books_of v).live o) = rw (← live_is v o) h in
      let by = by_test _ _ refl refl e in
      (λ y. by.0 (same.0 y), λ z. same.1 (by.1 z))

  pub settled_unheld : (lost : Bool) → books_of u ≡ cond (eqb (direct_in v o + hold_of hs o) 0) (cut (λ x. (books_of v).live x && not (eqb x o)) (books_of v)) (books_of v)
      → (lost ≡ true) ↔ IsLost (direct_in v o) (hold_of hs o) (is_connected v.stubs o) → lost ≡ eqb (holders_of u o) 0
  settled_unheld lost e h = flag lost (holders_of u o) (settled_lost lost e h) where
    flag : (b : Bool) (n : ℕ) → (b ≡ true) ↔ (n ≡ 0) → b ≡ eqb n 0
    flag true n i = sym (ap (λ k. eqb k 0) (i.0 refl))
    flag false n i = elim (eqb n 0) as (λ y. eqb n 0 ≡ y → false ≡ y) [
      | true ↦ λ y. i.1 (eqb-true n 0 y)
      | false ↦ λ y. refl
    ] refl

-- Between calls each connected object has a holder.
pub held_live : (t : Tables) (hs : List ℕ) (o : ℕ) → IsCounted t hs → is_connected t.stubs o ≡ true → 0 < holders_of t o
held_live t hs o c l =
    let live : (books_of t).live o ≡ true = sym (live_is t o) ∙ l in
    omega (arith, holders_live t o live, c.tidy o live)

pub held_dead : (t : Tables) (o : ℕ) → is_connected t.stubs o ≡ false → holders_of t o ≡ direct_in t o
held_dead t o l = holders_dead t o (sym (live_is t o) ∙ l)

-- Something holds an object without direct places exactly where it is connected.
pub held_where_connected : (t : Tables) (hs : List ℕ) (o : ℕ) (connected : Bool) → IsCounted t hs → direct_in t o ≡ 0 → connected ≡ is_connected t.stubs o → (connected ≡ true) ↔ (0 < holders_of t o)
held_where_connected t hs o true c none is = (λ h. held_live t hs o c (sym is), λ h. refl)
held_where_connected t hs o false c none is = (λ h. absurd (cc), λ h. absurd (omega (arith, held_dead t o (sym is), none, h)))
