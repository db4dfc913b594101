-- Which change a row is, case by case.
use Rattle.std.proofs.Common.{◌≡◌, ℕ, Bool, true, false, eqb, cond, refl, ap, subst, ◌∙◌, ◌<◌, ◌≤◌, arith}
use Rattle.com_proxy.specs.Rows.{public_of}
use Rattle.com_stub.specs.StubRows.{is_connected}
use Rattle.com_refs_holders.specs.Tables.{Tables, books_of}
use Rattle.std.proofs.lemmas.Grind.{common_steps}
use Rattle.com_base.specs.declared.value.MarshalMode.{MarshalMode}
use Rattle.com_base.specs.declared.value.MarshalMode.TheVariants as marshal
use Rattle.com_refs_books.specs.Changes.{Books, packet, changed, change, Asks, Takes, Makes, Unmarshals, Drops, Registers, ToProxy, ToCookie, Join, Return, Same, Change, unmarshal_change}
use Rattle.com_refs_books.specs.declared.keeps.Packet.{Packet}

module _ (owns : ℕ → ℕ → Bool) (b : Books) (a o i : ℕ) where
  pub asks_here : owns o a ≡ true → changed b (change owns b (Asks a o i)) ≡ b
  asks_here w = elim (b.live o) as (λ l. b.live o ≡ l → changed b (change owns b (Asks a o i)) ≡ b) [
    | true ↦ λ l. rw (l, w) refl
    | false ↦ λ l. rw l refl
  ] refl

  pub asks_new : b.live o ≡ true → owns o a ≡ false → eqb (b.proxy a o i) 0 ≡ true → changed b (change owns b (Asks a o i)) ≡ changed b (ToProxy a o i 5)
  asks_new l w z = rw (l, w, z) refl

  pub asks_more : b.live o ≡ true → owns o a ≡ false → eqb (b.proxy a o i) 0 ≡ false → changed b (change owns b (Asks a o i)) ≡ b
  asks_more l w z = rw (l, w, z) refl

  pub takes_here : owns o a ≡ true → changed b (change owns b (Takes a o i)) ≡ b
  takes_here w = elim (b.live o) as (λ l. b.live o ≡ l → changed b (change owns b (Takes a o i)) ≡ b) [
    | true ↦ λ l. rw (l, w) refl
    | false ↦ λ l. rw l refl
  ] refl

  pub takes_new : b.live o ≡ true → owns o a ≡ false → changed b (change owns b (Takes a o i)) ≡ changed b (ToProxy a o i 5)
  takes_new l w = rw (l, w) refl

  pub makes_here : owns o a ≡ true → changed b (change owns b (Makes a o i)) ≡ b
  makes_here w = rw w refl

  pub makes_new : owns o a ≡ false → changed b (change owns b (Makes a o i)) ≡ changed b (ToProxy a o i 5)
  makes_new w = rw w refl

  pub registers : b.live o ≡ true → changed b (change owns b (Registers o i)) ≡ changed b (ToCookie o i 1)
  registers l = rw l refl

module _ (owns : ℕ → ℕ → Bool) (b : Books) (a n : ℕ) (q : Packet) (e : packet b n ≡ q) where
  pub drops : q.outstanding ≡ true → changed b (change owns b (Drops n)) ≡ changed b (Return n)
  drops = subst (λ (q : Packet). q.outstanding ≡ true → changed b (change owns b (Drops n)) ≡ changed b (Return n)) e (λ o. rw o refl)

  pub joins : q.outstanding ≡ true → q.mode ≡ marshal.Normal → owns q.object a ≡ false → changed b (change owns b (Unmarshals a n)) ≡ changed b (Join a n)
  joins = subst (λ (q : Packet). q.outstanding ≡ true → q.mode ≡ marshal.Normal → owns q.object a ≡ false → changed b (change owns b (Unmarshals a n)) ≡ changed b (Join a n)) e (λ o m w. rw (o, m, w) refl)

  pub returns : q.outstanding ≡ true → q.mode ≡ marshal.Normal → owns q.object a ≡ true → changed b (change owns b (Unmarshals a n)) ≡ changed b (Return n)
  returns = subst (λ (q : Packet). q.outstanding ≡ true → q.mode ≡ marshal.Normal → owns q.object a ≡ true → changed b (change owns b (Unmarshals a n)) ≡ changed b (Return n)) e (λ o m w. rw (o, m, w) refl)

  table-change : (m : MarshalMode) (w : Bool) (o i : ℕ) → (m ≡ marshal.Normal → ⊥) → unmarshal_change m w a n o i ≡ cond w Same (ToProxy a o i 5)
  table-change marshal.Normal w o i other = absurd (other refl)
  table-change marshal.Strong w o i other = refl
  table-change marshal.Weak w o i other = refl

  by-table : (q : Packet) → packet b n ≡ q → q.outstanding ≡ true → (q.mode ≡ marshal.Normal → ⊥) → changed b (change owns b (Unmarshals a n)) ≡ changed b (cond (owns q.object a) Same (ToProxy a q.object q.iface 5))
  by-table q e = subst (λ (q : Packet). q.outstanding ≡ true → (q.mode ≡ marshal.Normal → ⊥) → changed b (change owns b (Unmarshals a n)) ≡ changed b (cond (owns q.object a) Same (ToProxy a q.object q.iface 5))) e
      (λ o other. rw o (ap (λ (c : Change). changed b c) (table-change (packet b n).mode (owns (packet b n).object a) (packet b n).object (packet b n).iface other)))

  pub takes_table : q.outstanding ≡ true → (q.mode ≡ marshal.Normal → ⊥) → owns q.object a ≡ false → changed b (change owns b (Unmarshals a n)) ≡ changed b (ToProxy a q.object q.iface 5)
  takes_table o other w = by-table q e o other ∙ ap (λ (t : Bool). changed b (cond t Same (ToProxy a q.object q.iface 5))) w

  pub keeps_table : q.outstanding ≡ true → (q.mode ≡ marshal.Normal → ⊥) → owns q.object a ≡ true → changed b (change owns b (Unmarshals a n)) ≡ b
  keeps_table o other w = by-table q e o other ∙ ap (λ (t : Bool). changed b (cond t Same (ToProxy a q.object q.iface 5))) w

pub books_live : (t : Tables) (o : ℕ) → is_connected t.stubs o ≡ true → (books_of t).live o ≡ true
unfolding books_of
books_live t o h = h

pub proxy_some : (t : Tables) (a o i : ℕ) → is_connected t.stubs o ≡ true → 0 < public_of t.proxies a o i → eqb ((books_of t).proxy a o i) 0 ≡ false
unfolding books_of
proxy_some t a o i h some = rw h (grind (arith, common_steps, some))

pub proxy_none : (t : Tables) (a o i : ℕ) → is_connected t.stubs o ≡ true → public_of t.proxies a o i ≤ 0 → eqb ((books_of t).proxy a o i) 0 ≡ true
unfolding books_of
proxy_none t a o i h none = rw h (grind (arith, common_steps, none))
