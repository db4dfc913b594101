-- A new packet, in the tables and in the books.
use Rattle.std.proofs.Common.{◌≡◌, ℕ, Bool, true, false, ◌+◌, ◌/◌, List, [], ◌∷◌, ◌++◌, refl, sym, ap, ◌∙◌, arith, cond, leb}
use Rattle.std.proofs.lemmas.Grind.{common_steps}
use Rattle.std.specs.Prelude.{map, Option, Some}
use Rattle.com_base.specs.declared.value.MarshalMode.{MarshalMode}
use Rattle.com_base.specs.declared.value.MarshalMode.TheVariants as marshal
use Rattle.com_base.specs.declared.value.RefValue.{RefValue}
use Rattle.com_packets.specs.declared.Packet as P
use Rattle.com_proxy.specs.declared.ProxyRow.{ProxyRow}
use Rattle.com_proxy.specs.Rows.{public_of, changed_row, halved}
use Rattle.com_proxy.proofs.Rows.{row_changed}
use Rattle.com_stub.specs.declared.counters.CounterRow.{CounterRow}
use Rattle.com_stub.specs.CounterRows.{has_counter, counter_of, changed_counter, more}
use Rattle.com_stub.proofs.CounterLemmas.{counter_changed}
use Rattle.com_refs_books.specs.Changes.{ToPacket, Split, changed, change, marshal_change, Marshals, at2}
use Rattle.com_refs_holders.specs.Steps.{minted, minted_counters, minted_rows}
use Rattle.com_refs_holders.specs.Tables.{Tables, packet_read, books_by, books_of, owns_of}
use Rattle.com_stub.specs.StubRows.{is_connected}
use Rattle.com_refs_holders.proofs.Same.{same_books}

-- one more packet
pushed : (live : ℕ → Bool) (ps : List (Option P.Packet)) (p : P.Packet) → live p.object ≡ true
    → map (packet_read live) (ps ++ Some p ∷ []) ≡ map (packet_read live) ps ++ record { outstanding = true; mode = p.mode; object = p.object; iface = p.iface; refs = p.refs } ∷ []
pushed live [] p h = rw h refl
pushed live (x ∷ ps) p h = ap (λ l. packet_read live x ∷ l) (pushed live ps p h)

module _ (live : ℕ → Bool) (cs : List CounterRow) (rs : List ProxyRow) (ps : List (Option P.Packet)) (gs : List (Option RefValue)) where
  pub stub_more : (o i n k j : ℕ) → live o ≡ true → has_counter cs o i ≡ true
      → cond (live k) (counter_of (changed_counter (more n) o i cs) k j).count 0 ≡ at2 o i (cond (live o) (counter_of cs o i).count 0 + n) (λ k j. cond (live k) (counter_of cs k j).count 0) k j
  stub_more o i n k j h q = grind (arith, common_steps, counter_changed cs (more n) o i k j (λ r. refl) (λ r. refl) q, h)

  pub new_reads : (m : MarshalMode) (o i n w : ℕ) → live o ≡ true → has_counter cs o i ≡ true
      → books_by live (changed_counter (more n) o i cs) rs (ps ++ Some (record { mode = m; object = o; iface = i; owner = w; refs = n }) ∷ []) gs ≡ changed (books_by live cs rs ps gs) (ToPacket m o i n)
  new_reads m o i n w h q = same_books _ _ (record {
    stub = λ k j. stub_more o i n k j h q;
    proxy = λ c k j. refl;
    packets = pushed live ps (record { mode = m; object = o; iface = i; owner = w; refs = n }) h;
    cookies = refl;
    live = λ k. refl;
    arguments = refl;
    result = refl;
  })

  pub split_reads : (a o i w : ℕ) → live o ≡ true
      → books_by live cs (changed_row halved a o i rs) (ps ++ Some (record { mode = marshal.Normal; object = o; iface = i; owner = w; refs = public_of rs a o i / 2 }) ∷ []) gs ≡ changed (books_by live cs rs ps gs) (Split a o i (public_of rs a o i / 2))
  split_reads a o i w h = same_books _ _ (record {
    stub = λ k j. refl;
    proxy = λ c k j. grind (arith, common_steps, row_changed rs halved a o i c k j (λ r. refl) (λ r. refl) (λ r. refl), h);
    packets = pushed live ps (record { mode = marshal.Normal; object = o; iface = i; owner = w; refs = public_of rs a o i / 2 }) h;
    cookies = refl;
    live = λ k. refl;
    arguments = refl;
    result = refl;
  })

  by_mode : (m : MarshalMode) (owned : Bool) (a o i w : ℕ) → live o ≡ true → has_counter cs o i ≡ true
      → books_by live (minted_counters owned m (public_of rs a o i) o i cs) (minted_rows owned m a o i rs) (ps ++ Some (record { mode = m; object = o; iface = i; owner = w; refs = minted owned m (public_of rs a o i) }) ∷ []) gs
      ≡ changed (books_by live cs rs ps gs) (marshal_change m owned (public_of rs a o i) a o i)
  unfolding minted minted_counters minted_rows
  by_mode marshal.Normal true a o i w h q = new_reads marshal.Normal o i 5 w h q
  by_mode marshal.Normal false a o i w h q =
      elim (leb 2 (public_of rs a o i)) as (λ t. books_by live (cond t cs (changed_counter (more 5) o i cs)) (cond t (changed_row halved a o i rs) rs) (ps ++ Some (record { mode = marshal.Normal; object = o; iface = i; owner = w; refs = cond t (public_of rs a o i / 2) 5 }) ∷ []) gs ≡ changed (books_by live cs rs ps gs) (cond t (Split a o i (public_of rs a o i / 2)) (ToPacket marshal.Normal o i 5))) [
        | true ↦ split_reads a o i w h
        | false ↦ new_reads marshal.Normal o i 5 w h q
      ]
  by_mode marshal.Strong owned a o i w h q = new_reads marshal.Strong o i 1 w h q
  by_mode marshal.Weak owned a o i w h q = new_reads marshal.Weak o i 0 w h q

  pub marshal_reads : (owns : ℕ → ℕ → Bool) (m : MarshalMode) (a o i w : ℕ) → live o ≡ true → has_counter cs o i ≡ true
      → books_by live (minted_counters (owns o a) m (public_of rs a o i) o i cs) (minted_rows (owns o a) m a o i rs) (ps ++ Some (record { mode = m; object = o; iface = i; owner = w; refs = minted (owns o a) m (public_of rs a o i) }) ∷ []) gs
      ≡ changed (books_by live cs rs ps gs) (change owns (books_by live cs rs ps gs) (Marshals a m o i))
  marshal_reads owns m a o i w h q = by_mode m (owns o a) a o i w h q ∙ sym (rw h refl)

-- the same of the tables
pub marshal_tables : (t u : Tables) (m : MarshalMode) (a o i w : ℕ) → is_connected t.stubs o ≡ true → has_counter t.counters o i ≡ true
    → u.stubs ≡ t.stubs → u.counters ≡ minted_counters (owns_of t.objects o a) m (public_of t.proxies a o i) o i t.counters
    → u.proxies ≡ minted_rows (owns_of t.objects o a) m a o i t.proxies
    → u.packets ≡ t.packets ++ Some (record { mode = m; object = o; iface = i; owner = w; refs = minted (owns_of t.objects o a) m (public_of t.proxies a o i) }) ∷ []
    → u.cookies ≡ t.cookies
    → books_of u ≡ changed (books_of t) (change (owns_of t.objects) (books_of t) (Marshals a m o i))
unfolding books_of
marshal_tables t u m a o i w h q es ec er ep eg =
    let e : books_of u ≡ books_by (is_connected t.stubs) (minted_counters (owns_of t.objects o a) m (public_of t.proxies a o i) o i t.counters) (minted_rows (owns_of t.objects o a) m a o i t.proxies) (t.packets ++ Some (record { mode = m; object = o; iface = i; owner = w; refs = minted (owns_of t.objects o a) m (public_of t.proxies a o i) }) ∷ []) t.cookies =
    rw (es, ec, er, ep, eg) refl in
    e ∙ marshal_reads (is_connected t.stubs) t.counters t.proxies t.packets t.cookies (owns_of t.objects) m a o i w h q
