-- References that are marshalled make one packet each at most.
use Rattle.std.proofs.Common.{ℕ, Bool, true, false, nat_le, cond, ◌+◌, ◌/◌, ◌≤◌, ◌-◌, List, [], ◌∷◌, ◌++◌, length, subst, sym, arith}
use Rattle.com_base.specs.declared.value.RefValue.{RefValue}
use Rattle.com_base.specs.declared.value.MarshalMode.TheVariants as marshal
use Rattle.com_refs_books.specs.Changes.{Books, Same, Split, ToPacket, changed, change, entered_rows, marshal_all, marshal_change, Marshals}
use Rattle.com_refs_books.specs.declared.keeps.Packet.{Packet}
use Rattle.com_refs_holders.specs.Tables.{Tables, books_of, owns_of}
use Rattle.com_refs_rows.specs.Books.{Marshalled}

one-longer : (xs : List Packet) (x : Packet) → length (xs ++ x ∷ []) ≤ length xs + 1
one-longer [] x = omega arith
one-longer (y ∷ ys) x = omega (arith, one-longer ys x)

packet-more : (b : Books) (owned : Bool) (n a o i : ℕ) → length (changed b (marshal_change marshal.Normal owned n a o i)).packets ≤ length b.packets + 1
packet-more b true n a o i = one-longer b.packets _
packet-more b false n a o i = elim (nat_le 2 n) as (λ t. length (changed b (cond t (Split a o i (n / 2)) (ToPacket marshal.Normal o i 5))).packets ≤ length b.packets + 1) [
  | true ↦ one-longer b.packets _
  | false ↦ one-longer b.packets _
]

row-more : (owned : ℕ → ℕ → Bool) (b : Books) (a o i : ℕ) → length (changed b (change owned b (Marshals a marshal.Normal o i))).packets ≤ length b.packets + 1
row-more owned b a o i = elim (b.live o) as (λ t. length (changed b (cond t (marshal_change marshal.Normal (owned o a) (b.proxy a o i) a o i) Same)).packets ≤ length b.packets + 1) [
  | true ↦ packet-more b (owned o a) (b.proxy a o i) a o i
  | false ↦ omega arith
]

rows-more : (owned : ℕ → ℕ → Bool) (b : Books) (a : ℕ) (rs : List RefValue) → length (entered_rows owned b (marshal_all a rs)).packets ≤ length b.packets + length rs
rows-more owned b a [] = omega arith
rows-more owned b a (r ∷ rs) =
    omega (arith, row-more owned b a r.object r.iface, rows-more owned (changed b (change owned b (Marshals a marshal.Normal r.object r.iface))) a rs)

pub few_packets : (a : ℕ) (rs : List RefValue) (t u : Tables) → Marshalled (marshal_all a rs) t u → length (books_of u).packets - length (books_of t).packets ≤ length rs
few_packets a rs t u m =
    let few : length (books_of u).packets ≤ length (books_of t).packets + length rs =
    subst (λ (b : Books). length b.packets ≤ length (books_of t).packets + length rs) (sym m.books) (rows-more (owns_of t.objects) (books_of t) a rs) in
    omega (arith, few)
