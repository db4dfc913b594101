-- What bytes name, and the rows of packets and cookies.
use Rattle.std.proofs.Common.{◌≡◌, ℕ, zero, suc, ◌<◌, ◌≤◌, ◌^◌, true, false, Bool, cond, List, [], ◌∷◌, length, refl, sym, ap, ◌∙◌, arith}
use Rattle.std.specs.Prelude.{Option, None, Some, map, slice_index_or}
use Rattle.std.specs.Int.{from_le_bytes, w64}
use Rattle.std.proofs.lemmas.Nat.{from_le_bytes-to_le_bytes_8}
use Rattle.std.proofs.lemmas.List.{length-map}
use Rattle.com_base.specs.declared.standard.StdFields.{StdFields}
use Rattle.com_base.specs.declared.value.RefValue.{RefValue}
use Rattle.com_refs_books.specs.Changes.{Books, packet, cookie, no_packet, no_cookie}
use Rattle.com_refs_books.specs.declared.keeps.Packet.{Packet}
use Rattle.com_packets.specs.declared.Packet as P
use Rattle.com_proxy.specs.Rows.{public_of}
use Rattle.com_slots.specs.Table.{held_in}
use Rattle.com_stub.specs.StubRows.{is_connected}
use Rattle.com_refs_holders.specs.Tables.{Tables, books_of, outstanding_in, packet_read, cookie_read, live_packet, object_in}
use Rattle.com_refs.specs.Found.{IsFound, shown_packet, fields_by, fields_in}

-- ---- rows

read-packet : (live : ℕ → Bool) (ps : List (Option P.Packet)) (n : ℕ) → shown_packet (live_packet live (slice_index_or ps n None)) ≡ slice_index_or (map (packet_read live) ps) n no_packet
read-packet live [] n = refl
read-packet live (None ∷ ps) zero = refl
read-packet live (Some p ∷ ps) zero = elim (live p.object) as (λ y. live p.object ≡ y → shown_packet (live_packet live (Some p)) ≡ packet_read live (Some p)) [
  | true ↦ λ y. grind (arith, y)
  | false ↦ λ y. grind (arith, y)
] refl
read-packet live (p ∷ ps) (suc n) = read-packet live ps n

pub packet_is : (t : Tables) (n : ℕ) → shown_packet (outstanding_in (is_connected t.stubs) t.packets n) ≡ packet (books_of t) n
unfolding books_of outstanding_in
packet_is t zero = refl
packet_is t (suc n) = read-packet (is_connected t.stubs) t.packets n

read-cookie : (live : ℕ → Bool) (gs : List (Option RefValue)) (n : ℕ) → cookie_read live (slice_index_or gs n None) ≡ slice_index_or (map (cookie_read live) gs) n no_cookie
read-cookie live [] n = refl
read-cookie live (g ∷ gs) zero = refl
read-cookie live (g ∷ gs) (suc n) = read-cookie live gs n

pub cookie_is : (t : Tables) (n : ℕ) → cookie_read (is_connected t.stubs) (held_in t.cookies n) ≡ cookie (books_of t) n
unfolding books_of
cookie_is t zero = refl
cookie_is t (suc n) = read-cookie (is_connected t.stubs) t.cookies n

pub no_cookie_is : (t : Tables) (n : ℕ) → held_in t.cookies n ≡ None → no_cookie ≡ cookie (books_of t) n
no_cookie_is t n h = sym (ap (λ g. cookie_read (is_connected t.stubs) g) h) ∙ cookie_is t n

pub packets_many : (t : Tables) → length (books_of t).packets ≡ length t.packets
unfolding books_of
packets_many t = length-map t.packets (packet_read (is_connected t.stubs))

pub cookies_many : (t : Tables) → length (books_of t).cookies ≡ length t.cookies
unfolding books_of
cookies_many t = length-map t.cookies (cookie_read (is_connected t.stubs))

-- ---- what is named

past : (ps : List Packet) (n : ℕ) → (slice_index_or ps n no_packet).outstanding ≡ true → n < length ps
past [] n h = absurd (cc)
past (p ∷ ps) zero h = omega arith
past (p ∷ ps) (suc n) h = omega (arith, past ps n h)

inside : (b : Books) (n : ℕ) → (packet b n).outstanding ≡ true → n ≤ length b.packets
inside b zero h = omega arith
inside b (suc n) h = omega (arith, past b.packets n h)

pub found_inside : (t : Tables) (fields : StdFields) (iface n : ℕ) → IsFound t fields iface n → n ≤ length t.packets
found_inside t fields iface n f = omega (arith, inside (books_of t) n f.outstanding, packets_many t)

pub found_number : (t : Tables) (fields : StdFields) (iface n : ℕ) → length t.packets < 2 ^ 32 → IsFound t fields iface n → from_le_bytes w64 fields.ipid.data4 ≡ n
found_number t fields iface n few f =
    sym (ap (λ (g : StdFields). from_le_bytes w64 g.ipid.data4) f.written) ∙ from_le_bytes-to_le_bytes_8 n (omega (arith, few, found_inside t fields iface n f))

-- ---- a proxy's references

pub proxy_live : (t : Tables) (a o i : ℕ) → is_connected t.stubs o ≡ true → (books_of t).proxy a o i ≡ public_of t.proxies a o i
unfolding books_of
proxy_live t a o i l = ap (λ b. cond b (public_of t.proxies a o i) 0) l

pub proxy_dead : (t : Tables) (a o i : ℕ) → is_connected t.stubs o ≡ false → (books_of t).proxy a o i ≡ 0
unfolding books_of
proxy_dead t a o i l = ap (λ b. cond b (public_of t.proxies a o i) 0) l

-- ---- the test of what is named

fields-same : (t : Tables) (fields : StdFields) (n : ℕ) (row : Packet) (owner : ℕ) → row ≡ packet (books_of t) n → owner ≡ (object_in t.objects row.object).owner → fields_in t fields.iid n ≡ fields_by owner fields.iid row n
fields-same t fields n row owner is own =
    ap (λ (k : Packet). fields_by (object_in t.objects k.object).owner fields.iid k n) (sym is) ∙ ap (λ (a : ℕ). fields_by a fields.iid row n) (sym own)

pub found : (t : Tables) (fields : StdFields) (iface n : ℕ) (row : Packet) (owner : ℕ) → row ≡ packet (books_of t) n → owner ≡ (object_in t.objects row.object).owner
    → (row.outstanding ≡ true) × ((row.iface ≡ iface) × (fields_by owner fields.iid row n ≡ fields)) → IsFound t fields iface n
found t fields iface n row owner is own h = record {
  outstanding = ap (λ (k : Packet). k.outstanding) (sym is) ∙ h.0;
  of_iface = ap (λ (k : Packet). k.iface) (sym is) ∙ h.1.0;
  written = fields-same t fields n row owner is own ∙ h.1.1;
}

pub finds : (t : Tables) (fields : StdFields) (iface n : ℕ) (row : Packet) (owner : ℕ) → row ≡ packet (books_of t) n → owner ≡ (object_in t.objects row.object).owner
    → IsFound t fields iface n → (row.outstanding ≡ true) × ((row.iface ≡ iface) × (fields_by owner fields.iid row n ≡ fields))
finds t fields iface n row owner is own f = (ap (λ (k : Packet). k.outstanding) is ∙ f.outstanding, (ap (λ (k : Packet). k.iface) is ∙ f.of_iface, sym (fields-same t fields n row owner is own) ∙ f.written))
