-- Public references: how many the stub of each object counts, and who holds them; how rows change them, and
-- what is given back and cut at an entry's end. Source: MS-DCOM, the reference counts of STDOBJREF; Essential
-- COM, the stub manager and its marshalled packets.
use Rattle.std.specs.Prelude.{ℕ, zero, suc, ◌+◌, ◌-◌, ◌/◌, Bool, true, false, not, ◌==◌, ◌&&◌, nat_le}
use Rattle.std.specs.Prelude.{if◌then◌else◌, List, [], ◌∷◌, ◌++◌, map, length, fold, slice_set}
use Rattle.std.specs.Prelude.{slice_index_or, Option, Some, None, sum_by}
use Rattle.com_base.specs.declared.limits.TheConstants.{PUBLIC_REFERENCES}
use Rattle.com_base.specs.declared.value.RefValue.{RefValue}
use Rattle.com_base.specs.declared.value.MarshalMode.{MarshalMode}
use Rattle.com_base.specs.declared.value.MarshalMode.TheVariants as marshal
pub use Rattle.com_refs_books.specs.declared.keeps.Cookie.{Cookie}
pub use Rattle.com_refs_books.specs.declared.keeps.Packet.{Packet}
use Rattle.com_refs_books.specs.Counting.{sum_below, count_if, numbers_from}

-- The stub's count by object and interface; what a proxy holds, by apartment, object and interface; the
-- packets and cookies that were made, from number 1 on; which objects are connected; which packets carry the
-- arguments and the result of a call.
pub record Books : Type 0 where
  pub stub : ℕ → ℕ → ℕ
  pub proxy : ℕ → ℕ → ℕ → ℕ
  pub packets : List Packet
  pub cookies : List Cookie
  pub live : ℕ → Bool
  pub arguments : ℕ → List ℕ
  pub result : ℕ → Option ℕ

-- Where nobody holds a reference.
abbrev pub no_books : Books
no_books = record {
  stub = λ o i. 0;
  proxy = λ a o i. 0;
  packets = [];
  cookies = [];
  live = λ o. false;
  arguments = λ c. [];
  result = λ c. None;
}

-- What a packet is once it ended, and what is read for a number that no packet has: none that is outstanding.
abbrev pub no_packet : Packet
no_packet = record { outstanding = false; mode = marshal.Weak; object = 0; iface = 0; refs = 0 }

-- What a cookie is once it is revoked, and what is read for a number that no cookie has.
abbrev pub no_cookie : Cookie
no_cookie = record { is_revoked = true; object = 0; iface = 0; refs = 0 }

-- The packet with a number, from 1.
abbrev pub packet : Books → ℕ → Packet
packet b zero = no_packet
packet b (suc p) = slice_index_or b.packets p no_packet

-- The cookie with a number, from 1.
abbrev pub cookie : Books → ℕ → Cookie
cookie b zero = no_cookie
cookie b (suc g) = slice_index_or b.cookies g no_cookie

-- How the numbers change.
pub data Change : Type 0 where
  ToProxy : (a o i n : ℕ) → Change
  ToPacket : (m : MarshalMode) (o i n : ℕ) → Change
  Split : (a o i n : ℕ) → Change
  Join : (a p : ℕ) → Change
  Return : (p : ℕ) → Change
  ToCookie : (o i n : ℕ) → Change
  Withdraw : (g : ℕ) → Change
  Same : Change

-- A table by object and interface, with `x` at this object and interface.
abbrev pub at2 : ℕ → ℕ → ℕ → (ℕ → ℕ → ℕ) → ℕ → ℕ → ℕ
at2 o i x f k j = if k == o && j == i then x else f k j

-- A table by apartment, object and interface, with `x` at this apartment, object and interface.
abbrev pub at3 : ℕ → ℕ → ℕ → ℕ → (ℕ → ℕ → ℕ → ℕ) → ℕ → ℕ → ℕ → ℕ
at3 a o i x f c k j = if c == a && (k == o && j == i) then x else f c k j

-- An outstanding packet of an object's interface, with so many public references.
abbrev pub new_packet : MarshalMode → ℕ → ℕ → ℕ → Packet
new_packet m o i n = record { outstanding = true; mode = m; object = o; iface = i; refs = n }

-- The list with another item at a number, from 1. A number that no item has changes nothing.
abbrev pub set_from_one : {X : Type 0} → List X → ℕ → X → List X
set_from_one xs zero x = xs
set_from_one xs (suc k) x = slice_set xs k x

abbrev pub ended_packet : Books → ℕ → List Packet
ended_packet b p = set_from_one b.packets p no_packet

abbrev pub gain_stub : Books → ℕ → ℕ → ℕ → ℕ → ℕ → ℕ
gain_stub b o i n = at2 o i (b.stub o i + n) b.stub

-- The stub's counts with so many references less of an object's interface.
abbrev pub lose_stub : Books → ℕ → ℕ → ℕ → ℕ → ℕ → ℕ
lose_stub b o i n = at2 o i (b.stub o i - n) b.stub

-- New references to a proxy; a new packet; a packet from a proxy's own references; a packet's references to a
-- proxy; a packet's references back to the stub; a new cookie; a cookie's reference back.
abbrev pub changed : Books → Change → Books
changed b (ToProxy a o i n) =
    record b { stub = gain_stub b o i n; proxy = at3 a o i (b.proxy a o i + n) b.proxy }
changed b (ToPacket m o i n) =
    record b { stub = gain_stub b o i n; packets = b.packets ++ new_packet m o i n ∷ [] }
changed b (Split a o i n) =
    record b {
      proxy = at3 a o i (b.proxy a o i - n) b.proxy;
      packets = b.packets ++ new_packet marshal.Normal o i n ∷ [];
    }
changed b (Join a p) = record b {
  proxy =
      at3 a (packet b p).object (packet b p).iface
      (b.proxy a (packet b p).object (packet b p).iface + (packet b p).refs) b.proxy;
  packets = ended_packet b p;
}
changed b (Return p) =
    record b {
      stub = lose_stub b (packet b p).object (packet b p).iface (packet b p).refs;
      packets = ended_packet b p;
    }
changed b (ToCookie o i n) =
    record b {
      stub = gain_stub b o i n;
      cookies = b.cookies ++ record { is_revoked = false; object = o; iface = i; refs = n } ∷ [];
    }
changed b (Withdraw g) = record b {
  stub = lose_stub b (cookie b g).object (cookie b g).iface (cookie b g).refs;
  cookies = set_from_one b.cookies g no_cookie;
}
changed b Same = b

-- What an entry does, in the words of the table. The apartment is the running one, and at an Enter the one
-- that it names.
pub data Row : Type 0 where
  Makes : (a o i : ℕ) → Row
  Takes : (a o i : ℕ) → Row
  Asks : (a o i : ℕ) → Row
  Marshals : (a : ℕ) (m : MarshalMode) (o i : ℕ) → Row
  Unmarshals : (a p : ℕ) → Row
  Drops : (p : ℕ) → Row
  Registers : (o i : ℕ) → Row
  Revokes : (g : ℕ) → Row

-- A normal packet has `PUBLIC_REFERENCES` new references; one that a proxy with n of them makes, n at least 2,
-- has half of these, rounded down. A strong packet has 1 new reference, a weak one 0.
abbrev pub marshal_change : MarshalMode → (owned : Bool) → (held a o i : ℕ) → Change
marshal_change marshal.Normal owned n a o i =
    if owned then ToPacket marshal.Normal o i PUBLIC_REFERENCES else if nat_le 2 n then Split a o i (n / 2)
    else ToPacket marshal.Normal o i PUBLIC_REFERENCES
marshal_change marshal.Strong owned n a o i = ToPacket marshal.Strong o i 1
marshal_change marshal.Weak owned n a o i = ToPacket marshal.Weak o i 0

-- A normal packet's references go to the proxy, or back to the stub in the owner's apartment, and the packet
-- ends. A table packet stays, and a proxy gets `PUBLIC_REFERENCES` new references.
abbrev pub unmarshal_change : MarshalMode → (owned : Bool) → (a p o i : ℕ) → Change
unmarshal_change marshal.Normal owned a p o i = if owned then Return p else Join a p
unmarshal_change _ owned a p o i = if owned then Same else ToProxy a o i PUBLIC_REFERENCES

-- The table, judged on the books as they stand. A row is for an object that is connected, or that the entry
-- makes. What is not connected holds nothing, so that a cookie of it brings nothing back.
abbrev pub change : (owned : ℕ → ℕ → Bool) → Books → Row → Change
change owned b (Makes a o i) = if owned o a then Same else ToProxy a o i PUBLIC_REFERENCES
change owned b (Takes a o i) = if b.live o && not (owned o a) then ToProxy a o i PUBLIC_REFERENCES else Same
change owned b (Asks a o i) =
    if b.live o && (not (owned o a) && b.proxy a o i == 0) then ToProxy a o i PUBLIC_REFERENCES else Same
change owned b (Marshals a m o i) =
    if b.live o then marshal_change m (owned o a) (b.proxy a o i) a o i else Same
change owned b (Unmarshals a p) =
    if (packet b p).outstanding
    then unmarshal_change (packet b p).mode (owned (packet b p).object a) a p (packet b p).object
    (packet b p).iface
    else Same
change owned b (Drops p) = if (packet b p).outstanding then Return p else Same
change owned b (Registers o i) = if b.live o then ToCookie o i 1 else Same
change owned b (Revokes g) = Withdraw g

-- A row for each reference that is marshalled.
abbrev pub marshal_all : ℕ → List RefValue → List Row
marshal_all a rs = map (λ (r : RefValue). Marshals a marshal.Normal r.object r.iface) rs

-- The books after the rows of an entry, in order: each is judged on the books that those before it left.
abbrev pub entered_rows : (owned : ℕ → ℕ → Bool) → Books → List Row → Books
entered_rows owned b rs = fold (λ x r. changed x (change owned x r)) b rs

-- The packets that were made since. Packets count from 1 in order of making, arguments in their order.
abbrev pub made_since : Books → Books → List ℕ
made_since before after =
    numbers_from (length before.packets + 1) (length after.packets - length before.packets)

-- The first of the numbers, and None where there are none.
abbrev pub first_of : List ℕ → Option ℕ
first_of [] = None
first_of (x ∷ xs) = Some x

-- An apartment without place for an object gives all that its proxy has back.
abbrev pub given_back : ℕ → (ℕ → ℕ → ℕ) → Books → Books
given_back n places b = record b {
  stub = λ o i. b.stub o i - sum_below n (λ a. if places a o == 0 then b.proxy a o i else 0);
  proxy = λ a o i. if places a o == 0 then 0 else b.proxy a o i;
}

-- Whether a packet of this mode is weak: it never holds its object, as normal and strong packets do.
abbrev pub is_weak : MarshalMode → Bool
is_weak marshal.Weak = true
is_weak _ = false

-- 1 where a packet holds the object: it is outstanding, of the object and not weak. Else 0.
abbrev pub packet_holds : ℕ → Packet → ℕ
packet_holds o p = count_if (p.outstanding && (not (is_weak p.mode) && p.object == o))

-- 1 where a cookie holds the object: it is of the object and was not revoked. Else 0.
abbrev pub cookie_holds : ℕ → Cookie → ℕ
cookie_holds o g = count_if (not g.is_revoked && g.object == o)

-- How many packets and cookies hold an object, beside the places in apartments.
abbrev pub held_outside : Books → ℕ → ℕ
held_outside b o = sum_by (packet_holds o) b.packets + sum_by (cookie_holds o) b.cookies

-- What is not connected has no public references, and no packet of it is outstanding.
abbrev pub cut_packet : (ℕ → Bool) → Packet → Packet
cut_packet live p = if live p.object then p else no_packet

-- A cookie of an object that is not connected has no public reference; whether it is revoked stays.
abbrev pub cut_cookie : (ℕ → Bool) → Cookie → Cookie
cut_cookie live g = record g { refs = if live g.object then g.refs else 0 }

-- The books where just these objects are connected, so that nobody has a public reference of another object.
abbrev pub cut : (ℕ → Bool) → Books → Books
cut live b = record b {
  stub = λ o i. if live o then b.stub o i else 0;
  proxy = λ a o i. if live o then b.proxy a o i else 0;
  packets = map (cut_packet live) b.packets;
  cookies = map (cut_cookie live) b.cookies;
  live = live;
}

-- The public references that an outstanding packet carries of an object's interface; any other packet has 0 here.
abbrev pub packet_holds_of : (o i : ℕ) → Packet → ℕ
packet_holds_of o i p = if p.outstanding && (p.object == o && p.iface == i) then p.refs else 0

-- The public references that a cookie has of an object's interface. One that was revoked has 0.
abbrev pub cookie_holds_of : (o i : ℕ) → Cookie → ℕ
cookie_holds_of o i g = if g.object == o && g.iface == i then g.refs else 0

-- The public references of an object's interface with the proxies of apartments 0 to n - 1, all packets and all
-- cookies.
abbrev pub held : ℕ → Books → (o i : ℕ) → ℕ
held n b o i =
    sum_below n (λ a. b.proxy a o i) + sum_by (packet_holds_of o i) b.packets
    + sum_by (cookie_holds_of o i) b.cookies

-- Whether a packet of this mode is normal: it ends when it is unmarshalled, where a table packet stays.
abbrev pub is_normal : MarshalMode → Bool
is_normal marshal.Normal = true
is_normal _ = false

-- The public references of an outstanding normal packet of the object; any other packet has 0 here.
abbrev pub in_normal : ℕ → Packet → ℕ
in_normal o p = if p.outstanding && (is_normal p.mode && p.object == o) then p.refs else 0

-- The public references of an outstanding strong or weak packet of the object; any other packet has 0 here.
abbrev pub in_table : ℕ → Packet → ℕ
in_table o p = if p.outstanding && (not (is_normal p.mode) && p.object == o) then p.refs else 0

-- The public references of a cookie of the object, of whichever interface; another object's cookie has 0 here.
abbrev pub in_cookie : ℕ → Cookie → ℕ
in_cookie o g = if g.object == o then g.refs else 0
