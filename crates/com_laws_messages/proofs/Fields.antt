-- The packets of references that are marshalled one behind the other: each is of its reference, and its fields name it.
use Rattle.std.proofs.Common.{subst, sym, ap, ◌∙◌, append_assoc, length-append, arith}
use Rattle.std.proofs.lemmas.Grind.{common_steps}
use Rattle.std.proofs.lemmas.Nat.{from_le_bytes-to_le_bytes_8}
use Rattle.std.specs.Prelude.{◌≡◌, refl, ℕ, zero, suc, ◌+◌, ◌-◌, ◌*◌, ◌/◌, ◌^◌, ◌≤◌, Bool, true, false, cond, ◌==◌, ◌&&◌, nat_le, List, [], ◌∷◌, ◌++◌, length, map, slice_index_or}
use Rattle.com_base.specs.declared.standard.StdFields.{StdFields}
use Rattle.com_base.specs.declared.value.RefValue.{RefValue}
use Rattle.com_base.specs.declared.value.MarshalMode.TheVariants as marshal
use Rattle.com_model.specs.declared.deeds.Entry.{Entry}
use Rattle.com_model.specs.declared.scenario.Scenario.{Scenario}
use Rattle.com_model.specs.Books.{books}
use Rattle.com_model.specs.Formed.{Formed}
use Rattle.com_model.specs.Rules.{legal}
use Rattle.com_model.specs.Sight.{Sight}
use Rattle.com_model.specs.Deeds.{packet_fields}
use Rattle.com_refs_books.specs.Counting.{numbers_from}
use Rattle.com_refs_books.specs.declared.keeps.Packet.{Packet}
use Rattle.com_refs_books.specs.Changes.{Books, no_packet, packet, Change, ToProxy, ToPacket, Split, Join, Return, ToCookie, Withdraw, Same, new_packet, changed, Marshals, marshal_change, change, marshal_all, entered_rows}
use Rattle.com_model.proofs.Fines.{cond-is}
use Rattle.com_laws_balance.proofs.Packets.{AllLive}
use Rattle.com_laws_ranges.proofs.Holding.{proxies-few}
use Rattle.com_exchange.specs.Received.{reference_in_fields, packet_in_fields}

-- ---- what is marshalled is appended

-- A packet of a reference, with n public references at most.
pub record IsNew (n : ℕ) (k : Packet) (r : RefValue) : Type 0 where
  pub refs : ℕ
  pub is : k ≡ new_packet marshal.Normal r.object r.iface refs
  pub few : refs ≤ n

abbrev pub AreNew : ℕ → List Packet → List RefValue → Type 0
AreNew n [] [] = Unit {0}
AreNew n [] (r ∷ rs) = ⊥
AreNew n (k ∷ ks) [] = ⊥
AreNew n (k ∷ ks) (r ∷ rs) = IsNew n k r × AreNew n ks rs

pub record Added (n : ℕ) (b c : Books) (rs : List RefValue) : Type 0 where
  pub new : List Packet
  pub is : c.packets ≡ b.packets ++ new
  pub are : AreNew n new rs

-- No proxy holds more than n of one object's interface, where n is 5 at least.
pub record FewHeld (n : ℕ) (b : Books) : Type 0 where
  pub five : 5 ≤ n
  pub proxies : (a o i : ℕ) → b.proxy a o i ≤ n

pub held-few : (s : Scenario) (h : List Entry) → Formed s → legal s h → FewHeld (20 * length h + 5) (books s h)
held-few s h f q = record { five = omega arith; proxies = λ a o i. let z : (books s h).proxy a o i ≤ 20 * length h = proxies-few s h f q a o i in omega (arith, z) }

record Pushed (n : ℕ) (b c : Books) (r : RefValue) : Type 0 where
  refs : ℕ
  is : c.packets ≡ b.packets ++ new_packet marshal.Normal r.object r.iface refs ∷ []
  few : refs ≤ n
  left : FewHeld n c

pushed-if : (n : ℕ) (b : Books) (r : RefValue) (t : Bool) (x y : Change) → Pushed n b (changed b x) r → Pushed n b (changed b y) r → Pushed n b (changed b (cond t x y)) r
pushed-if n b r true x y p q = p
pushed-if n b r false x y p q = q

half-few : (x n : ℕ) → x ≤ n → x / 2 ≤ n
half-few x n h = omega (arith, h)

less-few : (x y n : ℕ) → x ≤ n → x - y ≤ n
less-few x y n h = omega (arith, h)

new-pushed : (n : ℕ) (b : Books) (r : RefValue) → FewHeld n b → Pushed n b (changed b (ToPacket marshal.Normal r.object r.iface 5)) r
new-pushed n b r h = record { refs = 5; is = refl; few = h.five; left = record { five = h.five; proxies = h.proxies } }

split-pushed : (n : ℕ) (b : Books) (a : ℕ) (r : RefValue) → FewHeld n b → Pushed n b (changed b (Split a r.object r.iface (b.proxy a r.object r.iface / 2))) r
split-pushed n b a r h = record {
  refs = b.proxy a r.object r.iface / 2;
  is = refl;
  few = half-few (b.proxy a r.object r.iface) n (h.proxies a r.object r.iface);
  left = record { five = h.five; proxies = λ c k j. cond-is (λ x. x ≤ n) (c == a && (k == r.object && j == r.iface)) _ (b.proxy c k j) (less-few (b.proxy a r.object r.iface) _ n (h.proxies a r.object r.iface)) (h.proxies c k j) };
}

marshal-pushed : (n : ℕ) (b : Books) (owned : Bool) (a : ℕ) (r : RefValue) → FewHeld n b → Pushed n b (changed b (marshal_change marshal.Normal owned (b.proxy a r.object r.iface) a r.object r.iface)) r
marshal-pushed n b owned a r h =
    pushed-if n b r owned (ToPacket marshal.Normal r.object r.iface 5) _ (new-pushed n b r h)
    (pushed-if n b r (nat_le 2 (b.proxy a r.object r.iface)) (Split a r.object r.iface (b.proxy a r.object r.iface / 2)) (ToPacket marshal.Normal r.object r.iface 5) (split-pushed n b a r h) (new-pushed n b r h))

row-pushed : (n : ℕ) (owned : ℕ → ℕ → Bool) (b : Books) (a : ℕ) (r : RefValue) → FewHeld n b → b.live r.object ≡ true → Pushed n b (changed b (change owned b (Marshals a marshal.Normal r.object r.iface))) r
row-pushed n owned b a r h e =
    subst (λ (t : Bool). Pushed n b (changed b (cond t (marshal_change marshal.Normal (owned r.object a) (b.proxy a r.object r.iface) a r.object r.iface) Same)) r) (sym e)
    (marshal-pushed n b (owned r.object a) a r h)

live-kept : (b : Books) (c : Change) → (changed b c).live ≡ b.live
live-kept b (ToProxy x y z m) = refl
live-kept b (ToPacket m x y r) = refl
live-kept b (Split x y z m) = refl
live-kept b (Join x q) = refl
live-kept b (Return q) = refl
live-kept b (ToCookie x y m) = refl
live-kept b (Withdraw g) = refl
live-kept b Same = refl

nothing-added : (ps : List Packet) → ps ≡ ps ++ []
nothing-added ps = grind (arith, common_steps)

pub marshals-add : (n : ℕ) (owned : ℕ → ℕ → Bool) (b : Books) (a : ℕ) (rs : List RefValue) → FewHeld n b → AllLive b.live rs → Added n b (entered_rows owned b (marshal_all a rs)) rs
marshals-add n owned b a [] h p = record { new = []; is = nothing-added b.packets; are = tt }
marshals-add n owned b a (r ∷ rs) h p =
    let x : Change = change owned b (Marshals a marshal.Normal r.object r.iface) in
    let u : Pushed n b (changed b x) r = row-pushed n owned b a r h p.0 in
    let v : Added n (changed b x) (entered_rows owned (changed b x) (marshal_all a rs)) rs = marshals-add n owned (changed b x) a rs u.left (subst (λ (f : ℕ → Bool). AllLive f rs) (sym (live-kept b x)) p.1) in
    record {
      new = new_packet marshal.Normal r.object r.iface u.refs ∷ v.new;
      is = v.is ∙ ap (λ (ps : List Packet). ps ++ v.new) u.is ∙ append_assoc b.packets (new_packet marshal.Normal r.object r.iface u.refs ∷ []) v.new;
      are = (record { refs = u.refs; is = refl; few = u.few }, v.are);
    }

pub as-many-new : (n : ℕ) (ks : List Packet) (rs : List RefValue) → AreNew n ks rs → length ks ≡ length rs
as-many-new n [] [] p = refl
as-many-new n [] (r ∷ rs) p = absurd p
as-many-new n (k ∷ ks) [] p = absurd p
as-many-new n (k ∷ ks) (r ∷ rs) p = ap suc (as-many-new n ks rs p.1)

-- ---- their fields

abbrev pub at_number : List Packet → ℕ → Packet
at_number ps zero = no_packet
at_number ps (suc p) = slice_index_or ps p no_packet

pub packet-at : (b : Books) (p : ℕ) → packet b p ≡ at_number b.packets p
packet-at b zero = refl
packet-at b (suc p) = refl

abbrev pub fields_from : Scenario → Sight → ℕ → List Packet → List StdFields
fields_from s v n [] = []
fields_from s v n (k ∷ ks) = packet_fields s v k n ∷ fields_from s v (n + 1) ks

at-end : (front : List Packet) (k : Packet) (ks : List Packet) → slice_index_or (front ++ k ∷ ks) (length front) no_packet ≡ k
at-end [] k ks = refl
at-end (x ∷ front) k ks = at-end front k ks

one-more : (n : ℕ) → suc n ≡ n + 1
one-more n = omega arith

pub front-next : (front : List Packet) (k : Packet) (ks : List Packet) → at_number (front ++ k ∷ ks) (length front + 1) ≡ k
front-next front k ks = subst (λ (n : ℕ). at_number (front ++ k ∷ ks) n ≡ k) (one-more (length front)) (at-end front k ks)

longer : (front : List Packet) (k : Packet) → length (front ++ k ∷ []) ≡ length front + 1
longer front k = length-append front (k ∷ [])

pub fields-are : (s : Scenario) (v : Sight) (at : ℕ → Packet) (front new : List Packet) → ((p : ℕ) → at p ≡ at_number (front ++ new) p)
    → map (λ p. packet_fields s v (at p) p) (numbers_from (length front + 1) (length new)) ≡ fields_from s v (length front + 1) new
fields-are s v at front [] is = refl
fields-are s v at front (k ∷ ks) is =
    let n : ℕ = length front + 1 in
    let here : at n ≡ k = is n ∙ front-next front k ks in
    let rest : map (λ p. packet_fields s v (at p) p) (numbers_from (length (front ++ k ∷ []) + 1) (length ks)) ≡ fields_from s v (length (front ++ k ∷ []) + 1) ks =
    fields-are s v at (front ++ k ∷ []) ks (λ p. is p ∙ ap (λ (ps : List Packet). at_number ps p) (sym (append_assoc front (k ∷ []) ks))) in
    ap (λ (x : Packet). packet_fields s v x n ∷ map (λ p. packet_fields s v (at p) p) (numbers_from (n + 1) (length ks))) here
    ∙ ap (λ (fs : List StdFields). packet_fields s v k n ∷ fs)
    (subst (λ (m : ℕ). map (λ p. packet_fields s v (at p) p) (numbers_from (m + 1) (length ks)) ≡ fields_from s v (m + 1) ks) (longer front k) rest)

pub fields-name : (s : Scenario) (v : Sight) (x n : ℕ) (ks : List Packet) (rs : List RefValue) → AreNew x ks rs → map reference_in_fields (fields_from s v n ks) ≡ rs
fields-name s v x n [] [] p = refl
fields-name s v x n [] (r ∷ rs) p = absurd p
fields-name s v x n (k ∷ ks) [] p = absurd p
fields-name s v x n (k ∷ ks) (r ∷ rs) p =
    ap (λ (y : Packet). record { object = y.object; iface = y.iface } ∷ map reference_in_fields (fields_from s v (n + 1) ks)) p.0.is
    ∙ ap (λ (xs : List RefValue). r ∷ xs) (fields-name s v x (n + 1) ks rs p.1)

pub fields-number : (s : Scenario) (v : Sight) (n : ℕ) (ks : List Packet) → n + length ks ≤ 2 ^ 64 → map packet_in_fields (fields_from s v n ks) ≡ numbers_from n (length ks)
fields-number s v n [] h = refl
fields-number s v n (k ∷ ks) h =
    ap (λ (p : ℕ). p ∷ map packet_in_fields (fields_from s v (n + 1) ks)) (from_le_bytes-to_le_bytes_8 n (omega (arith, h)))
    ∙ ap (λ (ps : List ℕ). n ∷ ps) (fields-number s v (n + 1) ks (omega (arith, h)))
