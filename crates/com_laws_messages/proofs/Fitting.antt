-- The numbers of what an Out sends fit the types that hold them, within the limit of entries.
use Rattle.std.proofs.Common.{subst, sym, arith}
use Rattle.std.proofs.lemmas.List.Elements.{All-cons, All-nil}
use Rattle.std.specs.Int.{w64, byte_at, bytes_low_first, to_le_bytes}
use Rattle.std.specs.Prelude.{◌≡◌, refl, ℕ, zero, suc, ◌+◌, ◌%◌, ◌/◌, ◌^◌, ◌≤◌, ◌<◌, ◌==◌, List, [], ◌∷◌, length, Option, Some, None, All}
use Rattle.com_base.specs.declared.value.RefValue.{RefValue}
use Rattle.com_base.specs.declared.value.Value.{Value}
use Rattle.com_base.specs.declared.value.Value.TheVariants as value
use Rattle.com_base.specs.Guids.{IsBytes, IsGuid}
use Rattle.com_classes.specs.Lookups.{interface_at}
use Rattle.com_wire.proofs.Fields.{wide64}
use Rattle.objref.specs.Grammar.{IsStdFields}
use Rattle.com_model.specs.declared.deeds.Deed.{Deed}
use Rattle.com_model.specs.declared.deeds.Deed.TheVariants as deed
use Rattle.com_model.specs.declared.deeds.Entry.{Entry}
use Rattle.com_model.specs.declared.deeds.Route.{Route}
use Rattle.com_model.specs.declared.scenario.Scenario.{Scenario}
use Rattle.com_model.specs.Ends.{limit}
use Rattle.com_model.specs.Openers.{openers, running_call}
use Rattle.com_model.specs.Apartments.{stas}
use Rattle.com_model.specs.Objects.{objects, named}
use Rattle.com_model.specs.Calls.{issues, issue_or, issue, cause_of, causes, cause_for}
use Rattle.com_model.specs.declared.keeps.Issue.{Issue}
use Rattle.com_model.specs.Values.{carried}
use Rattle.com_model.specs.Formed.{Formed}
use Rattle.com_model.specs.Issue.{sent}
use Rattle.com_model.specs.Sight.{Sight, sight}
use Rattle.com_model.specs.Deeds.{iid_of, ipid, packet_fields, next_cause}
use Rattle.com_model.specs.Rules.{next, legal}
use Rattle.com_refs_books.specs.declared.keeps.Packet.{Packet}
use Rattle.com_model.proofs.Fines.{cond-is}
use Rattle.com_model.proofs.Goods.{all-or, GoodValue}
use Rattle.com_model.proofs.Scenes.{faces}
use Rattle.com_model.proofs.Kept.{legal-kept}
use Rattle.com_laws_balance.proofs.Carries.{all-head, all-tail}
use Rattle.com_laws_ranges.proofs.Numbers.{causes-few, objects-few, stas-few}
use Rattle.com_laws_messages.proofs.Fields.{IsNew, AreNew, fields_from}
use Rattle.com_laws_messages.proofs.Outs.{OutGives, out-gives}
use Rattle.com_laws_messages.proofs.Sending.{FieldsFit}

-- ---- the fields of packets

a-byte : (n : ℕ) → n % 256 < 256
a-byte n = omega arith

byte-low : (i n : ℕ) → byte_at i n < 256
byte-low zero n = a-byte n
byte-low (suc i) n = a-byte (n / 256 ^ suc i)

low-bytes : (i k n : ℕ) → All (λ b. b < 256) (bytes_low_first i k n)
low-bytes i zero n = All-nil (λ b. b < 256)
low-bytes i (suc k) n = All-cons (λ b. b < 256) (byte_at i n) (bytes_low_first (suc i) k n) (byte-low i n) (low-bytes (suc i) k n)

number-bytes : (p : ℕ) → IsBytes (to_le_bytes w64 p)
number-bytes p i = all-or (λ b. b < 256) (to_le_bytes w64 p) i 0 (omega arith) (low-bytes 0 8 p)

pub ipid-fits : (o i a p : ℕ) → o < 2 ^ 32 → i < 2 ^ 16 → IsGuid (ipid o i a p)
ipid-fits o i a p h k = record { data1 = h; data2 = k; data3 = omega arith; eight = wide64.len p; bytes = number-bytes p }

abbrev RefFits : RefValue → Type 0
RefFits r = (r.object < 2 ^ 32) × (r.iface < 2 ^ 16)

abbrev pub RefsFit : List RefValue → Type 0
RefsFit [] = Unit {0}
RefsFit (r ∷ rs) = RefFits r × RefsFit rs

one-fits : (s : Scenario) (v : Sight) (x n : ℕ) (k : Packet) (r : RefValue) → ((i : ℕ) → IsGuid (iid_of (interface_at s.classes i))) → ((o : ℕ) → v.named o < 2 ^ 32) → x < 2 ^ 32 → RefFits r → IsNew x k r → IsStdFields (packet_fields s v k n)
one-fits s v x n k r iids named low fits z =
    subst (λ (y : Packet). IsStdFields (packet_fields s v y n)) (sym z.is) (record {
      iid = iids r.iface;
      refs = omega (arith, z.few, low);
      oxid = omega (arith, named r.object);
      oid = omega (arith, fits.0);
      ipid = ipid-fits r.object r.iface (v.named r.object) n fits.0 fits.1;
    })

pub fields-fit : (s : Scenario) (v : Sight) (x n : ℕ) (ks : List Packet) (rs : List RefValue) → ((i : ℕ) → IsGuid (iid_of (interface_at s.classes i))) → ((o : ℕ) → v.named o < 2 ^ 32) → x < 2 ^ 32 → RefsFit rs → AreNew x ks rs → FieldsFit (fields_from s v n ks)
fields-fit s v x n [] [] iids named low fits z = tt
fields-fit s v x n [] (r ∷ rs) iids named low fits z = absurd z
fields-fit s v x n (k ∷ ks) [] iids named low fits z = absurd z
fields-fit s v x n (k ∷ ks) (r ∷ rs) iids named low fits z = (one-fits s v x n k r iids named low fits.0 z.0, fields-fit s v x (n + 1) ks rs iids named low fits.1 z.1)

-- ---- references

pub refs-fit : (n m : ℕ) (vs : List Value) → n < 2 ^ 32 → m ≤ 2 ^ 16 → All (GoodValue n m) vs → RefsFit (carried vs)
refs-fit n m [] h k p = tt
refs-fit n m (value.Ref (Some r) ∷ vs) h k p =
    let g : (r.object ≤ n) × (r.iface < m) = all-head (GoodValue n m) (value.Ref (Some r)) vs p in
    let a : r.object ≤ n = g.0 in
    let b : r.iface < m = g.1 in
    ((omega (arith, h, a), omega (arith, k, b)), refs-fit n m vs h k (all-tail (GoodValue n m) (value.Ref (Some r)) vs p))
refs-fit n m (value.Ref None ∷ vs) h k p = refs-fit n m vs h k (all-tail (GoodValue n m) (value.Ref None) vs p)
refs-fit n m (value.Int x ∷ vs) h k p = refs-fit n m vs h k (all-tail (GoodValue n m) (value.Int x) vs p)
refs-fit n m (value.Bool x ∷ vs) h k p = refs-fit n m vs h k (all-tail (GoodValue n m) (value.Bool x) vs p)
refs-fit n m (value.Text x ∷ vs) h k p = refs-fit n m vs h k (all-tail (GoodValue n m) (value.Text x) vs p)
refs-fit n m (value.Bytes x ∷ vs) h k p = refs-fit n m vs h k (all-tail (GoodValue n m) (value.Bytes x) vs p)
refs-fit n m (value.Guid x ∷ vs) h k p = refs-fit n m vs h k (all-tail (GoodValue n m) (value.Guid x) vs p)

pub sent-fit : (s : Scenario) (h : List Entry) (c : ℕ) → Formed s → legal s h → length h ≤ 1_000_000 → RefsFit (carried (sent s h c))
sent-fit s h c f q n =
    let k : objects h ≤ length h = objects-few h in
    let m : faces s ≤ 64 = f.interfaces.few in
    refs-fit (objects h) (faces s) (sent s h c) (omega (arith, k, n)) (omega (arith, m)) ((legal-kept s h f q).sent c)

pub named-fits : (s : Scenario) (h : List Entry) → Formed s → legal s h → length h ≤ 1_000_000 → (o : ℕ) → named h o < 2 ^ 32
named-fits s h f q n o =
    let k : named h o < length (stas h) + 3 = (legal-kept s h f q).named o in
    let m : length (stas h) ≤ length h = stas-few h in
    omega (arith, k, m, n)

-- ---- causalities

cause-after : (h : List Entry) (l c n : ℕ) (d : Deed) → ((k : ℕ) (o : Option ℕ) (i m : ℕ) (r : Route) (x : ℕ) (bytes : Option (List ℕ)) → d ≡ deed.Out k o i m r x bytes → x ≤ n) → cause_of (issue h c) ≤ n → cause_of (issue_or (issues l d) c (issue h c)) ≤ n
cause-after h l c n (deed.Out k o i m r x bytes) f p =
    cond-is (λ (y : Option Issue). cause_of y ≤ n) (k == c) (Some (record { call = k; lane = l; object = o; iface = i; method = m; route = r; cause = x })) (issue h c) (f k o i m r x bytes refl) p
cause-after h l c n _ f p = p

cause-by : (h : List Entry) (n : ℕ) (o : Option ℕ) → ((c : ℕ) → cause_of (issue h c) ≤ n) → causes h ≤ n → cause_for (issue h) (causes h) o ≤ n + 1
cause-by h n None f p = omega (arith, p)
cause-by h n (Some c) f p = let q : cause_of (issue h c) ≤ n = f c in omega (arith, q)

cause-low : (s : Scenario) (h : List Entry) → legal s h → (c : ℕ) → cause_of (issue h c) ≤ length h
cause-low s [] q c = omega arith
cause-low s (e ∷ h) q c =
    let before : cause_of (issue h c) ≤ length h = cause-low s h q.0 c in
    let drawn : cause_for (issue h) (causes h) (running_call (openers h e.lane)) ≤ length h + 1 = cause-by h (length h) (running_call (openers h e.lane)) (cause-low s h q.0) (causes-few h) in
    cause-after h e.lane c (suc (length h)) e.deed
    (λ k o i m r x bytes d.
    let z : OutGives s (sight s h) e.lane i m r x bytes = out-gives s h e.lane k o i m r x bytes (subst (λ (y : Deed). next s h e.lane ≡ Some y) d q.1) in
    let is : x ≡ cause_for (issue h) (causes h) (running_call (openers h e.lane)) = z.cause in
    omega (arith, is, drawn))
    (omega (arith, before))

pub cause-fits : (s : Scenario) (h : List Entry) (l : ℕ) → legal s h → length h ≤ 1_000_000 → next_cause (sight s h) l < 2 ^ 32
cause-fits s h l q n =
    let drawn : cause_for (issue h) (causes h) (running_call (openers h l)) ≤ length h + 1 = cause-by h (length h) (running_call (openers h l)) (cause-low s h q) (causes-few h) in
    let low : cause_for (issue h) (causes h) (running_call (openers h l)) < 2 ^ 32 = omega (arith, drawn, n) in
    low

-- ---- the limit

pub limit-low : (s : Scenario) → limit s ≤ 1_000_000
limit-low s = cond-is (λ n. n ≤ 1_000_000) (s.version == 2) 1_000_000 200_000 (omega arith) (omega arith)
