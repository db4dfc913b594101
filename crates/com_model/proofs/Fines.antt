-- What the next entry of a lane names is there: made objects, declared interfaces and apartments, where what the rules look at
-- names only such.
use Rattle.std.proofs.Common.{subst, arith}
use Rattle.std.proofs.lemmas.List.Elements.{All-cons, All-nil}
use Rattle.std.proofs.lemmas.List.Quantifiers.{position-Some}
use Rattle.std.proofs.lemmas.Option.{slice_get_within}
use Rattle.std.proofs.lemmas.Grind.{common_steps}
use Rattle.std.specs.Prelude.{◌≡◌, refl, ℕ, ℤ, zero, suc, ◌+◌, ◌≤◌, ◌<◌, Bool, true, false, cond, not, ◌&&◌, ◌==◌, nat_le, List, [], ◌∷◌, length, Option, Some, None, is_some, All, Result, Ok, Err, option_map, position, slice_get}
use Rattle.com_base.specs.declared.hresult.HResult.{HResult}
use Rattle.com_base.specs.declared.value.RefValue.{RefValue}
use Rattle.com_base.specs.declared.value.Value.{Value}
use Rattle.com_base.specs.declared.value.Value.TheVariants as value
use Rattle.com_base.specs.declared.value.Kind.{Kind}
use Rattle.com_base.specs.declared.value.Kind.TheVariants as kind
use Rattle.com_base.specs.declared.value.Mode.{Mode}
use Rattle.com_base.specs.declared.value.Mode.TheVariants as mode
use Rattle.com_base.specs.declared.value.MarshalMode.{MarshalMode}
use Rattle.com_base.specs.declared.value.MarshalMode.TheVariants as marshal
use Rattle.com_base.specs.Values.{as_kind, default_of, has_kind}
use Rattle.com_body.specs.declared.operands.Asked.{Asked}
use Rattle.com_body.specs.declared.operands.Asked.TheVariants as asked
use Rattle.com_body.specs.declared.actions.Action.{Action}
use Rattle.com_body.specs.declared.actions.Action.TheVariants as action
use Rattle.com_classes.specs.declared.interfaces.Interface.{Interface}
use Rattle.com_classes.specs.declared.classes.Class.{Class}
use Rattle.com_classes.specs.declared.classes.ThreadingModel.{ThreadingModel}
use Rattle.com_classes.specs.declared.classes.ThreadingModel.TheVariants as model
use Rattle.com_classes.specs.declared.factory.Creator.{Creator}
use Rattle.com_classes.specs.declared.factory.Placed.{Placed}
use Rattle.com_classes.specs.Activation.{apartment_of, owner_for, is_agile, placed_in}
use Rattle.com_classes.specs.Lookups.{class_at, class_has, find_interface}
use Rattle.com_model.specs.declared.deeds.Deed.{Deed}
use Rattle.com_model.specs.declared.deeds.Deed.TheVariants as deed
use Rattle.com_model.specs.declared.deeds.Entry.{Entry}
use Rattle.com_model.specs.declared.scenario.Scenario.{Scenario}
use Rattle.com_model.specs.Answers.{S_OK, E_INVALIDARG, E_NOINTERFACE, CO_E_OBJNOTCONNECTED, RPC_E_DISCONNECTED, RPC_E_OUT_OF_RESOURCES, RPC_E_SERVER_CANTUNMARSHAL_DATA, RPC_E_CLIENT_CANTUNMARSHAL_DATA, is_S_OK, is_failure}
use Rattle.com_refs_books.specs.Counting.{count_if}
use Rattle.com_model.specs.Lists.{first, number_or_zero, where_true}
use Rattle.com_model.specs.Tables.{class_number, interface_number, shown, LaneSort, Thread, Host, Pool, NoLane, lane_sort}
use Rattle.com_model.specs.Openers.{Opener, Pumps, Waits, Enters, running_call}
use Rattle.com_model.specs.Apartments.{makes_sta}
use Rattle.com_model.specs.Calls.{Issue, object_of}
use Rattle.com_model.specs.Values.{if_live, sent_value, sent_values, sent_result, given_or_default}
use Rattle.com_model.specs.Frames.{reference}
use Rattle.com_model.specs.Endings.{Ending, AtIssue, AtAdmission, ByVerdict, ByRetry, ByCancel, ByDisconnection, ByLeave, Answer, answer_of, without_value}
use Rattle.com_refs_books.specs.Changes.{Books, no_packet, no_cookie, packet, cookie}
use Rattle.com_refs_books.specs.declared.keeps.Packet.{Packet}
use Rattle.com_refs_books.specs.declared.keeps.Cookie.{Cookie}
use Rattle.com_model.specs.Waiting.{Phase, Unposted, Queued, Judged, Delayed, GivenUp, Word, bound_reached, mark_of, not_asked}
use Rattle.com_model.specs.Issue.{call_refusal}
use Rattle.com_model.specs.Sight.{Sight, sight}
use Rattle.com_model.specs.Deeds.{deed_of, initialised, uninitialised, creator, placing, made_as, created_of, created, owned_by, query_answer, object_in, queried, hold_refusal, marshalled, registered, Named, NamesPacket, Refuses, named_by, gained_refs, unmarshalled, dropped, cookie_number, got_with, got, revoked, called, left_as, left_by}
use Rattle.com_model.specs.Rules.{posted_to_sta, call_sort, verdict_on, is_handled_in, arguments_gone, admission, rule_final, rule_own, enters_itself, own_call, due_of, result_gone, packet_left, answered, rule_answer, rule_bound, admits_next, rule_inbox, retried, rule_retry, posted_again, rule_again, asked_on, rule_pending, takes_word, pumped, rule_word, scripted, is_script_turn, rule_script, ruled, stepped, top, tick_time, no_lane_can, next_by, next}
use Rattle.com_model.proofs.Given.{Given, given-or, given-where, given-map, given-then}
use Rattle.com_model.proofs.Comes.{given-found}
use Rattle.com_model.proofs.Goods.{GoodHeld, GoodValue, GoodResult, GoodAction, all-or}

abbrev pub GoodPacket : (n m : ℕ) → Packet → Type 0
GoodPacket n m k = (k.object ≤ n) × (k.iface < m)

abbrev pub GoodCookie : (n m : ℕ) → Cookie → Type 0
GoodCookie n m k = (k.object ≤ n) × (k.iface < m)

abbrev pub GoodEnding : (n m : ℕ) → Option Ending → Type 0
GoodEnding n m (Some (ByLeave hr v)) = GoodResult n m v
GoodEnding n m _ = Unit {0}

abbrev pub GoodHome : ℕ → Option ℕ → Type 0
GoodHome a None = Unit {0}
GoodHome a (Some b) = b < a

abbrev pub GoodAsked : ℕ → Asked → Type 0
GoodAsked m (asked.Number i) = i < m
GoodAsked m (asked.Guid g) = Unit {0}

-- What the rules look at names made objects, declared interfaces and apartments.
pub record GoodSight (s : Scenario) (v : Sight) : Type 0 where
  pub acts : (l : ℕ) (a : Action) → v.act l ≡ Some a → GoodAction v.objects (length s.classes.interfaces) a
  pub homes : (l : ℕ) → GoodHome v.next_sta (v.home l)
  pub running : (l : ℕ) → number_or_zero (v.running l) < v.next_sta
  pub main : v.main_sta < v.next_sta
  pub three : 3 ≤ v.next_sta
  pub some : 0 < length s.classes.interfaces
  pub owners : (o l : ℕ) → v.owner o l < v.next_sta
  pub targets : (c : ℕ) → object_of (v.issue c) ≤ v.objects
  pub unread : (c : ℕ) → All (GoodValue v.objects (length s.classes.interfaces)) (v.unread c)
  pub endings : (c : ℕ) → GoodEnding v.objects (length s.classes.interfaces) (v.ending c)
  pub packets : All (GoodPacket v.objects (length s.classes.interfaces)) v.books.packets
  pub cookies : All (GoodCookie v.objects (length s.classes.interfaces)) v.books.cookies
  pub dying : (l o : ℕ) → first (v.dying l) ≡ Some o → o ≤ v.objects

-- What a deed names: n objects are made, m interfaces declared, and apartments are numbered below a.
abbrev pub FineBy : (n m a : ℕ) → Deed → Type 0
FineBy n m a (deed.Made (Some o) (Some b) k i hr) = (o ≡ n + 1) × (b < a) × GoodAsked m i
FineBy n m a (deed.Made (Some o) None k i hr) = ⊥
FineBy n m a (deed.Query (Some o) i hr) = is_S_OK hr ≡ true → (o ≤ n) × GoodAsked m i
FineBy n m a (deed.Unmarshal p held refs hr) = GoodHeld n m held
FineBy n m a (deed.Get g held refs hr) = GoodHeld n m held
FineBy n m a (deed.Marshal p x held refs hr bytes) = GoodHeld n m held
FineBy n m a (deed.Register g held hr) = GoodHeld n m held
FineBy n m a (deed.Out c o i x r k bytes) = number_or_zero o ≤ n
FineBy n m a (deed.Enter c o b t vs) = (o ≤ n) × (b < a) × All (GoodValue n m) vs
FineBy n m a (deed.Leave c hr v bytes) = GoodResult n m v
FineBy n m a (deed.Back c hr v) = GoodResult n m v
FineBy n m a (deed.Init x b hr) = b < a + count_if (is_some (makes_sta (deed.Init x b hr)))
FineBy n m a (deed.Uninit home k) = GoodHome a home
FineBy n m a (deed.Final o) = o ≤ n
FineBy n m a _ = Unit {0}

abbrev pub Fine : Scenario → Sight → Deed → Type 0
Fine s v d = FineBy v.objects (length s.classes.interfaces) v.next_sta d

-- ---- values that travel

pub cond-is : {X : Type 0} (P : X → Type 0) (b : Bool) (x y : X) → P x → P y → P (cond b x y)
cond-is P true x y p q = p
cond-is P false x y p q = q

pub default-good : (n m : ℕ) (k : Kind) → GoodValue n m (default_of k)
default-good n m kind.Int = tt
default-good n m kind.Bool = tt
default-good n m kind.Text = tt
default-good n m kind.Bytes = tt
default-good n m kind.Guid = tt
default-good n m (kind.Ref i) = tt

live-good : (n m : ℕ) (b : Bool) (live : ℕ → Bool) (v : Value) → GoodValue n m v → GoodValue n m (if_live b live v)
live-good n m true live (value.Ref (Some r)) p = cond-is (GoodHeld n m) (live r.object) (Some r) None p tt
live-good n m true live (value.Ref None) p = tt
live-good n m true live (value.Int x) p = tt
live-good n m true live (value.Bool x) p = tt
live-good n m true live (value.Text x) p = tt
live-good n m true live (value.Bytes x) p = tt
live-good n m true live (value.Guid x) p = tt
live-good n m false live v p = p

sent-good : (n m : ℕ) (b : Bool) (live : ℕ → Bool) (k : Kind) (v : Value) → GoodValue n m v → GoodValue n m (sent_value b live k v)
sent-good n m b live k v p = live-good n m b live (as_kind v k) (cond-is (GoodValue n m) (has_kind v k) v (default_of k) p (default-good n m k))

pub all-sent-good : (n m : ℕ) (b : Bool) (live : ℕ → Bool) (ks : List Kind) (vs : List Value) → All (GoodValue n m) vs → All (GoodValue n m) (sent_values b live ks vs)
all-sent-good n m b live [] vs p = All-nil (GoodValue n m)
all-sent-good n m b live (k ∷ ks) [] p = All-cons (GoodValue n m) (default_of k) _ (default-good n m k) (all-sent-good n m b live ks [] p)
all-sent-good n m b live (k ∷ ks) (v ∷ vs) p = All-cons (GoodValue n m) (sent_value b live k v) _ (sent-good n m b live k v (p 0 v (grind (arith, common_steps)))) (all-sent-good n m b live ks vs (λ i d h. p (suc i) d (grind (arith, common_steps, h))))

given-or-good : (n m : ℕ) (k : Kind) (v : Option Value) → GoodResult n m v → GoodValue n m (given_or_default k v)
given-or-good n m k None p = default-good n m k
given-or-good n m k (Some v) p = p

result-good : (n m : ℕ) (b : Bool) (live : ℕ → Bool) (hr : HResult) (k : Option Kind) (v : Option Value) → GoodResult n m v → GoodResult n m (sent_result b live hr k v)
result-good n m b live hr None v p = tt
result-good n m b live hr (Some k) v p = cond-is (GoodResult n m) (is_failure hr) None (Some (sent_value b live k (given_or_default k v))) tt (sent-good n m b live k (given_or_default k v) (given-or-good n m k v p))

-- ---- creation

abbrev GoodNumber : ℕ → Option ℕ → Type 0
GoodNumber m None = Unit {0}
GoodNumber m (Some i) = i < m

known-number : {X : Type 0} (xs : List X) (i : ℕ) (o : Option X) → slice_get xs i ≡ o → GoodNumber (length xs) (option_map (λ k. i) o)
known-number xs i None e = tt
known-number xs i (Some x) e = slice_get_within xs i x e

found-number : (test : Interface → Bool) (xs : List Interface) (o : Option ℕ) → position test xs ≡ o → GoodNumber (length xs) o
found-number test xs None e = tt
found-number test [] (Some i) e = cc
found-number test (x ∷ xs) (Some i) e = (position-Some test (x ∷ xs) i x e).0

number-good : (s : Scenario) (i : Asked) → GoodNumber (length s.classes.interfaces) (interface_number s i)
number-good s (asked.Number i) = known-number s.classes.interfaces i (slice_get s.classes.interfaces i) refl
number-good s (asked.Guid g) = found-number _ s.classes.interfaces (find_interface s.classes g) refl

owner-good : (a : ℕ) (k : ThreadingModel) (x : Creator) → 3 ≤ a → x.running < a → x.home < a → x.main_sta < a → owner_for k x < a
owner-good a model.Nothing x t r h m = m
owner-good a model.Apartment x t r h m = cond-is (λ b. b < a) (nat_le 2 (apartment_of x)) (apartment_of x) 2 (cond-is (λ b. b < a) (x.running == 0) x.home x.running h r) (omega (arith, t))
owner-good a model.Free x t r h m = omega (arith, t)
owner-good a model.Both x t r h m = r
owner-good a model.Neutral x t r h m = omega (arith, t)
owner-good a model.Agile x t r h m = omega (arith, t)

abbrev GoodPlaced : (m a : ℕ) → Result Placed HResult → Type 0
GoodPlaced m a (Ok p) = (p.owner < a) × (p.iface < m)
GoodPlaced m a (Err hr) = Unit {0}

placed-good : (m a : ℕ) (k : Class) (c : ℕ) (i : Option ℕ) (x : Creator) → GoodNumber m i → 3 ≤ a → x.running < a → x.home < a → x.main_sta < a → GoodPlaced m a (placed_in k c i x)
placed-good m a k c None x g t r h n = tt
placed-good m a k c (Some i) x g t r h n = cond-is (GoodPlaced m a) (class_has k i) (Ok (record { class = c; iface = i; owner = owner_for k.model x; agile = is_agile k.model })) (Err (record { 0 = 0x80004002 })) (owner-good a k.model x t r h n, g) tt

placing-good : (m a : ℕ) (x : Creator) (c : ℕ) (i : Option ℕ) (k : Option Class) → GoodNumber m i → 3 ≤ a → x.running < a → x.home < a → x.main_sta < a → GoodPlaced m a (placing x c i k)
placing-good m a x c i None g t r h n = tt
placing-good m a x c i (Some k) g t r h n = placed-good m a k c i x g t r h n

made-fine : (s : Scenario) (v : Sight) (k i : Asked) (r : Result Placed HResult) → GoodPlaced (length s.classes.interfaces) v.next_sta r → Fine s v (made_as s v k i r)
made-fine s v k i (Ok p) g = (refl, g.0, g.1)
made-fine s v k i (Err hr) g = tt

created_of-fine : (s : Scenario) (v : Sight) (l a : ℕ) (k i : Asked) (c : Option ℕ) → GoodSight s v → a < v.next_sta → Fine s v (created_of s v l a k i c (interface_number s i))
created_of-fine s v l a k i None g h = tt
created_of-fine s v l a k i (Some c) g h = made-fine s v k i _ (placing-good (length s.classes.interfaces) v.next_sta (creator v l a) c (interface_number s i) (class_at s.classes c) (number-good s i) g.three (g.running l) h g.main)

created-fine : (s : Scenario) (v : Sight) (l : ℕ) (k i : Asked) (home : Option ℕ) → GoodSight s v → GoodHome v.next_sta home → Fine s v (created s v l k i home)
created-fine s v l k i None g h = tt
created-fine s v l k i (Some a) g h = created_of-fine s v l a k i (class_number s k) g h

-- ---- other actions

unoffered : (b : Bool) → is_S_OK (cond b RPC_E_DISCONNECTED E_NOINTERFACE) ≡ true → ⊥
unoffered true e = cc
unoffered false e = cc

asked-good : (s : Scenario) (v : Sight) (l : ℕ) (home : Option ℕ) (r : RefValue) (i : Asked) (j : Option ℕ) → GoodNumber (length s.classes.interfaces) j → is_S_OK (query_answer s v l home (Some r) j) ≡ true → GoodAsked (length s.classes.interfaces) (shown j i)
asked-good s v l home r i (Some j) g e = g
asked-good s v l None r i None g e = cc
asked-good s v l (Some a) r i None g e = absurd (unoffered (not (owned_by v l r.object) && not (v.books.live r.object)) e)

queried-fine : (s : Scenario) (v : Sight) (l : ℕ) (held : Option RefValue) (i : Asked) → GoodHeld v.objects (length s.classes.interfaces) held → Fine s v (queried s v l held i)
queried-fine s v l None i p = tt
queried-fine s v l (Some r) i p = λ e. (p.0, asked-good s v l (v.home l) r i (interface_number s i) (number-good s i) e)

object-good : (n m : ℕ) (held : Option RefValue) → GoodHeld n m held → number_or_zero (object_in held) ≤ n
object-good n m None p = omega arith
object-good n m (Some r) p = p.0

called-fine : (s : Scenario) (v : Sight) (l : ℕ) (held : Option RefValue) (i x : ℕ) (args : List Value) (hr : Option HResult) → GoodHeld v.objects (length s.classes.interfaces) held → Fine s v (called s v l held i x args hr)
called-fine s v l held i x args (Some hr) p = object-good v.objects (length s.classes.interfaces) held p
called-fine s v l held i x args None p = object-good v.objects (length s.classes.interfaces) held p

marshalled-fine : (s : Scenario) (v : Sight) (l : ℕ) (x : MarshalMode) (held : Option RefValue) (hr : Option HResult) → GoodHeld v.objects (length s.classes.interfaces) held → Fine s v (marshalled s v l x held hr)
marshalled-fine s v l x held (Some hr) p = p
marshalled-fine s v l x None None p = tt
marshalled-fine s v l x (Some r) None p = p

registered-fine : (s : Scenario) (v : Sight) (held : Option RefValue) (hr : Option HResult) → GoodHeld v.objects (length s.classes.interfaces) held → Fine s v (registered v held hr)
registered-fine s v held (Some hr) p = p
registered-fine s v held None p = p

pub packet-good : (n m : ℕ) (b : Books) (p : ℕ) → 0 < m → All (GoodPacket n m) b.packets → GoodPacket n m (packet b p)
packet-good n m b zero h g = (omega arith, h)
packet-good n m b (suc p) h g = all-or (GoodPacket n m) b.packets p no_packet (omega arith, h) g

pub cookie-good : (n m : ℕ) (b : Books) (k : ℕ) → 0 < m → All (GoodCookie n m) b.cookies → GoodCookie n m (cookie b k)
cookie-good n m b zero h g = (omega arith, h)
cookie-good n m b (suc k) h g = all-or (GoodCookie n m) b.cookies k no_cookie (omega arith, h) g

unmarshalled-fine : (s : Scenario) (v : Sight) (l : ℕ) (n : Named) → GoodSight s v → Fine s v (unmarshalled v l n)
unmarshalled-fine s v l (NamesPacket p) g = packet-good v.objects (length s.classes.interfaces) v.books p g.some g.packets
unmarshalled-fine s v l (Refuses hr) g = tt

dropped-fine : (s : Scenario) (v : Sight) (n : Named) → Fine s v (dropped n)
dropped-fine s v (NamesPacket p) = tt
dropped-fine s v (Refuses hr) = tt

got-with-fine : (s : Scenario) (v : Sight) (l : ℕ) (x : ℤ) (k : Cookie) (b : Bool) → GoodCookie v.objects (length s.classes.interfaces) k → Fine s v (cond b (deed.Get x (Some (reference k.object k.iface)) (gained_refs marshal.Strong (owned_by v l k.object) 0) S_OK) (deed.Get x None 0 CO_E_OBJNOTCONNECTED))
got-with-fine s v l x k true p = p
got-with-fine s v l x k false p = tt

got-fine : (s : Scenario) (v : Sight) (l : ℕ) (x : ℤ) (home : Option ℕ) → GoodSight s v → Fine s v (got v l x home)
got-fine s v l x None g = tt
got-fine s v l x (Some a) g =
    let k : Cookie = cookie v.books (cookie_number x) in
    cond-is (Fine s v) k.is_revoked (deed.Get x None 0 E_INVALIDARG) (got_with v l x k) tt (got-with-fine s v l x k (v.books.live k.object) (cookie-good v.objects (length s.classes.interfaces) v.books (cookie_number x) g.some g.cookies))

revoked-fine : (s : Scenario) (v : Sight) (x : ℤ) (home : Option ℕ) → Fine s v (revoked v x home)
revoked-fine s v x None = tt
revoked-fine s v x (Some a) = tt

left-fine : (s : Scenario) (v : Sight) (l c : ℕ) (i : Option Issue) (hr : HResult) (x : Option Value) → GoodResult v.objects (length s.classes.interfaces) x → Fine s v (left_as s v l c i hr x)
left-fine s v l c None hr x p = tt
left-fine s v l c (Some i) hr x p = result-good v.objects (length s.classes.interfaces) _ v.books.live hr _ x p

left-by-fine : (s : Scenario) (v : Sight) (l : ℕ) (hr : HResult) (x : Option Value) (c : Option ℕ) → GoodResult v.objects (length s.classes.interfaces) x → Fine s v (left_by s v l hr x c)
left-by-fine s v l hr x None p = tt
left-by-fine s v l hr x (Some c) p = left-fine s v l c (v.issue c) hr x p

initialised-fine : (s : Scenario) (v : Sight) (x : Mode) (home : Option ℕ) → GoodSight s v → GoodHome v.next_sta home → Fine s v (initialised v x home)
initialised-fine s v mode.Sta None g h = omega arith
initialised-fine s v mode.Mta None g h = let t : 3 ≤ v.next_sta = g.three in omega (arith, t)
initialised-fine s v x (Some a) g h = omega (arith, h)

pub deed-fine : (s : Scenario) (v : Sight) (l : ℕ) (a : Action) → GoodSight s v → GoodAction v.objects (length s.classes.interfaces) a → Fine s v (deed_of s v l a)
deed-fine s v l (action.Create slot k i) g p = created-fine s v l k i (v.home l) g (g.homes l)
deed-fine s v l (action.Query to held i) g p = queried-fine s v l held i p
deed-fine s v l (action.Copy to held) g p = tt
deed-fine s v l (action.Release from held) g p = tt
deed-fine s v l (action.Call held i x args to) g p = called-fine s v l held i x args (call_refusal s (v.home l) (v.running l) v.owns v.books.live held i x) p.0
deed-fine s v l (action.Marshal b held x) g p = marshalled-fine s v l x held (hold_refusal v (v.home l) held) p.1
deed-fine s v l (action.Unmarshal slot b) g p = unmarshalled-fine s v l (named_by s v (v.home l) (v.buffers b)) g
deed-fine s v l (action.Drop b) g p = dropped-fine s v (named_by s v (v.home l) (v.buffers b))
deed-fine s v l (action.Raw b bytes) g p = tt
deed-fine s v l (action.Register to held) g p = registered-fine s v held (hold_refusal v (v.home l) held) p
deed-fine s v l (action.Get slot x) g p = got-fine s v l x (v.home l) g
deed-fine s v l (action.Revoke x) g p = revoked-fine s v x (v.home l)
deed-fine s v l (action.Disconnect held) g p = tt
deed-fine s v l (action.Post m w) g p = tt
deed-fine s v l (action.Quit m) g p = tt
deed-fine s v l (action.Leave hr x) g p = left-by-fine s v l hr x (running_call (v.openers l)) p
deed-fine s v l (action.Init x) g p = initialised-fine s v x (v.home l) g (g.homes l)
deed-fine s v l action.Uninit g p = g.homes l
deed-fine s v l (action.SetFilter f) g p = tt
deed-fine s v l (action.Pump k) g p = tt

-- ---- the rules

admission-fine : (s : Scenario) (v : Sight) (l c : ℕ) → GoodSight s v → Fine s v (admission s v l c)
admission-fine s v l c g =
    cond-is (Fine s v) (nat_le 256 (length (v.openers l))) (deed.Refuse c RPC_E_OUT_OF_RESOURCES) _ tt
    (cond-is (Fine s v) (posted_to_sta v c && not (is_handled_in s v l c)) (deed.Verdict c (call_sort v l c) (verdict_on s v l c)) _ tt
    (cond-is (Fine s v) (arguments_gone v c) (deed.Refuse c RPC_E_SERVER_CANTUNMARSHAL_DATA) (deed.Enter c (object_of (v.issue c)) (v.owner (object_of (v.issue c)) l) (where_true (posted_to_sta v c) (call_sort v l c)) (v.unread c)) tt (g.targets c, g.owners (object_of (v.issue c)) l, g.unread c)))

answer-good : (n m : ℕ) (hr : HResult) (e : Ending) → GoodEnding n m (Some e) → GoodResult n m (answer_of hr e).value
answer-good n m hr AtIssue p = tt
answer-good n m hr (AtAdmission x) p = tt
answer-good n m hr (ByVerdict v) p = tt
answer-good n m hr ByRetry p = tt
answer-good n m hr ByCancel p = tt
answer-good n m hr ByDisconnection p = tt
answer-good n m hr (ByLeave x v) p = p

answered-fine : (s : Scenario) (v : Sight) (c : ℕ) (x : Answer) (p : Option ℕ) → GoodResult v.objects (length s.classes.interfaces) x.value → Fine s v (answered v c x p)
answered-fine s v c x (Some p) q = tt
answered-fine s v c x None q = cond-is (λ (y : Answer). GoodResult v.objects (length s.classes.interfaces) y.value) (result_gone v c (v.books.result c)) (without_value RPC_E_CLIENT_CANTUNMARSHAL_DATA) x tt q

due-fine : (s : Scenario) (v : Sight) (c : ℕ) (e : Option Ending) → GoodEnding v.objects (length s.classes.interfaces) e → Given (Fine s v) (option_map (λ x. answered v c x (packet_left v c)) (option_map (answer_of (v.at_issue c)) e))
due-fine s v c None p = tt
due-fine s v c (Some e) p = answered-fine s v c (answer_of (v.at_issue c) e) (packet_left v c) (answer-good v.objects (length s.classes.interfaces) (v.at_issue c) e p)

retried-fine : (s : Scenario) (v : Sight) (l c : ℕ) (p : Phase) → Given (Fine s v) (retried s v l c p)
retried-fine s v l c Unposted = tt
retried-fine s v l c Queued = tt
retried-fine s v l c (Judged x) = tt
retried-fine s v l c (Delayed t) = tt
retried-fine s v l c GivenUp = tt

again-fine : (s : Scenario) (v : Sight) (c : ℕ) (p : Phase) → Given (Fine s v) (posted_again v c p)
again-fine s v c Unposted = tt
again-fine s v c Queued = tt
again-fine s v c (Judged x) = tt
again-fine s v c (Delayed t) = given-where (Fine s v) (nat_le t v.clock) (deed.Again c) tt
again-fine s v c GivenUp = tt

asked-fine : (s : Scenario) (v : Sight) (l c : ℕ) (w : Option Word) → Given (Fine s v) (asked_on s v l c w)
asked-fine s v l c None = tt
asked-fine s v l c (Some w) = given-where (Fine s v) _ (deed.Pending c w.word _) tt

taken-fine : (s : Scenario) (v : Sight) (w : Option Word) (q : Bool) → Given (Fine s v) (takes_word w q)
taken-fine s v (Some w) q = tt
taken-fine s v None q = given-where (Fine s v) q deed.EndPump tt

word-fine : (s : Scenario) (v : Sight) (l : ℕ) (o : Option Opener) → Given (Fine s v) (pumped v l o)
word-fine s v l None = tt
word-fine s v l (Some (Pumps n)) = taken-fine s v (first (v.mail l).words) (v.quit l)
word-fine s v l (Some (Waits c)) = tt
word-fine s v l (Some (Enters c o a)) = tt

scripted-fine : (s : Scenario) (v : Sight) (l : ℕ) (x : Option Action) → GoodSight s v → v.act l ≡ x → Fine s v (scripted s v l x)
scripted-fine s v l None g e = cond-is (Fine s v) (v.count l == 0) deed.End (uninitialised v l) tt (g.homes l)
scripted-fine s v l (Some a) g e = deed-fine s v l a g (g.acts l a e)

ruled-fine : (s : Scenario) (v : Sight) (l : ℕ) → GoodSight s v → Given (Fine s v) (ruled s v l)
ruled-fine s v l g =
    let P : Deed → Type 0 = Fine s v in
    given-or P (rule_final v l) _ (given-found P (λ o. deed.Final o) (first (v.dying l)) (λ o e. g.dying l o e))
    (given-or P (rule_own s v l) _ (given-then P (λ c. where_true (enters_itself v c) (admission s v l c)) (own_call v l) (λ c. given-where P (enters_itself v c) (admission s v l c) (admission-fine s v l c g)))
    (given-or P (rule_answer v l) _ (given-then P (λ c. option_map (λ x. answered v c x (packet_left v c)) (due_of v c)) (own_call v l) (λ c. due-fine s v c (v.ending c) (g.endings c)))
    (given-or P (rule_bound v l) _ (given-where P (bound_reached (v.openers l) (v.served l)) deed.EndPump tt)
    (given-or P (rule_inbox s v l) _ (given-map P (admission s v l) (admits_next v l (lane_sort s l)) (λ c. admission-fine s v l c g))
    (given-or P (rule_retry s v l) _ (given-then P (λ c. retried s v l c (v.phase c)) (own_call v l) (λ c. retried-fine s v l c (v.phase c)))
    (given-or P (rule_again v l) _ (given-then P (λ c. posted_again v c (v.phase c)) (own_call v l) (λ c. again-fine s v c (v.phase c)))
    (given-or P (rule_pending s v l) _ (given-then P (λ c. asked_on s v l c (not_asked (mark_of (v.mail l).marks c) (v.mail l).words)) (own_call v l) (λ c. asked-fine s v l c (not_asked (mark_of (v.mail l).marks c) (v.mail l).words)))
    (given-or P (rule_word v l) (rule_script s v l) (word-fine s v l (top v l))
    (given-where P (is_script_turn (lane_sort s l) (top v l) (v.over l)) (scripted s v l (v.act l)) (scripted-fine s v l (v.act l) g refl))))))))))

stepped-fine : (s : Scenario) (v : Sight) (l : ℕ) (o : Option Opener) → GoodSight s v → Given (Fine s v) (stepped s v l o)
stepped-fine s v l None g = ruled-fine s v l g
stepped-fine s v l (Some (Pumps n)) g = ruled-fine s v l g
stepped-fine s v l (Some (Waits c)) g = ruled-fine s v l g
stepped-fine s v l (Some (Enters c o a)) g = given-found (Fine s v) (deed_of s v l) (v.act l) (λ x e. deed-fine s v l x g (g.acts l x e))

ticks-fine : (s : Scenario) (v : Sight) (b d : Bool) (t : Option ℕ) → Given (Fine s v) (cond b (cond d (option_map (λ n. deed.Tick n) t) None) None)
ticks-fine s v true true None = tt
ticks-fine s v true true (Some n) = tt
ticks-fine s v true false t = tt
ticks-fine s v false d t = tt

by-fine : (s : Scenario) (v : Sight) (sort : LaneSort) (l : ℕ) → GoodSight s v → Given (Fine s v) (next_by s v sort l)
by-fine s v Thread l g = stepped-fine s v l (top v l) g
by-fine s v Host l g = stepped-fine s v l (top v l) g
by-fine s v Pool l g = stepped-fine s v l (top v l) g
by-fine s v NoLane l g = ticks-fine s v (l == 0) (no_lane_can s v) (tick_time v)

pub next-fine : (s : Scenario) (h : List Entry) (l : ℕ) (d : Deed) → GoodSight s (sight s h) → next s h l ≡ Some d → Fine s (sight s h) d
next-fine s h l d g e = subst (λ (x : Option Deed). Given (Fine s (sight s h)) x) e (by-fine s (sight s h) (lane_sort s l) l g)
