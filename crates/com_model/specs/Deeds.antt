-- The entry of an action, with the first refusal that applies. Each refusal changes nothing but register 15
-- and the destination.
use Rattle.std.specs.Prelude.{ℕ, ◌+◌, ◌-◌, ◌%◌, ◌^◌, ℤ, pos, negsuc, Bool, true, false, not, ◌==◌, ◌&&◌}
use Rattle.std.specs.Prelude.{if◌then◌else◌, List, [], ◌∷◌, map, length, Option, Some, None, option_map}
use Rattle.std.specs.Prelude.{Result, Ok, Err}
use Rattle.std.specs.Int.{to_le_bytes, w64}
use Rattle.com_base.specs.declared.guid.Guid.{Guid}
use Rattle.com_base.specs.declared.limits.TheConstants.{PUBLIC_REFERENCES}
use Rattle.com_base.specs.declared.hresult.HResult.{HResult}
use Rattle.com_base.specs.declared.standard.StdFields.{StdFields}
use Rattle.com_base.specs.declared.value.RefValue.{RefValue}
use Rattle.com_base.specs.declared.value.Value.{Value}
use Rattle.com_base.specs.declared.value.Mode.{Mode}
use Rattle.com_base.specs.declared.value.Mode.TheVariants as mode
use Rattle.com_base.specs.declared.value.MarshalMode.{MarshalMode}
use Rattle.com_base.specs.declared.value.MarshalMode.TheVariants as marshal
use Rattle.com_base.specs.Guids.{zero_guid}
use Rattle.com_body.specs.declared.operands.Asked.{Asked}
use Rattle.com_body.specs.declared.operands.Asked.TheVariants as asked
use Rattle.com_body.specs.declared.actions.Action.{Action}
use Rattle.com_body.specs.declared.actions.Action.TheVariants as action
use Rattle.com_classes.specs.declared.interfaces.Interface.{Interface}
use Rattle.com_classes.specs.declared.classes.Class.{Class}
use Rattle.com_classes.specs.declared.factory.Creator.{Creator}
use Rattle.com_classes.specs.declared.factory.Placed.{Placed}
use Rattle.com_classes.specs.Activation.{placed_in}
use Rattle.com_classes.specs.Lookups.{class_at, has_interface, interface_at, method_at, same_guid}
use Rattle.objref.specs.declared.decoding.RefFault.{RefFault}
use Rattle.objref.specs.Grammar.{Reference, standard, written_of}
use Rattle.objref.specs.Reading.{objref_of}
use Rattle.com_model.specs.declared.deeds.Deed.{Deed}
use Rattle.com_model.specs.declared.deeds.Deed.TheVariants as deed
use Rattle.com_model.specs.declared.deeds.Route.{Route}
use Rattle.com_model.specs.declared.deeds.Route.TheVariants as route
use Rattle.com_model.specs.declared.scenario.Scenario.{Scenario}
use Rattle.com_model.specs.Answers.{S_OK, S_FALSE, E_NOTIMPL, E_NOINTERFACE, E_POINTER, E_INVALIDARG}
use Rattle.com_model.specs.Answers.{REGDB_E_CLASSNOTREG, CO_E_NOTINITIALIZED, CO_E_OBJNOTCONNECTED}
use Rattle.com_model.specs.Answers.{RPC_E_CHANGED_MODE, RPC_E_DISCONNECTED, RPC_E_INVALID_OBJREF}
use Rattle.com_model.specs.Lists.{number_or_zero, one_to, first_that}
use Rattle.com_model.specs.Tables.{is_thread, class_number, interface_number, shown, parameters, result_kind}
use Rattle.com_model.specs.Openers.{running_call}
use Rattle.com_model.specs.Apartments.{mta, is_sta}
use Rattle.com_model.specs.Calls.{Issue, route_for, cause_for, is_marshalled}
use Rattle.com_model.specs.Values.{carried, result_list, sent_values, sent_result, request_bytes, reply_bytes}
use Rattle.com_model.specs.Frames.{reference}
use Rattle.com_refs_books.specs.Changes.{Books, Row, Marshals, packet, cookie, entered_rows, made_since}
use Rattle.com_refs_books.specs.Changes.{marshal_all}
use Rattle.com_refs_books.specs.declared.keeps.Packet.{Packet}
use Rattle.com_refs_books.specs.declared.keeps.Cookie.{Cookie}
use Rattle.com_model.specs.Issue.{call_refusal}
use Rattle.com_model.specs.Sight.{Sight}

-- Init answers S_OK where the lane has no home, S_FALSE where its home has the same mode, else
-- RPC_E_CHANGED_MODE. Source: CoInitializeEx.
abbrev pub new_home : Sight → Mode → ℕ
new_home v mode.Sta = v.next_sta
new_home v mode.Mta = mta

-- Whether an apartment has the mode: an STA has Sta, every other apartment has Mta.
abbrev pub has_mode : Mode → ℕ → Bool
has_mode mode.Sta a = is_sta a
has_mode mode.Mta a = not (is_sta a)

-- The Init of a lane with this home. It names the home that the lane has afterwards, also where it is refused.
abbrev pub initialised : Sight → Mode → Option ℕ → Deed
initialised v m None = deed.Init m (new_home v m) S_OK
initialised v m (Some a) = deed.Init m a (if has_mode m a then S_FALSE else RPC_E_CHANGED_MODE)

-- Uninit lowers the count by one, and at count 0 does nothing. Source: CoUninitialize.
abbrev pub uninitialised : Sight → ℕ → Deed
uninitialised v l = deed.Uninit (v.home l) (v.count l - 1)

-- SetFilter answers S_OK where the home is an STA, else S_FALSE. Source: CoRegisterMessageFilter.
abbrev pub in_sta : Option ℕ → Bool
in_sta None = false
in_sta (Some a) = is_sta a

-- The SetFilter of lane l, which names filter f, or none. With S_FALSE it leaves the filter as it was.
abbrev pub filter_set : Sight → ℕ → Option ℕ → Deed
filter_set v l f = deed.SetFilter f (if in_sta (v.home l) then S_OK else S_FALSE)

-- Create is refused without home, for a class that is not declared, and for an interface outside the class's
-- set. Source: CoCreateInstance.
abbrev pub not_made : Scenario → Asked → Asked → HResult → Deed
not_made s k i hr = deed.Made None None (shown (class_number s k) k) (shown (interface_number s i) i) hr

-- Who creates in lane l, whose home is a: the running apartment, the home, and the main STA at that moment.
abbrev pub creator : Sight → ℕ → (home : ℕ) → Creator
creator v l a = record { running = number_or_zero (v.running l); home = a; main_sta = v.main_sta }

-- Where a creator's new object of a class goes, or the refusal: REGDB_E_CLASSNOTREG without a class, E_NOINTERFACE
-- for an interface outside the class's set.
abbrev pub placing : Creator → (class : ℕ) → (iface : Option ℕ) → Option Class → Result Placed HResult
placing x c i None = Err REGDB_E_CLASSNOTREG
placing x c i (Some k) = placed_in k c i x

-- The Made of an object that was placed, which has the next number; or the one that is refused, which names no object.
abbrev pub made_as : Scenario → Sight → Asked → Asked → Result Placed HResult → Deed
made_as s v k i (Err hr) = not_made s k i hr
made_as s v k i (Ok p) =
    deed.Made (Some (v.objects + 1)) (Some p.owner) (asked.Number p.class) (asked.Number p.iface) S_OK

-- The Made in a lane whose home is a. The class and the interface have numbers where they are declared.
abbrev pub created_of : Scenario → Sight → ℕ → ℕ → Asked → Asked → (class iface : Option ℕ) → Deed
created_of s v l a k i None j = not_made s k i REGDB_E_CLASSNOTREG
created_of s v l a k i (Some c) j = made_as s v k i (placing (creator v l a) c j (class_at s.classes c))

-- The Made of a lane with this home for a class and an interface; without home CO_E_NOTINITIALIZED.
abbrev pub created : Scenario → Sight → ℕ → Asked → Asked → Option ℕ → Deed
created s v l k i None = not_made s k i CO_E_NOTINITIALIZED
created s v l k i (Some a) = created_of s v l a k i (class_number s k) (interface_number s i)

-- Whether the apartment in which lane l runs owns the object, so that a reference there is direct and no proxy's.
abbrev pub owned_by : Sight → ℕ → ℕ → Bool
owned_by v l o = v.owns o (number_or_zero (v.running l))

-- Query is refused without home, on null, on a proxy that is not connected, and outside the object's set.
-- Source: IUnknown::QueryInterface.
abbrev pub offers : Scenario → ℕ → Option ℕ → Bool
offers s k None = false
offers s k (Some i) = has_interface s.classes k i

-- The answer to a Query in a lane with this home, of this reference, for the interface with this number; it has
-- no number where it is not declared.
abbrev pub query_answer : Scenario → Sight → ℕ → Option ℕ → Option RefValue → Option ℕ → HResult
query_answer s v l None held i = CO_E_NOTINITIALIZED
query_answer s v l (Some a) None i = E_POINTER
query_answer s v l (Some a) (Some r) i =
    if not (owned_by v l r.object) && not (v.books.live r.object) then RPC_E_DISCONNECTED
    else if offers s (v.class r.object) i then S_OK else E_NOINTERFACE

-- The object that a reference names; none for null.
abbrev pub object_in : Option RefValue → Option ℕ
object_in held = option_map (λ (r : RefValue). r.object) held

-- The Query of a reference for an interface. It names the interface by its number where that is declared.
abbrev pub queried : Scenario → Sight → ℕ → Option RefValue → Asked → Deed
queried s v l held i =
    deed.Query (object_in held) (shown (interface_number s i) i)
    (query_answer s v l (v.home l) held (interface_number s i))

-- The fields that a packet's bytes have: the interface, the references where it is a normal packet, the
-- number of the owner as OXID, of the object as OID, and all with the packet's number as IPID.
abbrev pub iid_of : Option Interface → Guid
iid_of None = zero_guid
iid_of (Some i) = i.iid

-- The IPID of a packet, made of the numbers of its object, its interface, its owner and itself. It has the low 16 bits
-- of the owner's number.
abbrev pub ipid : (object iface owner packet : ℕ) → Guid
ipid o i a p = record { data1 = o; data2 = i; data3 = a % 2 ^ 16; data4 = to_le_bytes w64 p }

-- The references that a packet's bytes tell: all of a normal packet, and 0 for a strong or weak one.
abbrev pub written_refs : MarshalMode → ℕ → ℕ
written_refs marshal.Normal n = n
written_refs _ n = 0

-- The fields in the bytes of packet p, where k is what the books keep of it.
abbrev pub packet_fields : Scenario → Sight → Packet → ℕ → StdFields
packet_fields s v k p = record {
  iid = iid_of (interface_at s.classes k.iface);
  refs = written_refs k.mode k.refs;
  oxid = v.named k.object;
  oid = k.object;
  ipid = ipid k.object k.iface (v.named k.object) p;
}

-- The books after references were marshalled in the lane's apartment, and the fields of the new packets.
abbrev pub with_packets : Sight → ℕ → List Row → Books
with_packets v l rs = entered_rows v.owns v.books rs

-- The fields of the packets that b has beyond the books as they stand, in order of making.
abbrev pub fields_since : Scenario → Sight → Books → List StdFields
fields_since s v b = map (λ p. packet_fields s v (packet b p) p) (made_since v.books b)

abbrev pub next_packet : Sight → ℕ
next_packet v = length v.books.packets + 1

-- Marshal and Register are refused without home, on null, and for an object that is not connected.
-- Source: CoMarshalInterface, IGlobalInterfaceTable.
abbrev pub hold_refusal : Sight → Option ℕ → Option RefValue → Option HResult
hold_refusal v None held = Some CO_E_NOTINITIALIZED
hold_refusal v (Some a) None = Some E_POINTER
hold_refusal v (Some a) (Some r) = if v.books.live r.object then None else Some CO_E_OBJNOTCONNECTED

abbrev pub marshalled_as : Scenario → Sight → MarshalMode → Option RefValue → Books → Deed
marshalled_as s v m held b =
    deed.Marshal (Some (next_packet v)) m held (packet b (next_packet v)).refs S_OK
    (Some (written_of (packet_fields s v (packet b (next_packet v)) (next_packet v))))

-- The Marshal of a reference, which makes the next packet; one that is refused makes none and has no bytes.
abbrev pub marshalled : Scenario → Sight → ℕ → MarshalMode → Option RefValue → Option HResult → Deed
marshalled s v l m held (Some hr) = deed.Marshal None m held 0 hr None
marshalled s v l m None None = deed.Marshal None m None 0 E_POINTER None
marshalled s v l m (Some r) None =
    marshalled_as s v m (Some r)
    (with_packets v l (Marshals (number_or_zero (v.running l)) m r.object r.iface ∷ []))

-- The Register of a reference, which makes the next cookie; one that is refused makes none.
abbrev pub registered : Sight → Option RefValue → Option HResult → Deed
registered v held (Some hr) = deed.Register None held hr
registered v held None = deed.Register (Some (length v.books.cookies + 1)) held S_OK

-- Unmarshal and Drop are refused without home, for bytes that are no OBJREF, for another marshalling than
-- standard, and where no outstanding packet is named. A packet is named where IID, references, OXID, OID and
-- IPID are all its own. Source: CoUnmarshalInterface, CoReleaseMarshalData.
abbrev pub same_fields : StdFields → StdFields → Bool
same_fields f g =
    same_guid f.iid g.iid
    && (f.refs == g.refs && (f.oxid == g.oxid && (f.oid == g.oid && same_guid f.ipid g.ipid)))

-- Whether the fields name packet p: it is outstanding, and these five are its own.
abbrev pub is_named : Scenario → Sight → StdFields → ℕ → Bool
is_named s v f p = (packet v.books p).outstanding && same_fields f (packet_fields s v (packet v.books p) p)

-- The packet that the fields name, the first by number; none where they name no outstanding packet.
abbrev pub named_packet : Scenario → Sight → StdFields → Option ℕ
named_packet s v f = first_that (is_named s v f) (one_to (length v.books.packets))

-- The packet, or the refusal.
pub data Named : Type 0 where
  NamesPacket : ℕ → Named
  Refuses : HResult → Named

-- The packet, or CO_E_OBJNOTCONNECTED where none is named.
abbrev pub named_or : Option ℕ → Named
named_or None = Refuses CO_E_OBJNOTCONNECTED
named_or (Some p) = NamesPacket p

-- What a buffer names, by what its bytes were read as: bytes that are no OBJREF are refused with RPC_E_INVALID_OBJREF,
-- an OBJREF of another sort than standard with E_NOTIMPL.
abbrev pub named_in : Scenario → Sight → Result Reference RefFault → Named
named_in s v (Err x) = Refuses RPC_E_INVALID_OBJREF
named_in s v (Ok (standard f flags strings)) = named_or (named_packet s v f)
named_in s v (Ok _) = Refuses E_NOTIMPL

-- What a buffer with these bytes names in a lane with this home; without home CO_E_NOTINITIALIZED.
abbrev pub named_by : Scenario → Sight → Option ℕ → List ℕ → Named
named_by s v None bytes = Refuses CO_E_NOTINITIALIZED
named_by s v (Some a) bytes = named_in s v (objref_of bytes)

-- What the apartment's proxy gains: nothing where the apartment owns the object; else a normal packet's
-- references, or `PUBLIC_REFERENCES`.
abbrev pub gained_refs : MarshalMode → (owned : Bool) → ℕ → ℕ
gained_refs m true n = 0
gained_refs marshal.Normal false n = n
gained_refs _ false n = PUBLIC_REFERENCES

abbrev pub unmarshalled_as : Sight → ℕ → ℕ → Packet → Deed
unmarshalled_as v l p k =
    deed.Unmarshal (Some p) (Some (reference k.object k.iface))
    (gained_refs k.mode (owned_by v l k.object) k.refs) S_OK

-- The Unmarshal of the named packet in lane l, with its reference; or the one that is refused, which takes none.
abbrev pub unmarshalled : Sight → ℕ → Named → Deed
unmarshalled v l (Refuses hr) = deed.Unmarshal None None 0 hr
unmarshalled v l (NamesPacket p) = unmarshalled_as v l p (packet v.books p)

-- The DropPacket of the named packet, or the one that is refused.
abbrev pub dropped : Named → Deed
dropped (Refuses hr) = deed.DropPacket None hr
dropped (NamesPacket p) = deed.DropPacket (Some p) S_OK

-- Get is refused without home, for a number that is no cookie or a revoked one, and where the object is not
-- connected. Revoke is refused without home, and for such a number. Source: IGlobalInterfaceTable.
abbrev pub cookie_number : ℤ → ℕ
cookie_number (pos g) = g
cookie_number (negsuc g) = 0

-- The Get of a cookie that is not revoked: its reference where the object is connected, else CO_E_OBJNOTCONNECTED.
abbrev pub got_with : Sight → ℕ → ℤ → Cookie → Deed
got_with v l g k =
    if v.books.live k.object
    then deed.Get g (Some (reference k.object k.iface)) (gained_refs marshal.Strong (owned_by v l k.object) 0)
    S_OK
    else deed.Get g None 0 CO_E_OBJNOTCONNECTED

-- The Get by what the books keep of the cookie; a number that is no cookie counts there as revoked.
abbrev pub got_by : Sight → ℕ → ℤ → Cookie → Deed
got_by v l g k = if k.is_revoked then deed.Get g None 0 E_INVALIDARG else got_with v l g k

-- The Get of number g in a lane with this home; without home CO_E_NOTINITIALIZED.
abbrev pub got : Sight → ℕ → ℤ → Option ℕ → Deed
got v l g None = deed.Get g None 0 CO_E_NOTINITIALIZED
got v l g (Some a) = got_by v l g (cookie v.books (cookie_number g))

-- The Revoke of number g in a lane with this home; E_INVALIDARG where g is no cookie, or was revoked before.
abbrev pub revoked : Sight → ℤ → Option ℕ → Deed
revoked v g None = deed.Revoke g CO_E_NOTINITIALIZED
revoked v g (Some a) =
    deed.Revoke g (if (cookie v.books (cookie_number g)).is_revoked then E_INVALIDARG else S_OK)

-- Disconnect is refused without home, on null, and in an apartment that does not own the object. Source:
-- CoDisconnectObject.
abbrev pub disconnect_answer : Sight → ℕ → Option ℕ → Option RefValue → HResult
disconnect_answer v l None held = CO_E_NOTINITIALIZED
disconnect_answer v l (Some a) None = E_POINTER
disconnect_answer v l (Some a) (Some r) = if owned_by v l r.object then S_OK else E_INVALIDARG

-- Post and Quit are refused where the number is no thread's lane, or that lane is over.
abbrev pub takes_words : Scenario → Sight → ℤ → Bool
takes_words s v (pos m) = is_thread s m && not (v.over m)
takes_words s v (negsuc m) = false

-- The answer to a Post or a Quit to lane m: E_INVALIDARG where m is no thread's lane, or that is over.
abbrev pub word_answer : Scenario → Sight → ℤ → HResult
word_answer s v m = if takes_words s v m then S_OK else E_INVALIDARG

-- A call's Out: its number, target, route and causality, and on the routes that marshal the request's bytes.
abbrev pub out_bytes : Scenario → Sight → ℕ → Route → (cause : ℕ) → List Value → Option (List ℕ)
out_bytes s v l route.Direct k vs = None
out_bytes s v l route.Refused k vs = None
out_bytes s v l r k vs =
    Some (request_bytes k vs
    (fields_since s v (with_packets v l (marshal_all (number_or_zero (v.running l)) (carried vs)))))

-- The causality of the next call of a lane: that of the call of its last open Enter, else a new one.
abbrev pub next_cause : Sight → ℕ → ℕ
next_cause v l = cause_for v.issue v.causes (running_call (v.openers l))

-- The Out of a lane's next call, by route r. The arguments travel as the method declares its parameters.
abbrev pub out_on : Scenario → Sight → ℕ → Option RefValue → ℕ → ℕ → List Value → Route → Deed
out_on s v l held i m args r =
    deed.Out (v.calls + 1) (object_in held) i m r (next_cause v l)
    (out_bytes s v l r (next_cause v l)
    (sent_values true v.books.live (parameters (method_at s.classes i m)) args))

-- The route of a call on a reference, by who owns the object and by the lane's home; on null it has none.
abbrev pub route_to : Sight → ℕ → Option RefValue → Route
route_to v l None = route.Refused
route_to v l (Some r) = route_for (owned_by v l r.object) (v.named r.object) (v.home l)

-- The Out of a call that has this refusal or none. It is made also where the call is refused, then with no route.
abbrev pub called : Scenario → Sight → ℕ → Option RefValue → ℕ → ℕ → List Value → Option HResult → Deed
called s v l held i m args (Some hr) = out_on s v l held i m args route.Refused
called s v l held i m args None = out_on s v l held i m args (route_to v l held)

-- A body's Leave: its HRESULT, its result, and on the routes that marshal the reply's bytes, unless its call
-- is back.
abbrev pub reply_for : Scenario → Sight → ℕ → (wanted : Bool) → HResult → Option Value → Option (List ℕ)
reply_for s v l false hr x = None
reply_for s v l true hr x =
    Some (reply_bytes hr x (fields_since s v
    (with_packets v l (marshal_all (number_or_zero (v.running l)) (carried (result_list x))))))

abbrev pub left_with : Scenario → Sight → ℕ → ℕ → (marshalled : Bool) → HResult → Option Value → Deed
left_with s v l c m hr x = deed.Leave c hr x (reply_for s v l (m && not (v.returned c)) hr x)

-- The Leave of call c by what its Out says, with the result as its method declares it; without an Out there is no
-- result and no reply.
abbrev pub left_as : Scenario → Sight → ℕ → ℕ → Option Issue → HResult → Option Value → Deed
left_as s v l c None hr x = left_with s v l c false hr None
left_as s v l c (Some i) hr x =
    left_with s v l c (is_marshalled i.route) hr
    (sent_result (is_marshalled i.route) v.books.live hr (result_kind (method_at s.classes i.iface i.method))
    x)

-- The Leave of the body of the last open Enter, whose call is given; of call 0 where there is none.
abbrev pub left_by : Scenario → Sight → ℕ → HResult → Option Value → Option ℕ → Deed
left_by s v l hr x None = deed.Leave 0 hr None None
left_by s v l hr x (Some c) = left_as s v l c (v.issue c) hr x

-- The entry of an action that lane l makes.
abbrev pub deed_of : Scenario → Sight → ℕ → Action → Deed
deed_of s v l (action.Create slot k i) = created s v l k i (v.home l)
deed_of s v l (action.Query to held i) = queried s v l held i
deed_of s v l (action.Copy to held) = deed.Copy held
deed_of s v l (action.Release from held) = deed.Release held
deed_of s v l (action.Call held i m args to) =
    called s v l held i m args (call_refusal s (v.home l) (v.running l) v.owns v.books.live held i m)
deed_of s v l (action.Marshal b held m) = marshalled s v l m held (hold_refusal v (v.home l) held)
deed_of s v l (action.Unmarshal slot b) = unmarshalled v l (named_by s v (v.home l) (v.buffers b))
deed_of s v l (action.Drop b) = dropped (named_by s v (v.home l) (v.buffers b))
deed_of s v l (action.Raw b bytes) = deed.Raw b (length bytes)
deed_of s v l (action.Register to held) = registered v held (hold_refusal v (v.home l) held)
deed_of s v l (action.Get slot g) = got v l g (v.home l)
deed_of s v l (action.Revoke g) = revoked v g (v.home l)
deed_of s v l (action.Disconnect held) =
    deed.Disconnect (object_in held) (disconnect_answer v l (v.home l) held)
deed_of s v l (action.Post m w) = deed.Post m w (word_answer s v m)
deed_of s v l (action.Quit m) = deed.Quit m (word_answer s v m)
deed_of s v l (action.Leave hr x) = left_by s v l hr x (running_call (v.openers l))
deed_of s v l (action.Init m) = initialised v m (v.home l)
deed_of s v l action.Uninit = uninitialised v l
deed_of s v l (action.SetFilter f) = filter_set v l f
deed_of s v l (action.Pump n) = deed.Pump n
