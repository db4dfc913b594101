-- The text of a history, one line for each entry, and the text of the report behind it.
use Rattle.std.specs.Prelude.{ℕ, ◌+◌, ◌==◌, List, [], ◌∷◌, ◌++◌, length, true, false, Option}
use Rattle.std.specs.Prelude.{Some, None, unwrap_or, if◌then◌else◌, codes, decimal}
use Rattle.std.specs.Fmt.{signed_decimal}
use Rattle.std.specs.List.{flat_map}
use Rattle.hex.specs.Hex.{encode_lower}
use Rattle.com_base.specs.Guids.{text_of}
use Rattle.com_base.specs.HResults.{eight_digits, name_of}
use Rattle.com_base.specs.declared.hresult.HResult.{HResult}
use Rattle.com_base.specs.declared.value.Value.{Value}
use Rattle.com_base.specs.declared.value.Value.TheVariants as value
use Rattle.com_base.specs.declared.value.RefValue.{RefValue}
use Rattle.com_base.specs.declared.value.Mode.{Mode}
use Rattle.com_base.specs.declared.value.Mode.TheVariants as mode
use Rattle.com_base.specs.declared.value.MarshalMode.{MarshalMode}
use Rattle.com_base.specs.declared.value.MarshalMode.TheVariants as marshal_mode
use Rattle.com_body.specs.declared.operands.Asked.{Asked}
use Rattle.com_body.specs.declared.operands.Asked.TheVariants as asked
use Rattle.com_filter.specs.declared.Verdict.{Verdict}
use Rattle.com_filter.specs.declared.Verdict.TheVariants as verdict
use Rattle.com_model.specs.declared.deeds.Route.{Route}
use Rattle.com_model.specs.declared.deeds.Route.TheVariants as route
use Rattle.com_model.specs.declared.deeds.Deed.{Deed}
use Rattle.com_model.specs.declared.deeds.Deed.TheVariants as deed
use Rattle.com_model.specs.declared.deeds.Entry.{Entry}
use Rattle.com_model.specs.declared.counts.Counts.{Counts}
use Rattle.com_model.specs.declared.counts.ObjectState.{ObjectState}
use Rattle.com_model.specs.declared.counts.ObjectState.TheVariants as object_state
use Rattle.com_model.specs.declared.counts.Ended.{Ended}
use Rattle.com_model.specs.declared.counts.Ended.TheVariants as ended

-- an HRESULT: in version 2 its digits, otherwise its name, or its digits where it has none
abbrev pub hresult_text : ℕ → HResult → List ℕ
hresult_text version hr =
    if version == 2 then eight_digits hr.0 else unwrap_or (name_of hr.0) (eight_digits hr.0)

-- a number behind its letter, or a dash where there is none
abbrev pub named : List ℕ → Option ℕ → List ℕ
named letter None = codes "-"
named letter (Some number) = letter ++ decimal number

-- an object and an interface, or two dashes for null
abbrev pub held_text : Option RefValue → List ℕ
held_text None = codes "- -"
held_text (Some held) = codes "o" ++ decimal held.object ++ codes " I" ++ decimal held.iface

-- a class or an interface: its number behind its letter, or the GUID of one that is not declared
abbrev pub asked_text : List ℕ → Asked → List ℕ
asked_text letter (asked.Number number) = letter ++ decimal number
asked_text letter (asked.Guid guid) = text_of guid

-- bytes in lower-case hexadecimal, or a dash where there are none
abbrev pub bytes_text : Option (List ℕ) → List ℕ
bytes_text None = codes "-"
bytes_text (Some bytes) = encode_lower bytes

-- the kind of apartment that an Init asks for: single-threaded or multithreaded
abbrev pub mode_text : Mode → List ℕ
mode_text mode.Sta = codes "sta"
mode_text mode.Mta = codes "mta"

-- the mode in which a reference is marshalled: for one unmarshal, or as a strong or weak table packet
abbrev pub marshal_mode_text : MarshalMode → List ℕ
marshal_mode_text marshal_mode.Normal = codes "normal"
marshal_mode_text marshal_mode.Strong = codes "strong"
marshal_mode_text marshal_mode.Weak = codes "weak"

-- the route of a call, which is `none` for a call that was refused at its issue
abbrev pub route_text : Route → List ℕ
route_text route.Direct = codes "direct"
route_text route.Switch = codes "switch"
route_text route.Post = codes "post"
route_text route.Refused = codes "none"

-- what a message filter answered to an incoming call
abbrev pub verdict_text : Verdict → List ℕ
verdict_text verdict.Handled = codes "handled"
verdict_text verdict.Rejected = codes "rejected"
verdict_text verdict.Later = codes "later"

-- a filter behind its letter, or that there is none
abbrev pub filter_text : Option ℕ → List ℕ
filter_text None = codes "none"
filter_text (Some number) = codes "F" ++ decimal number

-- a call type, or a dash where the call has none
abbrev pub call_type_text : Option ℕ → List ℕ
call_type_text None = codes "-"
call_type_text (Some number) = decimal number

-- a value
abbrev pub value_text : Value → List ℕ
value_text (value.Int number) = signed_decimal number
value_text (value.Bool true) = codes "true"
value_text (value.Bool false) = codes "false"
value_text (value.Text text) = codes "\"" ++ text ++ codes "\""
value_text (value.Bytes bytes) = codes "x\"" ++ encode_lower bytes ++ codes "\""
value_text (value.Guid guid) = text_of guid
value_text (value.Ref None) = codes "null"
value_text (value.Ref (Some held)) = codes "o" ++ decimal held.object ++ codes ":I" ++ decimal held.iface

-- a value, or nothing
abbrev pub one_value_text : Option Value → List ℕ
one_value_text None = []
one_value_text (Some v) = value_text v

-- a value behind a comma
abbrev pub later_value_text : Value → List ℕ
later_value_text v = codes "," ++ value_text v

-- values with commas between
abbrev pub values_text : List Value → List ℕ
values_text [] = []
values_text (v ∷ rest) = value_text v ++ flat_map later_value_text rest

-- what was done, behind the front of its line
abbrev pub deed_line : ℕ → List ℕ → Deed → List ℕ
deed_line version front (deed.Init m home hr) =
    front ++ codes " init " ++ mode_text m ++ codes " a" ++ decimal home ++ codes " "
    ++ hresult_text version hr
deed_line version front (deed.Uninit home count) =
    front ++ codes " uninit " ++ named (codes "a") home ++ codes " " ++ decimal count
deed_line version front (deed.Made object apartment class iface hr) =
    front ++ codes " made " ++ named (codes "o") object ++ codes " " ++ named (codes "a") apartment
    ++ codes " " ++ asked_text (codes "C") class ++ codes " " ++ asked_text (codes "I") iface
    ++ codes " " ++ hresult_text version hr
deed_line version front (deed.Query object iface hr) =
    front ++ codes " query " ++ named (codes "o") object ++ codes " " ++ asked_text (codes "I") iface
    ++ codes " " ++ hresult_text version hr
deed_line version front (deed.Copy held) =
    front ++ codes " copy " ++ held_text held ++ codes " " ++ hresult_text version (record { 0 = 0 })
deed_line version front (deed.Release held) =
    front ++ codes " release " ++ held_text held
deed_line version front (deed.Marshal packet m held refs hr bytes) =
    front ++ codes " marshal " ++ named (codes "pk") packet ++ codes " " ++ marshal_mode_text m
    ++ codes " " ++ held_text held ++ codes " " ++ decimal refs ++ codes " " ++ hresult_text version hr
    ++ codes " " ++ bytes_text bytes
deed_line version front (deed.Unmarshal packet held refs hr) =
    front ++ codes " unmarshal " ++ named (codes "pk") packet ++ codes " " ++ held_text held
    ++ codes " " ++ decimal refs ++ codes " " ++ hresult_text version hr
deed_line version front (deed.DropPacket packet hr) =
    front ++ codes " drop " ++ named (codes "pk") packet ++ codes " " ++ hresult_text version hr
deed_line version front (deed.Raw buffer count) =
    front ++ codes " raw p" ++ decimal buffer ++ codes " " ++ decimal count
deed_line version front (deed.Register cookie held hr) =
    front ++ codes " register " ++ named (codes "g") cookie ++ codes " " ++ held_text held
    ++ codes " " ++ hresult_text version hr
deed_line version front (deed.Get cookie held refs hr) =
    front ++ codes " get " ++ signed_decimal cookie ++ codes " " ++ held_text held
    ++ codes " " ++ decimal refs ++ codes " " ++ hresult_text version hr
deed_line version front (deed.Revoke cookie hr) =
    front ++ codes " revoke " ++ signed_decimal cookie ++ codes " " ++ hresult_text version hr
deed_line version front (deed.SetFilter filter hr) =
    front ++ codes " setfilter " ++ filter_text filter ++ codes " " ++ hresult_text version hr
deed_line version front (deed.Post lane word hr) =
    front ++ codes " post " ++ signed_decimal lane ++ codes " " ++ signed_decimal word
    ++ codes " " ++ hresult_text version hr
deed_line version front (deed.Quit lane hr) =
    front ++ codes " quit " ++ signed_decimal lane ++ codes " " ++ hresult_text version hr
deed_line version front (deed.Pump bound) = front ++ codes " pump " ++ decimal bound
deed_line version front deed.EndPump = front ++ codes " endpump"
deed_line version front (deed.Word word) = front ++ codes " word " ++ signed_decimal word
deed_line version front (deed.Out call object iface method r cause bytes) =
    front ++ codes " out c" ++ decimal call ++ codes " " ++ named (codes "o") object
    ++ codes " I" ++ decimal iface ++ codes "." ++ decimal method ++ codes " " ++ route_text r
    ++ codes " cause" ++ decimal cause ++ codes " " ++ bytes_text bytes
deed_line version front (deed.Verdict call call_type v) =
    front ++ codes " verdict c" ++ decimal call ++ codes " " ++ decimal call_type ++ codes " "
    ++ verdict_text v
deed_line version front (deed.Refuse call hr) =
    front ++ codes " refuse c" ++ decimal call ++ codes " " ++ hresult_text version hr
deed_line version front (deed.Enter call object apartment call_type values) =
    front ++ codes " enter c" ++ decimal call ++ codes " o" ++ decimal object ++ codes " a"
    ++ decimal apartment
    ++ codes " " ++ call_type_text call_type ++ codes " (" ++ values_text values ++ codes ")"
deed_line version front (deed.Leave call hr v bytes) =
    front ++ codes " leave c" ++ decimal call ++ codes " " ++ hresult_text version hr
    ++ codes " (" ++ one_value_text v ++ codes ") " ++ bytes_text bytes
deed_line version front (deed.Retry call answer) =
    front ++ codes " retry c" ++ decimal call ++ codes " " ++ signed_decimal answer
deed_line version front (deed.Again call) = front ++ codes " again c" ++ decimal call
deed_line version front (deed.Back call hr v) =
    front ++ codes " back c" ++ decimal call ++ codes " " ++ hresult_text version hr
    ++ codes " (" ++ one_value_text v ++ codes ")"
deed_line version front (deed.Pending call word answer) =
    front ++ codes " pending c" ++ decimal call ++ codes " " ++ signed_decimal word ++ codes " "
    ++ decimal answer
deed_line version front (deed.Disconnect object hr) =
    front ++ codes " disconnect " ++ named (codes "o") object ++ codes " " ++ hresult_text version hr
deed_line version front (deed.Final object) = front ++ codes " final o" ++ decimal object
deed_line version front (deed.Tick clock) = front ++ codes " tick " ++ decimal clock
deed_line version front deed.End = front ++ codes " end"

-- the line of the entry at a place of a history, counted from 1
abbrev pub line_text : ℕ → ℕ → Entry → List ℕ
line_text version place entry =
    deed_line version (decimal place ++ codes " L" ++ decimal entry.lane) entry.deed ++ codes "\n"

-- the lines of a history, which is given with its newest entry first
abbrev pub history_text : ℕ → List Entry → List ℕ
history_text version [] = []
history_text version (entry ∷ older) =
    history_text version older ++ line_text version (length older + 1) entry

-- what has become of an object: `released` after its Final, before it whether the object is connected
abbrev pub object_state_text : ObjectState → List ℕ
object_state_text object_state.Live = codes "live"
object_state_text object_state.Disconnected = codes "disconnected"
object_state_text object_state.Released = codes "released"

-- how a history ended: all was done, nothing could go on, or it had as many entries as it may have
abbrev pub ended_text : Ended → List ℕ
ended_text ended.Ok = codes "ok"
ended_text ended.Stuck = codes "stuck"
ended_text ended.Budget = codes "budget"

-- the report's line of an object
abbrev pub object_line : ℕ → Counts → List ℕ
object_line number c =
    codes "o" ++ decimal number ++ codes " C" ++ decimal c.class ++ codes " a" ++ decimal c.owner
    ++ codes " " ++ object_state_text c.state ++ codes " direct " ++ decimal c.direct
    ++ codes " proxies " ++ decimal c.proxies ++ codes " packets " ++ decimal c.packets
    ++ codes " tables " ++ decimal c.tables ++ codes " stub " ++ decimal c.stub ++ codes "\n"

-- the report's lines of the objects, which are numbered from here on
abbrev pub object_lines : ℕ → List Counts → List ℕ
object_lines number [] = []
object_lines number (c ∷ rest) = object_line number c ++ object_lines (number + 1) rest

-- the report: a line for each object from 1, and two lines of the whole
abbrev pub report_text : List Counts → ℕ → ℕ → Ended → List ℕ
report_text counts entries clock e =
    object_lines 1 counts ++ codes "entries " ++ decimal entries ++ codes " clock " ++ decimal clock
    ++ codes "\nend " ++ ended_text e ++ codes "\n"
