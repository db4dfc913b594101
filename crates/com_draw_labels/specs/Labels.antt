-- What an entry's label says, before it is escaped.
use Rattle.std.specs.Prelude.{ℕ, ℤ, pos, ◌==◌, int_lt, Bool, if◌then◌else◌, List, [], ◌++◌, Option, Some}
use Rattle.std.specs.Prelude.{None, codes}
use Rattle.com_base.specs.declared.hresult.HResult.{HResult}
use Rattle.com_base.specs.declared.value.RefValue.{RefValue}
use Rattle.com_base.specs.declared.value.Value.{Value}
use Rattle.com_body.specs.declared.operands.Asked.{Asked}
use Rattle.com_classes.specs.Tables.{Tables}
use Rattle.com_filter.specs.declared.TheConstants.{LEAST_DELAY_MS}
use Rattle.com_draw_words.specs.Escapes.{word_and_number}
use Rattle.com_filter.specs.declared.Verdict.{Verdict}
use Rattle.com_model.specs.declared.deeds.Deed.{Deed}
use Rattle.com_model.specs.declared.deeds.Deed.TheVariants as deed
use Rattle.com_model.specs.declared.deeds.Entry.{Entry}
use Rattle.com_model.specs.declared.scenario.Scenario.{Scenario}
use Rattle.com_model.specs.Deeds.{object_in}
use Rattle.com_model.specs.Text.{hresult_text, named}
use Rattle.com_draw_names.specs.declared.contexts.Born.{Born}
use Rattle.com_draw_names.specs.declared.contexts.Caller.{Caller}
use Rattle.com_draw_names.specs.declared.contexts.Context.{Context}
use Rattle.com_model.specs.Answers.{is_failure}
use Rattle.com_draw_names.specs.Failures.{hresult_behind, hresult_if}
use Rattle.com_draw_names.specs.Filters.{later_words, verdict_verb}
use Rattle.com_draw_names.specs.Names.{called_words, class_words, interface_words, method_words, object_text}
use Rattle.com_draw_names.specs.Values.{given_text, passed_text}
use Rattle.com_draw_labels.specs.Words.{failed_label, words_named, words_place, words_signed}

-- ---- apartments

abbrev pub init_label : (version home : ℕ) → (has_home : Bool) → HResult → List ℕ
init_label v a has_home hr =
    if is_failure hr then failed_label (codes "init") v hr
    else if has_home then codes "enters again"
    else words_place (codes "enters ") a

abbrev pub uninit_label : (home : Option ℕ) → (count : ℕ) → List ℕ
uninit_label None n = codes "leaves nothing"
uninit_label (Some a) n = if n == 0 then words_place (codes "leaves ") a else codes "leaves once"

-- ---- objects and references to them

abbrev pub unmade_label : Tables → (version : ℕ) → Asked → HResult → List ℕ
unmade_label t v class hr = codes "new " ++ class_words t class ++ hresult_behind v hr

abbrev pub made_label : Tables → Born → Asked → List ℕ
made_label t b class =
    words_named (codes "new ") (codes "o") b.object ++ codes " " ++ class_words t class
    ++ words_named (codes " in ") (codes "a") b.apartment

abbrev pub create_label : Tables → (version : ℕ) → Born → Asked → HResult → List ℕ
create_label t v b class hr = if is_failure hr then unmade_label t v class hr else made_label t b class

abbrev pub query_label : Tables → (version : ℕ) → (object : Option ℕ) → Asked → HResult → List ℕ
query_label t v o i hr = object_text o ++ codes " as " ++ interface_words t i ++ hresult_if v hr

abbrev pub copy_label : Option RefValue → List ℕ
copy_label None = codes "keeps null"
copy_label (Some r) = word_and_number (codes "keeps o") r.object

abbrev pub release_label : Option RefValue → List ℕ
release_label None = codes "releases null"
release_label (Some r) = word_and_number (codes "releases o") r.object

-- ---- packets, and the global table

-- An object and a packet, with words before each.
abbrev pub object_and_packet : (before : List ℕ) → Option ℕ → (between : List ℕ) → Option ℕ → List ℕ
object_and_packet before o between p = words_named before (codes "o") o ++ words_named between (codes "pk") p

abbrev pub marshal_label : (version : ℕ) → (packet object : Option ℕ) → HResult → List ℕ
marshal_label v p o hr =
    if is_failure hr then failed_label (codes "pack") v hr
    else object_and_packet (codes "packs ") o (codes " in ") p

abbrev pub unmarshal_label : (version : ℕ) → (packet object : Option ℕ) → HResult → List ℕ
unmarshal_label v p o hr =
    if is_failure hr then failed_label (codes "unpack") v hr
    else object_and_packet (codes "unpacks ") o (codes " from ") p

abbrev pub drop_label : (version : ℕ) → (packet : Option ℕ) → HResult → List ℕ
drop_label v p hr =
    if is_failure hr then failed_label (codes "drop") v hr else words_named (codes "drops ") (codes "pk") p

abbrev pub registered_label : (cookie object : Option ℕ) → List ℕ
registered_label g o = named (codes "o") o ++ words_named (codes " gets cookie ") [] g

abbrev pub register_label : (version : ℕ) → (cookie object : Option ℕ) → HResult → List ℕ
register_label v g o hr =
    if is_failure hr then failed_label (codes "register") v hr else registered_label g o

abbrev pub got_label : (cookie : ℤ) → (object : Option ℕ) → List ℕ
got_label g o = named (codes "o") o ++ words_signed (codes " by cookie ") g

abbrev pub get_label : (version : ℕ) → (cookie : ℤ) → (object : Option ℕ) → HResult → List ℕ
get_label v g o hr = if is_failure hr then failed_label (codes "get") v hr else got_label g o

abbrev pub revoke_label : (version : ℕ) → (cookie : ℤ) → HResult → List ℕ
revoke_label v g hr =
    if is_failure hr then failed_label (codes "revoke") v hr else words_signed (codes "revokes cookie ") g

abbrev pub disconnect_label : (version : ℕ) → (object : Option ℕ) → HResult → List ℕ
disconnect_label v o hr =
    if is_failure hr then failed_label (codes "disconnect") v hr
    else words_named (codes "disconnects ") (codes "o") o

-- ---- filters, words and pumps

abbrev pub filter_named : (filter : Option ℕ) → List ℕ
filter_named None = codes "filter none"
filter_named (Some f) = word_and_number (codes "filter F") f

abbrev pub filter_label : (version : ℕ) → (filter : Option ℕ) → HResult → List ℕ
filter_label v f hr = if hr.0 == 0 then filter_named f else failed_label (codes "filter") v hr

abbrev pub sent_label : (to word : ℤ) → List ℕ
sent_label m w = words_signed (codes "word ") w ++ words_signed (codes " to L") m

abbrev pub post_label : (version : ℕ) → (to word : ℤ) → HResult → List ℕ
post_label v m w hr = if is_failure hr then failed_label (codes "post") v hr else sent_label m w

abbrev pub quit_label : (version : ℕ) → (to : ℤ) → HResult → List ℕ
quit_label v m hr =
    if is_failure hr then failed_label (codes "quit") v hr else words_signed (codes "quit to L") m

abbrev pub pump_label : ℕ → List ℕ
pump_label n = if n == 0 then codes "pumps" else word_and_number (codes "pumps for ") n

-- ---- calls

abbrev pub out_label : Tables → (object : Option ℕ) → (iface method : ℕ) → List ℕ
out_label t o i m = codes "calls " ++ object_text o ++ codes "." ++ method_words t i m

abbrev pub verdict_label : Verdict → (call : ℕ) → List ℕ
verdict_label v c = verdict_verb v ++ word_and_number (codes " c") c

abbrev pub refuse_label : (version call : ℕ) → HResult → List ℕ
refuse_label v c hr = word_and_number (codes "refuses c") c ++ hresult_behind v hr

abbrev pub enter_label : Tables → Option Caller → (object : ℕ) → List Value → List ℕ
enter_label t x o vs = word_and_number (codes "o") o ++ codes "." ++ called_words t x ++ passed_text vs

-- An HRESULT behind a space.
abbrev pub spaced_hresult : (version : ℕ) → HResult → List ℕ
spaced_hresult v hr = codes " " ++ hresult_text v hr

-- An HRESULT behind a space, where it is not that of success.
abbrev pub hresult_word : (version : ℕ) → HResult → List ℕ
hresult_word v hr = if hr.0 == 0 then [] else spaced_hresult v hr

-- What a call gave, behind words.
abbrev pub gave_label : List ℕ → (version : ℕ) → HResult → Option Value → List ℕ
gave_label words v hr x = words ++ hresult_word v hr ++ given_text x

abbrev pub back_label : (version : ℕ) → HResult → Option Value → List ℕ
back_label v hr None = if hr.0 == 0 then codes "got its answer" else gave_label (codes "got") v hr None
back_label v hr (Some x) = gave_label (codes "got") v hr (Some x)

abbrev pub later_label : (call : ℕ) → ℤ → List ℕ
later_label c n = word_and_number (codes "c") c ++ later_words n

abbrev pub retry_label : (call : ℕ) → ℤ → List ℕ
retry_label c n =
    if int_lt n (pos 0) then word_and_number (codes "gives up c") c
    else if int_lt n (pos LEAST_DELAY_MS) then word_and_number (codes "again c") c
    else later_label c n

abbrev pub pending_label : (call : ℕ) → (word : ℤ) → (answer : ℕ) → List ℕ
pending_label c w n =
    if n == 0 then word_and_number (codes "cancels c") c
    else if n == 1 then words_signed (codes "leaves word ") w
    else words_signed (codes "drops word ") w

-- ---- all rows

-- What was done, in a few words; none for a move of the clock.
abbrev pub deed_label : Tables → (version : ℕ) → Context → Deed → List ℕ
deed_label t v x (deed.Init m home hr) = init_label v home x.has_home hr
deed_label t v x (deed.Uninit home count) = uninit_label home count
deed_label t v x (deed.Made object apartment class iface hr) =
    create_label t v (record { object = object; apartment = apartment }) class hr
deed_label t v x (deed.Query object iface hr) = query_label t v object iface hr
deed_label t v x (deed.Copy held) = copy_label held
deed_label t v x (deed.Release held) = release_label held
deed_label t v x (deed.Marshal packet m held refs hr bytes) = marshal_label v packet (object_in held) hr
deed_label t v x (deed.Unmarshal packet held refs hr) = unmarshal_label v packet (object_in held) hr
deed_label t v x (deed.DropPacket packet hr) = drop_label v packet hr
deed_label t v x (deed.Raw buffer count) = word_and_number (codes "bytes in p") buffer
deed_label t v x (deed.Register cookie held hr) = register_label v cookie (object_in held) hr
deed_label t v x (deed.Get cookie held refs hr) = get_label v cookie (object_in held) hr
deed_label t v x (deed.Revoke cookie hr) = revoke_label v cookie hr
deed_label t v x (deed.SetFilter filter hr) = filter_label v filter hr
deed_label t v x (deed.Post to word hr) = post_label v to word hr
deed_label t v x (deed.Quit to hr) = quit_label v to hr
deed_label t v x (deed.Pump bound) = pump_label bound
deed_label t v x deed.EndPump = codes "pump ends"
deed_label t v x (deed.Word word) = words_signed (codes "takes word ") word
deed_label t v x (deed.Out call object iface method r cause bytes) = out_label t object iface method
deed_label t v x (deed.Verdict call call_type verdict) = verdict_label verdict call
deed_label t v x (deed.Refuse call hr) = refuse_label v call hr
deed_label t v x (deed.Enter call object apartment call_type values) = enter_label t x.caller object values
deed_label t v x (deed.Leave call hr value bytes) = gave_label (codes "answers") v hr value
deed_label t v x (deed.Retry call answer) = retry_label call answer
deed_label t v x (deed.Again call) = word_and_number (codes "again c") call
deed_label t v x (deed.Back call hr value) = back_label v hr value
deed_label t v x (deed.Pending call word answer) = pending_label call word answer
deed_label t v x (deed.Disconnect object hr) = disconnect_label v object hr
deed_label t v x (deed.Final object) = word_and_number (codes "destroys o") object
deed_label t v x (deed.Tick clock) = []
deed_label t v x deed.End = codes "end"

-- The words of an entry's label.
abbrev pub label : Scenario → Context → Entry → List ℕ
label s x e = deed_label s.classes s.version x e.deed
