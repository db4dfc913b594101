-- What an entry says in plain words: the rows of calls, of message filters and of words, and all rows.
use Rattle.std.specs.Prelude.{ℕ, ℤ, pos, ◌==◌, int_lt, if◌then◌else◌, List, [], ◌++◌, Option, Some, None}
use Rattle.std.specs.Prelude.{codes, decimal}
use Rattle.std.specs.Fmt.{signed_decimal}
use Rattle.com_base.specs.declared.hresult.HResult.{HResult}
use Rattle.com_base.specs.declared.value.Value.{Value}
use Rattle.com_classes.specs.Tables.{Tables}
use Rattle.com_filter.specs.declared.TheConstants.{LEAST_DELAY_MS}
use Rattle.com_draw_words.specs.Escapes.{link_text, word_and_number}
use Rattle.com_filter.specs.declared.Verdict.{Verdict}
use Rattle.com_model.specs.declared.deeds.Deed.{Deed}
use Rattle.com_model.specs.declared.deeds.Deed.TheVariants as deed
use Rattle.com_model.specs.declared.deeds.Entry.{Entry}
use Rattle.com_model.specs.declared.deeds.Route.{Route}
use Rattle.com_model.specs.declared.deeds.Route.TheVariants as route
use Rattle.com_model.specs.declared.scenario.Scenario.{Scenario}
use Rattle.com_model.specs.Deeds.{object_in}
use Rattle.com_draw_names.specs.declared.contexts.Caller.{Caller}
use Rattle.com_draw_names.specs.declared.contexts.Context.{Context}
use Rattle.com_draw_stories.specs.declared.speakers.Called.{Called}
use Rattle.com_draw_stories.specs.declared.speakers.Entered.{Entered}
use Rattle.com_draw_stories.specs.declared.speakers.Speaker.{Speaker}
use Rattle.com_model.specs.Answers.{is_failure}
use Rattle.com_draw_names.specs.Failures.{failure_text}
use Rattle.com_draw_names.specs.Filters.{later_words, verdict_verb}
use Rattle.com_draw_names.specs.Names.{object_text, place_text, shown_called, shown_method}
use Rattle.com_draw_names.specs.Values.{shown_given}
use Rattle.com_draw_stories.specs.Phrases.{lane_at, lane_does, lane_link, lane_signed, signed_fails}
use Rattle.com_draw_stories.specs.Stories.{copy_story, create_story, disconnect_story, drop_story}
use Rattle.com_draw_stories.specs.Stories.{final_story, get_story, init_story, marshal_story, query_story}
use Rattle.com_draw_stories.specs.Stories.{raw_story, register_story, release_story, revoke_story}
use Rattle.com_draw_stories.specs.Stories.{uninit_story, unmarshal_story}

-- ---- filters, words and pumps

-- That a lane sets a message filter, or removes its own.
abbrev pub filter_plain : (lane : ℕ) → (filter : Option ℕ) → List ℕ
filter_plain l None = lane_does l (codes " removes its message filter")
filter_plain l (Some f) = lane_at l (codes " sets message filter F") f

-- That a lane sets or removes its message filter where the HRESULT is S_OK, and cannot where it is another.
abbrev pub filter_story : (lane : ℕ) → (filter : Option ℕ) → HResult → List ℕ
filter_story l f hr =
    if hr.0 == 0 then filter_plain l f else lane_does l (codes " cannot set a message filter here")

-- That a lane sends a word, and to which lane.
abbrev pub sent_story : (lane : ℕ) → (to word : ℤ) → List ℕ
sent_story l m w = lane_signed l (codes " sends word ") w ++ codes " to L" ++ signed_decimal m

-- That a lane sends a word to a lane, or why it cannot.
abbrev pub post_story : Speaker → (to word : ℤ) → HResult → List ℕ
post_story s m w hr =
    if is_failure hr then signed_fails s (codes " cannot send a word to lane ") m hr
    else sent_story s.lane m w

-- That a lane tells a lane to end its pump.
abbrev pub told_story : (lane : ℕ) → (to : ℤ) → List ℕ
told_story l m = lane_signed l (codes " tells L") m ++ codes " to end its pump"

-- That a lane tells a lane to end its pump, or why it cannot.
abbrev pub quit_story : Speaker → (to : ℤ) → HResult → List ℕ
quit_story s m hr =
    if is_failure hr then signed_fails s (codes " cannot send a quit to lane ") m hr else told_story s.lane m

-- That a lane pumps until so many bodies have left.
abbrev pub bound_story : (lane bound : ℕ) → List ℕ
bound_story l n = lane_at l (codes " pumps: it lets calls and words in, until ") n ++ codes " served"

-- That a lane pumps: without a bound where it is 0, else until so many bodies have left.
abbrev pub pump_story : (lane bound : ℕ) → List ℕ
pump_story l n =
    if n == 0 then lane_does l (codes " pumps: it lets calls and words in") else bound_story l n

-- That a lane that pumps takes a word from its queue.
unfoldable pub took_story : (lane : ℕ) → (word : ℤ) → List ℕ
took_story l w = lane_signed l (codes " takes word ") w

-- ---- calls

-- How a call goes to its target, behind the call's number, whose parenthesis is closed.
abbrev pub route_words : Route → List ℕ
route_words route.Direct = codes ") directly"
route_words route.Switch = codes "), and changes apartments for it"
route_words route.Post = codes ") in another apartment, and waits"
route_words route.Refused = codes "), which is refused at once"

-- That a lane calls a method of an object, or of null, and how the call goes there.
abbrev pub out_story : Tables → Caller → (call : ℕ) → (object : Option ℕ) → Route → List ℕ
out_story t k c o r =
    lane_does k.lane (codes " calls ") ++ shown_method t k.iface k.method ++ codes " of " ++ object_text o
    ++ word_and_number (codes " (c") c ++ route_words r

-- The lane that made a call; 0 where nobody waits for it.
abbrev pub caller_lane : Option Caller → ℕ
caller_lane None = 0
caller_lane (Some k) = k.lane

-- A call, and the lane that made it.
abbrev pub call_of_lane : (call caller : ℕ) → List ℕ
call_of_lane c m = codes " " ++ link_text c ++ word_and_number (codes " of L") m

-- Why the filter was asked, by the call's type.
abbrev pub type_reason : ℕ → List ℕ
type_reason n =
    if n == 1 then codes ": no call of its own waits"
    else if n == 2 then codes ": it is a callback"
    else codes ": its own call waits"

-- What a lane's filter does with a call, who made that, and why the filter was asked.
abbrev pub verdict_story : (lane caller call call_type : ℕ) → Verdict → List ℕ
verdict_story l m c n v =
    lane_does l (codes "'s filter ") ++ verdict_verb v ++ call_of_lane c m ++ type_reason n

-- That a lane cannot take a call in, who made that, and why.
abbrev pub refuse_story : Speaker → (caller call : ℕ) → HResult → List ℕ
refuse_story s m c hr =
    lane_does s.lane (codes " cannot take in") ++ call_of_lane c m ++ failure_text s.version hr

-- For whom a body runs, where that is another lane.
abbrev pub for_lane : (lane : ℕ) → Option Caller → List ℕ
for_lane l None = []
for_lane l (Some k) = if k.lane == l then [] else word_and_number (codes " for L") k.lane

-- What a body comes in between, by the call's type.
abbrev pub type_words : Option ℕ → List ℕ
type_words None = []
type_words (Some n) =
    if n == 2 then codes ": a callback" else if n == 4 then codes ", while its own call waits" else []

-- For whom a body runs where that is another lane, of which call it is, and what it comes in between.
abbrev pub entered_call : (lane : ℕ) → Called → (call_type : Option ℕ) → List ℕ
entered_call l c n = for_lane l c.caller ++ codes " (" ++ link_text c.call ++ codes ")" ++ type_words n

-- That a lane runs the method that a caller called, of which object, in which apartment.
abbrev pub entered_method : Tables → (lane : ℕ) → Option Caller → Entered → List ℕ
entered_method t l k b =
    lane_does l (codes " runs ") ++ shown_called t k ++ word_and_number (codes " of o") b.object
    ++ codes " in " ++ place_text b.apartment

-- That a lane runs a method of an object, in which apartment, and for which call.
abbrev pub enter_story : Tables → (lane : ℕ) → Called → Entered → List ℕ
enter_story t l c b = entered_method t l c.caller b ++ entered_call l c b.call_type

-- How a call ended: why it failed, or what it gave.
abbrev pub outcome : (version : ℕ) → HResult → Option Value → List ℕ
outcome version hr v = if is_failure hr then failure_text version hr else shown_given v

-- That nobody waits for the answer of a call, where nobody does.
abbrev pub unwaited : Option Caller → List ℕ
unwaited None = codes "; nobody waits for it"
unwaited (Some k) = []

-- That a lane answers a call: what that gives or why it failed, and that nobody waits for it where nobody does.
abbrev pub leave_story : Speaker → Called → HResult → Option Value → List ℕ
leave_story s c hr v =
    lane_does s.lane (codes " answers ") ++ link_text c.call ++ outcome s.version hr v ++ unwaited c.caller

-- That a lane has the answer of its call: what that gave, or why it failed.
abbrev pub back_story : Speaker → (call : ℕ) → HResult → Option Value → List ℕ
back_story s c hr v = lane_does s.lane (codes " has the answer of ") ++ link_text c ++ outcome s.version hr v

-- When a call is sent again, by a filter's answer: at once below `LEAST_DELAY_MS`, and else after so many milliseconds.
abbrev pub again_words : ℤ → List ℕ
again_words n = if int_lt n (pos LEAST_DELAY_MS) then codes " again at once" else later_words n

-- That a lane's filter has a call sent again, and when.
abbrev pub sends_again : (lane call : ℕ) → (answer : ℤ) → List ℕ
sends_again l c n = lane_does l (codes "'s filter sends ") ++ link_text c ++ again_words n

-- What a lane's filter does with a call of the lane that was not taken: a negative answer gives it up, and any
-- other has it sent again.
abbrev pub retry_story : (lane call : ℕ) → (answer : ℤ) → List ℕ
retry_story l c n =
    if int_lt n (pos 0) then lane_link l (codes "'s filter gives ") c (codes " up") else sends_again l c n

-- That a lane's filter cancels the call for which the lane waits, and for which word.
abbrev pub cancels_story : (lane call : ℕ) → (word : ℤ) → List ℕ
cancels_story l c w = lane_link l (codes "'s filter cancels ") c (codes " for word ") ++ signed_decimal w

-- What a lane's filter does with a word, and that the lane waits on for its call.
abbrev pub waits_on : (lane : ℕ) → List ℕ → (call : ℕ) → (word : ℤ) → List ℕ
waits_on l words c w = lane_signed l words w ++ codes ", and waits on for " ++ link_text c

-- What a lane's filter does about a word that came while a call waits: 0 cancels the call, 1 leaves the word,
-- and any other answer takes the word away.
abbrev pub pending_story : (lane call : ℕ) → (word : ℤ) → (answer : ℕ) → List ℕ
pending_story l c w n =
    if n == 0 then cancels_story l c w
    else if n == 1 then waits_on l (codes "'s filter leaves word ") c w
    else waits_on l (codes "'s filter drops word ") c w

-- ---- all rows

-- That no lane can go on, and to which time the clock moves, in milliseconds.
abbrev pub tick_story : (clock : ℕ) → List ℕ
tick_story n = codes "No lane can go on, so the clock moves to " ++ decimal n ++ codes " ms"

-- What was done, in plain words.
abbrev pub deed_story : Tables → Speaker → Context → Deed → List ℕ
deed_story t s x (deed.Init m home hr) = init_story s home x.has_home hr
deed_story t s x (deed.Uninit home count) = uninit_story s.lane home count
deed_story t s x (deed.Made object apartment class iface hr) =
    create_story t s (record { object = object; apartment = apartment }) class hr
deed_story t s x (deed.Query object iface hr) = query_story t s object iface hr
deed_story t s x (deed.Copy held) = copy_story s.lane held
deed_story t s x (deed.Release held) = release_story s.lane held
deed_story t s x (deed.Marshal packet m held refs hr bytes) = marshal_story s packet m (object_in held) hr
deed_story t s x (deed.Unmarshal packet held refs hr) = unmarshal_story s packet (object_in held) hr
deed_story t s x (deed.DropPacket packet hr) = drop_story s packet hr
deed_story t s x (deed.Raw buffer count) = raw_story s.lane buffer count
deed_story t s x (deed.Register cookie held hr) = register_story s cookie (object_in held) hr
deed_story t s x (deed.Get cookie held refs hr) = get_story s cookie (object_in held) hr
deed_story t s x (deed.Revoke cookie hr) = revoke_story s cookie hr
deed_story t s x (deed.SetFilter filter hr) = filter_story s.lane filter hr
deed_story t s x (deed.Post to word hr) = post_story s to word hr
deed_story t s x (deed.Quit to hr) = quit_story s to hr
deed_story t s x (deed.Pump bound) = pump_story s.lane bound
deed_story t s x deed.EndPump = lane_does s.lane (codes " ends its pump")
deed_story t s x (deed.Word word) = took_story s.lane word
deed_story t s x (deed.Out call object iface method r cause bytes) =
    out_story t (record { lane = s.lane; iface = iface; method = method }) call object r
deed_story t s x (deed.Verdict call call_type v) =
    verdict_story s.lane (caller_lane x.caller) call call_type v
deed_story t s x (deed.Refuse call hr) = refuse_story s (caller_lane x.caller) call hr
deed_story t s x (deed.Enter call object apartment call_type values) =
    enter_story t s.lane (record { call = call; caller = x.caller })
    (record { object = object; apartment = apartment; call_type = call_type })
deed_story t s x (deed.Leave call hr v bytes) = leave_story s (record { call = call; caller = x.caller }) hr v
deed_story t s x (deed.Retry call answer) = retry_story s.lane call answer
deed_story t s x (deed.Again call) = lane_link s.lane (codes " sends ") call (codes " again")
deed_story t s x (deed.Back call hr v) = back_story s call hr v
deed_story t s x (deed.Pending call word answer) = pending_story s.lane call word answer
deed_story t s x (deed.Disconnect object hr) = disconnect_story s object hr
deed_story t s x (deed.Final object) = final_story s.lane object
deed_story t s x (deed.Tick clock) = tick_story clock
deed_story t s x deed.End = lane_does s.lane (codes " is over")

-- The story of an entry.
abbrev pub story : Scenario → Context → Entry → List ℕ
story s x e = deed_story s.classes (record { version = s.version; lane = e.lane }) x e.deed
