-- The ten rules of a lane's next entry, and legal histories.
use Rattle.std.specs.Prelude.{◌≡◌, ℕ, ◌-◌, Bool, true, false, not, ◌==◌, ◌&&◌, nat_le, nat_lt, if◌then◌else◌}
use Rattle.std.specs.Prelude.{List, [], ◌∷◌, length, map, filter_map, Option, Some, None, is_some, is_none}
use Rattle.std.specs.Prelude.{option_map, option_and_then}
use Rattle.com_base.specs.declared.limits.TheConstants.{OPENER_LIMIT}
use Rattle.com_body.specs.declared.actions.Action.{Action}
use Rattle.com_filter.specs.declared.Verdict.{Verdict}
use Rattle.com_model.specs.declared.deeds.Deed.{Deed}
use Rattle.com_model.specs.declared.deeds.Deed.TheVariants as deed
use Rattle.com_model.specs.declared.deeds.Entry.{Entry}
use Rattle.com_model.specs.declared.scenario.Scenario.{Scenario}
use Rattle.com_model.specs.Answers.{S_OK, RPC_E_OUT_OF_RESOURCES, RPC_E_SERVER_CANTUNMARSHAL_DATA}
use Rattle.com_model.specs.Answers.{RPC_E_CLIENT_CANTUNMARSHAL_DATA}
use Rattle.com_model.specs.Lists.{or_else, where_true, first, first_that, one_to, any_of, least}
use Rattle.com_model.specs.Tables.{LaneSort, Thread, Host, Pool, NoLane, lane_sort, lanes}
use Rattle.com_model.specs.Openers.{Opener, Pumps, Waits, Enters, open_calls}
use Rattle.com_model.specs.Apartments.{mta, is_sta}
use Rattle.com_model.specs.Calls.{route_of, object_of, cause_of, is_post, is_marshalled}
use Rattle.com_filter.specs.Answers.{incoming_answer, retry_answer, pending_answer}
use Rattle.com_cause.specs.CallType.{call_type}
use Rattle.com_model.specs.Clock.{waited, rules_of, is_handled}
use Rattle.com_model.specs.Endings.{Answer, answer_of, without_value, is_leave}
use Rattle.com_refs_books.specs.Changes.{packet}
use Rattle.com_model.specs.Waiting.{Phase, Judged, Delayed, Word, mark_of, not_asked, bound_reached}
use Rattle.com_model.specs.Deeds.{deed_of, uninitialised, in_sta}
use Rattle.com_model.specs.Sight.{Sight, sight}

-- The innermost opener of a lane; none where nothing stands open in it.
abbrev pub top : Sight → ℕ → Option Opener
top v l = first (v.openers l)

-- The call of the Out that is the lane's top, where it is one.
abbrev pub waiting_call : Option Opener → Option ℕ
waiting_call (Some (Waits c)) = Some c
waiting_call _ = None

-- The call that the lane waits for, where its Out is the innermost opener; else none.
abbrev pub own_call : Sight → ℕ → Option ℕ
own_call v l = waiting_call (top v l)

-- The answer that a call has come to; none as long as no entry has fixed it.
abbrev pub due_of : Sight → ℕ → Option Answer
due_of v c = option_map (answer_of (v.at_issue c)) (v.ending c)

-- A packet that was made and is not outstanding.
abbrev pub is_gone : Sight → ℕ → Bool
is_gone v p = not (packet v.books p).outstanding

-- Whether the call was posted, to an object that an STA owns.
abbrev pub posted_to_sta : Sight → ℕ → Bool
posted_to_sta v c = is_post (route_of (v.issue c)) && is_sta (v.named (object_of (v.issue c)))

-- The call type of a call in a lane, over the causalities of the lane's open Outs. Source: IMessageFilter.
abbrev pub call_sort : Sight → ℕ → ℕ → ℕ
call_sort v l c =
    call_type (map (λ d. cause_of (v.issue d)) (open_calls (v.openers l))) (cause_of (v.issue c))

-- What the filter of lane l answers to call c, by its call type and by how long the lane's topmost Out has waited.
abbrev pub verdict_on : Scenario → Sight → ℕ → ℕ → Verdict
verdict_on s v l c =
    incoming_answer (rules_of s (v.filter l)) (call_sort v l c)
    (waited v.issued_at v.clock (open_calls (v.openers l)))

-- Whether the filter of the lane lets the call in, as a lane without filter does with every call.
abbrev pub is_handled_in : Scenario → Sight → ℕ → ℕ → Bool
is_handled_in s v l c = is_handled (verdict_on s v l c)

-- Whether the arguments were marshalled, and the packet of one of them is not outstanding any more.
abbrev pub arguments_gone : Sight → ℕ → Bool
arguments_gone v c = is_marshalled (route_of (v.issue c)) && any_of (is_gone v) (v.books.arguments c)

-- The entry by which lane l admits call c or turns it away, by the first that applies: a Refuse at `OPENER_LIMIT`
-- openers; the filter's Verdict on a call posted to an STA, where it is not Handled; a Refuse where an argument's
-- packet is not outstanding; an Enter. The Enter names the apartment where the body runs, and a call type where the
-- call was posted to an STA.
abbrev pub admission : Scenario → Sight → ℕ → ℕ → Deed
admission s v l c =
    if nat_le OPENER_LIMIT (length (v.openers l)) then deed.Refuse c RPC_E_OUT_OF_RESOURCES
    else if posted_to_sta v c && not (is_handled_in s v l c)
    then deed.Verdict c (call_sort v l c) (verdict_on s v l c)
    else if arguments_gone v c then deed.Refuse c RPC_E_SERVER_CANTUNMARSHAL_DATA
    else deed.Enter c (object_of (v.issue c)) (v.owner (object_of (v.issue c)) l)
    (where_true (posted_to_sta v c) (call_sort v l c)) (v.unread c)

-- 1. The Final of the first dying object that the lane serves.
abbrev pub rule_final : Sight → ℕ → Option Deed
rule_final v l = option_map (λ o. deed.Final o) (first (v.dying l))

-- Whether a lane enters its own call itself: the call was not posted, and has neither Enter nor answer.
abbrev pub enters_itself : Sight → ℕ → Bool
enters_itself v c = not (is_post (route_of (v.issue c))) && (is_none (v.admitted c) && is_none (v.ending c))

-- 2. The admission of the lane's own direct or switched call, where that has neither Enter nor answer.
abbrev pub rule_own : Scenario → Sight → ℕ → Option Deed
rule_own s v l = option_and_then (λ c. where_true (enters_itself v c) (admission s v l c)) (own_call v l)

-- Whether the call's body left, and the packet of its result is not outstanding any more.
abbrev pub result_gone : Sight → ℕ → Option ℕ → Bool
result_gone v c None = false
result_gone v c (Some p) = is_leave (v.ending c) && is_gone v p

-- The answer that the caller is given: RPC_E_CLIENT_CANTUNMARSHAL_DATA where a Leave's result packet is gone, else x.
abbrev pub back_answer : Sight → ℕ → Answer → Answer
back_answer v c x =
    if result_gone v c (v.books.result c) then without_value RPC_E_CLIENT_CANTUNMARSHAL_DATA else x

-- The Back of a call with an answer.
abbrev pub back_with : ℕ → Answer → Deed
back_with c x = deed.Back c x.hr x.value

-- The first argument packet of the call that is still outstanding, where the call was not entered; else none.
abbrev pub packet_left : Sight → ℕ → Option ℕ
packet_left v c =
    if is_none (v.admitted c) then first_that (λ p. not (is_gone v p)) (v.books.arguments c) else None

-- What is due for a call with answer x: the DropPacket of a packet that is left, else the Back.
abbrev pub answered : Sight → ℕ → Answer → Option ℕ → Deed
answered v c x (Some p) = deed.DropPacket (Some p) S_OK
answered v c x None = back_with c (back_answer v c x)

-- 3. For the call that the lane waits for, once it has an answer: the argument packets that are still outstanding are
-- dropped, if it was not entered; then Back. A result whose packet is not outstanding cannot be unmarshalled.
abbrev pub rule_answer : Sight → ℕ → Option Deed
rule_answer v l =
    option_and_then (λ c. option_map (λ x. answered v c x (packet_left v c)) (due_of v c)) (own_call v l)

-- 4. The end of a pump whose bound is reached.
abbrev pub rule_bound : Sight → ℕ → Option Deed
rule_bound v l = where_true (bound_reached (v.openers l) (v.served l)) deed.EndPump

-- Whether an STA's lane of this sort admits calls by its top: while that is a pump or an Out of route post, the
-- host's also without opener. Source: the message queue of an STA, IMessageFilter.
abbrev pub is_open_to_calls : Sight → LaneSort → Option Opener → Bool
is_open_to_calls v sort (Some (Pumps n)) = true
is_open_to_calls v sort (Some (Waits c)) = is_post (route_of (v.issue c))
is_open_to_calls v sort (Some (Enters c o a)) = false
is_open_to_calls v Host None = true
is_open_to_calls v Thread None = false
is_open_to_calls v Pool None = false
is_open_to_calls v NoLane None = false

-- The first call in the inbox of home a, where a is an STA and the lane's top lets calls in; else none.
abbrev pub admits_sta : Sight → ℕ → LaneSort → Option ℕ → Option ℕ
admits_sta v l sort None = None
admits_sta v l sort (Some a) =
    if is_sta a && is_open_to_calls v sort (top v l) then first (v.inbox a) else None

-- The call that a lane may admit from an inbox: a pool lane without opener from the MTA's, any other lane from
-- that of its home, if this is an STA.
abbrev pub admits_next : Sight → ℕ → LaneSort → Option ℕ
admits_next v l Pool = if is_none (top v l) then first (v.inbox mta) else None
admits_next v l sort = admits_sta v l sort (v.home l)

-- 5. The admission of the first call of the inbox, where the lane may admit it; none where there is no such call.
abbrev pub rule_inbox : Scenario → Sight → ℕ → Option Deed
rule_inbox s v l = option_map (admission s v l) (admits_next v l (lane_sort s l))

-- How many milliseconds ago the Out of the call was made.
abbrev pub since_out : Sight → ℕ → ℕ
since_out v c = v.clock - v.issued_at c

-- The Retry of call c, where its phase is that a Verdict judged it: the filter's answer to that verdict, by the time
-- since the Out.
abbrev pub retried : Scenario → Sight → ℕ → ℕ → Phase → Option Deed
retried s v l c (Judged x) = Some (deed.Retry c (retry_answer (rules_of s (v.filter l)) x (since_out v c)))
retried s v l c _ = None

-- 6. The question what to do after a verdict, put to the caller's filter: the Retry of the call that the lane waits
-- for, where a Verdict on it has had no Retry yet.
abbrev pub rule_retry : Scenario → Sight → ℕ → Option Deed
rule_retry s v l = option_and_then (λ c. retried s v l c (v.phase c)) (own_call v l)

-- The Again of a call in this phase, where it is delayed and its time has come.
abbrev pub posted_again : Sight → ℕ → Phase → Option Deed
posted_again v c (Delayed t) = where_true (nat_le t v.clock) (deed.Again c)
posted_again v c _ = None

-- 7. A call whose time has come is posted again: the Again of the call that the lane waits for, where a Retry delayed
-- it until a time that has come.
abbrev pub rule_again : Sight → ℕ → Option Deed
rule_again v l = option_and_then (λ c. posted_again v c (v.phase c)) (own_call v l)

-- The deed, where the lane's home is an STA and its call was posted: other lanes are not asked about words.
abbrev pub asks_about : Scenario → Sight → ℕ → ℕ → Deed → Option Deed
asks_about s v l c d = where_true (in_sta (v.home l) && is_post (route_of (v.issue c))) d

-- The Pending of a posted call c, in an STA, about word w: the filter's answer by the time since the Out; none without
-- a word.
abbrev pub asked_on : Scenario → Sight → ℕ → ℕ → Option Word → Option Deed
asked_on s v l c None = None
asked_on s v l c (Some w) =
    asks_about s v l c (deed.Pending c w.word (pending_answer (rules_of s (v.filter l)) (since_out v c)))

-- 8. The question what to do with a word while a call is waited for: the Pending of the posted call that the lane
-- waits for in an STA, about the first word that its Out was not asked about.
abbrev pub rule_pending : Scenario → Sight → ℕ → Option Deed
rule_pending s v l =
    option_and_then (λ c. asked_on s v l c (not_asked (mark_of (v.mail l).marks c) (v.mail l).words))
    (own_call v l)

-- The Word of the word that a pump takes; without a word the EndPump, where a quit stands.
abbrev pub takes_word : Option Word → (quit : Bool) → Option Deed
takes_word (Some w) quit = Some (deed.Word w.word)
takes_word None quit = where_true quit deed.EndPump

-- The Word or EndPump of a lane whose top is a pump; none where neither word nor quit is there, or the top is another.
abbrev pub pumped : Sight → ℕ → Option Opener → Option Deed
pumped v l (Some (Pumps n)) = takes_word (first (v.mail l).words) (v.quit l)
pumped v l _ = None

-- 9. The pump that is the lane's top takes the first word; else, where a quit stands, it ends.
abbrev pub rule_word : Sight → ℕ → Option Deed
rule_word v l = pumped v l (top v l)

-- What comes after the end of a thread's script: an Uninit while the lane's count is not 0, then End.
abbrev pub after_script : Sight → ℕ → Deed
after_script v l = if v.count l == 0 then deed.End else uninitialised v l

-- The entry of a thread without opener: that of its script's next action, or of what comes after the script's end.
abbrev pub scripted : Scenario → Sight → ℕ → Option Action → Deed
scripted s v l (Some a) = deed_of s v l a
scripted s v l None = after_script v l

-- Whether the turn is the script's: in a thread's lane without opener that is not over.
abbrev pub is_script_turn : LaneSort → Option Opener → (over : Bool) → Bool
is_script_turn Thread None over = not over
is_script_turn _ _ over = false

-- 10. In a thread's lane without opener, until its End is made: the next action of the script; after the script's end
-- Uninit while the count is not 0, then End.
abbrev pub rule_script : Scenario → Sight → ℕ → Option Deed
rule_script s v l =
    where_true (is_script_turn (lane_sort s l) (top v l) (v.over l)) (scripted s v l (v.act l))

-- The next entry of a lane: the body's action where the top is an Enter, else the first of the ten rules that
-- applies.
abbrev pub ruled : Scenario → Sight → ℕ → Option Deed
ruled s v l =
    or_else (rule_final v l)
    (or_else (rule_own s v l)
    (or_else (rule_answer v l)
    (or_else (rule_bound v l)
    (or_else (rule_inbox s v l)
    (or_else (rule_retry s v l)
    (or_else (rule_again v l)
    (or_else (rule_pending s v l)
    (or_else (rule_word v l)
    (rule_script s v l)))))))))

-- The next entry of a lane by its top. Where that is an Enter, its body alone acts, and none of the ten rules applies.
abbrev pub stepped : Scenario → Sight → ℕ → Option Opener → Option Deed
stepped s v l (Some (Enters c o a)) = option_map (deed_of s v l) (v.act l)
stepped s v l _ = ruled s v l

-- The next entry of a lane other than the clock's; none where it cannot step.
abbrev pub lane_next : Scenario → Sight → ℕ → Option Deed
lane_next s v l = stepped s v l (top v l)

-- Whether a lane other than the clock's can step: it has a next entry.
abbrev pub can_step : Scenario → Sight → ℕ → Bool
can_step s v l = is_some (lane_next s v l)

-- Whether no thread's lane, nor the host's, nor one of the pool, can step.
abbrev pub no_lane_can : Scenario → Sight → Bool
no_lane_can s v = not (any_of (can_step s v) (one_to (lanes s)))

-- The time until which a call in this phase is delayed; none where it is answered, or that is no later than the clock.
abbrev pub time_waited : Sight → Phase → (answered : Bool) → Option ℕ
time_waited v (Delayed t) false = where_true (nat_lt v.clock t) t
time_waited v _ _ = None

-- The time that a call waits for; none where it waits for none, or has its answer.
abbrev pub time_of : Sight → ℕ → Option ℕ
time_of v c = time_waited v (v.phase c) (is_some (v.ending c))

-- The least time that a call waits for; none where no call waits for a time.
abbrev pub tick_time : Sight → Option ℕ
tick_time v = least (filter_map (time_of v) (one_to v.calls))

-- The clock's lane, 0: where no lane can step and some call without answer waits for a time later than the clock, a
-- Tick to the least such time; else none.
abbrev pub ticks : Scenario → Sight → Option Deed
ticks s v = if no_lane_can s v then option_map (λ t. deed.Tick t) (tick_time v) else None

-- The next entry of the lane with number l and this sort, as the rules see it in v; a number that is no lane has none.
abbrev pub next_by : Scenario → Sight → LaneSort → ℕ → Option Deed
next_by s v NoLane l = if l == 0 then ticks s v else None
next_by s v sort l = lane_next s v l

-- The next entry of a lane after a history; none where it cannot step.
abbrev pub next : Scenario → List Entry → ℕ → Option Deed
next s h l = next_by s (sight s h) (lane_sort s l) l

-- A history is legal where each entry is the next of its lane.
abbrev pub legal : Scenario → List Entry → Type 0
legal s [] = Unit {0}
legal s (e ∷ h) = legal s h × (next s h e.lane ≡ Some e.deed)
