-- The stories of calls, of message filters and of words are closed.
use Rattle.std.proofs.Common.{List, None, Option, Some, codes, int_lt, pos, refl, ℕ, ℤ, ◌==◌}
use Rattle.com_base.specs.declared.hresult.HResult.{HResult}
use Rattle.com_base.specs.declared.value.Value.{Value}
use Rattle.com_classes.specs.Tables.{Tables}
use Rattle.com_model.specs.Answers.{is_failure}
use Rattle.com_draw_names.specs.declared.contexts.Caller.{Caller}
use Rattle.com_draw_stories.specs.Calls.{again_words, back_story, bound_story, call_of_lane, cancels_story, enter_story, entered_call, entered_method, filter_plain, filter_story, for_lane, leave_story, out_story, outcome, pending_story, post_story, pump_story, quit_story, refuse_story, retry_story, route_words, sends_again, sent_story, tick_story, told_story, took_story, type_reason, type_words, unwaited, verdict_story, waits_on}
use Rattle.com_draw_stories.specs.declared.speakers.Called.{Called}
use Rattle.com_draw_stories.specs.declared.speakers.Entered.{Entered}
use Rattle.com_draw_stories.specs.declared.speakers.Speaker.{Speaker}
use Rattle.com_filter.specs.declared.Verdict.{Verdict}
use Rattle.com_laws_markup.proofs.Leading.{both, either, numbered, said}
use Rattle.com_laws_markup.proofs.Words.{closed_decimal, closed_link, closed_none}
use Rattle.com_laws_markup.specs.Closed.{IsClosed}
use Rattle.com_laws_page.proofs.Names.{closed_failure_text, closed_later_words, closed_object_text, closed_place_text, closed_shown_called, closed_shown_given, closed_shown_method, closed_verdict_verb}
use Rattle.com_laws_page.proofs.Numbers.{closed_signed}
use Rattle.com_laws_page.proofs.Phrases.{closed_lane_at, closed_lane_does, closed_lane_link, closed_lane_signed, closed_signed_fails}
use Rattle.com_model.specs.declared.deeds.Route.TheVariants as route
use Rattle.com_model.specs.declared.deeds.Route.{Route}

pub closed_filter_plain : (lane : ℕ) (filter : Option ℕ) → IsClosed (filter_plain lane filter)
closed_filter_plain l None = closed_lane_does l (said (codes " removes its message filter") refl)
closed_filter_plain l (Some f) = closed_lane_at l (said (codes " sets message filter F") refl) f

pub closed_filter_story : (lane : ℕ) (filter : Option ℕ) (hr : HResult) → IsClosed (filter_story lane filter hr)
closed_filter_story l f hr = either (hr.0 == 0) (closed_filter_plain l f) (closed_lane_does l (said (codes " cannot set a message filter here") refl))

pub closed_sent_story : (lane : ℕ) (to_ : ℤ) (word : ℤ) → IsClosed (sent_story lane to_ word)
closed_sent_story l m w = both (both (closed_lane_signed l (said (codes " sends word ") refl) w) (said (codes " to L") refl)) (closed_signed m)

pub closed_post_story : (s : Speaker) (to_ : ℤ) (word : ℤ) (hr : HResult) → IsClosed (post_story s to_ word hr)
closed_post_story s m w hr = either (is_failure hr) (closed_signed_fails s (said (codes " cannot send a word to lane ") refl) m hr) (closed_sent_story s.lane m w)

pub closed_told_story : (lane : ℕ) (to_ : ℤ) → IsClosed (told_story lane to_)
closed_told_story l m = both (closed_lane_signed l (said (codes " tells L") refl) m) (said (codes " to end its pump") refl)

pub closed_quit_story : (s : Speaker) (to_ : ℤ) (hr : HResult) → IsClosed (quit_story s to_ hr)
closed_quit_story s m hr = either (is_failure hr) (closed_signed_fails s (said (codes " cannot send a quit to lane ") refl) m hr) (closed_told_story s.lane m)

pub closed_bound_story : (lane : ℕ) (bound : ℕ) → IsClosed (bound_story lane bound)
closed_bound_story l n = both (closed_lane_at l (said (codes " pumps: it lets calls and words in, until ") refl) n) (said (codes " served") refl)

pub closed_pump_story : (lane : ℕ) (bound : ℕ) → IsClosed (pump_story lane bound)
closed_pump_story l n = either (n == 0) (closed_lane_does l (said (codes " pumps: it lets calls and words in") refl)) (closed_bound_story l n)

pub closed_took_story : (lane : ℕ) (word : ℤ) → IsClosed (took_story lane word)
unfolding took_story
closed_took_story l w = closed_lane_signed l (said (codes " takes word ") refl) w

pub closed_route_words : (r : Route) → IsClosed (route_words r)
closed_route_words route.Direct = said (codes ") directly") refl
closed_route_words route.Switch = said (codes "), and changes apartments for it") refl
closed_route_words route.Post = said (codes ") in another apartment, and waits") refl
closed_route_words route.Refused = said (codes "), which is refused at once") refl

pub closed_out_story : (t : Tables) (k : Caller) (call : ℕ) (object : Option ℕ) (r : Route) → IsClosed (out_story t k call object r)
closed_out_story t k c o r = both (both (both (both (both (closed_lane_does k.lane (said (codes " calls ") refl)) (closed_shown_method t k.iface k.method)) (said (codes " of ") refl)) (closed_object_text o)) (numbered (said (codes " (c") refl) c)) (closed_route_words r)

pub closed_call_of_lane : (call : ℕ) (caller : ℕ) → IsClosed (call_of_lane call caller)
closed_call_of_lane c m = both (both (said (codes " ") refl) (closed_link c)) (numbered (said (codes " of L") refl) m)

pub closed_type_reason : (n : ℕ) → IsClosed (type_reason n)
closed_type_reason n = either (n == 1) (said (codes ": no call of its own waits") refl) (either (n == 2) (said (codes ": it is a callback") refl) (said (codes ": its own call waits") refl))

pub closed_verdict_story : (lane : ℕ) (caller : ℕ) (call : ℕ) (call_type : ℕ) (v : Verdict) → IsClosed (verdict_story lane caller call call_type v)
closed_verdict_story l m c n v = both (both (both (closed_lane_does l (said (codes "'s filter ") refl)) (closed_verdict_verb v)) (closed_call_of_lane c m)) (closed_type_reason n)

pub closed_refuse_story : (s : Speaker) (caller : ℕ) (call : ℕ) (hr : HResult) → IsClosed (refuse_story s caller call hr)
closed_refuse_story s m c hr = both (both (closed_lane_does s.lane (said (codes " cannot take in") refl)) (closed_call_of_lane c m)) (closed_failure_text s.version hr)

pub closed_for_lane : (lane : ℕ) (caller : Option Caller) → IsClosed (for_lane lane caller)
closed_for_lane l None = closed_none
closed_for_lane l (Some k) = either (k.lane == l) closed_none (numbered (said (codes " for L") refl) k.lane)

pub closed_type_words : (number : Option ℕ) → IsClosed (type_words number)
closed_type_words None = closed_none
closed_type_words (Some n) = either (n == 2) (said (codes ": a callback") refl) (either (n == 4) (said (codes ", while its own call waits") refl) closed_none)

pub closed_entered_call : (lane : ℕ) (c : Called) (call_type : Option ℕ) → IsClosed (entered_call lane c call_type)
closed_entered_call l c n = both (both (both (both (closed_for_lane l c.caller) (said (codes " (") refl)) (closed_link c.call)) (said (codes ")") refl)) (closed_type_words n)

pub closed_entered_method : (t : Tables) (lane : ℕ) (k : Option Caller) (b : Entered) → IsClosed (entered_method t lane k b)
closed_entered_method t l k b = both (both (both (both (closed_lane_does l (said (codes " runs ") refl)) (closed_shown_called t k)) (numbered (said (codes " of o") refl) b.object)) (said (codes " in ") refl)) (closed_place_text b.apartment)

pub closed_enter_story : (t : Tables) (lane : ℕ) (c : Called) (b : Entered) → IsClosed (enter_story t lane c b)
closed_enter_story t l c b = both (closed_entered_method t l c.caller b) (closed_entered_call l c b.call_type)

pub closed_outcome : (version : ℕ) (hr : HResult) (v : Option Value) → IsClosed (outcome version hr v)
closed_outcome version hr v = either (is_failure hr) (closed_failure_text version hr) (closed_shown_given v)

pub closed_unwaited : (caller : Option Caller) → IsClosed (unwaited caller)
closed_unwaited None = said (codes "; nobody waits for it") refl
closed_unwaited (Some k) = closed_none

pub closed_leave_story : (s : Speaker) (c : Called) (hr : HResult) (v : Option Value) → IsClosed (leave_story s c hr v)
closed_leave_story s c hr v = both (both (both (closed_lane_does s.lane (said (codes " answers ") refl)) (closed_link c.call)) (closed_outcome s.version hr v)) (closed_unwaited c.caller)

pub closed_back_story : (s : Speaker) (call : ℕ) (hr : HResult) (v : Option Value) → IsClosed (back_story s call hr v)
closed_back_story s c hr v = both (both (closed_lane_does s.lane (said (codes " has the answer of ") refl)) (closed_link c)) (closed_outcome s.version hr v)

pub closed_again_words : (n : ℤ) → IsClosed (again_words n)
closed_again_words n = either (int_lt n (pos 100)) (said (codes " again at once") refl) (closed_later_words n)

pub closed_sends_again : (lane : ℕ) (call : ℕ) (answer : ℤ) → IsClosed (sends_again lane call answer)
closed_sends_again l c n = both (both (closed_lane_does l (said (codes "'s filter sends ") refl)) (closed_link c)) (closed_again_words n)

pub closed_retry_story : (lane : ℕ) (call : ℕ) (answer : ℤ) → IsClosed (retry_story lane call answer)
closed_retry_story l c n = either (int_lt n (pos 0)) (closed_lane_link l (said (codes "'s filter gives ") refl) c (said (codes " up") refl)) (closed_sends_again l c n)

pub closed_cancels_story : (lane : ℕ) (call : ℕ) (word : ℤ) → IsClosed (cancels_story lane call word)
closed_cancels_story l c w = both (closed_lane_link l (said (codes "'s filter cancels ") refl) c (said (codes " for word ") refl)) (closed_signed w)

pub closed_waits_on : (lane : ℕ) → {words : List ℕ} → IsClosed words → (call : ℕ) (word : ℤ) → IsClosed (waits_on lane words call word)
closed_waits_on l words c w = both (both (closed_lane_signed l words w) (said (codes ", and waits on for ") refl)) (closed_link c)

pub closed_pending_story : (lane : ℕ) (call : ℕ) (word : ℤ) (answer : ℕ) → IsClosed (pending_story lane call word answer)
closed_pending_story l c w n = either (n == 0) (closed_cancels_story l c w) (either (n == 1) (closed_waits_on l (said (codes "'s filter leaves word ") refl) c w) (closed_waits_on l (said (codes "'s filter drops word ") refl) c w))

pub closed_tick_story : (clock : ℕ) → IsClosed (tick_story clock)
closed_tick_story n = both (both (said (codes "No lane can go on, so the clock moves to ") refl) (closed_decimal n)) (said (codes " ms") refl)
