-- How a call comes to its answer: the first entry that fixes it.
use Rattle.std.specs.Prelude.{ℕ, zero, negsuc, Bool, true, false, ◌==◌, ◌&&◌, if◌then◌else◌, List, [], ◌∷◌}
use Rattle.std.specs.Prelude.{Option, Some, None, is_some, is_none}
use Rattle.com_base.specs.declared.hresult.HResult.{HResult}
use Rattle.com_base.specs.declared.value.Value.{Value}
use Rattle.com_filter.specs.declared.Verdict.{Verdict}
use Rattle.com_filter.specs.declared.Verdict.TheVariants as verdict
use Rattle.com_model.specs.declared.deeds.Deed.{Deed}
use Rattle.com_model.specs.declared.deeds.Deed.TheVariants as deed
use Rattle.com_model.specs.declared.deeds.Entry.{Entry}
use Rattle.com_model.specs.declared.deeds.Route.TheVariants as route
use Rattle.com_model.specs.declared.scenario.Scenario.{Scenario}
use Rattle.com_model.specs.Answers.{RPC_E_CALL_REJECTED, RPC_E_SERVERCALL_RETRYLATER, RPC_E_CALL_CANCELED}
use Rattle.com_model.specs.Answers.{RPC_E_DISCONNECTED}
use Rattle.com_model.specs.Lists.{or_else, where_true}
use Rattle.com_model.specs.Apartments.{ends_sta}
use Rattle.com_model.specs.Objects.{named, disconnects}
use Rattle.com_model.specs.Calls.{Issue, Admission, issue, admitted, target, lane_of, is_marshalled, route_of}
use Rattle.com_model.specs.Clock.{filter_of}
pub use Rattle.com_model.specs.declared.keeps.Ending.{Ending}
pub use Rattle.com_model.specs.declared.keeps.Ending.TheVariants.{AtIssue, AtAdmission, ByVerdict, ByRetry}
pub use Rattle.com_model.specs.declared.keeps.Ending.TheVariants.{ByCancel, ByDisconnection, ByLeave}

-- What a deed does to the answers of calls: it ends one call, or all that wait for an object or for an STA's
-- objects.
pub data EndEffect : Type 0 where
  EndsCall : (call : ℕ) → Ending → EndEffect
  CutsObject : (object : ℕ) → EndEffect
  CutsSta : (apartment : ℕ) → EndEffect
  EndsNone : EndEffect

-- A deed that disconnects an object cuts the calls that wait for it; one that disconnects none cuts none.
abbrev pub cuts_object : Option ℕ → EndEffect
cuts_object None = EndsNone
cuts_object (Some o) = CutsObject o

-- A deed that ends an STA cuts the calls that wait for its objects; one that ends none cuts none.
abbrev pub cuts_sta : Option ℕ → EndEffect
cuts_sta None = EndsNone
cuts_sta (Some a) = CutsSta a

-- A Verdict ends the call where the caller's lane has no filter; a Retry below 0; a Pending with answer 0.
abbrev pub end_effect : (filtered : ℕ → Bool) → Deed → EndEffect
end_effect filtered (deed.Out c o i m route.Refused k bytes) = EndsCall c AtIssue
end_effect filtered (deed.Refuse c hr) = EndsCall c (AtAdmission hr)
end_effect filtered (deed.Verdict c t v) = if filtered c then EndsNone else EndsCall c (ByVerdict v)
end_effect filtered (deed.Retry c (negsuc n)) = EndsCall c ByRetry
end_effect filtered (deed.Pending c w zero) = EndsCall c ByCancel
end_effect filtered (deed.Leave c hr v bytes) = EndsCall c (ByLeave hr v)
end_effect filtered (deed.Disconnect o hr) = cuts_object (disconnects (deed.Disconnect o hr))
end_effect filtered (deed.Uninit a n) = cuts_sta (ends_sta (deed.Uninit a n))
end_effect filtered _ = EndsNone

-- A disconnection reaches the calls of other routes than direct that were not entered.
abbrev pub ends : EndEffect → (call target named : ℕ) → (open_to_cut : Bool) → Option Ending
ends (EndsCall d x) c o a cut = where_true (d == c) x
ends (CutsObject p) c o a cut = where_true (cut && p == o) ByDisconnection
ends (CutsSta b) c o a cut = where_true (cut && b == a) ByDisconnection
ends EndsNone c o a cut = None

-- Whether the lane that issued the call has a filter: a Verdict is then put to it, and does not end the call.
abbrev pub filtered : Scenario → List Entry → ℕ → Bool
filtered s h c = is_some (filter_of s h (lane_of (issue h c)))

-- Whether a disconnection can still reach the call: its route marshals, and it was not entered.
abbrev pub can_be_cut : Option Issue → Option Admission → Bool
can_be_cut i a = is_marshalled (route_of i) && is_none a

-- The first entry that fixes the answer counts.
abbrev pub ending : Scenario → List Entry → ℕ → Option Ending
ending s [] c = None
ending s (e ∷ h) c =
    or_else (ending s h c)
    (ends (end_effect (filtered s h) e.deed) c (target h c) (named h (target h c))
    (can_be_cut (issue h c) (admitted h c)))

-- An answer: the HRESULT, and the value of a Leave.
pub record Answer : Type 0 where
  pub hr : HResult
  pub value : Option Value

-- An answer that is an HRESULT alone.
abbrev pub without_value : HResult → Answer
without_value hr = record { hr = hr; value = None }

-- An Incoming answer that a caller without filter is given.
abbrev pub verdict_answer : Verdict → HResult
verdict_answer verdict.Later = RPC_E_SERVERCALL_RETRYLATER
verdict_answer _ = RPC_E_CALL_REJECTED

-- The answer by what fixed it: at the issue the refusal that the call met there, by a Leave what the body
-- left with. Only the latter can have a value.
abbrev pub answer_of : (at_issue : HResult) → Ending → Answer
answer_of hr AtIssue = without_value hr
answer_of hr (AtAdmission x) = without_value x
answer_of hr (ByVerdict v) = without_value (verdict_answer v)
answer_of hr ByRetry = without_value RPC_E_CALL_REJECTED
answer_of hr ByCancel = without_value RPC_E_CALL_CANCELED
answer_of hr ByDisconnection = without_value RPC_E_DISCONNECTED
answer_of hr (ByLeave x v) = record { hr = x; value = v }

-- Whether a call's answer is fixed, and by the Leave of its body.
abbrev pub is_leave : Option Ending → Bool
is_leave (Some (ByLeave hr v)) = true
is_leave _ = false
