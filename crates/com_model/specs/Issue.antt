-- The issue of a call: its refusals, and the values that it sends.
use Rattle.std.specs.Prelude.{ℕ, Bool, true, false, not, ◌==◌, ◌&&◌, if◌then◌else◌, List, [], ◌∷◌, Option}
use Rattle.std.specs.Prelude.{Some, None, is_none, option_map}
use Rattle.com_base.specs.declared.hresult.HResult.{HResult}
use Rattle.com_base.specs.declared.value.RefValue.{RefValue}
use Rattle.com_base.specs.declared.value.Value.{Value}
use Rattle.com_body.specs.declared.actions.Action.{Action}
use Rattle.com_body.specs.declared.actions.Action.TheVariants as action
use Rattle.com_classes.specs.Lookups.{method_at}
use Rattle.com_model.specs.declared.deeds.Entry.{Entry}
use Rattle.com_model.specs.declared.scenario.Scenario.{Scenario}
use Rattle.com_model.specs.Answers.{S_OK, CO_E_NOTINITIALIZED, E_POINTER, E_NOINTERFACE, RPC_E_INVALIDMETHOD}
use Rattle.com_model.specs.Answers.{RPC_E_DISCONNECTED}
use Rattle.com_model.specs.Lists.{number_or_zero}
use Rattle.com_model.specs.Apartments.{home, running}
use Rattle.com_model.specs.Objects.{owns}
use Rattle.com_model.specs.Calls.{Issue, Admission, issues, admitted, is_marshalled}
use Rattle.com_model.specs.Frames.{act}
use Rattle.com_model.specs.Books.{books, out_values}
use Rattle.com_model.specs.Endings.{Ending, Answer, ending, answer_of}

-- The refusals of a call at its issue, the first that applies.
abbrev pub call_refusal : Scenario → (home running : Option ℕ) → (owns : ℕ → ℕ → Bool) → (live : ℕ → Bool)
    → Option RefValue → (iface method : ℕ) → Option HResult
call_refusal s None r owns live held i m = Some CO_E_NOTINITIALIZED
call_refusal s (Some a) r owns live None i m = Some E_POINTER
call_refusal s (Some a) r owns live (Some t) i m =
    if not (t.iface == i) then Some E_NOINTERFACE
    else if is_none (method_at s.classes i m) then Some RPC_E_INVALIDMETHOD
    else if not (owns t.object (number_or_zero r)) && not (live t.object) then Some RPC_E_DISCONNECTED
    else None

-- The refusal of a lane's next action where that is a call; None where it is another action, or where there
-- is none.
abbrev pub action_refusal : Scenario → (home running : Option ℕ) → (owns : ℕ → ℕ → Bool) → (live : ℕ → Bool)
    → Option Action → Option HResult
action_refusal s a r owns live (Some (action.Call held i m args to)) = call_refusal s a r owns live held i m
action_refusal s a r owns live _ = None

-- The refusal, or S_OK where there is none.
abbrev pub or_ok : Option HResult → HResult
or_ok None = S_OK
or_ok (Some hr) = hr

-- The refusal of a call at its Out, as its lane stood before it.
abbrev pub refusal_before : Scenario → List Entry → ℕ → HResult
refusal_before s h l =
    or_ok (action_refusal s (home s h l) (running s h l) (owns s h) (books s h).live (act s h l))

-- The refusal of a call after an Out of lane l: what lane l meets there, if the Out is the call's own, else
-- what was known before.
abbrev pub own_refusal : Scenario → List Entry → ℕ → (own : Bool) → HResult → HResult
own_refusal s h l true before = refusal_before s h l
own_refusal s h l false before = before

-- The refusal of call c after an entry: an Out of c fixes it, and every other entry leaves it.
abbrev pub refusal_or : Scenario → List Entry → Option Issue → ℕ → HResult → HResult
refusal_or s h None c before = before
refusal_or s h (Some i) c before = own_refusal s h i.lane (i.call == c) before

-- The refusal that a call met at its Out; S_OK where it met none, or was not issued.
abbrev pub at_issue : Scenario → List Entry → ℕ → HResult
at_issue s [] c = S_OK
at_issue s (e ∷ h) c = refusal_or s h (issues e.lane e.deed) c (at_issue s h c)

-- The argument values of a call at its Out, each as its declared kind; on the routes that marshal, a
-- reference to an object that is not connected is null.
abbrev pub own_values : Scenario → List Entry → Issue → (own : Bool) → List Value → List Value
own_values s h i true before = out_values s (books s h) (is_marshalled i.route) (act s h i.lane)
own_values s h i false before = before

-- The values of call c after an entry: an Out of c fixes them, and every other entry leaves them.
abbrev pub values_or : Scenario → List Entry → Option Issue → ℕ → List Value → List Value
values_or s h None c before = before
values_or s h (Some i) c before = own_values s h i (i.call == c) before

-- The argument values that a call sent at its Out; none for a call that was not issued.
abbrev pub sent : Scenario → List Entry → ℕ → List Value
sent s [] c = []
sent s (e ∷ h) c = values_or s h (issues e.lane e.deed) c (sent s h c)

-- What is still to be read of the values that a call sent: all, until an Enter takes them or an answer comes
-- without one.
abbrev pub unread_values : Option Admission → Option Ending → List Value → List Value
unread_values None None vs = vs
unread_values (Some a) x vs = []
unread_values None (Some x) vs = []

abbrev pub unread : Scenario → List Entry → ℕ → List Value
unread s h c = unread_values (admitted h c) (ending s h c) (sent s h c)

-- A call's due answer.
abbrev pub due : Scenario → List Entry → ℕ → Option Answer
due s h c = option_map (answer_of (at_issue s h c)) (ending s h c)
