-- The seven safety clauses. They hold of every prefix and entry of every legal history of a formed scenario.
-- Six of them name neither the ten rules nor their order.
use Rattle.std.specs.Prelude.{◌≡◌, ℕ, ◌≤◌, Bool, true, false, not, ◌==◌, ◌||◌, List, [], ◌∷◌, Option, Some}
use Rattle.std.specs.Prelude.{None, option_map}
use Rattle.com_model.specs.declared.deeds.Deed.{Deed}
use Rattle.com_model.specs.declared.deeds.Deed.TheVariants as deed
use Rattle.com_model.specs.declared.deeds.Entry.{Entry}
use Rattle.com_model.specs.declared.deeds.Route.{Route}
use Rattle.com_model.specs.declared.deeds.Route.TheVariants as route
use Rattle.com_model.specs.declared.scenario.Scenario.{Scenario}
use Rattle.com_model.specs.Answers.{is_S_OK}
use Rattle.com_model.specs.Lists.{first}
use Rattle.com_model.specs.Tables.{Host, Pool, lane_sort}
use Rattle.com_model.specs.Openers.{Opener, Pumps, Waits, Enters, openers, nested}
use Rattle.com_model.specs.Apartments.{neutral, mta, is_sta, home, serves, apartments}
use Rattle.com_model.specs.Objects.{agile, named, owns, owner, finaled}
use Rattle.com_model.specs.Calls.{issue, target, lane_of, route_of, is_post}
use Rattle.com_model.specs.Frames.{scene, act, answer_in}
use Rattle.com_model.specs.Places.{ground, places_that, to_interface, direct_places}
use Rattle.com_model.specs.Endings.{ending}
use Rattle.com_refs_books.specs.Changes.{held}
use Rattle.com_model.specs.Books.{books}
use Rattle.com_model.specs.Waiting.{inbox}
use Rattle.com_model.specs.Dying.{is_dying}
use Rattle.com_model.specs.Issue.{sent}
use Rattle.com_model.specs.Deeds.{deed_of}
use Rattle.com_model.specs.Sight.{sight}
use Rattle.com_model.specs.Rules.{admission, call_sort, verdict_on, is_handled_in, due_of, back_answer}

-- A fact of each entry and what stood before it, and a fact of each prefix, the whole history included.
abbrev pub EachEntry : (List Entry → ℕ → Deed → Type 0) → List Entry → Type 0
EachEntry P [] = Unit {0}
EachEntry P (e ∷ h) = EachEntry P h × P h e.lane e.deed

-- That the fact holds of the empty history, of the whole one, and of each prefix between.
abbrev pub EachPrefix : (List Entry → Type 0) → List Entry → Type 0
EachPrefix P [] = P []
EachPrefix P (e ∷ h) = EachPrefix P h × P (e ∷ h)

-- The first fact where the test is met, and the second where it is not.
abbrev pub Either : Bool → Type 0 → Type 0 → Type 0
Either true A B = A
Either false A B = B

-- 1. Apartment: a body runs in an apartment that owns its object, and in that apartment's lane; a body of an
-- agile object or of one in the neutral apartment runs in the caller's lane.
abbrev pub InApartment : Scenario → List Entry → ℕ → Deed → Type 0
InApartment s h l (deed.Enter c o a t vs) =
    (a ≡ owner s h o l)
    × Either (agile s h o || named h o == neutral) (l ≡ lane_of (issue h c)) (home s h l ≡ Some (named h o))
InApartment s h l _ = Unit {0}

-- That each body of a history was entered in an apartment that owns its object, and in a lane that may run
-- it.
abbrev pub Apartment : Scenario → List Entry → Type 0
Apartment s h = EachEntry (InApartment s) h

-- 2. One stack: closers close the innermost opener; an open body of an STA stands in the lane that serves it;
-- an action of a body is made while its Enter is the top.
abbrev pub InServing : Scenario → List Entry → ℕ → List Opener → Type 0
InServing s h l [] = Unit {0}
InServing s h l (Enters c o a ∷ os) = (is_sta a ≡ true → serves s h l a ≡ true) × InServing s h l os
InServing s h l (_ ∷ os) = InServing s h l os

-- That in each lane every closer closes the innermost opener, and that an open body in an STA stands in a
-- lane which serves it.
abbrev pub Stacked : Scenario → List Entry → Type 0
Stacked s h = (l : ℕ) → nested h l × InServing s h l (openers h l)

-- Who can make a deed: a body or a script, a script alone, or a rule. A packet is dropped by a statement or
-- by a rule, and only a statement's drop is refused.
pub data Maker : Type 0 where
  BodyOrScript : Maker
  ScriptAlone : Maker
  ARule : Maker

-- Who can make each deed. A DropPacket of a packet counts as a rule's, since rules make such ones too.
abbrev pub maker : Deed → Maker
maker (deed.Made o a k i hr) = BodyOrScript
maker (deed.Query o i hr) = BodyOrScript
maker (deed.Copy held) = BodyOrScript
maker (deed.Release held) = BodyOrScript
maker (deed.Marshal p m held refs hr bytes) = BodyOrScript
maker (deed.Unmarshal p held refs hr) = BodyOrScript
maker (deed.DropPacket None hr) = BodyOrScript
maker (deed.Raw b n) = BodyOrScript
maker (deed.Register g held hr) = BodyOrScript
maker (deed.Get g held refs hr) = BodyOrScript
maker (deed.Revoke g hr) = BodyOrScript
maker (deed.Disconnect o hr) = BodyOrScript
maker (deed.Post l w hr) = BodyOrScript
maker (deed.Quit l hr) = BodyOrScript
maker (deed.Out c o i m r k bytes) = BodyOrScript
maker (deed.Leave c hr v bytes) = BodyOrScript
maker (deed.Init m a hr) = ScriptAlone
maker (deed.Uninit a n) = ScriptAlone
maker (deed.SetFilter f hr) = ScriptAlone
maker (deed.Pump n) = ScriptAlone
maker deed.End = ScriptAlone
maker _ = ARule

-- That these openers let the maker act: a body as the innermost of them, a script where there are none, a
-- rule above any.
abbrev pub MadeOnTop : Maker → List Opener → Type 0
MadeOnTop ARule os = Unit {0}
MadeOnTop BodyOrScript [] = Unit {0}
MadeOnTop BodyOrScript (Enters c o a ∷ os) = Unit {0}
MadeOnTop BodyOrScript (_ ∷ os) = ⊥
MadeOnTop ScriptAlone [] = Unit {0}
MadeOnTop ScriptAlone (o ∷ os) = ⊥

-- Clause 2: each prefix is stacked, and each entry is made above openers that let its maker act.
abbrev pub OneStack : Scenario → List Entry → Type 0
OneStack s h = EachPrefix (Stacked s) h × EachEntry (λ h l d. MadeOnTop (maker d) (openers h l)) h

-- 3. Reentry: a call posted to an STA is admitted as the first of the inbox, above a pump, a waiting call, or
-- nothing in the host's lane; it carries its call type and the filter's answer. A call posted to the MTA is
-- admitted by a pool lane without opener. A direct or switched call is entered while its own Out is the top.
abbrev pub CanAdmit : Scenario → List Entry → ℕ → List Opener → Type 0
CanAdmit s h l [] = lane_sort s l ≡ Host
CanAdmit s h l (Pumps n ∷ os) = Unit {0}
CanAdmit s h l (Waits c ∷ os) = (is_post (route_of (issue h c)) ≡ true) × (ending s h c ≡ None)
CanAdmit s h l (Enters c o a ∷ os) = ⊥

-- That call c is the first in the inbox of apartment a.
abbrev pub FirstOf : Scenario → List Entry → ℕ → ℕ → Type 0
FirstOf s h a c = first (inbox s h a) ≡ Some c

-- The clause for an Enter of call c in lane l with call type t, by the route of the call, and by whether the
-- apartment that its target's making names is an STA.
abbrev pub EntersBy : Scenario → List Entry → ℕ → ℕ → Option ℕ → (route : Route) → (sta : Bool) → Type 0
EntersBy s h l c t route.Post true =
    FirstOf s h (named h (target h c)) c × CanAdmit s h l (openers h l)
    × (t ≡ Some (call_sort (sight s h) l c)) × (is_handled_in s (sight s h) l c ≡ true)
EntersBy s h l c t route.Post false =
    FirstOf s h mta c × (lane_sort s l ≡ Pool) × (openers h l ≡ []) × (t ≡ None)
EntersBy s h l c t _ sta = (first (openers h l) ≡ Some (Waits c)) × (t ≡ None)

-- That an Enter or a Verdict keeps the clause. A Verdict is on the first call of the inbox, in a lane that
-- can admit, with the call type, and with the filter's answer that is not Handled.
abbrev pub Reenters : Scenario → List Entry → ℕ → Deed → Type 0
Reenters s h l (deed.Enter c o a t vs) =
    EntersBy s h l c t (route_of (issue h c)) (is_sta (named h (target h c)))
Reenters s h l (deed.Verdict c t v) =
    FirstOf s h (named h (target h c)) c × CanAdmit s h l (openers h l)
    × (t ≡ call_sort (sight s h) l c) × (v ≡ verdict_on s (sight s h) l c)
    × (is_handled_in s (sight s h) l c ≡ false)
Reenters s h l _ = Unit {0}

-- That each Enter and each Verdict of a history keeps clause 3.
abbrev pub Reentry : Scenario → List Entry → Type 0
Reentry s h = EachEntry (Reenters s) h

-- 4. Once: each call has one Out, at most one Enter, one Leave and one Back; Enter comes after Out, Leave
-- after Enter, and Back after Out. An Enter has the values that were sent; a Leave has what the body's step
-- gives on its object's own cells; a Back has the call's answer, and no Enter follows an answer.
pub data Event : Type 0 where
  IsOut : (call : ℕ) → Event
  IsEnter : (call : ℕ) → Event
  IsLeave : (call : ℕ) → Event
  IsBack : (call : ℕ) → Event
  IsOther : Event

-- Which of the four steps of a call a deed is: its Out, its Enter, its Leave, its Back, or none of them.
abbrev pub event : Deed → Event
event (deed.Out c o i m r k bytes) = IsOut c
event (deed.Enter c o a t vs) = IsEnter c
event (deed.Leave c hr v bytes) = IsLeave c
event (deed.Back c hr v) = IsBack c
event _ = IsOther

-- What a call has had.
pub record Stage : Type 0 where
  pub out : Bool
  pub enter : Bool
  pub leave : Bool
  pub back : Bool

abbrev pub no_stage : Stage
no_stage = record { out = false; enter = false; leave = false; back = false }

-- What call c has had after a step: a step of another call adds nothing to it.
abbrev pub stage_after : Event → ℕ → Stage → Stage
stage_after (IsOut d) c t = record t { out = d == c || t.out }
stage_after (IsEnter d) c t = record t { enter = d == c || t.enter }
stage_after (IsLeave d) c t = record t { leave = d == c || t.leave }
stage_after (IsBack d) c t = record t { back = d == c || t.back }
stage_after IsOther c t = t

-- Which of its four steps a call has had in a history.
abbrev pub stage : List Entry → ℕ → Stage
stage [] c = no_stage
stage (e ∷ h) c = stage_after (event e.deed) c (stage h c)

-- That the step is the call's first of its kind, and comes after what it needs: Enter and Back after Out,
-- Leave after Enter.
abbrev pub ComesOnce : Event → (ℕ → Stage) → Type 0
ComesOnce (IsOut c) t = (t c).out ≡ false
ComesOnce (IsEnter c) t = ((t c).out ≡ true) × ((t c).enter ≡ false)
ComesOnce (IsLeave c) t = ((t c).enter ≡ true) × ((t c).leave ≡ false)
ComesOnce (IsBack c) t = ((t c).out ≡ true) × ((t c).back ≡ false)
ComesOnce IsOther t = Unit {0}

abbrev pub once : List Entry → Type 0
once h = EachEntry (λ h l d. ComesOnce (event d) (stage h)) h

-- That an Enter has the values that were sent and comes before any answer, a Leave is what the body's step
-- gives, and a Back has the call's answer.
abbrev pub OwnReply : Scenario → List Entry → ℕ → Deed → Type 0
OwnReply s h l (deed.Enter c o a t vs) = (vs ≡ sent s h c) × (ending s h c ≡ None)
OwnReply s h l (deed.Leave c hr v bytes) =
    option_map (deed_of s (sight s h) l) (act s h l) ≡ Some (deed.Leave c hr v bytes)
OwnReply s h l (deed.Back c hr v) =
    option_map (back_answer (sight s h) c) (due_of (sight s h) c) ≡ Some (record { hr = hr; value = v })
OwnReply s h l _ = Unit {0}

-- Clause 4: the steps of each call come once and in order, and its entries carry what is the call's own.
abbrev pub Replies : Scenario → List Entry → Type 0
Replies s h = once h × EachEntry (OwnReply s) h

-- 5. Balance: for every object and interface the stub's count is what proxies, packets and cookies hold. A
-- proxy place of a connected object has a proxy with at least 1 of its interface.
abbrev pub Balanced : Scenario → List Entry → Type 0
Balanced s h = (o i : ℕ) → (books s h).stub o i ≡ held (apartments h) (books s h) o i

-- That where a place names a connected object by an interface, in an apartment that does not own it, the
-- apartment's proxy holds at least 1 public reference of this interface.
abbrev pub Secured : Scenario → List Entry → Type 0
Secured s h =
    (a o i : ℕ) → (books s h).live o ≡ true → owns s h o a ≡ false
    → 1 ≤ places_that s (ground s h) (scene s h) a (to_interface o i) → 1 ≤ (books s h).proxy a o i

-- That after each prefix of a history the stubs are balanced, and the proxy places secured.
abbrev pub Balance : Scenario → List Entry → Type 0
Balance s h = EachPrefix (λ h. Balanced s h × Secured s h) h

-- 6. Release: an object has at most one Final, made in a lane that serves its owner while it is dying and not
-- connected. No Enter of it and no direct place comes afterwards.
abbrev pub Releases : Scenario → List Entry → ℕ → Deed → Type 0
Releases s h l (deed.Final o) =
    (finaled h o ≡ false) × (serves s h l (named h o) ≡ true) × (is_dying s h o ≡ true)
    × ((books s h).live o ≡ false)
Releases s h l (deed.Enter c o a t vs) = finaled h o ≡ false
Releases s h l _ = Unit {0}

-- That no direct place names an object that has had its Final.
abbrev pub Gone : Scenario → List Entry → Type 0
Gone s h = (o : ℕ) → finaled h o ≡ true → direct_places s (ground s h) (scene s h) o ≡ 0

-- That each entry of a history keeps clause 6, and that after no prefix a direct place names what is
-- released.
abbrev pub Release : Scenario → List Entry → Type 0
Release s h = EachEntry (Releases s) h × EachPrefix (Gone s) h

-- 7. Causes: a Back has the call's answer; each other refused entry has the first refusal that applies before
-- it; each Refuse and Verdict is what admission gives.
abbrev pub is_refused_route : Route → Bool
is_refused_route route.Refused = true
is_refused_route _ = false

-- That a refused entry is what the next action of its lane gives, with the first refusal that applies; of
-- another entry nothing is said.
abbrev pub Refused : Scenario → List Entry → ℕ → Deed → (refused : Bool) → Type 0
Refused s h l d true = option_map (deed_of s (sight s h) l) (act s h l) ≡ Some d
Refused s h l d false = Unit {0}

-- That a Back, a Refuse, a Verdict, an Out without route, and any other entry that does not answer S_OK has
-- its cause in what stood before it.
abbrev pub HasCause : Scenario → List Entry → ℕ → Deed → Type 0
HasCause s h l (deed.Back c hr v) = OwnReply s h l (deed.Back c hr v)
HasCause s h l (deed.Refuse c hr) = admission s (sight s h) l c ≡ deed.Refuse c hr
HasCause s h l (deed.Verdict c t v) = admission s (sight s h) l c ≡ deed.Verdict c t v
HasCause s h l (deed.Out c o i m r k bytes) = Refused s h l (deed.Out c o i m r k bytes) (is_refused_route r)
HasCause s h l d = Refused s h l d (not (is_S_OK (answer_in d)))

-- That each entry of a history keeps clause 7.
abbrev pub Causes : Scenario → List Entry → Type 0
Causes s h = EachEntry (HasCause s) h

-- That a history keeps the seven clauses.
pub record Safe (s : Scenario) (h : List Entry) : Type 0 where
  pub apartment : Apartment s h
  pub one_stack : OneStack s h
  pub reentry : Reentry s h
  pub once : Replies s h
  pub balance : Balance s h
  pub release : Release s h
  pub causes : Causes s h
