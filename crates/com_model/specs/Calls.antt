-- Calls: what the entries of a call say, its route and its causality.
use Rattle.std.specs.Prelude.{ℕ, ◌+◌, Bool, true, false, ◌==◌, ◌||◌, ◌&&◌, if◌then◌else◌, List, [], ◌∷◌}
use Rattle.std.specs.Prelude.{Option, Some, None, is_some, is_none}
use Rattle.com_model.specs.declared.deeds.Deed.{Deed}
use Rattle.com_model.specs.declared.deeds.Deed.TheVariants as deed
use Rattle.com_model.specs.declared.deeds.Entry.{Entry}
use Rattle.com_model.specs.declared.deeds.Route.{Route}
use Rattle.com_model.specs.declared.deeds.Route.TheVariants as route
use Rattle.com_refs_books.specs.Counting.{count_if}
use Rattle.com_model.specs.Lists.{is_number, number_or_zero}
use Rattle.com_model.specs.Apartments.{neutral}
use Rattle.com_model.specs.Openers.{openers, running_call}
pub use Rattle.com_model.specs.declared.keeps.Leaving.{Leaving}
pub use Rattle.com_model.specs.declared.keeps.Admission.{Admission}
pub use Rattle.com_model.specs.declared.keeps.Issue.{Issue}

-- What an Out of lane l says of the call that it issues; None for every other deed.
abbrev pub issues : ℕ → Deed → Option Issue
issues l (deed.Out c o i m r k bytes) =
    Some (record { call = c; lane = l; object = o; iface = i; method = m; route = r; cause = k })
issues l _ = None

-- What an Enter of lane l says of the call that it admits: the lane and the apartment of its body. None for
-- every other deed.
abbrev pub admits : ℕ → Deed → Option Admission
admits l (deed.Enter c o a t values) = Some (record { call = c; lane = l; apartment = a })
admits l _ = None

-- What a Leave says of its call: the body's HRESULT and result; None for every other deed.
abbrev pub leaves : Deed → Option Leaving
leaves (deed.Leave c hr value bytes) = Some (record { call = c; hr = hr; value = value })
leaves _ = None

-- The call that a Back gives back to its caller; None for every other deed.
abbrev pub returns : Deed → Option ℕ
returns (deed.Back c hr value) = Some c
returns _ = None

-- What is known of the issue of call c: what the deed says where it issues c, else what was known.
abbrev pub issue_or : Option Issue → ℕ → Option Issue → Option Issue
issue_or None c before = before
issue_or (Some i) c before = if i.call == c then Some i else before

-- What is known of the admission of call c: what the deed says where it admits c, else what was known.
abbrev pub admission_or : Option Admission → ℕ → Option Admission → Option Admission
admission_or None c before = before
admission_or (Some a) c before = if a.call == c then Some a else before

-- What is known of the leaving of call c: what the deed says if it is the Leave of c, else what was known.
abbrev pub leaving_or : Option Leaving → ℕ → Option Leaving → Option Leaving
leaving_or None c before = before
leaving_or (Some x) c before = if x.call == c then Some x else before

-- What the Out of a call says; None for a number that no call has yet.
abbrev pub issue : List Entry → ℕ → Option Issue
issue [] c = None
issue (e ∷ h) c = issue_or (issues e.lane e.deed) c (issue h c)

-- What the Enter of a call says; None as long as the call was not entered.
abbrev pub admitted : List Entry → ℕ → Option Admission
admitted [] c = None
admitted (e ∷ h) c = admission_or (admits e.lane e.deed) c (admitted h c)

-- What the Leave of a call says; None as long as its body has not left.
abbrev pub left : List Entry → ℕ → Option Leaving
left [] c = None
left (e ∷ h) c = leaving_or (leaves e.deed) c (left h c)

-- Whether the call is back in its caller's lane.
abbrev pub returned : List Entry → ℕ → Bool
returned [] c = false
returned (e ∷ h) c = is_number c (returns e.deed) || returned h c

-- Calls count from 1 in order of their Outs.
abbrev pub calls : List Entry → ℕ
calls [] = 0
calls (e ∷ h) = count_if (is_some (issues e.lane e.deed)) + calls h

-- The target of a call that was issued on one, and the number 0 where there is none.
abbrev pub object_of : Option Issue → ℕ
object_of None = 0
object_of (Some i) = number_or_zero i.object

-- The object that a call was made to, and 0 for a call on null or one that was not issued.
abbrev pub target : List Entry → ℕ → ℕ
target h c = object_of (issue h c)

-- The lane that issued a call, and 0 for a call that was not issued.
abbrev pub lane_of : Option Issue → ℕ
lane_of None = 0
lane_of (Some i) = i.lane

-- Whether a call is direct: the caller's running apartment owns the target, and nothing is marshalled.
abbrev pub is_direct : Route → Bool
is_direct route.Direct = true
is_direct _ = false

-- Whether a call goes by post: it is put at the end of the inbox of the target's owner.
abbrev pub is_post : Route → Bool
is_post route.Post = true
is_post _ = false

-- On these routes the arguments and the result are marshalled.
abbrev pub is_marshalled : Route → Bool
is_marshalled route.Switch = true
is_marshalled route.Post = true
is_marshalled _ = false

-- The route of a call, and Refused for a call that was not issued.
abbrev pub route_of : Option Issue → Route
route_of None = route.Refused
route_of (Some i) = i.route

-- The route of a call that is not refused: direct where the running apartment owns the target; a switch where
-- the owner is the neutral apartment or the lane's home; else by post.
abbrev pub route_for : (direct : Bool) (named : ℕ) (home : Option ℕ) → Route
route_for direct a home =
    if direct then route.Direct
    else if a == neutral || is_number a home then route.Switch
    else route.Post

-- The causality of a call is that of the call of its lane's last open Enter; else one more than the number of
-- the earlier Outs that were made in lanes without open Enter. Source: MS-DCOM, the causality identifier of
-- ORPCTHIS.
abbrev pub draws : List Entry → Entry → Bool
draws h e = is_some (issues e.lane e.deed) && is_none (running_call (openers h e.lane))

-- How many causalities were drawn: one by each Out that its lane made without open Enter.
abbrev pub causes : List Entry → ℕ
causes [] = 0
causes (e ∷ h) = count_if (draws h e) + causes h

-- The number of a call's causality, from 1, and 0 for a call that was not issued.
abbrev pub cause_of : Option Issue → ℕ
cause_of None = 0
cause_of (Some i) = i.cause

-- The next causality of a lane: that of the call of its last open Enter, and a new one where none is open.
abbrev pub cause_for : (ℕ → Option Issue) → (drawn : ℕ) → (running : Option ℕ) → ℕ
cause_for issue drawn None = drawn + 1
cause_for issue drawn (Some c) = cause_of (issue c)
