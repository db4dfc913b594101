-- What a lane does next, by kind, and whether a rule gives it an entry, by what is innermost in it.
use Rattle.std.specs.Prelude.{ℕ, Bool, true, false, not, ◌&&◌, ◌||◌, nat_le, Option, Some, None, is_some, is_none, if◌then◌else◌}
use Rattle.com_model.specs.declared.keeps.Opener.{Opener}
use Rattle.com_model.specs.declared.keeps.Opener.TheVariants.{Pumps, Waits, Enters}
use Rattle.com_model.specs.declared.keeps.Phase.{Phase}
use Rattle.com_model.specs.declared.keeps.Phase.TheVariants.{Judged, Delayed}
use Rattle.com_model.specs.Apartments.{host_sta, is_sta, mta}
use Rattle.com_model.specs.Calls.{is_post, route_of}
use Rattle.com_model.specs.Deeds.{in_sta}
use Rattle.com_model.specs.Lists.{first}
use Rattle.com_model.specs.Sight.{Sight}
use Rattle.com_model.specs.Tables.{LaneSort, Thread, Host, Pool, NoLane}
use Rattle.com_model.specs.Waiting.{bound_reached, mark_of, not_asked}
use Rattle.com_view.specs.declared.next.Next.{Next}
use Rattle.com_view.specs.declared.next.Next.TheVariants as next

-- By whether a body is innermost, whether a rule gives an entry, and whether the lane is over.
abbrev pub kind_of : (body ruled over : Bool) → Next
kind_of true own over = next.Body
kind_of false true over = next.Own
kind_of false false true = next.Over
kind_of false false false = next.Wait

-- Whether a call is posted in an STA's inbox, where the home is one.
abbrev pub has_posted : Sight → (home : Option ℕ) → Bool
has_posted v None = false
has_posted v (Some a) = is_sta a && is_some (first (v.inbox a))

-- Whether a call was judged, so that its caller's filter is asked, or waits for a time that has come.
abbrev pub has_moved : Sight → Phase → Bool
has_moved v (Judged x) = true
has_moved v (Delayed t) = nat_le t v.clock
has_moved v _ = false

-- Whether something comes to a lane that waits in an STA for a posted call: another call, or a word that its
-- filter was not asked about.
abbrev pub has_come : Sight → (lane call : ℕ) → Bool
has_come v l c =
    in_sta (v.home l) && (has_posted v (v.home l)
    || is_some (not_asked (mark_of (v.mail l).marks c) (v.mail l).words))

-- Whether a rule but that of the Final gives an entry to a lane in which nothing is open: a thread's script acts
-- until its lane is over, and the lanes of the host and of the pool let in what is posted.
abbrev pub idle_has : Sight → LaneSort → ℕ → Bool
idle_has v Thread l = not (v.over l)
idle_has v Host l = is_some (first (v.inbox host_sta))
idle_has v Pool l = is_some (first (v.inbox mta))
idle_has v NoLane l = false

-- Whether one gives an entry to a lane that pumps: a word or a quit stands, its bound is reached, or its inbox has
-- a call.
abbrev pub pump_has : Sight → ℕ → Bool
pump_has v l =
    is_some (first (v.mail l).words) || (v.quit l || (bound_reached (v.openers l) (v.served l)
    || has_posted v (v.home l)))

-- Whether one gives an entry to a lane that waits for a call: the call is answered, was judged or is due, goes by
-- post while something comes to the lane, or goes otherwise and was not let in.
abbrev pub wait_has : Sight → (lane call : ℕ) → Bool
wait_has v l c =
    is_some (v.ending c) || (has_moved v (v.phase c)
    || (if is_post (route_of (v.issue c)) then has_come v l c else is_none (v.admitted c)))

-- Whether a rule but that of the Final gives an entry to a lane of this sort, by what is innermost in it.
abbrev pub stirs : Sight → LaneSort → ℕ → Option Opener → Bool
stirs v sort l None = idle_has v sort l
stirs v sort l (Some (Pumps n)) = pump_has v l
stirs v sort l (Some (Waits c)) = wait_has v l c
stirs v sort l (Some (Enters c o a)) = false
