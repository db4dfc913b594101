-- The entry that the rules but those of the Final and of the script give a lane, by what is innermost in it.
use Rattle.std.specs.Prelude.{ℕ, Bool, false, nat_le, zero, suc, Option, Some, None, is_none, option_map, if◌then◌else◌}
use Rattle.com_model.specs.declared.deeds.Deed.{Deed}
use Rattle.com_model.specs.declared.deeds.Deed.TheVariants as deed
use Rattle.com_model.specs.declared.keeps.Opener.{Opener}
use Rattle.com_model.specs.declared.keeps.Opener.TheVariants.{Pumps, Waits, Enters}
use Rattle.com_model.specs.declared.keeps.Phase.{Phase}
use Rattle.com_model.specs.declared.scenario.Scenario.{Scenario}
use Rattle.com_model.specs.Apartments.{host_sta, is_sta, mta}
use Rattle.com_model.specs.Calls.{is_post, route_of}
use Rattle.com_model.specs.Lists.{first, or_else, where_true}
use Rattle.com_model.specs.Rules.{admission, answered, asked_on, due_of, packet_left, posted_again}
use Rattle.com_model.specs.Rules.{retried, takes_word}
use Rattle.com_model.specs.Sight.{Sight}
use Rattle.com_model.specs.Tables.{LaneSort, Thread, Host, Pool, NoLane}
use Rattle.com_model.specs.Waiting.{mark_of, not_asked}

-- The first call in the inbox of a home that is an STA.
abbrev pub home_call : Sight → (home : Option ℕ) → Option ℕ
home_call v None = None
home_call v (Some a) = if is_sta a then first (v.inbox a) else None

-- The call that a lane of this sort lets in with nothing open: the host's from its STA's inbox, one of the pool from
-- that of the MTA.
abbrev pub idle_call : Sight → LaneSort → Option ℕ
idle_call v Thread = None
idle_call v Host = first (v.inbox host_sta)
idle_call v Pool = first (v.inbox mta)
idle_call v NoLane = None

-- A pump of this bound has served as many bodies as it is to serve.
abbrev pub has_served : (bound left : ℕ) → Bool
has_served zero n = false
has_served (suc k) n = nat_le (suc k) n

-- The question after a verdict, or the new posting once a time has come.
abbrev pub moved_deed : Scenario → Sight → (lane call : ℕ) → Phase → Option Deed
moved_deed s v l c f = or_else (retried s v l c f) (posted_again v c f)

-- The question about the first word that the call was not asked about.
abbrev pub asked_deed : Scenario → Sight → (lane call : ℕ) → Option Deed
asked_deed s v l c = asked_on s v l c (not_asked (mark_of (v.mail l).marks c) (v.mail l).words)

-- Of a lane that waits for a call that goes by post.
abbrev pub posted_deed : Scenario → Sight → (lane call : ℕ) → Option Deed
posted_deed s v l c =
    or_else (option_map (admission s v l) (home_call v (v.home l)))
    (or_else (moved_deed s v l c (v.phase c)) (asked_deed s v l c))

-- Of a lane that waits for a call that goes otherwise.
abbrev pub direct_deed : Scenario → Sight → (lane call : ℕ) → Option Deed
direct_deed s v l c =
    or_else (where_true (is_none (v.admitted c)) (admission s v l c)) (moved_deed s v l c (v.phase c))

-- What the call comes back with, where it is answered.
abbrev pub answer_deed : Sight → (call : ℕ) → Option Deed
answer_deed v c = option_map (λ x. answered v c x (packet_left v c)) (due_of v c)

-- Of a lane that waits for a call.
abbrev pub wait_deed : Scenario → Sight → (lane call : ℕ) → Option Deed
wait_deed s v l c =
    or_else (answer_deed v c)
    (if is_post (route_of (v.issue c)) then posted_deed s v l c else direct_deed s v l c)

-- Of a lane that pumps.
abbrev pub pump_deed : Scenario → Sight → (lane bound : ℕ) → Option Deed
pump_deed s v l n =
    or_else (where_true (has_served n (v.served l)) deed.EndPump)
    (or_else (option_map (admission s v l) (home_call v (v.home l)))
    (takes_word (first (v.mail l).words) (v.quit l)))

-- Of a lane of this sort, by what is innermost in it.
abbrev pub stirs_to : Scenario → Sight → LaneSort → ℕ → Option Opener → Option Deed
stirs_to s v sort l None = option_map (admission s v l) (idle_call v sort)
stirs_to s v sort l (Some (Pumps n)) = pump_deed s v l n
stirs_to s v sort l (Some (Waits c)) = wait_deed s v l c
stirs_to s v sort l (Some (Enters c o a)) = None
