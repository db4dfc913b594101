-- Why lanes wait in a stuck history.
--
-- In a stuck history every lane with an opener has a pump or an Out of route post on top. At a pump it waits
-- for a message. At the Out of a call that was entered it waits for the body, in the lane of that Enter. At
-- the Out of a call that stands in the inbox of the multithreaded apartment it waits for the pool, for whose
-- lanes the least stands.
use Rattle.std.specs.Prelude.{ℕ, ◌+◌, List, Option, Some, None, option_map, filter_map}
use Rattle.com_model.specs.declared.deeds.Entry.{Entry}
use Rattle.com_model.specs.declared.keeps.Admission.{Admission}
use Rattle.com_model.specs.declared.keeps.Opener.{Opener}
use Rattle.com_model.specs.declared.keeps.Opener.TheVariants as opener
use Rattle.com_model.specs.declared.scenario.Scenario.{Scenario}
use Rattle.com_model.specs.Lists.{first, is_member, one_to, where_true}
use Rattle.com_model.specs.Tables.{host_lane, lanes}
use Rattle.com_model.specs.Apartments.{mta}
use Rattle.com_model.specs.Openers.{openers}
use Rattle.com_model.specs.Calls.{admitted}
use Rattle.com_model.specs.Waiting.{inbox}
use Rattle.com_waits.specs.declared.reasons.Why.{Why}
use Rattle.com_waits.specs.declared.reasons.Why.TheVariants.{Message, Body, Pool}
use Rattle.com_waits.specs.declared.reasons.Wait.{Wait}

-- The least lane of the pool.
abbrev pub pool_lane : Scenario → ℕ
pool_lane s = host_lane s + 1

-- Why a lane waits at the Out of a call, by the call's Enter: for the body where there is one; else for the pool,
-- where the call is in the inbox of the multithreaded apartment. In another inbox no reason is given.
abbrev pub why_at_call : Scenario → List Entry → (call : ℕ) → Option Admission → Option Why
why_at_call s h c (Some a) = Some (Body c a.lane)
why_at_call s h c None = where_true (is_member c (inbox s h mta)) (Pool c (pool_lane s))

-- Why a lane waits, by its topmost opener: at a pump for a message, at an Out as its call does. A lane whose body
-- acts, or in which nothing is open, has no reason.
abbrev pub why_at : Scenario → List Entry → Option Opener → Option Why
why_at s h None = None
why_at s h (Some (opener.Pumps n)) = Some Message
why_at s h (Some (opener.Waits c)) = why_at_call s h c (admitted h c)
why_at s h (Some (opener.Enters c o a)) = None

-- Why a lane waits; none where nothing is open in it.
abbrev pub why : Scenario → List Entry → ℕ → Option Why
why s h l = why_at s h (first (openers h l))

-- A lane that waits, with its reason.
abbrev pub wait_of : ℕ → Why → Wait
wait_of l y = record { lane = l; why = y }

-- Each lane that waits, with its reason, by lane.
abbrev pub waits_of : Scenario → List Entry → List Wait
waits_of s h = filter_map (λ l. option_map (wait_of l) (why s h l)) (one_to (lanes s))
