-- What entries do to the tables of calls, in steps.
use Rattle.std.specs.Prelude.{ℕ, zero, suc, ◌+◌, ℤ, pos, negsuc, Bool, true, false, nat_lt}
use Rattle.std.specs.Prelude.{if◌then◌else◌, None}
use Rattle.com_filter.specs.declared.TheConstants.{LEAST_DELAY_MS}
use Rattle.com_filter.specs.declared.Verdict.{Verdict}
use Rattle.com_model.specs.declared.deeds.Route.{Route}
use Rattle.com_model.specs.declared.deeds.Route.TheVariants as route
use Rattle.com_model.specs.declared.keeps.Ending.TheVariants as ending
use Rattle.com_model.specs.declared.keeps.Phase.TheVariants as phase
use Rattle.com_model.specs.Endings.{EndEffect, CutsObject, CutsSta}
use Rattle.com_state.specs.Parts.{CallTables, ObjectTables, endings_after, unread_after}
use Rattle.com_calls.specs.declared.rows.Cut.{Cut}
use Rattle.com_calls.specs.declared.rows.Cut.TheVariants as cut
use Rattle.com_calls.specs.Steps.{ended_at, phased_at, posted_at}

abbrev pub judged_at : CallTables → ℕ → Verdict → (filtered : Bool) → CallTables
judged_at t c v true = phased_at t c (phase.Judged v)
judged_at t c v false = ended_at (phased_at t c (phase.Judged v)) c (ending.ByVerdict v)

abbrev pub retried_at : CallTables → ℕ → ℤ → (now : ℕ) → CallTables
retried_at t c (negsuc n) now = ended_at (phased_at t c phase.GivenUp) c ending.ByRetry
retried_at t c (pos n) now = if nat_lt n LEAST_DELAY_MS then posted_at t c else phased_at t c (phase.Delayed (now + n))

abbrev pub asked_at : CallTables → ℕ → (answer : ℕ) → CallTables
asked_at t c zero = ended_at t c ending.ByCancel
asked_at t c (suc n) = t

abbrev pub routed_at : CallTables → ℕ → Route → CallTables
routed_at t c route.Post = posted_at t c
routed_at t c route.Refused = ended_at t c ending.AtIssue
routed_at t c _ = t

-- What a disconnection, or the end of an STA, does.
abbrev pub cut_at : ObjectTables → CallTables → EndEffect → CallTables
cut_at o t x = record t { endings = endings_after o t x t.endings; unread = unread_after o t None x t.unread }

abbrev pub effect_of : Cut → EndEffect
effect_of (cut.Object p) = CutsObject p
effect_of (cut.Sta a) = CutsSta a
