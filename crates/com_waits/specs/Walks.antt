-- What is read of a history's entries, from the newest on.
use Rattle.std.specs.Prelude.{ℕ, zero, suc, ◌+◌, Bool, ◌==◌, List, [], ◌∷◌, Option, Some, None, option_map}
use Rattle.std.specs.Prelude.{filter_map, reverse}
use Rattle.com_model.specs.declared.deeds.Entry.{Entry}
use Rattle.com_model.specs.declared.keeps.Admission.{Admission}
use Rattle.com_model.specs.declared.keeps.Issue.{Issue}
use Rattle.com_model.specs.declared.keeps.Making.{Making}
use Rattle.com_model.specs.declared.keeps.Opener.{Opener}
use Rattle.com_model.specs.declared.keeps.Opener.TheVariants as opener
use Rattle.com_model.specs.Lists.{first, number_or_zero, one_to, where_true}
use Rattle.com_model.specs.Apartments.{mta}
use Rattle.com_model.specs.Objects.{named}
use Rattle.com_model.specs.Openers.{Effect, Opens, Closes, Keeps, effect_on, openers}
use Rattle.com_model.specs.Calls.{admitted, target}
use Rattle.com_waits.specs.declared.reasons.Why.{Why}
use Rattle.com_waits.specs.declared.reasons.Why.TheVariants.{Message, Body, Pool}
use Rattle.com_waits.specs.declared.reasons.Wait.{Wait}
use Rattle.com_waits.specs.declared.walks.Change.{Change}
use Rattle.com_waits.specs.declared.walks.Change.TheVariants as change
use Rattle.com_waits.specs.declared.walks.Passed.{Passed}
use Rattle.com_waits.specs.declared.walks.Passed.TheVariants as passed
use Rattle.com_waits.specs.Reasons.{wait_of}

-- The history that entries in the order of their making tell.
abbrev pub told : List Entry → List Entry
told entries = reverse entries

-- What an effect does to what is open in a lane.
abbrev pub change_by : Effect → Change
change_by (Opens o) = change.Opens o
change_by (Closes c) = change.Closes
change_by Keeps = change.Keeps

abbrev pub change_of : ℕ → Entry → Change
change_of l e = change_by (effect_on l e)

-- So many openers above are closed later: what the entry opened is the one that is looked for, or how many
-- are closed before it.
abbrev pub opens_at : Opener → ℕ → Passed
opens_at o zero = passed.Found o
opens_at o (suc n) = passed.On n

abbrev pub passed_by : Change → ℕ → Passed
passed_by (change.Opens o) n = opens_at o n
passed_by change.Closes n = passed.On (n + 1)
passed_by change.Keeps n = passed.On n

-- The lane of an admission.
abbrev pub lane_in : Option Admission → Option ℕ
lane_in x = option_map (λ (a : Admission). a.lane) x

-- The object that an Out names, and the apartment that a Made names.
abbrev pub object_in : Option Issue → Option ℕ
object_in x = option_map (λ (i : Issue). number_or_zero i.object) x

abbrev pub apartment_in : Option Making → Option ℕ
apartment_in x = option_map (λ (m : Making). m.apartment) x

-- Whether a call is one to an object of the multithreaded apartment.
abbrev pub is_for_pool : List Entry → ℕ → Bool
is_for_pool h c = named h (target h c) == mta

-- Why a lane waits, where a call to that apartment that was not entered waits for the pool.
abbrev pub seen_at_call : (pool call : ℕ) → (for_pool : Bool) → Option ℕ → Option Why
seen_at_call p c b None = where_true b (Pool c p)
seen_at_call p c b (Some m) = Some (Body c m)

abbrev pub seen_at : (pool : ℕ) → List Entry → Option Opener → Option Why
seen_at p h None = None
seen_at p h (Some (opener.Pumps n)) = Some Message
seen_at p h (Some (opener.Waits c)) = seen_at_call p c (is_for_pool h c) (lane_in (admitted h c))
seen_at p h (Some (opener.Enters c o a)) = None

abbrev pub seen : (pool : ℕ) → List Entry → ℕ → Option Why
seen p h l = seen_at p h (first (openers h l))

-- The row of a lane, where it waits.
abbrev pub row_of : ℕ → Option Why → List Wait
row_of l None = []
row_of l (Some y) = wait_of l y ∷ []

abbrev pub seen_waits : (pool : ℕ) → List Entry → (lanes : ℕ) → List Wait
seen_waits p h n = filter_map (λ l. option_map (wait_of l) (seen p h l)) (one_to n)
