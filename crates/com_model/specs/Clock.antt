-- The clock and message filters. Source: the documentation of IMessageFilter.
use Rattle.std.specs.Prelude.{ℕ, zero, ◌-◌, Bool, true, false, ◌==◌, nat_le, if◌then◌else◌, List, [], ◌∷◌}
use Rattle.std.specs.Prelude.{Option, Some, None}
use Rattle.com_base.specs.declared.apartments.TheConstants.{FIRST_STA}
use Rattle.com_filter.specs.declared.Verdict.{Verdict}
use Rattle.com_filter.specs.declared.Verdict.TheVariants as verdict
use Rattle.com_filter.specs.declared.Rule.{Rule}
use Rattle.com_model.specs.declared.deeds.Deed.{Deed}
use Rattle.com_model.specs.declared.deeds.Deed.TheVariants as deed
use Rattle.com_model.specs.declared.deeds.Entry.{Entry}
use Rattle.com_model.specs.declared.scenario.Scenario.{Scenario}
use Rattle.com_model.specs.Answers.{is_S_OK}
use Rattle.com_model.specs.Tables.{filter_rules}
use Rattle.com_model.specs.Apartments.{home}
use Rattle.com_model.specs.Calls.{Issue, issues}

-- Virtual milliseconds: the number in the last Tick, and 0 before the first.
abbrev pub ticked : Deed → ℕ → ℕ
ticked (deed.Tick t) before = t
ticked _ before = before

-- The time after a history, in virtual milliseconds.
abbrev pub clock : List Entry → ℕ
clock [] = 0
clock (e ∷ h) = ticked e.deed (clock h)

-- The clock at the Out of a call.
abbrev pub time_or : Option Issue → ℕ → (now before : ℕ) → ℕ
time_or None c now before = before
time_or (Some i) c now before = if i.call == c then now else before

abbrev pub issued_at : List Entry → ℕ → ℕ
issued_at [] c = 0
issued_at (e ∷ h) c = time_or (issues e.lane e.deed) c (clock h) (issued_at h c)

-- A SetFilter that answers S_OK names the lane's filter or none. A filter ends with its STA, and a new home
-- begins without.
pub data FilterEffect : Type 0 where
  Names : Option ℕ → FilterEffect
  Keeps : FilterEffect

-- A SetFilter with S_OK names its filter or none; an Init with S_OK, and an Uninit to count 0, name none.
-- Every other deed keeps the lane's filter.
abbrev pub filter_effect : Deed → FilterEffect
filter_effect (deed.SetFilter f hr) = if is_S_OK hr then Names f else Keeps
filter_effect (deed.Init m a hr) = if is_S_OK hr then Names None else Keeps
filter_effect (deed.Uninit a zero) = Names None
filter_effect _ = Keeps

abbrev pub filter_effect_on : ℕ → Entry → FilterEffect
filter_effect_on l e = if e.lane == l then filter_effect e.deed else Keeps

abbrev pub filter_after : FilterEffect → Option ℕ → Option ℕ
filter_after (Names f) before = f
filter_after Keeps before = before

abbrev pub last_filter : List Entry → ℕ → Option ℕ
last_filter [] l = None
last_filter (e ∷ h) l = filter_after (filter_effect_on l e) (last_filter h l)

-- A lane has a filter only where its home is an STA that a thread made.
abbrev pub in_made_sta : Option ℕ → Option ℕ → Option ℕ
in_made_sta None f = None
in_made_sta (Some a) f = if nat_le FIRST_STA a then f else None

abbrev pub filter_of : Scenario → List Entry → ℕ → Option ℕ
filter_of s h l = in_made_sta (home s h l) (last_filter h l)

-- The rules of a lane's filter, and no rule where it has none.
abbrev pub rules_of : Scenario → Option ℕ → List Rule
rules_of s None = []
rules_of s (Some f) = filter_rules s f

-- How long the topmost open Out has waited; 0 where none is open.
abbrev pub waited : (issued_at : ℕ → ℕ) → (now : ℕ) → List ℕ → ℕ
waited at now [] = 0
waited at now (c ∷ cs) = now - at c

-- A call is let in where the answer is SERVERCALL_ISHANDLED.
abbrev pub is_handled : Verdict → Bool
is_handled verdict.Handled = true
is_handled _ = false
