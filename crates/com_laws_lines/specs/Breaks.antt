-- Lines: where a text has the byte 10, and where it has none.
use Rattle.std.specs.Prelude.{◌≡◌, ℕ, ◌+◌, Bool, true, not, ◌==◌, ◌&&◌, if◌then◌else◌, List, [], ◌∷◌, ◌++◌, length}
use Rattle.std.specs.Prelude.{None, is_some, codes, decimal}
use Rattle.com_base.specs.declared.value.Value.TheVariants as value
use Rattle.com_model.specs.declared.deeds.Deed.{Deed}
use Rattle.com_model.specs.declared.deeds.Deed.TheVariants as deed
use Rattle.com_model.specs.declared.deeds.Entry.{Entry}
use Rattle.com_model.specs.declared.scenario.Scenario.{Scenario}
use Rattle.com_model.specs.Cases.{direct_call_3}
use Rattle.com_model.specs.Ends.{ended_as, report, text}
use Rattle.com_model.specs.Objects.{objects}
use Rattle.com_model.specs.Text.{deed_line}

-- No byte of a text is 10.
abbrev pub no_break : List ℕ → Bool
no_break [] = true
no_break (b ∷ bs) = not (b == 10) && no_break bs

-- How many bytes of a text are 10.
abbrev pub breaks : List ℕ → ℕ
breaks [] = 0
breaks (b ∷ bs) = (if b == 10 then 1 else 0) + breaks bs

-- The line of an entry behind a history, without its end, has no byte 10.
abbrev pub HasWholeLine : Scenario → List Entry → ℕ → Deed → Type 0
HasWholeLine s h l d =
    no_break (deed_line s.version (decimal (length h + 1) ++ codes " L" ++ decimal l) d) ≡ true

-- The text of a history has one byte 10 for each entry, and so as many lines; and its report, where it has
-- ended, one for each object that was made, and two.
pub record HasLines (s : Scenario) (h : List Entry) : Type 0 where
  pub text_lines : breaks (text s h) ≡ length h
  pub report_lines : is_some (ended_as s h) ≡ true → breaks (report s h) ≡ objects h + 2

-- A call's body is entered with a text that has two lines.
abbrev pub with_two_lines : List Entry
with_two_lines =
    record { lane = 1; deed = deed.Enter 1 1 3 None (value.Text (65 ∷ 10 ∷ 66 ∷ []) ∷ []) } ∷ direct_call_3
