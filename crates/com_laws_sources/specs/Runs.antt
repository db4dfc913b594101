-- A body that makes no call, in a history: it comes to what it comes to by itself, from its arguments and the
-- cells at its Enter.
use Rattle.std.specs.Prelude.{◌≡◌, ℕ, true, false, ◌==◌, if◌then◌else◌, List, [], ◌∷◌, Option, Some}
use Rattle.com_base.specs.declared.hresult.HResult.{HResult}
use Rattle.com_base.specs.declared.value.Value.{Value}
use Rattle.com_body.specs.declared.actions.Action.TheVariants as action
use Rattle.com_body.specs.declared.frame.Cells.{Cells}
use Rattle.com_body.specs.declared.frame.Outcome.{Outcome}
use Rattle.com_body.specs.Frames.{entered}
use Rattle.com_body.specs.Operands.{new_cells}
use Rattle.com_model.specs.declared.deeds.Deed.{Deed}
use Rattle.com_model.specs.declared.deeds.Deed.TheVariants as deed
use Rattle.com_model.specs.declared.deeds.Entry.{Entry}
use Rattle.com_model.specs.declared.scenario.Scenario.{Scenario}
use Rattle.com_model.specs.declared.keeps.Issue.{Issue}
use Rattle.com_model.specs.declared.keeps.Opener.{Opener}
use Rattle.com_model.specs.declared.keeps.Opener.TheVariants.{Enters}
use Rattle.com_model.specs.Openers.{openers}
use Rattle.com_model.specs.Apartments.{is_sta}
use Rattle.com_model.specs.Objects.{agile}
use Rattle.com_model.specs.Calls.{issue}
use Rattle.com_model.specs.Frames.{scene, is_leave}
use Rattle.com_laws_sources.specs.Alone.{alone}
use Rattle.com_laws_sources.specs.Histories.{given_to}
use Rattle.com_laws_sources.specs.Steps.{body_for, IsLeave, result_of}

-- The cells of a call's object when the call was entered.
abbrev pub at_begin : Scenario → List Entry → Deed → (call : ℕ) → Cells → Cells
at_begin s h (deed.Enter d o a t vs) c before = if d == c then (scene s h).cells o else before
at_begin s h _ c before = before

abbrev pub began : Scenario → List Entry → ℕ → Cells
began s [] c = new_cells
began s (e ∷ h) c = at_begin s h e.deed c (began s h c)

-- What the body of a call comes to by itself, with so many copies and releases on the way.
abbrev pub by_itself : Scenario → List Entry → (call object : ℕ) → Issue → (steps : ℕ) → Outcome
by_itself s h c o i n = alone (body_for s h o i) n (entered (given_to h c)) (began s h c)

-- So many copies and releases are still before the body.
pub record Rest (s : Scenario) (h : List Entry) (c o : ℕ) (i : Issue) (n : ℕ) : Type 0 where
  pub steps : ℕ
  pub same : alone (body_for s h o i) steps ((scene s h).bodies c) ((scene s h).cells o)
      ≡ by_itself s h c o i n

-- A call on an object that is not agile, entered in an STA, whose body comes to its Leave by itself.
pub record Sits (s : Scenario) (h : List Entry) (c o a : ℕ) (i : Issue) (n : ℕ) : Type 0 where
  pub sta : is_sta a ≡ true
  pub not_agile : agile s h o ≡ false
  pub issued : issue h c ≡ Some i
  pub leaves : is_leave (by_itself s h c o i n).action ≡ true

-- Such a body on top has what is left of that.
abbrev pub StillAlone : Scenario → List Entry → Type 0
StillAlone s h =
    (l c o a : ℕ) (os : List Opener) (i : Issue) (n : ℕ) → openers h l ≡ Enters c o a ∷ os
    → Sits s h c o a i n
    → Rest s h c o i n

-- Its Leave has that answer and result, and leaves those cells.
abbrev pub LeavesAlone : Scenario → List Entry → Entry → Type 0
LeavesAlone s h e =
    (c o a : ℕ) (os : List Opener) (i : Issue) (n : ℕ) (hr : HResult) (x : Option Value)
    → openers h e.lane ≡ Enters c o a ∷ os → Sits s h c o a i n
    → (by_itself s h c o i n).action ≡ action.Leave hr x
    → (d : ℕ) (y : HResult) (v : Option Value) (bytes : Option (List ℕ)) → e.deed ≡ deed.Leave d y v bytes
    → IsLeave e.deed c hr (result_of s h i hr x) × ((scene s (e ∷ h)).cells o ≡ (by_itself s h c o i n).cells)
