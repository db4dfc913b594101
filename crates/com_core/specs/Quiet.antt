-- The entries that move no reference, have no row in the books, and begin and end no body.
use Rattle.std.specs.Prelude.{◌≡◌, ℕ, Bool, true, false, not, ◌==◌, ◌&&◌, List, Option, Some, None, is_some}
use Rattle.com_body.specs.declared.actions.Action.{Action}
use Rattle.com_body.specs.declared.actions.Action.TheVariants as action
use Rattle.com_body.specs.declared.frame.Outcome.{Outcome}
use Rattle.com_body.specs.declared.operands.Destination.{Destination}
use Rattle.com_body.specs.declared.operands.Destination.TheVariants as destination
use Rattle.com_model.specs.declared.deeds.Deed.{Deed}
use Rattle.com_model.specs.declared.deeds.Deed.TheVariants as deed
use Rattle.com_model.specs.declared.deeds.Entry.{Entry}
use Rattle.com_model.specs.Frames.{Actor, value_reference}
use Rattle.com_model.specs.Lists.{from_one}
use Rattle.com_model.specs.Objects.{finals}
use Rattle.com_model.specs.Places.{left_value}
use Rattle.com_laws_places.specs.Moves.{no_moves}
use Rattle.com_ledger.specs.Bodies.{entered_after}
use Rattle.com_ledger.specs.Falling.{other_object}
use Rattle.com_ledger.specs.Quiet.{LeavesBooks, calls_passed}
use Rattle.com_parts.specs.Fits.{is_calls_alone}
use Rattle.com_parts.specs.Tables.{PartTables}
use Rattle.com_reference_moves.specs.Steps.{moves_stepped}
use Rattle.com_reference_moves.specs.Tables.{ground_at}
use Rattle.com_refs_rows.specs.Books.{Held}
use Rattle.com_refs_rows.specs.Calls.{call_at}
use Rattle.com_refs_rows.specs.Entries.{Around}
use Rattle.com_state.specs.SceneParts.{destination_at}

-- The action writes a reference, or null, at a slot or a link.
abbrev pub writes_reference : Action → Bool
writes_reference (action.Create slot k i) = true
writes_reference (action.Query to held i) = true
writes_reference (action.Copy to held) = true
writes_reference (action.Release from held) = true
writes_reference (action.Unmarshal slot b) = true
writes_reference (action.Get slot g) = true
writes_reference _ = false

-- So does the step of whoever makes an entry, where a step makes it.
abbrev pub writes_by : Option Outcome → Bool
writes_by None = false
writes_by (Some r) = writes_reference r.action

abbrev pub is_slot : Destination → Bool
is_slot (destination.Slot k) = true
is_slot _ = false

-- Packets carry the arguments of a call, and its result.
abbrev pub has_arguments : Held → ℕ → Bool
has_arguments w c = not ((call_at w.calls c).count == 0)

abbrev pub has_result : Held → ℕ → Bool
has_result w c = not ((call_at w.calls c).result == 0)

-- The body of a call left with a reference that is not null.
abbrev pub left_held : PartTables → ℕ → Bool
left_held p c = is_some (value_reference (left_value (from_one p.calls.tables.leavings c None)))

-- A call comes back without a reference: its result goes to no slot, its body left with no reference, and no
-- packet carries the result.
abbrev pub comes_bare : PartTables → Held → ℕ → Bool
comes_bare p w c =
    (not (is_slot (destination_at p.scene c)) && not (left_held p c)) && not (has_result w c)

-- A filter's verdict and what follows it, what the clock does, what pumps and words do, a filter that is
-- named, bytes for a buffer, the end of a lane, a call that sends no bytes, and one that comes back without a
-- reference.
abbrev pub moves_nothing : PartTables → Held → Deed → Bool
moves_nothing p w (deed.Raw b n) = true
moves_nothing p w (deed.SetFilter f hr) = true
moves_nothing p w (deed.Post l x hr) = true
moves_nothing p w (deed.Quit l hr) = true
moves_nothing p w (deed.Pump n) = true
moves_nothing p w deed.EndPump = true
moves_nothing p w (deed.Word x) = true
moves_nothing p w (deed.Verdict c t v) = true
moves_nothing p w (deed.Refuse c hr) = true
moves_nothing p w (deed.Retry c n) = true
moves_nothing p w (deed.Again c) = true
moves_nothing p w (deed.Pending c x n) = true
moves_nothing p w (deed.Tick t) = true
moves_nothing p w deed.End = true
moves_nothing p w (deed.Out c o i m r k None) = not (has_arguments w c)
moves_nothing p w (deed.Back c hr v) = comes_bare p w c
moves_nothing p w _ = false

-- An entry of such a deed, by the step of whoever makes it, or by none.
abbrev pub is_still : PartTables → Held → Option Outcome → Deed → Bool
is_still p w r d = moves_nothing p w d && not (writes_by r)

-- The entry changes nothing but the calls, and nobody's step makes it.
abbrev pub is_alone : Option Outcome → Deed → Bool
is_alone None d = is_calls_alone d
is_alone (Some r) d = false

-- What such an entry leaves as it was: places, the books but for the call of an Out, the bodies that run, and
-- what is dying.
pub record Still (p : PartTables) (w : Held) (acting : Actor) (r : Option Outcome) (after : Actor) (e : Entry)
    : Type 0 where
  pub moves : (home : Option ℕ)
      → moves_stepped (ground_at home p.objects p.calls.tables) p.scene acting r after e ≡ no_moves
  pub books : (g : Around) → LeavesBooks g e.deed w.tables w.calls (calls_passed e.deed w.calls)
  pub bodies : (xs : List ℕ) → entered_after e.deed acting xs ≡ xs
  pub other : (n : ℕ) → other_object n e.deed acting ≡ None
  pub finals_none : finals e.deed ≡ None
