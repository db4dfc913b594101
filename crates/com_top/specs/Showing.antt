-- What the command `objref` answers for an input.
use Rattle.std.specs.Prelude.{◌≡◌, ℕ, List, Bool, true, false, Result, Ok, length, nat_lt}
use Rattle.std.proofs.Common.{subst, sym}
use Rattle.com_read_operands.specs.declared.faults.Fault.{Fault}
use Rattle.com_objref.specs.Shown.{shown_of}
use Rattle.com_commands.specs.declared.inputs.Input.{Input}
use Rattle.com_commands.specs.declared.statuses.Status.{Status}
use Rattle.com_commands.specs.declared.statuses.Status.TheVariants as status
use Rattle.com_commands.specs.Inputs.{input_of}
use Rattle.com_commands.specs.Statuses.{Concludes}
use Rattle.com_top.specs.declared.objrefs.TheConstants.{DIGITS_LIMIT}

-- Whether a text of digits has more than 1,048,576 bytes.
abbrev pub are_long_digits : List ℕ → Bool
are_long_digits bytes = nat_lt DIGITS_LIMIT (length bytes)

-- Every text is read as it stands.
abbrev pub digits_of : List ℕ → Result (List ℕ) Fault
digits_of bytes = Ok bytes

abbrev pub digits_input : List ℕ → Input (List ℕ)
digits_input = input_of are_long_digits digits_of

abbrev pub status_for : Bool → Status
status_for true = status.Done
status_for false = status.Refused

-- The status and the text of a text of digits: 0 with its fields where it spells an OBJREF, and 2 with the
-- line of its first fault where it does not.
pub record IsShown (digits : List ℕ) (s : Status) (text : List ℕ) : Type 0 where
  pub status_is : s ≡ status_for (shown_of digits).is_found
  pub written : text ≡ (shown_of digits).text

found_concludes : (found : Bool) → Concludes (status_for found)
found_concludes true = tt
found_concludes false = tt

pub shown_concludes : (digits : List ℕ) (s : Status) (text : List ℕ) → IsShown digits s text → Concludes s
shown_concludes digits s text is =
    subst (λ (x : Status). Concludes x) (sym is.status_is) (found_concludes (shown_of digits).is_found)
