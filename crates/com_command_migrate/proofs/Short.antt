-- A trace that was read is no longer than a text of version 1.
use Rattle.std.proofs.Common.{sym, ap, subst, ◌∙◌, arith}
use Rattle.std.proofs.lemmas.Grind.{common_steps}
use Rattle.std.specs.Prelude.{◌≡◌, refl, ℕ, ◌≤◌, List, false, Option, Some, None, Result, Ok, Err, drop, length, nat_lt, take}
use Rattle.com_text.specs.Scanning.{lines_of}
use Rattle.com_read_operands.specs.declared.faults.Fault.{Fault}
use Rattle.com_model.specs.declared.scenario.Scenario.{Scenario}
use Rattle.com_scenario.specs.declared.sizes.SecondVersion.{SecondVersion}
use Rattle.com_scenario.specs.Scenarios.{reading}
use Rattle.com_scenario.specs.Sizes.{ends_so, is_too_long, longest_of, second_version}
use Rattle.com_check.specs.declared.cut.Cut.{Cut}
use Rattle.com_check.specs.declared.cut.Cut.TheVariants as cuts
use Rattle.com_check.specs.Cuts.{cut_of}
use Rattle.com_command_migrate.specs.declared.inputs.Moving.{Moving}
use Rattle.com_command_migrate.specs.Inputs.{IsShort, moving_by, moving_of, with_trace, within_version_1}

-- Where a scenario was read, the header is not of version 2.
no-second : (header : Option SecondVersion) (read : Result Scenario Fault) (trace : Option (List ℕ)) (m : Moving)
    → with_trace (within_version_1 header read) trace ≡ Ok m → header ≡ None
no-second None read trace m e = refl
no-second (Some h) (Ok s) trace m e = cc
no-second (Some h) (Err f) trace m e = cc

trace-in : Result Moving Fault → Option (List ℕ)
trace-in (Ok m) = m.trace
trace-in (Err f) = None

the-trace : (read : Result Scenario Fault) (trace : Option (List ℕ)) (m : Moving) → with_trace read trace ≡ Ok m → trace ≡ m.trace
unfolding trace-in
the-trace (Ok s) trace m e = ap trace-in e
the-trace (Err f) trace m e = cc

within-one : (n : ℕ) → nat_lt 1048576 n ≡ false → n ≤ 1_048_576
within-one n e = grind (arith, common_steps, e)

short-bytes : (bytes : List ℕ) → is_too_long bytes ≡ false → second_version (lines_of bytes) ≡ None → length bytes ≤ 1_048_576
unfolding is_too_long
short-bytes bytes e none =
    within-one (length bytes) (sym (ap (λ (h : Option SecondVersion). nat_lt (longest_of (ends_so h)) (length bytes)) none) ∙ e)

short-drop : (from : ℕ) (bytes : List ℕ) → length bytes ≤ 1_048_576 → length (drop from bytes) ≤ 1_048_576
short-drop from bytes p = grind (arith, common_steps, p)

short-by : (bytes : List ℕ) (cut : Cut) (m : Moving) → is_too_long bytes ≡ false → moving_by bytes cut ≡ Ok m → IsShort m.trace
short-by bytes (cuts.Missing line column) m e r =
    subst IsShort (the-trace (within_version_1 (second_version (lines_of bytes)) (reading bytes)) None m r) tt
short-by bytes (cuts.At until from) m e r =
    let read : Result Scenario Fault = reading (take until bytes) in
    subst IsShort (the-trace (within_version_1 (second_version (lines_of bytes)) read) (Some (drop from bytes)) m r)
    (short-drop from bytes (short-bytes bytes e (no-second (second_version (lines_of bytes)) read (Some (drop from bytes)) m r)))

pub short_trace : (bytes : List ℕ) (m : Moving) → is_too_long bytes ≡ false → moving_of bytes ≡ Ok m → IsShort m.trace
unfolding moving_of
short_trace bytes m e r = short-by bytes (cut_of 0 (lines_of bytes)) m e r
