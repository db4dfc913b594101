-- The fault that a reader met is that of the line's form.
use Rattle.std.proofs.Common.{ap, sym, ◌∙◌}
use Rattle.std.specs.Prelude.{◌≡◌, ℕ, Option, Result, Ok, Err, IfOk}
use Rattle.com_read_operands.specs.declared.faults.Fault.{Fault}
use Rattle.com_read_operands.specs.declared.faults.ScenarioError.{ScenarioError}
use Rattle.com_read_operands.specs.declared.faults.ScenarioError.TheVariants as errors
use Rattle.com_read_operands.specs.Reading.{Fails}
use Rattle.com_points.specs.declared.source_text.heads.Cut.{Cut}
use Rattle.com_points.specs.Heads.{IsCut, cut_at}

cut-is : {A : Type 0} (k : ℕ) (error : ScenarioError) (read : Result A Fault) (rest cut : Option Cut) → Fails error read → IsCut k error cut
    → cut ≡ cut_at k read rest
cut-is k errors.Memory read rest cut fails is = absurd is
cut-is {A} k (errors.Fault n l c) read rest cut fails is = is ∙ sym (ap (λ (r : Result A Fault). cut_at k r rest) fails)

pub cut_found : {A E : Type 0} (k : ℕ) (error : ScenarioError) (read : Result A Fault) (rest : Option Cut) (r : Result (Option Cut) E) → Fails error read
    → IfOk r (λ cut. IsCut k error cut) → IfOk r (λ cut. cut ≡ cut_at k read rest)
cut_found k error read rest (Ok cut) fails is = cut-is k error read rest cut fails is
cut_found k error read rest (Err e) fails is = tt
