use Rattle.std.proofs.Common.{◌++◌, ap, ◌∙◌, arith}
use Rattle.std.specs.Prelude.{codes}
use Rattle.com_report.proofs.Parts.{values_from_end, widths_from_end}
use Rattle.com_report.proofs.values.later_values.Goals as goal

pub value-digits-requires : goal.value-digits-requires
value-digits-requires c =
    let wide = widths_from_end c.values.rest.now c.in-Some.others.now c.in-Some.last.now c.in-Some.ensures.cases.0 in (omega arith, omega arith)

pub word-at-requires : goal.word-at-requires
word-at-requires c =
    let wide = widths_from_end c.values.rest.now c.in-Some.others.now c.in-Some.last.now c.in-Some.ensures.cases.0 in (omega arith, omega arith)

pub values-preserved : goal.values-preserved
values-preserved c =
    let wide = widths_from_end c.values.rest.now c.in-Some.others.now c.in-Some.last.now c.in-Some.ensures.cases.0 in
    record {
      room = omega arith;
      before = omega arith;
      taken = omega arith;
      text =
          values_from_end c.values.rest.now c.in-Some.others.now c.in-Some.last.now _ _ c.in-Some.ensures.cases.0 (c.word-at.ensures.written ∙ ap (λ t. codes "," ++ t) c.value-digits.ensures.written)
          ∙ c.values.invariant.text;
    }
