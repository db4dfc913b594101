use Rattle.std.proofs.Common.{◌≡◌, [], arith, rules}
use Rattle.std.proofs.lemmas.Grind.{common_steps}
use Rattle.std.proofs.lemmas.Result.{IfOk-weaker}
use Rattle.com_check.proofs.Beside.{more_beside, report_ends, report_over}
use Rattle.com_check.proofs.reports.compare.Goals as goal

pub returns-then-is_empty : goal.returns-then-is_empty
returns-then-is_empty c =
    let none : c.lines.found.now ≡ [] = first_of (search rules, grind (arith, common_steps)) in
    IfOk-weaker c.differs.result _ _ (λ j is. report_ends _ _ _ _ _ _ _ _ j c.lines.invariant.beside c.split_line.ensures.lines none is) c.differs.ensures

pub lines-preserved : goal.lines-preserved
lines-preserved c =
    let same : c.split_line.result.0.now ≡ c.split_line-in-lines.result.0.now = first_of (search rules, grind (arith, common_steps)) in
    record {
      beside = more_beside _ _ _ _ _ _ _ _ _ _ c.lines.invariant.beside c.split_line.ensures.lines c.split_line-in-lines.ensures.lines same;
      fits = omega (arith, c.split_line.ensures.shorter);
    }

pub returns : goal.returns
returns c =
    let none : c.lines.legal.now ≡ [] = first_of (search rules, grind (arith, common_steps)) in
    IfOk-weaker c.differs-2.result _ _ (λ j is. report_over _ _ _ _ _ _ _ _ j c.lines.invariant.beside none c.split_line-2.ensures.lines is) c.differs-2.ensures
