-- What stands where no entry was made: the report's line, or none.
use Rattle.std.proofs.Common.{refl, sym, ◌∙◌}
use Rattle.std.proofs.lemmas.Result.{IfOk-weaker}
use Rattle.com_runtime.proofs.Limits.{not-some}
use Rattle.com_check.proofs.Judging.{last_other, last_told, none_legal}
use Rattle.com_check.proofs.judge.judge_unmade.Goals as goal

pub returns-in-Some : goal.returns-in-Some
returns-in-Some g c =
    IfOk-weaker c.judge_report.result _ _ (λ j told last. last_told _ _ last _ _ _ j (sym c.end_of.ensures ∙ c.in-Some.is) told) c.judge_report.ensures

pub returns : goal.returns
returns g c =
    let goes = sym c.end_of.ensures ∙ not-some c.end_of.result c.in_default.not-Some in
    IfOk-weaker c.differs.result _ _
    (λ j is last. last_other _ _ _ last _ _ j refl goes (none_legal _ _ last _ _ j c.requires.none goes c.entries.ensures is))
    c.differs.ensures
