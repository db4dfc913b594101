use Rattle.std.proofs.Common.{ℕ, ◌+◌, ◌∙◌, ap}
use Rattle.std.proofs.lemmas.Result.{IfOk-weaker}
use Rattle.com_check.specs.Judging.{entry_line, without_end}
use Rattle.com_check.proofs.Judging.{early_by}
use Rattle.com_check.proofs.judge.Judge.early.Goals as goal

pub returns : goal.returns
returns g c =
    let line = c.without_end.ensures ∙ ap without_end c.as_slice.ensures ∙ c.in_ok-write.ensures.line ∙ ap (λ (v : ℕ). entry_line v (c.entries-place.result + 1) c.in_ok-entry.entry) c.requires.version in
    IfOk-weaker c.differs.result _ _
    (λ j is. early_by _ _ _ _ _ c.in_ok-entry.entry _ j c.in_ok-entry.ensures (ap (λ (n : ℕ). n + 1) c.entries-place.ensures) line is)
    c.differs.ensures
