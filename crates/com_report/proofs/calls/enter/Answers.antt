use Rattle.std.proofs.Common.{◌++◌, drop, ◌∙◌, append_assoc}
use Rattle.std.specs.Prelude.{codes}
use Rattle.com_model.specs.Text.{values_text}
use Rattle.com_report.proofs.calls.enter.Goals as goal

pub returns-clause-written : goal.returns-clause-written
returns-clause-written c =
    let listed = codes " (" ++ values_text c.as_slice.result.now in
    let values = c.values-at.ensures.written ∙ append_assoc listed (codes ")") (drop c.args.end c.args.room.now) in
    simp (
      append_assoc,
      c.word_and_number.ensures.written,
      c.word_and_number-at-2.ensures.written,
      c.word_and_number-at.ensures.written,
      c.type_word-at.ensures.written,
      values,
      c.as_slice.ensures,
    )
