use Rattle.com_report.proofs.Parts.{object_line_behind}
use Rattle.com_report.proofs.reports.object.Goals as goal

pub returns-clause-ok : goal.returns-clause-ok
returns-clause-ok c =
    rw (
      ← (object_line_behind c.args.text.now.text c.args.number c.args.counts.now),
      ← c.in_ok-word_and_number.ensures.ok,
      ← c.in_ok-word_and_number-2.ensures.ok,
      ← c.in_ok-word_and_number-3.ensures.ok,
      ← c.in_ok-push.ensures.ok,
      ← c.in_ok-push_state.ensures.ok,
      ← c.in_ok-word_and_number-4.ensures.ok,
      ← c.in_ok-word_and_number-5.ensures.ok,
      ← c.in_ok-word_and_number-6.ensures.ok,
      ← c.in_ok-word_and_number-7.ensures.ok,
      ← c.in_ok-word_and_number-8.ensures.ok,
    ) c.push-2.ensures.ok
