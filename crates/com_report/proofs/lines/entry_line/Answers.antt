use Rattle.std.proofs.Common.{length, arith}
use Rattle.std.proofs.lemmas.List.{drop_all}
use Rattle.com_report.proofs.Whole.{line_whole}
use Rattle.com_report.proofs.lines.entry_line.Goals as goal

pub returns-clause-written : goal.returns-clause-written
returns-clause-written c =
    line_whole c.args.version c.args.place c.args.entry.now.lane c.args.entry.now.deed _ _ _ _ _ c.number.ensures.written c.word_and_number-at.ensures.written c.deed-at.ensures.written c.word-at.ensures.written
    (drop_all (length c.args.room.now) c.args.room.now (omega arith))
