use Rattle.std.proofs.Common.{arith}
use Rattle.com_check.proofs.Cutting.{line_is_ranges, last_line_is_range}
use Rattle.com_check.proofs.lines.split_line.Goals as goal

pub returns-then-count-text-clause-lines : goal.returns-then-count-text-clause-lines
returns-then-count-text-clause-lines c =
    line_is_ranges _ _ (omega arith) c.line_length-count.ensures.before c.line_length-count.ensures.end

pub returns-else-count-text-clause-lines : goal.returns-else-count-text-clause-lines
returns-else-count-text-clause-lines c =
    last_line_is_range _ _ c.requires c.line_length-count.ensures.within (omega arith) c.line_length-count.ensures.before
