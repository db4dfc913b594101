-- A stream before its first entry.
use Rattle.com_replay.proofs.Streaming.{ready_first, stands_first}
use Rattle.com_replay.proofs.stream.Stream.new.Goals as goal

pub invariant_of-result : goal.invariant_of-result
invariant_of-result c =
    rw c.in_ok-playing.ensures (ready_first _ _ _ _ c.requires.formed c.in_ok-core.ensures.scenario c.in_ok-core.ensures.first.state c.new-course.ensures.tried c.new-course.ensures.last c.new-course.ensures.lines)

pub returns-clause-stands : goal.returns-clause-stands
returns-clause-stands c =
    rw c.in_ok-playing.ensures (stands_first _ _ _ _ c.in_ok-core.ensures.first.state c.new-course.ensures.tried c.new-course.ensures.last)
