use Rattle.std.proofs.Common.{ap, sym, ◌∙◌, Some, take, drop}
use Rattle.com_io.proofs.Lists.{front_and_rest}
use Rattle.com_io.specs.InMemory.{Input}
use Rattle.com_io.proofs.memory.MemorySourceSource.read.Goals as goal

pub returns-clause-taken : goal.returns-clause-taken
returns-clause-taken c =
    ap (λ (s : Input). Some s.left) (sym c.self.view_is)
    ∙ ap Some (sym (front_and_rest c.self.inside.bytes _ c.self.inside.at c.min-count.result
    (c.copy_front.ensures ∙ ap (λ part. take c.min-count.result part)
    (c.split_at.ensures.back ∙ ap (λ bytes. drop c.self.inside.at bytes) c.as_slice.ensures))))
