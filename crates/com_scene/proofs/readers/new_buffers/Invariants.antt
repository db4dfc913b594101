use Rattle.std.proofs.Common.{◌≡◌, []}
use Rattle.com_model.specs.Lists.{tabulated}
use Rattle.com_scene.proofs.readers.new_buffers.Given as goal

abbrev pub invariant-loop : goal.invariant-loop
invariant-loop l = l.buffers.items ≡ tabulated l.counter (λ b. [])
