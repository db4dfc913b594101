use Rattle.std.proofs.Common.{◌≡◌, []}
use Rattle.com_body.specs.Frames.{entered}
use Rattle.com_model.specs.Lists.{tabulated}
use Rattle.com_scene.proofs.readers.new_scripts.Given as goal

abbrev pub invariant-loop : goal.invariant-loop
invariant-loop l = l.scripts.items ≡ tabulated l.counter (λ l'. entered [])
