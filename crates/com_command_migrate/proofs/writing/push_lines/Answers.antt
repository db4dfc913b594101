use Rattle.std.proofs.Common.{◌≡◌, ◌∷◌, arith, refl, rules}
use Rattle.std.proofs.lemmas.Grind.{common_steps}
use Rattle.com_command_migrate.proofs.Pushed.{goes_on, starts}
use Rattle.com_command_migrate.proofs.writing.push_lines.Goals as goal

pub entries-init : goal.entries-init
entries-init c = starts _ _

pub entries-preserved : goal.entries-preserved
entries-preserved c =
    let cut : c.entries.rest.now ≡ c.in-Some.entry.now ∷ c.in-Some.others.now = first_of (search rules, grind (arith, common_steps)) in
    goes_on _ _ _ _ _ _ _ _ cut refl c.in_ok-line.ensures.ok c.entries.invariant
