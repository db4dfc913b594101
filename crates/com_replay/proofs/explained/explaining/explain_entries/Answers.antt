use Rattle.std.proofs.Common.{◌≡◌, true, false, arith, rules}
use Rattle.std.proofs.lemmas.Grind.{common_steps}
use Rattle.com_replay.proofs.Whether.{is_explained, is_stuck_so, not_explained}
use Rattle.com_replay.proofs.explained.explaining.explain_entries.Goals as goal

pub returns-then-not-is_stuck : goal.returns-then-not-is_stuck
returns-then-not-is_stuck c =
    let off : c.args.is_stuck ≡ false = first_of (search rules, grind (arith, common_steps)) in
    not_explained _ _ _ c.requires.stuck off

pub returns : goal.returns
returns c =
    let on : c.args.is_stuck ≡ true = first_of (search rules, grind (arith, common_steps)) in
    is_explained _ _ _ _ c.requires.stuck on
    (c.in_ok-waits.ensures c.requires.lawful.lawful (is_stuck_so _ _ _ c.requires.stuck on))
