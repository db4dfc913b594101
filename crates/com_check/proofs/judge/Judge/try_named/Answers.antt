-- try_named
use Rattle.std.proofs.Common.{◌≡◌, true, refl, ap, ◌∙◌, arith, rules}
use Rattle.std.proofs.lemmas.Grind.{common_steps}
use Rattle.com_model.specs.declared.deeds.Entry.{Entry}
use Rattle.com_check.specs.Judging.{entry_line}
use Rattle.com_check.proofs.Judging.{named_written, names_full, names_nobody, when_none}
use Rattle.com_check.proofs.judge.Judge.try_named.Goals as goal

pub returns-then-entries-from-clause-tried : goal.returns-then-entries-from-clause-tried
returns-then-entries-from-clause-tried g c = (refl, names_full _ _ _ first_of (search rules, grind (arith, common_steps)) c.requires.few)

pub returns-in_default-clause-tried : goal.returns-in_default-clause-tried
returns-in_default-clause-tried g c =
    (refl, names_nobody _ _ _ c.requires.reached (when_none _ _ c.lane_of.result c.in_default.not-Some c.lane_of.ensures))

pub returns-clause-tried : goal.returns-clause-tried
returns-clause-tried g c =
    let made : c.in_ok-made.made ≡ true = first_of (search rules, grind (arith, common_steps)) in
    named_written _ _ _ _ _ _ _ _ _ _ c.requires.scenario c.in-Some.ensures made c.in_ok-made.ensures.made c.entries-place.ensures
    (c.in_ok-write.ensures.line ∙ ap (λ (e : Entry). entry_line c.args.scenario.now.version c.entries-place.result e) c.last.ensures)
