use Rattle.std.proofs.Common.{◌++◌, ◌∙◌, ap}
use Rattle.com_gen.specs.Loads.{script_text}
use Rattle.com_gen.proofs.Growing.{no_scripts, behind_no_scripts, more_scripts, behind_more_scripts}
use Rattle.com_gen.proofs.push_scripts.Goals as goal

pub scripts-init : goal.scripts-init
scripts-init c = record { text = no_scripts _ _; behind = behind_no_scripts _ }

pub scripts-preserved : goal.scripts-preserved
scripts-preserved c = record {
  text = more_scripts _ _ _ _ _ c.scripts.invariant.behind
      (c.in_ok-push_script.ensures.text ∙ ap (λ t. t ++ script_text c.scripts.words) c.scripts.invariant.text);
  behind = behind_more_scripts _ _ _ _ c.scripts.invariant.behind c.in_ok-push_script.ensures.behind;
}
