use Rattle.std.proofs.Common.{◌≡◌, ◌++◌}
use Rattle.com_gen.specs.Loads.{scripts_text, behind_scripts}
use Rattle.com_gen.proofs.push_scripts.Given as goal

abbrev pub invariant-scripts : goal.invariant-scripts
invariant-scripts l = record {
  text : l.text ≡ l.initial.text ++ scripts_text l.before l.initial.words;
  behind : l.words ≡ behind_scripts l.before l.initial.words;
}
