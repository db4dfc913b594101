use Rattle.std.proofs.Common.{◌≡◌, ◌++◌}
use Rattle.com_gen.specs.Loads.{rounds_text, behind_rounds}
use Rattle.com_gen.proofs.push_rounds.Given as goal

abbrev pub invariant-rounds : goal.invariant-rounds
invariant-rounds l = record {
  text : l.text ≡ l.initial.text ++ rounds_text l.before l.initial.words;
  behind : l.words ≡ behind_rounds l.before l.initial.words;
}
