use Rattle.std.proofs.Common.{◌≡◌, ◌++◌, length, map, All}
use Rattle.com_print.specs.Spelled.{more_text}
use Rattle.com_print.specs.Words.{arg_word}
use Rattle.com_print.specs.Ranges.{FitsArg}
use Rattle.com_print.proofs.statements.calling.push_args.Given as goal

abbrev pub invariant-given : goal.invariant-given
invariant-given l = record {
  text : l.out ++ more_text (map arg_word l.rest) ≡ l.initial.out ++ more_text (map arg_word l.args);
  fits : All FitsArg l.rest → All FitsArg l.args;
}

abbrev pub decreases-given : goal.decreases-given
decreases-given l = length l.rest
