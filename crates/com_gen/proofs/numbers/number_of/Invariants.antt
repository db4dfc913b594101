use Rattle.std.proofs.Common.{◌≡◌, ◌≤◌, drop}
use Rattle.com_gen.specs.Numbers.{number_behind}
use Rattle.com_gen.proofs.numbers.number_of.Given as goal

abbrev pub invariant-digits : goal.invariant-digits
invariant-digits l = record {
  small : l.value ≤ 1_000_000;
  number : number_behind l.value (drop l.digit-index l.word) ≡ number_behind 0 l.word;
}
