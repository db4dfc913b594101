use Rattle.std.proofs.Common.{◌≡◌, ◌+◌, ◌-◌, drop}
use Rattle.com_text.specs.Scanning.{lines_from, seen}
use Rattle.com_text.specs.Kept.{IsKept}
use Rattle.com_text.specs.Runs.{between}
use Rattle.com_text.proofs.line.take_odd.Given as goal

abbrev pub invariant-loop-i : goal.invariant-loop-i
invariant-loop-i l = record {
  kept : IsKept l.text l.i l.s;
  line : l.s.line ≡ l.line;
  column : l.s.column ≡ (l.i + 1) - l.at;
  lines : lines_from (seen l.text l.i l.s) l.words.items (drop l.i l.text) ≡ lines_from (between l.line ((l.from + 1) - l.at) l.from) l.fn.words.items (drop l.from l.text);
}
