use Rattle.std.proofs.Common.{◌≡◌, ◌++◌, ◌+◌, [], length}
use Rattle.com_draw.specs.Entries.{drawn}
use Rattle.com_draw.proofs.Depths.{IsShallow}
use Rattle.com_draw.proofs.Passing.{goes_on, text_of}
use Rattle.com_draw.proofs.pages.push_page.Given as goal

abbrev pub invariant-entries : goal.invariant-entries
invariant-entries l = record {
  picture : goes_on l.scenario l.rest l.drawing ≡ goes_on l.scenario l.entries (drawn l.scenario []);
  text : l.out ++ text_of l.scenario l.rest l.drawing
      ≡ l.initial.out ++ text_of l.scenario l.entries (drawn l.scenario []);
  counted : l.drawing.entries + length l.rest ≡ length l.entries;
  shallow : IsShallow l.drawing;
}

abbrev pub decreases-entries : goal.decreases-entries
decreases-entries l = length l.rest
