use Rattle.std.proofs.Common.{◌≡◌, ◌≤◌, ◌+◌, ◌++◌, ℕ, Bool, filter, drop, length, vec_capacity, vec_len}
use Rattle.std.specs.Prelude.{is_some}
use Rattle.com_refs_books.specs.Counting.{count_if}
use Rattle.com_ledger.specs.Falling.{begins_by, placed_in}
use Rattle.com_refs.specs.Counts.{holders_of}
use Rattle.com_ledger.proofs.dying.DyingScan.find_dying.Given as goal

abbrev pub invariant-loop-object : goal.invariant-loop-object
invariant-loop-object l =
    let test : ℕ → Bool = begins_by l.self.objects.now.tables (holders_of l.self.ledger.now.tables) l.self.entered.now.counts l.self.fallen.now.objects in
    record {
      items : l.fresh.items ++ filter test (placed_in l.left (drop l.object-index l.object-items)) ≡ filter test (placed_in l.fn.other l.object-items);
      len : vec_len l.fresh + count_if (is_some l.left) ≤ l.object-index + 1;
      room : length l.object-items + 1 ≤ vec_capacity l.fresh;
    }
