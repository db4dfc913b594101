use Rattle.com_threads.proofs.Counting.{none_written_yet}
use Rattle.com_threads.proofs.pages.Pages.new.Goals as goal

pub invariant_of-result : goal.invariant_of-result
invariant_of-result c = none_written_yet _ _ _ c.new-entries.ensures.items (c.in_ok-commits.ensures.items_if_clones_equal (λ y h. h))
