use Rattle.com_calls.proofs.Entries.{entered_after_taking}
use Rattle.com_calls.proofs.laws.values_are_taken_first.Goals as goal

pub returns : goal.returns
returns c = λ o m i t l k x a n vs. entered_after_taking o m i t l k x a n vs
