use Rattle.com_laws_faults.proofs.Bites.{end_fails, blame_fails, bytes_fail, length_fails}
use Rattle.com_laws_faults.proofs.wrong_readers_fail.Goals as goal

pub returns : goal.returns
returns c = record { at_the_end = end_fails; blames = blame_fails; bytes_first = bytes_fail; length_first = length_fails }
