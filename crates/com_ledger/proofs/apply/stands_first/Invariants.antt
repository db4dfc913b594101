use Rattle.std.proofs.Common.{◌≡◌, take}
use Rattle.com_ledger.proofs.apply.stands_first.Given as goal

abbrev pub invariant-loop-place : goal.invariant-loop-place
invariant-loop-place l = take l.place l.gained ≡ take l.place l.brought
