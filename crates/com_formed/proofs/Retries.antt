-- The numbers that may answer a retry.
use Rattle.std.proofs.Common.{arith}
use Rattle.std.specs.Prelude.{◌≤ℤ◌, ℤ, pos, negsuc}
use Rattle.std.proofs.lemmas.Int.{ints}
use Rattle.com_base.specs.declared.limits.TheConstants.{LAST_MS}
use Rattle.com_model.specs.Formed.{IsRetryAnswer}

pub answers : (n : ℤ) → negsuc 0 ≤ℤ n → n ≤ℤ pos LAST_MS → IsRetryAnswer n
answers (pos n) low high = omega (arith, ints)
answers (negsuc n) low high = omega (arith, ints)

pub answer_low : (n : ℤ) → IsRetryAnswer n → negsuc 0 ≤ℤ n
answer_low (pos n) h = omega (arith, ints)
answer_low (negsuc n) h = omega (arith, ints)

pub answer_high : (n : ℤ) → IsRetryAnswer n → n ≤ℤ pos LAST_MS
answer_high (pos n) h = omega (arith, ints)
answer_high (negsuc n) h = omega (arith, ints)
