-- What is longer than a limit.
use Rattle.std.specs.Prelude.{◌≡◌, ℕ, ◌<◌, List, length, true, nat_lt}
use Rattle.std.proofs.lemmas.Bool.{lt-ltb}

-- That a text of more bytes than the limit is also found to be longer by comparing the two numbers.
pub long_text : (limit : ℕ) (bytes : List ℕ) → limit < length bytes → nat_lt limit (length bytes) ≡ true
long_text limit bytes h = lt-ltb limit (length bytes) h
