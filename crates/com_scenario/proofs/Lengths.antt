-- Texts that are too long whatever they say.
use Rattle.std.proofs.Common.{◌≡◌, ℕ, ◌<◌, List, length, Bool, true, false, nat_lt, arith}
use Rattle.com_text.specs.Scanning.{lines_of}
use Rattle.com_scenario.specs.Sizes.{begins_version_2, is_too_long, longest_of}

above_both : (n : ℕ) (is_2 : Bool) → 16777216 < n → nat_lt (longest_of is_2) n ≡ true
above_both n true h = grind (arith, h)
above_both n false h = grind (arith, h)

-- A text with more bytes than version 2 allows.
pub longer_than_all : (text : List ℕ) → 16777216 < length text → is_too_long text ≡ true
unfolding is_too_long
longer_than_all text h = above_both (length text) (begins_version_2 (lines_of text)) h
