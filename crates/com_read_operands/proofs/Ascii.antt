-- Bytes that are all ASCII are text.
use Rattle.std.proofs.Common.{◌≡◌, ℕ, List, true}
use Rattle.std.specs.List.{list_all}
use Rattle.std.specs.Char.{is_ascii}
use Rattle.std.specs.Str.{IsUtf8}
use Rattle.std.proofs.lemmas.Str.{IsUtf8-from_ascii}
use Rattle.std.proofs.lemmas.Str.Ascii.{IsAscii-from_all}
use Rattle.std.proofs.lemmas.List.Sums.{AllPass-from_list_all}
use borrow.Author.Tests.{ltb-true}

pub ascii_text : (bs : List ℕ) → list_all is_ascii bs ≡ true → IsUtf8 bs
ascii_text bs h = IsUtf8-from_ascii bs (IsAscii-from_all bs (λ k d lt. ltb-true _ _ (AllPass-from_list_all is_ascii bs h k d lt)))
