-- Packets that were given up.
use Rattle.std.specs.Prelude.{ℕ, Bool, false, not, Option, Some, None}
use Rattle.com_refs_books.specs.Changes.{Books, packet}

-- Whether there is such a packet, and it is not outstanding.
abbrev pub gone_in : Books → Option ℕ → Bool
gone_in b None = false
gone_in b (Some p) = not (packet b p).outstanding
