-- The end of an entry: what apartments without place give back, and what has no holder is cut.
use Rattle.std.specs.Prelude.{ℕ, ◌+◌, Bool, not, ◌==◌, ◌&&◌}
use Rattle.com_refs_books.specs.Counting.{sum_below}
use Rattle.com_refs_books.specs.Changes.{Books, given_back, cut, held_outside}

-- The holders of an object: its places in all apartments, and the packets and cookies that hold it.
abbrev pub holders_by : ℕ → (ℕ → ℕ → ℕ) → Books → ℕ → ℕ
holders_by n places b o = sum_below n (λ a. places a o) + held_outside b o

-- What is connected and has a holder.
abbrev pub stays : ℕ → (ℕ → ℕ → ℕ) → Books → ℕ → Bool
stays n places b o = b.live o && not (holders_by n places b o == 0)

-- The books at the end of an entry, where so many apartments have these places.
unfoldable pub ends : ℕ → (ℕ → ℕ → ℕ) → Books → Books
ends n places b = cut (stays n places b) (given_back n places b)
