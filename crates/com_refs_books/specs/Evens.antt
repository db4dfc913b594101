-- The books are even where each stub counts what proxies, packets and cookies hold. Each change keeps them
-- so.
use Rattle.std.specs.Prelude.{◌≡◌, ℕ, Bool, true, ◌<◌, ◌≤◌}
use Rattle.com_refs_books.specs.Changes.{Books, packet, Change, ToProxy, Split, Join, Return, changed, given_back}
use Rattle.com_refs_books.specs.Changes.{cut, held}

-- Each stub counts what the proxies, packets and cookies hold of it. Apartments are numbered below n.
pub record Even (n : ℕ) (b : Books) : Type 0 where
  pub equal : (o i : ℕ) → b.stub o i ≡ held n b o i
  pub past : (a o i : ℕ) → n ≤ a → b.proxy a o i ≡ 0

-- What a change needs: an apartment that there is, references that the proxy has, a packet that is
-- outstanding.
abbrev pub Fits : ℕ → Books → Change → Type 0
Fits n b (ToProxy a o i m) = a < n
Fits n b (Split a o i m) = (a < n) × (m ≤ b.proxy a o i)
Fits n b (Join a p) = (a < n) × ((packet b p).outstanding ≡ true)
Fits n b (Return p) = (packet b p).outstanding ≡ true
Fits n b _ = Unit {0}

-- Each change that fits, what is given back, the cut, and more apartments leave even books even.
pub record StaysEven : Type 0 where
  pub changed : (n : ℕ) (b : Books) (c : Change) → Fits n b c → Even n b → Even n (changed b c)
  pub given_back : (n : ℕ) (places : ℕ → ℕ → ℕ) (b : Books) → Even n b → Even n (given_back n places b)
  pub cut : (n : ℕ) (live : ℕ → Bool) (b : Books) → Even n b → Even n (cut live b)
  pub more : (n m : ℕ) (b : Books) → n ≤ m → Even n b → Even m b
