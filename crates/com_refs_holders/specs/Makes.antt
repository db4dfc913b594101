-- What making an object does, with its first place.
use Rattle.std.specs.Prelude.{◌≡◌, ℕ, ◌+◌, Bool, ◌==◌, ◌&&◌, ◌||◌, List, [], ◌∷◌, ◌++◌}
use Rattle.com_refs_books.specs.Changes.{changed, change, Makes}
use Rattle.com_refs_holders.specs.Tables.{Tables, books_of, owns_of, offers}
use Rattle.com_refs_holders.specs.Places.{OneMore}
use Rattle.com_refs_holders.specs.Steps.{made_live, among}

-- First an object with a number, which nobody holds yet: the tables between. Then its first place, of an
-- apartment and an interface.
pub record MadeWithPlace (t u : Tables) (o owner : ℕ) (agile : Bool) (set : List ℕ) (a i : ℕ) : Type 0 where
  pub between : Tables
  pub books : books_of between ≡ made_live o (books_of t)
  pub objects : between.objects ≡ t.objects ++ record { owner = owner; agile = agile; direct = 0 } ∷ []
  pub proxies : between.proxies ≡ t.proxies
  pub offered : (x j : ℕ) → offers between x j ≡ (offers t x j || (x == o && among j set))
  pub counted : between.issued ≡ t.issued + 1
  pub row : books_of u
      ≡ changed (books_of between) (change (owns_of between.objects) (books_of between) (Makes a o i))
  pub places : OneMore between u a o (owns_of between.objects o a)
  pub kept : (x j : ℕ) → offers u x j ≡ offers between x j
  pub issued : u.issued ≡ between.issued + 1
