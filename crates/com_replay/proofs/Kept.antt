-- Lines that were written.
use Rattle.std.proofs.Common.{◌≡◌, ℕ, List, [], ◌++◌, Option, ◌∙◌, append-nil, subst}
use Rattle.com_io.specs.Told.{Gains, GainsPrefix}
use Rattle.com_runtime.specs.Turns.{GoesOn}

-- A line that was written with all that was kept before it.
pub goes_on_sent : (old new : Option (List ℕ)) (kept line all rest : List ℕ) → all ≡ kept ++ line → rest ≡ [] → Gains old new all → GoesOn old new kept rest line
goes_on_sent old new kept line all rest e none gained = record { written = all; gained = gained; parts = rw none (append-nil all ∙ e) }

pub sent_prefix : (old new : Option (List ℕ)) (all kept line : List ℕ) → all ≡ kept ++ line → GainsPrefix old new all → GainsPrefix old new (kept ++ line)
sent_prefix old new all kept line e h = subst (λ (t : List ℕ). GainsPrefix old new t) e h

-- A line that was written where nothing was kept.
pub goes_on_alone : (old new : Option (List ℕ)) (kept line all : List ℕ) → kept ≡ [] → all ≡ line → Gains old new all → GoesOn old new kept kept line
goes_on_alone old new kept line all none e gained = record { written = all; gained = gained; parts = rw none (append-nil all ∙ e) }

pub alone_prefix : (old new : Option (List ℕ)) (all kept line : List ℕ) → kept ≡ [] → all ≡ line → GainsPrefix old new all → GainsPrefix old new (kept ++ line)
alone_prefix old new all kept line none e h = rw none (subst (λ (t : List ℕ). GainsPrefix old new t) e h)
