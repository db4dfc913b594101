-- No entry of a legal history takes what is not there.
use Rattle.std.specs.Prelude.{◌≡◌, ℕ, Bool, false, List, [], ◌∷◌}
use Rattle.com_refs_books.specs.Changes.{Books, cookie, Row, changed, change}
use Rattle.com_model.specs.declared.deeds.Entry.{Entry}
use Rattle.com_model.specs.declared.scenario.Scenario.{Scenario}
use Rattle.com_model.specs.Lists.{number_or_zero}
use Rattle.com_model.specs.Apartments.{apartments, running}
use Rattle.com_model.specs.Objects.{owns}
use Rattle.com_model.specs.Frames.{act}
use Rattle.com_model.specs.Endings.{ending, is_leave}
use Rattle.com_model.specs.Books.{books}
use Rattle.com_model.specs.Rules.{legal}
use Rattle.com_model.specs.Safe.{EachEntry}
use Rattle.com_laws_safety.proofs.Caused.{each-next}
use Rattle.com_laws_amounts.specs.Amounts.{CoversRows, rows_of, after_rows, places_after, IsCovered, NothingOverdrawn}
use Rattle.com_laws_amounts.proofs.Enough.{Enough, covers, change-sound, row-enough, after-enough, covers-returns, enough}
use Rattle.com_laws_amounts.proofs.Standing.{StandsIf, stands, StandAt, never-stands, rows-stand}

covers-rows : (owned : ℕ → ℕ → Bool) (b : Books) (rs : List Row) → StandAt b rs → Enough b → CoversRows owned b rs
covers-rows owned b [] t e = tt
covers-rows owned b (r ∷ rs) t e = (
  covers b (change owned b r) (change-sound (λ g. (cookie b g).is_revoked ≡ false) owned b r t.0) e,
  covers-rows owned (changed b (change owned b r)) rs (never-stands (changed b (change owned b r)) rs t.1) (row-enough owned b r e),
)

covered : (s : Scenario) (h : List Entry) (e : Entry) → StandsIf (books s h) e.deed → IsCovered s h e
covered s h e t = record {
  rows =
      covers-rows (owns s (e ∷ h)) (books s h) (rows_of s h e)
      (rows-stand s (act s h e.lane) (λ c. is_leave (ending s h c)) (books s h) (number_or_zero (running s h e.lane)) e.deed t) (enough s h);
  returns = covers-returns (apartments (e ∷ h)) (places_after s (e ∷ h)) (after_rows s h e) (after-enough s h e (enough s h));
}

pub legal-covered : (s : Scenario) (h : List Entry) → legal s h → EachEntry (NothingOverdrawn s) h
legal-covered s = each-next s (NothingOverdrawn s) (λ h l d p z. covered s h (record { lane = l; deed = d }) (stands s h l d z))
