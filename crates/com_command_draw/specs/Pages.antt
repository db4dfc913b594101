-- The page of a history, and what is drawn for a scenario.
use Rattle.std.specs.Prelude.{◌≡◌, ℕ, List, [], Some}
use Rattle.std.proofs.Common.{subst, sym}
use Rattle.com_deliveries.specs.declared.Delivery.{Delivery}
use Rattle.com_deliveries.specs.Delivered.{AreDeliveries}
use Rattle.com_model.specs.declared.counts.Ended.{Ended}
use Rattle.com_model.specs.declared.deeds.Entry.{Entry}
use Rattle.com_model.specs.declared.scenario.Scenario.{Scenario}
use Rattle.com_model.specs.Clock.{clock}
use Rattle.com_model.specs.Ends.{all_counts, ended_as, scheduled}
use Rattle.com_waits.specs.Chains.{explanation_of}
use Rattle.com_draw.specs.Pages.{page}
use Rattle.com_commands.specs.declared.statuses.Status.{Status}
use Rattle.com_commands.specs.Statuses.{Concludes, end_concludes, status_at}

-- The page of a history that has ended so, with its own report and, where it is stuck, with what explains it;
-- and with these events marked.
unfoldable pub page_of : Scenario → List Entry → Ended → List Delivery → List ℕ
page_of s h ends events =
    page s h (record {
      counts = all_counts s h;
      clock = clock h;
      ended = ends;
      waits = explanation_of s h;
      events = events;
    })

-- The page of the one history of a scenario, and the status of its end.
pub record IsDrawn (scenario : Scenario) (s : Status) (text : List ℕ) : Type 0 where
  pub ends : Ended
  pub ended_is : ended_as scenario (scheduled scenario) ≡ Some ends
  pub written : text ≡ page_of scenario (scheduled scenario) ends []
  pub status_is : s ≡ status_at ends

-- What is drawn with the events of its sources, one for each call of `fire` that has its Leave.
pub record ArePointsDrawn (scenario : Scenario) (s : Status) (text : List ℕ) : Type 0 where
  pub ends : Ended
  pub ended_is : ended_as scenario (scheduled scenario) ≡ Some ends
  pub events : List Delivery
  pub delivered : AreDeliveries scenario (scheduled scenario) events
  pub written : text ≡ page_of scenario (scheduled scenario) ends events
  pub status_is : s ≡ status_at ends

-- These statuses are those of texts that were written whole.
pub drawn_concludes : (scenario : Scenario) (s : Status) (text : List ℕ) → IsDrawn scenario s text
    → Concludes s
drawn_concludes scenario s text is =
    subst (λ (x : Status). Concludes x) (sym is.status_is) (end_concludes is.ends)

pub points_concludes : (scenario : Scenario) (s : Status) (text : List ℕ) → ArePointsDrawn scenario s text
    → Concludes s
points_concludes scenario s text is =
    subst (λ (x : Status). Concludes x) (sym is.status_is) (end_concludes is.ends)
