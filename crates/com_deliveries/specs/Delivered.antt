-- The events of a history: to which sinks the Outs of each went.
use Rattle.std.specs.Prelude.{◌≡◌, ℕ, true, ◌<◌, List, [], ◌∷◌, ◌⊎◌, All, map, is_some}
use Rattle.com_deliveries.specs.declared.Delivery.{Delivery}
use Rattle.com_model.specs.declared.deeds.Entry.{Entry}
use Rattle.com_model.specs.declared.scenario.Scenario.{Scenario}
use Rattle.com_model.specs.Calls.{left}
use Rattle.com_laws_sources.specs.Deliveries.{IsEvent}
use Rattle.com_laws_sources.specs.Histories.{visited}
use Rattle.com_laws_sources.specs.Sinks.{Sink}

abbrev pub cookie_of : Sink → ℕ
cookie_of x = x.cookie

-- A call of `fire` on an object of a source that has its Leave, with the cookies of the sinks to which its
-- Outs went, in their order.
pub record IsDelivery (s : Scenario) (h : List Entry) (d : Delivery) : Type 0 where
  pub iface : ℕ
  pub event : IsEvent s h d.object iface d.call
  pub left : is_some (left h d.call) ≡ true
  pub cookies : d.cookies ≡ map cookie_of (visited h d.object iface d.call)

-- The numbers of the calls rise.
abbrev pub CallsRise : (before : ℕ) → List Delivery → Type 0
CallsRise before [] = Unit {0}
CallsRise before (d ∷ ds) = (before < d.call) × CallsRise d.call ds

-- The call is that of one of these.
abbrev pub IsListed : (call : ℕ) → List Delivery → Type 0
IsListed c [] = ⊥
IsListed c (d ∷ ds) = (d.call ≡ c) ⊎ IsListed c ds

-- The events of a history, one for each call of `fire` on a source that has its Leave, by call number.
pub record AreDeliveries (s : Scenario) (h : List Entry) (ds : List Delivery) : Type 0 where
  pub each : All (IsDelivery s h) ds
  pub rise : CallsRise 0 ds
  pub all : (o i c : ℕ) → IsEvent s h o i c → is_some (left h c) ≡ true → IsListed c ds
