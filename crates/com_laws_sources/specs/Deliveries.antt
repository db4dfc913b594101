-- One event of a source in a history: which sinks get it, and in which order.
use Rattle.std.specs.Prelude.{◌≡◌, ℕ, true, ◌+◌, ◌≤◌, List, [], ◌∷◌, ◌⊎◌}
use Rattle.com_model.specs.declared.deeds.Deed.{Deed}
use Rattle.com_model.specs.declared.deeds.Deed.TheVariants as deed
use Rattle.com_model.specs.declared.deeds.Entry.{Entry}
use Rattle.com_model.specs.declared.scenario.Scenario.{Scenario}
use Rattle.com_model.specs.declared.keeps.Opener.TheVariants.{Enters}
use Rattle.com_model.specs.Openers.{openers}
use Rattle.com_model.specs.Objects.{class_of}
use Rattle.com_model.specs.Calls.{issue}
use Rattle.com_laws_sources.specs.Histories.{is_on, Takes, change, sinks, taken, last, reached, visited}
use Rattle.com_laws_sources.specs.Kept.{Rising}
use Rattle.com_laws_sources.specs.Servers.{Stands}
use Rattle.com_laws_sources.specs.Sinks.{Sink}
use Rattle.com_laws_sources.specs.Sources.{IsSource, fire}

-- A sink stands among these.
abbrev pub Held : Sink → List Sink → Type 0
Held x [] = ⊥
Held x (y ∷ ys) = (y ≡ x) ⊎ Held x ys

-- The call is one of `fire` on an object of a source, whose interface has this number.
pub record IsEvent (s : Scenario) (h : List Entry) (object iface call : ℕ) : Type 0 where
  pub source : IsSource s (class_of h object) iface
  pub fires : is_on (issue h call) object iface fire ≡ true

-- The cookies of the sinks that got an event rise, and none is above the last cookie of the call: none got it
-- twice, and none that was advised after the call was entered got it.
abbrev pub InOrder : List Entry → Type 0
InOrder h = (o i c : ℕ) → Rising 0 (last h o i c) (visited h o i c)

-- A sink that the source still keeps, and whose turn in an open event is past, got it.
abbrev pub NonePassed : Scenario → List Entry → Type 0
NonePassed s h =
    (l c o a i : ℕ) (x : Sink) → Stands (Enters c o a) (openers h l) → IsEvent s h o i c
    → Held x (sinks h o i)
    → x.cookie ≤ reached (visited h o i c) → Held x (visited h o i c)

-- Where the body leaves, each sink that was advised before the call was entered, and that the source still
-- keeps, got the event.
abbrev pub AllGot : Scenario → List Entry → ℕ → Deed → Type 0
AllGot s h l (deed.Leave c hr v bytes) =
    (o i : ℕ) (x : Sink) → IsEvent s h o i c → Held x (sinks h o i) → x.cookie ≤ last h o i c
    → Held x (visited h o i c)
AllGot s h l _ = Unit {0}

-- Each sink is taken under a cookie that is one more than the number of those that were taken before.
abbrev pub TakesNext : Scenario → List Entry → ℕ → Deed → Type 0
TakesNext s h l d =
    (o i : ℕ) (x : Sink) → IsSource s (class_of h o) i → change h o i d ≡ Takes x → x.cookie ≡ taken h o i + 1
