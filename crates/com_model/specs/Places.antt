-- Places: where references are held, and in which apartment.
use Rattle.std.specs.Prelude.{ℕ, ◌+◌, Bool, false, not, ◌==◌, ◌&&◌, if◌then◌else◌, List, Option, Some, None}
use Rattle.std.specs.Prelude.{sum_by}
use Rattle.com_base.specs.declared.value.RefValue.{RefValue}
use Rattle.com_base.specs.declared.value.Value.{Value}
use Rattle.com_model.specs.declared.deeds.Entry.{Entry}
use Rattle.com_model.specs.declared.scenario.Scenario.{Scenario}
use Rattle.com_refs_books.specs.Counting.{sum_below, count_if}
use Rattle.com_model.specs.Lists.{is_number}
use Rattle.com_model.specs.Tables.{threads, lanes}
use Rattle.com_model.specs.Openers.{Opener, Enters, openers}
use Rattle.com_model.specs.Apartments.{home, apartments}
use Rattle.com_model.specs.Objects.{objects, named, owns}
use Rattle.com_model.specs.Calls.{Issue, Admission, Leaving, admitted, left, returned, issue, route_of}
use Rattle.com_model.specs.Calls.{is_direct, calls}
use Rattle.com_model.specs.Frames.{Scene, value_reference}

-- What the places of a moment rest on, beside the scene.
pub record Ground : Type 0 where
  pub openers : ℕ → List Opener
  pub home : ℕ → Option ℕ
  pub apartments : ℕ
  pub objects : ℕ
  pub named : ℕ → ℕ
  pub owns : ℕ → ℕ → Bool
  pub calls : ℕ
  pub issue : ℕ → Option Issue
  pub admitted : ℕ → Option Admission
  pub left : ℕ → Option Leaving
  pub returned : ℕ → Bool

-- What places rest on after a history, beside the scene.
abbrev pub ground : Scenario → List Entry → Ground
ground s h = record {
  openers = openers h;
  home = home s h;
  apartments = apartments h;
  objects = objects h;
  named = named h;
  owns = owns s h;
  calls = calls h;
  issue = issue h;
  admitted = admitted h;
  left = left h;
  returned = returned h;
}

-- References are counted by a test: whether they are to an object, or to an object by an interface.
abbrev pub Test : Type 0
Test = RefValue → Bool

-- Whether a reference is to the object, by any interface.
abbrev pub to_object : ℕ → Test
to_object o r = r.object == o

-- Whether a reference is to the object by this very interface.
abbrev pub to_interface : (object iface : ℕ) → Test
to_interface o i r = r.object == o && r.iface == i

-- 1 for a reference that passes the test, and 0 for one that does not and for null.
abbrev pub passes : Test → Option RefValue → ℕ
passes t None = 0
passes t (Some r) = count_if (t r)

-- How many slots hold a reference that passes the test.
abbrev pub in_slots : Test → List (Option RefValue) → ℕ
in_slots t slots = sum_by (passes t) slots

-- A slot of a script is in the lane's home.
abbrev pub in_scripts : Scenario → Ground → Scene → (apartment : ℕ) → Test → ℕ
in_scripts s g w a t =
    sum_below (threads s + 1) (λ l. if is_number a (g.home l) then in_slots t (w.scripts l).slots else 0)

-- A slot of an open Enter's frame is in the apartment that the Enter names.
abbrev pub in_frame : Scene → (apartment : ℕ) → Test → Opener → ℕ
in_frame w a t (Enters c x b) = if b == a then in_slots t (w.bodies c).slots else 0
in_frame w a t _ = 0

-- How many slots of the bodies open in the apartment, over all lanes, hold a reference that passes the test.
abbrev pub in_bodies : Scenario → Ground → Scene → (apartment : ℕ) → Test → ℕ
in_bodies s g w a t = sum_below (lanes s + 1) (λ l. sum_by (in_frame w a t) (g.openers l))

-- A link is in the apartment that its object's making names.
abbrev pub in_links : Ground → Scene → (apartment : ℕ) → Test → ℕ
in_links g w a t = sum_below (g.objects + 1) (λ x. if g.named x == a then in_slots t (w.cells x).links else 0)

-- The result of a direct call that left and is not back is in the apartment that its Enter named.
abbrev pub entered_in : ℕ → Option Admission → Bool
entered_in a None = false
entered_in a (Some x) = x.apartment == a

-- The result that a body left with; None where it has not left or left without one.
abbrev pub left_value : Option Leaving → Option Value
left_value None = None
left_value (Some x) = x.value

-- 1 where call c is direct and not back, and its body left in the apartment with a result that passes the
-- test; else 0.
abbrev pub in_result : Ground → (apartment : ℕ) → Test → (call : ℕ) → ℕ
in_result g a t c =
    if is_direct (route_of (g.issue c)) && (entered_in a (g.admitted c) && not (g.returned c))
    then passes t (value_reference (left_value (g.left c))) else 0

-- How many results of direct calls that are not back are in the apartment and pass the test.
abbrev pub in_results : Ground → (apartment : ℕ) → Test → ℕ
in_results g a t = sum_below (g.calls + 1) (in_result g a t)

-- How many places of an apartment name a reference that passes the test, and how many one to the object.
abbrev pub places_that : Scenario → Ground → Scene → (apartment : ℕ) → Test → ℕ
places_that s g w a t = in_scripts s g w a t + in_bodies s g w a t + in_links g w a t + in_results g a t

-- How many places of an apartment name the object, by any interface.
abbrev pub places : Scenario → Ground → Scene → (apartment object : ℕ) → ℕ
places s g w a o = places_that s g w a (to_object o)

-- The places in apartments that own the object are direct; all others are proxy places.
abbrev pub direct_places : Scenario → Ground → Scene → (object : ℕ) → ℕ
direct_places s g w o = sum_below g.apartments (λ a. if g.owns o a then places s g w a o else 0)

-- How many places of all apartments name the object, direct ones and proxy places.
abbrev pub all_places : Scenario → Ground → Scene → (object : ℕ) → ℕ
all_places s g w o = sum_below g.apartments (λ a. places s g w a o)
