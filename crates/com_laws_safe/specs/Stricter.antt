-- Clauses that say more than the seven of `Safe`: whom an Enter enters, who drops a packet, where calls are
-- turned away, and what a report adds up to.
use Rattle.std.specs.Prelude.{◌≡◌, ℕ, ◌+◌, true, false, List, Some, None, is_some, option_map, ◌⊎◌}
use Rattle.com_model.specs.declared.deeds.Deed.{Deed}
use Rattle.com_model.specs.declared.deeds.Deed.TheVariants as deed
use Rattle.com_model.specs.declared.deeds.Entry.{Entry}
use Rattle.com_model.specs.declared.counts.Counts.{Counts}
use Rattle.com_model.specs.declared.counts.ObjectState.{ObjectState}
use Rattle.com_model.specs.declared.counts.ObjectState.TheVariants as state
use Rattle.com_model.specs.declared.scenario.Scenario.{Scenario}
use Rattle.com_model.specs.Lists.{first, is_member}
use Rattle.com_model.specs.Openers.{openers}
use Rattle.com_model.specs.declared.keeps.Opener.TheVariants.{Waits}
use Rattle.com_model.specs.Apartments.{serves}
use Rattle.com_model.specs.Objects.{named}
use Rattle.com_model.specs.Calls.{issue, admitted, target, route_of}
use Rattle.com_model.specs.Frames.{act}
use Rattle.com_model.specs.Endings.{ending}
use Rattle.com_refs_books.specs.Changes.{packet}
use Rattle.com_model.specs.Books.{books}
use Rattle.com_model.specs.Deeds.{deed_of}
use Rattle.com_model.specs.Sight.{sight}
use Rattle.com_model.specs.Ends.{counts_of}
use Rattle.com_model.specs.Safe.{EachEntry, EachPrefix, BodyOrScript, MadeOnTop, is_refused_route}

-- An Enter is of the object that its call's Out names, and never of a call that was refused at its issue.
abbrev pub EntersTarget : Scenario → List Entry → ℕ → Deed → Type 0
EntersTarget s h l (deed.Enter c o a t vs) =
    (o ≡ target h c) × (is_refused_route (route_of (issue h c)) ≡ false)
EntersTarget s h l _ = Unit {0}

-- A packet is dropped by a statement of the body on top, or of a script where nothing is open; or by a rule,
-- in a lane whose top is the Out of a call that was not entered and has its answer, and the packet is
-- outstanding and among the call's arguments.
pub record ByStatement (s : Scenario) (h : List Entry) (l : ℕ) (d : Deed) : Type 0 where
  pub on_top : MadeOnTop BodyOrScript (openers h l)
  pub next_action : option_map (deed_of s (sight s h) l) (act s h l) ≡ Some d

pub record ByRule (s : Scenario) (h : List Entry) (l p : ℕ) : Type 0 where
  pub call : ℕ
  pub on_top : first (openers h l) ≡ Some (Waits call)
  pub answered : is_some (ending s h call) ≡ true
  pub not_entered : admitted h call ≡ None
  pub argument : is_member p ((books s h).arguments call) ≡ true
  pub outstanding : (packet (books s h) p).outstanding ≡ true

abbrev pub DropsOwn : Scenario → List Entry → ℕ → Deed → Type 0
DropsOwn s h l (deed.DropPacket (Some p) hr) =
    ByStatement s h l (deed.DropPacket (Some p) hr) ⊎ ByRule s h l p
DropsOwn s h l _ = Unit {0}

-- A call is turned away in its own lane, while its Out is the top, or in a lane that serves its target's
-- apartment.
abbrev pub InPlace : Scenario → List Entry → (lane call : ℕ) → Type 0
InPlace s h l c = (first (openers h l) ≡ Some (Waits c)) ⊎ (serves s h l (named h (target h c)) ≡ true)

abbrev pub TurnsAway : Scenario → List Entry → ℕ → Deed → Type 0
TurnsAway s h l (deed.Verdict c t v) = InPlace s h l c
TurnsAway s h l (deed.Refuse c hr) = InPlace s h l c
TurnsAway s h l _ = Unit {0}

-- The stub's number in a report is the sum of the proxies', the packets' and the tables', and 0 of what is
-- not connected.
abbrev pub NothingUnless : ObjectState → ℕ → Type 0
NothingUnless state.Live n = Unit {0}
NothingUnless state.Disconnected n = n ≡ 0
NothingUnless state.Released n = n ≡ 0

pub record AddsUp (c : Counts) : Type 0 where
  pub sum : c.stub ≡ c.proxies + c.packets + c.tables
  pub connected : NothingUnless c.state c.stub

abbrev pub ReportsAddUp : Scenario → List Entry → Type 0
ReportsAddUp s h = (o : ℕ) → AddsUp (counts_of s h o)

pub record Stricter (s : Scenario) (h : List Entry) : Type 0 where
  pub targets : EachEntry (EntersTarget s) h
  pub drops : EachEntry (DropsOwn s) h
  pub turned_away : EachEntry (TurnsAway s) h
  pub reports : EachPrefix (ReportsAddUp s) h
