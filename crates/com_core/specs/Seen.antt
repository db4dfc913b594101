-- What a contract sees of a core.
use Rattle.std.specs.Prelude.{◌≡◌, ℕ, ◌+◌, Bool, true, false, List}
use Rattle.com_refs_rows.specs.Books.{Held, books_held}
use Rattle.com_model.specs.declared.deeds.Entry.{Entry}
use Rattle.com_model.specs.declared.scenario.Scenario.{Scenario}
use Rattle.com_model.specs.Clock.{ticked}
use Rattle.com_ledger.specs.Ties.{Ties}
use Rattle.com_model.specs.State.{State, first_tables}
use Rattle.com_parts.specs.Tables.{PartTables}
use Rattle.com_core.specs.declared.running.Running.{Running}
use Rattle.com_core.specs.Making.{IsCore, MakesNext}
use Rattle.com_core.specs.Shown.{held_shown, parts_shown}
use Rattle.com_core.specs.Stands.{state_read}

-- The scenario; the parts, who holds references, how many bodies of each object run, the dying objects and
-- the clock in milliseconds.
pub record CoreView : Type 0 where
  pub scenario : Scenario
  pub parts : PartTables
  pub held : Held
  pub entered : List ℕ
  pub fallen : List ℕ
  pub clock : ℕ

-- What a contract sees of a whole core: that, and the entry that it made last.
pub record CoreValue : Type 0 where
  pub core : CoreView
  pub made : Entry

-- All that is kept of a history in a core of a scenario, with the room that calls and references have.
abbrev pub kept_of : Scenario → Running → CoreView
kept_of s r = record {
  scenario = s;
  parts = r.parts;
  held = r.ledger;
  entered = r.entered.counts;
  fallen = r.fallen.objects;
  clock = r.clock;
}

-- A core without what is said of room.
abbrev pub shown : CoreView → CoreView
shown c = record c { parts = parts_shown c.parts; held = held_shown c.held }

-- What a contract sees of a core of a scenario that keeps so much of a history: all but room, which an entry
-- that finds no memory may have taken.
abbrev pub core_of : Scenario → Running → CoreView
core_of s r = shown (kept_of s r)

-- What is kept is as it was, but for room.
pub record IsAsBefore (r u : Running) : Type 0 where
  pub parts : parts_shown u.parts ≡ parts_shown r.parts
  pub held : held_shown u.ledger ≡ held_shown r.ledger
  pub entered : u.entered.counts ≡ r.entered.counts
  pub fallen : u.fallen.objects ≡ r.fallen.objects
  pub clock : u.clock ≡ r.clock

-- The state of the rules that a core is.
abbrev pub core_state : CoreView → State
core_state c = state_read c.scenario c.parts (books_held c.held) c.fallen c.clock

-- A lane's entry was made: one more, with the clock that it tells.
pub record Makes (lane : ℕ) (old new : CoreView) (e : Entry) : Type 0 where
  pub own : e.lane ≡ lane
  pub one : new.parts.entries ≡ old.parts.entries + 1
  pub tells : new.clock ≡ ticked e.deed old.clock

-- The parts of a core are those of its state, to which a legal history comes, and the bodies are counted.
abbrev pub IsWhole : CoreView → Type 0
IsWhole c = IsCore c.scenario (core_state c) c.parts (books_held c.held) c.entered c.fallen c.clock

-- The entry is the next one of its lane in the core's state, and all has become what it is in the state after
-- it: the books, where the ledger was tied to the state.
abbrev pub Steps : (lane : ℕ) → (old new : CoreView) → Entry → Type 0
Steps lane old new e =
    MakesNext old.scenario (core_state old) old.parts new.parts old.held new.held old.entered new.entered
    old.fallen new.fallen old.clock lane e.deed

-- What a core keeps has come to this by an entry of a lane: that is the lane's next one, all has changed by it,
-- and the clock is what the entry tells.
pub record TurnsTo (s : Scenario) (lane : ℕ) (old new : Running) (e : Entry) : Type 0 where
  pub own : e.lane ≡ lane
  pub tells : new.clock ≡ ticked e.deed old.clock
  pub steps : Steps lane (kept_of s old) (kept_of s new) e

-- A lane was tried: it made its next entry, or all is as it was but for room.
abbrev pub TriesTo : Scenario → (lane : ℕ) → (can : Bool) → (old new : Running) → Entry → Type 0
TriesTo s lane true old new e = TurnsTo s lane old new e
TriesTo s lane false old new e = IsAsBefore old new

-- A core is whole, and its ledger is tied to its state.
pub record IsKept (c : CoreView) : Type 0 where
  pub whole : IsWhole c
  pub ties : Ties c.scenario (core_state c) c.held

-- A core before its first entry: its state is the first one of the scenario, its parts are those of it, and
-- so are its books.
pub record IsFirst (s : Scenario) (c : CoreView) : Type 0 where
  pub state : core_state c ≡ first_tables s
  pub whole : IsWhole c
  pub ties : Ties s (first_tables s) c.held
