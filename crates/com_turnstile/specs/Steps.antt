-- What each kind of step does to the one view that it changes. There are eight kinds: to load the tickets, to
-- draw a ticket, to load the ticket that is served, to take the value, to put it back, to publish its new
-- entries, to advance the ticket that is served, and to split a seat. The first, the fourth and the fifth
-- change no view, and have no definition here: a load that tells nothing, and two exchanges of what lies in
-- the slot while the seat holds it.
use Rattle.std.specs.Prelude.{◌≡◌, ◌≢◌, ℕ, ◌+◌, true, false, List, [], ◌∷◌, ◌++◌, Option, Some, None}
use mathlib.Core.List.{IsPrefix}
use Rattle.atomic_table.specs.Table.{Me, Step, rest}
use Rattle.com_turnstile.specs.declared.view.View.{View}
use Rattle.com_turnstile.specs.Entries.{of_lane}

module _ {E : Type 0} where
  -- it has drawn this ticket
  abbrev pub with_ticket : View E → ℕ → View E
  with_ticket v t = record v { ticket = Some t }

  -- it has its turn, and has seen this list
  abbrev pub in_turn : View E → List E → View E
  in_turn v entries = record v { turn = true; seen = entries }

  -- the new entries join what it has seen, and those of its lane join its own
  abbrev pub with_more : (E → ℕ) → View E → List E → View E
  with_more lane v more = record v { seen = v.seen ++ more; mine = v.mine ++ of_lane lane v.number more }

  -- its turn is over, and its ticket is used up
  abbrev pub at_rest : View E → View E
  at_rest v = record v { ticket = None; turn = false }

  -- it may not be split any more
  abbrev pub no_splitter : View E → View E
  no_splitter v = record v { splits = false }

  -- the view of the seat that is split off: the next number, the opening list, and no ticket
  abbrev pub next_view : View E → View E
  next_view v = record {
    number = v.number + 1;
    splits = true;
    ticket = None;
    turn = false;
    opening = v.opening;
    seen = v.opening;
    mine = [];
  }

-- a seat's view, and the slots that it holds
abbrev pub Holder : Type 0 → Type 0 → Type 0
Holder T E = Me (Option T) (View E)

module _ {T E : Type 0} where
  -- Draw: the seat has the ticket if the word was as expected, and else nothing has changed
  abbrev pub drew : Step (Option T) → Holder T E → ℕ → Holder T E → Type 0
  drew st before found after =
      (found ≡ st.first → after ≡ (with_ticket before.0 st.first, before.1))
      × (found ≢ st.first → after ≡ before)

  -- The seat holds the slot, with a value. The value's list begins with what the seat had seen, and after the
  -- opening list it has of the seat's lane just the seat's own entries
  pub record Entered (list : T → List E) (lane : E → ℕ) (before after : Holder T E) : Type 0 where
    pub value : T
    pub later : List E
    pub listed : list value ≡ before.0.opening ++ later
    pub begins : IsPrefix before.0.seen (list value)
    pub own : of_lane lane before.0.number later ≡ before.0.mine
    pub now : after ≡ (in_turn before.0 (list value), (0, Some value) ∷ before.1)

  -- Load the ticket that is served: if it is the seat's, the seat has entered, and else nothing has changed
  abbrev pub served : (T → List E) → (E → ℕ) → Step (Option T) → Holder T E → ℕ → Holder T E → Type 0
  served list lane st before found after =
      (before.0.ticket ≡ Some found → Entered list lane before after)
      × (before.0.ticket ≢ Some found → after ≡ before)

  -- Publish: the new entries of the value that the seat holds join its view
  abbrev pub published : (T → List E) → (E → ℕ) → Step (Option T) → Holder T E → ℕ → Holder T E → Type 0
  published list lane st before found after =
      (x : T) (more : List E) → before.1 ≡ (0, Some x) ∷ [] → list x ≡ before.0.seen ++ more
      → after ≡ (with_more lane before.0 more, before.1)

  -- Advance: the slot is at home, and the seat has neither turn nor ticket
  abbrev pub advanced : Step (Option T) → Holder T E → ℕ → Holder T E → Type 0
  advanced st before found after = after ≡ (at_rest before.0, rest before.1)
