-- What the bodies of a source answer, each by itself.
use Rattle.std.specs.Prelude.{◌≡◌, ℕ, ◌+◌, ◌*◌, ℤ, pos, List, [], ◌∷◌, Option, Some, None}
use Rattle.com_base.specs.declared.hresult.HResult.{HResult}
use Rattle.com_base.specs.declared.value.RefValue.{RefValue}
use Rattle.com_base.specs.declared.value.Value.{Value}
use Rattle.com_base.specs.declared.value.Value.TheVariants as value
use Rattle.com_body.specs.declared.operands.Destination.TheVariants as destination
use Rattle.com_body.specs.declared.actions.Action.TheVariants as action
use Rattle.com_body.specs.declared.frame.Cells.{Cells}
use Rattle.com_body.specs.declared.frame.Outcome.{Outcome}
use Rattle.com_body.specs.Frames.{FrameView, entered}
use Rattle.com_laws_sources.specs.Bodies.{ok, fire_body}
use Rattle.com_laws_sources.specs.Alone.{alone}
use Rattle.com_laws_sources.specs.Sinks.{Sink}
use Rattle.com_laws_sources.specs.Kept.{Keeps}

abbrev pub number : ℕ → Value
number n = value.Int (pos n)

-- The body leaves with this answer and result, and the cells keep these sinks then.
pub record Leaves (r : Outcome) (hr : HResult) (given : Option Value) (sinks : List Sink)
    (last : ℕ) : Type 0 where
  pub action : r.action ≡ action.Leave hr given
  pub keeps : Keeps r.cells sinks last

-- A frame of `fire` with so many events behind it, before it looks for the next sink: the argument, the last
-- cookie that was given when the body began, and the cookie that was reached, 0 before the first event.
abbrev pub round_place : ℕ → ℕ
round_place sent = 3 + 27 * sent

pub record AtRound (f : FrameView) (sent : ℕ) (event : Value) (last reached : ℕ) : Type 0 where
  pub first : Value
  pub second : Value
  pub third : Value
  pub others : List Value
  pub slot : Option RefValue
  pub slots : List (Option RefValue)
  pub is : f ≡ record {
    place = round_place sent;
    registers = event ∷ first ∷ second ∷ third ∷ number last ∷ number reached ∷ number sent ∷ others;
    slots = slot ∷ slots;
  }

-- What `fire` does first comes to what it does from the first round, whose frame has the cookie that was
-- given last.
pub record Begins (c : Cells) (n : ℤ) (last : ℕ) : Type 0 where
  pub frame : FrameView
  pub at_round : AtRound frame 0 (value.Int n) last 0
  pub same : alone fire_body 1 (entered (value.Int n ∷ [])) c ≡ alone fire_body 1 frame c

-- The body calls `ICounter.add` with its argument on this sink, and goes on behind it.
pub record Sends (r : Outcome) (sent : ℕ) (event : Value) (last : ℕ) (to : Sink) (sinks : List Sink)
    (given : ℕ) : Type 0 where
  pub action : r.action ≡ action.Call to.held 1 0 (event ∷ []) (destination.Register 7)
  pub keeps : Keeps r.cells sinks given
  pub next : AtRound r.frame (sent + 1) event last to.cookie

-- Where there is a sink for the event it is sent there, and else the body leaves with the number of events.
abbrev pub Fires : Outcome → (sent : ℕ) → (event : Value) → (last : ℕ) → List Sink → (given : ℕ) → Option Sink
    → Type 0
Fires r sent event last sinks given None = Leaves r ok (Some (number sent)) sinks given
Fires r sent event last sinks given (Some to) = Sends r sent event last to sinks given
