use Rattle.std.proofs.Common.{◌≡◌, ℕ, ◌+◌, true, List, length}
use Rattle.std.specs.Prelude.{Option, slice_get, Some}
use Rattle.atomic_table.specs.declared.shared.Seat.{Seat}
use Rattle.com_turnstile.specs.declared.view.View.{View}
use Rattle.com_turnstile.specs.declared.turnstile.Pass.{Pass}
use Rattle.com_turnstile.specs.declared.turnstile.Turnstile.{Turnstile}
use Rattle.com_turnstile.specs.Passes.{IsNewPass, IsNewSeat, turnstile_id}
use Rattle.com_turnstile.proofs.turnstile.Turnstile.deal.Given as goal

-- the passes that are dealt, and the seat of the next one
pub record Dealt {T E : Type 0} (t : Turnstile T E) (opening : List E) (passes : List (Pass T E)) (next : ℕ) (seat : Seat (Option T) (View E)) : Type 0 where
  pub dealt : length passes + 1 ≡ next
  pub splits : seat.me.0.splits ≡ true
  pub new : IsNewSeat (turnstile_id t) opening next seat
  pub passes_new : (i : ℕ) (p : Pass T E) → slice_get passes i ≡ Some p → IsNewPass t opening (i + 1) p

abbrev pub invariant-loop : goal.invariant-loop
invariant-loop g l = Dealt l.self l.initial.seat.me.0.opening l.list.items l.counter l.seat
