-- Entries of lanes in which neither a body nor a script acts.
use Rattle.std.proofs.Common.{◌≡◌, ℕ, sym, subst}
use Rattle.std.specs.Prelude.{Bool, true, false, List, Option, Some, None, is_some, refl, Result, Ok, Err, OnOk}
use Rattle.com_body.specs.declared.frame.Outcome.{Outcome}
use Rattle.com_model.specs.declared.deeds.Deed.{Deed}
use Rattle.com_model.specs.declared.deeds.Entry.{Entry}
use Rattle.com_model.specs.declared.keeps.Opener.{Opener}
use Rattle.com_model.specs.declared.keeps.Opener.TheVariants.{Pumps, Waits, Enters}
use Rattle.com_model.specs.declared.scenario.Scenario.{Scenario}
use Rattle.com_model.specs.Lists.{first}
use Rattle.com_model.specs.Openers.{is_body}
use Rattle.com_reference_moves.specs.Steps.{IsWhole}
use Rattle.com_refs_books.specs.Changes.{Books}
use Rattle.com_runtime.specs.Turns.{body_kind}
use Rattle.com_servant.specs.Rows.{one_served}
use Rattle.com_state.specs.Parts.{class_at, openers_at}
use Rattle.com_turns.specs.Turns.{IsNext, IsTurn, is_ruled, kind_seen, ruled_turn, turn_made}
use Rattle.com_turns.proofs.Stepping.{ruled_body}
use Rattle.com_view.specs.Seen.{Seen}
use Rattle.com_core.specs.declared.running.Running.{Running}
use Rattle.com_core.specs.Seen.{TriesTo, TurnsTo}

pub made_is : (made : Bool) (d : Deed) → made ≡ is_some (turn_made made d)
made_is true d = refl
made_is false d = refl

pub no_step : (o : Option Outcome) → o ≡ None → IsWhole o
no_step o e = subst IsWhole (sym e) tt

pub ruled_is : (w : Seen) (b : Books) (l : ℕ) (made : Bool) (d : Deed) (o : Option Outcome) → IsNext w b l None (turn_made made d) → made ≡ true → o ≡ None → IsTurn w b l o (ruled_turn d)
ruled_is w b l true d o h m e = subst (λ (r : Option Outcome). IsTurn w b l r (ruled_turn d)) (sym e) h
ruled_is w b l false d o h m e = absurd cc

pub turned_if : (made : Bool) (s : Scenario) (l : ℕ) (r u : Running) (e : Entry) → TriesTo s l made r u e → made ≡ true → TurnsTo s l r u e
turned_if true s l r u e t m = t
turned_if false s l r u e t m = absurd cc

-- No servant makes a step there.
none_served : (s : Scenario) (class : ℕ → ℕ) (o : Option Opener) (steps : List ℕ) → is_body o ≡ false → steps ≡ one_served (body_kind s class o) steps
none_served s class None steps e = refl
none_served s class (Some (Pumps n)) steps e = refl
none_served s class (Some (Waits c)) steps e = refl
none_served s class (Some (Enters c o a)) steps e = absurd cc

pub ruled_serves : {A E : Type 0} (x : Result A E) (w : Seen) (b : Books) (l : ℕ) (steps : List ℕ) → is_ruled w l ≡ true → OnOk x (steps ≡ one_served (kind_seen w l) steps)
ruled_serves (Ok y) w b l steps e = none_served w.scenario (class_at w.objects) (first (openers_at w.lanes l)) steps (ruled_body w b l e)
ruled_serves (Err y) w b l steps e = tt
