-- What explains a history, by whether it is stuck.
use Rattle.std.proofs.Common.{sym, ap, ◌∙◌}
use Rattle.std.specs.Prelude.{◌≡◌, ◌↔◌, ◌≤◌, refl, Bool, true, false, cond, List, Option, Some, None, length}
use Rattle.com_model.specs.declared.deeds.Entry.{Entry}
use Rattle.com_model.specs.declared.scenario.Scenario.{Scenario}
use Rattle.com_model.specs.Ends.{limit, stuck}
use Rattle.com_model.specs.Formed.{Formed}
use Rattle.com_model.specs.Rules.{legal}
use Rattle.com_waits.specs.declared.reasons.Waits.{Waits}
use Rattle.com_waits.specs.Chains.{explanation}
use Rattle.com_waits.specs.Walks.{told}
use Rattle.com_replay.specs.Stuck.{IsLawful, explained_by, is_stuck_by}

abbrev of_whether : Scenario → List Entry → Bool → Option Waits
of_whether s h b = cond b (Some (explanation s h)) None

pub is_lawful : (s : Scenario) (entries : List Entry) → Formed s → legal s (told entries) → length entries ≤ limit s → IsLawful s entries
is_lawful s entries f q few = record { formed = f; lawful = q; few = few }

pub not_explained : (s : Scenario) (entries : List Entry) (b : Bool) → b ≡ is_stuck_by s entries → b ≡ false → None ≡ explained_by s entries
unfolding is_stuck_by explained_by
not_explained s entries b is off = ap (of_whether s (told entries)) (sym off ∙ is)

pub is_stuck_so : (s : Scenario) (entries : List Entry) (b : Bool) → b ≡ is_stuck_by s entries → b ≡ true → stuck s (told entries) ≡ true
unfolding is_stuck_by
is_stuck_so s entries b is on = sym is ∙ on

pub is_explained : (s : Scenario) (entries : List Entry) (b : Bool) (w : Waits) → b ≡ is_stuck_by s entries → b ≡ true → w ≡ explanation s (told entries)
    → Some w ≡ explained_by s entries
unfolding is_stuck_by explained_by
is_explained s entries b w is on e = ap (λ (x : Waits). Some x) e ∙ ap (of_whether s (told entries)) (sym on ∙ is)

pub waits_from : (s : Scenario) (entries : List Entry) (w : Option Waits) → w ≡ explained_by s entries → stuck s (told entries) ≡ true
    → w ≡ Some (explanation s (told entries))
unfolding explained_by
waits_from s entries w is e = is ∙ ap (of_whether s (told entries)) e

some-not : (w : Waits) → Some w ≡ None → ⊥
some-not w e = cc

none-by : (b : Bool) (w : Waits) → cond b (Some w) None ≡ None → b ≡ false
none-by true w e = absurd (some-not w e)
none-by false w e = refl

none-where : (s : Scenario) (entries : List Entry) (w : Option Waits) → w ≡ explained_by s entries → w ≡ None → stuck s (told entries) ≡ false
unfolding explained_by
none-where s entries w is e = none-by (stuck s (told entries)) (explanation s (told entries)) (sym is ∙ e)

none-back : (s : Scenario) (entries : List Entry) (w : Option Waits) → w ≡ explained_by s entries → stuck s (told entries) ≡ false → w ≡ None
unfolding explained_by
none-back s entries w is e = is ∙ ap (of_whether s (told entries)) e

pub none_from : (s : Scenario) (entries : List Entry) (w : Option Waits) → w ≡ explained_by s entries
    → (w ≡ None ↔ stuck s (told entries) ≡ false)
none_from s entries w is = (none-where s entries w is, none-back s entries w is)
