-- A source in a history.
use Rattle.std.proofs.Common.{sym, ap, subst, ◌∙◌, inl, inr}
use Rattle.std.specs.Prelude.{◌≡◌, ℕ, Bool, false, cond, List, ◌∷◌, Option, Some, None, option_and_then, unwrap_or}
use Rattle.com_body.specs.declared.statements.Stmt.{Stmt}
use Rattle.com_body.specs.declared.frame.Cells.{Cells}
use Rattle.com_body.specs.BodySteps.{no_body}
use Rattle.com_classes.specs.declared.classes.Class.{Class}
use Rattle.com_classes.specs.declared.classes.ThreadingModel.{ThreadingModel}
use Rattle.com_classes.specs.Activation.{is_agile}
use Rattle.com_classes.specs.Lookups.{class_at, class_body, body_of}
use Rattle.com_model.specs.declared.deeds.Entry.{Entry}
use Rattle.com_model.specs.declared.scenario.Scenario.{Scenario}
use Rattle.com_model.specs.Frames.{scene}
use Rattle.com_model.specs.Formed.{Formed}
use Rattle.com_model.specs.Rules.{legal}
use Rattle.com_model.specs.Tables.{has_agile_model}
use Rattle.com_laws_safety.proofs.Small.{same-number}
use Rattle.com_laws_sources.specs.Bodies.{advise_body, unadvise_body, fire_body}
use Rattle.com_laws_sources.specs.Kept.{Keeps}
use Rattle.com_laws_sources.specs.Runs.{by_itself}
use Rattle.com_laws_sources.specs.Steps.{IsLeave, result_of}
use Rattle.com_laws_sources.specs.Sourced.{SourceRuns, SinksAfter}
use Rattle.com_laws_sources.specs.Sources.{advise, unadvise, fire, point_body, source_body, IsStaModel, IsSource}
use Rattle.com_laws_sources.proofs.Runs.{legal-leaves}

sta-model : (m : ThreadingModel) → IsStaModel m → is_agile m ≡ false
sta-model m (inl e) = ap is_agile e
sta-model m (inr e) = ap is_agile e

pub body-found : (s : Scenario) (k iface m : ℕ) (c : Class) (b : List Stmt) → class_at s.classes k ≡ Some c → class_body c iface m ≡ Some b → body_of s.classes k iface m ≡ b
body-found s k iface m c b p q =
    ap (λ (o : Option Class). unwrap_or (option_and_then (λ d. class_body d iface m) o) no_body) p
    ∙ ap (λ (o : Option (List Stmt)). unwrap_or o no_body) q

pub own-body : (iface m : ℕ) → source_body iface iface m ≡ point_body m
own-body iface m = ap (λ (t : Bool). cond t (point_body m) None) (same-number iface)

pub source-runs : (s : Scenario) (k iface : ℕ) → IsSource s k iface → SourceRuns s k iface
source-runs s k iface p = record {
  advises = body-found s k iface advise p.declaration advise_body p.there (p.source.bodies iface advise ∙ own-body iface advise);
  unadvises = body-found s k iface unadvise p.declaration unadvise_body p.there (p.source.bodies iface unadvise ∙ own-body iface unadvise);
  fires = body-found s k iface fire p.declaration fire_body p.there (p.source.bodies iface fire ∙ own-body iface fire);
  not_agile = ap has_agile_model p.there ∙ sta-model p.declaration.model p.source.model;
}

pub sinks-after : (s : Scenario) (h : List Entry) (e : Entry) → Formed s → legal s (e ∷ h) → SinksAfter s h e
sinks-after s h e f q c o a os i n hr given sinks last r k w d y v bytes p =
    let z : IsLeave e.deed c hr (result_of s h i hr given) × ((scene s (e ∷ h)).cells o ≡ (by_itself s h c o i n).cells) = legal-leaves s h e f q c o a os i n hr given r k w.action d y v bytes p in
    (z.0, subst (λ (u : Cells). Keeps u sinks last) (sym z.1) w.keeps)
