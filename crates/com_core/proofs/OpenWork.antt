-- Each body that is innermost in its lane has work by the parts of a core, as by the history that the core stands for.
use Rattle.std.proofs.Common.{◌≡◌, ℕ, ap, sym, subst, refl, ◌∙◌}
use Rattle.std.specs.Prelude.{List, Option, Some, None, IsSome, option_map}
use Rattle.com_classes.specs.declared.classes.Class.{Class}
use Rattle.com_refs_books.specs.Changes.{Books}
use Rattle.com_model.specs.declared.keeps.Issue.{Issue}
use Rattle.com_model.specs.declared.keeps.Opener.{Opener}
use Rattle.com_model.specs.declared.keeps.Opener.TheVariants.{Enters}
use Rattle.com_model.specs.declared.scenario.Scenario.{Scenario}
use Rattle.com_model.specs.Calls.{issue}
use Rattle.com_model.specs.Lists.{first}
use Rattle.com_model.specs.Objects.{class_of}
use Rattle.com_model.specs.Openers.{openers}
use Rattle.com_model.specs.State.{State}
use Rattle.com_model.proofs.Sights.{same-class}
use Rattle.com_laws_ranges.specs.Works.{HasWork as OpenHasWork}
use Rattle.com_laws_ranges.proofs.OpenWork.{first-work, works}
use Rattle.com_parts.specs.Tables.{PartTables}
use Rattle.com_servant.specs.Steps.{native_at}
use Rattle.com_state.specs.Parts.{CallTables, LaneTables, ObjectTables, class_at, issue_at, openers_at}
use Rattle.com_turns.specs.Work.{BodiesWork}
use Rattle.com_core.specs.Stands.{IsReached, Stands, seen_by}

-- A class that is declared has a kind.
has-kind : (k : Option Class) → IsSome k → IsSome (option_map (λ (c : Class). c.native) k)
has-kind None e = cc
has-kind (Some c) e = refl

pub works_seen : (s : Scenario) (st : State) (p : PartTables) (b : Books) (fallen : List ℕ) (clock : ℕ) → IsReached s st → Stands st p b fallen clock → BodiesWork (seen_by s p fallen clock)
works_seen s st p b fallen clock r h l c o a e =
    let opened : openers_at p.lanes l ≡ openers r.history l = ap (λ (t : LaneTables). openers_at t l) h.lanes ∙ r.stands.lanes.openers l in
    let issued : issue_at p.calls.tables c ≡ issue r.history c = ap (λ (t : CallTables). issue_at t c) h.calls ∙ r.stands.calls.issues c in
    let class : class_at p.objects o ≡ class_of r.history o = ap (λ (t : ObjectTables). class_at t o) h.objects ∙ ap (λ (f : ℕ → ℕ). f o) (same-class st r.history r.stands.objects) in
    let k : OpenHasWork s r.history (Enters c o a) = first-work s r.history (openers r.history l) c o a (works s r.history l r.formed r.stands.lawful) (sym (ap (λ (os : List Opener). first os) opened) ∙ e) in
    record {
      issued = subst (λ (i : Option Issue). IsSome i) (sym issued) k.0;
      declared = subst (λ (n : ℕ). IsSome (native_at s.classes n)) (sym class) (has-kind _ k.1);
    }
