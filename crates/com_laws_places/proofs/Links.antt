-- An object that is made has no links yet.
use Rattle.std.proofs.Common.{sym, ap, ◌∙◌, arith}
use Rattle.std.specs.Prelude.{◌≡◌, refl, ℕ, ◌+◌, ◌≤◌, ◌<◌, List, [], ◌∷◌, Option, Some, None, fold}
use Rattle.com_body.specs.declared.frame.Cells.{Cells}
use Rattle.com_body.specs.declared.frame.Outcome.{Outcome}
use Rattle.com_body.specs.declared.actions.Action.{Action}
use Rattle.com_body.specs.declared.actions.Action.TheVariants as action
use Rattle.com_body.specs.Operands.{new_cells}
use Rattle.com_refs_books.proofs.Sums.{sum-same, sum-more}
use Rattle.com_model.specs.declared.deeds.Deed.{Deed}
use Rattle.com_model.specs.declared.deeds.Deed.TheVariants as deed
use Rattle.com_model.specs.declared.deeds.Entry.{Entry}
use Rattle.com_model.specs.declared.scenario.Scenario.{Scenario}
use Rattle.com_model.specs.Objects.{objects, named}
use Rattle.com_model.specs.Frames.{Scene, Actor, Body, Script, Nobody, Write, ToRegister, ToSlot, ToLink, ToBuffer, writes, written, with_frame, wants, acted}
use Rattle.com_model.specs.Places.{Ground, ground, Test, in_slots, in_links}
use Rattle.com_model.specs.Rules.{legal}
use Rattle.com_model.specs.Formed.{Formed}
use Rattle.com_laws_balance.proofs.Makings.{same-named}
use Rattle.com_laws_places.proofs.Frames.{slots_in, other-row}
use Rattle.com_laws_places.proofs.Counted.{nulls-in}
use Rattle.com_laws_places.proofs.Writes.{Stands}

past : (n o k : ℕ) → o < n + 1 → n + 1 ≤ k → k ≡ o → ⊥
past n o k p q e = omega (arith, p, q, e)

written-cells : (s : Scenario) (g : Ground) (a : Actor) (w : Scene) (x : Write) (k : ℕ) → Stands s g a → g.objects + 1 ≤ k → (written a w x).cells k ≡ w.cells k
written-cells s g (Body c o) w (ToRegister r v) k p q = refl
written-cells s g (Body c o) w (ToSlot i held) k p q = refl
written-cells s g (Body c o) w (ToLink i held) k p q = sym (other-row o k _ w.cells (past g.objects o k p.made q))
written-cells s g (Body c o) w (ToBuffer b bytes) k p q = refl
written-cells s g (Script l) w (ToRegister r v) k p q = refl
written-cells s g (Script l) w (ToSlot i held) k p q = refl
written-cells s g (Script l) w (ToLink i held) k p q = refl
written-cells s g (Script l) w (ToBuffer b bytes) k p q = refl
written-cells s g Nobody w x k p q = refl

all-written-cells : (s : Scenario) (g : Ground) (a : Actor) (w : Scene) (xs : List Write) (k : ℕ) → Stands s g a → g.objects + 1 ≤ k → (fold (written a) w xs).cells k ≡ w.cells k
all-written-cells s g a w [] k p q = refl
all-written-cells s g a w (x ∷ xs) k p q = all-written-cells s g a (written a w x) xs k p q ∙ written-cells s g a w x k p q

framed-cells : (s : Scenario) (g : Ground) (a : Actor) (r : Outcome) (w : Scene) (k : ℕ) → Stands s g a → g.objects + 1 ≤ k → (with_frame a r w).cells k ≡ w.cells k
framed-cells s g (Body c o) r w k p q = sym (other-row o k r.cells w.cells (past g.objects o k p.made q))
framed-cells s g (Script l) r w k p q = refl
framed-cells s g Nobody r w k p q = refl

wanted-cells : (x : Action) (d : Deed) (w : Scene) → (wants x d w).cells ≡ w.cells
wanted-cells (action.Call held i m args to) (deed.Out c o j n r k bytes) w = refl
wanted-cells (action.Call held i m args to) _ w = refl
wanted-cells _ d w = refl

pub acted-cells : (s : Scenario) (g : Ground) (a : Actor) (r : Option Outcome) (d : Deed) (w : Scene) (k : ℕ) → Stands s g a → g.objects + 1 ≤ k → (acted a r d w).cells k ≡ w.cells k
acted-cells s g a None d w k p q = refl
acted-cells s g a (Some r) d w k p q =
    ap (λ (f : ℕ → Cells). f k) (wanted-cells r.action d _) ∙ all-written-cells s g a (with_frame a r w) (writes r.action d) k p q ∙ framed-cells s g a r w k p q

-- The links of objects that are not made yet.
abbrev pub NoneYet : Deed → ℕ → Scene → Type 0
NoneYet (deed.Made (Some o) (Some b) k i hr) n w = (j : ℕ) → n + 1 ≤ j → w.cells j ≡ new_cells
NoneYet _ n w = Unit {0}

new-links : (t : Test) → in_slots t new_cells.links ≡ 0
new-links t = refl

pub links-stay : (s : Scenario) (h : List Entry) (l : ℕ) (d : Deed) (w : Scene) (a : ℕ) (t : Test) → Formed s → legal s (record { lane = l; deed = d } ∷ h) → NoneYet d (objects h) w → in_links (ground s (record { lane = l; deed = d } ∷ h)) w a t ≡ in_links (ground s h) w a t
links-stay s h l (deed.Made (Some o) (Some b) k i hr) w a t f q p =
    let e : Entry = record { lane = l; deed = deed.Made (Some o) (Some b) k i hr } in
    sum-more (objects h + 1) 1 (λ j. slots_in (named (e ∷ h) j) a t (w.cells j).links) (λ j m. nulls-in (named (e ∷ h) j) a t (w.cells j).links (ap (λ (c : Cells). in_slots t c.links) (p j m) ∙ new-links t))
    ∙ sum-same (objects h + 1) (λ j. slots_in (named (e ∷ h) j) a t (w.cells j).links) (λ j. slots_in (named h j) a t (w.cells j).links)
    (λ j m. ap (λ (n : ℕ). slots_in n a t (w.cells j).links) (same-named s h e j f q (omega (arith, m))))
links-stay s h l (deed.Made (Some o) None k i hr) w a t f q p = refl
links-stay s h l (deed.Made None b k i hr) w a t f q p = refl
links-stay s h l _ w a t f q p = refl

-- No object has the number 0.
pub first-named : (s : Scenario) (h : List Entry) → Formed s → legal s h → named h 0 ≡ 0
first-named s [] f q = refl
first-named s (e ∷ h) f q = same-named s h e 0 f q (omega arith) ∙ first-named s h f q.0
