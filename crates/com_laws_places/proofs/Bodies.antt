-- What the openers of an entry do to places: an Enter brings its frame's slots, and a Leave's frame has none.
use Rattle.std.proofs.Common.{subst, ap, ◌∙◌, arith}
use Rattle.std.proofs.lemmas.List.Sums.{sum_by-cons}
use Rattle.std.specs.Prelude.{◌≡◌, ℕ, ◌+◌, ◌≤◌, List, [], ◌∷◌, sum_by}
use Rattle.com_body.specs.Frames.{FrameView, entered}
use Rattle.com_refs_books.proofs.Sums.{sum-changed}
use Rattle.com_model.specs.declared.deeds.Deed.{Deed}
use Rattle.com_model.specs.declared.deeds.Deed.TheVariants as deed
use Rattle.com_model.specs.declared.scenario.Scenario.{Scenario}
use Rattle.com_model.specs.declared.keeps.Opener.{Opener}
use Rattle.com_model.specs.declared.keeps.Opener.TheVariants.{Pumps, Waits, Enters}
use Rattle.com_model.specs.Tables.{lanes}
use Rattle.com_model.specs.Openers.{effect, opened, fits}
use Rattle.com_model.specs.Frames.{Scene}
use Rattle.com_model.specs.Places.{Ground, Test, in_frame, in_bodies}
use Rattle.com_laws_places.proofs.Frames.{slots_in}
use Rattle.com_laws_places.proofs.Counted.{nulls-in}
use Rattle.com_laws_places.proofs.Arrives.{fresh-slots}

-- The frame of the call that an entry enters, or lets leave.
abbrev pub FrameOf : Scene → Deed → Type 0
FrameOf w (deed.Enter c o b k vs) = w.bodies c ≡ entered vs
FrameOf w (deed.Leave c hr v bytes) = w.bodies c ≡ entered []
FrameOf w _ = Unit {0}

abbrev pub entered_slots : ℕ → Test → Deed → ℕ
entered_slots a t (deed.Enter c o b k vs) = slots_in b a t (entered vs).slots
entered_slots a t _ = 0

first-frame : (w : Scene) (a : ℕ) (t : Test) (o : Opener) (os : List Opener) → sum_by (in_frame w a t) (o ∷ os) ≡ in_frame w a t o + sum_by (in_frame w a t) os
first-frame w a t o os = sum_by-cons (in_frame w a t) o os

left-frame : (w : Scene) (a : ℕ) (t : Test) (c o b : ℕ) → w.bodies c ≡ entered [] → in_frame w a t (Enters c o b) ≡ 0
left-frame w a t c o b e = ap (λ (f : FrameView). slots_in b a t f.slots) e ∙ nulls-in b a t (entered []).slots (fresh-slots t)

frames-opened : (w : Scene) (a : ℕ) (t : Test) (d : Deed) (os : List Opener) → fits (effect d) os → FrameOf w d → sum_by (in_frame w a t) (opened (effect d) os) ≡ sum_by (in_frame w a t) os + entered_slots a t d
frames-opened w a t (deed.Enter c o b k vs) os p e =
    let here : in_frame w a t (Enters c o b) ≡ slots_in b a t (entered vs).slots = ap (λ (f : FrameView). slots_in b a t f.slots) e in
    omega (arith, first-frame w a t (Enters c o b) os, here)
frames-opened w a t (deed.Pump n) os p e = first-frame w a t (Pumps n) os ∙ omega arith
frames-opened w a t (deed.Out c o i m r k bytes) os p e = first-frame w a t (Waits c) os ∙ omega arith
frames-opened w a t deed.EndPump [] p e = absurd p
frames-opened w a t deed.EndPump (Pumps n ∷ os) p e = omega (arith, first-frame w a t (Pumps n) os)
frames-opened w a t deed.EndPump (Waits c ∷ os) p e = absurd p
frames-opened w a t deed.EndPump (Enters c o b ∷ os) p e = absurd p
frames-opened w a t (deed.Back c hr v) [] p e = absurd p
frames-opened w a t (deed.Back c hr v) (Pumps n ∷ os) p e = absurd p
frames-opened w a t (deed.Back c hr v) (Waits k ∷ os) p e = omega (arith, first-frame w a t (Waits k) os)
frames-opened w a t (deed.Back c hr v) (Enters k o b ∷ os) p e = absurd p
frames-opened w a t (deed.Leave c hr v bytes) [] p e = absurd p
frames-opened w a t (deed.Leave c hr v bytes) (Pumps n ∷ os) p e = absurd p
frames-opened w a t (deed.Leave c hr v bytes) (Waits k ∷ os) p e = absurd p
frames-opened w a t (deed.Leave c hr v bytes) (Enters k o b ∷ os) p e =
    let none : in_frame w a t (Enters k o b) ≡ 0 = left-frame w a t k o b (subst (λ (j : ℕ). w.bodies j ≡ entered []) p e) in
    omega (arith, first-frame w a t (Enters k o b) os, none)
frames-opened w a t _ os p e = omega arith

pub record OpenersMove (s : Scenario) (g k : Ground) (l : ℕ) (d : Deed) : Type 0 where
  pub lane : l ≤ lanes s
  pub own : k.openers l ≡ opened (effect d) (g.openers l)
  pub others : (j : ℕ) → (j ≡ l → ⊥) → g.openers j ≡ k.openers j
  pub fitting : fits (effect d) (g.openers l)

pub bodies-move : (s : Scenario) (g k : Ground) (l : ℕ) (d : Deed) (w : Scene) (a : ℕ) (t : Test) → OpenersMove s g k l d → FrameOf w d → in_bodies s k w a t ≡ in_bodies s g w a t + entered_slots a t d
bodies-move s g k l d w a t p e =
    let low : l ≤ lanes s = p.lane in
    let changed : in_bodies s k w a t + sum_by (in_frame w a t) (g.openers l) ≡ in_bodies s g w a t + sum_by (in_frame w a t) (k.openers l) =
    sum-changed (lanes s + 1) l (λ j. sum_by (in_frame w a t) (g.openers j)) (λ j. sum_by (in_frame w a t) (k.openers j)) (omega (arith, low)) (λ j n. ap (λ (os : List Opener). sum_by (in_frame w a t) os) (p.others j n)) in
    let own : sum_by (in_frame w a t) (k.openers l) ≡ sum_by (in_frame w a t) (g.openers l) + entered_slots a t d = ap (λ (os : List Opener). sum_by (in_frame w a t) os) p.own ∙ frames-opened w a t d (g.openers l) p.fitting e in
    omega (arith, changed, own)
