-- One frame, script or object's cells put anew: what the sums of places lose and gain by it.
use Rattle.std.proofs.Common.{subst, ap, ◌∙◌, eqb-true, arith}
use Rattle.std.proofs.lemmas.List.Sums.{sum_by-cons}
use Rattle.std.proofs.lemmas.Grind.{common_steps}
use Rattle.std.specs.Prelude.{◌≡◌, refl, ℕ, zero, suc, ◌+◌, ◌<◌, Bool, true, false, cond, ◌==◌, List, [], ◌∷◌, Option, sum_by}
use Rattle.com_base.specs.declared.value.RefValue.{RefValue}
use Rattle.com_body.specs.Frames.{FrameView}
use Rattle.com_body.specs.declared.frame.Cells.{Cells}
use Rattle.com_refs_books.specs.Counting.{sum_below, count_if}
use Rattle.com_refs_books.proofs.Sums.{sum-changed}
use Rattle.com_model.specs.declared.scenario.Scenario.{Scenario}
use Rattle.com_model.specs.declared.keeps.Opener.{Opener}
use Rattle.com_model.specs.declared.keeps.Opener.TheVariants.{Pumps, Waits, Enters}
use Rattle.com_model.specs.Lists.{put, is_number}
use Rattle.com_model.specs.Tables.{threads, lanes}
use Rattle.com_model.specs.Frames.{Scene}
use Rattle.com_model.specs.Places.{Ground, Test, in_slots, in_scripts, in_frame, in_bodies, in_links}

-- So many times a number.
abbrev pub times : ℕ → ℕ → ℕ
times zero x = 0
times (suc n) x = times n x + x

no-more : (m : ℕ) → m + 0 ≡ m
no-more m = omega arith

one-later : (m n : ℕ) → m + suc n ≡ suc (m + n)
one-later m n = omega arith

pub times-more : (m n x : ℕ) → times (m + n) x ≡ times m x + times n x
times-more m zero x = omega (arith, ap (λ (k : ℕ). times k x) (no-more m))
times-more m (suc n) x =
    let step : times (m + suc n) x ≡ times (m + n) x + x = ap (λ (k : ℕ). times k x) (one-later m n) in
    omega (arith, times-more m n x, step)

-- How many Enters of a call are open.
abbrev pub enters_of : ℕ → Opener → ℕ
enters_of c (Enters d x b) = count_if (d == c)
enters_of c _ = 0

abbrev pub open_of : ℕ → List Opener → ℕ
open_of c os = sum_by (enters_of c) os

-- Each open Enter of the call names the apartment.
abbrev pub InApartment : (c b : ℕ) → List Opener → Type 0
InApartment c b [] = Unit {0}
InApartment c b (Enters d x a ∷ os) = (d ≡ c → a ≡ b) × InApartment c b os
InApartment c b (_ ∷ os) = InApartment c b os

abbrev pub slots_in : (b a : ℕ) → Test → List (Option RefValue) → ℕ
slots_in b a t xs = cond (b == a) (in_slots t xs) 0

abbrev pub with_body : Scene → ℕ → FrameView → Scene
with_body w c f = record w { bodies = put c f w.bodies }

frame-put : (w : Scene) (a c b : ℕ) (t : Test) (f : FrameView) (d x e : ℕ) → (d ≡ c → e ≡ b)
    → in_frame (with_body w c f) a t (Enters d x e) + times (count_if (d == c)) (slots_in b a t (w.bodies c).slots)
    ≡ in_frame w a t (Enters d x e) + times (count_if (d == c)) (slots_in b a t f.slots)
frame-put w a c b t f d x e p =
    elim (d == c) as (λ q. (d == c) ≡ q → cond (e == a) (in_slots t (cond q f (w.bodies d)).slots) 0 + times (count_if q) (slots_in b a t (w.bodies c).slots)
    ≡ cond (e == a) (in_slots t (w.bodies d).slots) 0 + times (count_if q) (slots_in b a t f.slots)) [
      | true ↦ λ q. let dc : d ≡ c = eqb-true d c q in
          subst (λ (k : ℕ). cond (e == a) (in_slots t f.slots) 0 + (0 + slots_in b a t (w.bodies k).slots) ≡ cond (e == a) (in_slots t (w.bodies d).slots) 0 + (0 + slots_in b a t f.slots)) dc
          (subst (λ (k : ℕ). cond (e == a) (in_slots t f.slots) 0 + (0 + slots_in k a t (w.bodies d).slots) ≡ cond (e == a) (in_slots t (w.bodies d).slots) 0 + (0 + slots_in k a t f.slots)) (p dc) (omega arith))
      | false ↦ λ q. refl
    ] refl

-- An opener without frame.
passed-by : (w : Scene) (a c b : ℕ) (t : Test) (f : FrameView) (o : Opener) (os : List Opener) → enters_of c o ≡ 0 → ((v : Scene) → in_frame v a t o ≡ 0)
    → sum_by (in_frame (with_body w c f) a t) os + times (open_of c os) (slots_in b a t (w.bodies c).slots) ≡ sum_by (in_frame w a t) os + times (open_of c os) (slots_in b a t f.slots)
    → sum_by (in_frame (with_body w c f) a t) (o ∷ os) + times (open_of c (o ∷ os)) (slots_in b a t (w.bodies c).slots) ≡ sum_by (in_frame w a t) (o ∷ os) + times (open_of c (o ∷ os)) (slots_in b a t f.slots)
passed-by w a c b t f o os z q rest =
    let v : Scene = with_body w c f in
    let new : sum_by (in_frame v a t) (o ∷ os) ≡ in_frame v a t o + sum_by (in_frame v a t) os = sum_by-cons (in_frame v a t) o os in
    let old : sum_by (in_frame w a t) (o ∷ os) ≡ in_frame w a t o + sum_by (in_frame w a t) os = sum_by-cons (in_frame w a t) o os in
    let many : open_of c (o ∷ os) ≡ open_of c os = sum_by-cons (enters_of c) o os ∙ ap (λ (k : ℕ). k + open_of c os) z ∙ omega arith in
    let left : times (open_of c (o ∷ os)) (slots_in b a t (w.bodies c).slots) ≡ times (open_of c os) (slots_in b a t (w.bodies c).slots) = ap (λ (k : ℕ). times k (slots_in b a t (w.bodies c).slots)) many in
    let right : times (open_of c (o ∷ os)) (slots_in b a t f.slots) ≡ times (open_of c os) (slots_in b a t f.slots) = ap (λ (k : ℕ). times k (slots_in b a t f.slots)) many in
    omega (arith, rest, new, old, left, right, q v, q w)

-- The frame of a call that is put anew, in the openers of one lane.
pub frames-put : (w : Scene) (a c b : ℕ) (t : Test) (f : FrameView) (os : List Opener) → InApartment c b os
    → sum_by (in_frame (with_body w c f) a t) os + times (open_of c os) (slots_in b a t (w.bodies c).slots)
    ≡ sum_by (in_frame w a t) os + times (open_of c os) (slots_in b a t f.slots)
frames-put w a c b t f [] p = refl
frames-put w a c b t f (Enters d x e ∷ os) p =
    let v : Scene = with_body w c f in
    let here : in_frame v a t (Enters d x e) + times (count_if (d == c)) (slots_in b a t (w.bodies c).slots) ≡ in_frame w a t (Enters d x e) + times (count_if (d == c)) (slots_in b a t f.slots) = frame-put w a c b t f d x e p.0 in
    let rest : sum_by (in_frame v a t) os + times (open_of c os) (slots_in b a t (w.bodies c).slots) ≡ sum_by (in_frame w a t) os + times (open_of c os) (slots_in b a t f.slots) = frames-put w a c b t f os p.1 in
    let new : sum_by (in_frame v a t) (Enters d x e ∷ os) ≡ in_frame v a t (Enters d x e) + sum_by (in_frame v a t) os = sum_by-cons (in_frame v a t) (Enters d x e) os in
    let old : sum_by (in_frame w a t) (Enters d x e ∷ os) ≡ in_frame w a t (Enters d x e) + sum_by (in_frame w a t) os = sum_by-cons (in_frame w a t) (Enters d x e) os in
    let many : open_of c (Enters d x e ∷ os) ≡ count_if (d == c) + open_of c os = sum_by-cons (enters_of c) (Enters d x e) os in
    let left : times (open_of c (Enters d x e ∷ os)) (slots_in b a t (w.bodies c).slots) ≡ times (count_if (d == c)) (slots_in b a t (w.bodies c).slots) + times (open_of c os) (slots_in b a t (w.bodies c).slots) = ap (λ (n : ℕ). times n (slots_in b a t (w.bodies c).slots)) many ∙ times-more (count_if (d == c)) (open_of c os) (slots_in b a t (w.bodies c).slots) in
    let right : times (open_of c (Enters d x e ∷ os)) (slots_in b a t f.slots) ≡ times (count_if (d == c)) (slots_in b a t f.slots) + times (open_of c os) (slots_in b a t f.slots) = ap (λ (n : ℕ). times n (slots_in b a t f.slots)) many ∙ times-more (count_if (d == c)) (open_of c os) (slots_in b a t f.slots) in
    omega (arith, here, rest, new, old, left, right)
frames-put w a c b t f (Pumps n ∷ os) p = passed-by w a c b t f (Pumps n) os refl (λ v. refl) (frames-put w a c b t f os p)
frames-put w a c b t f (Waits n ∷ os) p = passed-by w a c b t f (Waits n) os refl (λ v. refl) (frames-put w a c b t f os p)

-- A frame that is put, over all lanes, of which each has the call so often.
lanes-put : (n : ℕ) (os : ℕ → List Opener) (w : Scene) (a c b : ℕ) (t : Test) (f : FrameView) → ((l : ℕ) → l < n → InApartment c b (os l))
    → sum_below n (λ l. sum_by (in_frame (with_body w c f) a t) (os l)) + times (sum_below n (λ l. open_of c (os l))) (slots_in b a t (w.bodies c).slots)
    ≡ sum_below n (λ l. sum_by (in_frame w a t) (os l)) + times (sum_below n (λ l. open_of c (os l))) (slots_in b a t f.slots)
lanes-put zero os w a c b t f p = refl
lanes-put (suc n) os w a c b t f p =
    let rest : sum_below n (λ l. sum_by (in_frame (with_body w c f) a t) (os l)) + times (sum_below n (λ l. open_of c (os l))) (slots_in b a t (w.bodies c).slots)
    ≡ sum_below n (λ l. sum_by (in_frame w a t) (os l)) + times (sum_below n (λ l. open_of c (os l))) (slots_in b a t f.slots) = lanes-put n os w a c b t f (λ l h. p l (omega (arith, h))) in
    omega (arith, rest, frames-put w a c b t f (os n) (p n (omega arith)), times-more (sum_below n (λ l. open_of c (os l))) (open_of c (os n)) (slots_in b a t (w.bodies c).slots), times-more (sum_below n (λ l. open_of c (os l))) (open_of c (os n)) (slots_in b a t f.slots))

-- The call is open once, in that apartment.
pub record OpenOnce (s : Scenario) (g : Ground) (c b : ℕ) : Type 0 where
  pub once : sum_below (lanes s + 1) (λ l. open_of c (g.openers l)) ≡ 1
  pub there : (l : ℕ) → l < lanes s + 1 → InApartment c b (g.openers l)

pub body-put : (s : Scenario) (g : Ground) (w : Scene) (a c b : ℕ) (t : Test) (f : FrameView) → OpenOnce s g c b
    → in_bodies s g (with_body w c f) a t + slots_in b a t (w.bodies c).slots ≡ in_bodies s g w a t + slots_in b a t f.slots
body-put s g w a c b t f p =
    let moved : in_bodies s g (with_body w c f) a t + times 1 (slots_in b a t (w.bodies c).slots) ≡ in_bodies s g w a t + times 1 (slots_in b a t f.slots) =
    subst (λ (n : ℕ). in_bodies s g (with_body w c f) a t + times n (slots_in b a t (w.bodies c).slots) ≡ in_bodies s g w a t + times n (slots_in b a t f.slots)) p.once
    (lanes-put (lanes s + 1) g.openers w a c b t f p.there) in
    omega (arith, moved)

-- A call that is not open has no place.
pub body-closed : (s : Scenario) (g : Ground) (w : Scene) (a c : ℕ) (t : Test) (f : FrameView) → sum_below (lanes s + 1) (λ l. open_of c (g.openers l)) ≡ 0 → ((l : ℕ) → l < lanes s + 1 → InApartment c 0 (g.openers l))
    → in_bodies s g (with_body w c f) a t ≡ in_bodies s g w a t
body-closed s g w a c t f p q =
    let moved : in_bodies s g (with_body w c f) a t + times 0 (slots_in 0 a t (w.bodies c).slots) ≡ in_bodies s g w a t + times 0 (slots_in 0 a t f.slots) =
    subst (λ (n : ℕ). in_bodies s g (with_body w c f) a t + times n (slots_in 0 a t (w.bodies c).slots) ≡ in_bodies s g w a t + times n (slots_in 0 a t f.slots)) p
    (lanes-put (lanes s + 1) g.openers w a c 0 t f q) in
    omega (arith, moved)

-- ---- scripts and links

abbrev pub with_script : Scene → ℕ → FrameView → Scene
with_script w l f = record w { scripts = put l f w.scripts }

abbrev pub with_cells : Scene → ℕ → Cells → Scene
with_cells w o c = record w { cells = put o c w.cells }

same-number : (n : ℕ) → (n == n) ≡ true
same-number n = grind (arith, common_steps)

pub same-row : {X : Type 0} (k : ℕ) (x : X) (f : ℕ → X) → put k x f k ≡ x
same-row k x f = ap (λ (b : Bool). cond b x (f k)) (same-number k)

pub other-row : {X : Type 0} (k j : ℕ) (x : X) (f : ℕ → X) → (j ≡ k → ⊥) → f j ≡ put k x f j
other-row k j x f p =
    elim (j == k) as (λ b. (j == k) ≡ b → f j ≡ cond b x (f j)) [ true ↦ λ e. absurd (p (eqb-true j k e)) | false ↦ λ e. refl ] refl

-- A script's slots count in its home.
abbrev pub slots_at : Option ℕ → (a : ℕ) → Test → List (Option RefValue) → ℕ
slots_at home a t xs = cond (is_number a home) (in_slots t xs) 0

pub script-put : (s : Scenario) (g : Ground) (w : Scene) (a l : ℕ) (t : Test) (f : FrameView) → l < threads s + 1
    → in_scripts s g (with_script w l f) a t + slots_at (g.home l) a t (w.scripts l).slots ≡ in_scripts s g w a t + slots_at (g.home l) a t f.slots
script-put s g w a l t f h =
    let moved : in_scripts s g (with_script w l f) a t + slots_at (g.home l) a t (w.scripts l).slots ≡ in_scripts s g w a t + slots_at (g.home l) a t (put l f w.scripts l).slots =
    sum-changed (threads s + 1) l (λ k. slots_at (g.home k) a t (w.scripts k).slots) (λ k. slots_at (g.home k) a t (put l f w.scripts k).slots) h
    (λ j q. ap (λ (x : FrameView). slots_at (g.home j) a t x.slots) (other-row l j f w.scripts q)) in
    moved ∙ ap (λ (x : FrameView). in_scripts s g w a t + slots_at (g.home l) a t x.slots) (same-row l f w.scripts)

pub cells-put : (g : Ground) (w : Scene) (a o : ℕ) (t : Test) (c : Cells) → o < g.objects + 1
    → in_links g (with_cells w o c) a t + slots_in (g.named o) a t (w.cells o).links ≡ in_links g w a t + slots_in (g.named o) a t c.links
cells-put g w a o t c h =
    let moved : in_links g (with_cells w o c) a t + slots_in (g.named o) a t (w.cells o).links ≡ in_links g w a t + slots_in (g.named o) a t (put o c w.cells o).links =
    sum-changed (g.objects + 1) o (λ k. slots_in (g.named k) a t (w.cells k).links) (λ k. slots_in (g.named k) a t (put o c w.cells k).links) h
    (λ j q. ap (λ (x : Cells). slots_in (g.named j) a t x.links) (other-row o j c w.cells q)) in
    moved ∙ ap (λ (x : Cells). in_links g w a t + slots_in (g.named o) a t x.links) (same-row o c w.cells)
