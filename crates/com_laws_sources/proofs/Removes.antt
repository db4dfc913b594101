-- `unadvise` by itself, where the cells are given one by one.
use Rattle.std.proofs.Common.{refl, ap, sym, subst, ◌∙◌}
use Rattle.std.specs.Prelude.{◌≡◌, ℕ, ◌+◌, ℤ, pos, Bool, true, false, cond, List, [], ◌∷◌, ◌++◌, int_lt, Option, None}
use Rattle.std.specs.Int.{w64, int_wrapping_sub}
use Rattle.std.specs.Ordering.{int_eq}
use Rattle.com_base.specs.declared.hresult.HResult.{HResult}
use Rattle.com_base.specs.declared.value.RefValue.{RefValue}
use Rattle.com_base.specs.declared.value.Value.{Value}
use Rattle.com_base.specs.declared.value.Value.TheVariants as value
use Rattle.com_body.specs.declared.statements.Stmt.{Stmt}
use Rattle.com_body.specs.declared.statements.Stmt.TheVariants as stmt
use Rattle.com_body.specs.declared.operands.Place.TheVariants as place
use Rattle.com_body.specs.declared.operands.Given.TheVariants as given
use Rattle.com_body.specs.declared.actions.Action.TheVariants as action
use Rattle.com_body.specs.declared.frame.Cells.{Cells}
use Rattle.com_body.specs.declared.frame.Outcome.{Outcome}
use Rattle.com_body.specs.Frames.{FrameView, no_number, entered, moved}
use Rattle.com_body.specs.Operands.{truth}
use Rattle.com_body.specs.BodySteps.{walk, body_step}
use Rattle.com_laws_sources.specs.Bodies.{ok, no_connection, int, leave_with, look_in, move_down, unadvise_body}
use Rattle.com_laws_sources.specs.Alone.{goes_on, alone}
use Rattle.com_laws_sources.proofs.Walks.{kept}

-- Register 0 is the cookie that is looked for.
abbrev pub finding : ℕ → (v1 v2 : Value) → (n : ℤ) → FrameView
finding p v1 v2 n = record {
  place = p;
  registers = value.Int n ∷ v1 ∷ v2 ∷ no_number ∷ no_number ∷ no_number ∷ no_number ∷ no_number ∷ no_number ∷ no_number ∷ no_number ∷ no_number ∷ no_number ∷ no_number ∷ no_number ∷ no_number ∷ [];
  slots = None ∷ None ∷ None ∷ None ∷ None ∷ None ∷ None ∷ None ∷ [];
}

abbrev moves : List Stmt
moves =
    move_down 0 ++ (move_down 1 ++ (move_down 2
    ++ (stmt.Store 3 (int 0) ∷ stmt.Release (place.Link 3) ∷ leave_with ok given.Nothing ∷ [])))

abbrev rest-3 : List Stmt
rest-3 = leave_with no_connection given.Nothing ∷ moves

abbrev rest-2 : List Stmt
rest-2 = look_in 3 ++ rest-3

abbrev rest-1 : List Stmt
rest-1 = look_in 2 ++ rest-2

abbrev rest-0 : List Stmt
rest-0 = look_in 1 ++ rest-1

abbrev rest : List Stmt
rest = look_in 0 ++ rest-0

-- A number that is not above 0 is no cookie.
abbrev refused : ℕ → (v1 v2 : Value) → ℤ → Cells → Outcome
refused p v1 v2 n c = record { frame = finding p v1 v2 n; cells = c; action = action.Leave no_connection None }

begins : (n : ℤ) (c : Cells) (b : Bool)
    → walk (stmt.SkipZero 1 1 ∷ stmt.Skip 1 ∷ leave_with no_connection given.Nothing ∷ rest) 0 (finding 1 (truth b) no_number n) c
    ≡ cond b (walk rest 0 (finding 4 (value.Int (pos 1)) no_number n) c) (refused 4 (value.Int (pos 0)) no_number n c)
begins n c true = refl
begins n c false = refl

-- The walk goes on at the moves, or at the next place.
looks : (p s : ℕ) (v1 v2 : Value) (n : ℤ) (c : Cells) (more : List Stmt) (b : Bool)
    → walk more (cond b s 0) (moved (finding p v1 v2 n) (cond b s 0 + 1)) c
    ≡ cond b (walk more s (finding (p + (s + 1)) v1 v2 n) c) (walk more 0 (finding (p + (0 + 1)) v1 v2 n) c)
looks p s v1 v2 n c more true = refl
looks p s v1 v2 n c more false = refl

abbrev less : ℤ → ℤ → ℤ
less n a = int_wrapping_sub w64 n a

abbrev pub is_at : ℤ → ℤ → Bool
is_at n a = int_eq (less n a) (pos 0)

abbrev found : List Stmt → (p s : ℕ) → ℤ → ℤ → Cells → Outcome
found more p s n a c = walk more s (finding p (value.Int (less n a)) (value.Int a) n) c

unadvise-steps : (n a0 a1 a2 a3 m : ℤ) (ns : List ℤ) (k0 k1 k2 k3 : Option RefValue)
    → body_step unadvise_body (entered (value.Int n ∷ [])) (kept a0 a1 a2 a3 m ns k0 k1 k2 k3)
    ≡ cond (int_lt (pos 0) n)
    (cond (is_at n a0) (found rest-0 21 13 n a0 (kept a0 a1 a2 a3 m ns k0 k1 k2 k3))
    (cond (is_at n a1) (found rest-1 24 12 n a1 (kept a0 a1 a2 a3 m ns k0 k1 k2 k3))
    (cond (is_at n a2) (found rest-2 27 11 n a2 (kept a0 a1 a2 a3 m ns k0 k1 k2 k3))
    (cond (is_at n a3) (found rest-3 30 10 n a3 (kept a0 a1 a2 a3 m ns k0 k1 k2 k3))
    (refused 21 (value.Int (less n a3)) (value.Int a3) n (kept a0 a1 a2 a3 m ns k0 k1 k2 k3))))))
    (refused 4 (value.Int (pos 0)) no_number n (kept a0 a1 a2 a3 m ns k0 k1 k2 k3))
unadvise-steps n a0 a1 a2 a3 m ns k0 k1 k2 k3 =
    let c : Cells = kept a0 a1 a2 a3 m ns k0 k1 k2 k3 in
    let no : Outcome = refused 4 (value.Int (pos 0)) no_number n c in
    begins n c (int_lt (pos 0) n)
    ∙ ap (λ (o : Outcome). cond (int_lt (pos 0) n) o no)
    (looks 7 13 (value.Int (less n a0)) (value.Int a0) n c rest-0 (is_at n a0)
    ∙ ap (λ (o : Outcome). cond (is_at n a0) (found rest-0 21 13 n a0 c) o)
    (looks 11 12 (value.Int (less n a1)) (value.Int a1) n c rest-1 (is_at n a1)
    ∙ ap (λ (o : Outcome). cond (is_at n a1) (found rest-1 24 12 n a1 c) o)
    (looks 15 11 (value.Int (less n a2)) (value.Int a2) n c rest-2 (is_at n a2)
    ∙ ap (λ (o : Outcome). cond (is_at n a2) (found rest-2 27 11 n a2 c) o)
    (looks 19 10 (value.Int (less n a3)) (value.Int a3) n c rest-3 (is_at n a3)))))

abbrev goes-alone : Outcome → Outcome
goes-alone r = goes_on (alone unadvise_body 3) r r.action

abbrev pub answers : Outcome → HResult → Cells → Type 0
answers r hr c = (r.action ≡ action.Leave hr None) × (r.cells ≡ c)

-- What follows from the place that was found.
from-0 : (n a0 a1 a2 a3 m : ℤ) (ns : List ℤ) (k0 k1 k2 k3 : Option RefValue)
    → answers (goes-alone (found rest-0 21 13 n a0 (kept a0 a1 a2 a3 m ns k0 k1 k2 k3))) ok (kept a1 a2 a3 (pos 0) m ns k1 k2 k3 None)
from-0 n a0 a1 a2 a3 m ns k0 k1 k2 k3 = (refl, refl)

from-1 : (n a0 a1 a2 a3 m : ℤ) (ns : List ℤ) (k0 k1 k2 k3 : Option RefValue)
    → answers (goes-alone (found rest-1 24 12 n a1 (kept a0 a1 a2 a3 m ns k0 k1 k2 k3))) ok (kept a0 a2 a3 (pos 0) m ns k0 k2 k3 None)
from-1 n a0 a1 a2 a3 m ns k0 k1 k2 k3 = (refl, refl)

from-2 : (n a0 a1 a2 a3 m : ℤ) (ns : List ℤ) (k0 k1 k2 k3 : Option RefValue)
    → answers (goes-alone (found rest-2 27 11 n a2 (kept a0 a1 a2 a3 m ns k0 k1 k2 k3))) ok (kept a0 a1 a3 (pos 0) m ns k0 k1 k3 None)
from-2 n a0 a1 a2 a3 m ns k0 k1 k2 k3 = (refl, refl)

from-3 : (n a0 a1 a2 a3 m : ℤ) (ns : List ℤ) (k0 k1 k2 k3 : Option RefValue)
    → answers (goes-alone (found rest-3 30 10 n a3 (kept a0 a1 a2 a3 m ns k0 k1 k2 k3))) ok (kept a0 a1 a2 (pos 0) m ns k0 k1 k2 None)
from-3 n a0 a1 a2 a3 m ns k0 k1 k2 k3 = (refl, refl)

-- What is asked of an outcome, at each choice.
pub at-choice : {X : Type 0} (P : X → Type 0) (b : Bool) (x y : X) → (b ≡ true → P x) → (b ≡ false → P y) → P (cond b x y)
at-choice P true x y f g = f refl
at-choice P false x y f g = g refl

abbrev pub unadvised : ℤ → Cells → Outcome
unadvised n c = alone unadvise_body 4 (entered (value.Int n ∷ [])) c

-- The first place whose cookie is the number decides.
pub removes : (P : Outcome → Type 0) (n a0 a1 a2 a3 m : ℤ) (ns : List ℤ) (k0 k1 k2 k3 : Option RefValue)
    → (int_lt (pos 0) n ≡ true → is_at n a0 ≡ true → (r : Outcome) → answers r ok (kept a1 a2 a3 (pos 0) m ns k1 k2 k3 None) → P r)
    → (int_lt (pos 0) n ≡ true → is_at n a0 ≡ false → is_at n a1 ≡ true → (r : Outcome) → answers r ok (kept a0 a2 a3 (pos 0) m ns k0 k2 k3 None) → P r)
    → (int_lt (pos 0) n ≡ true → is_at n a0 ≡ false → is_at n a1 ≡ false → is_at n a2 ≡ true → (r : Outcome) → answers r ok (kept a0 a1 a3 (pos 0) m ns k0 k1 k3 None) → P r)
    → (int_lt (pos 0) n ≡ true → is_at n a0 ≡ false → is_at n a1 ≡ false → is_at n a2 ≡ false → is_at n a3 ≡ true → (r : Outcome) → answers r ok (kept a0 a1 a2 (pos 0) m ns k0 k1 k2 None) → P r)
    → (int_lt (pos 0) n ≡ true → is_at n a0 ≡ false → is_at n a1 ≡ false → is_at n a2 ≡ false → is_at n a3 ≡ false → (r : Outcome) → answers r no_connection (kept a0 a1 a2 a3 m ns k0 k1 k2 k3) → P r)
    → (int_lt (pos 0) n ≡ false → (r : Outcome) → answers r no_connection (kept a0 a1 a2 a3 m ns k0 k1 k2 k3) → P r)
    → P (unadvised n (kept a0 a1 a2 a3 m ns k0 k1 k2 k3))
removes P n a0 a1 a2 a3 m ns k0 k1 k2 k3 f0 f1 f2 f3 f4 f5 =
    let c : Cells = kept a0 a1 a2 a3 m ns k0 k1 k2 k3 in
    let Q : Outcome → Type 0 = λ r. P (goes-alone r) in
    let x0 : Outcome = found rest-0 21 13 n a0 c in
    let x1 : Outcome = found rest-1 24 12 n a1 c in
    let x2 : Outcome = found rest-2 27 11 n a2 c in
    let x3 : Outcome = found rest-3 30 10 n a3 c in
    let none : Outcome = refused 21 (value.Int (less n a3)) (value.Int a3) n c in
    let no : Outcome = refused 4 (value.Int (pos 0)) no_number n c in
    let y3 : Outcome = cond (is_at n a3) x3 none in
    let y2 : Outcome = cond (is_at n a2) x2 y3 in
    let y1 : Outcome = cond (is_at n a1) x1 y2 in
    let y0 : Outcome = cond (is_at n a0) x0 y1 in
    subst Q (sym (unadvise-steps n a0 a1 a2 a3 m ns k0 k1 k2 k3))
    (at-choice Q (int_lt (pos 0) n) y0 no
    (λ t. at-choice Q (is_at n a0) x0 y1
    (λ t0. f0 t t0 (goes-alone x0) (from-0 n a0 a1 a2 a3 m ns k0 k1 k2 k3))
    (λ u0. at-choice Q (is_at n a1) x1 y2
    (λ t1. f1 t u0 t1 (goes-alone x1) (from-1 n a0 a1 a2 a3 m ns k0 k1 k2 k3))
    (λ u1. at-choice Q (is_at n a2) x2 y3
    (λ t2. f2 t u0 u1 t2 (goes-alone x2) (from-2 n a0 a1 a2 a3 m ns k0 k1 k2 k3))
    (λ u2. at-choice Q (is_at n a3) x3 none
    (λ t3. f3 t u0 u1 u2 t3 (goes-alone x3) (from-3 n a0 a1 a2 a3 m ns k0 k1 k2 k3))
    (λ u3. f4 t u0 u1 u2 u3 (goes-alone none) (refl, refl))))))
    (λ u. f5 u (goes-alone no) (refl, refl)))
