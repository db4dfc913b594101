-- The walk over the statements that remain, from one statement to the next.
use Rattle.std.proofs.Common.{◌≡◌, ℕ, zero, suc, ◌+◌, ◌<◌, ◌≤◌, List, [], ◌∷◌, length, drop, Option, Some, None, Bool, true, false, refl, sym, ap, subst, ◌∙◌, arith, slice_get, nat_lt, ◌^◌, if◌then◌else◌}
use Rattle.std.proofs.lemmas.Option.{none-some, same_Some, slice_get_within, get_or_from_slice_get}
use Rattle.std.proofs.lemmas.Bool.{ltb-false}
use Rattle.std.proofs.lemmas.List.{at_drop_more, drop-drop}
use Rattle.com_body.specs.declared.statements.Stmt.{Stmt}
use Rattle.com_body.specs.declared.frame.Cells.{Cells}
use Rattle.com_body.specs.Frames.{FrameView, moved}
use Rattle.com_body.specs.Bodies.{IsBody, skip_of, first_past_end}
use Rattle.com_body.specs.BodySteps.{Goes, Acts, effect_of, walk, body_step}

-- passing over n statements is walking on without them
pub walk-drop : (ss : List Stmt) (n : ℕ) (f : FrameView) (c : Cells) → walk ss n f c ≡ walk (drop n ss) 0 f c
walk-drop [] zero f c = refl
walk-drop [] (suc n) f c = refl
walk-drop (s ∷ rest) zero f c = refl
walk-drop (s ∷ rest) (suc n) f c = walk-drop rest n f c

-- where no skip passes the end, none does from any place
no_answer : {A : Type 0} (b : Bool) (k : A) (o : Option A) → (if b then Some k else o) ≡ None → (b ≡ false) × (o ≡ None)
no_answer true k o e = absurd (none-some k (sym e))
no_answer false k o e = (refl, e)

pub skip_inside : (ss : List Stmt) (k p : ℕ) (s : Stmt) → first_past_end ss k ≡ None → slice_get ss p ≡ Some s → p + 1 + skip_of s ≤ length ss
skip_inside [] k p s inside there = absurd (none-some s there)
skip_inside (x ∷ rest) k zero s inside there =
    let within = no_answer (nat_lt (length rest) (skip_of x)) k (first_past_end rest (k + 1)) inside in
    let P : Stmt → Type 0 = λ y. zero + 1 + skip_of y ≤ length (x ∷ rest) in
    subst P (same_Some x s there) (omega (arith, ltb-false (length rest) (skip_of x) within.0))
skip_inside (x ∷ rest) k (suc p) s inside there =
    let within = no_answer (nat_lt (length rest) (skip_of x)) k (first_past_end rest (k + 1)) inside in
    omega (arith, skip_inside rest (k + 1) p s within.1 there)

-- the place behind a local statement and what it passes over
pub next_place : (ss : List Stmt) (p n : ℕ) (s : Stmt) → IsBody ss → slice_get ss p ≡ Some s → n ≤ skip_of s → p + 1 + n < 2 ^ 32
next_place ss p n s body there passed = omega (arith, body.short, skip_inside ss 0 p s body.inside there, passed)

-- a local statement: the step from its place is the step from the place behind it and what it passes over
pub body_step-goes : (ss : List Stmt) (f g : FrameView) (c d : Cells) (s : Stmt) (n : ℕ) →
    slice_get ss f.place ≡ Some s → effect_of f c s ≡ Goes g d n → g.place ≡ f.place →
    body_step ss (moved g (n + 1)) d ≡ body_step ss f c
body_step-goes ss f g c d s n there goes place =
    let within : f.place < length ss = slice_get_within ss f.place s there in
    let rest : List Stmt = drop (f.place + 1) ss in
    let start : body_step ss f c ≡ walk (s ∷ rest) 0 f c = at_drop_more (λ xs. walk xs 0 f c) ss f.place s within ∙ ap (λ y. walk (y ∷ rest) 0 f c) (get_or_from_slice_get ss f.place s s there) in
    let one : walk (s ∷ rest) 0 f c ≡ walk rest n (moved g (n + 1)) d = ap (λ e. elim e [ Goes g' d' n' ↦ walk rest n' (moved g' (n' + 1)) d' | Acts a ↦ record { frame = moved f 1; cells = c; action = a } ]) goes in
    let over : walk rest n (moved g (n + 1)) d ≡ walk (drop n rest) 0 (moved g (n + 1)) d = walk-drop rest n (moved g (n + 1)) d in
    let there_again : drop n rest ≡ drop (g.place + (n + 1)) ss = drop-drop n (f.place + 1) ss ∙ ap (λ m. drop m ss) (omega (arith, place)) in
    sym (start ∙ one ∙ over ∙ ap (λ xs. walk xs 0 (moved g (n + 1)) d) there_again)
