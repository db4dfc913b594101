-- The lines of an explanation: of which lanes they are, and for which lane each waits.
use Rattle.std.proofs.Common.{subst, sym, ap, ◌∙◌, eqb-true}
use Rattle.std.specs.List.{cons_option}
use Rattle.std.specs.Prelude.{◌≡◌, refl, ℕ, Bool, true, false, cond, ◌==◌, ◌||◌, List, [], ◌∷◌, map, filter, filter_map, Option, Some, None, is_some, option_and_then, option_map}
use Rattle.com_model.specs.declared.deeds.Entry.{Entry}
use Rattle.com_model.specs.declared.keeps.Opener.{Opener}
use Rattle.com_model.specs.declared.scenario.Scenario.{Scenario}
use Rattle.com_model.specs.Lists.{first, is_member, one_to}
use Rattle.com_model.specs.Tables.{lanes}
use Rattle.com_model.specs.Openers.{openers}
use Rattle.com_model.specs.Formed.{Formed}
use Rattle.com_model.specs.Rules.{legal}
use Rattle.com_model.specs.Ends.{stuck}
use Rattle.com_laws_safety.proofs.Small.{not-both, or-right}
use Rattle.com_waits.specs.declared.reasons.Why.{Why}
use Rattle.com_waits.specs.declared.reasons.Wait.{Wait}
use Rattle.com_waits.specs.Reasons.{wait_of, waits_of, why, why_at}
use Rattle.com_waits.specs.Chains.{lane_named, next_in}
use Rattle.com_waits.specs.Laws.{leads}
use Rattle.com_waits.proofs.Served.{has-reasons}
use Rattle.com_laws_rings.specs.Rings.{IsLane, EachNamesLanes, LinesAreLanes}
use Rattle.com_laws_rings.proofs.Lanes.{flip, member-head, in-one-to, one-to-has}
use Rattle.com_laws_rings.proofs.Leading.{leading-lane, led-lane}

-- The lines of some lanes.
abbrev pub lines_of : Scenario → List Entry → List ℕ → List Wait
lines_of s h xs = filter_map (λ l. option_map (wait_of l) (why s h l)) xs

-- ---- each names lanes

leads-by : (s : Scenario) (h : List Entry) (l : ℕ) (y : Option Why) → why s h l ≡ y → leads s h l ≡ option_and_then lane_named y
leads-by s h l y e = ap (option_and_then lane_named) e

names-more : (s : Scenario) (h : List Entry) (l : ℕ) (ws : List Wait) (y : Option Why) → Formed s → legal s h → stuck s h ≡ true → IsLane s l → why s h l ≡ y → EachNamesLanes s h ws → EachNamesLanes s h (cons_option (option_map (wait_of l) y) ws)
names-more s h l ws None f p t i e k = k
names-more s h l ws (Some y) f p t i e k = (record { lane = i; reason = e; other = λ m q. led-lane s h l m f p t (leads-by s h l (Some y) e ∙ q) }, k)

each-names : (s : Scenario) (h : List Entry) (xs : List ℕ) → Formed s → legal s h → stuck s h ≡ true → ((l : ℕ) → is_member l xs ≡ true → IsLane s l) → EachNamesLanes s h (lines_of s h xs)
each-names s h [] f p t i = tt
each-names s h (x ∷ xs) f p t i = names-more s h x (lines_of s h xs) (why s h x) f p t (i x (member-head x xs)) refl (each-names s h xs f p t (λ l m. i l (or-right (l == x) (is_member l xs) m)))

pub names-lanes : (s : Scenario) (h : List Entry) → Formed s → legal s h → stuck s h ≡ true → EachNamesLanes s h (waits_of s h)
names-lanes s h f p t = each-names s h (one_to (lanes s)) f p t (λ l m. in-one-to (lanes s) l m)

-- ---- of which lanes they are

open-by : (s : Scenario) (h : List Entry) (l : ℕ) (x : Option Opener) → Formed s → legal s h → stuck s h ≡ true → first (openers h l) ≡ x → is_some x ≡ is_some (why_at s h x)
open-by s h l None f p t e = refl
open-by s h l (Some o) f p t e = sym (subst (λ (x : Option Opener). is_some (why_at s h x) ≡ true) e (has-reasons s h f p t l (ap (λ (x : Option Opener). is_some x) e)))

lanes-more : (l : ℕ) (ws : List Wait) (ls : List ℕ) (o : Bool) (y : Option Why) → o ≡ is_some y → map (λ (w : Wait). w.lane) ws ≡ ls → map (λ (w : Wait). w.lane) (cons_option (option_map (wait_of l) y) ws) ≡ cond o (l ∷ ls) ls
lanes-more l ws ls o None e k = k ∙ ap (λ (b : Bool). cond b (l ∷ ls) ls) (sym e)
lanes-more l ws ls o (Some y) e k = ap (λ (xs : List ℕ). l ∷ xs) k ∙ ap (λ (b : Bool). cond b (l ∷ ls) ls) (sym e)

each-lane : (s : Scenario) (h : List Entry) (xs : List ℕ) → Formed s → legal s h → stuck s h ≡ true → map (λ (w : Wait). w.lane) (lines_of s h xs) ≡ filter (λ l. is_some (first (openers h l))) xs
each-lane s h [] f p t = refl
each-lane s h (x ∷ xs) f p t = lanes-more x (lines_of s h xs) (filter (λ l. is_some (first (openers h l))) xs) (is_some (first (openers h x))) (why s h x) (open-by s h x (first (openers h x)) f p t refl) (each-lane s h xs f p t)

pub lines-are-lanes : (s : Scenario) (h : List Entry) → Formed s → legal s h → stuck s h ≡ true → LinesAreLanes s h (waits_of s h)
lines-are-lanes s h f p t = each-lane s h (one_to (lanes s)) f p t

-- ---- for which lane each waits

none-either : (m : Bool) (x : Option ℕ) → x ≡ None → cond m x None ≡ x
none-either true x e = refl
none-either false x e = sym e

skipped : (l x : ℕ) (m b : Bool) (here : Option ℕ) → (l == x) ≡ b → (b ≡ true → here ≡ None) → cond m here None ≡ cond (b || m) here None
skipped l x m true here z f = none-either m here (f refl)
skipped l x m false here z f = refl

next-more : (s : Scenario) (h : List Entry) (l x : ℕ) (m : Bool) (ws : List Wait) (y : Option Why) → why s h x ≡ y → next_in ws l ≡ cond m (leads s h l) None → next_in (cons_option (option_map (wait_of x) y) ws) l ≡ cond (l == x || m) (leads s h l) None
next-more s h l x m ws None e k = k ∙ skipped l x m (l == x) (leads s h l) refl (λ z. subst (λ (j : ℕ). leads s h j ≡ None) (sym (eqb-true l x z)) (leads-by s h x None e))
next-more s h l x m ws (Some y) e k = by-test (x == l) refl
  where
    by-test : (b : Bool) → (x == l) ≡ b → cond b (lane_named y) (next_in ws l) ≡ cond (l == x || m) (leads s h l) None
    by-test true z = subst (λ (j : ℕ). lane_named y ≡ leads s h j) (eqb-true x l z) (sym (leads-by s h x (Some y) e)) ∙ ap (λ (b : Bool). cond (b || m) (leads s h l) None) (sym (flip x l true z))
    by-test false z = k ∙ ap (λ (b : Bool). cond (b || m) (leads s h l) None) (sym (flip x l false z))

next-lines : (s : Scenario) (h : List Entry) (l : ℕ) (xs : List ℕ) → next_in (lines_of s h xs) l ≡ cond (is_member l xs) (leads s h l) None
next-lines s h l [] = refl
next-lines s h l (x ∷ xs) = next-more s h l x (is_member l xs) (lines_of s h xs) (why s h x) refl (next-lines s h l xs)

out-of-range : (s : Scenario) (h : List Entry) (l : ℕ) (x : Option ℕ) → legal s h → is_member l (one_to (lanes s)) ≡ false → leads s h l ≡ x → None ≡ x
out-of-range s h l None p z e = refl
out-of-range s h l (Some m) p z e =
    let i : IsLane s l = leading-lane s h l p (ap (λ (x : Option ℕ). is_some x) e) in
    absurd (not-both (is_member l (one_to (lanes s))) (one-to-has (lanes s) l i.0 i.1) z)

pub next-is : (s : Scenario) (h : List Entry) (l : ℕ) → legal s h → next_in (waits_of s h) l ≡ leads s h l
next-is s h l p = next-lines s h l (one_to (lanes s)) ∙ by-range (is_member l (one_to (lanes s))) refl
  where
    by-range : (b : Bool) → is_member l (one_to (lanes s)) ≡ b → cond b (leads s h l) None ≡ leads s h l
    by-range true z = refl
    by-range false z = out-of-range s h l (leads s h l) p z refl
