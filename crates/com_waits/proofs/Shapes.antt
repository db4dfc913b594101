-- The shape of what is open in a lane: a pump stands at the bottom, a call waits above calls that were issued before it, and a body
-- of a call that was not posted stands on the Out of its call.
use Rattle.std.proofs.Common.{subst, sym, ◌⊎◌, inl, inr, eqb-true, arith}
use Rattle.std.specs.Prelude.{◌≡◌, refl, ℕ, ◌+◌, ◌≤◌, ◌<◌, true, false, ◌==◌, List, [], ◌∷◌, Option, Some}
use Rattle.com_base.specs.declared.value.Value.{Value}
use Rattle.com_model.specs.declared.deeds.Deed.{Deed}
use Rattle.com_model.specs.declared.deeds.Deed.TheVariants as deed
use Rattle.com_model.specs.declared.deeds.Entry.{Entry}
use Rattle.com_model.specs.declared.keeps.Issue.{Issue}
use Rattle.com_model.specs.declared.keeps.Opener.{Opener}
use Rattle.com_model.specs.declared.keeps.Opener.TheVariants.{Pumps, Waits, Enters}
use Rattle.com_model.specs.declared.scenario.Scenario.{Scenario}
use Rattle.com_model.specs.Lists.{first, without_first}
use Rattle.com_model.specs.Openers.{effect, opened, openers}
use Rattle.com_model.specs.Apartments.{next_sta}
use Rattle.com_model.specs.Objects.{objects}
use Rattle.com_model.specs.Calls.{issue, calls, is_post, route_of}
use Rattle.com_model.specs.Formed.{Formed}
use Rattle.com_model.specs.Sight.{sight}
use Rattle.com_model.specs.Rules.{next, legal}
use Rattle.com_model.specs.Safe.{maker, MadeOnTop}
use Rattle.com_model.proofs.Scenes.{GoodOpeners}
use Rattle.com_model.proofs.Kept.{legal-kept}
use Rattle.com_laws_safety.proofs.Sources.{next-source}
use Rattle.com_laws_safety.proofs.OnTop.{made-on-top}
use Rattle.com_laws_balance.proofs.Counts.{Among}
use Rattle.com_laws_balance.proofs.Steps.{waits-number}
use Rattle.com_laws_balance.proofs.Directs.{openers-own, openers-other, issue-stays, waits-issued}
use Rattle.com_laws_balance.proofs.Tops.{Tops, next-tops, RuleDeed, not-enter}

-- Each call that stands open here has a smaller number.
abbrev pub Under : ℕ → List Opener → Type 0
Under c [] = Unit {0}
Under c (Pumps n ∷ os) = Under c os
Under c (Waits d ∷ os) = (d < c) × Under c os
Under c (Enters d o a ∷ os) = (d < c) × Under c os

abbrev pub Seat : (ℕ → Option Issue) → ℕ → List Opener → Type 0
Seat i c os = (is_post (route_of (i c)) ≡ true) ⊎ (first os ≡ Some (Waits c))

abbrev pub Shape : (ℕ → Option Issue) → List Opener → Type 0
Shape i [] = Unit {0}
Shape i (Pumps n ∷ os) = os ≡ []
Shape i (Waits c ∷ os) = Under c os × Shape i os
Shape i (Enters c o a ∷ os) = Seat i c os × Shape i os

shape-rest : (i : ℕ → Option Issue) (os : List Opener) → Shape i os → Shape i (without_first os)
shape-rest i [] p = tt
shape-rest i (Pumps n ∷ os) p = subst (Shape i) (sym p) tt
shape-rest i (Waits c ∷ os) p = p.1
shape-rest i (Enters c o a ∷ os) p = p.1

under-all : (c : ℕ) (os : List Opener) → ((d : ℕ) → Among (Waits d) os → d < c) → ((d o a : ℕ) → Among (Enters d o a) os → d < c) → Under c os
under-all c [] f g = tt
under-all c (Pumps n ∷ os) f g = under-all c os (λ d m. f d (inr m)) (λ d o a m. g d o a (inr m))
under-all c (Waits d ∷ os) f g = (f d (inl refl), under-all c os (λ k m. f k (inr m)) (λ k o a m. g k o a (inr m)))
under-all c (Enters d o a ∷ os) f g = (g d o a (inl refl), under-all c os (λ k m. f k (inr m)) (λ k u b m. g k u b (inr m)))

pub under-enter : (c d o a : ℕ) (os : List Opener) → Under d os → Among (Enters c o a) os → c < d
under-enter c d o a [] u m = absurd m
under-enter c d o a (Pumps n ∷ os) u (inr m) = under-enter c d o a os u m
under-enter c d o a (Pumps n ∷ os) u (inl e) = cc
under-enter c d o a (Waits k ∷ os) u (inr m) = under-enter c d o a os u.1 m
under-enter c d o a (Waits k ∷ os) u (inl e) = cc
under-enter c d o a (Enters k x b ∷ os) u (inr m) = under-enter c d o a os u.1 m
under-enter c d o a (Enters k x b ∷ os) u (inl e) = subst (λ (j : ℕ). j < d) (same-call e) u.0
  where
    same-call : Enters k x b ≡ Enters c o a → k ≡ c
    same-call e = cc

good-enter : (n m b : ℕ) (os : List Opener) (c o a : ℕ) → GoodOpeners n m b os → Among (Enters c o a) os → c ≤ m
good-enter n m b [] c o a g k = absurd k
good-enter n m b (Pumps x ∷ os) c o a g (inr k) = good-enter n m b os c o a g k
good-enter n m b (Pumps x ∷ os) c o a g (inl e) = cc
good-enter n m b (Waits x ∷ os) c o a g (inr k) = good-enter n m b os c o a g k
good-enter n m b (Waits x ∷ os) c o a g (inl e) = cc
good-enter n m b (Enters x y z ∷ os) c o a g (inr k) = good-enter n m b os c o a g.1 k
good-enter n m b (Enters x y z ∷ os) c o a g (inl e) = subst (λ (j : ℕ). j ≤ m) (same-call e) g.0.0
  where
    same-call : Enters x y z ≡ Enters c o a → x ≡ c
    same-call e = cc

-- ---- what was issued stays

seat-later : (i j : ℕ → Option Issue) (c : ℕ) (os : List Opener) → j c ≡ i c → Seat i c os → Seat j c os
seat-later i j c os e (inl p) = inl (subst (λ (x : Option Issue). is_post (route_of x) ≡ true) (sym e) p)
seat-later i j c os e (inr p) = inr p

shape-later : (i j : ℕ → Option Issue) (n m b : ℕ) (os : List Opener) → ((c : ℕ) → c ≤ m → j c ≡ i c) → GoodOpeners n m b os → Shape i os → Shape j os
shape-later i j n m b [] f g p = tt
shape-later i j n m b (Pumps x ∷ os) f g p = p
shape-later i j n m b (Waits c ∷ os) f g p = (p.0, shape-later i j n m b os f g p.1)
shape-later i j n m b (Enters c o a ∷ os) f g p = (seat-later i j c os (f c g.0.0) p.0, shape-later i j n m b os f g.1 p.1)

-- ---- one entry

pump-bare : (os : List Opener) (n : ℕ) → MadeOnTop (maker (deed.Pump n)) os → os ≡ []
pump-bare [] n p = refl
pump-bare (o ∷ os) n p = absurd p

ruled-seat : (s : Scenario) (h : List Entry) (l c o a : ℕ) (t : Option ℕ) (vs : List Value) → RuleDeed (sight s h) l (deed.Enter c o a t vs) → Seat (issue h) c (openers h l)
ruled-seat s h l c o a t vs (inl p) = inr p.0
ruled-seat s h l c o a t vs (inr p) = inl p.0

enter-seat : (s : Scenario) (h : List Entry) (l c o a : ℕ) (t : Option ℕ) (vs : List Value) → Tops (sight s h) l (deed.Enter c o a t vs) → Seat (issue h) c (openers h l)
enter-seat s h l c o a t vs (inl p) = absurd (not-enter (sight s h) l c o a t vs p)
enter-seat s h l c o a t vs (inr p) = ruled-seat s h l c o a t vs p

-- What opens has its place.
abbrev Placed : Scenario → List Entry → ℕ → Deed → Type 0
Placed s h l (deed.Pump n) = openers h l ≡ []
Placed s h l (deed.Out c o i m r k bytes) = c ≡ calls h + 1
Placed s h l (deed.Enter c o a t vs) = Seat (issue h) c (openers h l)
Placed s h l _ = Unit {0}

placed : (s : Scenario) (h : List Entry) (l : ℕ) (d : Deed) → next s h l ≡ Some d → MadeOnTop (maker d) (openers h l) → Tops (sight s h) l d → Placed s h l d
placed s h l (deed.Pump n) q p t = pump-bare (openers h l) n p
placed s h l (deed.Out c o i m r k bytes) q p t = waits-number s h l c (deed.Out c o i m r k bytes) q refl
placed s h l (deed.Enter c o a x vs) q p t = enter-seat s h l c o a x vs t
placed s h l _ q p t = tt

own-shape : (s : Scenario) (h : List Entry) (j : ℕ → Option Issue) (l : ℕ) (d : Deed) → Placed s h l d → ((c o a : ℕ) (t : Option ℕ) (vs : List Value) → d ≡ deed.Enter c o a t vs → j c ≡ issue h c) → ((c : ℕ) → c ≡ calls h + 1 → Under c (openers h l)) → Shape j (openers h l) → Shape j (opened (effect d) (openers h l))
own-shape s h j l (deed.Pump n) p f u q = p
own-shape s h j l (deed.Out c o i m r k bytes) p f u q = (u c p, q)
own-shape s h j l (deed.Enter c o a t vs) p f u q = (seat-later (issue h) j c (openers h l) (f c o a t vs refl) p, q)
own-shape s h j l deed.EndPump p f u q = shape-rest j (openers h l) q
own-shape s h j l (deed.Back c hr v) p f u q = shape-rest j (openers h l) q
own-shape s h j l (deed.Leave c hr v bytes) p f u q = shape-rest j (openers h l) q
own-shape s h j l _ p f u q = q

not-out : (h : List Entry) (l c o a : ℕ) (t : Option ℕ) (vs : List Value) → issue (record { lane = l; deed = deed.Enter c o a t vs } ∷ h) c ≡ issue h c
not-out h l c o a t vs = refl

enter-issue : (h : List Entry) (e : Entry) (c o a : ℕ) (t : Option ℕ) (vs : List Value) → e.deed ≡ deed.Enter c o a t vs → issue (e ∷ h) c ≡ issue h c
enter-issue h e c o a t vs z = by-deed e.lane e.deed z
  where
    by-deed : (l : ℕ) (d : Deed) → d ≡ deed.Enter c o a t vs → issue (record { lane = l; deed = d } ∷ h) c ≡ issue h c
    by-deed l d z = subst (λ (x : Deed). issue (record { lane = l; deed = x } ∷ h) c ≡ issue h c) (sym z) (not-out h l c o a t vs)

under-next : (s : Scenario) (h : List Entry) (l c : ℕ) → Formed s → legal s h → c ≡ calls h + 1 → Under c (openers h l)
under-next s h l c f p e =
    under-all c (openers h l) (λ d m. let k : d ≤ calls h = (waits-issued s h l d p m).0 in omega (arith, k, e))
    (λ d o a m. let k : d ≤ calls h = good-enter (objects h) (calls h) (next_sta h) (openers h l) d o a ((legal-kept s h f p).opens l) m in omega (arith, k, e))

step-shape : (s : Scenario) (h : List Entry) (e : Entry) (l : ℕ) → Formed s → legal s (e ∷ h) → Shape (issue (e ∷ h)) (openers h l) → Shape (issue (e ∷ h)) (openers (e ∷ h) l)
step-shape s h e l f p q =
    elim (e.lane == l) as (λ t. (e.lane == l) ≡ t → Shape (issue (e ∷ h)) (openers (e ∷ h) l)) [
      | true ↦ λ z. subst (λ (k : ℕ). Shape (issue (e ∷ h)) (openers h k) → Shape (issue (e ∷ h)) (openers (e ∷ h) k)) (eqb-true e.lane l z)
          (λ r. subst (Shape (issue (e ∷ h))) (sym (openers-own h e))
          (own-shape s h (issue (e ∷ h)) e.lane e.deed
          (placed s h e.lane e.deed p.1 (made-on-top s f h e.lane e.deed (next-source s h e.lane e.deed p.1)) (next-tops s h e p))
          (enter-issue h e) (λ c. under-next s h e.lane c f p.0) r)) q
      | false ↦ λ z. subst (Shape (issue (e ∷ h))) (sym (openers-other h e l z)) q
    ] refl

pub legal-shape : (s : Scenario) (h : List Entry) (l : ℕ) → Formed s → legal s h → Shape (issue h) (openers h l)
legal-shape s [] l f p = tt
legal-shape s (e ∷ h) l f p =
    step-shape s h e l f p
    (shape-later (issue h) (issue (e ∷ h)) (objects h) (calls h) (next_sta h) (openers h l) (λ c k. issue-stays s h e c p k) ((legal-kept s h f p.0).opens l) (legal-shape s h l f p.0))
