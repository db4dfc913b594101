-- Each call of a legal history has one Out, at most one Enter, one Leave and one Back, in their order.
use Rattle.std.proofs.Common.{subst, sym, eqb-true, arith}
use Rattle.std.proofs.lemmas.Grind.{common_steps}
use Rattle.std.specs.Prelude.{◌≡◌, refl, ℕ, zero, suc, ◌+◌, ◌≤◌, Bool, true, false, not, cond, ◌==◌, ◌||◌, List, [], ◌∷◌, ◌++◌, Option, Some, None, is_none, is_some, filter, pos, negsuc, nat_lt}
use Rattle.com_model.specs.declared.deeds.Deed.{Deed}
use Rattle.com_model.specs.declared.deeds.Deed.TheVariants as deed
use Rattle.com_model.specs.declared.deeds.Entry.{Entry}
use Rattle.com_model.specs.declared.deeds.Route.TheVariants as route
use Rattle.com_model.specs.declared.scenario.Scenario.{Scenario}
use Rattle.com_refs_books.specs.Counting.{count_if}
use Rattle.com_model.specs.Lists.{first, is_member, without_first}
use Rattle.com_model.specs.Openers.{Opener, Pumps, Waits, Enters, Closes, Keeps, Backs, Leaves, effect, opened, openers, open_calls, fits}
use Rattle.com_model.specs.Calls.{Issue, Admission, issues, admits, issue, admitted, issue_or, admission_or, lane_of, calls}
use Rattle.com_model.specs.Waiting.{Posts, Delays, post_effect, posted_last, postings}
use Rattle.com_model.specs.Rules.{next, legal}
use Rattle.com_model.specs.Sight.{sight}
use Rattle.com_model.specs.Safe.{IsOut, IsEnter, IsLeave, IsBack, event, Stage, stage_after, stage, ComesOnce, once}
use Rattle.com_model.proofs.Comes.{Reaches, by_top, by_post, Comes, sort_of, next-comes}
use Rattle.com_model.proofs.Stacks.{next-fits}

-- ---- small facts

differ : (b : Bool) → (b ≡ true → ⊥) → b ≡ false
differ true p = absurd (p refl)
differ false p = refl

not-both : (b : Bool) → b ≡ true → b ≡ false → ⊥
not-both b p q = cc

not-of : (p q : Bool) → p ≡ not q → p ≡ true → q ≡ false
not-of p true e q = cc
not-of p false e q = refl

or-right : (p q : Bool) → q ≡ true → (p || q) ≡ true
or-right true q e = refl
or-right false q e = e

or-both : (p q : Bool) → p ≡ false → q ≡ false → (p || q) ≡ false
or-both true q p e = cc
or-both false q p e = e

or-split : (p q : Bool) → (p || q) ≡ false → (p ≡ false) × (q ≡ false)
or-split true q e = cc
or-split false q e = (refl, e)

-- ---- what the openers of a lane say of their calls

abbrev lane_in : Option Admission → ℕ
lane_in None = 0
lane_in (Some a) = a.lane

abbrev entered_calls : List Opener → List ℕ
entered_calls [] = []
entered_calls (Enters c o a ∷ os) = c ∷ entered_calls os
entered_calls (_ ∷ os) = entered_calls os

abbrev Held : (ℕ → Stage) → (ℕ → Option Issue) → (ℕ → Option Admission) → ℕ → Opener → Type 0
Held t i x l (Pumps n) = Unit {0}
Held t i x l (Waits c) = ((t c).out ≡ true) × ((t c).back ≡ false) × (lane_of (i c) ≡ l)
Held t i x l (Enters c o a) = ((t c).enter ≡ true) × ((t c).leave ≡ false) × (lane_in (x c) ≡ l)

abbrev Fresh : Opener → List Opener → Type 0
Fresh (Pumps n) os = Unit {0}
Fresh (Waits c) os = is_member c (open_calls os) ≡ false
Fresh (Enters c o a) os = is_member c (entered_calls os) ≡ false

abbrev Stacked : (ℕ → Stage) → (ℕ → Option Issue) → (ℕ → Option Admission) → ℕ → List Opener → Type 0
Stacked t i x l [] = Unit {0}
Stacked t i x l (o ∷ os) = Held t i x l o × Fresh o os × Stacked t i x l os

moved-all : (t u : ℕ → Stage) (i j : ℕ → Option Issue) (x y : ℕ → Option Admission) (l : ℕ) → ((o : Opener) → Held t i x l o → Held u j y l o) → (os : List Opener) → Stacked t i x l os → Stacked u j y l os
moved-all t u i j x y l m [] p = tt
moved-all t u i j x y l m (o ∷ os) p = (m o p.0, p.1, moved-all t u i j x y l m os p.2)

-- ---- an Out and an Enter of a new call

other-out : (t : ℕ → Stage) (d c : ℕ) → (t d).out ≡ false → (t c).out ≡ true → (d == c) ≡ false
other-out t d c p q = differ (d == c) (λ e. not-both (t c).out q (subst (λ (k : ℕ). (t k).out ≡ false) (eqb-true d c e) p))

other-enter : (t : ℕ → Stage) (d c : ℕ) → (t d).enter ≡ false → (t c).enter ≡ true → (d == c) ≡ false
other-enter t d c p q = differ (d == c) (λ e. not-both (t c).enter q (subst (λ (k : ℕ). (t k).enter ≡ false) (eqb-true d c e) p))

out-moves : (t : ℕ → Stage) (i : ℕ → Option Issue) (x : ℕ → Option Admission) (l : ℕ) (r : Issue) → (t r.call).out ≡ false → (o : Opener) → Held t i x l o → Held (λ c. stage_after (IsOut r.call) c (t c)) (λ c. issue_or (Some r) c (i c)) x l o
out-moves t i x l r f (Pumps n) p = tt
out-moves t i x l r f (Waits c) p = (or-right (r.call == c) (t c).out p.0, p.1, subst (λ (b : Bool). lane_of (cond b (Some r) (i c)) ≡ l) (sym (other-out t r.call c f p.0)) p.2)
out-moves t i x l r f (Enters c o a) p = p

enter-moves : (t : ℕ → Stage) (i : ℕ → Option Issue) (x : ℕ → Option Admission) (l : ℕ) (r : Admission) → (t r.call).enter ≡ false → (o : Opener) → Held t i x l o → Held (λ c. stage_after (IsEnter r.call) c (t c)) i (λ c. admission_or (Some r) c (x c)) l o
enter-moves t i x l r f (Pumps n) p = tt
enter-moves t i x l r f (Waits c) p = p
enter-moves t i x l r f (Enters c o a) p = (or-right (r.call == c) (t c).enter p.0, p.1, subst (λ (b : Bool). lane_in (cond b (Some r) (x c)) ≡ l) (sym (other-enter t r.call c f p.0)) p.2)

fresh-out : (t : ℕ → Stage) (i : ℕ → Option Issue) (x : ℕ → Option Admission) (l d : ℕ) → (t d).out ≡ false → (os : List Opener) → Stacked t i x l os → is_member d (open_calls os) ≡ false
fresh-out t i x l d f [] p = refl
fresh-out t i x l d f (Pumps n ∷ os) p = fresh-out t i x l d f os p.2
fresh-out t i x l d f (Waits c ∷ os) p = or-both (d == c) (is_member d (open_calls os)) (other-out t d c f p.0.0) (fresh-out t i x l d f os p.2)
fresh-out t i x l d f (Enters c o a ∷ os) p = fresh-out t i x l d f os p.2

fresh-enter : (t : ℕ → Stage) (i : ℕ → Option Issue) (x : ℕ → Option Admission) (l d : ℕ) → (t d).enter ≡ false → (os : List Opener) → Stacked t i x l os → is_member d (entered_calls os) ≡ false
fresh-enter t i x l d f [] p = refl
fresh-enter t i x l d f (Pumps n ∷ os) p = fresh-enter t i x l d f os p.2
fresh-enter t i x l d f (Waits c ∷ os) p = fresh-enter t i x l d f os p.2
fresh-enter t i x l d f (Enters c o a ∷ os) p = or-both (d == c) (is_member d (entered_calls os)) (other-enter t d c f p.0.0) (fresh-enter t i x l d f os p.2)

-- ---- a Leave and a Back of the call on top

leave-rest : (t : ℕ → Stage) (i : ℕ → Option Issue) (x : ℕ → Option Admission) (l d : ℕ) (os : List Opener) → is_member d (entered_calls os) ≡ false → Stacked t i x l os → Stacked (λ c. stage_after (IsLeave d) c (t c)) i x l os
leave-rest t i x l d [] f p = tt
leave-rest t i x l d (Pumps n ∷ os) f p = (tt, tt, leave-rest t i x l d os f p.2)
leave-rest t i x l d (Waits c ∷ os) f p = (p.0, p.1, leave-rest t i x l d os f p.2)
leave-rest t i x l d (Enters c o a ∷ os) f p =
    let g : ((d == c) ≡ false) × (is_member d (entered_calls os) ≡ false) = or-split (d == c) (is_member d (entered_calls os)) f in
    ((p.0.0, or-both (d == c) (t c).leave g.0 p.0.1, p.0.2), p.1, leave-rest t i x l d os g.1 p.2)

back-rest : (t : ℕ → Stage) (i : ℕ → Option Issue) (x : ℕ → Option Admission) (l d : ℕ) (os : List Opener) → is_member d (open_calls os) ≡ false → Stacked t i x l os → Stacked (λ c. stage_after (IsBack d) c (t c)) i x l os
back-rest t i x l d [] f p = tt
back-rest t i x l d (Pumps n ∷ os) f p = (tt, tt, back-rest t i x l d os f p.2)
back-rest t i x l d (Enters c o a ∷ os) f p = (p.0, p.1, back-rest t i x l d os f p.2)
back-rest t i x l d (Waits c ∷ os) f p =
    let g : ((d == c) ≡ false) × (is_member d (open_calls os) ≡ false) = or-split (d == c) (is_member d (open_calls os)) f in
    ((p.0.0, or-both (d == c) (t c).back g.0 p.0.1, p.0.2), p.1, back-rest t i x l d os g.1 p.2)

other-lane : (w : ℕ → ℕ) (d c l m : ℕ) → w d ≡ l → w c ≡ m → (l ≡ m → ⊥) → (d == c) ≡ false
other-lane w d c l m p q n = differ (d == c) (λ e. n (subst (λ (k : ℕ). k ≡ m) p (subst (λ (k : ℕ). w k ≡ m) (sym (eqb-true d c e)) q)))

leave-moves : (t : ℕ → Stage) (i : ℕ → Option Issue) (x : ℕ → Option Admission) (l m d : ℕ) → lane_in (x d) ≡ l → (l ≡ m → ⊥) → (o : Opener) → Held t i x m o → Held (λ c. stage_after (IsLeave d) c (t c)) i x m o
leave-moves t i x l m d e n (Pumps k) p = tt
leave-moves t i x l m d e n (Waits c) p = p
leave-moves t i x l m d e n (Enters c o a) p = (p.0, or-both (d == c) (t c).leave (other-lane (λ k. lane_in (x k)) d c l m e p.2 n) p.1, p.2)

back-moves : (t : ℕ → Stage) (i : ℕ → Option Issue) (x : ℕ → Option Admission) (l m d : ℕ) → lane_of (i d) ≡ l → (l ≡ m → ⊥) → (o : Opener) → Held t i x m o → Held (λ c. stage_after (IsBack d) c (t c)) i x m o
back-moves t i x l m d e n (Pumps k) p = tt
back-moves t i x l m d e n (Enters c o a) p = p
back-moves t i x l m d e n (Waits c) p = (p.0, or-both (d == c) (t c).back (other-lane (λ k. lane_of (i k)) d c l m e p.2 n) p.1, p.2)

-- ---- the invariant

record Inv (h : List Entry) : Type 0 where
  known : (c : ℕ) → (stage h c).out ≡ true → c ≤ calls h
  posted : (c : ℕ) → is_member c (postings h) ≡ true → (stage h c).out ≡ true
  backed : (c : ℕ) → (stage h c).out ≡ false → (stage h c).back ≡ false
  called : (c : ℕ) → (stage h c).out ≡ false → (stage h c).enter ≡ false
  from_one : (stage h 0).out ≡ false
  gone : (c : ℕ) → (stage h c).enter ≡ false → (stage h c).leave ≡ false
  entered : (c : ℕ) → is_none (admitted h c) ≡ not (stage h c).enter
  stacks : (l : ℕ) → Stacked (stage h) (issue h) (admitted h) l (openers h l)

top-waits : (t : ℕ → Stage) (i : ℕ → Option Issue) (x : ℕ → Option Admission) (l c : ℕ) (os : List Opener) → Stacked t i x l os → first os ≡ Some (Waits c) → Held t i x l (Waits c)
top-waits t i x l c [] p e = cc
top-waits t i x l c (o ∷ os) p e = subst (λ (y : Opener). Held t i x l y) (same-opener o (Waits c) e) p.0
  where
    same-opener : (a b : Opener) → Some a ≡ Some b → a ≡ b
    same-opener a b e = cc

top-enters : (t : ℕ → Stage) (i : ℕ → Option Issue) (x : ℕ → Option Admission) (l c : ℕ) (os : List Opener) → fits (Closes (Leaves c)) os → Stacked t i x l os → ((t c).enter ≡ true) × ((t c).leave ≡ false) × (lane_in (x c) ≡ l)
top-enters t i x l c [] f p = absurd f
top-enters t i x l c (Pumps n ∷ os) f p = absurd f
top-enters t i x l c (Waits d ∷ os) f p = absurd f
top-enters t i x l c (Enters d o a ∷ os) f p = subst (λ (k : ℕ). ((t k).enter ≡ true) × ((t k).leave ≡ false) × (lane_in (x k) ≡ l)) (sym f) p.0

top-outs : (t : ℕ → Stage) (i : ℕ → Option Issue) (x : ℕ → Option Admission) (l c : ℕ) (os : List Opener) → fits (Closes (Backs c)) os → Stacked t i x l os → ((t c).out ≡ true) × ((t c).back ≡ false) × (lane_of (i c) ≡ l)
top-outs t i x l c [] f p = absurd f
top-outs t i x l c (Pumps n ∷ os) f p = absurd f
top-outs t i x l c (Enters d o a ∷ os) f p = absurd f
top-outs t i x l c (Waits d ∷ os) f p = subst (λ (k : ℕ). ((t k).out ≡ true) × ((t k).back ≡ false) × (lane_of (i k) ≡ l)) (sym f) p.0

pop-leave : (t : ℕ → Stage) (i : ℕ → Option Issue) (x : ℕ → Option Admission) (l c : ℕ) (os : List Opener) → fits (Closes (Leaves c)) os → Stacked t i x l os → Stacked (λ k. stage_after (IsLeave c) k (t k)) i x l (without_first os)
pop-leave t i x l c [] f p = absurd f
pop-leave t i x l c (Pumps n ∷ os) f p = absurd f
pop-leave t i x l c (Waits d ∷ os) f p = absurd f
pop-leave t i x l c (Enters d o a ∷ os) f p = leave-rest t i x l c os (subst (λ (k : ℕ). is_member k (entered_calls os) ≡ false) (sym f) p.1) p.2

pop-back : (t : ℕ → Stage) (i : ℕ → Option Issue) (x : ℕ → Option Admission) (l c : ℕ) (os : List Opener) → fits (Closes (Backs c)) os → Stacked t i x l os → Stacked (λ k. stage_after (IsBack c) k (t k)) i x l (without_first os)
pop-back t i x l c [] f p = absurd f
pop-back t i x l c (Pumps n ∷ os) f p = absurd f
pop-back t i x l c (Enters d o a ∷ os) f p = absurd f
pop-back t i x l c (Waits d ∷ os) f p = back-rest t i x l c os (subst (λ (k : ℕ). is_member k (open_calls os) ≡ false) (sym f) p.1) p.2

pop-any : (t : ℕ → Stage) (i : ℕ → Option Issue) (x : ℕ → Option Admission) (l : ℕ) (os : List Opener) → Stacked t i x l os → Stacked t i x l (without_first os)
pop-any t i x l [] p = tt
pop-any t i x l (o ∷ os) p = p.2

-- ---- one entry

known-out : (b : Bool) (d c n : ℕ) (o : Bool) → (d == c) ≡ b → (b || o) ≡ true → d ≡ n + 1 → (o ≡ true → c ≤ n) → c ≤ 1 + n
known-out true d c n o q e z k = let y : d ≡ c = eqb-true d c q in omega (arith, y, z)
known-out false d c n o q e z k = let y : c ≤ n = k e in omega (arith, y)

plus-zero : (c n : ℕ) → c ≤ n → c ≤ 0 + n
plus-zero c n p = omega (arith, p)

known-step : (s : Scenario) (h : List Entry) (l : ℕ) (d : Deed) → Inv h → Comes s (sight s h) (postings h) (openers h l) (sort_of d) → (c : ℕ) → (stage_after (event d) c (stage h c)).out ≡ true → c ≤ count_if (is_some (issues l d)) + calls h
known-step s h l (deed.Out d o i m r k bytes) v z c e = known-out (d == c) d c (calls h) (stage h c).out refl e z (v.known c)
known-step s h l (deed.Enter d o a t vs) v z c e = plus-zero c (calls h) (v.known c e)
known-step s h l (deed.Leave d hr x bytes) v z c e = plus-zero c (calls h) (v.known c e)
known-step s h l (deed.Back d hr x) v z c e = plus-zero c (calls h) (v.known c e)
known-step s h l _ v z c e = plus-zero c (calls h) (v.known c e)

data IsIn (c d : ℕ) (cs : List ℕ) : Type 0 where
  was : is_member c cs ≡ true → IsIn c d cs
  new : c ≡ d → IsIn c d cs

later : (c d x : ℕ) (cs : List ℕ) → IsIn c d cs → IsIn c d (x ∷ cs)
later c d x cs (was p) = was (or-right (c == x) (is_member c cs) p)
later c d x cs (new p) = new p

found : (c d x : ℕ) (cs rest : List ℕ) (b : Bool) → (c == x) ≡ b → (b || is_member c rest) ≡ true → (is_member c rest ≡ true → IsIn c d cs) → IsIn c d (x ∷ cs)
found c d x cs rest true q e k = was (subst (λ (b : Bool). (b || is_member c cs) ≡ true) (sym q) refl)
found c d x cs rest false q e k = later c d x cs (k e)

member-kept : (f : ℕ → Bool) (c d x : ℕ) (cs : List ℕ) (b : Bool) → is_member c (cond b (x ∷ filter f cs) (filter f cs) ++ d ∷ []) ≡ true → (is_member c (filter f cs ++ d ∷ []) ≡ true → IsIn c d cs) → IsIn c d (x ∷ cs)
member-kept f c d x cs true e k = found c d x cs (filter f cs ++ d ∷ []) (c == x) refl e k
member-kept f c d x cs false e k = later c d x cs (k e)

only : (c d : ℕ) (b : Bool) → (c == d) ≡ b → (b || false) ≡ true → IsIn c d []
only c d true q e = new (eqb-true c d q)
only c d false q e = cc

member-posted : (f : ℕ → Bool) (c d : ℕ) (cs : List ℕ) → is_member c (filter f cs ++ d ∷ []) ≡ true → IsIn c d cs
member-posted f c d [] e = only c d (c == d) refl e
member-posted f c d (x ∷ cs) e = member-kept f c d x cs (f x) e (λ q. member-posted f c d cs q)

same-number : (c : ℕ) → (c == c) ≡ true
same-number c = grind (arith, common_steps)

out-known : (h : List Entry) (c d : ℕ) → Inv h → (stage h d).out ≡ true → IsIn c d (postings h) → (stage h c).out ≡ true
out-known h c d v p (was q) = v.posted c q
out-known h c d v p (new q) = subst (λ (k : ℕ). (stage h k).out ≡ true) (sym q) p

out-made : (h : List Entry) (c d : ℕ) → Inv h → IsIn c d (postings h) → ((d == c) || (stage h c).out) ≡ true
out-made h c d v (was q) = or-right (d == c) (stage h c).out (v.posted c q)
out-made h c d v (new q) = subst (λ (k : ℕ). ((d == k) || (stage h k).out) ≡ true) (sym q) (subst (λ (b : Bool). (b || (stage h d).out) ≡ true) (sym (same-number d)) refl)

retry-posted : (h : List Entry) (c d n : ℕ) (b : Bool) → Inv h → (stage h d).out ≡ true → is_member c (posted_last (cond b (Posts d) (Delays d n)) (postings h)) ≡ true → (stage h c).out ≡ true
retry-posted h c d n true v p e = out-known h c d v p (member-posted (λ k. not (k == d)) c d (postings h) e)
retry-posted h c d n false v p e = v.posted c e

posted-step : (s : Scenario) (h : List Entry) (l : ℕ) (d : Deed) → Inv h → Comes s (sight s h) (postings h) (openers h l) (sort_of d) → (c : ℕ) → is_member c (posted_last (post_effect d) (postings h)) ≡ true → (stage_after (event d) c (stage h c)).out ≡ true
posted-step s h l (deed.Out d o i m route.Post k bytes) v z c e = out-made h c d v (member-posted (λ y. not (y == d)) c d (postings h) e)
posted-step s h l (deed.Out d o i m route.Direct k bytes) v z c e = or-right (d == c) (stage h c).out (v.posted c e)
posted-step s h l (deed.Out d o i m route.Switch k bytes) v z c e = or-right (d == c) (stage h c).out (v.posted c e)
posted-step s h l (deed.Out d o i m route.Refused k bytes) v z c e = or-right (d == c) (stage h c).out (v.posted c e)
posted-step s h l (deed.Again d) v z c e = out-known h c d v (top-waits (stage h) (issue h) (admitted h) l d (openers h l) (v.stacks l) z).0 (member-posted (λ y. not (y == d)) c d (postings h) e)
posted-step s h l (deed.Retry d (pos n)) v z c e = retry-posted h c d n (nat_lt n 100) v (top-waits (stage h) (issue h) (admitted h) l d (openers h l) (v.stacks l) z).0 e
posted-step s h l (deed.Retry d (negsuc n)) v z c e = v.posted c e
posted-step s h l (deed.Enter d o a t vs) v z c e = v.posted c e
posted-step s h l (deed.Leave d hr x bytes) v z c e = v.posted c e
posted-step s h l (deed.Back d hr x) v z c e = v.posted c e
posted-step s h l _ v z c e = v.posted c e

backed-step : (h : List Entry) (l : ℕ) (d : Deed) → Inv h → fits (effect d) (openers h l) → (c : ℕ) → (stage_after (event d) c (stage h c)).out ≡ false → (stage_after (event d) c (stage h c)).back ≡ false
backed-step h l (deed.Out d o i m r k bytes) v f c e = v.backed c (or-split (d == c) (stage h c).out e).1
backed-step h l (deed.Back d hr x) v f c e =
    or-both (d == c) (stage h c).back
    (differ (d == c) (λ q. not-both (stage h c).out (subst (λ (k : ℕ). (stage h k).out ≡ true) (eqb-true d c q) (top-outs (stage h) (issue h) (admitted h) l d (openers h l) f (v.stacks l)).0) e))
    (v.backed c e)
backed-step h l (deed.Enter d o a t vs) v f c e = v.backed c e
backed-step h l (deed.Leave d hr x bytes) v f c e = v.backed c e
backed-step h l _ v f c e = v.backed c e

gone-step : (h : List Entry) (l : ℕ) (d : Deed) → Inv h → fits (effect d) (openers h l) → (c : ℕ) → (stage_after (event d) c (stage h c)).enter ≡ false → (stage_after (event d) c (stage h c)).leave ≡ false
gone-step h l (deed.Enter d o a t vs) v f c e = v.gone c (or-split (d == c) (stage h c).enter e).1
gone-step h l (deed.Leave d hr x bytes) v f c e =
    or-both (d == c) (stage h c).leave
    (differ (d == c) (λ q. not-both (stage h c).enter (subst (λ (k : ℕ). (stage h k).enter ≡ true) (eqb-true d c q) (top-enters (stage h) (issue h) (admitted h) l d (openers h l) f (v.stacks l)).0) e))
    (v.gone c e)
gone-step h l (deed.Out d o i m r k bytes) v f c e = v.gone c e
gone-step h l (deed.Back d hr x) v f c e = v.gone c e
gone-step h l _ v f c e = v.gone c e

entered-at : (b : Bool) (r : Admission) (x : Option Admission) (n : Bool) → is_none x ≡ not n → is_none (cond b (Some r) x) ≡ not (b || n)
entered-at true r x n e = refl
entered-at false r x n e = e

entered-step : (h : List Entry) (l : ℕ) (d : Deed) → Inv h → (c : ℕ) → is_none (admission_or (admits l d) c (admitted h c)) ≡ not (stage_after (event d) c (stage h c)).enter
entered-step h l (deed.Enter d o a t vs) v c = entered-at (d == c) (record { call = d; lane = l; apartment = a }) (admitted h c) (stage h c).enter (v.entered c)
entered-step h l (deed.Out d o i m r k bytes) v c = v.entered c
entered-step h l (deed.Leave d hr x bytes) v c = v.entered c
entered-step h l (deed.Back d hr x) v c = v.entered c
entered-step h l _ v c = v.entered c

new-out : (s : Scenario) (h : List Entry) (d : ℕ) → Inv h → d ≡ calls h + 1 → (stage h d).out ≡ false
new-out s h d v z = differ (stage h d).out (λ q. let y : d ≤ calls h = v.known d q in omega (arith, y, z))

new-enter : (h : List Entry) (d : ℕ) → Inv h → is_none (admitted h d) ≡ true → (stage h d).enter ≡ false
new-enter h d v z = not-of (is_none (admitted h d)) (stage h d).enter (v.entered d) z

apart : (l m : ℕ) → (l == m) ≡ false → l ≡ m → ⊥
apart l m q e = not-both (l == m) (subst (λ (k : ℕ). (l == k) ≡ true) e (same-number l)) q

stacks-step : (s : Scenario) (h : List Entry) (l : ℕ) (d : Deed) → Inv h → Comes s (sight s h) (postings h) (openers h l) (sort_of d) → fits (effect d) (openers h l) → (m : ℕ) (b : Bool) → (l == m) ≡ b → Stacked (λ c. stage_after (event d) c (stage h c)) (λ c. issue_or (issues l d) c (issue h c)) (λ c. admission_or (admits l d) c (admitted h c)) m (opened (cond b (effect d) Keeps) (openers h m))
stacks-step s h l (deed.Out d o i n r k bytes) v z f m true q =
    let u : Issue = record { call = d; lane = l; object = o; iface = i; method = n; route = r; cause = k } in
    let g : (stage h d).out ≡ false = new-out s h d v z in (
      (subst (λ (b : Bool). (b || (stage h d).out) ≡ true) (sym (same-number d)) refl, v.backed d g, subst (λ (b : Bool). lane_of (cond b (Some u) (issue h d)) ≡ m) (sym (same-number d)) (eqb-true l m q)),
      fresh-out (stage h) (issue h) (admitted h) m d g (openers h m) (v.stacks m),
      moved-all (stage h) (λ c. stage_after (IsOut d) c (stage h c)) (issue h) (λ c. issue_or (Some u) c (issue h c)) (admitted h) (admitted h) m (out-moves (stage h) (issue h) (admitted h) m u g) (openers h m) (v.stacks m),
    )
stacks-step s h l (deed.Out d o i n r k bytes) v z f m false q =
    let u : Issue = record { call = d; lane = l; object = o; iface = i; method = n; route = r; cause = k } in
    moved-all (stage h) (λ c. stage_after (IsOut d) c (stage h c)) (issue h) (λ c. issue_or (Some u) c (issue h c)) (admitted h) (admitted h) m (out-moves (stage h) (issue h) (admitted h) m u (new-out s h d v z)) (openers h m) (v.stacks m)
stacks-step s h l (deed.Enter d o a t vs) v z f m true q =
    let u : Admission = record { call = d; lane = l; apartment = a } in
    let g : (stage h d).enter ≡ false = new-enter h d v z.0 in (
      (subst (λ (b : Bool). (b || (stage h d).enter) ≡ true) (sym (same-number d)) refl, v.gone d g, subst (λ (b : Bool). lane_in (cond b (Some u) (admitted h d)) ≡ m) (sym (same-number d)) (eqb-true l m q)),
      fresh-enter (stage h) (issue h) (admitted h) m d g (openers h m) (v.stacks m),
      moved-all (stage h) (λ c. stage_after (IsEnter d) c (stage h c)) (issue h) (issue h) (admitted h) (λ c. admission_or (Some u) c (admitted h c)) m (enter-moves (stage h) (issue h) (admitted h) m u g) (openers h m) (v.stacks m),
    )
stacks-step s h l (deed.Enter d o a t vs) v z f m false q =
    let u : Admission = record { call = d; lane = l; apartment = a } in
    moved-all (stage h) (λ c. stage_after (IsEnter d) c (stage h c)) (issue h) (issue h) (admitted h) (λ c. admission_or (Some u) c (admitted h c)) m (enter-moves (stage h) (issue h) (admitted h) m u (new-enter h d v z.0)) (openers h m) (v.stacks m)
stacks-step s h l (deed.Leave d hr x bytes) v z f m true q = pop-leave (stage h) (issue h) (admitted h) m d (openers h m) (subst (λ (k : ℕ). fits (Closes (Leaves d)) (openers h k)) (eqb-true l m q) f) (v.stacks m)
stacks-step s h l (deed.Leave d hr x bytes) v z f m false q = moved-all (stage h) (λ c. stage_after (IsLeave d) c (stage h c)) (issue h) (issue h) (admitted h) (admitted h) m (leave-moves (stage h) (issue h) (admitted h) l m d (top-enters (stage h) (issue h) (admitted h) l d (openers h l) f (v.stacks l)).2 (apart l m q)) (openers h m) (v.stacks m)
stacks-step s h l (deed.Back d hr x) v z f m true q = pop-back (stage h) (issue h) (admitted h) m d (openers h m) (subst (λ (k : ℕ). fits (Closes (Backs d)) (openers h k)) (eqb-true l m q) f) (v.stacks m)
stacks-step s h l (deed.Back d hr x) v z f m false q = moved-all (stage h) (λ c. stage_after (IsBack d) c (stage h c)) (issue h) (issue h) (admitted h) (admitted h) m (back-moves (stage h) (issue h) (admitted h) l m d (top-outs (stage h) (issue h) (admitted h) l d (openers h l) f (v.stacks l)).2 (apart l m q)) (openers h m) (v.stacks m)
stacks-step s h l (deed.Pump n) v z f m true q = (tt, tt, v.stacks m)
stacks-step s h l (deed.Pump n) v z f m false q = v.stacks m
stacks-step s h l deed.EndPump v z f m true q = pop-any (stage h) (issue h) (admitted h) m (openers h m) (v.stacks m)
stacks-step s h l deed.EndPump v z f m false q = v.stacks m
stacks-step s h l _ v z f m true q = v.stacks m
stacks-step s h l _ v z f m false q = v.stacks m

reached : (h : List Entry) (l d : ℕ) → Inv h → Reaches (postings h) (openers h l) d → (stage h d).out ≡ true
reached h l d v (by_top p) = (top-waits (stage h) (issue h) (admitted h) l d (openers h l) (v.stacks l) p).0
reached h l d v (by_post p) = v.posted d p

comes-once : (s : Scenario) (h : List Entry) (l : ℕ) (d : Deed) → Inv h → Comes s (sight s h) (postings h) (openers h l) (sort_of d) → fits (effect d) (openers h l) → ComesOnce (event d) (stage h)
comes-once s h l (deed.Out d o i n r k bytes) v z f = new-out s h d v z
comes-once s h l (deed.Enter d o a t vs) v z f = (reached h l d v z.1, new-enter h d v z.0)
comes-once s h l (deed.Leave d hr x bytes) v z f = ((top-enters (stage h) (issue h) (admitted h) l d (openers h l) f (v.stacks l)).0, (top-enters (stage h) (issue h) (admitted h) l d (openers h l) f (v.stacks l)).1)
comes-once s h l (deed.Back d hr x) v z f = ((top-outs (stage h) (issue h) (admitted h) l d (openers h l) f (v.stacks l)).0, (top-outs (stage h) (issue h) (admitted h) l d (openers h l) f (v.stacks l)).1)
comes-once s h l _ v z f = tt

called-step : (s : Scenario) (h : List Entry) (l : ℕ) (d : Deed) → Inv h → Comes s (sight s h) (postings h) (openers h l) (sort_of d) → (c : ℕ) → (stage_after (event d) c (stage h c)).out ≡ false → (stage_after (event d) c (stage h c)).enter ≡ false
called-step s h l (deed.Out d o i m r k bytes) v z c e = v.called c (or-split (d == c) (stage h c).out e).1
called-step s h l (deed.Enter d o a t vs) v z c e =
    or-both (d == c) (stage h c).enter
    (differ (d == c) (λ q. not-both (stage h c).out (subst (λ (k : ℕ). (stage h k).out ≡ true) (eqb-true d c q) (reached h l d v z.1)) e))
    (v.called c e)
called-step s h l (deed.Leave d hr x bytes) v z c e = v.called c e
called-step s h l (deed.Back d hr x) v z c e = v.called c e
called-step s h l _ v z c e = v.called c e

from-one-step : (s : Scenario) (h : List Entry) (l : ℕ) (d : Deed) → Inv h → Comes s (sight s h) (postings h) (openers h l) (sort_of d) → (stage_after (event d) 0 (stage h 0)).out ≡ false
from-one-step s h l (deed.Out d o i m r k bytes) v z = or-both (d == 0) (stage h 0).out (differ (d == 0) (λ q. let y : d ≡ 0 = eqb-true d 0 q in omega (arith, y, z))) v.from_one
from-one-step s h l (deed.Enter d o a t vs) v z = v.from_one
from-one-step s h l (deed.Leave d hr x bytes) v z = v.from_one
from-one-step s h l (deed.Back d hr x) v z = v.from_one
from-one-step s h l _ v z = v.from_one

-- ---- the law

inv-step : (s : Scenario) (h : List Entry) (e : Entry) → Inv h → next s h e.lane ≡ Some e.deed → Inv (e ∷ h)
inv-step s h e v p =
    let z : Comes s (sight s h) (postings h) (openers h e.lane) (sort_of e.deed) = next-comes s h e.lane e.deed p in
    let f : fits (effect e.deed) (openers h e.lane) = next-fits s h e.lane e.deed p in
    record {
      known = known-step s h e.lane e.deed v z;
      posted = posted-step s h e.lane e.deed v z;
      backed = backed-step h e.lane e.deed v f;
      called = called-step s h e.lane e.deed v z;
      from_one = from-one-step s h e.lane e.deed v z;
      gone = gone-step h e.lane e.deed v f;
      entered = entered-step h e.lane e.deed v;
      stacks = λ m. stacks-step s h e.lane e.deed v z f m (e.lane == m) refl;
    }

first-inv : Inv []
first-inv = record {
  known = λ c e. cc;
  posted = λ c e. cc;
  backed = λ c e. refl;
  called = λ c e. refl;
  from_one = refl;
  gone = λ c e. refl;
  entered = λ c. refl;
  stacks = λ l. tt;
}

legal-inv : (s : Scenario) (h : List Entry) → legal s h → Inv h
legal-inv s [] p = first-inv
legal-inv s (e ∷ h) p = inv-step s h e (legal-inv s h p.0) p.1

pub legal-once : (s : Scenario) (h : List Entry) → legal s h → once h
legal-once s [] p = tt
legal-once s (e ∷ h) p = (legal-once s h p.0, comes-once s h e.lane e.deed (legal-inv s h p.0) (next-comes s h e.lane e.deed p.1) (next-fits s h e.lane e.deed p.1))

-- A call whose Out is open had no Back.
open-out : (t : ℕ → Stage) (i : ℕ → Option Issue) (x : ℕ → Option Admission) (l c : ℕ) (os : List Opener) → Stacked t i x l os → is_member c (open_calls os) ≡ true → (t c).back ≡ false
open-out t i x l c [] p e = cc
open-out t i x l c (Pumps n ∷ os) p e = open-out t i x l c os p.2 e
open-out t i x l c (Enters d o a ∷ os) p e = open-out t i x l c os p.2 e
open-out t i x l c (Waits d ∷ os) p e =
    elim (c == d) as (λ b. (c == d) ≡ b → (b || is_member c (open_calls os)) ≡ true → (t c).back ≡ false) [
      | true ↦ λ q z. subst (λ (k : ℕ). (t k).back ≡ false) (sym (eqb-true c d q)) p.0.1
      | false ↦ λ q z. open-out t i x l c os p.2 z
    ] refl e

pub legal-open : (s : Scenario) (h : List Entry) (l c : ℕ) → legal s h → is_member c (open_calls (openers h l)) ≡ true → (stage h c).back ≡ false
legal-open s h l c p e = open-out (stage h) (issue h) (admitted h) l c (openers h l) ((legal-inv s h p).stacks l) e

-- ---- the calls that entries name

-- The call that a deed names.
abbrev pub call_named : Deed → Option ℕ
call_named (deed.Out c o i m r k bytes) = Some c
call_named (deed.Verdict c t v) = Some c
call_named (deed.Refuse c hr) = Some c
call_named (deed.Enter c o a t vs) = Some c
call_named (deed.Leave c hr x bytes) = Some c
call_named (deed.Retry c n) = Some c
call_named (deed.Again c) = Some c
call_named (deed.Back c hr x) = Some c
call_named (deed.Pending c w n) = Some c
call_named _ = None

abbrev pub Names : (ℕ → Type 0) → Option ℕ → Type 0
Names P None = Unit {0}
Names P (Some c) = P c

waits-out : (h : List Entry) (l c : ℕ) → Inv h → first (openers h l) ≡ Some (Waits c) → (stage h c).out ≡ true
waits-out h l c v p = (top-waits (stage h) (issue h) (admitted h) l c (openers h l) (v.stacks l) p).0

true-from : (o n : Bool) → (o ≡ false → n ≡ false) → n ≡ true → o ≡ true
true-from true n p e = refl
true-from false n p e = absurd (not-both n e (p refl))

named-out : (s : Scenario) (h : List Entry) (l : ℕ) (d : Deed) → Inv h → Comes s (sight s h) (postings h) (openers h l) (sort_of d) → fits (effect d) (openers h l) → Names (λ c. (stage_after (event d) c (stage h c)).out ≡ true) (call_named d)
named-out s h l (deed.Out d o i m r k bytes) v z f = subst (λ (b : Bool). (b || (stage h d).out) ≡ true) (sym (same-number d)) refl
named-out s h l (deed.Verdict d t x) v z f = reached h l d v z
named-out s h l (deed.Refuse d hr) v z f = reached h l d v z
named-out s h l (deed.Enter d o a t vs) v z f = reached h l d v z.1
named-out s h l (deed.Leave d hr x bytes) v z f = true-from (stage h d).out (stage h d).enter (v.called d) (top-enters (stage h) (issue h) (admitted h) l d (openers h l) f (v.stacks l)).0
named-out s h l (deed.Retry d n) v z f = waits-out h l d v z
named-out s h l (deed.Again d) v z f = waits-out h l d v z
named-out s h l (deed.Back d hr x) v z f = (top-outs (stage h) (issue h) (admitted h) l d (openers h l) f (v.stacks l)).0
named-out s h l (deed.Pending d w n) v z f = waits-out h l d v z
named-out s h l _ v z f = tt

-- Calls count from 1, and each that an entry names was issued by then.
abbrev pub InRange : ℕ → ℕ → Type 0
InRange n c = (1 ≤ c) × (c ≤ n)

in-range : (h : List Entry) → Inv h → (c : ℕ) → (stage h c).out ≡ true → InRange (calls h) c
in-range h v zero e = absurd (not-both (stage h 0).out e v.from_one)
in-range h v (suc c) e = (omega arith, v.known (suc c) e)

pub names-all : (P Q : ℕ → Type 0) → ((c : ℕ) → P c → Q c) → (o : Option ℕ) → Names P o → Names Q o
names-all P Q f None p = tt
names-all P Q f (Some c) p = f c p

pub named-in-range : (s : Scenario) (h : List Entry) (e : Entry) → legal s (e ∷ h) → Names (InRange (calls (e ∷ h))) (call_named e.deed)
named-in-range s h e p =
    let v : Inv h = legal-inv s h p.0 in
    names-all (λ c. (stage (e ∷ h) c).out ≡ true) (InRange (calls (e ∷ h))) (in-range (e ∷ h) (inv-step s h e v p.1)) (call_named e.deed)
    (named-out s h e.lane e.deed v (next-comes s h e.lane e.deed p.1) (next-fits s h e.lane e.deed p.1))
