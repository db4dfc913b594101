-- What stands on top of each lane of a stuck history; and every cycle has a step to the pool.
use Rattle.std.proofs.Common.{subst, sym, ap, ◌∙◌, inl, inr, arith}
use Rattle.std.specs.Prelude.{◌≡◌, refl, ℕ, zero, suc, ◌≤◌, ◌<◌, Bool, true, false, not, ◌&&◌, List, [], ◌∷◌, Option, Some, None, is_none, option_map, option_and_then}
use Rattle.com_model.specs.declared.deeds.Deed.{Deed}
use Rattle.com_model.specs.declared.deeds.Entry.{Entry}
use Rattle.com_model.specs.declared.keeps.Admission.{Admission}
use Rattle.com_model.specs.declared.keeps.Ending.{Ending}
use Rattle.com_model.specs.declared.keeps.Issue.{Issue}
use Rattle.com_model.specs.declared.keeps.Opener.{Opener}
use Rattle.com_model.specs.declared.keeps.Opener.TheVariants.{Pumps, Waits, Enters}
use Rattle.com_model.specs.declared.scenario.Scenario.{Scenario}
use Rattle.com_model.specs.Lists.{first, where_true, any_of, is_member}
use Rattle.com_model.specs.Tables.{lanes}
use Rattle.com_model.specs.Apartments.{mta}
use Rattle.com_model.specs.Openers.{openers}
use Rattle.com_model.specs.Calls.{admitted, issue, is_post, route_of}
use Rattle.com_model.specs.Endings.{Answer, answer_of, ending}
use Rattle.com_model.specs.Waiting.{inbox}
use Rattle.com_model.specs.Formed.{Formed}
use Rattle.com_model.specs.Sight.{Sight, sight}
use Rattle.com_model.specs.Rules.{admission, answered, due_of, enters_itself, legal, packet_left, waiting_call}
use Rattle.com_model.specs.Ends.{stuck}
use Rattle.com_laws_safety.proofs.Small.{not-both, neither}
use Rattle.com_laws_balance.proofs.Counts.{Among}
use Rattle.com_laws_balance.proofs.Answered.{lane-low}
use Rattle.com_laws_balance.proofs.Bases.{first-among}
use Rattle.com_laws_balance.proofs.Directs.{waits-issued}
use Rattle.com_waits.specs.declared.reasons.Why.TheVariants as reason
use Rattle.com_waits.specs.Reasons.{pool_lane, why_at, why_at_call}
use Rattle.com_waits.specs.Chains.{lane_named}
use Rattle.com_waits.specs.Laws.{TopWaits, TopsWait, leads, RunsTo, IsRing, is_pool, is_at_pool, RingsReachPool}
use Rattle.com_waits.proofs.Stills.{stuck-still, NoRule, AtTop, at_none, at_pump, at_call, at-top, clock-bare}
use Rattle.com_waits.proofs.Shapes.{Under, Seat, Shape, under-enter, legal-shape}
use Rattle.com_waits.proofs.Entered.{OpenAt, legal-entered}

-- ---- a call on top

pub own-rule : (f : ℕ → Option Deed) (os : List Opener) (c : ℕ) (xs : List Opener) → os ≡ Waits c ∷ xs → option_and_then f (waiting_call (first os)) ≡ None → f c ≡ None
own-rule f os c xs e n = subst (λ (ys : List Opener). option_and_then f (waiting_call (first ys)) ≡ None) e n

pub map-none : {X Y : Type 0} (f : X → Y) (o : Option X) → option_map f o ≡ None → o ≡ None
map-none f None e = refl
map-none f (Some x) e = cc

pub where-none : (b : Bool) (d : Deed) → where_true b d ≡ None → b ≡ false
where-none true d e = cc
where-none false d e = refl

-- It has no answer.
pub not-answered : (s : Scenario) (h : List Entry) (l c : ℕ) (os : List Opener) → openers h l ≡ Waits c ∷ os → NoRule s (sight s h) l → ending s h c ≡ None
not-answered s h l c os e r =
    let v : Sight = sight s h in
    map-none (answer_of (v.at_issue c)) (ending s h c)
    (map-none (λ (x : Answer). answered v c x (packet_left v c)) (due_of v c)
    (own-rule (λ (k : ℕ). option_map (λ (x : Answer). answered v k x (packet_left v k)) (due_of v k)) (openers h l) c os e r.answer))

-- A body of a call that was not posted stands on the Out of its call.
seated : (i : ℕ → Option Issue) (c o a : ℕ) (os : List Opener) → Shape i os → Among (Enters c o a) os → is_post (route_of (i c)) ≡ false → Among (Waits c) os
seated i c o a [] p m n = absurd m
seated i c o a (Pumps k ∷ os) p (inl e) n = cc
seated i c o a (Pumps k ∷ os) p (inr m) n = absurd (subst (λ (ys : List Opener). Among (Enters c o a) ys) p m)
seated i c o a (Waits d ∷ os) p (inl e) n = cc
seated i c o a (Waits d ∷ os) p (inr m) n = inr (seated i c o a os p.1 m n)
seated i c o a (Enters k x b ∷ os) p (inr m) n = inr (seated i c o a os p.1 m n)
seated i c o a (Enters k x b ∷ os) p (inl e) n = inr (by-seat (subst (λ (j : ℕ). Seat i j os) (same e) p.0))
  where
    same : Enters k x b ≡ Enters c o a → k ≡ c
    same e = cc

    by-seat : Seat i c os → Among (Waits c) os
    by-seat (inl q) = absurd (not-both (is_post (route_of (i c))) q n)
    by-seat (inr q) = first-among os (Waits c) q

below-top : (c o a : ℕ) (os : List Opener) → Among (Enters c o a) (Waits c ∷ os) → Under c os → ⊥
below-top c o a os (inl e) u = cc
below-top c o a os (inr m) u = let z : c < c = under-enter c c o a os u m in absurd (omega (arith, z))

not-own : (s : Scenario) (h : List Entry) (l c : ℕ) (os : List Opener) (x : Admission) → Formed s → legal s h → openers h l ≡ Waits c ∷ os → ending s h c ≡ None → admitted h c ≡ Some x → is_post (route_of (issue h c)) ≡ false → ⊥
not-own s h l c os x f p e n z q =
    let k : OpenAt h x.lane c = legal-entered s h c x p z n in
    let w : Among (Waits c) (openers h x.lane) = seated (issue h) c k.object k.apartment (openers h x.lane) (legal-shape s h x.lane f p) k.among q in
    let t : Among (Waits c) (openers h l) = subst (λ (ys : List Opener). Among (Waits c) ys) (sym e) (inl refl) in
    let same : x.lane ≡ l = sym (waits-issued s h x.lane c p w).1 ∙ (waits-issued s h l c p t).1 in
    let y : Shape (issue h) (Waits c ∷ os) = subst (Shape (issue h)) e (legal-shape s h l f p) in
    below-top c k.object k.apartment os
    (subst (λ (ys : List Opener). Among (Enters c k.object k.apartment) ys) e (subst (λ (j : ℕ). Among (Enters c k.object k.apartment) (openers h j)) same k.among)) y.0

posted-by : (b : Bool) (x : Option Admission) (y : Option Ending) → y ≡ None → (not b && (is_none x && is_none y)) ≡ false → (b ≡ false → (z : Admission) → x ≡ Some z → ⊥) → b ≡ true
posted-by true x y n e f = refl
posted-by false (Some z) y n e f = absurd (f refl z refl)
posted-by false None None n e f = cc
posted-by false None (Some w) n e f = cc

-- It was posted.
pub is-posted : (s : Scenario) (h : List Entry) (l c : ℕ) (os : List Opener) → Formed s → legal s h → openers h l ≡ Waits c ∷ os → NoRule s (sight s h) l → is_post (route_of (issue h c)) ≡ true
is-posted s h l c os f p e r =
    let v : Sight = sight s h in
    let n : ending s h c ≡ None = not-answered s h l c os e r in
    let w : enters_itself v c ≡ false = where-none (enters_itself v c) (admission s v l c) (own-rule (λ (k : ℕ). where_true (enters_itself v k) (admission s v l k)) (openers h l) c os e r.own) in
    posted-by (is_post (route_of (issue h c))) (admitted h c) (ending s h c) n w (λ q z y. not-own s h l c os z f p e n y q)

-- ---- every top

pub in-range : (s : Scenario) (h : List Entry) (l : ℕ) (o : Opener) → legal s h → Among o (openers h l) → (1 ≤ l) × (l ≤ lanes s)
in-range s h zero o p m = absurd (subst (λ (ys : List Opener). Among o ys) (clock-bare s h p) m)
in-range s h (suc l) o p m = (omega arith, lane-low s h (suc l) o p m)

pub top-stands : (s : Scenario) (h : List Entry) (l : ℕ) (o : Opener) → legal s h → stuck s h ≡ true → Among o (openers h l) → AtTop s h l
top-stands s h l o p t m = let r : (1 ≤ l) × (l ≤ lanes s) = in-range s h l o p m in at-top s h l (stuck-still s h t) r.0 r.1

top-waits : (s : Scenario) (h : List Entry) (l : ℕ) → Formed s → legal s h → AtTop s h l → TopWaits h (first (openers h l))
top-waits s h l f p (at_none e r) = subst (λ (ys : List Opener). TopWaits h (first ys)) (sym e) tt
top-waits s h l f p (at_pump n os e r) = subst (λ (ys : List Opener). TopWaits h (first ys)) (sym e) tt
top-waits s h l f p (at_call c os e r) = subst (λ (ys : List Opener). TopWaits h (first ys)) (sym e) (is-posted s h l c os f p e r)

pub tops-wait : (s : Scenario) (h : List Entry) → Formed s → legal s h → stuck s h ≡ true → TopsWait s h
tops-wait s h f p t = λ l. by-openers l (openers h l) refl
  where
    by-openers : (l : ℕ) (os : List Opener) → openers h l ≡ os → TopWaits h (first (openers h l))
    by-openers l [] e = subst (λ (ys : List Opener). TopWaits h (first ys)) (sym e) tt
    by-openers l (o ∷ os) e = top-waits s h l f p (top-stands s h l o p t (subst (λ (ys : List Opener). Among o ys) (sym e) (inl refl)))

-- ---- a step from a lane to the body that it waits for

pub record BodyStep (s : Scenario) (h : List Entry) (x : Option Opener) (m : ℕ) : Type 0 where
  pub call : ℕ
  pub at : x ≡ Some (Waits call)
  pub row : Admission
  pub entered : admitted h call ≡ Some row
  pub lane : row.lane ≡ m

call-step : (s : Scenario) (h : List Entry) (c m : ℕ) (y : Option Admission) → admitted h c ≡ y → option_and_then lane_named (why_at_call s h c y) ≡ Some m → is_pool (why_at_call s h c y) ≡ false → BodyStep s h (Some (Waits c)) m
call-step s h c m (Some y) q e n = record { call = c; at = refl; row = y; entered = q; lane = same y.lane m e }
  where
    same : (a b : ℕ) → Some a ≡ Some b → a ≡ b
    same a b e = cc
call-step s h c m None q e n = by-test (is_member c (inbox s h mta)) e n
  where
    by-test : (b : Bool) → option_and_then lane_named (where_true b (reason.Pool c (pool_lane s))) ≡ Some m → is_pool (where_true b (reason.Pool c (pool_lane s))) ≡ false → BodyStep s h (Some (Waits c)) m
    by-test true e n = cc
    by-test false e n = cc

body-step : (s : Scenario) (h : List Entry) (x : Option Opener) (m : ℕ) → option_and_then lane_named (why_at s h x) ≡ Some m → is_pool (why_at s h x) ≡ false → BodyStep s h x m
body-step s h None m e n = cc
body-step s h (Some (Pumps k)) m e n = cc
body-step s h (Some (Enters c o a)) m e n = cc
body-step s h (Some (Waits c)) m e n = call-step s h c m (admitted h c) refl e n

-- The lane of the body waits for a call that was issued later.
pub record Later (h : List Entry) (m c : ℕ) : Type 0 where
  pub call : ℕ
  pub at : first (openers h m) ≡ Some (Waits call)
  pub above : c < call

top-later : (s : Scenario) (h : List Entry) (m c : ℕ) → Formed s → legal s h → OpenAt h m c → AtTop s h m → Later h m c
top-later s h m c f p k (at_none e r) = absurd (subst (λ (ys : List Opener). Among (Enters c k.object k.apartment) ys) e k.among)
top-later s h m c f p k (at_pump n os e r) = absurd (under-pump (subst (λ (ys : List Opener). Among (Enters c k.object k.apartment) ys) e k.among) (subst (Shape (issue h)) e (legal-shape s h m f p)))
  where
    under-pump : Among (Enters c k.object k.apartment) (Pumps n ∷ os) → os ≡ [] → ⊥
    under-pump (inl e) z = cc
    under-pump (inr w) z = subst (λ (ys : List Opener). Among (Enters c k.object k.apartment) ys) z w
top-later s h m c f p k (at_call d os e r) = record {
  call = d;
  at = ap (λ (ys : List Opener). first ys) e;
  above = below (subst (λ (ys : List Opener). Among (Enters c k.object k.apartment) ys) e k.among) (subst (Shape (issue h)) e (legal-shape s h m f p));
}
  where
    below : Among (Enters c k.object k.apartment) (Waits d ∷ os) → Shape (issue h) (Waits d ∷ os) → c < d
    below (inl e) z = cc
    below (inr w) z = under-enter c d k.object k.apartment os z.0 w

same-call : (c d : ℕ) → Some (Waits c) ≡ Some (Waits d) → c ≡ d
same-call c d e = cc

pub call-waits : (s : Scenario) (h : List Entry) (l c : ℕ) → legal s h → stuck s h ≡ true → first (openers h l) ≡ Some (Waits c) → ending s h c ≡ None
call-waits s h l c p t e = by-top (top-stands s h l (Waits c) p t (first-among (openers h l) (Waits c) e))
  where
    by-top : AtTop s h l → ending s h c ≡ None
    by-top (at_none z r) = absurd (none-some (sym e ∙ ap (λ (ys : List Opener). first ys) z))
      where
        none-some : Some (Waits c) ≡ None → ⊥
        none-some e = cc
    by-top (at_pump n os z r) = absurd (pump-some (sym e ∙ ap (λ (ys : List Opener). first ys) z))
      where
        pump-some : Some (Waits c) ≡ Some (Pumps n) → ⊥
        pump-some e = cc
    by-top (at_call d os z r) = subst (λ (k : ℕ). ending s h k ≡ None) (same-call d c (sym (ap (λ (ys : List Opener). first ys) z) ∙ e)) (not-answered s h l d os z r)

pub step-later : (s : Scenario) (h : List Entry) (l m c : ℕ) → Formed s → legal s h → stuck s h ≡ true → leads s h l ≡ Some m → is_at_pool s h l ≡ false → first (openers h l) ≡ Some (Waits c) → Later h m c
step-later s h l m c f p t e n z =
    let b : BodyStep s h (first (openers h l)) m = body-step s h (first (openers h l)) m e n in
    let same : b.call ≡ c = same-call b.call c (sym b.at ∙ z) in
    let y : admitted h c ≡ Some b.row = subst (λ (k : ℕ). admitted h k ≡ Some b.row) same b.entered in
    let k : OpenAt h b.row.lane c = legal-entered s h c b.row p y (call-waits s h l c p t z) in
    let w : OpenAt h m c = subst (λ (j : ℕ). OpenAt h j c) b.lane k in
    top-later s h m c f p w (top-stands s h m (Enters c w.object w.apartment) p t w.among)

-- ---- cycles

runs-later : (s : Scenario) (h : List Entry) (l : ℕ) (ls : List ℕ) (m c : ℕ) → Formed s → legal s h → stuck s h ≡ true → RunsTo s h (l ∷ ls) m → any_of (is_at_pool s h) (l ∷ ls) ≡ false → first (openers h l) ≡ Some (Waits c) → Later h m c
runs-later s h l [] m c f p t r n z = step-later s h l m c f p t r (neither (is_at_pool s h l) false n).0 z
runs-later s h l (k ∷ ls) m c f p t r n z =
    let y : (is_at_pool s h l ≡ false) × (any_of (is_at_pool s h) (k ∷ ls) ≡ false) = neither (is_at_pool s h l) (any_of (is_at_pool s h) (k ∷ ls)) n in
    let a : Later h k c = step-later s h l k c f p t r.0 y.0 z in
    let b : Later h m a.call = runs-later s h k ls m a.call f p t r.1 y.1 a.at in
    let u : c < a.call = a.above in
    let w : a.call < b.call = b.above in
    record { call = b.call; at = b.at; above = omega (arith, u, w) }

-- The call of the first lane of a list that runs without the pool.
record FirstCall (h : List Entry) (l : ℕ) : Type 0 where
  call : ℕ
  at : first (openers h l) ≡ Some (Waits call)

first-call : (s : Scenario) (h : List Entry) (l : ℕ) (ls : List ℕ) (m : ℕ) → RunsTo s h (l ∷ ls) m → any_of (is_at_pool s h) (l ∷ ls) ≡ false → FirstCall h l
first-call s h l [] m r n = let b : BodyStep s h (first (openers h l)) m = body-step s h (first (openers h l)) m r (neither (is_at_pool s h l) false n).0 in record { call = b.call; at = b.at }
first-call s h l (k ∷ ls) m r n = let b : BodyStep s h (first (openers h l)) k = body-step s h (first (openers h l)) k r.0 (neither (is_at_pool s h l) (any_of (is_at_pool s h) (k ∷ ls)) n).0 in record { call = b.call; at = b.at }

no-ring : (s : Scenario) (h : List Entry) (ls : List ℕ) → Formed s → legal s h → stuck s h ≡ true → IsRing s h ls → any_of (is_at_pool s h) ls ≡ false → ⊥
no-ring s h [] f p t r n = r
no-ring s h (l ∷ ls) f p t r n =
    let a : FirstCall h l = first-call s h l ls l r n in
    let b : Later h l a.call = runs-later s h l ls l a.call f p t r n a.at in
    let same : a.call ≡ b.call = same-call a.call b.call (sym a.at ∙ b.at) in
    let u : a.call < b.call = b.above in
    absurd (omega (arith, same, u))

pub rings-reach : (s : Scenario) (h : List Entry) → Formed s → legal s h → stuck s h ≡ true → RingsReachPool s h
rings-reach s h f p t = λ ls r. by-test ls r (any_of (is_at_pool s h) ls) refl
  where
    by-test : (ls : List ℕ) → IsRing s h ls → (b : Bool) → any_of (is_at_pool s h) ls ≡ b → b ≡ true
    by-test ls r true e = refl
    by-test ls r false e = absurd (no-ring s h ls f p t r e)
