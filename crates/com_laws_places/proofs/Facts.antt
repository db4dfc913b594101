-- What legal histories say of an entry, as far as places rest on it.
use Rattle.std.proofs.Common.{subst, sym, ap, ◌∙◌, inr, eqb-true, arith}
use Rattle.std.proofs.lemmas.Bool.{false_from_ne_true}
use Rattle.std.specs.Prelude.{◌≡◌, refl, ℕ, zero, suc, ◌+◌, ◌≤◌, ◌<◌, true, false, ◌==◌, List, [], ◌∷◌, Option, Some, None}
use Rattle.com_base.specs.declared.hresult.HResult.{HResult}
use Rattle.com_base.specs.declared.value.Value.{Value}
use Rattle.com_body.specs.Frames.{entered}
use Rattle.com_body.specs.declared.frame.Outcome.{Outcome}
use Rattle.com_body.specs.Operands.{new_cells}
use Rattle.com_refs_books.proofs.Sums.{sum-nothing}
use Rattle.com_model.specs.declared.deeds.Deed.{Deed}
use Rattle.com_model.specs.declared.deeds.Deed.TheVariants as deed
use Rattle.com_model.specs.declared.deeds.Entry.{Entry}
use Rattle.com_model.specs.declared.scenario.Scenario.{Scenario}
use Rattle.com_model.specs.declared.keeps.Opener.{Opener}
use Rattle.com_model.specs.declared.keeps.Opener.TheVariants.{Enters}
use Rattle.com_model.specs.Lists.{where_true}
use Rattle.com_model.specs.Tables.{Thread, lane_sort, threads, lanes}
use Rattle.com_model.specs.Openers.{Closer, Closes, effect, opened, openers}
use Rattle.com_model.specs.Apartments.{is_sta, ends_sta}
use Rattle.com_model.specs.Objects.{objects, class_of, named}
use Rattle.com_model.specs.Calls.{issue, admitted}
use Rattle.com_model.specs.Frames.{Scene, scene, Actor, actor_in, acting, acted, arrived, cut_links}
use Rattle.com_model.specs.Places.{Ground, ground}
use Rattle.com_model.specs.Rules.{legal}
use Rattle.com_model.specs.Formed.{Formed}
use Rattle.com_model.proofs.Lanes.{lane-within}
use Rattle.com_model.proofs.Stacks.{next-fits}
use Rattle.com_model.proofs.Scenes.{actor-good}
use Rattle.com_laws_balance.proofs.Counts.{Among}
use Rattle.com_laws_balance.proofs.Stacks.{admission_in, open-admitted}
use Rattle.com_laws_balance.proofs.Moves.{acting-is}
use Rattle.com_laws_balance.proofs.Makings.{fine-next}
use Rattle.com_laws_balance.proofs.Bases.{top-among, some-none}
use Rattle.com_laws_balance.proofs.Answered.{TopEnter, leave-top}
use Rattle.com_laws_balance.proofs.Directs.{openers-own, openers-other}
use Rattle.com_laws_balance.proofs.Tests.{enter-fresh}
use Rattle.com_laws_safety.proofs.Sources.{next-source}
use Rattle.com_laws_safety.proofs.Threads.{source-thread}
use Rattle.com_laws_places.proofs.Frames.{open_of, same-row}
use Rattle.com_laws_places.proofs.Writes.{Stands}
use Rattle.com_laws_places.proofs.Opens.{not-open, all-in, body-stands, actor-stands}
use Rattle.com_laws_places.proofs.Arrives.{Closed, Leaves, Arrives}
use Rattle.com_laws_places.proofs.Cuts.{NotFirst}
use Rattle.com_laws_places.proofs.Bodies.{FrameOf, OpenersMove}
use Rattle.com_laws_places.proofs.Links.{NoneYet, acted-cells, first-named}

-- ---- who acts, and who stands there after

pub acting-stands : (s : Scenario) (h : List Entry) (e : Entry) → Formed s → legal s h → Stands s (ground s h) (acting s (class_of h) (issue h) (scene s h) (actor_in s h e.lane) e.deed)
acting-stands s h e f q =
    acting-is (Stands s (ground s h)) s (class_of h) (issue h) (scene s h) (actor_in s h e.lane) e.deed (actor-stands s h e.lane (openers h e.lane) f q (λ o m. m)) tt

below-first : (o : Opener) (k : Closer) (os : List Opener) → Among o (opened (Closes k) os) → Among o os
below-first o k [] m = m
below-first o k (x ∷ os) m = inr m

after-stands : (s : Scenario) (h : List Entry) (e : Entry) (k : Closer) → Formed s → legal s h → effect e.deed ≡ Closes k → Stands s (ground s h) (actor_in s (e ∷ h) e.lane)
after-stands s h e k f q p =
    actor-stands s h e.lane (openers (e ∷ h) e.lane) f q
    (λ o m. below-first o k (openers h e.lane) (subst (λ (os : List Opener). Among o os) (openers-own h e ∙ ap (λ x. opened x (openers h e.lane)) p) m))

leaves-at : (s : Scenario) (h : List Entry) (l c : ℕ) (hr : HResult) (v : Option Value) (bytes : Option (List ℕ)) → Formed s → legal s (record { lane = l; deed = deed.Leave c hr v bytes } ∷ h) → Leaves s (ground s h) c
leaves-at s h l c hr v bytes f q =
    let z : TopEnter (openers h l) c = leave-top s h l c (deed.Leave c hr v bytes) hr v bytes q.1 refl in
    record { object = z.object; stands = body-stands s h l c z.object z.apartment f q.0 (top-among c z.object z.apartment (openers h l) z.rest z.is) }

closed-at : (s : Scenario) (h : List Entry) (c : ℕ) → legal s h → admitted h c ≡ None → Closed s (ground s h) c
closed-at s h c q n =
    let never : (l x a : ℕ) → Among (Enters c x a) (openers h l) → ⊥ = λ l x a m. some-none (admitted h c) (admission_in c l a) (open-admitted s h q l c x a m) n in record {
      none = sum-nothing (lanes s + 1) (λ l. open_of c (openers h l)) (λ l. not-open c (openers h l) (never l));
      nowhere = λ l low. all-in c 0 (openers h l) (λ x a m. absurd (never l x a m));
    }

thread-lane : (s : Scenario) (l : ℕ) → lane_sort s l ≡ Thread → l < threads s + 1
thread-lane s l e = let low : l ≤ threads s = actor-good s 0 0 0 l Thread [] e tt in omega (arith, low)

pub arrives-at : (s : Scenario) (h : List Entry) (l : ℕ) (d : Deed) → Formed s → legal s (record { lane = l; deed = d } ∷ h) → Arrives s (ground s h) (actor_in s (record { lane = l; deed = d } ∷ h) l) l d
arrives-at s h l (deed.Leave c hr v bytes) f q = leaves-at s h l c hr v bytes f q
arrives-at s h l (deed.Enter c o b k vs) f q = closed-at s h c q.0 (enter-fresh s h l c o b (deed.Enter c o b k vs) q.1 refl)
arrives-at s h l (deed.Back c hr v) f q = after-stands s h (record { lane = l; deed = deed.Back c hr v }) _ f q.0 refl
arrives-at s h l deed.EndPump f q = after-stands s h (record { lane = l; deed = deed.EndPump }) _ f q.0 refl
arrives-at s h l (deed.Uninit a zero) f q = thread-lane s l (source-thread s f h l (deed.Uninit a zero) (next-source s h l (deed.Uninit a zero) q.1) refl)
arrives-at s h l (deed.Uninit a (suc n)) f q = tt
arrives-at s h l (deed.Final o) f q = let low : o ≤ objects h = fine-next s h (record { lane = l; deed = deed.Final o }) f q in omega (arith, low)
arrives-at s h l _ f q = tt

-- ---- openers, frames, objects

pub openers-move : (s : Scenario) (h : List Entry) (e : Entry) → legal s (e ∷ h) → OpenersMove s (ground s h) (ground s (e ∷ h)) e.lane e.deed
openers-move s h e q = record {
  lane = lane-within s h e.lane e.deed q.1;
  own = openers-own h e;
  others = λ j n. sym (openers-other h e j (false_from_ne_true (e.lane == j) (λ z. n (sym (eqb-true e.lane j z)))));
  fitting = next-fits s h e.lane e.deed q.1;
}

pub frame-of : (b : Actor) (l : ℕ) (d : Deed) (n : ℕ → ℕ) (w : Scene) → FrameOf (cut_links n (ends_sta d) (arrived b l d w)) d
frame-of b l (deed.Enter c o a k vs) n w = same-row c (entered vs) w.bodies
frame-of b l (deed.Leave c hr v bytes) n w = same-row c (entered []) w.bodies
frame-of b l _ n w = tt

pub none-yet : (s : Scenario) (g : Ground) (u b : Actor) (r : Option Outcome) (l : ℕ) (d : Deed) (n : ℕ → ℕ) (w : Scene) → Stands s g u → ((j : ℕ) → g.objects + 1 ≤ j → w.cells j ≡ new_cells) → NoneYet d g.objects (cut_links n (ends_sta d) (arrived b l d (acted u r d w)))
none-yet s g u b r l (deed.Made (Some o) (Some x) k i hr) n w p f = λ j low. acted-cells s g u r (deed.Made (Some o) (Some x) k i hr) w j p low ∙ f j low
none-yet s g u b r l (deed.Made (Some o) None k i hr) n w p f = tt
none-yet s g u b r l (deed.Made None x k i hr) n w p f = tt
none-yet s g u b r l _ n w p f = tt

-- ---- the end of an STA

sta-ended : (d : Deed) (x : ℕ) → ends_sta d ≡ Some x → is_sta x ≡ true
sta-ended (deed.Uninit (Some a) zero) x e =
    elim (is_sta a) as (λ t. is_sta a ≡ t → where_true t a ≡ Some x → is_sta x ≡ true) [
      | true ↦ λ p z. subst (λ (y : ℕ). is_sta y ≡ true) (same z) p
      | false ↦ λ p z. cc
    ] refl e
  where
    same : Some a ≡ Some x → a ≡ x
    same z = cc
sta-ended (deed.Uninit (Some a) (suc n)) x e = cc
sta-ended (deed.Uninit None zero) x e = cc
sta-ended (deed.Uninit None (suc n)) x e = cc
sta-ended _ x e = cc

pub not-first : (s : Scenario) (h : List Entry) (d : Deed) → Formed s → legal s h → NotFirst (ground s h) (ends_sta d)
not-first s h d f q = by-sta (ends_sta d) refl
  where
    neutral-sta : is_sta 0 ≡ true → ⊥
    neutral-sta e = cc

    by-sta : (x : Option ℕ) → ends_sta d ≡ x → NotFirst (ground s h) x
    by-sta None e = tt
    by-sta (Some x) e = false_from_ne_true (named h 0 == x) (λ z. neutral-sta (subst (λ (y : ℕ). is_sta y ≡ true) (sym (eqb-true (named h 0) x z) ∙ first-named s h f q) (sta-ended d x e)))
