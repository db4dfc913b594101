-- One entry, and what is said of an object of a source after it.
use Rattle.std.proofs.Common.{refl, sym, ap, ap₂, subst, ◌∙◌, inl, inr, eqb-true, arith}
use Rattle.std.proofs.lemmas.Bool.{false_from_ne_true}
use Rattle.std.specs.Prelude.{◌≡◌, ℕ, ◌+◌, ◌<◌, Bool, true, false, ◌==◌, ◌&&◌, List, [], ◌∷◌, ◌++◌, length, Option, Some, None}
use Rattle.com_base.specs.declared.hresult.HResult.{HResult}
use Rattle.com_base.specs.declared.value.Value.{Value}
use Rattle.com_model.specs.declared.deeds.Deed.{Deed}
use Rattle.com_model.specs.declared.deeds.Deed.TheVariants as deed
use Rattle.com_model.specs.declared.deeds.Entry.{Entry}
use Rattle.com_model.specs.declared.scenario.Scenario.{Scenario}
use Rattle.com_model.specs.declared.keeps.Issue.{Issue}
use Rattle.com_model.specs.declared.keeps.Opener.{Opener}
use Rattle.com_model.specs.declared.keeps.Opener.TheVariants.{Pumps, Waits, Enters}
use Rattle.com_model.specs.Answers.{is_S_OK}
use Rattle.com_model.specs.Lists.{first, without_first, is_number}
use Rattle.com_model.specs.Tables.{lane_sort}
use Rattle.com_model.specs.Openers.{Effect, Opens, Closes, Keeps as Unmoved, Leaves, effect, effect_on, opened, openers, top_call}
use Rattle.com_model.specs.Calls.{issue}
use Rattle.com_model.specs.Frames.{scene, actor_in}
use Rattle.com_model.specs.Rules.{legal}
use Rattle.com_laws_balance.proofs.Answered.{TopEnter, top-enter}
use Rattle.com_laws_balance.proofs.Bases.{actor-is, top-among}
use Rattle.com_laws_balance.proofs.Counts.{Among}
use Rattle.com_laws_balance.proofs.Directs.{Over, over-after, openers-own, openers-other}
use Rattle.com_laws_balance.proofs.Stacks.{among-after, opens-enter}
use Rattle.com_laws_safety.proofs.Small.{not-both, and-right, same-number, some-number}
use Rattle.com_laws_sources.specs.Bodies.{ok}
use Rattle.com_laws_sources.specs.Histories.{is_on, change, Change, Stays, sinks, taken, last, reached, sends, with_next, visited, next_sink}
use Rattle.com_laws_sources.specs.Kept.{Keeps}
use Rattle.com_laws_sources.specs.Rounds.{AtRound, number}
use Rattle.com_laws_sources.specs.Runs.{began}
use Rattle.com_laws_sources.specs.Sinks.{Sink}
use Rattle.com_laws_sources.specs.Sources.{advise, unadvise, fire}
use Rattle.com_laws_sources.specs.Steps.{acts_on, result_of}
use Rattle.com_laws_sources.proofs.Acts.{Plain, plain-is, Left, SitCase, sit_goes, sit_ends, sit-case, SentOut, FireOver, FireGoes, FireCase, fire_goes, fire_sends, fire_ends, fire-case}
use Rattle.com_laws_sources.proofs.Around.{source-agile, open-sta, same-lane, last-stays, seen-stays, not-sending, below-stays, Free, free-change, sinks-same, taken-same, entered_now, came_back, stayed, came}
use Rattle.com_laws_sources.proofs.Between.{one-longer, reached-more}
use Rattle.com_laws_sources.proofs.Called.{open-target, Issued, issued-on, legal-shaped, shape-above}
use Rattle.com_laws_sources.proofs.Living.{Alive, Uncut, before-alive}
use Rattle.com_laws_sources.proofs.Passing.{Around, here-or-not, fire-body, due-stays, firing-stays, enter-began, entered-keeps, entered-firing, entered-due, back-firing}
use Rattle.com_laws_sources.proofs.Placed.{in-sta}
use Rattle.com_laws_sources.proofs.Runs.{Same, stays-same, differs, other-scene}
use Rattle.com_laws_sources.proofs.Sitting.{ChangeBy, leaving-stays}
use Rattle.com_laws_sources.proofs.Stepped.{cells-stay}
use Rattle.com_laws_sources.proofs.Told.{owing-next, NoTop, AtSeen, Firing, Waiting, Due, Told, keeps-same, at-same, owing-same}

-- What is known after an entry: a sink that it took has the next cookie, and all is said again.
pub record After (s : Scenario) (h : List Entry) (e : Entry) (o i : ℕ) : Type 0 where
  pub may : ChangeBy (change h o i e.deed) (taken h o i)
  pub told : Told s (e ∷ h) o i

abbrev Below : Scenario → List Entry → Entry → (o i d c : ℕ) → Type 0
Below s h e o i d c = (is_on (issue (e ∷ h) c) o i fire ≡ true) × Waiting s (e ∷ h) o i d c

-- ---- what each case shares

below-told : (s : Scenario) (h : List Entry) (e : Entry) (o i : ℕ) → Around s h e o i
    → ((d c a : ℕ) (os : List Opener) → effect e.deed ≡ Opens (Waits d) → openers h e.lane ≡ Enters c o a ∷ os → Below s h e o i d c)
    → (l d c a : ℕ) (os : List Opener) → Over d (Enters c o a ∷ os) (openers (e ∷ h) l) → Below s h e o i d c
below-told s h e o i g new l d c a os v =
    here-or-not e l (λ j. Over d (Enters c o a ∷ os) (openers (e ∷ h) j) → Below s h e o i d c)
    (λ y. elim (over-after d (Enters c o a ∷ os) (effect e.deed) (openers h e.lane) (subst (Over d (Enters c o a ∷ os)) (openers-own h e) y)) as (λ _. Below s h e o i d c) [
      | inl u ↦ below-stays s h e e.lane d c o a i os g.formed g.lawful u y (g.told.below e.lane d c a os u)
      | inr u ↦ new d c a os u.0 u.1
    ])
    (λ t y. let u : Over d (Enters c o a ∷ os) (openers h l) = subst (Over d (Enters c o a ∷ os)) (openers-other h e l t) y in
    below-stays s h e l d c o a i os g.formed g.lawful u y (g.told.below l d c a os u)) v

due-told : (s : Scenario) (h : List Entry) (e : Entry) (o i : ℕ) → Around s h e o i
    → ((l c a : ℕ) → Among (Enters c o a) (openers h l) → Due h o i c → Due (e ∷ h) o i c) → ((c a : ℕ) → effect e.deed ≡ Opens (Enters c o a) → Due (e ∷ h) o i c)
    → (l c a : ℕ) → Among (Enters c o a) (openers (e ∷ h) l) → is_on (issue (e ∷ h) c) o i fire ≡ true → Due (e ∷ h) o i c
due-told s h e o i g old new l c a m on =
    elim (among-after c o a (effect_on l e) (openers h l) m) as (λ _. Due (e ∷ h) o i c) [
      | inl j ↦ let z : Same s h e c o = stays-same s h e l c o a g.formed g.lawful j in
          old l c a j (g.told.due l c a j (sym (ap (λ (x : Option Issue). is_on x o i fire) z.issued) ∙ on))
      | inr j ↦ new c a (opens-enter l c o a e j).1
    ]

sits-told : (s : Scenario) (h : List Entry) (e : Entry) (o i l c a : ℕ) (os : List Opener) → Around s h e o i → change h o i e.deed ≡ Stays → openers h l ≡ Enters c o a ∷ os → is_on (issue (e ∷ h) c) o i fire ≡ false
    → Keeps (began s (e ∷ h) c) (sinks (e ∷ h) o i) (taken (e ∷ h) o i)
sits-told s h e o i l c a os g x r w =
    let z : Same s h e c o = stays-same s h e l c o a g.formed g.lawful (top-among c o a (openers h l) os r) in
    keeps-same (began s h c) (began s (e ∷ h) c) (sinks h o i) (sinks (e ∷ h) o i) (taken h o i) (taken (e ∷ h) o i) z.begun (sinks-same h e o i x) (taken-same h e o i x)
    (g.told.sits l c a os r (sym (ap (λ (y : Option Issue). is_on y o i fire) z.issued) ∙ w))

-- ---- no body of the object is on top of the lane

free-quiet : (s : Scenario) (h : List Entry) (l o : ℕ) → Free h l o → acts_on (actor_in s h l) o ≡ false
free-quiet s h l o n =
    actor-is (λ y. acts_on y o ≡ false) (lane_sort s l) l (openers h l)
    (λ k x b rest p. false_from_ne_true (o == x) (λ t. n k b rest (p ∙ ap (λ (y : ℕ). Enters k y b ∷ rest) (sym (eqb-true o x t)))))
    (λ p. refl) refl

free-rests : (s : Scenario) (h : List Entry) (e : Entry) (o i : ℕ) → Around s h e o i → Free h e.lane o → Alive s (e ∷ h) o → NoTop (e ∷ h) o → Keeps ((scene s (e ∷ h)).cells o) (sinks (e ∷ h) o i) (taken (e ∷ h) o i)
free-rests s h e o i g n al nt =
    let u : Uncut s h e o = before-alive s h e o g.formed g.lawful g.made (in-sta s h o i g.lawful.0 g.before) al in
    let x : change h o i e.deed ≡ Stays = free-change s h e o i g.lawful n in
    keeps-same ((scene s h).cells o) ((scene s (e ∷ h)).cells o) (sinks h o i) (sinks (e ∷ h) o i) (taken h o i) (taken (e ∷ h) o i)
    (cells-stay s h e o (free-quiet s h e.lane o n) u.no_final u.no_end) (sinks-same h e o i x) (taken-same h e o i x)
    (g.told.rests u.alive (λ l c a os r. here-or-not e l (λ j. openers h j ≡ Enters c o a ∷ os → ⊥) (λ z. n c a os z) (λ z y. nt l c a os (openers-other h e l z ∙ y)) r))

-- The call below that comes back.
pub record Behind (s : Scenario) (h : List Entry) (e : Entry) (o i c a : ℕ) (os : List Opener) : Type 0 where
  pub call : ℕ
  pub is : openers h e.lane ≡ Waits call ∷ (Enters c o a ∷ os)
  pub fires : is_on (issue (e ∷ h) c) o i fire ≡ true

behind : (s : Scenario) (h : List Entry) (e : Entry) (o i c a : ℕ) (os : List Opener) (x : Opener) → Around s h e o i → openers h e.lane ≡ x ∷ (Enters c o a ∷ os) → Behind s h e o i c a os
behind s h e o i c a os x g r =
    let t : (d : ℕ) × (x ≡ Waits d) = shape-above h e.lane c o a x os (legal-shaped s h e.lane g.formed g.lawful.0) r in
    let k : openers h e.lane ≡ Waits t.0 ∷ (Enters c o a ∷ os) = r ∙ ap (λ (y : Opener). y ∷ (Enters c o a ∷ os)) t.1 in
    let m : Among (Enters c o a) (openers h e.lane) = subst (λ (us : List Opener). Among (Enters c o a) us) (sym k) (inr (inl refl)) in
    let v : Over t.0 (Enters c o a ∷ os) (openers h e.lane) = subst (λ (us : List Opener). Over t.0 (Enters c o a ∷ os) us) (sym k) (inl (refl, refl)) in
    let z : Same s h e c o = stays-same s h e e.lane c o a g.formed g.lawful m in
    record { call = t.0; is = k; fires = ap (λ (y : Option Issue). is_on y o i fire) z.issued ∙ (g.told.below e.lane t.0 c a os v).0 }

free-sits : (s : Scenario) (h : List Entry) (e : Entry) (o i : ℕ) → Around s h e o i → Free h e.lane o → (l c a : ℕ) (os : List Opener) → openers (e ∷ h) l ≡ Enters c o a ∷ os → is_on (issue (e ∷ h) c) o i fire ≡ false
    → Keeps (began s (e ∷ h) c) (sinks (e ∷ h) o i) (taken (e ∷ h) o i)
free-sits s h e o i g n l c a os r w =
    let x : change h o i e.deed ≡ Stays = free-change s h e o i g.lawful n in
    here-or-not e l (λ j. openers (e ∷ h) j ≡ Enters c o a ∷ os → Keeps (began s (e ∷ h) c) (sinks (e ∷ h) o i) (taken (e ∷ h) o i))
    (λ z. elim (came h e c o a os z) as (λ _. Keeps (began s (e ∷ h) c) (sinks (e ∷ h) o i) (taken (e ∷ h) o i)) [
      | entered_now p y ↦ keeps-same ((scene s h).cells o) (began s (e ∷ h) c) (sinks h o i) (sinks (e ∷ h) o i) (taken h o i) (taken (e ∷ h) o i)
          (enter-began s h c o a (began s h c) e.deed p) (sinks-same h e o i x) (taken-same h e o i x) (entered-keeps s h e o i c a g n p)
      | came_back y k p q ↦ absurd (not-both (is_on (issue (e ∷ h) c) o i fire) (behind s h e o i c a os y g q).fires w)
      | stayed p y ↦ absurd (n c a os y)
    ])
    (λ t z. sits-told s h e o i l c a os g x (sym (openers-other h e l t) ∙ z) w) r

free-sending : (s : Scenario) (h : List Entry) (e : Entry) (l o c a : ℕ) → legal s h → Free h e.lane o → Among (Enters c o a) (openers h l) → sends h e.lane c e.deed ≡ false
free-sending s h e l o c a q n m =
    not-sending h e.lane c e.deed (λ t. let k : TopEnter (openers h e.lane) c = top-enter (openers h e.lane) c t in
    let z : k.object ≡ o = sym (open-target s h e.lane c k.object k.apartment q (top-among c k.object k.apartment (openers h e.lane) k.rest k.is)) ∙ open-target s h l c o a q m in
    n c k.apartment k.rest (k.is ∙ ap (λ (y : ℕ). Enters c y k.apartment ∷ k.rest) z))

free-fires : (s : Scenario) (h : List Entry) (e : Entry) (o i : ℕ) → Around s h e o i → Free h e.lane o → (l c a : ℕ) (os : List Opener) → openers (e ∷ h) l ≡ Enters c o a ∷ os → is_on (issue (e ∷ h) c) o i fire ≡ true → Firing s (e ∷ h) o i c
free-fires s h e o i g n l c a os r w =
    let x : change h o i e.deed ≡ Stays = free-change s h e o i g.lawful n in
    here-or-not e l (λ j. openers (e ∷ h) j ≡ Enters c o a ∷ os → Firing s (e ∷ h) o i c)
    (λ z. elim (came h e c o a os z) as (λ _. Firing s (e ∷ h) o i c) [
      | entered_now p y ↦ entered-firing s h e o i c a g n x p w
      | came_back y k p q ↦ let b : Behind s h e o i c a os = behind s h e o i c a os y g q in back-firing s h e o i c a b.call os k g n x p b.is z
      | stayed p y ↦ absurd (n c a os y)
    ])
    (λ t z. let y : openers h l ≡ Enters c o a ∷ os = sym (openers-other h e l t) ∙ z in
    let m : Among (Enters c o a) (openers h l) = top-among c o a (openers h l) os y in
    let k : Same s h e c o = stays-same s h e l c o a g.formed g.lawful m in
    let u : ((scene s (e ∷ h)).bodies c ≡ (scene s h).bodies c) × ((scene s (e ∷ h)).cells o ≡ (scene s h).cells o) =
    other-scene s h e l c o a g.formed g.lawful (differs e.lane l t) m (top-among c o a (openers (e ∷ h) l) os z) (open-sta s h l c o a i g.formed g.lawful.0 g.before m) (source-agile s h o i g.before) in
    firing-stays s h e l c o a i g.lawful m (free-sending s h e l o c a g.lawful.0 n m) x u.0 u.1 (g.told.fires l c a os y (sym (ap (λ (v : Option Issue). is_on v o i fire) k.issued) ∙ w))) r

free-after : (s : Scenario) (h : List Entry) (e : Entry) (o i : ℕ) → Around s h e o i → Free h e.lane o → After s h e o i
free-after s h e o i g n =
    let x : change h o i e.deed ≡ Stays = free-change s h e o i g.lawful n in
    let may : ChangeBy (change h o i e.deed) (taken h o i) = subst (λ (y : Change). ChangeBy y (taken h o i)) (sym x) tt in record {
      may = may;
      told = record {
        rests = free-rests s h e o i g n;
        sits = free-sits s h e o i g n;
        fires = free-fires s h e o i g n;
        below = below-told s h e o i g (λ d c a os p r. absurd (n c a os r));
        due = due-told s h e o i g (λ l c a m d. due-stays s h e l c o a i g.lawful may m (free-sending s h e l o c a g.lawful.0 n m) d) (λ c a p. entered-due s h e o i c a g n x p);
      };
    }

-- ---- a body of the object is on top of the lane, and copies or releases

enters-call : (c d o x a b : ℕ) (os us : List Opener) → Enters c o a ∷ os ≡ Enters d x b ∷ us → c ≡ d
enters-call c d o x a b os us e = cc

keeps-opens : (x : Effect) (y : Opener) → x ≡ Unmoved → x ≡ Opens y → ⊥
keeps-opens x y p q = cc

-- The other tops of the object are the same.
top-call-is : (s : Scenario) (h : List Entry) (e : Entry) (o i c a l d b : ℕ) (os us : List Opener) → Around s h e o i → openers h e.lane ≡ Enters c o a ∷ os → openers h l ≡ Enters d o b ∷ us → c ≡ d
top-call-is s h e o i c a l d b os us g r z =
    let k : l ≡ e.lane = same-lane s h l e.lane d c o b a i g.formed g.lawful.0 g.before (top-among d o b (openers h l) us z) (top-among c o a (openers h e.lane) os r) in
    enters-call c d o o a b os us (sym r ∙ subst (λ (j : ℕ). openers h j ≡ Enters d o b ∷ us) k z)

plain-tops : (h : List Entry) (e : Entry) → Plain e.deed → (l : ℕ) → openers (e ∷ h) l ≡ openers h l
plain-tops h e p l =
    here-or-not e l (λ j. openers (e ∷ h) j ≡ openers h j)
    (openers-own h e ∙ ap (λ (y : Effect). opened y (openers h e.lane)) (plain-is (λ d. effect d ≡ Unmoved) e.deed p (λ x. refl) (λ x. refl)))
    (λ z. openers-other h e l z)

plain-after : (s : Scenario) (h : List Entry) (e : Entry) (o i c a : ℕ) (os : List Opener) → Around s h e o i → openers h e.lane ≡ Enters c o a ∷ os → Plain e.deed → (is_on (issue (e ∷ h) c) o i fire ≡ true → Firing s (e ∷ h) o i c) → After s h e o i
plain-after s h e o i c a os g r p new =
    let x : change h o i e.deed ≡ Stays = plain-is (λ d. change h o i d ≡ Stays) e.deed p (λ y. refl) (λ y. refl) in
    let may : ChangeBy (change h o i e.deed) (taken h o i) = subst (λ (y : Change). ChangeBy y (taken h o i)) (sym x) tt in
    let kept : effect e.deed ≡ Unmoved = plain-is (λ d. effect d ≡ Unmoved) e.deed p (λ y. refl) (λ y. refl) in record {
      may = may;
      told = record {
        rests = λ al nt. absurd (nt e.lane c a os (plain-tops h e p e.lane ∙ r));
        sits = λ l d b us z w. sits-told s h e o i l d b us g x (sym (plain-tops h e p l) ∙ z) w;
        fires = λ l d b us z w. let k : c ≡ d = top-call-is s h e o i c a l d b os us g r (sym (plain-tops h e p l) ∙ z) in
            subst (λ (n : ℕ). is_on (issue (e ∷ h) n) o i fire ≡ true → Firing s (e ∷ h) o i n) k new w;
        below = below-told s h e o i g (λ d b t us q z. absurd (keeps-opens (effect e.deed) (Waits d) kept q));
        due = due-told s h e o i g (λ l d b m k. due-stays s h e l d o b i g.lawful may m (plain-is (λ y. sends h e.lane d y ≡ false) e.deed p (λ y. refl) (λ y. refl)) k) (λ d b q. absurd (keeps-opens (effect e.deed) (Enters d o b) kept q));
      };
    }

-- ---- a body of the object leaves

left-tops : (h : List Entry) (e : Entry) (c o a : ℕ) (os : List Opener) (hr : HResult) (v : Option Value) → Left e.deed c hr v → openers h e.lane ≡ Enters c o a ∷ os → openers (e ∷ h) e.lane ≡ os
left-tops h e c o a os hr v w r = openers-own h e ∙ ap (λ (d : Deed). opened (effect d) (openers h e.lane)) w.is ∙ ap without_first r

enters-waits : (c o a k : ℕ) → Enters c o a ≡ Waits k → ⊥
enters-waits c o a k e = cc

left-no-top : (s : Scenario) (h : List Entry) (e : Entry) (o i c a : ℕ) (os : List Opener) (hr : HResult) (v : Option Value) → Around s h e o i → openers h e.lane ≡ Enters c o a ∷ os → Left e.deed c hr v → NoTop (e ∷ h) o
left-no-top s h e o i c a os hr v g r w l d b us z =
    here-or-not e l (λ j. openers (e ∷ h) j ≡ Enters d o b ∷ us → ⊥)
    (λ y. let k : openers h e.lane ≡ Enters c o a ∷ (Enters d o b ∷ us) = r ∙ ap (λ (xs : List Opener). Enters c o a ∷ xs) (sym (left-tops h e c o a os hr v w r) ∙ y) in
    let t : (n : ℕ) × (Enters c o a ≡ Waits n) = shape-above h e.lane d o b (Enters c o a) us (legal-shaped s h e.lane g.formed g.lawful.0) k in enters-waits c o a t.0 t.1)
    (λ t y. differs e.lane l t (same-lane s h l e.lane d c o b a i g.formed g.lawful.0 g.before (top-among d o b (openers h l) us (sym (openers-other h e l t) ∙ y)) (top-among c o a (openers h e.lane) os r))) z

leaves-opens : (c : ℕ) (hr : HResult) (v : Option Value) (bytes : Option (List ℕ)) (x : Opener) (d : Deed) → d ≡ deed.Leave c hr v bytes → effect d ≡ Opens x → ⊥
leaves-opens c hr v bytes x d e p = no (sym (ap effect e) ∙ p)
  where
    no : Closes (Leaves c) ≡ Opens x → ⊥
    no p = cc

left-after : (s : Scenario) (h : List Entry) (e : Entry) (o i c a : ℕ) (os : List Opener) (hr : HResult) (v : Option Value) → Around s h e o i → openers h e.lane ≡ Enters c o a ∷ os → Left e.deed c hr v
    → Keeps ((scene s (e ∷ h)).cells o) (sinks (e ∷ h) o i) (taken (e ∷ h) o i) → ChangeBy (change h o i e.deed) (taken h o i) → After s h e o i
left-after s h e o i c a os hr v g r w k may =
    let none : NoTop (e ∷ h) o = left-no-top s h e o i c a os hr v g r w in record {
      may = may;
      told = record {
        rests = λ al nt. k;
        sits = λ l d b us z on. absurd (none l d b us z);
        fires = λ l d b us z on. absurd (none l d b us z);
        below = below-told s h e o i g (λ d b t us q z. absurd (leaves-opens c hr v w.bytes (Waits d) e.deed w.is q));
        due = due-told s h e o i g (λ l d b m u. due-stays s h e l d o b i g.lawful may m (subst (λ (y : Deed). sends h e.lane d y ≡ false) (sym w.is) refl) u) (λ d b q. absurd (leaves-opens c hr v w.bytes (Enters d o b) e.deed w.is q));
      };
    }

-- ---- a body of `fire` sends the event

seen-next : (h : List Entry) (e : Entry) (o i c : ℕ) (to : Sink) → sends h e.lane c e.deed ≡ true → next_sink h o i c ≡ Some to → visited (e ∷ h) o i c ≡ visited h o i c ++ (to ∷ [])
seen-next h e o i c to p q = ap₂ (λ (b : Bool) (x : Option Sink). with_next b x (visited h o i c)) p q

sends-out : (s : Scenario) (h : List Entry) (e : Entry) (o i c a : ℕ) (os : List Opener) (w : SentOut s h e o i c) → openers h e.lane ≡ Enters c o a ∷ os → sends h e.lane c e.deed ≡ true
sends-out s h e o i c a os w r =
    subst (λ (d : Deed). sends h e.lane c d ≡ true) (sym w.out.is) (ap (λ (us : List Opener). is_number c (top_call (first us))) r ∙ same-number c)

sent-effect : (s : Scenario) (h : List Entry) (e : Entry) (o i c : ℕ) (w : SentOut s h e o i c) → effect e.deed ≡ Opens (Waits w.out.call)
sent-effect s h e o i c w = ap effect w.out.is

sent-no-top : (s : Scenario) (h : List Entry) (e : Entry) (o i c a : ℕ) (os : List Opener) (w : SentOut s h e o i c) → Around s h e o i → openers h e.lane ≡ Enters c o a ∷ os → NoTop (e ∷ h) o
sent-no-top s h e o i c a os w g r l d b us z =
    here-or-not e l (λ j. openers (e ∷ h) j ≡ Enters d o b ∷ us → ⊥)
    (λ y. waits-top (sym (openers-own h e ∙ ap (λ (x : Effect). opened x (openers h e.lane)) (sent-effect s h e o i c w)) ∙ y))
    (λ t y. differs e.lane l t (same-lane s h l e.lane d c o b a i g.formed g.lawful.0 g.before (top-among d o b (openers h l) us (sym (openers-other h e l t) ∙ y)) (top-among c o a (openers h e.lane) os r))) z
  where
    waits-top : Waits w.out.call ∷ openers h e.lane ≡ Enters d o b ∷ us → ⊥
    waits-top e = cc

sent-waiting : (s : Scenario) (h : List Entry) (e : Entry) (o i c a : ℕ) (os : List Opener) (w : SentOut s h e o i c) → legal s (e ∷ h) → openers h e.lane ≡ Enters c o a ∷ os → Waiting s (e ∷ h) o i w.out.call c
sent-waiting s h e o i c a os w q r =
    let seen : visited (e ∷ h) o i c ≡ visited h o i c ++ (w.to ∷ []) = seen-next h e o i c w.to (sends-out s h e o i c a os w r) w.next in
    let stays : last (e ∷ h) o i c ≡ last h o i c = last-stays s h e e.lane c o a i q (top-among c o a (openers h e.lane) os r) in record {
      to = w.where_to;
      event = w.event;
      at = subst (λ (vs : List Sink). AtSeen ((scene s (e ∷ h)).bodies c) w.event (last (e ∷ h) o i c) vs) (sym seen)
          (subst (λ (n : ℕ). AtSeen ((scene s (e ∷ h)).bodies c) w.event n (visited h o i c ++ (w.to ∷ []))) (sym stays)
          (subst (λ (n : ℕ). AtRound ((scene s (e ∷ h)).bodies c) n w.event (last h o i c) (reached (visited h o i c ++ (w.to ∷ [])))) (sym (one-longer (visited h o i c) w.to))
          (subst (λ (n : ℕ). AtRound ((scene s (e ∷ h)).bodies c) (length (visited h o i c) + 1) w.event (last h o i c) n) (sym (reached-more (visited h o i c) w.to)) w.round)));
    }

sent-due : (s : Scenario) (h : List Entry) (e : Entry) (o i c a : ℕ) (os : List Opener) (w : SentOut s h e o i c) → legal s (e ∷ h) → openers h e.lane ≡ Enters c o a ∷ os → change h o i e.deed ≡ Stays → Due h o i c → Due (e ∷ h) o i c
sent-due s h e o i c a os w q r x d =
    owing-same (last h o i c) (last (e ∷ h) o i c) (taken h o i) (taken (e ∷ h) o i) (visited h o i c ++ (w.to ∷ [])) (visited (e ∷ h) o i c) (sinks h o i) (sinks (e ∷ h) o i)
    (last-stays s h e e.lane c o a i q (top-among c o a (openers h e.lane) os r)) (taken-same h e o i x) (seen-next h e o i c w.to (sends-out s h e o i c a os w r) w.next) (sinks-same h e o i x)
    (owing-next (last h o i c) (taken h o i) (visited h o i c) (sinks h o i) w.to w.keeps.rising w.next d)

waits-call : (k d : ℕ) → Opens (Waits k) ≡ Opens (Waits d) → k ≡ d
waits-call k d e = cc

waits-enters : (k d o b : ℕ) → Opens (Waits k) ≡ Opens (Enters d o b) → ⊥
waits-enters k d o b e = cc

top-number : (h : List Entry) (l c o a d : ℕ) (os : List Opener) → openers h l ≡ Enters c o a ∷ os → (d == c) ≡ false → top_call (first (openers h l)) ≡ Some d → ⊥
top-number h l c o a d os r n e =
    let z : c ≡ d = some-number c d (sym (ap (λ (us : List Opener). top_call (first us)) r) ∙ e) in
    not-both (d == c) (subst (λ (y : ℕ). (d == y) ≡ true) (sym z) (same-number d)) n

sent-after : (s : Scenario) (h : List Entry) (e : Entry) (o i c a : ℕ) (os : List Opener) → Around s h e o i → openers h e.lane ≡ Enters c o a ∷ os → is_on (issue (e ∷ h) c) o i fire ≡ true → SentOut s h e o i c → After s h e o i
sent-after s h e o i c a os g r on w =
    let x : change h o i e.deed ≡ Stays = subst (λ (d : Deed). change h o i d ≡ Stays) (sym w.out.is) refl in
    let may : ChangeBy (change h o i e.deed) (taken h o i) = subst (λ (y : Change). ChangeBy y (taken h o i)) (sym x) tt in
    let none : NoTop (e ∷ h) o = sent-no-top s h e o i c a os w g r in record {
      may = may;
      told = record {
        rests = λ al nt. keeps-same ((scene s (e ∷ h)).cells o) ((scene s (e ∷ h)).cells o) (sinks h o i) (sinks (e ∷ h) o i) (taken h o i) (taken (e ∷ h) o i) refl (sinks-same h e o i x) (taken-same h e o i x) w.keeps;
        sits = λ l d b us z v. absurd (none l d b us z);
        fires = λ l d b us z v. absurd (none l d b us z);
        below = below-told s h e o i g (λ d b t us q z.
            subst (λ (n : ℕ). Below s h e o i n b) (waits-call w.out.call d (sym (sent-effect s h e o i c w) ∙ q))
            (subst (λ (n : ℕ). Below s h e o i w.out.call n) (enters-call c b o o a t os us (sym r ∙ z)) (on, sent-waiting s h e o i c a os w g.lawful r)));
        due = due-told s h e o i g (λ l d b m k. elim (d == c) as (λ t. (d == c) ≡ t → Due (e ∷ h) o i d) [
          | true ↦ λ t. subst (λ (n : ℕ). Due h o i n → Due (e ∷ h) o i n) (sym (eqb-true d c t)) (λ y. sent-due s h e o i c a os w g.lawful r x y) k
          | false ↦ λ t. due-stays s h e l d o b i g.lawful may m (not-sending h e.lane d e.deed (λ y. top-number h e.lane c o a d os r t y)) k
        ] refl) (λ d b q. absurd (waits-enters w.out.call d o b (sym (sent-effect s h e o i c w) ∙ q)));
      };
    }

-- ---- each case of a body on top

goes-firing : (s : Scenario) (h : List Entry) (e : Entry) (o i c a : ℕ) (os : List Opener) → legal s (e ∷ h) → openers h e.lane ≡ Enters c o a ∷ os → FireGoes s h e o i c → Firing s (e ∷ h) o i c
goes-firing s h e o i c a os q r w =
    let x : change h o i e.deed ≡ Stays = plain-is (λ d. change h o i d ≡ Stays) e.deed w.plain (λ y. refl) (λ y. refl) in record {
      event = w.event;
      frame = w.frame;
      cells = w.cells;
      steps = w.steps;
      at = at-same w.frame w.event (last h o i c) (last (e ∷ h) o i c) (visited h o i c) (visited (e ∷ h) o i c) (last-stays s h e e.lane c o a i q (top-among c o a (openers h e.lane) os r))
          (seen-stays h e o i c (plain-is (λ d. sends h e.lane c d ≡ false) e.deed w.plain (λ y. refl) (λ y. refl))) w.at;
      keeps = keeps-same w.cells w.cells (sinks h o i) (sinks (e ∷ h) o i) (taken h o i) (taken (e ∷ h) o i) refl (sinks-same h e o i x) (taken-same h e o i x) w.keeps;
      same = w.same;
    }

-- A call of `fire` is none of the others.
fire-only : (x : Option Issue) (o i m : ℕ) → (fire ≡ m → ⊥) → is_on x o i fire ≡ true → is_on x o i m ≡ false
fire-only None o i m n e = cc
fire-only (Some y) o i m n e =
    let u : (y.method == fire) ≡ true = and-right (y.iface == i) (y.method == fire) (and-right (is_number o y.object) (y.iface == i && y.method == fire) e) in
    false_from_ne_true (is_on (Some y) o i m) (λ t. n (sym (eqb-true y.method fire u) ∙ eqb-true y.method m (and-right (y.iface == i) (y.method == m) (and-right (is_number o y.object) (y.iface == i && y.method == m) t))))

not-two : (n m : ℕ) → n ≡ 2 → m < 2 → n ≡ m → ⊥
not-two n m p q e = omega (arith, p, q, e)

over-after-fire : (s : Scenario) (h : List Entry) (e : Entry) (o i c a : ℕ) (os : List Opener) (y : Issue) → Around s h e o i → openers h e.lane ≡ Enters c o a ∷ os → is_on (issue h c) o i fire ≡ true → FireOver s h e o i c y → After s h e o i
over-after-fire s h e o i c a os y g r on w =
    let v : Option Value = result_of s h y ok (Some (number (length (visited h o i c)))) in
    let x : change h o i e.deed ≡ Stays = ap (change h o i) w.left.is ∙ leaving-stays h o i c (is_S_OK ok) v (fire-only (issue h c) o i advise (not-two fire advise refl (omega arith)) on) (fire-only (issue h c) o i unadvise (not-two fire unadvise refl (omega arith)) on) in
    left-after s h e o i c a os ok v g r w.left
    (keeps-same ((scene s (e ∷ h)).cells o) ((scene s (e ∷ h)).cells o) (sinks h o i) (sinks (e ∷ h) o i) (taken h o i) (taken (e ∷ h) o i) refl (sinks-same h e o i x) (taken-same h e o i x) w.keeps)
    (subst (λ (y : Change). ChangeBy y (taken h o i)) (sym x) tt)

pub acting-fire : (s : Scenario) (h : List Entry) (e : Entry) (o i c a : ℕ) (os : List Opener) (y : Issued h c o) → Around s h e o i → openers h e.lane ≡ Enters c o a ∷ os → is_on (issue h c) o i fire ≡ true → FireCase s h e o i c y.of
acting-fire s h e o i c a os y g r on =
    fire-case s h e o i c a os y.of g.lawful r y.is (fire-body s h o i c y g.before on) (g.told.due e.lane c a (top-among c o a (openers h e.lane) os r) on) (g.told.fires e.lane c a os r on)

fire-after : (s : Scenario) (h : List Entry) (e : Entry) (o i c a : ℕ) (os : List Opener) (y : Issue) → Around s h e o i → openers h e.lane ≡ Enters c o a ∷ os → is_on (issue h c) o i fire ≡ true → FireCase s h e o i c y → After s h e o i
fire-after s h e o i c a os y g r on (fire_goes w) = plain-after s h e o i c a os g r w.plain (λ t. goes-firing s h e o i c a os g.lawful r w)
fire-after s h e o i c a os y g r on (fire_sends w) =
    let z : Same s h e c o = stays-same s h e e.lane c o a g.formed g.lawful (top-among c o a (openers h e.lane) os r) in
    sent-after s h e o i c a os g r (ap (λ (x : Option Issue). is_on x o i fire) z.issued ∙ on) w
fire-after s h e o i c a os y g r on (fire_ends w) = over-after-fire s h e o i c a os y g r on w

sit-after : (s : Scenario) (h : List Entry) (e : Entry) (o i c a : ℕ) (os : List Opener) → Around s h e o i → openers h e.lane ≡ Enters c o a ∷ os → is_on (issue h c) o i fire ≡ false → SitCase s h e o i c → After s h e o i
sit-after s h e o i c a os g r off (sit_goes p) =
    let z : Same s h e c o = stays-same s h e e.lane c o a g.formed g.lawful (top-among c o a (openers h e.lane) os r) in
    plain-after s h e o i c a os g r p (λ t. absurd (not-both (is_on (issue (e ∷ h) c) o i fire) t (ap (λ (x : Option Issue). is_on x o i fire) z.issued ∙ off)))
sit-after s h e o i c a os g r off (sit_ends w) = left-after s h e o i c a os w.hr w.value g r w.left w.keeps w.may

mine-after : (s : Scenario) (h : List Entry) (e : Entry) (o i c a : ℕ) (os : List Opener) → Around s h e o i → openers h e.lane ≡ Enters c o a ∷ os → After s h e o i
mine-after s h e o i c a os g r =
    let y : Issued h c o = issued-on s h e.lane c o a i g.formed g.lawful.0 g.before (top-among c o a (openers h e.lane) os r) in
    elim (is_on (issue h c) o i fire) as (λ t. is_on (issue h c) o i fire ≡ t → After s h e o i) [
      | true ↦ λ t. fire-after s h e o i c a os y.of g r t (acting-fire s h e o i c a os y g r t)
      | false ↦ λ t. sit-after s h e o i c a os g r t (sit-case s h e o i c a os g.formed g.lawful g.short g.before r y t (g.told.sits e.lane c a os r t))
    ] refl

-- ---- an object that was made before

pub data Top (h : List Entry) (l o : ℕ) : Type 0 where
  mine : (c a : ℕ) (os : List Opener) → openers h l ≡ Enters c o a ∷ os → Top h l o
  free : Free h l o → Top h l o

pub top-of : (h : List Entry) (l o : ℕ) (xs : List Opener) → openers h l ≡ xs → Top h l o
top-of h l o [] z = free (λ c a os r. nothing c a os (sym z ∙ r))
  where
    nothing : (c a : ℕ) (os : List Opener) → [] ≡ Enters c o a ∷ os → ⊥
    nothing c a os e = cc
top-of h l o (Pumps n ∷ xs) z = free (λ c a os r. no c a os (sym z ∙ r))
  where
    no : (c a : ℕ) (os : List Opener) → Pumps n ∷ xs ≡ Enters c o a ∷ os → ⊥
    no c a os e = cc
top-of h l o (Waits n ∷ xs) z = free (λ c a os r. no c a os (sym z ∙ r))
  where
    no : (c a : ℕ) (os : List Opener) → Waits n ∷ xs ≡ Enters c o a ∷ os → ⊥
    no c a os e = cc
top-of h l o (Enters c x a ∷ xs) z =
    elim (x == o) as (λ t. (x == o) ≡ t → Top h l o) [
      | true ↦ λ t. mine c a xs (z ∙ ap (λ (y : ℕ). Enters c y a ∷ xs) (eqb-true x o t))
      | false ↦ λ t. free (λ d b os r. not-both (x == o) (subst (λ (y : ℕ). (x == y) ≡ true) (same d b os (sym z ∙ r)) (same-number x)) t)
    ] refl
  where
    same : (d b : ℕ) (os : List Opener) → Enters c x a ∷ xs ≡ Enters d o b ∷ os → x ≡ o
    same d b os e = cc

pub after-entry : (s : Scenario) (h : List Entry) (e : Entry) (o i : ℕ) → Around s h e o i → After s h e o i
after-entry s h e o i g =
    elim (top-of h e.lane o (openers h e.lane) refl) as (λ _. After s h e o i) [
      | mine c a os r ↦ mine-after s h e o i c a os g r
      | free n ↦ free-after s h e o i g n
    ]
