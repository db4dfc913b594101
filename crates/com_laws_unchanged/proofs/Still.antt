-- Where a scene's slots and links stay, and lanes open or close pumps alone, the places of all objects stay.
use Rattle.std.proofs.Common.{◌≡◌, refl, sym, ◌∙◌, ap, arith, ℕ, zero, suc, ◌+◌, ◌<◌, ◌≤◌, ◌==◌, nat_lt, drop, Bool, true, false, cond, List, [], ◌∷◌, sum_by, fold, length, slice_index_or, slice_set, if◌then◌else◌, eqb-true}
use Rattle.std.proofs.lemmas.Grind.{common_steps}
use Rattle.std.proofs.lemmas.Bool.{ltb-true, ltb-false}
use Rattle.std.proofs.lemmas.List.{get_or-set_same, get_or-set_other, get_or_past}
use Rattle.std.specs.Prelude.{Option, Some, None}
use Rattle.com_base.specs.declared.value.RefValue.{RefValue}
use Rattle.com_body.specs.declared.actions.Action.{Action}
use Rattle.com_body.specs.declared.actions.Action.TheVariants as action
use Rattle.com_body.specs.declared.frame.Cells.{Cells}
use Rattle.com_body.specs.declared.frame.Outcome.{Outcome}
use Rattle.com_body.specs.declared.statements.Stmt.{Stmt}
use Rattle.com_body.specs.declared.statements.Stmt.TheVariants as stmt
use Rattle.com_body.specs.Frames.{FrameView, moved}
use Rattle.com_body.specs.BodySteps.{Effect, Goes, Acts, effect_of, walk, body_step}
use Rattle.com_body.specs.Operands.{new_cells}
use Rattle.com_refs_books.specs.Counting.{sum_below}
use Rattle.com_refs_books.specs.Changes.{Books, held_outside}
use Rattle.com_classes.specs.Lookups.{body_of}
use Rattle.com_model.specs.declared.deeds.Deed.{Deed}
use Rattle.com_model.specs.declared.deeds.Deed.TheVariants as deed
use Rattle.com_model.specs.declared.keeps.Issue.{Issue}
use Rattle.com_model.specs.declared.keeps.Opener.{Opener}
use Rattle.com_model.specs.declared.keeps.Opener.TheVariants.{Pumps, Waits, Enters}
use Rattle.com_model.specs.declared.scenario.Scenario.{Scenario}
use Rattle.com_model.specs.Answers.{S_OK}
use Rattle.com_model.specs.Lists.{put, is_number, any_of, one_to, tabulated}
use Rattle.com_model.specs.Tables.{threads, lanes, script}
use Rattle.com_model.specs.Openers.{runs}
use Rattle.com_model.specs.Frames.{Scene, Actor, Body, Script, Nobody, Write, ToRegister, ToSlot, ToLink, ToBuffer, issued_body, outcome, action_of, written, with_frame, wants, writes, acted, arrived, to_answer}
use Rattle.com_model.specs.Places.{Ground, Test, to_object, in_slots, in_frame, in_results, places}
use Rattle.com_model.specs.Books.{holders_in}
use Rattle.com_model.specs.Dying.{is_entered, is_dying_by}
use Rattle.com_model.proofs.Tabled.{length-tabulated, within-tabulated}
use Rattle.com_state.specs.Resting.{is_quiet}
use Rattle.com_laws_unchanged.proofs.Apt.{IsPlain, PlainStep}

clash : false ≡ true → ⊥
clash e = cc

-- ---- rows past a table's end

set-past : {X : Type 0} (xs : List X) (k : ℕ) (x : X) → length xs ≤ k → slice_set xs k x ≡ xs
set-past [] k x h = refl
set-past (y ∷ xs) zero x h = absurd (omega (arith, h))
set-past (y ∷ xs) (suc k) x h = ap (λ (zs : List _). y ∷ zs) (set-past xs k x (omega (arith, h)))

pub past-rows : {X : Type 0} (xs : List X) (n : ℕ) (f : ℕ → X) (d : X) → tabulated (n + 1) f ≡ xs → (k : ℕ) → n + 1 ≤ k → slice_index_or xs k d ≡ d
past-rows xs n f d e k h = let z : length (tabulated (n + 1) f) ≡ n + 1 = length-tabulated (n + 1) f in let y : length (tabulated (n + 1) f) ≡ length xs = ap length e in get_or_past xs k d (omega (arith, z, y, h))

-- ---- a body step keeps slots and links

abbrev Kept : FrameView → Cells → Effect → Type 0
Kept f c (Goes g d n) = (g.slots ≡ f.slots) × (d.links ≡ c.links)
Kept f c (Acts a) = Unit {0}

effect-kept : (f : FrameView) (c : Cells) (x : Stmt) → Kept f c (effect_of f c x)
effect-kept f c (stmt.Set to from) = (refl, refl)
effect-kept f c (stmt.Add to from) = (refl, refl)
effect-kept f c (stmt.Sub to from) = (refl, refl)
effect-kept f c (stmt.Less to left right) = (refl, refl)
effect-kept f c (stmt.Same to left right) = (refl, refl)
effect-kept f c (stmt.Load to cell) = (refl, refl)
effect-kept f c (stmt.Store cell from) = (refl, refl)
effect-kept f c (stmt.Skip count) = (refl, refl)
effect-kept f c (stmt.SkipZero register count) = (refl, refl)
effect-kept f c _ = tt

abbrev went : List Stmt → FrameView → Cells → Effect → Outcome
went xs f c (Goes g d n) = walk xs n (moved g (n + 1)) d
went xs f c (Acts a) = record { frame = moved f 1; cells = c; action = a }

abbrev KeptBy : FrameView → Cells → Outcome → Type 0
KeptBy f c r = (r.frame.slots ≡ f.slots) × (r.cells.links ≡ c.links)

went-kept : (xs : List Stmt) (f : FrameView) (c : Cells) (e : Effect) → Kept f c e → ((n : ℕ) (g : FrameView) (d : Cells) → KeptBy g d (walk xs n g d)) → KeptBy f c (went xs f c e)
went-kept xs f c (Goes g d n) k w = ((w n (moved g (n + 1)) d).0 ∙ k.0, (w n (moved g (n + 1)) d).1 ∙ k.1)
went-kept xs f c (Acts a) k w = (refl, refl)

walk-kept : (xs : List Stmt) (n : ℕ) (f : FrameView) (c : Cells) → KeptBy f c (walk xs n f c)
walk-kept [] n f c = (refl, refl)
walk-kept (x ∷ xs) (suc n) f c = walk-kept xs n f c
walk-kept (x ∷ xs) zero f c = went-kept xs f c (effect_of f c x) (effect-kept f c x) (λ n g d. walk-kept xs n g d)

pub step-kept : (xs : List Stmt) (f : FrameView) (c : Cells) → KeptBy f c (body_step xs f c)
step-kept xs f c = walk-kept (drop f.place xs) 0 f c

issued-kept : (s : Scenario) (k : ℕ) (i : Option Issue) (f : FrameView) (c : Cells) → KeptBy f c (issued_body s k i f c)
issued-kept s k None f c = step-kept [] f c
issued-kept s k (Some i) f c = step-kept (body_of s.classes k i.iface i.method) f c

-- ---- scenes that hold the same

pub record SameHolds (w x : Scene) : Type 0 where
  pub scripts : (l : ℕ) → (x.scripts l).slots ≡ (w.scripts l).slots
  pub bodies : (c : ℕ) → (x.bodies c).slots ≡ (w.bodies c).slots
  pub links : (o : ℕ) → (x.cells o).links ≡ (w.cells o).links

pub same-holds : (w : Scene) → SameHolds w w
same-holds w = record { scripts = λ l. refl; bodies = λ c. refl; links = λ o. refl }

pub then-holds : (w x y : Scene) → SameHolds w x → SameHolds x y → SameHolds w y
then-holds w x y p q = record { scripts = λ l. q.scripts l ∙ p.scripts l; bodies = λ c. q.bodies c ∙ p.bodies c; links = λ o. q.links o ∙ p.links o }

put-told : {X Y : Type 0} (f : X → Y) (k : ℕ) (x : X) (g : ℕ → X) → f x ≡ f (g k) → (j : ℕ) → f (put k x g j) ≡ f (g j)
put-told f k x g e j = by-test (j == k) refl
  where
    by-test : (t : Bool) → (j == k) ≡ t → f (cond (j == k) x (g j)) ≡ f (g j)
    by-test true q = ap (λ (b : Bool). f (cond b x (g j))) q ∙ e ∙ ap (λ (i : ℕ). f (g i)) (sym (eqb-true j k q))
    by-test false q = ap (λ (b : Bool). f (cond b x (g j))) q

written-holds : (a : Actor) (w : Scene) (x : Write) (xs : List Write) → IsPlain (x ∷ xs) → SameHolds w (written a w x)
written-holds (Body c o) w (ToRegister r v) xs p = record { scripts = λ l. refl; bodies = put-told (λ (f : FrameView). f.slots) c _ w.bodies refl; links = λ o. refl }
written-holds (Body c o) w (ToSlot k held) xs p = absurd p
written-holds (Body c o) w (ToLink k held) xs p = absurd p
written-holds (Body c o) w (ToBuffer b bytes) xs p = record { scripts = λ l. refl; bodies = λ c. refl; links = λ o. refl }
written-holds (Script n) w (ToRegister r v) xs p = record { scripts = put-told (λ (f : FrameView). f.slots) n _ w.scripts refl; bodies = λ c. refl; links = λ o. refl }
written-holds (Script n) w (ToSlot k held) xs p = absurd p
written-holds (Script n) w (ToLink k held) xs p = absurd p
written-holds (Script n) w (ToBuffer b bytes) xs p = record { scripts = λ l. refl; bodies = λ c. refl; links = λ o. refl }
written-holds Nobody w x xs p = same-holds w

plain-rest : (x : Write) (xs : List Write) → IsPlain (x ∷ xs) → IsPlain xs
plain-rest (ToRegister r v) xs p = p
plain-rest (ToBuffer b bytes) xs p = p
plain-rest (ToSlot k held) xs p = absurd p
plain-rest (ToLink k held) xs p = absurd p

writes-hold : (a : Actor) (w : Scene) (xs : List Write) → IsPlain xs → SameHolds w (fold (written a) w xs)
writes-hold a w [] p = same-holds w
writes-hold a w (x ∷ xs) p = then-holds w (written a w x) (fold (written a) (written a w x) xs) (written-holds a w x xs p) (writes-hold a (written a w x) xs (plain-rest x xs p))

wants-holds : (x : Action) (d : Deed) (w : Scene) → SameHolds w (wants x d w)
wants-holds (action.Call held i m args to) (deed.Out c o j n r k bytes) w = record { scripts = λ l. refl; bodies = λ c. refl; links = λ o. refl }
wants-holds (action.Call held i m args to) _ w = same-holds w
wants-holds _ d w = same-holds w

frame-holds : (s : Scenario) (k : ℕ → ℕ) (i : ℕ → Option Issue) (w : Scene) (a : Actor) (r : Outcome) → outcome s k i w a ≡ Some r → SameHolds w (with_frame a r w)
frame-holds s k i w (Body c o) r e =
    let q : issued_body s (k o) (i c) (w.bodies c) (w.cells o) ≡ r = some-same (issued_body s (k o) (i c) (w.bodies c) (w.cells o)) r e in
    let p : KeptBy (w.bodies c) (w.cells o) (issued_body s (k o) (i c) (w.bodies c) (w.cells o)) = issued-kept s (k o) (i c) (w.bodies c) (w.cells o) in
    record {
      scripts = λ l. refl;
      bodies = put-told (λ (f : FrameView). f.slots) c r.frame w.bodies (ap (λ (x : Outcome). x.frame.slots) (sym q) ∙ p.0);
      links = put-told (λ (f : Cells). f.links) o r.cells w.cells (ap (λ (x : Outcome). x.cells.links) (sym q) ∙ p.1);
    }
  where
    some-same : (x y : Outcome) → Some x ≡ Some y → x ≡ y
    some-same x y e = cc
frame-holds s k i w (Script l) r e =
    let q : body_step (script s l) (w.scripts l) new_cells ≡ r = some-same (body_step (script s l) (w.scripts l) new_cells) r e in
    let p : KeptBy (w.scripts l) new_cells (body_step (script s l) (w.scripts l) new_cells) = step-kept (script s l) (w.scripts l) new_cells in
    record {
      scripts = put-told (λ (f : FrameView). f.slots) l r.frame w.scripts (ap (λ (x : Outcome). x.frame.slots) (sym q) ∙ p.0);
      bodies = λ c. refl;
      links = λ o. refl;
    }
  where
    some-same : (x y : Outcome) → Some x ≡ Some y → x ≡ y
    some-same x y e = cc
frame-holds s k i w Nobody r e = same-holds w

acted-holds : (s : Scenario) (k : ℕ → ℕ) (i : ℕ → Option Issue) (w : Scene) (a : Actor) (d : Deed) (o : Option Outcome) → outcome s k i w a ≡ o → PlainStep (action_of o) d → SameHolds w (acted a o d w)
acted-holds s k i w a d None e p = same-holds w
acted-holds s k i w a d (Some r) e p =
    let x : Scene = with_frame a r w in
    let y : Scene = fold (written a) x (writes r.action d) in
    then-holds w y (wants r.action d y) (then-holds w x y (frame-holds s k i w a r e) (writes-hold a x (writes r.action d) p)) (wants-holds r.action d y)

pub step-holds : (s : Scenario) (k : ℕ → ℕ) (i : ℕ → Option Issue) (w : Scene) (a : Actor) (d : Deed) → PlainStep (action_of (outcome s k i w a)) d → SameHolds w (acted a (outcome s k i w a) d w)
step-holds s k i w a d p = acted-holds s k i w a d (outcome s k i w a) refl p

pub arrived-holds : (b : Actor) (l : ℕ) (d : Deed) (w : Scene) → is_quiet d ≡ true → SameHolds w (arrived b l d w)
arrived-holds b l (deed.Leave c hr v bytes) w q = absurd (clash q)
arrived-holds b l (deed.Enter c o a t vs) w q = absurd (clash q)
arrived-holds b l (deed.Back c hr v) w q = absurd (clash q)
arrived-holds b l deed.EndPump w q = written-holds b w (to_answer S_OK) [] tt
arrived-holds b l (deed.Uninit a zero) w q = absurd (clash q)
arrived-holds b l (deed.Uninit a (suc n)) w q = same-holds w
arrived-holds b l (deed.Final o) w q = absurd (clash q)
arrived-holds b l _ w q = same-holds w

-- What is read back of a table tells the same of each row.
pub read-back : {X Y : Type 0} (f : X → Y) (n : ℕ) (g h : ℕ → X) (d : X) → ((k : ℕ) → f (g k) ≡ f (h k)) → ((k : ℕ) → n ≤ k → h k ≡ d) → (k : ℕ) → f (slice_index_or (tabulated n g) k d) ≡ f (h k)
read-back f n g h d p q k = by-size (nat_lt k n) refl
  where
    by-size : (t : Bool) → nat_lt k n ≡ t → f (slice_index_or (tabulated n g) k d) ≡ f (h k)
    by-size true e = ap f (within-tabulated n g k d (ltb-true k n e)) ∙ p k
    by-size false e = let z : n ≤ k = ltb-false k n e in let m : length (tabulated n g) ≡ n = length-tabulated n g in ap f (get_or_past (tabulated n g) k d (omega (arith, z, m))) ∙ ap f (sym (q k z))

-- What a row tells stays, where the new row tells the same.
apart : (k c : ℕ) → k ≡ c → (k == c) ≡ false → ⊥
apart k c q e = let z : (k == k) ≡ true = grind (arith, common_steps) in let y : (k == k) ≡ false = ap (λ (j : ℕ). k == j) q ∙ e in cc

pub rows-tell : {X Y : Type 0} (f : ℕ → X → Y) (xs : List X) (l : ℕ) (x d : X) → f l x ≡ f l (slice_index_or xs l d) → (k : ℕ) → f k (slice_index_or (slice_set xs l x) k d) ≡ f k (slice_index_or xs k d)
rows-tell f xs l x d e k = by-size (nat_lt l (length xs)) refl
  where
    by-test : l < length xs → (t : Bool) → (k == l) ≡ t → f k (slice_index_or (slice_set xs l x) k d) ≡ f k (slice_index_or xs k d)
    by-test h true q =
        let z : k ≡ l = eqb-true k l q in
        ap (λ (j : ℕ). f j (slice_index_or (slice_set xs l x) j d)) z ∙ ap (f l) (get_or-set_same xs l x d h) ∙ e ∙ ap (λ (j : ℕ). f j (slice_index_or xs j d)) (sym z)
    by-test h false q = ap (f k) (get_or-set_other xs l k x d (λ z. apart k l z q))

    by-size : (t : Bool) → nat_lt l (length xs) ≡ t → f k (slice_index_or (slice_set xs l x) k d) ≡ f k (slice_index_or xs k d)
    by-size true q = by-test (ltb-true l (length xs) q) (k == l) refl
    by-size false q = ap (λ (ys : List _). f k (slice_index_or ys k d)) (set-past xs l x (ltb-false l (length xs) q))

-- ---- places

pub record Still (g : Ground) (os : ℕ → List Opener) (w x : Scene) : Type 0 where
  pub scripts : (l : ℕ) → (x.scripts l).slots ≡ (w.scripts l).slots
  pub frames : (l a : ℕ) (t : Test) → sum_by (in_frame x a t) (os l) ≡ sum_by (in_frame w a t) (g.openers l)
  pub links : (o : ℕ) → (x.cells o).links ≡ (w.cells o).links
  pub runs : (l o : ℕ) → runs o (os l) ≡ runs o (g.openers l)

frame-told : (w x : Scene) (a : ℕ) (t : Test) → SameHolds w x → (o : Opener) → in_frame x a t o ≡ in_frame w a t o
frame-told w x a t p (Enters c y b) = ap (λ (k : List (Option RefValue)). if b == a then in_slots t k else 0) (p.bodies c)
frame-told w x a t p (Waits c) = refl
frame-told w x a t p (Pumps n) = refl

pub frames-told : (w x : Scene) (a : ℕ) (t : Test) (os : List Opener) → SameHolds w x → sum_by (in_frame x a t) os ≡ sum_by (in_frame w a t) os
frames-told w x a t os p = ap (λ (f : Opener → ℕ). sum_by f os) (λ i o. frame-told w x a t p o i)

pub still-places : (s : Scenario) (g : Ground) (os : ℕ → List Opener) (w x : Scene) → Still g os w x → places s (record g { openers = os }) x ≡ places s g w
still-places s g os w x p = λ i a o.
    sum_below (threads s + 1) (λ l. if is_number a (g.home l) then in_slots (to_object o) (p.scripts l i) else 0)
    + sum_below (lanes s + 1) (λ l. p.frames l a (to_object o) i)
    + sum_below (g.objects + 1) (λ k. if g.named k == a then in_slots (to_object o) (p.links k i) else 0)
    + in_results g a (to_object o)

pub still-holders : (s : Scenario) (g : Ground) (os : ℕ → List Opener) (w x : Scene) (b : Books) → Still g os w x → holders_in s (record g { openers = os }) x b ≡ holders_in s g w b
still-holders s g os w x b p = λ i o.
    if b.live o then sum_below g.apartments (λ a. still-places s g os w x p i a o) + held_outside b o
    else sum_below g.apartments (λ a. if g.owns o a then still-places s g os w x p i a o else 0)

pub still-dying : (s : Scenario) (g : Ground) (os : ℕ → List Opener) (w x : Scene) (b : Books) (n : ℕ) (finaled : ℕ → Bool) → Still g os w x
    → is_dying_by n finaled (holders_in s (record g { openers = os }) x b) (is_entered s os) ≡ is_dying_by n finaled (holders_in s g w b) (is_entered s g.openers)
still-dying s g os w x b n finaled p = λ i o. is_dying_by n finaled (still-holders s g os w x b p i) (λ k. any_of (λ l. p.runs l k i) (one_to (lanes s))) o
