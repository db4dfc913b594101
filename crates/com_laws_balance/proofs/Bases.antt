-- What is known of the scene of every legal history of a formed scenario, beside the numbers in `Keeps`: a script without home, a
-- call that was not admitted and an agile object hold no references, registers hold none, and results fit their destinations.
use Rattle.std.proofs.Common.{subst, sym, ap, ◌∙◌, ◌⊎◌, inl, inr, eqb-true, arith}
use Rattle.std.proofs.lemmas.Grind.{common_steps}
use Rattle.std.specs.Prelude.{◌≡◌, refl, ℕ, zero, suc, ◌≤◌, Bool, true, false, cond, ◌==◌, List, [], ◌∷◌, Option, Some, None, is_some, slice_index_or}
use Rattle.com_base.specs.declared.hresult.HResult.{HResult}
use Rattle.com_base.specs.declared.value.RefValue.{RefValue}
use Rattle.com_base.specs.declared.value.Kind.{Kind}
use Rattle.com_base.specs.declared.value.Value.{Value}
use Rattle.com_base.specs.declared.value.Value.TheVariants as value
use Rattle.com_body.specs.declared.operands.Destination.{Destination}
use Rattle.com_body.specs.declared.operands.Destination.TheVariants as destination
use Rattle.com_body.specs.declared.actions.Action.{Action}
use Rattle.com_body.specs.declared.actions.Action.TheVariants as action
use Rattle.com_body.specs.declared.frame.Outcome.{Outcome}
use Rattle.com_model.specs.declared.deeds.Deed.{Deed}
use Rattle.com_model.specs.declared.deeds.Deed.TheVariants as deed
use Rattle.com_model.specs.declared.deeds.Entry.{Entry}
use Rattle.com_model.specs.declared.scenario.Scenario.{Scenario}
use Rattle.com_model.specs.Answers.{S_OK}
use Rattle.com_model.specs.Lists.{first}
use Rattle.com_model.specs.Tables.{LaneSort, Thread, Host, Pool, NoLane, lane_sort}
use Rattle.com_model.specs.Openers.{openers}
use Rattle.com_model.specs.declared.keeps.Opener.{Opener}
use Rattle.com_model.specs.declared.keeps.Opener.TheVariants.{Pumps, Waits, Enters}
use Rattle.com_model.specs.Apartments.{Remains, home_effect, home}
use Rattle.com_model.specs.Objects.{objects, agile, class_of}
use Rattle.com_model.specs.Calls.{issues, issue, admitted, admission_or, admits}
use Rattle.com_model.specs.declared.keeps.Issue.{Issue}
use Rattle.com_model.specs.Frames.{Scene, scene, Actor, Body, Script, Nobody, actor, actor_in, taken_in, value_reference, to_answer, to_destination, with_frame, writes, wants, acted, arrived, cut_links, acting, act_by, act}
use Rattle.com_model.specs.Endings.{ending}
use Rattle.com_model.specs.declared.keeps.Ending.{Ending}
use Rattle.com_model.specs.declared.keeps.Ending.TheVariants.{ByLeave}
use Rattle.com_model.specs.Sight.{sight}
use Rattle.com_model.specs.Books.{books}
use Rattle.com_model.specs.Rules.{result_gone, legal}
use Rattle.com_model.specs.Formed.{Formed}
use Rattle.com_laws_balance.proofs.Carries.{HeldBy, ValueBy, FitsTo, PlainKind, ActionBy}
use Rattle.com_laws_balance.proofs.Moves.{SceneBy, TestOf, Shares, OrderlyActor, ArrivesBy, PlainAt, acting-is, outcome-by, written-to, all-written-to, framed-to}
use Rattle.com_laws_balance.proofs.Counts.{Among}
use Rattle.com_laws_balance.proofs.Orders.{script-orderly, body-orderly}
use Rattle.com_model.proofs.Kept.{legal-kept}
use Rattle.com_laws_balance.proofs.Stacks.{admission_in, open-admitted}
use Rattle.com_laws_balance.proofs.Makings.{among-made, same-agile}
use Rattle.com_laws_balance.proofs.Results.{kind_of, PlainResult, NotLeft, EndBy, ends-plain}
use Rattle.com_laws_balance.proofs.Says.{Says, next-says}
use Rattle.com_laws_balance.proofs.Tops.{no_top, by_body, HomeAct, Tops, next-tops}
use Rattle.com_laws_balance.proofs.Homes.{home-remains, home-other, held-all, taken-homed, admitted-none}

abbrev pub S0 : Scenario → List Entry → ℕ → RefValue → Type 0
S0 s h l r = home s h l ≡ None → ⊥

abbrev pub B0 : List Entry → ℕ → RefValue → Type 0
B0 h c r = admitted h c ≡ None → ⊥

abbrev pub K0 : Scenario → List Entry → ℕ → RefValue → Type 0
K0 s h o r = agile s h o ≡ false

-- A call whose answer is fixed, and not by a Leave.
abbrev pub Ended : Option Ending → Type 0
Ended x = (is_some x ≡ true) × NotLeft x

pub record Base (s : Scenario) (h : List Entry) : Type 0 where
  pub frames : SceneBy (S0 s h) (B0 h) (K0 s h) (scene s h)
  pub fits : (c : ℕ) → FitsTo (kind_of s (issue h c)) ((scene s h).destinations c)
  pub homed : (l c : ℕ) → Among (Waits c) (openers h l) → Ended (ending s h c) ⊎ (home s h l ≡ None → ⊥)

-- ---- whoever acts

abbrev pub I_of : Actor → Type 0
I_of (Body c o) = ⊥
I_of _ = Unit {0}

abbrev pub L_of : Scenario → List Entry → Actor → Type 0
L_of s h (Body c o) = agile s h o ≡ false
L_of s h _ = ⊥

pub actor-orderly : (s : Scenario) (h : List Entry) → Formed s → (a : Actor) → OrderlyActor s (class_of h) (issue h) (I_of a) (L_of s h a) a
actor-orderly s h f (Body c o) = λ j m. body-orderly s f (class_of h o) j m
actor-orderly s h f (Script l) = script-orderly s f l
actor-orderly s h f Nobody = tt

pub actor-is : (Q : Actor → Type 0) (sort : LaneSort) (l : ℕ) (os : List Opener) → ((c o a : ℕ) (rest : List Opener) → os ≡ Enters c o a ∷ rest → Q (Body c o)) → (os ≡ [] → Q (Script l)) → Q Nobody → Q (actor sort l os)
actor-is Q Thread l [] f g n = g refl
actor-is Q Host l [] f g n = n
actor-is Q Pool l [] f g n = n
actor-is Q NoLane l [] f g n = n
actor-is Q sort l (Enters c o a ∷ os) f g n = f c o a os refl
actor-is Q sort l (Pumps k ∷ os) f g n = n
actor-is Q sort l (Waits k ∷ os) f g n = n

pub top-among : (c o a : ℕ) (os rest : List Opener) → os ≡ Enters c o a ∷ rest → Among (Enters c o a) os
top-among c o a os rest e = subst (λ (x : List Opener). Among (Enters c o a) x) (sym e) (inl refl)

pub some-none : {X : Type 0} (x : Option X) (y : X) → x ≡ Some y → x ≡ None → ⊥
some-none None y e p = cc
some-none (Some z) y e p = cc

-- The call of a body that acts was admitted, and its object made.
pub open-some : (s : Scenario) (h : List Entry) → legal s h → (l c o a : ℕ) → Among (Enters c o a) (openers h l) → admitted h c ≡ None → ⊥
open-some s h q l c o a m = some-none (admitted h c) (admission_in c l a) (open-admitted s h q l c o a m)

pub open-made : (s : Scenario) (h : List Entry) → Formed s → legal s h → (l c o a : ℕ) → Among (Enters c o a) (openers h l) → o ≤ objects h
open-made s h f q l c o a m = among-made _ _ _ (openers h l) c o a ((legal-kept s h f q).opens l) m

-- ---- a body begins and ends no home

pub body-action : (s : Scenario) (S B K : ℕ → RefValue → Type 0) (L : Type 0) (k : ℕ → ℕ) (i : ℕ → Option Issue) (w : Scene) (c o : ℕ) (x : Action) → Shares S B K ⊥ L (Body c o) → OrderlyActor s k i ⊥ L (Body c o) → SceneBy S B K w → act_by s k i w (Body c o) ≡ Some x → ActionBy s ⊥ L (B c) x
body-action s S B K L k i w c o x h p g e = subst (ActionBy s ⊥ L (B c)) (same _ x e) (outcome-by s S B K ⊥ L k i (Body c o) w h p g).action
  where
    same : (y x : Action) → Some y ≡ Some x → y ≡ x
    same y x e = cc

pub first-is : (os : List Opener) (c o a : ℕ) → first os ≡ Some (Enters c o a) → (rest : List Opener) × (os ≡ Enters c o a ∷ rest)
first-is [] c o a e = cc
first-is (x ∷ os) c o a e = (os, ap (λ (y : Opener). y ∷ os) (same x e))
  where
    same : (x : Opener) → Some x ≡ Some (Enters c o a) → x ≡ Enters c o a
    same x e = cc

base-shares : (s : Scenario) (h : List Entry) → legal s h → (l c o a : ℕ) → Among (Enters c o a) (openers h l) → Shares (S0 s h) (B0 h) (K0 s h) ⊥ (agile s h o ≡ false) (Body c o)
base-shares s h q l c o a m = (λ r k. open-some s h q l c o a m, λ p r b. p)

no-home-act : (s : Scenario) (L : Type 0) (P : RefValue → Type 0) (x : Action) → ActionBy s ⊥ L P x → HomeAct x → ⊥
no-home-act s L P (action.Init m) p q = p
no-home-act s L P action.Uninit p q = p
no-home-act s L P (action.Create slot k i) p q = q
no-home-act s L P (action.Query to held i) p q = q
no-home-act s L P (action.Copy to held) p q = q
no-home-act s L P (action.Release from held) p q = q
no-home-act s L P (action.Call held i m args to) p q = q
no-home-act s L P (action.Marshal b held m) p q = q
no-home-act s L P (action.Unmarshal slot b) p q = q
no-home-act s L P (action.Drop b) p q = q
no-home-act s L P (action.Raw b bytes) p q = q
no-home-act s L P (action.Register to held) p q = q
no-home-act s L P (action.Get slot g) p q = q
no-home-act s L P (action.Revoke g) p q = q
no-home-act s L P (action.Disconnect held) p q = q
no-home-act s L P (action.Post l w) p q = q
no-home-act s L P (action.Quit l) p q = q
no-home-act s L P (action.Leave hr v) p q = q
no-home-act s L P (action.SetFilter g) p q = q
no-home-act s L P (action.Pump n) p q = q

body-no-home : (s : Scenario) (h : List Entry) → Formed s → legal s h → Base s h → (l c o a : ℕ) → first (openers h l) ≡ Some (Enters c o a) → (x : Action) → act s h l ≡ Some x → HomeAct x → ⊥
body-no-home s h f q b l c o a e x y z =
    let u : (rest : List Opener) × (openers h l ≡ Enters c o a ∷ rest) = first-is (openers h l) c o a e in
    no-home-act s (agile s h o ≡ false) (B0 h c) x
    (body-action s (S0 s h) (B0 h) (K0 s h) (agile s h o ≡ false) (class_of h) (issue h) (scene s h) c o x (base-shares s h q l c o a (top-among c o a (openers h l) u.0 u.1)) (actor-orderly s h f (Body c o)) b.frames
    (subst (λ (os : List Opener). act_by s (class_of h) (issue h) (scene s h) (actor (lane_sort s l) l os) ≡ Some x) u.1 y)) z

pub not-empty : (o : Opener) (os : List Opener) → Among o os → first os ≡ None → ⊥
not-empty o [] m e = m
not-empty o (x ∷ os) m e = cc

pub remains-by : (s : Scenario) (h : List Entry) → Formed s → legal s h → Base s h → (l : ℕ) (d : Deed) → Tops (sight s h) l d → (first (openers h l) ≡ None → ⊥) → home_effect d ≡ Remains
remains-by s h f q b l (deed.Init m x hr) (inl (no_top e p)) n = absurd (n e)
remains-by s h f q b l (deed.Init m x hr) (inl (by_body c o a e y z p)) n = absurd (body-no-home s h f q b l c o a e y z p)
remains-by s h f q b l (deed.Init m x hr) (inr p) n = absurd p
remains-by s h f q b l (deed.Uninit x k) (inl (no_top e p)) n = absurd (n e)
remains-by s h f q b l (deed.Uninit x k) (inl (by_body c o a e y z p)) n = absurd (body-no-home s h f q b l c o a e y z p)
remains-by s h f q b l (deed.Uninit x k) (inr p) n = absurd p
remains-by s h f q b l _ t n = refl

-- A lane that is not empty keeps its home.
pub home-stays : (s : Scenario) (h : List Entry) (e : Entry) → Formed s → legal s (e ∷ h) → Base s h → (l : ℕ) (o : Opener) → Among o (openers h l) → home s (e ∷ h) l ≡ home s h l
home-stays s h e f q b l o m =
    elim (e.lane == l) as (λ t. (e.lane == l) ≡ t → home s (e ∷ h) l ≡ home s h l) [
      | true ↦ λ z. home-remains s h e l (remains-by s h f q.0 b e.lane e.deed (next-tops s h e q) (subst (λ (k : ℕ). first (openers h k) ≡ None → ⊥) (sym (eqb-true e.lane l z)) (not-empty o (openers h l) m)))
      | false ↦ λ z. home-other s h e l z
    ] refl

-- ---- one entry: references

pub value-any : (P : RefValue → Type 0) → ((r : RefValue) → P r) → (v : Value) → ValueBy P v
value-any P f (value.Ref held) = held-all P held f
value-any P f (value.Int x) = tt
value-any P f (value.Bool x) = tt
value-any P f (value.Text x) = tt
value-any P f (value.Bytes x) = tt
value-any P f (value.Guid x) = tt

unfoldable pub Acting : Scenario → List Entry → Entry → Actor → Type 0
Acting s h e a = Shares (S0 s h) (B0 (e ∷ h)) (K0 s (e ∷ h)) (I_of a) (L_of s h a) a × OrderlyActor s (class_of h) (issue h) (I_of a) (L_of s h a) a × HeldBy (TestOf (S0 s h) (B0 (e ∷ h)) a) (taken_in e.deed)

pub acting-base : (s : Scenario) (h : List Entry) (e : Entry) → Formed s → legal s (e ∷ h) → Acting s h e (acting s (class_of h) (issue h) (scene s h) (actor_in s h e.lane) e.deed)
unfolding Acting
acting-base s h e f q =
    acting-is (Acting s h e) s (class_of h) (issue h) (scene s h) (actor_in s h e.lane) e.deed
    (actor-is (Acting s h e) (lane_sort s e.lane) e.lane (openers h e.lane)
    (λ c o a rest p. let m : Among (Enters c o a) (openers h e.lane) = top-among c o a (openers h e.lane) rest p in
    let n : (r : RefValue) → B0 (e ∷ h) c r = λ r z. open-some s h q.0 e.lane c o a m (admitted-none (admits e.lane e.deed) c (admitted h c) z) in
    ((λ r k. n r, λ p r b. same-agile s h e o f q (open-made s h f q.0 e.lane c o a m) ∙ p), actor-orderly s h f (Body c o), held-all (B0 (e ∷ h) c) (taken_in e.deed) n))
    (λ p. (tt, actor-orderly s h f (Script e.lane), taken-homed s (sight s h) e.lane e.deed (next-says s h e.lane e.deed q.1)))
    (tt, tt, held-all (λ r. Unit {0}) (taken_in e.deed) (λ r. tt)))
    (tt, tt, held-all (λ r. Unit {0}) (taken_in e.deed) (λ r. tt))

-- What an entry does to where results go.
wants-same : (x : Action) (l : ℕ) (d : Deed) (w : Scene) → issues l d ≡ None → (wants x d w).destinations ≡ w.destinations
wants-same (action.Call held i m args to) l (deed.Out c o j n r k bytes) w e = cc
wants-same (action.Call held i m args to) l _ w e = refl
wants-same _ l d w e = refl

pub acted-same : (a : Actor) (r : Option Outcome) (l : ℕ) (d : Deed) (w : Scene) → issues l d ≡ None → (acted a r d w).destinations ≡ w.destinations
acted-same a None l d w e = refl
acted-same a (Some r) l d w e = wants-same r.action l d _ e ∙ all-written-to a (with_frame a r w) (writes r.action d) ∙ framed-to a r w

pub cut-to : (n : ℕ → ℕ) (x : Option ℕ) (w : Scene) → (cut_links n x w).destinations ≡ w.destinations
cut-to n None w = refl
cut-to n (Some a) w = refl

pub arrived-to : (b : Actor) (l : ℕ) (d : Deed) (w : Scene) → (arrived b l d w).destinations ≡ w.destinations
arrived-to b l (deed.Back c hr v) w = all-written-to b w (to_answer hr ∷ to_destination (w.destinations c) v)
arrived-to b l deed.EndPump w = written-to b w (to_answer S_OK)
arrived-to b l (deed.Uninit a zero) w = refl
arrived-to b l (deed.Uninit a (suc n)) w = refl
arrived-to b l _ w = refl

pub first-among : (os : List Opener) (o : Opener) → first os ≡ Some o → Among o os
first-among [] o e = cc
first-among (x ∷ os) o e = inl (same x o e)
  where
    same : (x o : Opener) → Some x ≡ Some o → x ≡ o
    same x o e = cc

plain-at : (k : Option Kind) (x : Destination) (v : Option Value) → FitsTo k x → (PlainKind k → PlainResult v) → PlainAt x v
plain-at k (destination.Register r) (Some v) f p = p f
plain-at k (destination.Register r) None f p = tt
plain-at k (destination.Slot n) v f p = tt
plain-at k destination.Nowhere v f p = tt

none-plain : (x : Destination) (v : Option Value) → v ≡ None → PlainAt x v
none-plain (destination.Register r) None e = tt
none-plain (destination.Register r) (Some v) e = cc
none-plain (destination.Slot n) v e = tt
none-plain destination.Nowhere v e = tt

none-held : (P : RefValue → Type 0) (v : Option Value) → v ≡ None → HeldBy P (value_reference v)
none-held P v e = subst (λ (x : Option Value). HeldBy P (value_reference x)) (sym e) tt

back-homed : (s : Scenario) (h : List Entry) (l c : ℕ) (hr : HResult) (v : Option Value) → (v ≡ None) ⊎ (ending s h c ≡ Some (ByLeave hr v)) → Ended (ending s h c) ⊎ (home s h l ≡ None → ⊥) → HeldBy (λ r. home s h l ≡ None → ⊥) (value_reference v)
back-homed s h l c hr v (inl e) p = none-held (λ r. home s h l ≡ None → ⊥) v e
back-homed s h l c hr v (inr e) (inl p) = absurd (subst NotLeft e p.1)
back-homed s h l c hr v (inr e) (inr p) = held-all (λ r. home s h l ≡ None → ⊥) (value_reference v) (λ r. p)

pub arrives-base : (s : Scenario) (h : List Entry) (e : Entry) (d : Deed) (x : ℕ → Destination) (b : Actor) → legal s h → Base s h → ((c : ℕ) → x c ≡ (scene s h).destinations c) → Says s (sight s h) e.lane d → e.deed ≡ d → ((c : ℕ) (hr : HResult) (v : Option Value) → d ≡ deed.Back c hr v → Among (Waits c) (openers h e.lane)) → ((v : Option Value) → HeldBy (λ r. home s h e.lane ≡ None → ⊥) (value_reference v) → HeldBy (TestOf (S0 s h) (B0 (e ∷ h)) b) (value_reference v)) → ArrivesBy (S0 s h) (B0 (e ∷ h)) x b d
arrives-base s h e (deed.Enter c o a t vs) x b q g dest z p m f = λ k u y. value-any (B0 (e ∷ h) c) (λ r. entered-some) (slice_index_or vs k u)
  where
    entered-some : admitted (e ∷ h) c ≡ None → ⊥
    entered-some w = some-none (admitted (e ∷ h) c) (admission_in c e.lane a) (subst (λ (y : Deed). admission_or (admits e.lane y) c (admitted h c) ≡ Some (admission_in c e.lane a)) (sym p) (ap (λ (t : Bool). cond t (Some (admission_in c e.lane a)) (admitted h c)) (same-number c))) w
      where
        same-number : (n : ℕ) → (n == n) ≡ true
        same-number n = grind (arith, common_steps)
arrives-base s h e (deed.Back c hr v) x b q g dest z p m f = (f v (back-homed s h e.lane c hr v (answer z.1) (g.homed e.lane c (m c hr v refl))), by-answer (answer z.1))
  where
    answer : (v ≡ None) ⊎ ((ending s h c ≡ Some (ByLeave hr v)) × (result_gone (sight s h) c ((books s h).result c) ≡ false)) → (v ≡ None) ⊎ (ending s h c ≡ Some (ByLeave hr v))
    answer (inl y) = inl y
    answer (inr y) = inr y.0

    by-answer : (v ≡ None) ⊎ (ending s h c ≡ Some (ByLeave hr v)) → PlainAt (x c) v
    by-answer (inl y) = none-plain (x c) v y
    by-answer (inr y) = plain-at (kind_of s (issue h c)) (x c) v (subst (FitsTo (kind_of s (issue h c))) (sym (dest c)) (g.fits c)) (subst (EndBy (kind_of s (issue h c))) y (ends-plain s h c q))
arrives-base s h e _ x b q g dest z p m f = tt
