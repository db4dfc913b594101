-- After an entry no place of an apartment that owns a dead object is one of it.
use Rattle.std.proofs.Common.{subst, sym, ap, ◌∙◌, inl, inr, eqb-true}
use Rattle.std.specs.Prelude.{◌≡◌, refl, ℕ, Bool, true, false, cond, ◌==◌, ◌||◌, List, ◌∷◌, Option, Some, None}
use Rattle.com_base.specs.declared.hresult.HResult.{HResult}
use Rattle.com_base.specs.declared.value.RefValue.{RefValue}
use Rattle.com_base.specs.declared.value.Kind.{Kind}
use Rattle.com_base.specs.declared.value.Value.{Value}
use Rattle.com_base.specs.declared.value.Value.TheVariants as value
use Rattle.com_base.specs.Values.{as_kind}
use Rattle.com_body.specs.declared.actions.Action.TheVariants as action
use Rattle.com_model.specs.declared.deeds.Deed.{Deed}
use Rattle.com_model.specs.declared.deeds.Deed.TheVariants as deed
use Rattle.com_model.specs.declared.deeds.Entry.{Entry}
use Rattle.com_model.specs.declared.scenario.Scenario.{Scenario}
use Rattle.com_model.specs.Answers.{is_failure}
use Rattle.com_model.specs.Lists.{is_number}
use Rattle.com_model.specs.Tables.{lane_sort}
use Rattle.com_model.specs.Openers.{openers}
use Rattle.com_model.specs.declared.keeps.Opener.{Opener}
use Rattle.com_model.specs.declared.keeps.Opener.TheVariants.{Enters}
use Rattle.com_model.specs.Apartments.{home}
use Rattle.com_model.specs.Objects.{agile, named, class_of}
use Rattle.com_model.specs.Calls.{issue, calls, admitted, left, returns, returned, route_of, is_direct}
use Rattle.com_model.specs.declared.keeps.Issue.{Issue}
use Rattle.com_model.specs.declared.keeps.Admission.{Admission}
use Rattle.com_model.specs.declared.keeps.Leaving.{Leaving}
use Rattle.com_model.specs.Values.{sent_value, sent_result, given_or_default}
use Rattle.com_model.specs.Frames.{scene, Actor, Body, actor, actor_in, outcome, acting, act_by, act, value_reference}
use Rattle.com_model.specs.Places.{ground, entered_in, left_value}
use Rattle.com_model.specs.Books.{books}
use Rattle.com_model.specs.Sight.{sight}
use Rattle.com_model.specs.Rules.{legal}
use Rattle.com_model.specs.Formed.{Formed}
use Rattle.com_laws_balance.proofs.Counts.{Among, PlaceOf, of_script, of_body, of_link, of_result}
use Rattle.com_laws_balance.proofs.Carries.{HeldBy, ValueBy, ResultBy}
use Rattle.com_laws_balance.proofs.Moves.{SceneBy, acting-is, scene-by}
use Rattle.com_laws_balance.proofs.Stacks.{open-admitted, still-admitted}
use Rattle.com_laws_balance.proofs.Results.{kind_of}
use Rattle.com_laws_balance.proofs.Says.{LeaveSays, next-says}
use Rattle.com_laws_balance.proofs.Bases.{I_of, L_of, actor-orderly, top-among, some-none, body-action}
use Rattle.com_laws_balance.proofs.Steps.{made-or-new}
use Rattle.com_laws_balance.proofs.Directs.{issue-stays, admitted-past}
use Rattle.com_laws_balance.proofs.Pending.{kind-by, default-by, direct-not-marshalled}
use Rattle.com_laws_balance.proofs.Answered.{TopEnter, leave-top, left-admitted}
use Rattle.com_laws_balance.proofs.Tests.{in-slots-by}
use Rattle.com_laws_balance.proofs.Arrivals.{none-reference}
use Rattle.com_laws_release.proofs.Clears.{Dead, Clear, S2, B2, K2, ActsClear, shares-clear, acting-clear, nobody-clear, before-clear}
use Rattle.com_laws_release.proofs.Arrived.{arrives-clear}

-- ---- the result of a Leave

value-held : (P : RefValue → Type 0) (v : Value) → ValueBy P v → HeldBy P (value_reference (Some v))
value-held P (value.Ref held) p = p
value-held P (value.Int x) p = tt
value-held P (value.Bool x) p = tt
value-held P (value.Text x) p = tt
value-held P (value.Bytes x) p = tt
value-held P (value.Guid x) p = tt

given-by : (P : RefValue → Type 0) (k : Kind) (x : Option Value) → ResultBy P x → ValueBy P (given_or_default k x)
given-by P k None p = default-by P k
given-by P k (Some v) p = p

leave-held : (P : RefValue → Type 0) (live : ℕ → Bool) (hr : HResult) (k : Option Kind) (x : Option Value) → ResultBy P x → HeldBy P (value_reference (sent_result false live hr k x))
leave-held P live hr None x p = tt
leave-held P live hr (Some k) x p = by-test (is_failure hr)
  where
    by-test : (t : Bool) → HeldBy P (value_reference (cond t None (Some (sent_value false live k (given_or_default k x)))))
    by-test true = tt
    by-test false = value-held P (as_kind (given_or_default k x) k) (kind-by P (given_or_default k x) k (given-by P k x p))

leave-given : (s : Scenario) (h : List Entry) (gone : ℕ) (l c : ℕ) (hr : HResult) (v : Option Value) (bytes : Option (List ℕ)) (o a : ℕ) (rest : List Opener) (given : Option Value) → Formed s → legal s (record { lane = l; deed = deed.Leave c hr v bytes } ∷ h) → Dead s h gone → openers h l ≡ Enters c o a ∷ rest → act s h l ≡ Some (action.Leave hr given) → ResultBy (B2 s h gone (record { lane = l; deed = deed.Leave c hr v bytes }) c) given
leave-given s h gone l c hr v bytes o a rest given f q w p e =
    let x : Entry = record { lane = l; deed = deed.Leave c hr v bytes } in
    body-action s (S2 s h gone x) (B2 s h gone x) (K2 s h gone x) (agile s h o ≡ false) (class_of h) (issue h) (scene s h) c o (action.Leave hr given)
    (shares-clear s h gone x l c o a f q (top-among c o a (openers h l) rest p)) (actor-orderly s h f (Body c o)) (before-clear s h gone x f q w)
    (subst (λ (os : List Opener). act_by s (class_of h) (issue h) (scene s h) (actor (lane_sort s l) l os) ≡ Some (action.Leave hr given)) p e)

leave-clear : (s : Scenario) (h : List Entry) (gone : ℕ) (l c : ℕ) (hr : HResult) (v : Option Value) (bytes : Option (List ℕ)) (a : ℕ) (r : RefValue) → Formed s → legal s (record { lane = l; deed = deed.Leave c hr v bytes } ∷ h) → Dead s h gone → is_direct (route_of (issue h c)) ≡ true → entered_in a (admitted h c) ≡ true → value_reference v ≡ Some r → Clear s h gone a r
leave-clear s h gone l c hr v bytes a r f q w z n m =
    let x : Entry = record { lane = l; deed = deed.Leave c hr v bytes } in
    let t : TopEnter (openers h l) c = leave-top s h l c (deed.Leave c hr v bytes) hr v bytes q.1 refl in
    let says : LeaveSays s (sight s h) l c hr v bytes = next-says s h l (deed.Leave c hr v bytes) q.1 in
    let among : Among (Enters c t.object t.apartment) (openers h l) = top-among c t.object t.apartment (openers h l) t.rest t.is in
    let given : ResultBy (B2 s h gone x c) says.given = leave-given s h gone l c hr v bytes t.object t.apartment t.rest says.given f q w t.is says.acts in
    let same : t.apartment ≡ a = eqb-true t.apartment a (subst (λ (y : Option Admission). entered_in a y ≡ true) (open-admitted s h q.0 l c t.object t.apartment among) n) in
    elim says.sent as (λ _. Clear s h gone a r) [
      | inl k ↦ absurd (none-reference v r k m)
      | inr k ↦ subst (λ (b : ℕ). Clear s h gone b r) same
          (subst (HeldBy (B2 s h gone x c)) m (subst (λ (y : Option Value). HeldBy (B2 s h gone x c) (value_reference y)) (sym (k ∙ ap (λ (b : Bool). sent_result b (books s h).live hr (kind_of s (issue h c)) says.given) (direct-not-marshalled (route_of (issue h c)) z)))
          (leave-held (B2 s h gone x c) (books s h).live hr (kind_of s (issue h c)) says.given given)) l t.object t.apartment (inl among))
    ]

-- ---- a direct result

or-none : (p q : Bool) → (p || q) ≡ false → (p ≡ false) × (q ≡ false)
or-none true q e = cc
or-none false q e = (refl, e)

no-left : (x : Option Leaving) (r : RefValue) → x ≡ None → value_reference (left_value x) ≡ Some r → ⊥
no-left None r n e = cc
no-left (Some y) r n e = cc

result-old : (s : Scenario) (h : List Entry) (gone : ℕ) (e : Entry) (c a : ℕ) (r : RefValue) → Formed s → legal s (e ∷ h) → Dead s h gone → is_direct (route_of (issue (e ∷ h) c)) ≡ true → entered_in a (admitted (e ∷ h) c) ≡ true → returned (e ∷ h) c ≡ false → value_reference (left_value (left h c)) ≡ Some r → Clear s h gone a r
result-old s h gone e c a r f q w z n b m =
    elim (admitted h c) as (λ x. admitted h c ≡ x → Clear s h gone a r) [
      | None ↦ λ p. absurd (no-left (left h c) r (left-admitted s h c q.0 p) m)
      | Some y ↦ λ p. elim (made-or-new (calls h) c) as (λ _. Clear s h gone a r) [
        | inl low ↦ w.no_place a r
            (of_result c low (subst (λ (i : Option Issue). is_direct (route_of i) ≡ true) (issue-stays s h e c q low) z)
            (subst (λ (x : Option Admission). entered_in a x ≡ true) (sym p) (subst (λ (x : Option Admission). entered_in a x ≡ true) (still-admitted s h e.lane c e.deed y q.1 p) n))
            (or-none (is_number c (returns e.deed)) (returned h c) b).1 m)
        | inr past ↦ absurd (some-none (admitted h c) y p (admitted-past s h c q.0 past))
      ]
    ] refl

result-deed : (s : Scenario) (h : List Entry) (gone : ℕ) (l : ℕ) (d : Deed) (c a : ℕ) (r : RefValue) → Formed s → legal s (record { lane = l; deed = d } ∷ h) → Dead s h gone → is_direct (route_of (issue (record { lane = l; deed = d } ∷ h) c)) ≡ true → entered_in a (admitted (record { lane = l; deed = d } ∷ h) c) ≡ true → returned (record { lane = l; deed = d } ∷ h) c ≡ false → value_reference (left_value (left (record { lane = l; deed = d } ∷ h) c)) ≡ Some r → Clear s h gone a r
result-deed s h gone l (deed.Leave k hr v bytes) c a r f q w z n b m =
    elim (k == c) as (λ t. (k == c) ≡ t → value_reference (left_value (cond t (Some (record { call = k; hr = hr; value = v })) (left h c))) ≡ Some r → Clear s h gone a r) [
      | true ↦ λ e p. leave-clear s h gone l k hr v bytes a r f q w (subst (λ (j : ℕ). is_direct (route_of (issue h j)) ≡ true) (sym (eqb-true k c e)) z) (subst (λ (j : ℕ). entered_in a (admitted h j) ≡ true) (sym (eqb-true k c e)) n) p
      | false ↦ λ e p. result-old s h gone (record { lane = l; deed = deed.Leave k hr v bytes }) c a r f q w z n b p
    ] refl m
result-deed s h gone l d c a r f q w z n b m = result-old s h gone (record { lane = l; deed = d }) c a r f q w z n b m

-- ---- the law

acts-clear : (s : Scenario) (h : List Entry) (gone : ℕ) (e : Entry) → Formed s → legal s (e ∷ h) → Dead s h gone → ActsClear s h gone e (acting s (class_of h) (issue h) (scene s h) (actor_in s h e.lane) e.deed)
acts-clear s h gone e f q w = acting-is (ActsClear s h gone e) s (class_of h) (issue h) (scene s h) (actor_in s h e.lane) e.deed (acting-clear s h gone e f q w) (nobody-clear s h gone e)

after-clear : (s : Scenario) (h : List Entry) (gone : ℕ) (e : Entry) → Formed s → legal s (e ∷ h) → Dead s h gone → SceneBy (S2 s h gone e) (B2 s h gone e) (K2 s h gone e) (scene s (e ∷ h))
after-clear s h gone e f q w =
    let u : Actor = acting s (class_of h) (issue h) (scene s h) (actor_in s h e.lane) e.deed in
    let a : ActsClear s h gone e u = acts-clear s h gone e f q w in
    scene-by s (S2 s h gone e) (B2 s h gone e) (K2 s h gone e) (I_of u) (L_of s h u) (class_of h) (named h) (issue h) u (actor_in s (e ∷ h) e.lane) e.lane e.deed (scene s h)
    a.shares (actor-orderly s h f u) a.taken (arrives-clear s h gone e u (outcome s (class_of h) (issue h) (scene s h) u) f q w) (before-clear s h gone e f q w)

home-is : (a : ℕ) (x : Option ℕ) → is_number a x ≡ true → x ≡ Some a
home-is a None e = cc
home-is a (Some b) e = ap (λ (n : ℕ). Some n) (sym (eqb-true a b e))

pub places-clear : (s : Scenario) (h : List Entry) (gone : ℕ) (e : Entry) → Formed s → legal s (e ∷ h) → Dead s h gone → (a : ℕ) (r : RefValue) → PlaceOf s (ground s (e ∷ h)) (scene s (e ∷ h)) a r → Clear s h gone a r
places-clear s h gone e f q w a r (of_script l k low z is) = in-slots-by (S2 s h gone e l) ((scene s (e ∷ h)).scripts l).slots r ((after-clear s h gone e f q w).scripts l).slots (record { index = k; is = is }) low a (home-is a (home s (e ∷ h) l) z)
places-clear s h gone e f q w a r (of_body l c x k low m is) = in-slots-by (B2 s h gone e c) ((scene s (e ∷ h)).bodies c).slots r ((after-clear s h gone e f q w).bodies c).slots (record { index = k; is = is }) l x a (inr m)
places-clear s h gone e f q w a r (of_link x k low n is) = subst (λ (b : ℕ). Clear s h gone b r) n ((in-slots-by (K2 s h gone e x) ((scene s (e ∷ h)).cells x).links r ((after-clear s h gone e f q w).links x) (record { index = k; is = is })).1 low)
places-clear s h gone e f q w a r (of_result c low z n b m) = result-deed s h gone e.lane e.deed c a r f q w z n b m
