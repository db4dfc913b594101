-- What a call leaves: the value of its Leave is that of its ending, of objects that were made; and a refused call never leaves.
use Rattle.std.proofs.Common.{subst, sym, ap, ◌∙◌, inl, inr, eqb-true, arith}
use Rattle.std.proofs.lemmas.Bool.{false_from_ne_true}
use Rattle.std.specs.Prelude.{◌≡◌, refl, ℕ, ◌+◌, ◌≤◌, Bool, true, false, cond, ◌==◌, ◌||◌, List, [], ◌∷◌, Option, Some, None, is_some}
use Rattle.com_base.specs.declared.hresult.HResult.{HResult}
use Rattle.com_base.specs.declared.value.RefValue.{RefValue}
use Rattle.com_base.specs.declared.value.Value.{Value}
use Rattle.com_base.specs.declared.value.Value.TheVariants as value
use Rattle.com_model.specs.declared.deeds.Deed.{Deed}
use Rattle.com_model.specs.declared.deeds.Deed.TheVariants as deed
use Rattle.com_model.specs.declared.deeds.Entry.{Entry}
use Rattle.com_model.specs.declared.deeds.Route.{Route}
use Rattle.com_model.specs.declared.deeds.Route.TheVariants as route
use Rattle.com_model.specs.declared.scenario.Scenario.{Scenario}
use Rattle.com_model.specs.Lists.{first, or_else, where_true, is_number}
use Rattle.com_model.specs.Tables.{lanes}
use Rattle.com_model.specs.Openers.{effect_on, openers, top_call}
use Rattle.com_model.specs.declared.keeps.Opener.{Opener}
use Rattle.com_model.specs.declared.keeps.Opener.TheVariants.{Pumps, Waits, Enters}
use Rattle.com_model.specs.Objects.{makes, objects, named}
use Rattle.com_model.specs.Calls.{issues, issue_or, issue, calls, admits, admitted, leaves, leaving_or, left, returns, returned, route_of, target}
use Rattle.com_model.specs.declared.keeps.Issue.{Issue}
use Rattle.com_model.specs.declared.keeps.Leaving.{Leaving}
use Rattle.com_model.specs.Frames.{value_reference}
use Rattle.com_model.specs.Places.{left_value}
use Rattle.com_model.specs.Endings.{end_effect, ends, filtered, can_be_cut, ending}
use Rattle.com_model.specs.declared.keeps.Ending.{Ending}
use Rattle.com_model.specs.declared.keeps.Ending.TheVariants.{ByLeave, AtIssue}
use Rattle.com_model.specs.Safe.{event, Stage, stage_after, stage, ComesOnce}
use Rattle.com_model.specs.Rules.{next, legal}
use Rattle.com_model.specs.Formed.{Formed}
use Rattle.com_model.proofs.Comes.{next-comes}
use Rattle.com_model.proofs.Goods.{GoodResult}
use Rattle.com_model.proofs.Fines.{FineBy}
use Rattle.com_model.proofs.Lanes.{lane-within}
use Rattle.com_model.proofs.Onces.{call_named, Names, InRange, named-in-range, legal-once}
use Rattle.com_model.proofs.Scenes.{faces}
use Rattle.com_model.proofs.Stacks.{leave-own}
use Rattle.com_laws_balance.proofs.Carries.{HeldBy}
use Rattle.com_laws_balance.proofs.Moves.{held-more}
use Rattle.com_laws_balance.proofs.Counts.{Among}
use Rattle.com_model.proofs.Kept.{more-objects}
use Rattle.com_laws_balance.proofs.Stacks.{admission_in, open-admitted}
use Rattle.com_laws_balance.proofs.Makings.{fine-next}
use Rattle.com_laws_balance.proofs.Results.{NotLeft, either-ending, ends-is, not-left, out-number}
use Rattle.com_laws_balance.proofs.Leavings.{no-leave-again, or-some}
use Rattle.com_laws_balance.proofs.Homes.{among-any, admitted-none}
use Rattle.com_laws_balance.proofs.Bases.{some-none, top-among}
use Rattle.com_laws_balance.proofs.Steps.{opens-own, same-number, made-or-new}
use Rattle.com_laws_balance.proofs.Tops.{issue-past}
use Rattle.com_laws_balance.proofs.Directs.{issue-stays, admitted-past}

-- ---- lanes

pub lane-low : (s : Scenario) (h : List Entry) (l : ℕ) (o : Opener) → legal s h → Among o (openers h l) → l ≤ lanes s
lane-low s [] l o q m = absurd m
lane-low s (e ∷ h) l o q m =
    elim (among-any o (effect_on l e) (openers h l) m) as (λ _. l ≤ lanes s) [
      | inl p ↦ lane-low s h l o q.0 p
      | inr p ↦ subst (λ (j : ℕ). j ≤ lanes s) (opens-own l e o p).0 (lane-within s h e.lane e.deed q.1)
    ]

-- ---- the value of a Leave

abbrev pub Known : ℕ → Option RefValue → Type 0
Known n x = HeldBy (λ r. r.object ≤ n) x

result-known : (n m : ℕ) (v : Option Value) → GoodResult n m v → Known n (value_reference v)
result-known n m None p = tt
result-known n m (Some (value.Ref None)) p = tt
result-known n m (Some (value.Ref (Some r))) p = p.0
result-known n m (Some (value.Int x)) p = tt
result-known n m (Some (value.Bool x)) p = tt
result-known n m (Some (value.Text x)) p = tt
result-known n m (Some (value.Bytes x)) p = tt
result-known n m (Some (value.Guid x)) p = tt

known-step : (n k m y c : ℕ) (d : Deed) (x : Option Leaving) → n ≤ k → FineBy n m y d → Known n (value_reference (left_value x)) → Known k (value_reference (left_value (leaving_or (leaves d) c x)))
known-step n k m y c (deed.Leave j hr v bytes) x p f g = by-test (j == c)
  where
    more : (z : Option RefValue) → Known n z → Known k z
    more z w = held-more (λ r. r.object ≤ n) (λ r. r.object ≤ k) z (λ r u. omega (arith, u, p)) w

    by-test : (t : Bool) → Known k (value_reference (left_value (cond t (Some (record { call = j; hr = hr; value = v })) x)))
    by-test true = more (value_reference v) (result-known n m v f)
    by-test false = more (value_reference (left_value x)) g
known-step n k m y c _ x p f g = held-more (λ r. r.object ≤ n) (λ r. r.object ≤ k) (value_reference (left_value x)) (λ r u. omega (arith, u, p)) g

-- What a call left is of objects that were made.
pub left-known : (s : Scenario) (h : List Entry) (c : ℕ) → Formed s → legal s h → Known (objects h) (value_reference (left_value (left h c)))
left-known s [] c f q = tt
left-known s (e ∷ h) c f q = known-step (objects h) (objects (e ∷ h)) (faces s) _ c e.deed (left h c) (more-objects (makes e.deed) (objects h)) (fine-next s h e f q) (left-known s h c f q.0)

pub record TopEnter (os : List Opener) (c : ℕ) : Type 0 where
  pub object : ℕ
  pub apartment : ℕ
  pub rest : List Opener
  pub is : os ≡ Enters c object apartment ∷ rest

pub top-enter : (os : List Opener) (c : ℕ) → top_call (first os) ≡ Some c → TopEnter os c
top-enter [] c e = cc
top-enter (Pumps n ∷ os) c e = cc
top-enter (Waits k ∷ os) c e = cc
top-enter (Enters k o a ∷ os) c e = record { object = o; apartment = a; rest = os; is = ap (λ (j : ℕ). Enters j o a ∷ os) (same e) }
  where
    same : Some k ≡ Some c → k ≡ c
    same e = cc

-- A call leaves from the top.
pub leave-top : (s : Scenario) (h : List Entry) (l k : ℕ) (d : Deed) (hr : HResult) (v : Option Value) (bytes : Option (List ℕ)) → next s h l ≡ Some d → d ≡ deed.Leave k hr v bytes → TopEnter (openers h l) k
leave-top s h l k d hr v bytes q e = top-enter (openers h l) k (leave-own s h l k hr v bytes (subst (λ (x : Deed). next s h l ≡ Some x) e q))

leave-admitted : (s : Scenario) (h : List Entry) (l k : ℕ) (d : Deed) (hr : HResult) (v : Option Value) (bytes : Option (List ℕ)) → legal s h → next s h l ≡ Some d → d ≡ deed.Leave k hr v bytes → admitted h k ≡ None → ⊥
leave-admitted s h l k d hr v bytes q n e a =
    let z : TopEnter (openers h l) k = leave-top s h l k d hr v bytes n e in
    some-none (admitted h k) (admission_in k l z.apartment) (open-admitted s h q l k z.object z.apartment (top-among k z.object z.apartment (openers h l) z.rest z.is)) a

pub same-leaving : (d : Deed) (c : ℕ) (x : Option Leaving) → ((k : ℕ) (hr : HResult) (v : Option Value) (bytes : Option (List ℕ)) → d ≡ deed.Leave k hr v bytes → k ≡ c → ⊥) → leaving_or (leaves d) c x ≡ x
same-leaving (deed.Leave k hr v bytes) c x f = ap (λ (b : Bool). cond b (Some (record { call = k; hr = hr; value = v })) x) (false_from_ne_true (k == c) (λ t. f k hr v bytes refl (eqb-true k c t)))
same-leaving _ c x f = refl

-- A call that was not admitted has not left.
pub left-admitted : (s : Scenario) (h : List Entry) (c : ℕ) → legal s h → admitted h c ≡ None → left h c ≡ None
left-admitted s [] c q a = refl
left-admitted s (e ∷ h) c q a =
    let n : admitted h c ≡ None = admitted-none (admits e.lane e.deed) c (admitted h c) a in
    same-leaving e.deed c (left h c) (λ k hr v bytes d u. leave-admitted s h e.lane k e.deed hr v bytes q.0 q.1 d (ap (admitted h) u ∙ n))
    ∙ left-admitted s h c q.0 n

-- ---- the value of an ending

abbrev LeftAs : Option Leaving → Option Ending → Type 0
LeftAs x (Some (ByLeave hr v)) = left_value x ≡ v
LeftAs x _ = Unit {0}

not-left-as : (x : Option Leaving) (e : Option Ending) → NotLeft e → LeftAs x e
not-left-as x None n = tt
not-left-as x (Some (ByLeave hr v)) n = absurd n
not-left-as x (Some _) n = tt

old-left : (s : Scenario) (h : List Entry) (e : Entry) (c : ℕ) (z : Ending) → legal s (e ∷ h) → ending s h c ≡ Some z → LeftAs (left h c) (Some z) → LeftAs (left (e ∷ h) c) (Some z)
old-left s h e c (ByLeave hr v) q w p = ap left_value (same-leaving e.deed c (left h c) (no-leave-again s h c e.deed hr v (legal-once s (e ∷ h) q).1 w)) ∙ p
old-left s h e c _ q w p = tt

new-left : (d : Deed) (c : ℕ) (x : Option Leaving) (k : ℕ) (hr : HResult) (v : Option Value) (bytes : Option (List ℕ)) → d ≡ deed.Leave k hr v bytes → k ≡ c → left_value (leaving_or (leaves d) c x) ≡ v
new-left d c x k hr v bytes e u =
    subst (λ (y : Deed). left_value (leaving_or (leaves y) c x) ≡ v) (sym e)
    (subst (λ (j : ℕ). left_value (leaving_or (leaves (deed.Leave k hr v bytes)) j x) ≡ v) u
    (ap (λ (t : Bool). left_value (cond t (Some (record { call = k; hr = hr; value = v })) x)) (same-number k)))

pub ending-left : (s : Scenario) (h : List Entry) (c : ℕ) → legal s h → LeftAs (left h c) (ending s h c)
ending-left s [] c q = tt
ending-left s (e ∷ h) c q =
    elim (ending s h c) as (λ x. ending s h c ≡ x → LeftAs (left h c) x → LeftAs (left (e ∷ h) c) (or_else x (ends (end_effect (filtered s h) e.deed) c (target h c) (named h (target h c)) (can_be_cut (issue h c) (admitted h c))))) [
      | None ↦ λ n p. ends-is (λ (j : ℕ) (x : Option Ending). LeftAs (left (e ∷ h) j) x) (filtered s h) e.deed c (target h c) (named h (target h c)) (can_be_cut (issue h c) (admitted h c))
          (λ x z. not-left-as (left (e ∷ h) c) x z)
          (λ k hr v bytes d u. new-left e.deed c (left h c) k hr v bytes d u)
      | Some z ↦ λ n p. old-left s h e c z q n p
    ] refl (ending-left s h c q.0)

pub left-value-of : (s : Scenario) (h : List Entry) (c : ℕ) (hr : HResult) (v : Option Value) → legal s h → ending s h c ≡ Some (ByLeave hr v) → left_value (left h c) ≡ v
left-value-of s h c hr v q e = subst (LeftAs (left h c)) e (ending-left s h c q)

-- ---- a refused call

-- Each number in range is one of a call that was issued.
out-issued : (h : List Entry) (l c : ℕ) (d : Deed) → c ≡ calls h + 1 → ((k : ℕ) (o : Option ℕ) (i m : ℕ) (r : Route) (cause : ℕ) (bytes : Option (List ℕ)) → d ≡ deed.Out k o i m r cause bytes → k ≡ calls h + 1) → c ≤ calls (record { lane = l; deed = d } ∷ h) → is_some (issue_or (issues l d) c (issue h c)) ≡ true
out-issued h l c (deed.Out k o i m r cause bytes) e f p = ap (λ (t : Bool). is_some (cond t (Some (record { call = k; lane = l; object = o; iface = i; method = m; route = r; cause = cause })) (issue h c))) (subst (λ (j : ℕ). (k == j) ≡ true) (f k o i m r cause bytes refl ∙ sym e) (same-number k))
out-issued h l c _ e f p = absurd (omega (arith, e, p))

low-or-next : (n c : ℕ) → n + 1 ≤ c → c ≤ n + 1 → c ≡ n + 1
low-or-next n c p q = omega (arith, p, q)

few-calls : (h : List Entry) (l : ℕ) (d : Deed) → calls (record { lane = l; deed = d } ∷ h) ≤ calls h + 1
few-calls h l (deed.Out k o i m r cause bytes) = omega arith
few-calls h l _ = omega arith

pub issued-some : (s : Scenario) (h : List Entry) (c : ℕ) → legal s h → 1 ≤ c → c ≤ calls h → is_some (issue h c) ≡ true
issued-some s [] c q p n = absurd (omega (arith, p, n))
issued-some s (e ∷ h) c q p n =
    elim (made-or-new (calls h) c) as (λ _. is_some (issue (e ∷ h) c) ≡ true) [
      | inl w ↦ ap (λ (x : Option Issue). is_some x) (issue-stays s h e c q w) ∙ issued-some s h c q.0 p w
      | inr w ↦ let k : calls (e ∷ h) ≤ calls h + 1 = few-calls h e.lane e.deed in
          out-issued h e.lane c e.deed (low-or-next (calls h) c w (omega (arith, n, k))) (out-number s h e.lane e.deed (next-comes s h e.lane e.deed q.1)) n
    ]

-- A refused call that was issued is answered, and by no Leave.
abbrev pub RefusedEnds : Option Issue → Option Ending → Type 0
RefusedEnds i x = route_of i ≡ route.Refused → NotLeft x × (is_some i ≡ true → is_some x ≡ true)

out-refused : (s : Scenario) (h : List Entry) (l k : ℕ) (o : Option ℕ) (i m : ℕ) (r : Route) (cause : ℕ) (bytes : Option (List ℕ)) (a b : ℕ) (t : Bool) → NotLeft (ending s h k) → r ≡ route.Refused → NotLeft (or_else (ending s h k) (ends (end_effect (filtered s h) (deed.Out k o i m r cause bytes)) k a b t)) × (is_some (or_else (ending s h k) (ends (end_effect (filtered s h) (deed.Out k o i m r cause bytes)) k a b t)) ≡ true)
out-refused s h l k o i m route.Refused cause bytes a b t n e =
    subst (λ (x : Bool). NotLeft (or_else (ending s h k) (where_true x AtIssue)) × (is_some (or_else (ending s h k) (where_true x AtIssue)) ≡ true)) (sym (same-number k)) (by-ending (ending s h k) n)
  where
    by-ending : (x : Option Ending) → NotLeft x → NotLeft (or_else x (Some AtIssue)) × (is_some (or_else x (Some AtIssue)) ≡ true)
    by-ending None n = (tt, refl)
    by-ending (Some y) n = (n, refl)
out-refused s h l k o i m route.Direct cause bytes a b t n e = cc
out-refused s h l k o i m route.Switch cause bytes a b t n e = cc
out-refused s h l k o i m route.Post cause bytes a b t n e = cc

refused-new : (s : Scenario) (h : List Entry) (l c : ℕ) (d : Deed) (a b : ℕ) (t : Bool) → NotLeft (ending s h c) → is_some (issue h c) ≡ false → NotLeft (ends (end_effect (filtered s h) d) c a b t) → RefusedEnds (issue_or (issues l d) c (issue h c)) (or_else (ending s h c) (ends (end_effect (filtered s h) d) c a b t))
refused-new s h l c (deed.Out k o i m r cause bytes) a b t z w u =
    elim (k == c) as (λ x. (k == c) ≡ x → RefusedEnds (cond x (Some (record { call = k; lane = l; object = o; iface = i; method = m; route = r; cause = cause })) (issue h c)) (or_else (ending s h c) (ends (end_effect (filtered s h) (deed.Out k o i m r cause bytes)) c a b t))) [
      | true ↦ λ e p. subst (λ (j : ℕ). NotLeft (ending s h j) → NotLeft (or_else (ending s h j) (ends (end_effect (filtered s h) (deed.Out k o i m r cause bytes)) j a b t)) × (is_some {T = Issue} (Some (record { call = k; lane = l; object = o; iface = i; method = m; route = r; cause = cause })) ≡ true → is_some (or_else (ending s h j) (ends (end_effect (filtered s h) (deed.Out k o i m r cause bytes)) j a b t)) ≡ true)) (eqb-true k c e)
          (λ z. let y : NotLeft (or_else (ending s h k) (ends (end_effect (filtered s h) (deed.Out k o i m r cause bytes)) k a b t)) × (is_some (or_else (ending s h k) (ends (end_effect (filtered s h) (deed.Out k o i m r cause bytes)) k a b t)) ≡ true) = out-refused s h l k o i m r cause bytes a b t z p in (y.0, λ _. y.1)) z
      | false ↦ λ e p. (either-ending NotLeft (ending s h c) _ z u, λ y. absurd (not-both (is_some (issue h c)) w y))
    ] refl
  where
    not-both : (b : Bool) → b ≡ false → b ≡ true → ⊥
    not-both b p q = cc
refused-new s h l c d a b t z w u = λ p. (either-ending NotLeft (ending s h c) _ z u, λ y. absurd (not-both (is_some (issue h c)) w y))
  where
    not-both : (b : Bool) → b ≡ false → b ≡ true → ⊥
    not-both b p q = cc

refused-old : (s : Scenario) (h : List Entry) (e : Entry) (c : ℕ) → legal s (e ∷ h) → c ≤ calls h → RefusedEnds (issue h c) (ending s h c) → RefusedEnds (issue h c) (ending s (e ∷ h) c)
refused-old s h e c q low f = λ p.
    let z : NotLeft (ending s h c) × (is_some (issue h c) ≡ true → is_some (ending s h c) ≡ true) = f p in (
      elim (ending s h c) as (λ x. NotLeft x → (is_some (issue h c) ≡ true → is_some x ≡ true) → NotLeft (or_else x (ends (end_effect (filtered s h) e.deed) c (target h c) (named h (target h c)) (can_be_cut (issue h c) (admitted h c))))) [
        | Some y ↦ λ n g. n
        | None ↦ λ n g. ends-is (λ _ x. NotLeft x) (filtered s h) e.deed c (target h c) (named h (target h c)) (can_be_cut (issue h c) (admitted h c)) (λ x w. w)
            (λ k hr v bytes d u. not-some (g (issued-some s h c q.0 (subst (λ (j : ℕ). 1 ≤ j) u (subst (λ (x : Deed). Names (InRange (calls (e ∷ h))) (call_named x)) d (named-in-range s h e q)).0) low)))
      ] z.0 z.1,
      λ w. or-some (ending s h c) _ (z.1 w),
    )
  where
    not-some : false ≡ true → ⊥
    not-some e = cc

none-issue : (i : Option Issue) → i ≡ None → is_some i ≡ false
none-issue None e = refl
none-issue (Some y) e = cc

pub refused-ends : (s : Scenario) (h : List Entry) (c : ℕ) → legal s h → RefusedEnds (issue h c) (ending s h c)
refused-ends s [] c q = λ p. (tt, λ w. not-some w)
  where
    not-some : false ≡ true → false ≡ true
    not-some e = e
refused-ends s (e ∷ h) c q =
    elim (made-or-new (calls h) c) as (λ _. RefusedEnds (issue (e ∷ h) c) (ending s (e ∷ h) c)) [
      | inl w ↦ subst (λ (i : Option Issue). RefusedEnds i (ending s (e ∷ h) c)) (sym (issue-stays s h e c q w)) (refused-old s h e c q w (refused-ends s h c q.0))
      | inr w ↦ refused-new s h e.lane c e.deed (target h c) (named h (target h c)) (can_be_cut (issue h c) (admitted h c)) (not-left s h c q.0 w) (none-issue (issue h c) (issue-past s h c q.0 w))
          (ends-is (λ _ x. NotLeft x) (filtered s h) e.deed c (target h c) (named h (target h c)) (can_be_cut (issue h c) (admitted h c)) (λ x u. u)
          (λ k hr v bytes d u. leave-admitted s h e.lane k e.deed hr v bytes q.0 q.1 d (ap (admitted h) u ∙ admitted-past s h c q.0 w)))
    ]

-- ---- a call that comes back was not back

or-none : (p q : Bool) → (p || q) ≡ false → (p ≡ false) × (q ≡ false)
or-none true q e = cc
or-none false q e = (refl, e)

other-key : (c k : ℕ) → (k == c) ≡ false → (c == k) ≡ false
other-key c k e = false_from_ne_true (c == k) (λ t. not-both (k == c) e (subst (λ (n : ℕ). (n == c) ≡ true) (eqb-true c k t) (same-number c)))
  where
    not-both : (b : Bool) → b ≡ false → b ≡ true → ⊥
    not-both b p q = cc

back-step : (d : Deed) (c : ℕ) (t : Stage) (x : Bool) → (t.back ≡ false → x ≡ false) → (stage_after (event d) c t).back ≡ false → (is_number c (returns d) || x) ≡ false
back-step (deed.Back k hr v) c t x f e =
    let p : ((k == c) ≡ false) × (t.back ≡ false) = or-none (k == c) t.back e in
    ap (λ (b : Bool). b || x) (other-key c k p.0) ∙ f p.1
back-step (deed.Out k o i m r cause bytes) c t x f e = f e
back-step (deed.Enter k o a z vs) c t x f e = f e
back-step (deed.Leave k hr v bytes) c t x f e = f e
back-step _ c t x f e = f e

stage-back : (h : List Entry) (c : ℕ) → (stage h c).back ≡ false → returned h c ≡ false
stage-back [] c e = refl
stage-back (e ∷ h) c p = back-step e.deed c (stage h c) (returned h c) (stage-back h c) p

pub back-not-back : (s : Scenario) (h : List Entry) (e : Entry) (c : ℕ) (hr : HResult) (v : Option Value) → legal s (e ∷ h) → e.deed ≡ deed.Back c hr v → returned h c ≡ false
back-not-back s h e c hr v q d =
    let z : ((stage h c).out ≡ true) × ((stage h c).back ≡ false) = subst (λ (x : Deed). ComesOnce (event x) (stage h)) d (legal-once s (e ∷ h) q).1 in
    stage-back h c z.1
