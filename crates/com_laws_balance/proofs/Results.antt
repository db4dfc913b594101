-- The value of a call's Leave has the kind that its method declares.
use Rattle.std.proofs.Common.{subst, sym, ap, inl, inr, eqb-true, arith}
use Rattle.std.proofs.lemmas.Bool.{false_from_ne_true}
use Rattle.std.specs.Prelude.{◌≡◌, refl, ℕ, zero, suc, ◌+◌, ◌≤◌, pos, negsuc, Bool, true, false, cond, ◌==◌, ◌&&◌, List, [], ◌∷◌, Option, Some, None}
use Rattle.com_base.specs.declared.hresult.HResult.{HResult}
use Rattle.com_base.specs.declared.value.Kind.{Kind}
use Rattle.com_base.specs.declared.value.Kind.TheVariants as kind
use Rattle.com_base.specs.declared.value.Value.{Value}
use Rattle.com_base.specs.declared.value.Value.TheVariants as value
use Rattle.com_base.specs.Values.{default_of, has_kind}
use Rattle.com_classes.specs.Lookups.{method_at}
use Rattle.com_model.specs.declared.deeds.Deed.{Deed}
use Rattle.com_model.specs.declared.deeds.Deed.TheVariants as deed
use Rattle.com_model.specs.declared.deeds.Entry.{Entry}
use Rattle.com_model.specs.declared.deeds.Route.{Route}
use Rattle.com_model.specs.declared.deeds.Route.TheVariants as route
use Rattle.com_model.specs.declared.scenario.Scenario.{Scenario}
use Rattle.com_model.specs.Answers.{is_failure}
use Rattle.com_model.specs.Lists.{or_else, where_true}
use Rattle.com_model.specs.Tables.{result_kind}
use Rattle.com_model.specs.Apartments.{ends_sta}
use Rattle.com_model.specs.Objects.{named, disconnects}
use Rattle.com_model.specs.Calls.{issues, issue_or, issue, calls, target, admitted}
use Rattle.com_model.specs.declared.keeps.Issue.{Issue}
use Rattle.com_model.specs.Values.{if_live, sent_value, sent_result, given_or_default}
use Rattle.com_model.specs.Endings.{EndsCall, EndsNone, cuts_object, cuts_sta, end_effect, ends, filtered, can_be_cut, ending}
use Rattle.com_model.specs.declared.keeps.Ending.{Ending}
use Rattle.com_model.specs.declared.keeps.Ending.TheVariants.{ByVerdict, ByLeave, AtIssue}
use Rattle.com_model.specs.Sight.{sight}
use Rattle.com_model.specs.Rules.{legal}
use Rattle.com_model.proofs.Onces.{call_named, Names, InRange, named-in-range}
use Rattle.com_model.specs.Openers.{openers}
use Rattle.com_model.specs.Waiting.{postings}
use Rattle.com_model.proofs.Comes.{Comes, sort_of, next-comes}
use Rattle.com_model.proofs.Goods.{IsPlain}
use Rattle.com_laws_balance.proofs.Carries.{PlainKind}
use Rattle.com_laws_balance.proofs.Says.{Says, LeaveSays, iface_of, method_of, next-says}

abbrev pub kind_of : Scenario → Option Issue → Option Kind
kind_of s i = result_kind (method_at s.classes (iface_of i) (method_of i))

abbrev pub PlainResult : Option Value → Type 0
PlainResult None = Unit {0}
PlainResult (Some v) = IsPlain v

-- ---- a result of a declared kind

kind-plain : (k : Kind) → PlainKind (Some k) → (v : Value) → IsPlain (cond (has_kind v k) v (default_of k))
kind-plain (kind.Ref i) p v = absurd p
kind-plain kind.Int p (value.Int x) = tt
kind-plain kind.Int p (value.Bool x) = tt
kind-plain kind.Int p (value.Text x) = tt
kind-plain kind.Int p (value.Bytes x) = tt
kind-plain kind.Int p (value.Guid x) = tt
kind-plain kind.Int p (value.Ref None) = tt
kind-plain kind.Int p (value.Ref (Some x)) = tt
kind-plain kind.Bool p (value.Int x) = tt
kind-plain kind.Bool p (value.Bool x) = tt
kind-plain kind.Bool p (value.Text x) = tt
kind-plain kind.Bool p (value.Bytes x) = tt
kind-plain kind.Bool p (value.Guid x) = tt
kind-plain kind.Bool p (value.Ref None) = tt
kind-plain kind.Bool p (value.Ref (Some x)) = tt
kind-plain kind.Text p (value.Int x) = tt
kind-plain kind.Text p (value.Bool x) = tt
kind-plain kind.Text p (value.Text x) = tt
kind-plain kind.Text p (value.Bytes x) = tt
kind-plain kind.Text p (value.Guid x) = tt
kind-plain kind.Text p (value.Ref None) = tt
kind-plain kind.Text p (value.Ref (Some x)) = tt
kind-plain kind.Bytes p (value.Int x) = tt
kind-plain kind.Bytes p (value.Bool x) = tt
kind-plain kind.Bytes p (value.Text x) = tt
kind-plain kind.Bytes p (value.Bytes x) = tt
kind-plain kind.Bytes p (value.Guid x) = tt
kind-plain kind.Bytes p (value.Ref None) = tt
kind-plain kind.Bytes p (value.Ref (Some x)) = tt
kind-plain kind.Guid p (value.Int x) = tt
kind-plain kind.Guid p (value.Bool x) = tt
kind-plain kind.Guid p (value.Text x) = tt
kind-plain kind.Guid p (value.Bytes x) = tt
kind-plain kind.Guid p (value.Guid x) = tt
kind-plain kind.Guid p (value.Ref None) = tt
kind-plain kind.Guid p (value.Ref (Some x)) = tt

live-plain : (m : Bool) (live : ℕ → Bool) (v : Value) → IsPlain v → IsPlain (if_live m live v)
live-plain true live (value.Ref held) p = absurd p
live-plain true live (value.Int x) p = tt
live-plain true live (value.Bool x) p = tt
live-plain true live (value.Text x) p = tt
live-plain true live (value.Bytes x) p = tt
live-plain true live (value.Guid x) p = tt
live-plain false live v p = p

result-plain : (m : Bool) (live : ℕ → Bool) (hr : HResult) (k : Option Kind) (x : Option Value) → PlainKind k → PlainResult (sent_result m live hr k x)
result-plain m live hr None x p = tt
result-plain m live hr (Some k) x p = by-test (is_failure hr) (live-plain m live _ (kind-plain k p (given_or_default k x)))
  where
    by-test : (t : Bool) → IsPlain (sent_value m live k (given_or_default k x)) → PlainResult (cond t None (Some (sent_value m live k (given_or_default k x))))
    by-test true q = tt
    by-test false q = q

-- ---- endings

-- An ending by a Leave has a value of the kind.
abbrev pub EndBy : Option Kind → Option Ending → Type 0
EndBy k (Some (ByLeave hr v)) = PlainKind k → PlainResult v
EndBy k _ = Unit {0}

abbrev pub NotLeft : Option Ending → Type 0
NotLeft (Some (ByLeave hr v)) = ⊥
NotLeft _ = Unit {0}

pub either-ending : (P : Option Ending → Type 0) (x y : Option Ending) → P x → P y → P (or_else x y)
either-ending P None y p q = q
either-ending P (Some e) y p q = p

where-ending : (P : Option Ending → Type 0) (t : Bool) (x : Ending) → P None → (t ≡ true → P (Some x)) → P (where_true t x)
where-ending P true x p q = q refl
where-ending P false x p q = p

-- What an entry's ending has to be: only a Leave ends by a Leave.
pub ends-is : (P : ℕ → Option Ending → Type 0) (f : ℕ → Bool) (d : Deed) (c o a : ℕ) (b : Bool) → ((x : Option Ending) → NotLeft x → P c x) → ((k : ℕ) (hr : HResult) (v : Option Value) (bytes : Option (List ℕ)) → d ≡ deed.Leave k hr v bytes → k ≡ c → P c (Some (ByLeave hr v))) → P c (ends (end_effect f d) c o a b)
ends-is P f (deed.Leave k hr v bytes) c o a b p q = where-ending (P c) (k == c) (ByLeave hr v) (p None tt) (λ e. q k hr v bytes refl (eqb-true k c e))
ends-is P f (deed.Out k u i m route.Refused cause bytes) c o a b p q = where-ending (P c) (k == c) AtIssue (p None tt) (λ e. p (Some AtIssue) tt)
ends-is P f (deed.Out k u i m route.Direct cause bytes) c o a b p q = p None tt
ends-is P f (deed.Out k u i m route.Switch cause bytes) c o a b p q = p None tt
ends-is P f (deed.Out k u i m route.Post cause bytes) c o a b p q = p None tt
ends-is P f (deed.Refuse k hr) c o a b p q = where-ending (P c) (k == c) _ (p None tt) (λ e. p _ tt)
ends-is P f (deed.Verdict k t v) c o a b p q = by-test (f k)
  where
    by-test : (z : Bool) → P c (ends (cond z EndsNone (EndsCall k (ByVerdict v))) c o a b)
    by-test true = p None tt
    by-test false = where-ending (P c) (k == c) _ (p None tt) (λ e. p _ tt)
ends-is P f (deed.Retry k (negsuc n)) c o a b p q = where-ending (P c) (k == c) _ (p None tt) (λ e. p _ tt)
ends-is P f (deed.Retry k (pos n)) c o a b p q = p None tt
ends-is P f (deed.Pending k w zero) c o a b p q = where-ending (P c) (k == c) _ (p None tt) (λ e. p _ tt)
ends-is P f (deed.Pending k w (suc n)) c o a b p q = p None tt
ends-is P f (deed.Disconnect u hr) c o a b p q = by-object (disconnects (deed.Disconnect u hr))
  where
    by-object : (x : Option ℕ) → P c (ends (cuts_object x) c o a b)
    by-object None = p None tt
    by-object (Some n) = where-ending (P c) (b && n == o) _ (p None tt) (λ e. p _ tt)
ends-is P f (deed.Uninit u n) c o a b p q = by-sta (ends_sta (deed.Uninit u n))
  where
    by-sta : (x : Option ℕ) → P c (ends (cuts_sta x) c o a b)
    by-sta None = p None tt
    by-sta (Some n) = where-ending (P c) (b && n == a) _ (p None tt) (λ e. p _ tt)
ends-is P f _ c o a b p q = p None tt

pub more-calls : (s : Scenario) (h : List Entry) (e : Entry) → calls h ≤ calls (e ∷ h)
more-calls s h e = omega arith

-- A call that was not issued has not left.
pub not-left : (s : Scenario) (h : List Entry) (c : ℕ) → legal s h → calls h + 1 ≤ c → NotLeft (ending s h c)
not-left s [] c q p = tt
not-left s (e ∷ h) c q p =
    let m : calls h ≤ calls (e ∷ h) = omega arith in
    either-ending NotLeft (ending s h c) _ (not-left s h c q.0 (omega (arith, p, m)))
    (ends-is (λ _ x. NotLeft x) (filtered s h) e.deed c (target h c) (named h (target h c)) (can_be_cut (issue h c) (admitted h c)) (λ x z. z)
    (λ k hr v bytes d z. let r : InRange (calls (e ∷ h)) k = subst (λ (x : Deed). Names (InRange (calls (e ∷ h))) (call_named x)) d (named-in-range s h e q) in
    let u : k ≤ calls (e ∷ h) = r.1 in omega (arith, u, z, p)))

pub same-issue : (s : Scenario) (h : List Entry) (l : ℕ) (d : Deed) (c : ℕ) → ((k : ℕ) (o : Option ℕ) (i m : ℕ) (r : Route) (cause : ℕ) (bytes : Option (List ℕ)) → d ≡ deed.Out k o i m r cause bytes → k ≡ c → ⊥) → issue_or (issues l d) c (issue h c) ≡ issue h c
same-issue s h l (deed.Out k o i m r cause bytes) c f = ap (λ (b : Bool). cond b (Some (record { call = k; lane = l; object = o; iface = i; method = m; route = r; cause = cause })) (issue h c)) (false_from_ne_true (k == c) (λ t. f k o i m r cause bytes refl (eqb-true k c t)))
same-issue s h l _ c f = refl

leave-plain : (s : Scenario) (h : List Entry) (l c : ℕ) (d : Deed) (k : ℕ) (hr : HResult) (v : Option Value) (bytes : Option (List ℕ)) → Says s (sight s h) l d → d ≡ deed.Leave k hr v bytes → k ≡ c → PlainKind (kind_of s (issue h c)) → PlainResult v
leave-plain s h l c d k hr v bytes z e f p =
    let y : LeaveSays s (sight s h) l k hr v bytes = subst (Says s (sight s h) l) e z in
    elim y.sent as (λ _. PlainResult v) [
      | inl n ↦ subst PlainResult (sym n) tt
      | inr n ↦ subst PlainResult (sym n) (result-plain _ _ hr _ y.given (subst (λ (j : ℕ). PlainKind (kind_of s (issue h j))) (sym f) p))
    ]

not-left-by : (j : Option Kind) (x : Option Ending) → NotLeft x → EndBy j x
not-left-by j None n = tt
not-left-by j (Some (ByLeave hr v)) n = absurd n
not-left-by j (Some _) n = tt

-- A call's number as new: only its own Out issues it.
out-new : (s : Scenario) (h : List Entry) (l : ℕ) (d : Deed) (c : ℕ) → (EndBy (kind_of s (issue h c)) (ending s h c)) → (calls h + 1 ≤ c → NotLeft (ending s h c)) → ((k : ℕ) (o : Option ℕ) (i m : ℕ) (r : Route) (cause : ℕ) (bytes : Option (List ℕ)) → d ≡ deed.Out k o i m r cause bytes → k ≡ calls h + 1) → EndBy (kind_of s (issue_or (issues l d) c (issue h c))) (ending s h c)
out-new s h l (deed.Out k o i m r cause bytes) c p q f =
    elim (k == c) as (λ t. (k == c) ≡ t → EndBy (kind_of s (cond t (Some (record { call = k; lane = l; object = o; iface = i; method = m; route = r; cause = cause })) (issue h c))) (ending s h c)) [
      | true ↦ λ e. not-left-by _ (ending s h c) (q (let z : k ≡ calls h + 1 = f k o i m r cause bytes refl in let y : k ≡ c = eqb-true k c e in omega (arith, z, y)))
      | false ↦ λ e. p
    ] refl
out-new s h l _ c p q f = p

pub out-number : (s : Scenario) (h : List Entry) (l : ℕ) (d : Deed) → Comes s (sight s h) (postings h) (openers h l) (sort_of d) → (k : ℕ) (o : Option ℕ) (i m : ℕ) (r : Route) (cause : ℕ) (bytes : Option (List ℕ)) → d ≡ deed.Out k o i m r cause bytes → k ≡ calls h + 1
out-number s h l d z k o i m r cause bytes e = subst (λ (x : Deed). Comes s (sight s h) (postings h) (openers h l) (sort_of x)) e z

pub leave-issue : (h : List Entry) (l c : ℕ) (d : Deed) (k : ℕ) (hr : HResult) (v : Option Value) (bytes : Option (List ℕ)) → d ≡ deed.Leave k hr v bytes → issue_or (issues l d) c (issue h c) ≡ issue h c
leave-issue h l c d k hr v bytes e = subst (λ (x : Deed). issue_or (issues l x) c (issue h c) ≡ issue h c) (sym e) refl

-- The value of each call that has left has the kind of its result.
pub ends-plain : (s : Scenario) (h : List Entry) (c : ℕ) → legal s h → EndBy (kind_of s (issue h c)) (ending s h c)
ends-plain s [] c q = tt
ends-plain s (e ∷ h) c q =
    either-ending (EndBy (kind_of s (issue (e ∷ h) c))) (ending s h c) _
    (out-new s h e.lane e.deed c (ends-plain s h c q.0) (not-left s h c q.0) (out-number s h e.lane e.deed (next-comes s h e.lane e.deed q.1)))
    (ends-is (λ (j : ℕ) (x : Option Ending). EndBy (kind_of s (issue (e ∷ h) j)) x) (filtered s h) e.deed c (target h c) (named h (target h c)) (can_be_cut (issue h c) (admitted h c))
    (λ x n. not-left-by (kind_of s (issue (e ∷ h) c)) x n)
    (λ k hr v bytes d z p. leave-plain s h e.lane c e.deed k hr v bytes (next-says s h e.lane e.deed q.1) d z (subst (λ (i : Option Issue). PlainKind (kind_of s i)) (leave-issue h e.lane c e.deed k hr v bytes d) p)))
