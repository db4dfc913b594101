-- The values with which a call is entered.
use Rattle.std.proofs.Common.{refl, sym, subst, ◌∙◌, inl, inr}
use Rattle.std.specs.Prelude.{◌≡◌, ℕ, Bool, true, false, cond, ◌==◌, List, [], ◌∷◌, Option, Some, None}
use Rattle.com_base.specs.declared.hresult.HResult.{HResult}
use Rattle.com_base.specs.declared.value.Kind.{Kind}
use Rattle.com_base.specs.declared.value.Kind.TheVariants as kind
use Rattle.com_base.specs.declared.value.RefValue.{RefValue}
use Rattle.com_base.specs.declared.value.Value.{Value}
use Rattle.com_base.specs.declared.value.Value.TheVariants as value
use Rattle.com_base.specs.Values.{has_kind, default_of, as_kind}
use Rattle.com_body.specs.declared.operands.Destination.{Destination}
use Rattle.com_body.specs.declared.actions.Action.{Action}
use Rattle.com_body.specs.declared.actions.Action.TheVariants as action
use Rattle.com_classes.specs.Lookups.{method_at}
use Rattle.com_model.specs.declared.deeds.Deed.{Deed}
use Rattle.com_model.specs.declared.deeds.Deed.TheVariants as deed
use Rattle.com_model.specs.declared.deeds.Entry.{Entry}
use Rattle.com_model.specs.declared.scenario.Scenario.{Scenario}
use Rattle.com_model.specs.declared.keeps.Issue.{Issue}
use Rattle.com_model.specs.declared.keeps.Opener.{Opener}
use Rattle.com_model.specs.declared.keeps.Opener.TheVariants.{Enters}
use Rattle.com_model.specs.Books.{books, out_values}
use Rattle.com_model.specs.Calls.{issues, issue_or, issue, is_marshalled}
use Rattle.com_model.specs.Deeds.{deed_of, called}
use Rattle.com_model.specs.Formed.{Formed}
use Rattle.com_model.specs.Frames.{act}
use Rattle.com_model.specs.Issue.{call_refusal, own_values, values_or, sent}
use Rattle.com_model.specs.Openers.{Opens, effect, effect_on, openers}
use Rattle.com_model.specs.Rules.{legal, after_script}
use Rattle.com_model.specs.Safe.{OwnReply}
use Rattle.com_model.specs.Sight.{Sight, sight}
use Rattle.com_model.specs.Tables.{parameters}
use Rattle.com_model.specs.Values.{if_live, sent_values}
use Rattle.com_model.proofs.Given.{cond-of}
use Rattle.com_laws_balance.proofs.Counts.{Among}
use Rattle.com_laws_balance.proofs.Stacks.{among-after, opens-enter}
use Rattle.com_laws_safety.proofs.Acted.{ActionSort, Calling, action_sort, OfAction, deed-acted}
use Rattle.com_laws_safety.proofs.Caused.{legal-own}
use Rattle.com_laws_safety.proofs.Facts.{IsRuled, admission-ruled, answered-ruled, rest-ruled}
use Rattle.com_laws_safety.proofs.Small.{same-number}
use Rattle.com_laws_safety.proofs.Sources.{Source, by_body, by_script, by_end, by_final, by_own, by_answer, by_inbox, by_retry, by_again, by_rest, next-source}
use Rattle.com_model.specs.Deeds.{uninitialised}
use Rattle.com_model.specs.Rules.{packet_left}
use Rattle.com_laws_sources.specs.Histories.{given_to}
use Rattle.com_laws_sources.specs.Fitting.{HasKinds, GivenFit}
use Rattle.com_laws_sources.specs.Servers.{Stands}
use Rattle.com_laws_sources.proofs.Runs.{Same, stays-same}

-- ---- values as they travel

default-kind : (k : Kind) → has_kind (default_of k) k ≡ true
default-kind kind.Int = refl
default-kind kind.Bool = refl
default-kind kind.Text = refl
default-kind kind.Bytes = refl
default-kind kind.Guid = refl
default-kind (kind.Ref i) = refl

of-kind : (v : Value) (k : Kind) → has_kind (as_kind v k) k ≡ true
of-kind v k = elim (has_kind v k) as (λ t. has_kind v k ≡ t → has_kind (cond t v (default_of k)) k ≡ true) [
  | true ↦ λ e. e
  | false ↦ λ e. default-kind k
] refl

null-kind : (r : RefValue) (k : Kind) → has_kind (value.Ref (Some r)) k ≡ true → has_kind (value.Ref None) k ≡ true
null-kind r (kind.Ref i) p = refl
null-kind r kind.Int p = p
null-kind r kind.Bool p = p
null-kind r kind.Text p = p
null-kind r kind.Bytes p = p
null-kind r kind.Guid p = p

live-kind : (m : Bool) (live : ℕ → Bool) (v : Value) (k : Kind) → has_kind v k ≡ true → has_kind (if_live m live v) k ≡ true
live-kind true live (value.Ref (Some r)) k p = elim (live r.object) as (λ t. has_kind (value.Ref (cond t (Some r) None)) k ≡ true) [
  | true ↦ p
  | false ↦ null-kind r k p
]
live-kind true live (value.Ref None) k p = p
live-kind true live (value.Int n) k p = p
live-kind true live (value.Bool n) k p = p
live-kind true live (value.Text n) k p = p
live-kind true live (value.Bytes n) k p = p
live-kind true live (value.Guid n) k p = p
live-kind false live v k p = p

sent-kinds : (m : Bool) (live : ℕ → Bool) (ks : List Kind) (vs : List Value) → HasKinds ks (sent_values m live ks vs)
sent-kinds m live [] vs = tt
sent-kinds m live (k ∷ ks) [] = (default-kind k, sent-kinds m live ks [])
sent-kinds m live (k ∷ ks) (v ∷ vs) = (live-kind m live (as_kind v k) k (of-kind v k), sent-kinds m live ks vs)

-- ---- an Out is made by a call

record Calls (s : Scenario) (h : List Entry) (l i m : ℕ) : Type 0 where
  held : Option RefValue
  args : List Value
  to : Destination
  acts : act s h l ≡ Some (action.Call held i m args to)

abbrev CallOf : Scenario → List Entry → ℕ → Deed → Type 0
CallOf s h l (deed.Out c o i m r k bytes) = Calls s h l i m
CallOf s h l _ = Unit {0}

call-out : (s : Scenario) (h : List Entry) (v : Sight) (l i m : ℕ) (held : Option RefValue) (args : List Value) (to : Destination) (y : Option HResult) → act s h l ≡ Some (action.Call held i m args to) → CallOf s h l (called s v l held i m args y)
call-out s h v l i m held args to None p = record { held = held; args = args; to = to; acts = p }
call-out s h v l i m held args to (Some hr) p = record { held = held; args = args; to = to; acts = p }

not-out : (s : Scenario) (h : List Entry) (l : ℕ) (b : ActionSort) (d : Deed) → OfAction b d → (b ≡ Calling → ⊥) → CallOf s h l d
not-out s h l b (deed.Out c o i m r k bytes) p n = absurd (n p)
not-out s h l b _ p n = tt

by-act : (s : Scenario) (h : List Entry) (v : Sight) (l : ℕ) (x : Action) → act s h l ≡ Some x → CallOf s h l (deed_of s v l x)
by-act s h v l (action.Call held i m args to) p = call-out s h v l i m held args to (call_refusal s (v.home l) (v.running l) v.owns v.books.live held i m) p
by-act s h v l x p = not-out s h l (action_sort x) (deed_of s v l x) (deed-acted s v l x) (λ e. cc)

ruled-call : (s : Scenario) (h : List Entry) (l : ℕ) (d : Deed) → IsRuled d → CallOf s h l d
ruled-call s h l (deed.Out c o i m r k bytes) p = absurd p
ruled-call s h l _ p = tt

ended-call : (s : Scenario) (h : List Entry) (v : Sight) (l : ℕ) → CallOf s h l (after_script v l)
ended-call s h v l = cond-of (CallOf s h l) (v.count l == 0) deed.End (uninitialised v l) tt tt

source-call : (s : Scenario) (h : List Entry) (l : ℕ) (d : Deed) → Source s (sight s h) l d → CallOf s h l d
source-call s h l d (by_body c o a os x p q e) = subst (CallOf s h l) e (by-act s h (sight s h) l x q)
source-call s h l d (by_script x p t q e) = subst (CallOf s h l) e (by-act s h (sight s h) l x q)
source-call s h l d (by_end p t e) = subst (CallOf s h l) e (ended-call s h (sight s h) l)
source-call s h l d (by_final o p e) = subst (CallOf s h l) e tt
source-call s h l d (by_own c p q e) = ruled-call s h l d (subst IsRuled e (admission-ruled s (sight s h) l c))
source-call s h l d (by_answer c x p q e) = ruled-call s h l d (subst IsRuled e (answered-ruled (sight s h) c x (packet_left (sight s h) c)))
source-call s h l d (by_inbox c p q e) = ruled-call s h l d (subst IsRuled e (admission-ruled s (sight s h) l c))
source-call s h l d (by_retry c n x q e) = subst (CallOf s h l) e tt
source-call s h l d (by_again c t q e) = subst (CallOf s h l) e tt
source-call s h l d (by_rest p) = ruled-call s h l d (rest-ruled d p)

-- ---- what a call sends

abbrev KindsOf : Scenario → Issue → List Value → Type 0
KindsOf s i vs = HasKinds (parameters (method_at s.classes i.iface i.method)) vs

abbrev SentFit : Scenario → List Entry → Type 0
SentFit s h = (c : ℕ) (i : Issue) → issue h c ≡ Some i → KindsOf s i (sent s h c)

some-issue : (x y : Issue) → Some x ≡ Some y → x ≡ y
some-issue x y e = cc

sent-step : (s : Scenario) (h : List Entry) (l c : ℕ) (d : Deed) (i : Issue) → CallOf s h l d → SentFit s h → issue_or (issues l d) c (issue h c) ≡ Some i → KindsOf s i (values_or s h (issues l d) c (sent s h c))
sent-step s h l c (deed.Out k o j m r cause bytes) i p f e =
    let y : Issue = record { call = k; lane = l; object = o; iface = j; method = m; route = r; cause = cause } in
    elim (k == c) as (λ t. cond t (Some y) (issue h c) ≡ Some i → KindsOf s i (own_values s h y t (sent s h c))) [
      | true ↦ λ q. subst (λ (x : Issue). KindsOf s x (out_values s (books s h) (is_marshalled r) (act s h l))) (some-issue y i q)
          (subst (λ (x : Option Action). HasKinds (parameters (method_at s.classes j m)) (out_values s (books s h) (is_marshalled r) x)) (sym p.acts)
          (sent-kinds (is_marshalled r) (books s h).live (parameters (method_at s.classes j m)) p.args))
      | false ↦ λ q. f c i q
    ] e
sent-step s h l c _ i p f e = f c i e

legal-sent : (s : Scenario) (h : List Entry) → legal s h → SentFit s h
legal-sent s [] q = λ c i e. absurd (nothing i e)
  where
    nothing : (i : Issue) → None ≡ Some i → ⊥
    nothing i e = cc
legal-sent s (e ∷ h) q = λ c i p. sent-step s h e.lane c e.deed i (source-call s h e.lane e.deed (next-source s h e.lane e.deed q.1)) (legal-sent s h q.0) p

-- ---- what an open call was given

pub among-in : (o : Opener) (os : List Opener) → Stands o os → Among o os
among-in o [] m = absurd m
among-in o (x ∷ os) (inl p) = inl p
among-in o (x ∷ os) (inr p) = inr (among-in o os p)

abbrev OpenFit : Scenario → List Entry → Type 0
OpenFit s h = (l c o a : ℕ) (i : Issue) → Among (Enters c o a) (openers h l) → issue h c ≡ Some i → KindsOf s i (given_to h c)

enter-fit : (s : Scenario) (h : List Entry) (l c o a : ℕ) (i : Issue) (d : Deed) → legal s h → OwnReply s h l d → effect d ≡ Opens (Enters c o a) → issue (record { lane = l; deed = d } ∷ h) c ≡ Some i → KindsOf s i (given_to (record { lane = l; deed = d } ∷ h) c)
enter-fit s h l c o a i (deed.Enter k x b t vs) q r p e =
    subst (λ (j : ℕ). issue h j ≡ Some i → KindsOf s i (cond (k == j) vs (given_to h j))) (call-of p)
    (λ z. subst (λ (u : Bool). KindsOf s i (cond u vs (given_to h k))) (sym (same-number k)) (subst (KindsOf s i) (sym r.0) (legal-sent s h q k i z))) e
  where
    call-of : Opens (Enters k x b) ≡ Opens (Enters c o a) → k ≡ c
    call-of e = cc
enter-fit s h l c o a i _ q r p e = cc

legal-open : (s : Scenario) (h : List Entry) → Formed s → legal s h → OpenFit s h
legal-open s [] f q l c o a i m e = absurd m
legal-open s (e ∷ h) f q l c o a i m p =
    elim (among-after c o a (effect_on l e) (openers h l) m) as (λ _. KindsOf s i (given_to (e ∷ h) c)) [
      | inl j ↦ let z : Same s h e c o = stays-same s h e l c o a f q j in
          subst (KindsOf s i) (sym z.given) (legal-open s h f q.0 l c o a i j (sym z.issued ∙ p))
      | inr j ↦ enter-fit s h e.lane c o a i e.deed q.0 (legal-own s (e ∷ h) q).1 (opens-enter l c o a e j).1 p
    ]

pub legal-given : (s : Scenario) (h : List Entry) → Formed s → legal s h → GivenFit s h
legal-given s h f q l c o a i m e = legal-open s h f q l c o a i (among-in (Enters c o a) (openers h l) m) e
