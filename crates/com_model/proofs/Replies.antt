-- A state that stands for a history stands for the longer one after a deed: the part of the calls' answers, of the refusals that
-- they met at their issue, and of the values that they sent.
use Rattle.std.proofs.Common.{sym, ap, ◌∙◌, eqb-true, arith}
use Rattle.std.specs.Prelude.{◌≡◌, refl, ℕ, zero, suc, ◌+◌, ◌<◌, negsuc, pos, Bool, true, false, cond, ◌==◌, ◌||◌, List, [], ◌∷◌, length, Option, Some, None, is_some}
use Rattle.com_base.specs.declared.hresult.HResult.{HResult}
use Rattle.com_base.specs.declared.value.Value.{Value}
use Rattle.com_filter.specs.declared.Verdict.{Verdict}
use Rattle.com_model.specs.declared.deeds.Deed.{Deed}
use Rattle.com_model.specs.declared.deeds.Deed.TheVariants as deed
use Rattle.com_model.specs.declared.deeds.Entry.{Entry}
use Rattle.com_model.specs.declared.deeds.Route.TheVariants as route
use Rattle.com_model.specs.declared.scenario.Scenario.{Scenario}
use Rattle.com_model.specs.Answers.{S_OK}
use Rattle.com_refs_books.specs.Counting.{count_if}
use Rattle.com_model.specs.Lists.{or_else, where_true, each_from, from_one}
use Rattle.com_model.specs.Openers.{openers}
use Rattle.com_model.specs.Apartments.{ends_sta}
use Rattle.com_model.specs.Objects.{named, disconnects}
use Rattle.com_model.specs.Calls.{Issue, Admission, issues, admits, admission_or, issue, admitted, target, object_of, lane_of, calls}
use Rattle.com_model.specs.Endings.{Ending, EndsCall, EndsNone, ByVerdict, cuts_object, cuts_sta, end_effect, ends, filtered, can_be_cut, ending}
use Rattle.com_model.specs.Books.{out_values}
use Rattle.com_model.specs.Issue.{action_refusal, or_ok, refusal_before, own_refusal, refusal_or, own_values, values_or, sent, unread_values}
use Rattle.com_model.specs.Waiting.{postings}
use Rattle.com_model.specs.Sight.{Sight, sight}
use Rattle.com_model.specs.Rules.{legal}
use Rattle.com_model.specs.State.{State, AnswersStand, StandsFor, enters, let_go, grown, is_marshalled_by, sight_of}
use Rattle.com_model.proofs.Comes.{Comes, sort_of, next-comes}
use Rattle.com_model.proofs.Onces.{call_named, Names, InRange, names-all, named-in-range}
use Rattle.com_model.proofs.Tabled.{Outside, above, length-grown, length-each, each-row, table-after, last-row, outside-row}
use Rattle.com_model.proofs.Rows.{Apart, apart-of}
use Rattle.com_model.proofs.Sights.{same-sight}
use Rattle.com_model.proofs.Rowed.{after_rowed}

-- ---- what a deed does to the answer of a call that it does not name and that was not issued

ends-off : (b : Bool) (x : Ending) → b ≡ false → where_true b x ≡ None
ends-off b x e = ap (λ (t : Bool). where_true t x) e

uncut-object : (x : Option ℕ) (c o a : ℕ) → ends (cuts_object x) c o a false ≡ None
uncut-object None c o a = refl
uncut-object (Some p) c o a = refl

uncut-sta : (x : Option ℕ) (c o a : ℕ) → ends (cuts_sta x) c o a false ≡ None
uncut-sta None c o a = refl
uncut-sta (Some b) c o a = refl

unjudged : (f : Bool) (k c o a : ℕ) (v : Verdict) → (k == c) ≡ false → ends (cond f EndsNone (EndsCall k (ByVerdict v))) c o a false ≡ None
unjudged true k c o a v e = refl
unjudged false k c o a v e = ends-off (k == c) (ByVerdict v) e

unended : (f : ℕ → Bool) (d : Deed) (c o a : ℕ) → Names (Apart c) (call_named d) → ends (end_effect f d) c o a false ≡ None
unended f (deed.Out k x i m route.Refused cause bytes) c o a p = ends-off (k == c) _ p.0
unended f (deed.Out k x i m route.Direct cause bytes) c o a p = refl
unended f (deed.Out k x i m route.Switch cause bytes) c o a p = refl
unended f (deed.Out k x i m route.Post cause bytes) c o a p = refl
unended f (deed.Refuse k hr) c o a p = ends-off (k == c) _ p.0
unended f (deed.Verdict k t v) c o a p = unjudged (f k) k c o a v p.0
unended f (deed.Retry k (negsuc n)) c o a p = ends-off (k == c) _ p.0
unended f (deed.Retry k (pos n)) c o a p = refl
unended f (deed.Pending k w zero) c o a p = ends-off (k == c) _ p.0
unended f (deed.Pending k w (suc n)) c o a p = refl
unended f (deed.Leave k hr v bytes) c o a p = ends-off (k == c) _ p.0
unended f (deed.Disconnect x hr) c o a p = uncut-object (disconnects (deed.Disconnect x hr)) c o a
unended f (deed.Uninit x n) c o a p = uncut-sta (ends_sta (deed.Uninit x n)) c o a
unended f _ c o a p = refl

-- ---- a new call's refusal and values

own-refused : (s : Scenario) (h : List Entry) (l : ℕ) (b : Bool) (x : HResult) → cond b (refusal_before s h l) x ≡ own_refusal s h l b x
own-refused s h l true x = refl
own-refused s h l false x = refl

own-sent : (s : Scenario) (h : List Entry) (i : Issue) (b : Bool) (x : List Value) → cond b (own_values s h i true []) x ≡ own_values s h i b x
own-sent s h i true x = refl
own-sent s h i false x = refl

refusal-row : (s : Scenario) (h : List Entry) (l : ℕ) (d : Deed) (xs : List HResult) (c : ℕ) → calls h ≡ length xs → Comes s (sight s h) (postings h) (openers h l) (sort_of d) → from_one (grown (is_some (issues l d)) (refusal_before s h l) xs) c S_OK ≡ refusal_or s h (issues l d) c (from_one xs c S_OK)
refusal-row s h l (deed.Out k o i m r cause bytes) xs c n z = last-row xs c k _ S_OK (z ∙ ap (λ (x : ℕ). x + 1) n) ∙ own-refused s h l (k == c) (from_one xs c S_OK)
refusal-row s h l _ xs c n z = refl

sent-row : (s : Scenario) (h : List Entry) (l : ℕ) (d : Deed) (xs : List (List Value)) (c : ℕ) → calls h ≡ length xs → Comes s (sight s h) (postings h) (openers h l) (sort_of d) → from_one (grown (is_some (issues l d)) (out_values s (sight s h).books (is_marshalled_by (issues l d)) ((sight s h).act l)) xs) c [] ≡ values_or s h (issues l d) c (from_one xs c [])
sent-row s h l (deed.Out k o i m r cause bytes) xs c n z =
    last-row xs c k _ [] (z ∙ ap (λ (x : ℕ). x + 1) n)
    ∙ own-sent s h (record { call = k; lane = l; object = o; iface = i; method = m; route = r; cause = cause }) (k == c) (from_one xs c [])
sent-row s h l _ xs c n z = refl

-- ---- what is still to be read of the values

none-issued : (a : Option Admission) (x : Option Ending) → a ≡ None → x ≡ None → (is_some a || is_some x) ≡ true → ⊥
none-issued None None p q w = cc
none-issued None (Some y) p q w = cc
none-issued (Some y) x p q w = cc

fresh-values : (s : Scenario) (h : List Entry) (l : ℕ) (d : Deed) (c : ℕ) → Comes s (sight s h) (postings h) (openers h l) (sort_of d) → (calls h < c → (is_some (admitted h c) || is_some (ending s h c)) ≡ true → ⊥) → (is_some (admitted h c) || is_some (ending s h c)) ≡ true → values_or s h (issues l d) c [] ≡ []
fresh-values s h l (deed.Out k o i m r cause bytes) c z f w = by-test (k == c) refl
  where
    by-test : (b : Bool) → (k == c) ≡ b → own_values s h (record { call = k; lane = l; object = o; iface = i; method = m; route = r; cause = cause }) b [] ≡ []
    by-test true e = let n : k ≡ c = eqb-true k c e in let m : k ≡ calls h + 1 = z in absurd (f (omega (arith, n, m)) w)
    by-test false e = refl
fresh-values s h l _ c z f w = refl

let-go-none : (b : Bool) → let_go b [] ≡ []
let-go-none true = refl
let-go-none false = refl

none-read : (a : Option Admission) (x : Ending) (vs : List Value) → unread_values a (Some x) vs ≡ []
none-read None x vs = refl
none-read (Some a) x vs = refl

none-taken : (m : Option Admission) (c : ℕ) (a : Admission) (x : Option Ending) (vs : List Value) → unread_values (admission_or m c (Some a)) x vs ≡ []
none-taken None c a x vs = refl
none-taken (Some y) c a x vs = elim (y.call == c) as (λ t. unread_values (cond t (Some y) (Some a)) x vs ≡ []) [
  | true ↦ refl
  | false ↦ refl
]

let-go-step : (m : Option Admission) (c : ℕ) (a : Option Admission) (n x : Option Ending) (g : List Value → List Value) (vs : List Value) → ((is_some a || is_some n) ≡ true → g [] ≡ []) → let_go (enters m c || is_some x) (g (unread_values a n vs)) ≡ unread_values (admission_or m c a) (or_else n x) (g vs)
let-go-step m c (Some a) n x g vs f = ap (let_go (enters m c || is_some x)) (f refl) ∙ let-go-none (enters m c || is_some x) ∙ sym (none-taken m c a (or_else n x) (g vs))
let-go-step m c None (Some n) x g vs f = ap (let_go (enters m c || is_some x)) (f refl) ∙ let-go-none (enters m c || is_some x) ∙ sym (none-read (admission_or m c None) n (g vs))
let-go-step None c None None None g vs f = refl
let-go-step None c None None (Some x) g vs f = refl
let-go-step (Some y) c None None None g vs f = elim (y.call == c) as (λ t. let_go (t || false) (g vs) ≡ unread_values (cond t (Some y) None) None (g vs)) [
  | true ↦ refl
  | false ↦ refl
]
let-go-step (Some y) c None None (Some x) g vs f = elim (y.call == c) as (λ t. let_go (t || true) (g vs) ≡ unread_values (cond t (Some y) None) (Some x) (g vs)) [
  | true ↦ refl
  | false ↦ refl
]

-- ---- the part

pub answers-after : (s : Scenario) (st : State) (h : List Entry) (l : ℕ) (d : Deed) → legal s (record { lane = l; deed = d } ∷ h) → StandsFor s st h → AnswersStand s (after_rowed s st l d) (record { lane = l; deed = d } ∷ h)
answers-after s st h l d q p =
    let e : Entry = record { lane = l; deed = d } in
    let b : Bool = is_some (issues l d) in
    let z : Comes s (sight s h) (postings h) (openers h l) (sort_of d) = next-comes s h l d q.1 in
    let v : sight_of s st ≡ sight s h = same-sight s st h p in
    let given : Sight → ℕ → Option Ending = λ t c. ends (end_effect (λ k. is_some (t.filter (lane_of (t.issue k)))) d) c (object_of (t.issue c)) (t.named (object_of (t.issue c))) (can_be_cut (t.issue c) (t.admitted c)) in
    let step : Sight → ℕ → Option Ending → Option Ending = λ t c x. or_else x (given t c) in
    let goes : Sight → ℕ → Bool = λ t c. enters (admits l d) c || is_some (given t c) in
    let unissued : (c : ℕ) → Outside (count_if b + calls h) c → issue h c ≡ None = λ c o. sym (p.calls.issues c) ∙ outside-row st.issues (count_if b + calls h) c None (let n : length st.issues ≡ calls h = p.calls.number in omega (arith, n)) o in
    let r : (c : ℕ) → Outside (count_if b + calls h) c → Names (Apart c) (call_named d) = λ c o. names-all (InRange (calls (e ∷ h))) (Apart c) (λ k. apart-of (calls (e ∷ h)) c k o) (call_named d) (named-in-range s h e q) in
    record {
      rows = (
        length-each _ 1 (grown b None st.endings) ∙ length-grown b None st.endings ∙ ap (λ (n : ℕ). count_if b + n) p.answers.rows.0,
        length-grown b _ st.refusals ∙ ap (λ (n : ℕ). count_if b + n) p.answers.rows.1,
        length-each _ 1 (grown b _ st.unread) ∙ length-grown b _ st.unread ∙ ap (λ (n : ℕ). count_if b + n) p.answers.rows.2,
      );
      endings = λ c.
          ap (λ (t : Sight). from_one (each_from (step t) 1 (grown b None st.endings)) c None) v
          ∙ table-after (step (sight s h)) st.endings b None (ending s h) (calls h) p.answers.rows.0 p.answers.endings
          (λ c o. ap (λ (x : Bool). ends (end_effect (filtered s h) d) c (target h c) (named h (target h c)) x) (ap (λ (x : Option Issue). can_be_cut x (admitted h c)) (unissued c o)) ∙ unended (filtered s h) d c (target h c) (named h (target h c)) (r c o)) c;
      refusals = λ c.
          ap (λ (t : Sight). from_one (grown b (or_ok (action_refusal s (t.home l) (t.running l) t.owns t.books.live (t.act l))) st.refusals) c S_OK) v
          ∙ refusal-row s h l d st.refusals c (sym p.answers.rows.1) z ∙ ap (refusal_or s h (issues l d) c) (p.answers.refusals c);
      unread = λ c.
          ap (λ (t : Sight). from_one (each_from (λ k vs. let_go (goes t k) vs) 1 (grown b (out_values s t.books (is_marshalled_by (issues l d)) (t.act l)) st.unread)) c []) v
          ∙ each-row (λ k vs. let_go (goes (sight s h) k) vs) (grown b (out_values s (sight s h).books (is_marshalled_by (issues l d)) ((sight s h).act l)) st.unread) c [] (λ k. let-go-none (goes (sight s h) k))
          ∙ ap (let_go (goes (sight s h) c)) (sent-row s h l d st.unread c (sym p.answers.rows.2) z ∙ ap (values_or s h (issues l d) c) (p.answers.unread c))
          ∙ let-go-step (admits l d) c (admitted h c) (ending s h c) (given (sight s h) c) (values_or s h (issues l d) c) (sent s h c)
          (fresh-values s h l d c z (λ o.
          none-issued (admitted h c) (ending s h c)
          (sym (p.calls.admissions c) ∙ outside-row st.admissions (calls h) c None (let n : length st.admissions ≡ calls h = p.calls.rows.0 in omega (arith, n)) (above o))
          (sym (p.answers.endings c) ∙ outside-row st.endings (calls h) c None (let n : length st.endings ≡ calls h = p.answers.rows.0 in omega (arith, n)) (above o))));
    }
