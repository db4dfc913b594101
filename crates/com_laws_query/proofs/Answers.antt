-- Each query of a legal history is answered by the rules.
use Rattle.std.proofs.Common.{subst, sym, ap, ◌∙◌, ◌⊎◌, inl, inr}
use Rattle.std.specs.Prelude.{◌≡◌, refl, ℕ, Bool, true, false, cond, not, ◌&&◌, List, [], ◌∷◌, Option, Some, None}
use Rattle.com_base.specs.declared.hresult.HResult.{HResult}
use Rattle.com_base.specs.declared.value.RefValue.{RefValue}
use Rattle.com_body.specs.declared.operands.Asked.{Asked}
use Rattle.com_body.specs.declared.operands.Asked.TheVariants as asked
use Rattle.com_body.specs.declared.actions.Action.{Action}
use Rattle.com_body.specs.declared.actions.Action.TheVariants as action
use Rattle.com_classes.specs.Lookups.{has_interface}
use Rattle.com_model.specs.declared.deeds.Deed.{Deed}
use Rattle.com_model.specs.declared.deeds.Deed.TheVariants as deed
use Rattle.com_model.specs.declared.deeds.Entry.{Entry}
use Rattle.com_model.specs.declared.scenario.Scenario.{Scenario}
use Rattle.com_model.specs.Answers.{S_OK, E_NOINTERFACE, RPC_E_DISCONNECTED, is_S_OK}
use Rattle.com_model.specs.Lists.{number_or_zero}
use Rattle.com_model.specs.Tables.{interface_number, shown}
use Rattle.com_model.specs.Apartments.{home, running}
use Rattle.com_model.specs.Objects.{class_of, owns}
use Rattle.com_model.specs.Frames.{act, reference, taken_in}
use Rattle.com_model.specs.Books.{books}
use Rattle.com_model.specs.Sight.{Sight, sight}
use Rattle.com_model.specs.Deeds.{offers, object_in, query_answer, queried}
use Rattle.com_model.specs.Rules.{next, legal}
use Rattle.com_model.specs.Safe.{EachEntry}
use Rattle.com_laws_safety.proofs.Sources.{Source, next-source}
use Rattle.com_laws_query.specs.Querying.{Lacks, Success, Refusal, uninitialised, null, severed, lacking, Answers, QueryAnswers, Refuses, QueryRefused}
use Rattle.com_laws_query.proofs.Sources.{NoQuery, source-queries}

-- ---- tests of an answer

false-true : false ≡ true → ⊥
false-true e = cc

true-false : true ≡ false → ⊥
true-false e = cc

some-none : {X : Type 0} (x : X) → Some x ≡ None → ⊥
some-none x e = cc

abbrev tested : (owned live offered : Bool) → HResult
tested a b c = cond (not a && not b) RPC_E_DISCONNECTED (cond c S_OK E_NOINTERFACE)

passed : (a b c : Bool) → is_S_OK (tested a b c) ≡ true → ((a ≡ true) ⊎ (b ≡ true)) × (c ≡ true)
passed true b true e = (inl refl, refl)
passed true b false e = cc
passed false true true e = (inr refl, refl)
passed false true false e = cc
passed false false c e = cc

offered-number : (s : Scenario) (k : ℕ) (j : Option ℕ) → offers s k j ≡ true → (n : ℕ) × (j ≡ Some n) × (has_interface s.classes k n ≡ true)
offered-number s k None e = absurd (false-true e)
offered-number s k (Some n) e = (n, refl, e)

lacks-of : (s : Scenario) (k : ℕ) (j : Option ℕ) → offers s k j ≡ false → Lacks s k j
lacks-of s k None e = tt
lacks-of s k (Some n) e = e

-- ---- success

succeeded : (s : Scenario) (h : List Entry) (l a : ℕ) (r : RefValue) (wanted : Asked) (j : Option ℕ) (n : ℕ) → home s h l ≡ Some a → interface_number s wanted ≡ j → ((owns s h r.object (number_or_zero (running s h l)) ≡ true) ⊎ ((books s h).live r.object ≡ true)) → j ≡ Some n → has_interface s.classes (class_of h r.object) n ≡ true → Success s h l (Some r) wanted (object_in (Some r)) (shown (interface_number s wanted) wanted)
succeeded s h l a r wanted j n p k t m d =
    let known : interface_number s wanted ≡ Some n = k ∙ m in
    record {
      homed = λ z. some-none a (sym p ∙ z);
      through = r;
      put = refl;
      reached = t;
      number = n;
      known = known;
      declared = d;
      same_object = refl;
      same_interface = ap (λ (x : Option ℕ). shown x wanted) known;
      taken = ap (λ (x : Option ℕ). taken_in (deed.Query (Some r.object) (shown x wanted) S_OK)) known;
    }

success-of : (s : Scenario) (h : List Entry) (l : ℕ) (held : Option RefValue) (wanted : Asked) (x j : Option ℕ) → home s h l ≡ x → interface_number s wanted ≡ j → is_S_OK (query_answer s (sight s h) l x held j) ≡ true → Success s h l held wanted (object_in held) (shown (interface_number s wanted) wanted)
success-of s h l held wanted None j p k e = absurd (false-true e)
success-of s h l None wanted (Some a) j p k e = absurd (false-true e)
success-of s h l (Some r) wanted (Some a) j p k e =
    let t : (((owns s h r.object (number_or_zero (running s h l)) ≡ true) ⊎ ((books s h).live r.object ≡ true)) × (offers s (class_of h r.object) j ≡ true)) = passed (owns s h r.object (number_or_zero (running s h l))) ((books s h).live r.object) (offers s (class_of h r.object) j) e in
    let n : (n : ℕ) × (j ≡ Some n) × (has_interface s.classes (class_of h r.object) n ≡ true) = offered-number s (class_of h r.object) j t.1 in
    succeeded s h l a r wanted j n.0 p k t.0 n.1 n.2

query-answers : (s : Scenario) (h : List Entry) (l to : ℕ) (held : Option RefValue) (wanted : Asked) → act s h l ≡ Some (action.Query to held wanted) → QueryAnswers s h l (queried s (sight s h) l held wanted)
query-answers s h l to held wanted e = record {
  slot = to;
  held = held;
  wanted = wanted;
  acts = e;
  names = refl;
  shows = refl;
  gives = λ z. success-of s h l held wanted (home s h l) (interface_number s wanted) refl refl (ap is_S_OK z);
}

none-answers : (s : Scenario) (h : List Entry) (l : ℕ) (d : Deed) → NoQuery d → QueryAnswers s h l d
none-answers s h l (deed.Query o i hr) p = absurd p
none-answers s h l _ p = tt

pub next-answers : (s : Scenario) (h : List Entry) (l : ℕ) (d : Deed) → next s h l ≡ Some d → QueryAnswers s h l d
next-answers s h l d e = source-queries (QueryAnswers s h l) s (sight s h) l d (none-answers s h l) (query-answers s h l) (next-source s h l d e)

pub legal-answers : (s : Scenario) (h : List Entry) → legal s h → EachEntry (QueryAnswers s) h
legal-answers s [] q = tt
legal-answers s (e ∷ h) q = (legal-answers s h q.0, next-answers s h e.lane e.deed q.1)

-- ---- refusals

refused-by : (s : Scenario) (h : List Entry) (l : ℕ) (r : RefValue) (wanted : Asked) (a b c : Bool) (hr : HResult) → owns s h r.object (number_or_zero (running s h l)) ≡ a → (books s h).live r.object ≡ b → offers s (class_of h r.object) (interface_number s wanted) ≡ c → hr ≡ tested a b c → is_S_OK hr ≡ false → Refusal s h l (Some r) wanted hr
refused-by s h l r wanted false false c hr p q t e z = severed r refl (p, q) e
refused-by s h l r wanted true b false hr p q t e z = lacking r refl (lacks-of s (class_of h r.object) (interface_number s wanted) t) e
refused-by s h l r wanted false true false hr p q t e z = lacking r refl (lacks-of s (class_of h r.object) (interface_number s wanted) t) e
refused-by s h l r wanted true b true hr p q t e z = absurd (true-false (sym (ap is_S_OK e) ∙ z))
refused-by s h l r wanted false true true hr p q t e z = absurd (true-false (sym (ap is_S_OK e) ∙ z))

refusal-of : (s : Scenario) (h : List Entry) (l : ℕ) (held : Option RefValue) (wanted : Asked) (x : Option ℕ) (hr : HResult) → home s h l ≡ x → hr ≡ query_answer s (sight s h) l x held (interface_number s wanted) → is_S_OK hr ≡ false → Refusal s h l held wanted hr
refusal-of s h l held wanted None hr p e z = uninitialised p e
refusal-of s h l None wanted (Some a) hr p e z = null refl e
refusal-of s h l (Some r) wanted (Some a) hr p e z = refused-by s h l r wanted (owns s h r.object (number_or_zero (running s h l))) ((books s h).live r.object) (offers s (class_of h r.object) (interface_number s wanted)) hr refl refl refl e z

pub same-query : (to too : ℕ) (held holding : Option RefValue) (i j : Asked) → Some (action.Query to held i) ≡ Some (action.Query too holding j) → (held ≡ holding) × (i ≡ j)
same-query to too held holding i j e = (first e, second e)
  where
    first : Some (action.Query to held i) ≡ Some (action.Query too holding j) → held ≡ holding
    first e = cc

    second : Some (action.Query to held i) ≡ Some (action.Query too holding j) → i ≡ j
    second e = cc

none-taken : (o : Option ℕ) (i : Asked) (hr : HResult) → is_S_OK hr ≡ false → taken_in (deed.Query o i hr) ≡ None
none-taken (Some o) (asked.Number i) hr e = ap (λ (b : Bool). cond b (Some (reference o i)) None) e
none-taken (Some o) (asked.Guid g) hr e = refl
none-taken None i hr e = refl

-- What is said of the query that acts is said of each that is known to act.
reasoned : (s : Scenario) (h : List Entry) (l : ℕ) (held holding : Option RefValue) (wanted want : Asked) → (held ≡ holding) × (wanted ≡ want) → is_S_OK (query_answer s (sight s h) l (home s h l) held (interface_number s wanted)) ≡ false → Refusal s h l holding want (query_answer s (sight s h) l (home s h l) held (interface_number s wanted))
reasoned s h l held holding wanted want p z =
    let hr : HResult = query_answer s (sight s h) l (home s h l) held (interface_number s wanted) in
    subst (λ (x : Option RefValue). Refusal s h l x want hr) p.0 (subst (λ (x : Asked). Refusal s h l held x hr) p.1 (refusal-of s h l held wanted (home s h l) hr refl refl z))

query-refused : (s : Scenario) (h : List Entry) (l to : ℕ) (held : Option RefValue) (wanted : Asked) → act s h l ≡ Some (action.Query to held wanted) → QueryRefused s h l (queried s (sight s h) l held wanted)
query-refused s h l to held wanted e = λ z. record {
  reason = λ too holding want u. reasoned s h l held holding wanted want (same-query to too held holding wanted want (sym e ∙ u)) z;
  nothing = none-taken (object_in held) (shown (interface_number s wanted) wanted) _ z;
}

none-refused : (s : Scenario) (h : List Entry) (l : ℕ) (d : Deed) → NoQuery d → QueryRefused s h l d
none-refused s h l (deed.Query o i hr) p = absurd p
none-refused s h l _ p = tt

pub next-refused : (s : Scenario) (h : List Entry) (l : ℕ) (d : Deed) → next s h l ≡ Some d → QueryRefused s h l d
next-refused s h l d e = source-queries (QueryRefused s h l) s (sight s h) l d (none-refused s h l) (query-refused s h l) (next-source s h l d e)

pub legal-refused : (s : Scenario) (h : List Entry) → legal s h → EachEntry (QueryRefused s) h
legal-refused s [] q = tt
legal-refused s (e ∷ h) q = (legal-refused s h q.0, next-refused s h e.lane e.deed q.1)
