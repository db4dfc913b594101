-- What an Out says that the rules give to its lane: the causality and the bytes of the call that its lane makes.
use Rattle.std.proofs.Common.{subst, sym, ap, ◌∙◌}
use Rattle.std.specs.Prelude.{◌≡◌, ℕ, Bool, true, ◌==◌, List, ◌∷◌, Option, Some, None, option_map}
use Rattle.com_base.specs.declared.hresult.HResult.{HResult}
use Rattle.com_base.specs.declared.value.RefValue.{RefValue}
use Rattle.com_base.specs.declared.value.Value.{Value}
use Rattle.com_body.specs.declared.operands.Destination.{Destination}
use Rattle.com_body.specs.declared.actions.Action.{Action}
use Rattle.com_body.specs.declared.actions.Action.TheVariants as action
use Rattle.com_classes.specs.Lookups.{method_at}
use Rattle.com_model.specs.declared.deeds.Deed.{Deed}
use Rattle.com_model.specs.declared.deeds.Deed.TheVariants as deed
use Rattle.com_model.specs.declared.deeds.Entry.{Entry}
use Rattle.com_model.specs.declared.deeds.Route.{Route}
use Rattle.com_model.specs.declared.deeds.Route.TheVariants as route
use Rattle.com_model.specs.declared.scenario.Scenario.{Scenario}
use Rattle.com_model.specs.Tables.{parameters}
use Rattle.com_model.specs.Calls.{is_marshalled}
use Rattle.com_model.specs.declared.keeps.Issue.{Issue}
use Rattle.com_model.specs.Values.{sent_values}
use Rattle.com_model.specs.Books.{books, out_values}
use Rattle.com_model.specs.Issue.{call_refusal, own_values, sent}
use Rattle.com_model.specs.Sight.{Sight, sight}
use Rattle.com_model.specs.Deeds.{deed_of, uninitialised, next_cause, out_bytes, out_on, called}
use Rattle.com_model.specs.Rules.{packet_left, after_script, next}
use Rattle.com_model.proofs.Given.{cond-of}
use Rattle.com_laws_safety.proofs.Small.{same-number}
use Rattle.com_laws_safety.proofs.Sources.{Source, by_body, by_script, by_end, by_final, by_own, by_answer, by_inbox, by_retry, by_again, by_rest, next-source}
use Rattle.com_laws_safety.proofs.Facts.{IsRuled, admission-ruled, answered-ruled, rest-ruled}
use Rattle.com_laws_balance.proofs.Says.{OutSays, next-says}

-- ---- an Out is made by the action of its lane

abbrev ByAction : Scenario → Sight → ℕ → Deed → Type 0
ByAction s v l (deed.Out c o i m r k bytes) = option_map (deed_of s v l) (v.act l) ≡ Some (deed.Out c o i m r k bytes)
ByAction s v l _ = Unit {0}

acted : (s : Scenario) (v : Sight) (l : ℕ) (d : Deed) → option_map (deed_of s v l) (v.act l) ≡ Some d → ByAction s v l d
acted s v l (deed.Out c o i m r k bytes) e = e
acted s v l _ e = tt

acts : (s : Scenario) (v : Sight) (l : ℕ) (x : Action) (d : Deed) → v.act l ≡ Some x → deed_of s v l x ≡ d → ByAction s v l d
acts s v l x d p e = acted s v l d (subst (λ (y : Deed). option_map (deed_of s v l) (v.act l) ≡ Some y) e (ap (option_map (deed_of s v l)) p))

ruled : (s : Scenario) (v : Sight) (l : ℕ) (d : Deed) → IsRuled d → ByAction s v l d
ruled s v l (deed.Out c o i m r k bytes) p = absurd p
ruled s v l _ p = tt

ended : (s : Scenario) (v : Sight) (l : ℕ) → ByAction s v l (after_script v l)
ended s v l = cond-of (ByAction s v l) (v.count l == 0) deed.End (uninitialised v l) tt tt

by-source : (s : Scenario) (v : Sight) (l : ℕ) (d : Deed) → Source s v l d → ByAction s v l d
by-source s v l d (by_body c o a os x p q e) = acts s v l x d q e
by-source s v l d (by_script x p t q e) = acts s v l x d q e
by-source s v l d (by_end p t e) = subst (ByAction s v l) e (ended s v l)
by-source s v l d (by_final o p e) = subst (ByAction s v l) e tt
by-source s v l d (by_own c p q e) = ruled s v l d (subst IsRuled e (admission-ruled s v l c))
by-source s v l d (by_answer c x p q e) = ruled s v l d (subst IsRuled e (answered-ruled v c x (packet_left v c)))
by-source s v l d (by_inbox c p q e) = ruled s v l d (subst IsRuled e (admission-ruled s v l c))
by-source s v l d (by_retry c n x q e) = subst (ByAction s v l) e tt
by-source s v l d (by_again c t q e) = subst (ByAction s v l) e tt
by-source s v l d (by_rest p) = ruled s v l d (rest-ruled d p)

-- ---- what it says

pub record OutGives (s : Scenario) (v : Sight) (l i m : ℕ) (r : Route) (k : ℕ) (bytes : Option (List ℕ)) : Type 0 where
  pub held : Option RefValue
  pub args : List Value
  pub to : Destination
  pub acts : v.act l ≡ Some (action.Call held i m args to)
  pub cause : k ≡ next_cause v l
  pub spelled : bytes ≡ out_bytes s v l r k (sent_values true v.books.live (parameters (method_at s.classes i m)) args)

abbrev SaidBy : Scenario → Sight → ℕ → (i m : ℕ) → List Value → Route → ℕ → Option (List ℕ) → Type 0
SaidBy s v l i m args r k bytes = (k ≡ next_cause v l) × (bytes ≡ out_bytes s v l r k (sent_values true v.books.live (parameters (method_at s.classes i m)) args))

same-route : (c o' : ℕ) (p q : Option ℕ) (i m j n : ℕ) (r t : Route) (k x : ℕ) (a b : Option (List ℕ)) → Some (deed.Out c p i m r k a) ≡ Some (deed.Out o' q j n t x b) → (r ≡ t) × (k ≡ x) × (a ≡ b)
same-route c o' p q i m j n r t k x a b e = (cc, cc, cc)

on-route : (s : Scenario) (v : Sight) (l : ℕ) (held : Option RefValue) (i m : ℕ) (args : List Value) (t : Route) (c : ℕ) (o : Option ℕ) (r : Route) (k : ℕ) (bytes : Option (List ℕ)) → Some (out_on s v l held i m args t) ≡ Some (deed.Out c o i m r k bytes) → SaidBy s v l i m args r k bytes
on-route s v l held i m args t c o r k bytes e =
    let vs : List Value = sent_values true v.books.live (parameters (method_at s.classes i m)) args in
    let z : (t ≡ r) × (next_cause v l ≡ k) × (out_bytes s v l t (next_cause v l) vs ≡ bytes) = same-route _ _ _ _ _ _ _ _ _ _ _ _ _ _ e in
    (sym z.1, sym z.2 ∙ ap (λ (x : Route). out_bytes s v l x (next_cause v l) vs) z.0 ∙ ap (λ (x : ℕ). out_bytes s v l r x vs) z.1)

said : (s : Scenario) (v : Sight) (l : ℕ) (held : Option RefValue) (i m : ℕ) (args : List Value) (x : Option HResult) (c : ℕ) (o : Option ℕ) (r : Route) (k : ℕ) (bytes : Option (List ℕ)) → Some (called s v l held i m args x) ≡ Some (deed.Out c o i m r k bytes) → SaidBy s v l i m args r k bytes
said s v l held i m args (Some hr) c o r k bytes e = on-route s v l held i m args route.Refused c o r k bytes e
said s v l held i m args None c o r k bytes e = on-route s v l held i m args _ c o r k bytes e

pub out-gives : (s : Scenario) (h : List Entry) (l c : ℕ) (o : Option ℕ) (i m : ℕ) (r : Route) (k : ℕ) (bytes : Option (List ℕ)) → next s h l ≡ Some (deed.Out c o i m r k bytes) → OutGives s (sight s h) l i m r k bytes
out-gives s h l c o i m r k bytes e =
    let v : Sight = sight s h in
    let z : OutSays s v l i m o r bytes = next-says s h l (deed.Out c o i m r k bytes) e in
    let a : option_map (deed_of s v l) (v.act l) ≡ Some (deed.Out c o i m r k bytes) = by-source s v l (deed.Out c o i m r k bytes) (next-source s h l (deed.Out c o i m r k bytes) e) in
    let y : SaidBy s v l i m z.args r k bytes = said s v l z.held i m z.args (call_refusal s (v.home l) (v.running l) v.owns v.books.live z.held i m) c o r k bytes
    (subst (λ (x : Option Action). option_map (deed_of s v l) x ≡ Some (deed.Out c o i m r k bytes)) z.acts a) in
    record { held = z.held; args = z.args; to = z.to; acts = z.acts; cause = y.0; spelled = y.1 }

-- ---- the values that were sent

pub sent-own : (s : Scenario) (h : List Entry) (l c : ℕ) (o : Option ℕ) (i m : ℕ) (r : Route) (k : ℕ) (bytes : Option (List ℕ)) (z : OutGives s (sight s h) l i m r k bytes) → is_marshalled r ≡ true
    → sent s (record { lane = l; deed = deed.Out c o i m r k bytes } ∷ h) c ≡ sent_values true (books s h).live (parameters (method_at s.classes i m)) z.args
sent-own s h l c o i m r k bytes z t =
    let y : Issue = record { call = c; lane = l; object = o; iface = i; method = m; route = r; cause = k } in
    ap (λ (b : Bool). own_values s h y b (sent s h c)) (same-number c)
    ∙ ap (λ (x : Option Action). out_values s (books s h) (is_marshalled r) x) z.acts
    ∙ ap (λ (b : Bool). sent_values b (books s h).live (parameters (method_at s.classes i m)) z.args) t
