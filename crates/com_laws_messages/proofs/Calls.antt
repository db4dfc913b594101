-- In every legal history within the limit the request of each marshalled call stands: it may be sent, and says what was sent.
use Rattle.std.proofs.Common.{subst, sym, ap, eqb-true, arith}
use Rattle.std.specs.Prelude.{◌≡◌, refl, ℕ, suc, ◌+◌, ◌*◌, ◌^◌, ◌<◌, ◌≤◌, Bool, true, false, cond, ◌==◌, List, [], ◌∷◌, length, Option, Some}
use Rattle.com_base.specs.declared.value.Kind.{Kind}
use Rattle.com_base.specs.declared.value.Value.{Value}
use Rattle.com_body.specs.declared.actions.Action.TheVariants as action
use Rattle.com_classes.specs.Lookups.{method_at}
use Rattle.com_model.specs.declared.deeds.Deed.{Deed}
use Rattle.com_model.specs.declared.deeds.Deed.TheVariants as deed
use Rattle.com_model.specs.declared.deeds.Entry.{Entry}
use Rattle.com_model.specs.declared.deeds.Route.{Route}
use Rattle.com_model.specs.declared.scenario.Scenario.{Scenario}
use Rattle.com_model.specs.Lists.{number_or_zero}
use Rattle.com_model.specs.Tables.{parameters}
use Rattle.com_model.specs.Apartments.{running}
use Rattle.com_model.specs.Calls.{issues, issue_or, issue, route_of, cause_of, is_marshalled}
use Rattle.com_model.specs.declared.keeps.Issue.{Issue}
use Rattle.com_model.specs.Values.{sent_values}
use Rattle.com_model.specs.Frames.{scene}
use Rattle.com_model.specs.Endings.{ending, is_leave}
use Rattle.com_model.specs.Places.{ground}
use Rattle.com_model.specs.Books.{books}
use Rattle.com_model.specs.Formed.{Formed}
use Rattle.com_model.specs.Issue.{own_values, values_or, sent}
use Rattle.com_model.specs.Sight.{sight}
use Rattle.com_model.specs.Deeds.{next_cause}
use Rattle.com_model.specs.Rules.{legal}
use Rattle.com_laws_safety.proofs.Small.{same-number}
use Rattle.com_laws_ranges.proofs.Numbers.{books-few, out-few}
use Rattle.com_print_scenario.specs.Ranges.{FitsTypes}
use Rattle.com_laws_messages.specs.Messages.{requests, message_or, request, parameters_of}
use Rattle.com_laws_messages.proofs.Outs.{OutGives, out-gives}
use Rattle.com_laws_messages.proofs.Carrying.{Carries, legal-carries}
use Rattle.com_laws_messages.proofs.Requests.{Stands, Standing, new-standing, stands-later, old-arguments}
use Rattle.com_laws_messages.proofs.Fields.{held-few}
use Rattle.com_laws_messages.proofs.Literals.{scenario-clean, iids-fit}
use Rattle.com_laws_messages.proofs.Fitting.{RefsFit, fields-fit, sent-fit, named-fits, cause-fits}

-- ---- a call as it is issued

as-many-values : (b : Bool) (live : ℕ → Bool) (ks : List Kind) (vs : List Value) → length (sent_values b live ks vs) ≡ length ks
as-many-values b live [] vs = refl
as-many-values b live (k ∷ ks) [] = ap suc (as-many-values b live ks [])
as-many-values b live (k ∷ ks) (v ∷ vs) = ap suc (as-many-values b live ks vs)

pub few-packets : (s : Scenario) (h : List Entry) → Formed s → length h ≤ 1_000_000 → length (books s h).packets + 5 ≤ 2 ^ 64
few-packets s h f n = let p : length (books s h).packets ≤ 4 * length h = (books-few s h f).packets in omega (arith, p, n)

pub carried-so : (s : Scenario) (h : List Entry) → Formed s → FitsTypes s → legal s h → length h ≤ 1_000_000 → Carries s h
carried-so s h f t q n = legal-carries s h 1_000_000 (scenario-clean s f t) (λ j. (books-few s j f).cookies) n (omega arith) q

pub issued-stands : (s : Scenario) (h : List Entry) (l c : ℕ) (o : Option ℕ) (i m : ℕ) (r : Route) (k : ℕ) (bytes : Option (List ℕ)) → Formed s → FitsTypes s → legal s (record { lane = l; deed = deed.Out c o i m r k bytes } ∷ h) → length h + 1 ≤ 1_000_000 → is_marshalled r ≡ true
    → Stands s (record { lane = l; deed = deed.Out c o i m r k bytes } ∷ h) k (parameters (method_at s.classes i m)) bytes (sent s (record { lane = l; deed = deed.Out c o i m r k bytes } ∷ h) c) ((books s (record { lane = l; deed = deed.Out c o i m r k bytes } ∷ h)).arguments c)
issued-stands s h l c o i m r k bytes f t q n y =
    let j : List Entry = record { lane = l; deed = deed.Out c o i m r k bytes } ∷ h in
    let z : OutGives s (sight s h) l i m r k bytes = out-gives s h l c o i m r k bytes q.1 in
    let low : next_cause (sight s h) l < 2 ^ 32 = cause-fits s h l q.0 (omega (arith, n)) in
    let four : length (sent_values true (books s h).live (parameters (method_at s.classes i m)) z.args) ≤ 4 = out-few s f (books s h) true (Some (action.Call z.held i m z.args z.to)) in
    let many : length (sent_values true (books s h).live (parameters (method_at s.classes i m)) z.args) ≡ length (parameters (method_at s.classes i m)) = as-many-values true (books s h).live (parameters (method_at s.classes i m)) z.args in
    new-standing s h (20 * length h + 5) l c o i m r k bytes (held-few s h f q.0) (omega (arith, z.cause, low)) (omega (arith, four, many)) (few-packets s h f (omega (arith, n)))
    (λ rs new e are. fields-fit s (sight s h) (20 * length h + 5) _ new rs (iids-fit s f t) (named-fits s h f q.0 (omega (arith, n))) (omega (arith, n)) (subst RefsFit e (sent-fit s j c f q (omega (arith, n)))) are)
    ((carried-so s j f t q (omega (arith, n))).sent c)
    z y

-- ---- a call that was issued

own-standing : (s : Scenario) (h : List Entry) (l c : ℕ) (o : Option ℕ) (i m : ℕ) (r : Route) (k : ℕ) (bytes : Option (List ℕ)) → Formed s → FitsTypes s → legal s (record { lane = l; deed = deed.Out c o i m r k bytes } ∷ h) → length h + 1 ≤ 1_000_000 → is_marshalled r ≡ true
    → Standing s (record { lane = l; deed = deed.Out c o i m r k bytes } ∷ h) c
own-standing s h l c o i m r k bytes f t q n y =
    let e : Entry = record { lane = l; deed = deed.Out c o i m r k bytes } in
    let x : Issue = record { call = c; lane = l; object = o; iface = i; method = m; route = r; cause = k } in
    subst (λ (b : Bool). Stands s (e ∷ h) (cause_of (cond b (Some x) (issue h c))) (parameters_of s (cond b (Some x) (issue h c))) (cond b bytes (request h c)) (sent s (e ∷ h) c) ((books s (e ∷ h)).arguments c)) (sym (same-number c))
    (issued-stands s h l c o i m r k bytes f t q n y)

other-standing : (s : Scenario) (h : List Entry) (l c : ℕ) (d : Deed) → Formed s → legal s (record { lane = l; deed = d } ∷ h) → issue_or (issues l d) c (issue h c) ≡ issue h c → message_or (requests d) c (request h c) ≡ request h c → values_or s h (issues l d) c (sent s h c) ≡ sent s h c
    → ((k : ℕ) (o : Option ℕ) (i m : ℕ) (r : Route) (cause : ℕ) (bytes : Option (List ℕ)) → d ≡ deed.Out k o i m r cause bytes → (k == c) ≡ false)
    → Standing s h c → Standing s (record { lane = l; deed = d } ∷ h) c
other-standing s h l c d f q x y v other z =
    let e : Entry = record { lane = l; deed = d } in
    let ps : (books s (e ∷ h)).arguments c ≡ (books s h).arguments c = old-arguments s h l c d (ground s (e ∷ h)) (scene s (e ∷ h)) (λ j. is_leave (ending s h j)) (number_or_zero (running s h l)) other in
    subst (λ (i : Option Issue). Stands s (e ∷ h) (cause_of i) (parameters_of s i) (request (e ∷ h) c) (sent s (e ∷ h) c) ((books s (e ∷ h)).arguments c)) (sym x)
    (subst (λ (b : Option (List ℕ)). Stands s (e ∷ h) (cause_of (issue h c)) (parameters_of s (issue h c)) b (sent s (e ∷ h) c) ((books s (e ∷ h)).arguments c)) (sym y)
    (subst (λ (vs : List Value). Stands s (e ∷ h) (cause_of (issue h c)) (parameters_of s (issue h c)) (request h c) vs ((books s (e ∷ h)).arguments c)) (sym v)
    (subst (λ (ns : List ℕ). Stands s (e ∷ h) (cause_of (issue h c)) (parameters_of s (issue h c)) (request h c) (sent s h c) ns) (sym ps)
    (stands-later s h e (cause_of (issue h c)) (parameters_of s (issue h c)) (request h c) (sent s h c) ((books s h).arguments c) f q z))))

same-out : (k c n : ℕ) (o p : Option ℕ) (i m j y : ℕ) (r t : Route) (x z : ℕ) (a b : Option (List ℕ)) → (k == c) ≡ false → deed.Out k o i m r x a ≡ deed.Out n p j y t z b → (n == c) ≡ false
same-out k c n o p i m j y r t x z a b e d = let w : k ≡ n = cc in subst (λ (u : ℕ). (u == c) ≡ false) w e

standing-step : (s : Scenario) (h : List Entry) (l c : ℕ) (d : Deed) → Formed s → FitsTypes s → legal s (record { lane = l; deed = d } ∷ h) → length h + 1 ≤ 1_000_000 → (is_marshalled (route_of (issue h c)) ≡ true → Standing s h c) → is_marshalled (route_of (issue_or (issues l d) c (issue h c))) ≡ true → Standing s (record { lane = l; deed = d } ∷ h) c
standing-step s h l c (deed.Out k o i m r x bytes) f t q n z y =
    let w : Issue = record { call = k; lane = l; object = o; iface = i; method = m; route = r; cause = x } in
    elim (k == c) as (λ b. (k == c) ≡ b → is_marshalled (route_of (cond b (Some w) (issue h c))) ≡ true → Standing s (record { lane = l; deed = deed.Out k o i m r x bytes } ∷ h) c) [
      | true ↦ λ e u. subst (λ (a : ℕ). Standing s (record { lane = l; deed = deed.Out k o i m r x bytes } ∷ h) a) (eqb-true k c e) (own-standing s h l k o i m r x bytes f t q n u)
      | false ↦ λ e u. other-standing s h l c (deed.Out k o i m r x bytes) f q (ap (λ (b : Bool). cond b (Some w) (issue h c)) e) (ap (λ (b : Bool). cond b bytes (request h c)) e) (ap (λ (b : Bool). own_values s h w b (sent s h c)) e)
          (λ a p j g v b xs d. same-out k c a o p i m j g r v x b bytes xs e d) (z u)
    ] refl y
standing-step s h l c d f t q n z y = other-standing s h l c d f q refl refl refl (λ a p j g v b xs e. cc) (z y)

pub standing : (s : Scenario) (h : List Entry) (c : ℕ) → Formed s → FitsTypes s → legal s h → length h ≤ 1_000_000 → is_marshalled (route_of (issue h c)) ≡ true → Standing s h c
standing s [] c f t q n y = cc
standing s (e ∷ h) c f t q n y = standing-step s h e.lane c e.deed f t q (omega (arith, n)) (λ u. standing s h c f t q.0 (omega (arith, n)) u) y
