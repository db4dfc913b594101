-- Each entry of the body of `fire` goes where the sentence says, in every legal history of a formed scenario.
use Rattle.std.proofs.Common.{refl, sym, ap, subst, ◌∙◌, inl, inr, eqb-true, arith}
use Rattle.std.proofs.lemmas.Bool.{false_from_ne_true}
use Rattle.std.proofs.lemmas.Grind.{common_steps}
use Rattle.std.specs.Prelude.{◌≡◌, ℕ, zero, suc, ◌+◌, ◌≤◌, ◌<◌, ◌^◌, pos, Bool, true, false, cond, ◌==◌, List, [], ◌∷◌, length, Option, Some, None, option_map}
use Rattle.com_base.specs.declared.hresult.HResult.{HResult}
use Rattle.com_base.specs.declared.value.RefValue.{RefValue}
use Rattle.com_base.specs.declared.value.Value.{Value}
use Rattle.com_classes.specs.Lookups.{class_at}
use Rattle.com_model.specs.declared.deeds.Deed.{Deed}
use Rattle.com_model.specs.declared.deeds.Deed.TheVariants as deed
use Rattle.com_model.specs.declared.deeds.Entry.{Entry}
use Rattle.com_model.specs.declared.deeds.Route.{Route}
use Rattle.com_model.specs.declared.scenario.Scenario.{Scenario}
use Rattle.com_model.specs.declared.keeps.Issue.{Issue}
use Rattle.com_model.specs.declared.keeps.Making.{Making as Made}
use Rattle.com_model.specs.declared.keeps.Opener.{Opener}
use Rattle.com_model.specs.declared.keeps.Opener.TheVariants.{Enters}
use Rattle.com_model.specs.Answers.{is_S_OK}
use Rattle.com_model.specs.Lists.{is_number, number_or_zero, where_true}
use Rattle.com_model.specs.Tables.{lane_sort}
use Rattle.com_model.specs.Openers.{effect_on, openers}
use Rattle.com_model.specs.Apartments.{is_sta, ends_sta, next_sta}
use Rattle.com_model.specs.Objects.{objects, makes, made_or, one_more, making, named, class_of, finals, asked_number}
use Rattle.com_model.specs.Calls.{issue, target, admitted}
use Rattle.com_body.specs.Operands.{new_cells}
use Rattle.com_model.specs.Frames.{scene, actor_in}
use Rattle.com_model.specs.Formed.{Formed}
use Rattle.com_model.specs.Rules.{legal}
use Rattle.com_model.specs.Safe.{EachEntry}
use Rattle.com_model.proofs.Fines.{FineBy}
use Rattle.com_model.proofs.Kept.{legal-kept, more-objects}
use Rattle.com_model.proofs.Scenes.{faces}
use Rattle.com_laws_balance.proofs.Answered.{TopEnter, top-enter, leave-top}
use Rattle.com_laws_balance.proofs.Bases.{actor-is, top-among, open-made}
use Rattle.com_laws_balance.proofs.Counts.{Among}
use Rattle.com_laws_balance.proofs.Makings.{fine-next, same-class}
use Rattle.com_laws_balance.proofs.Stacks.{among-after, opens-enter}
use Rattle.com_laws_balance.proofs.Steps.{made-or-new}
use Rattle.com_laws_balance.proofs.Tests.{enter-fresh}
use Rattle.com_laws_safety.proofs.Small.{not-both}
use Rattle.com_laws_sources.specs.Bodies.{ok}
use Rattle.com_laws_sources.specs.Deliveries.{Held, InOrder, NonePassed, AllGot, TakesNext}
use Rattle.com_laws_sources.specs.Histories.{is_on, change, Change, Stays, sinks, taken, at_enter, last, reached, sends, with_next, visited, next_sink, GoesTo, IsOver, Delivers, Delivered}
use Rattle.com_laws_sources.specs.Kept.{Rising}
use Rattle.com_laws_sources.specs.Rounds.{number}
use Rattle.com_laws_sources.specs.Sinks.{Sink, first_between}
use Rattle.com_laws_sources.specs.Sources.{IsSource, advise, unadvise, fire}
use Rattle.com_laws_sources.specs.Steps.{acts_on, result_of}
use Rattle.com_laws_sources.proofs.Acts.{Plain, plain-is, FireCase, fire_goes, fire_sends, fire_ends}
use Rattle.com_laws_sources.proofs.Advised.{fresh-keeps}
use Rattle.com_laws_sources.proofs.Around.{over-open, sinks-same, taken-same}
use Rattle.com_laws_sources.proofs.Between.{nothing-left, rising-next}
use Rattle.com_laws_sources.proofs.Called.{open-target, on-object, Issued, issued-on}
use Rattle.com_laws_sources.proofs.Fitting.{among-in}
use Rattle.com_laws_sources.proofs.Lists.{between-is}
use Rattle.com_laws_sources.proofs.Living.{enter-made}
use Rattle.com_laws_sources.proofs.Passing.{Around, OnFire, on-fire, none-visited}
use Rattle.com_laws_sources.proofs.Sitting.{ChangeBy, leaving-stays, result-is}
use Rattle.com_laws_sources.proofs.Stepped.{cells-stay}
use Rattle.com_laws_sources.proofs.Stepping.{acting-fire, after-entry}
use Rattle.com_laws_sources.proofs.Told.{Due, Told, keeps-same}

-- ---- objects that are not made yet

later-made : (n k o : ℕ) → k ≡ n + 1 → n + 2 ≤ o → (k == o) ≡ false
later-made n k o e p = false_from_ne_true (k == o) (λ t. beyond (eqb-true k o t))
  where
    beyond : k ≡ o → ⊥
    beyond z = omega (arith, z, e, p)

unmade-step : (n m b o : ℕ) (d : Deed) (x : Option Made) → FineBy n m b d → one_more (makes d) n + 1 ≤ o → x ≡ None → made_or (makes d) o x ≡ None
unmade-step n m b o (deed.Made (Some k) (Some a) c i hr) x f h p =
    ap (λ (t : Bool). cond t (Some (record { object = k; apartment = a; class = asked_number c })) x) (later-made n k o f.0 (two h)) ∙ p
  where
    two : n + 1 + 1 ≤ o → n + 2 ≤ o
    two w = omega (arith, w)
unmade-step n m b o (deed.Made (Some k) None c i hr) x f h p = p
unmade-step n m b o (deed.Made None a c i hr) x f h p = p
unmade-step n m b o _ x f h p = p

unmade : (s : Scenario) (h : List Entry) (o : ℕ) → Formed s → legal s h → objects h + 1 ≤ o → making h o ≡ None
unmade s [] o f q p = refl
unmade s (e ∷ h) o f q p =
    let more : objects h ≤ objects (e ∷ h) = more-objects (makes e.deed) (objects h) in
    unmade-step (objects h) (faces s) (next_sta h) o e.deed (making h o) (fine-next s h e f q) p (unmade s h o f q.0 (omega (arith, more, p)))

no-class : (s : Scenario) (k i : ℕ) → k ≡ 0 → IsSource s k i → ⊥
no-class s k i e p = nothing (subst (λ (n : ℕ). class_at s.classes n ≡ Some p.declaration) e p.there)
  where
    nothing : None ≡ Some p.declaration → ⊥
    nothing e = cc

source-made : (s : Scenario) (h : List Entry) (o i : ℕ) → Formed s → legal s h → IsSource s (class_of h o) i → o ≤ objects h
source-made s h o i f q p =
    elim (made-or-new (objects h) o) as (λ _. o ≤ objects h) [
      | inl w ↦ w
      | inr w ↦ absurd (no-class s (class_of h o) i (ap (λ (x : Option Made). number_or_zero (option_map (λ (m : Made). m.class) x)) (unmade s h o f q w)) p)
    ]

unmade-stays : (s : Scenario) (h : List Entry) (o i : ℕ) (d : Deed) → Formed s → legal s h → objects h + 1 ≤ o → change h o i d ≡ Stays
unmade-stays s h o i (deed.Leave c hr v bytes) f q p = leaving-stays h o i c (is_S_OK hr) v (off advise) (off unadvise)
  where
    high : target h c ≡ o → target h c ≤ objects h → ⊥
    high e k = omega (arith, e, k, p)

    off : (m : ℕ) → is_on (issue h c) o i m ≡ false
    off m = false_from_ne_true (is_on (issue h c) o i m) (λ t. high (on-object (issue h c) o i m t) ((legal-kept s h f q).targets c))
unmade-stays s h o i _ f q p = refl

unmade-sinks : (s : Scenario) (h : List Entry) (o i : ℕ) → Formed s → legal s h → objects h + 1 ≤ o → (sinks h o i ≡ []) × (taken h o i ≡ 0)
unmade-sinks s [] o i f q p = (refl, refl)
unmade-sinks s (e ∷ h) o i f q p =
    let more : objects h ≤ objects (e ∷ h) = more-objects (makes e.deed) (objects h) in
    let low : objects h + 1 ≤ o = omega (arith, more, p) in
    let z : (sinks h o i ≡ []) × (taken h o i ≡ 0) = unmade-sinks s h o i f q.0 low in
    let x : change h o i e.deed ≡ Stays = unmade-stays s h o i e.deed f q.0 low in
    (sinks-same h e o i x ∙ z.0, taken-same h e o i x ∙ z.1)

-- ---- a new object

new-open : (s : Scenario) (h : List Entry) (e : Entry) (l c o a : ℕ) → Formed s → legal s (e ∷ h) → objects h + 1 ≤ o → Among (Enters c o a) (openers (e ∷ h) l) → ⊥
new-open s h e l c o a f q p m =
    elim (among-after c o a (effect_on l e) (openers h l) m) as (λ _. ⊥) [
      | inl j ↦ high (open-made s h f q.0 l c o a j)
      | inr j ↦ high (enter-made s h e c o a f q (opens-enter l c o a e j).1)
    ]
  where
    high : o ≤ objects h → ⊥
    high k = omega (arith, k, p)

quiet-new : (s : Scenario) (h : List Entry) (l o : ℕ) → Formed s → legal s h → objects h + 1 ≤ o → acts_on (actor_in s h l) o ≡ false
quiet-new s h l o f q p =
    actor-is (λ y. acts_on y o ≡ false) (lane_sort s l) l (openers h l)
    (λ k x b rest r. false_from_ne_true (o == x) (λ t. high x (eqb-true o x t) (open-made s h f q l k x b (top-among k x b (openers h l) rest r))))
    (λ r. refl) refl
  where
    high : (x : ℕ) → o ≡ x → x ≤ objects h → ⊥
    high x e k = omega (arith, e, k, p)

new-final : (n m b o : ℕ) (d : Deed) → FineBy n m b d → n + 1 ≤ o → is_number o (finals d) ≡ false
new-final n m b o (deed.Final k) f p = false_from_ne_true (o == k) (λ t. high (eqb-true o k t) f)
  where
    high : o ≡ k → k ≤ n → ⊥
    high e w = omega (arith, e, w, p)
new-final n m b o _ f p = refl

not-ended : (a : ℕ) (d : Deed) → a ≡ 0 → is_number a (ends_sta d) ≡ false
not-ended a (deed.Uninit (Some b) zero) e =
    elim (is_sta b) as (λ t. is_sta b ≡ t → is_number a (where_true t b) ≡ false) [
      | true ↦ λ t. false_from_ne_true (a == b) (λ z. not-both (is_sta b) t (ap is_sta (sym (eqb-true a b z) ∙ e)))
      | false ↦ λ t. refl
    ] refl
not-ended a (deed.Uninit (Some b) (suc k)) e = refl
not-ended a (deed.Uninit None k) e = refl
not-ended a _ e = refl

new-told : (s : Scenario) (h : List Entry) (e : Entry) (o i : ℕ) → Formed s → legal s (e ∷ h) → objects h + 1 ≤ o → Told s (e ∷ h) o i
new-told s h e o i f q p =
    let z : (sinks h o i ≡ []) × (taken h o i ≡ 0) = unmade-sinks s h o i f q.0 p in
    let x : change h o i e.deed ≡ Stays = unmade-stays s h o i e.deed f q.0 p in
    let named-is : named h o ≡ 0 = ap (λ (y : Option Made). number_or_zero (option_map (λ (m : Made). m.apartment) y)) (unmade s h o f q.0 p) in
    let cells : (scene s (e ∷ h)).cells o ≡ new_cells =
    cells-stay s h e o (quiet-new s h e.lane o f q.0 p) (new-final (objects h) (faces s) (next_sta h) o e.deed (fine-next s h e f q) p) (not-ended (named h o) e.deed named-is)
    ∙ (legal-kept s h f q.0).scene.no_cells o p in record {
      rests = λ al nt. keeps-same new_cells ((scene s (e ∷ h)).cells o) [] (sinks (e ∷ h) o i) 0 (taken (e ∷ h) o i) cells (sinks-same h e o i x ∙ z.0) (taken-same h e o i x ∙ z.1) fresh-keeps;
      sits = λ l c a os r w. absurd (new-open s h e l c o a f q p (top-among c o a (openers (e ∷ h) l) os r));
      fires = λ l c a os r w. absurd (new-open s h e l c o a f q p (top-among c o a (openers (e ∷ h) l) os r));
      below = λ l d c a os v. absurd (new-open s h e l c o a f q p (over-open (e ∷ h) l d c o a os v));
      due = λ l c a m w. absurd (new-open s h e l c o a f q p m);
    }

-- ---- every history

abbrev AllTold : Scenario → List Entry → Type 0
AllTold s h = (o i : ℕ) → IsSource s (class_of h o) i → Told s h o i

longer : (e : Entry) (h : List Entry) → length (e ∷ h) ≡ length h + 1
longer e h = grind (arith, common_steps)

shorter : (e : Entry) (h : List Entry) → length (e ∷ h) < 2 ^ 63 → length h < 2 ^ 63
shorter e h b = omega (arith, b, longer e h)

around : (s : Scenario) (h : List Entry) (e : Entry) (o i : ℕ) → Formed s → legal s (e ∷ h) → length (e ∷ h) < 2 ^ 63 → AllTold s h → o ≤ objects h → IsSource s (class_of h o) i → Around s h e o i
around s h e o i f q b t made p = record {
  formed = f;
  lawful = q;
  short = shorter e h b;
  made = made;
  before = p;
  after = subst (λ (k : ℕ). IsSource s k i) (sym (same-class s h e o f q made)) p;
  told = t o i p;
}

all-told : (s : Scenario) (h : List Entry) → Formed s → legal s h → length h < 2 ^ 63 → AllTold s h
all-told s [] f q b o i p = absurd (no-class s 0 i refl p)
all-told s (e ∷ h) f q b o i p =
    elim (made-or-new (objects h) o) as (λ _. Told s (e ∷ h) o i) [
      | inl made ↦ (after-entry s h e o i (around s h e o i f q b (all-told s h f q.0 (shorter e h b)) made (subst (λ (k : ℕ). IsSource s k i) (same-class s h e o f q made) p))).told
      | inr new ↦ new-told s h e o i f q new
    ]

here : (s : Scenario) (h : List Entry) (e : Entry) (o i : ℕ) → Formed s → legal s (e ∷ h) → length (e ∷ h) < 2 ^ 63 → IsSource s (class_of h o) i → Around s h e o i
here s h e o i f q b p = around s h e o i f q b (all-told s h f q.0 (shorter e h b)) (source-made s h o i f q.0 p) p

-- ---- the sentence

delivers : (s : Scenario) (h : List Entry) (e : Entry) (o i c a : ℕ) (os : List Opener) (y : Issued h c o) → IsSource s (class_of h o) i → is_on (issue h c) o i fire ≡ true → FireCase s h e o i c y.of → Delivers h o i c e.deed
delivers s h e o i c a os y p on (fire_goes w) = plain-is (λ d. Delivers h o i c d) e.deed w.plain (λ x. tt) (λ x. tt)
delivers s h e o i c a os y p on (fire_sends w) =
    subst (λ (d : Deed). Delivers h o i c d) (sym w.out.is) (subst (λ (x : Option Sink). GoesTo x w.out.object 1 0) (sym w.next) (w.out.on, refl, refl))
delivers s h e o i c a os y p on (fire_ends w) =
    let z : OnFire y.of i = on-fire h o i c y on in
    subst (λ (d : Deed). Delivers h o i c d) (sym w.left.is)
    (subst (λ (x : Option Sink). IsOver x (length (visited h o i c)) ok (result_of s h y.of ok (Some (number (length (visited h o i c)))))) (sym w.none)
    (refl, result-is s h (class_of h o) i fire y.of (pos (length (visited h o i c))) p z.iface z.method refl))

-- The object of a call on top.
pub record TopOn (h : List Entry) (l c o : ℕ) : Type 0 where
  pub apartment : ℕ
  pub rest : List Opener
  pub is : openers h l ≡ Enters c o apartment ∷ rest

top-on : (s : Scenario) (h : List Entry) (l c o i m : ℕ) → legal s h → is_on (issue h c) o i m ≡ true → TopEnter (openers h l) c → TopOn h l c o
top-on s h l c o i m q on t =
    let z : t.object ≡ o = sym (open-target s h l c t.object t.apartment q (top-among c t.object t.apartment (openers h l) t.rest t.is)) ∙ on-object (issue h c) o i m on in
    record { apartment = t.apartment; rest = t.rest; is = t.is ∙ ap (λ (y : ℕ). Enters c y t.apartment ∷ t.rest) z }

fire-here : (s : Scenario) (h : List Entry) (e : Entry) (o i c : ℕ) → Formed s → legal s (e ∷ h) → length (e ∷ h) < 2 ^ 63 → IsSource s (class_of h o) i → is_on (issue h c) o i fire ≡ true → TopOn h e.lane c o → (y : Issued h c o) × FireCase s h e o i c y.of
fire-here s h e o i c f q b p on t =
    let y : Issued h c o = issued-on s h e.lane c o t.apartment i f q.0 p (top-among c o t.apartment (openers h e.lane) t.rest t.is) in
    (y, acting-fire s h e o i c t.apartment t.rest y (here s h e o i f q b p) t.is on)

pub legal-delivered : (s : Scenario) (h : List Entry) → Formed s → legal s h → length h < 2 ^ 63 → EachEntry (Delivered s) h
legal-delivered s [] f q b = tt
legal-delivered s (e ∷ h) f q b = (
  legal-delivered s h f q.0 (shorter e h b),
  λ o i c p on top.
      let t : TopOn h e.lane c o = top-on s h e.lane c o i fire q.0 on (top-enter (openers h e.lane) c top) in
      let z : (y : Issued h c o) × FireCase s h e o i c y.of = fire-here s h e o i c f q b p on t in
      delivers s h e o i c t.apartment t.rest z.0 p on z.1,
)

-- ---- what follows from it

pub legal-cookies : (s : Scenario) (h : List Entry) → Formed s → legal s h → length h < 2 ^ 63 → EachEntry (TakesNext s) h
legal-cookies s [] f q b = tt
legal-cookies s (e ∷ h) f q b = (
  legal-cookies s h f q.0 (shorter e h b),
  λ o i x p z.
      subst (λ (y : Change). ChangeBy y (taken h o i)) z (after-entry s h e o i (here s h e o i f q b p)).may,
)

none-in-order : (n : ℕ) (vs : List Sink) → vs ≡ [] → Rising 0 n vs
none-in-order n vs e = subst (λ (ws : List Sink). Rising 0 n ws) (sym e) (omega arith)

next-in-order : (l : ℕ) (vs xs : List Sink) (x : Option Sink) → first_between (reached vs) l xs ≡ x → Rising 0 l vs → Rising 0 l (with_next true x vs)
next-in-order l vs xs None e r = r
next-in-order l vs xs (Some to) e r =
    let b : (reached vs < to.cookie) × (to.cookie ≤ l) = between-is (reached vs) l xs to e in
    let b0 : reached vs < to.cookie = b.0 in
    rising-next 0 l vs to r (omega (arith, b0)) b0 b.1

seen-in-order : (l : ℕ) (vs xs : List Sink) (b : Bool) → Rising 0 l vs → Rising 0 l (with_next b (first_between (reached vs) l xs) vs)
seen-in-order l vs xs true r = next-in-order l vs xs (first_between (reached vs) l xs) refl r
seen-in-order l vs xs false r = r

order-step : (s : Scenario) (h : List Entry) (l o i c : ℕ) (d : Deed) → legal s (record { lane = l; deed = d } ∷ h) → Rising 0 (last h o i c) (visited h o i c)
    → Rising 0 (at_enter d c (taken h o i) (last h o i c)) (with_next (sends h l c d) (next_sink h o i c) (visited h o i c))
order-step s h l o i c (deed.Enter k x a t vs) q r =
    elim (k == c) as (λ b. (k == c) ≡ b → Rising 0 (cond b (taken h o i) (last h o i c)) (visited h o i c)) [
      | true ↦ λ z. none-in-order (taken h o i) (visited h o i c) (none-visited s h o i c q.0 (subst (λ (n : ℕ). admitted h n ≡ None) (eqb-true k c z) (enter-fresh s h l k x a (deed.Enter k x a t vs) q.1 refl)))
      | false ↦ λ z. r
    ] refl
order-step s h l o i c (deed.Out k x j m t cause bytes) q r = seen-in-order (last h o i c) (visited h o i c) (sinks h o i) (sends h l c (deed.Out k x j m t cause bytes)) r
order-step s h l o i c _ q r = r

pub legal-order : (s : Scenario) (h : List Entry) → legal s h → InOrder h
legal-order s [] q o i c = none-in-order 0 [] refl
legal-order s (e ∷ h) q o i c = order-step s h e.lane o i c e.deed q (legal-order s h q.0 o i c)

pub legal-turns : (s : Scenario) (h : List Entry) → Formed s → legal s h → length h < 2 ^ 63 → NonePassed s h
legal-turns s h f q b l c o a i x m ev k low =
    ((all-told s h f q b o i ev.source).due l c a (among-in (Enters c o a) (openers h l) m) ev.fires).got x k low

not-leave : (c : ℕ) (hr : HResult) (v : Option Value) (bytes : Option (List ℕ)) (d : Deed) → Plain d → d ≡ deed.Leave c hr v bytes → ⊥
not-leave c hr v bytes d p e = plain-is (λ x. x ≡ deed.Leave c hr v bytes → ⊥) d p (λ held. no-copy held) (λ held. no-release held) e
  where
    no-copy : (held : Option RefValue) → deed.Copy held ≡ deed.Leave c hr v bytes → ⊥
    no-copy held e = cc

    no-release : (held : Option RefValue) → deed.Release held ≡ deed.Leave c hr v bytes → ⊥
    no-release held e = cc

not-out : (c k : ℕ) (o : Option ℕ) (i m : ℕ) (r : Route) (cause : ℕ) (bs : Option (List ℕ)) (hr : HResult) (v : Option Value) (bytes : Option (List ℕ)) → deed.Out k o i m r cause bs ≡ deed.Leave c hr v bytes → ⊥
not-out c k o i m r cause bs hr v bytes e = cc

got-all : (s : Scenario) (h : List Entry) (e : Entry) (o i c : ℕ) (y : Issue) (x : Sink) (hr : HResult) (v : Option Value) (bytes : Option (List ℕ)) → e.deed ≡ deed.Leave c hr v bytes → Due h o i c → Held x (sinks h o i) → x.cookie ≤ last h o i c → FireCase s h e o i c y → Held x (visited h o i c)
got-all s h e o i c y x hr v bytes is d m low (fire_goes w) = absurd (not-leave c hr v bytes e.deed w.plain is)
got-all s h e o i c y x hr v bytes is d m low (fire_sends w) = absurd (not-out c w.out.call w.out.object 1 0 w.out.route w.out.cause w.out.bytes hr v bytes (sym w.out.is ∙ is))
got-all s h e o i c y x hr v bytes is d m low (fire_ends w) = d.got x m (nothing-left (reached (visited h o i c)) (last h o i c) (sinks h o i) x w.none m low)

all-got : (s : Scenario) (h : List Entry) (e : Entry) (d : Deed) → Formed s → legal s (e ∷ h) → length (e ∷ h) < 2 ^ 63 → e.deed ≡ d → AllGot s h e.lane d
all-got s h e (deed.Leave c hr v bytes) f q b is = λ o i x ev m low.
    let t : TopOn h e.lane c o = top-on s h e.lane c o i fire q.0 ev.fires (leave-top s h e.lane c e.deed hr v bytes q.1 is) in
    let z : (y : Issued h c o) × FireCase s h e o i c y.of = fire-here s h e o i c f q b ev.source ev.fires t in
    got-all s h e o i c z.0.of x hr v bytes is ((here s h e o i f q b ev.source).told.due e.lane c t.apartment (top-among c o t.apartment (openers h e.lane) t.rest t.is) ev.fires) m low z.1
all-got s h e _ f q b is = tt

pub legal-all : (s : Scenario) (h : List Entry) → Formed s → legal s h → length h < 2 ^ 63 → EachEntry (AllGot s) h
legal-all s [] f q b = tt
legal-all s (e ∷ h) f q b = (legal-all s h f q.0 (shorter e h b), all-got s h e e.deed f q b refl)
