-- A result that returns by a packet has one.
use Rattle.std.proofs.Common.{subst, sym, ap, ◌∙◌, inl, inr, eqb-true, arith}
use Rattle.std.proofs.lemmas.Bool.{false_from_ne_true}
use Rattle.std.proofs.lemmas.Grind.{common_steps}
use Rattle.std.specs.Prelude.{◌≡◌, refl, ℕ, suc, ◌+◌, ◌≤◌, Bool, true, false, cond, not, ◌==◌, ◌||◌, ◌&&◌, List, [], ◌∷◌, length, Option, Some, None, is_some}
use Rattle.com_base.specs.declared.hresult.HResult.{HResult}
use Rattle.com_base.specs.declared.value.RefValue.{RefValue}
use Rattle.com_base.specs.declared.value.Kind.{Kind}
use Rattle.com_base.specs.declared.value.Value.{Value}
use Rattle.com_base.specs.declared.value.Value.TheVariants as value
use Rattle.com_base.specs.Values.{as_kind}
use Rattle.com_body.specs.declared.actions.Action.{Action}
use Rattle.com_model.specs.declared.deeds.Deed.{Deed}
use Rattle.com_model.specs.declared.deeds.Deed.TheVariants as deed
use Rattle.com_model.specs.declared.deeds.Entry.{Entry}
use Rattle.com_model.specs.declared.scenario.Scenario.{Scenario}
use Rattle.com_model.specs.Answers.{is_failure}
use Rattle.com_model.specs.Lists.{or_else, is_number, number_or_zero}
use Rattle.com_model.specs.Apartments.{running}
use Rattle.com_model.specs.Objects.{named}
use Rattle.com_model.specs.Calls.{issue, leaves, leaving_or, left, returns, returned, calls, route_of, is_marshalled, target, admitted}
use Rattle.com_model.specs.declared.keeps.Issue.{Issue}
use Rattle.com_model.specs.declared.keeps.Leaving.{Leaving}
use Rattle.com_model.specs.Values.{if_live, sent_value, sent_result, given_or_default, carried, result_list}
use Rattle.com_model.specs.Frames.{Scene, scene, act, value_reference}
use Rattle.com_model.specs.Endings.{end_effect, ends, filtered, can_be_cut, ending, is_leave}
use Rattle.com_model.specs.declared.keeps.Ending.{Ending}
use Rattle.com_model.specs.declared.keeps.Ending.TheVariants.{ByLeave}
use Rattle.com_model.specs.Places.{Ground, ground}
use Rattle.com_refs_books.specs.Changes.{Books, packet, Change, ToProxy, ToPacket, Split, Join, Return, ToCookie, Withdraw, Same, changed, Row, change, marshal_all, entered_rows, made_since, first_of}
use Rattle.com_model.specs.Books.{rows, most, closed, books}
use Rattle.com_model.specs.Sight.{sight}
use Rattle.com_model.specs.Rules.{legal}
use Rattle.com_model.specs.Safe.{event, Stage, stage_after, stage, ComesOnce}
use Rattle.com_model.proofs.Onces.{legal-once}
use Rattle.com_model.proofs.Comes.{next-comes}
use Rattle.com_laws_balance.proofs.Packets.{Of, Grown, grown-of, OneMade, marshals-one}
use Rattle.com_laws_balance.proofs.Results.{kind_of, NotLeft, ends-is, either-ending, not-left, out-number, same-issue, leave-issue}
use Rattle.com_laws_balance.proofs.Sendings.{entry-grown, end-grown}
use Rattle.com_laws_balance.proofs.Says.{Says, LeaveSays, next-says}

-- ---- a call leaves once

or-none : (p q : Bool) → (p || q) ≡ false → (p ≡ false) × (q ≡ false)
or-none true q e = cc
or-none false q e = (refl, e)

stage-left-step : (d : Deed) (c : ℕ) (t : Stage) (x : Option Leaving) → (t.leave ≡ false → x ≡ None) → (stage_after (event d) c t).leave ≡ false → leaving_or (leaves d) c x ≡ None
stage-left-step (deed.Leave k hr v bytes) c t x f e =
    let p : ((k == c) ≡ false) × (t.leave ≡ false) = or-none (k == c) t.leave e in
    ap (λ (b : Bool). cond b (Some (record { call = k; hr = hr; value = v })) x) p.0 ∙ f p.1
stage-left-step (deed.Out k o i m r cause bytes) c t x f e = f e
stage-left-step (deed.Enter k o a z vs) c t x f e = f e
stage-left-step (deed.Back k hr v) c t x f e = f e
stage-left-step _ c t x f e = f e

stage-left : (h : List Entry) (c : ℕ) → (stage h c).leave ≡ false → left h c ≡ None
stage-left [] c e = refl
stage-left (e ∷ h) c p = stage-left-step e.deed c (stage h c) (left h c) (stage-left h c) p

left-none : (d : Deed) (c : ℕ) (x : Option Leaving) → leaving_or (leaves d) c x ≡ None → (x ≡ None) × ((k : ℕ) (hr : HResult) (v : Option Value) (bytes : Option (List ℕ)) → d ≡ deed.Leave k hr v bytes → k ≡ c → ⊥)
left-none (deed.Leave k hr v bytes) c x e =
    elim (k == c) as (λ t. (k == c) ≡ t → cond t (Some (record { call = k; hr = hr; value = v })) x ≡ None → (x ≡ None) × ((j : ℕ) (g : HResult) (w : Option Value) (y : Option (List ℕ)) → deed.Leave k hr v bytes ≡ deed.Leave j g w y → j ≡ c → ⊥)) [
      | true ↦ λ z q. cc
      | false ↦ λ z q. (q, λ j g w y p r. not-both (k == c) z (subst (λ (n : ℕ). (n == c) ≡ true) (sym (call-of j g w y p ∙ r)) (same-number c)))
    ] refl e
  where
    not-both : (b : Bool) → b ≡ false → b ≡ true → ⊥
    not-both b p q = cc

    same-number : (n : ℕ) → (n == n) ≡ true
    same-number n = grind (arith, common_steps)

    call-of : (j : ℕ) (g : HResult) (w : Option Value) (y : Option (List ℕ)) → deed.Leave k hr v bytes ≡ deed.Leave j g w y → k ≡ j
    call-of j g w y p = cc
left-none d c x e = (e, λ k hr v bytes p q. cc)

-- A call that has not left was not ended by a Leave.
pub left-not-left : (s : Scenario) (h : List Entry) (c : ℕ) → left h c ≡ None → NotLeft (ending s h c)
left-not-left s [] c e = tt
left-not-left s (e ∷ h) c p =
    let q : (left h c ≡ None) × ((k : ℕ) (hr : HResult) (v : Option Value) (bytes : Option (List ℕ)) → e.deed ≡ deed.Leave k hr v bytes → k ≡ c → ⊥) = left-none e.deed c (left h c) p in
    either-ending NotLeft (ending s h c) _ (left-not-left s h c q.0)
    (ends-is (λ _ x. NotLeft x) (filtered s h) e.deed c (target h c) (named h (target h c)) (can_be_cut (issue h c) (admitted h c)) (λ x z. z) (λ k hr v bytes d z. q.1 k hr v bytes d z))

-- ---- a call that returned has an answer

pub or-some : (x y : Option Ending) → is_some x ≡ true → is_some (or_else x y) ≡ true
or-some None y e = cc
or-some (Some z) y e = refl

return-step : (s : Scenario) (h : List Entry) (l c : ℕ) (d : Deed) → Says s (sight s h) l d → (returned h c ≡ true → is_some (ending s h c) ≡ true) → (is_number c (returns d) || returned h c) ≡ true → is_some (ending s h c) ≡ true
return-step s h l c (deed.Back k hr v) z f e =
    elim (c == k) as (λ t. (c == k) ≡ t → (t || returned h c) ≡ true → is_some (ending s h c) ≡ true) [
      | true ↦ λ p q. subst (λ (n : ℕ). is_some (ending s h n) ≡ true) (sym (eqb-true c k p)) z.0
      | false ↦ λ p q. f q
    ] refl e
return-step s h l c _ z f e = f e

returned-ended : (s : Scenario) (h : List Entry) (c : ℕ) → legal s h → returned h c ≡ true → is_some (ending s h c) ≡ true
returned-ended s [] c q e = cc
returned-ended s (e ∷ h) c q p = or-some (ending s h c) _ (return-step s h e.lane c e.deed (next-says s h e.lane e.deed q.1) (returned-ended s h c q.0) p)

-- ---- results

pub record ResultFor (b : Books) (c : ℕ) (r : RefValue) : Type 0 where
  pub number : ℕ
  pub given : b.result c ≡ Some number
  pub low : number ≤ length b.packets
  pub is : (packet b number).outstanding ≡ true → Of (packet b number) r

abbrev pub ResultBy : Books → Option Issue → ℕ → Option Ending → Type 0
ResultBy b i c (Some (ByLeave hr v)) = is_marshalled (route_of i) ≡ true → (r : RefValue) → value_reference v ≡ Some r → ResultFor b c r
ResultBy b i c _ = Unit {0}

rows-result : (owned : ℕ → ℕ → Bool) (b : Books) (rs : List Row) → (entered_rows owned b rs).result ≡ b.result
rows-result owned b [] = refl
rows-result owned b (r ∷ rs) = rows-result owned (changed b (change owned b r)) rs ∙ changed-result b (change owned b r)
  where
    changed-result : (b : Books) (c : Change) → (changed b c).result ≡ b.result
    changed-result b (ToProxy x y z m) = refl
    changed-result b (ToPacket m x y r) = refl
    changed-result b (Split x y z m) = refl
    changed-result b (Join x q) = refl
    changed-result b (Return q) = refl
    changed-result b (ToCookie x y m) = refl
    changed-result b (Withdraw g) = refl
    changed-result b Same = refl

same-result : (s : Scenario) (g : Ground) (w : Scene) (x : Option Action) (to : ℕ → Bool) (a : ℕ) (d : Deed) (b : Books) (c : ℕ) → ((k : ℕ) (hr : HResult) (v : Option Value) (bytes : Option (List ℕ)) → d ≡ deed.Leave k hr v bytes → k ≡ c → ⊥) → (closed s g w d (most s g w x to a d b)).result c ≡ b.result c
same-result s g w x to a (deed.Leave k hr v bytes) b c f =
    ap (λ (t : Bool). cond t (first_of (made_since b (entered_rows g.owns b (rows s x to b a (deed.Leave k hr v bytes))))) ((entered_rows g.owns b (rows s x to b a (deed.Leave k hr v bytes))).result c)) (false_from_ne_true (c == k) (λ t. f k hr v bytes refl (sym (eqb-true c k t))))
    ∙ ap (λ (y : ℕ → Option ℕ). y c) (rows-result g.owns b (rows s x to b a (deed.Leave k hr v bytes)))
same-result s g w x to a (deed.Out k o i m r cause bytes) b c f = ap (λ (y : ℕ → Option ℕ). y c) (rows-result g.owns b (rows s x to b a (deed.Out k o i m r cause bytes)))
same-result s g w x to a d b c f = ap (λ (y : ℕ → Option ℕ). y c) (rows-result g.owns b (rows s x to b a d))

result-later : (b d : Books) (c : ℕ) (r : RefValue) → Grown b d → d.result c ≡ b.result c → ResultFor b c r → ResultFor d c r
result-later b d c r g e p = record { number = p.number; given = e ∙ p.given; low = omega (arith, p.low, g.more); is = grown-of b d p.number r g p.low p.is }

value-carried : (v : Option Value) (r : RefValue) → value_reference v ≡ Some r → carried (result_list v) ≡ r ∷ []
value-carried None r e = cc
value-carried (Some (value.Ref None)) r e = cc
value-carried (Some (value.Ref (Some x))) r e = ap (λ (y : RefValue). y ∷ []) (same x r e)
  where
    same : (x r : RefValue) → Some x ≡ Some r → x ≡ r
    same x r e = cc
value-carried (Some (value.Int x)) r e = cc
value-carried (Some (value.Bool x)) r e = cc
value-carried (Some (value.Text x)) r e = cc
value-carried (Some (value.Bytes x)) r e = cc
value-carried (Some (value.Guid x)) r e = cc

none-value : (v : Option Value) (r : RefValue) → v ≡ None → value_reference v ≡ Some r → ⊥
none-value None r e p = cc
none-value (Some v) r e p = cc

if-live-live : (live : ℕ → Bool) (v : Value) (r : RefValue) → value_reference (Some (if_live true live v)) ≡ Some r → live r.object ≡ true
if-live-live live (value.Ref (Some x)) r e =
    elim (live x.object) as (λ t. live x.object ≡ t → cond t (Some x) None ≡ Some r → live r.object ≡ true) [
      | true ↦ λ p q. subst (λ (y : RefValue). live y.object ≡ true) (same x r q) p
      | false ↦ λ p q. cc
    ] refl e
  where
    same : (x r : RefValue) → Some x ≡ Some r → x ≡ r
    same x r e = cc
if-live-live live (value.Ref None) r e = cc
if-live-live live (value.Int x) r e = cc
if-live-live live (value.Bool x) r e = cc
if-live-live live (value.Text x) r e = cc
if-live-live live (value.Bytes x) r e = cc
if-live-live live (value.Guid x) r e = cc

result-live : (live : ℕ → Bool) (hr : HResult) (k : Option Kind) (x : Option Value) (r : RefValue) → value_reference (sent_result true live hr k x) ≡ Some r → live r.object ≡ true
result-live live hr None x r e = cc
result-live live hr (Some k) x r e = by-test (is_failure hr) e
  where
    by-test : (t : Bool) → value_reference (cond t None (Some (sent_value true live k (given_or_default k x)))) ≡ Some r → live r.object ≡ true
    by-test true q = cc
    by-test false q = if-live-live live (as_kind (given_or_default k x) k) r q

leave-result : (s : Scenario) (g : Ground) (w : Scene) (x : Option Action) (to : ℕ → Bool) (a : ℕ) (b : Books) (k : ℕ) (hr : HResult) (v : Option Value) (bytes : Option (List ℕ)) (r : RefValue) → is_some bytes ≡ true → value_reference v ≡ Some r → b.live r.object ≡ true → ResultFor (closed s g w (deed.Leave k hr v bytes) (most s g w x to a (deed.Leave k hr v bytes) b)) k r
leave-result s g w x to a b k hr v None r e p q = cc
leave-result s g w x to a b k hr v (Some bytes) r e p q =
    let d : Deed = deed.Leave k hr v (Some bytes) in
    let u : Books = entered_rows g.owns b (rows s x to b a d) in
    let m : OneMade b u r = subst (λ (rs : List RefValue). OneMade b (entered_rows g.owns b (marshal_all a rs)) r) (sym (value-carried v r p)) (marshals-one g.owns b a r q) in
    let z : Grown u (closed s g w d (most s g w x to a d b)) = end-grown s g w x to a d b in
    record {
      number = suc (length b.packets);
      given = ap (λ (t : Bool). cond t (first_of (made_since b u)) (u.result k)) (same-number k) ∙ m.first;
      low = omega (arith, m.low, z.more);
      is = grown-of u (closed s g w d (most s g w x to a d b)) (suc (length b.packets)) r z m.low (λ o. m.is);
    }
  where
    same-number : (n : ℕ) → (n == n) ≡ true
    same-number n = grind (arith, common_steps)

leave-own-result : (s : Scenario) (h : List Entry) (g : Ground) (w : Scene) (to : ℕ → Bool) (a l : ℕ) (k : ℕ) (hr : HResult) (v : Option Value) (bytes : Option (List ℕ)) (r : RefValue) → LeaveSays s (sight s h) l k hr v bytes → returned h k ≡ false → is_marshalled (route_of (issue h k)) ≡ true → value_reference v ≡ Some r → ResultFor (closed s g w (deed.Leave k hr v bytes) (most s g w (act s h l) to a (deed.Leave k hr v bytes) (books s h))) k r
leave-own-result s h g w to a l k hr v bytes r z n m p =
    leave-result s g w (act s h l) to a (books s h) k hr v bytes r
    (elim z.replied as (λ _. is_some bytes ≡ true) [ inl q ↦ absurd (none-value v r q p) | inr q ↦ q ∙ ap (λ (b : Bool). b && not (returned h k)) m ∙ ap not n ])
    p
    (elim z.sent as (λ _. (books s h).live r.object ≡ true) [
      | inl q ↦ absurd (none-value v r q p)
      | inr q ↦ result-live (books s h).live hr (kind_of s (issue h k)) z.given r (subst (λ (b : Bool). value_reference (sent_result b (books s h).live hr (kind_of s (issue h k)) z.given) ≡ Some r) m (subst (λ (y : Option Value). value_reference y ≡ Some r) q p))
    ])

left-by-leave : (s : Scenario) (h : List Entry) (c : ℕ) (hr : HResult) (v : Option Value) → ending s h c ≡ Some (ByLeave hr v) → NotLeft (ending s h c) → ⊥
left-by-leave s h c hr v e p = subst NotLeft e p

pub no-leave-again : (s : Scenario) (h : List Entry) (c : ℕ) (d : Deed) (hr : HResult) (v : Option Value) → ComesOnce (event d) (stage h) → ending s h c ≡ Some (ByLeave hr v) → (k : ℕ) (g : HResult) (w : Option Value) (bytes : Option (List ℕ)) → d ≡ deed.Leave k g w bytes → k ≡ c → ⊥
no-leave-again s h c d hr v o e k g w bytes p q =
    let z : ((stage h k).enter ≡ true) × ((stage h k).leave ≡ false) = subst (λ (x : Deed). ComesOnce (event x) (stage h)) p o in
    left-by-leave s h c hr v e (left-not-left s h c (stage-left h c (subst (λ (n : ℕ). (stage h n).leave ≡ false) q z.1)))

old-result : (s : Scenario) (h : List Entry) (e : Entry) (c : ℕ) (z : Ending) → legal s (e ∷ h) → ending s h c ≡ Some z → ResultBy (books s h) (issue h c) c (Some z) → ResultBy (books s (e ∷ h)) (issue (e ∷ h) c) c (Some z)
old-result s h e c (ByLeave hr v) q w p =
    let same : issue (e ∷ h) c ≡ issue h c = same-issue s h e.lane e.deed c (λ k o i m t cause bytes d u.
    let n : k ≡ calls h + 1 = out-number s h e.lane e.deed (next-comes s h e.lane e.deed q.1) k o i m t cause bytes d in
    left-by-leave s h c hr v w (not-left s h c q.0 (omega (arith, n, u)))) in
    λ m r y. result-later (books s h) (books s (e ∷ h)) c r
    (entry-grown s (ground s (e ∷ h)) (scene s (e ∷ h)) (act s h e.lane) (λ j. is_leave (ending s h j)) (number_or_zero (running s h e.lane)) e.deed (books s h))
    (same-result s (ground s (e ∷ h)) (scene s (e ∷ h)) (act s h e.lane) (λ j. is_leave (ending s h j)) (number_or_zero (running s h e.lane)) e.deed (books s h) c (no-leave-again s h c e.deed hr v (legal-once s (e ∷ h) q).1 w))
    (p (subst (λ (i : Option Issue). is_marshalled (route_of i) ≡ true) same m) r y)
old-result s h e c _ q w p = tt

not-left-result : (b : Books) (i : Option Issue) (c : ℕ) (x : Option Ending) → NotLeft x → ResultBy b i c x
not-left-result b i c None n = tt
not-left-result b i c (Some (ByLeave hr v)) n = absurd n
not-left-result b i c (Some _) n = tt

not-returned : (b : Bool) (x : Option Ending) → x ≡ None → (b ≡ true → is_some x ≡ true) → b ≡ false
not-returned true None e f = let z : false ≡ true = f refl in cc
not-returned true (Some y) e f = cc
not-returned false x e f = refl

new-result : (s : Scenario) (h : List Entry) (e : Entry) (c k : ℕ) (hr : HResult) (v : Option Value) (bytes : Option (List ℕ)) → legal s (e ∷ h) → ending s h c ≡ None → e.deed ≡ deed.Leave k hr v bytes → k ≡ c → ResultBy (books s (e ∷ h)) (issue (e ∷ h) c) c (Some (ByLeave hr v))
new-result s h e c k hr v bytes q n d u m r y =
    let says : LeaveSays s (sight s h) e.lane k hr v bytes = subst (Says s (sight s h) e.lane) d (next-says s h e.lane e.deed q.1) in
    let back : returned h k ≡ false = not-returned (returned h k) (ending s h k) (subst (λ (j : ℕ). ending s h j ≡ None) (sym u) n) (returned-ended s h k q.0) in
    let mark : is_marshalled (route_of (issue h k)) ≡ true = subst (λ (j : ℕ). is_marshalled (route_of (issue h j)) ≡ true) (sym u) (subst (λ (i : Option Issue). is_marshalled (route_of i) ≡ true) (leave-issue h e.lane c e.deed k hr v bytes d) m) in
    subst (λ (j : ℕ). ResultFor (books s (e ∷ h)) j r) u
    (subst (λ (x : Deed). ResultFor (closed s (ground s (e ∷ h)) (scene s (e ∷ h)) x (most s (ground s (e ∷ h)) (scene s (e ∷ h)) (act s h e.lane) (λ j. is_leave (ending s h j)) (number_or_zero (running s h e.lane)) x (books s h))) k r) (sym d)
    (leave-own-result s h (ground s (e ∷ h)) (scene s (e ∷ h)) (λ j. is_leave (ending s h j)) (number_or_zero (running s h e.lane)) e.lane k hr v bytes r says back mark y))

-- The result of a call that returns by a packet has it.
pub results-of : (s : Scenario) (h : List Entry) (c : ℕ) → legal s h → ResultBy (books s h) (issue h c) c (ending s h c)
results-of s [] c q = tt
results-of s (e ∷ h) c q =
    elim (ending s h c) as (λ x. ending s h c ≡ x → ResultBy (books s h) (issue h c) c x → ResultBy (books s (e ∷ h)) (issue (e ∷ h) c) c (or_else x (ends (end_effect (filtered s h) e.deed) c (target h c) (named h (target h c)) (can_be_cut (issue h c) (admitted h c))))) [
      | None ↦ λ n p. ends-is (λ (j : ℕ) (x : Option Ending). ResultBy (books s (e ∷ h)) (issue (e ∷ h) j) j x) (filtered s h) e.deed c (target h c) (named h (target h c)) (can_be_cut (issue h c) (admitted h c))
          (λ x z. not-left-result (books s (e ∷ h)) (issue (e ∷ h) c) c x z)
          (λ k hr v bytes d u. new-result s h e c k hr v bytes q n d u)
      | Some z ↦ λ n p. old-result s h e c z q n p
    ] refl (results-of s h c q.0)
