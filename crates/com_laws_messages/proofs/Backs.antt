-- At each Back that has the answer of its call's Leave the reply says that answer.
use Rattle.std.proofs.Common.{subst, sym, ap, ◌∙◌, eqb-true, arith}
use Rattle.std.proofs.lemmas.Bool.{false_from_ne_true}
use Rattle.std.proofs.lemmas.List.Elements.{All-cons, All-nil}
use Rattle.std.specs.Prelude.{◌≡◌, refl, ℕ, ◌+◌, ◌*◌, ◌^◌, ◌<◌, ◌≤◌, Bool, true, false, cond, not, ◌==◌, ◌&&◌, ◌||◌, List, [], ◌∷◌, length, map, Option, Some, None, is_some, option_map, All, Result, Ok}
use Rattle.com_base.specs.declared.hresult.HResult.{HResult}
use Rattle.com_base.specs.declared.value.Kind.{Kind}
use Rattle.com_base.specs.declared.value.Value.{Value}
use Rattle.com_classes.specs.Lookups.{method_at}
use Rattle.com_model.specs.declared.deeds.Deed.{Deed}
use Rattle.com_model.specs.declared.deeds.Deed.TheVariants as deed
use Rattle.com_model.specs.declared.deeds.Entry.{Entry}
use Rattle.com_model.specs.declared.scenario.Scenario.{Scenario}
use Rattle.com_model.specs.Answers.{RPC_E_CLIENT_CANTUNMARSHAL_DATA}
use Rattle.com_model.specs.Lists.{first, is_number, number_or_zero, or_else}
use Rattle.com_model.specs.Tables.{result_kind}
use Rattle.com_model.specs.Apartments.{running}
use Rattle.com_model.specs.Objects.{objects, named}
use Rattle.com_model.specs.Calls.{issue, returns, returned, calls, target, admitted, route_of, is_marshalled}
use Rattle.com_model.specs.declared.keeps.Issue.{Issue}
use Rattle.ndr_args.specs.Written.{CanSendAll}
use Rattle.com_model.specs.Values.{result_list, wires, reply_bytes}
use Rattle.com_model.specs.Frames.{Scene, scene, act}
use Rattle.com_model.specs.Endings.{Answer, answer_of, without_value, end_effect, ends, filtered, can_be_cut, ending, is_leave}
use Rattle.com_model.specs.declared.keeps.Ending.{Ending}
use Rattle.com_model.specs.declared.keeps.Ending.TheVariants.{ByLeave}
use Rattle.com_model.specs.Places.{Ground, ground}
use Rattle.com_refs_books.specs.Changes.{Books, packet, made_since, first_of, entered_rows}
use Rattle.com_model.specs.Books.{rows, most, closed, books}
use Rattle.com_model.specs.Formed.{Formed}
use Rattle.com_model.specs.Issue.{at_issue}
use Rattle.com_model.specs.Sight.{Sight, sight}
use Rattle.com_model.specs.Deeds.{reply_for, named_packet}
use Rattle.com_model.specs.Rules.{result_gone, back_answer, legal}
use Rattle.com_model.proofs.Goods.{GoodValue, GoodResult}
use Rattle.com_model.proofs.Scenes.{faces}
use Rattle.com_model.proofs.Comes.{next-comes}
use Rattle.com_model.proofs.Onces.{legal-once}
use Rattle.com_laws_safety.proofs.Caused.{legal-own}
use Rattle.com_laws_safety.proofs.Small.{same-number}
use Rattle.com_laws_balance.proofs.Makings.{fine-next}
use Rattle.com_laws_ranges.proofs.Holding.{rows-keep}
use Rattle.com_laws_ranges.proofs.Numbers.{books-few, objects-few}
use Rattle.com_laws_balance.proofs.Results.{ends-is, not-left, out-number, same-issue, NotLeft}
use Rattle.com_laws_balance.proofs.Leavings.{or-some, no-leave-again}
use Rattle.com_laws_balance.proofs.Says.{Says, next-says}
use Rattle.com_print_scenario.specs.Ranges.{FitsTypes}
use Rattle.com_laws_messages.specs.Messages.{replies, message_or, reply, result_of, as_list}
use Rattle.com_exchange.specs.declared.receiving.RequestError.{RequestError}
use Rattle.com_exchange.specs.declared.replies.Reply.{Reply}
use Rattle.com_exchange.specs.Replies.{kinds_before}
use Rattle.com_laws_messages.specs.Carried.{SendsReply, ReadsReply, Reads}
use Rattle.com_laws_messages.proofs.Answering.{DeedCan}
use Rattle.com_laws_messages.proofs.Carrying.{deed-can}
use Rattle.com_laws_messages.proofs.Literals.{scenario-clean, iids-fit}
use Rattle.com_laws_messages.proofs.Naming.{AllThere, all-named}
use Rattle.com_laws_messages.proofs.Requests.{all-later, fields-back}
use Rattle.com_laws_messages.proofs.Fields.{held-few}
use Rattle.com_laws_messages.proofs.Fitting.{RefsFit, fields-fit, refs-fit, named-fits}
use Rattle.com_laws_messages.proofs.Calls.{few-packets, carried-so}
use Rattle.com_laws_messages.proofs.Leaves.{LeaveGives, leave-gives, unissued-silent}
use Rattle.com_exchange.proofs.Rereading.{reply-again}
use Rattle.com_laws_messages.proofs.Reading.{fields-again}
use Rattle.com_laws_messages.proofs.Results.{Replied, new-reply}

-- ---- a call that is back has an answer

back-ended : (s : Scenario) (h : List Entry) (l c : ℕ) (d : Deed) → Says s (sight s h) l d → (returned h c ≡ true → is_some (ending s h c) ≡ true) → (is_number c (returns d) || returned h c) ≡ true → is_some (ending s h c) ≡ true
back-ended s h l c (deed.Back k hr v) z f e =
    elim (c == k) as (λ t. (c == k) ≡ t → (t || returned h c) ≡ true → is_some (ending s h c) ≡ true) [
      | true ↦ λ p q. subst (λ (n : ℕ). is_some (ending s h n) ≡ true) (sym (eqb-true c k p)) z.0
      | false ↦ λ p q. f q
    ] refl e
back-ended s h l c _ z f e = f e

returned-ended : (s : Scenario) (h : List Entry) (c : ℕ) → legal s h → returned h c ≡ true → is_some (ending s h c) ≡ true
returned-ended s [] c q e = cc
returned-ended s (e ∷ h) c q p = or-some (ending s h c) _ (back-ended s h e.lane c e.deed (next-says s h e.lane e.deed q.1) (returned-ended s h c q.0) p)

not-back : (b : Bool) (x : Option Ending) → x ≡ None → (b ≡ true → is_some x ≡ true) → b ≡ false
not-back true None e f = let z : false ≡ true = f refl in cc
not-back true (Some y) e f = cc
not-back false x e f = refl

-- ---- a call that left

-- What is known of a call by its answer.
abbrev pub RepliedBy : Scenario → List Entry → ℕ → Option Ending → Type 0
RepliedBy s h c (Some (ByLeave hr v)) = is_marshalled (route_of (issue h c)) ≡ true → Replied s h (result_of s (issue h c)) (reply h c) hr v ((books s h).result c)
RepliedBy s h c _ = Unit {0}

not-left-replied : (s : Scenario) (h : List Entry) (c : ℕ) (x : Option Ending) → NotLeft x → RepliedBy s h c x
not-left-replied s h c None n = tt
not-left-replied s h c (Some (ByLeave hr v)) n = absurd n
not-left-replied s h c (Some _) n = tt

abbrev NoLeave : ℕ → Deed → Type 0
NoLeave c d = (k : ℕ) (hr : HResult) (v : Option Value) (bytes : Option (List ℕ)) → d ≡ deed.Leave k hr v bytes → k ≡ c → ⊥

same-reply : (h : List Entry) (c : ℕ) (d : Deed) → NoLeave c d → message_or (replies d) c (reply h c) ≡ reply h c
same-reply h c (deed.Leave k hr v bytes) f = ap (λ (t : Bool). cond t bytes (reply h c)) (false_from_ne_true (k == c) (λ t. f k hr v bytes refl (eqb-true k c t)))
same-reply h c _ f = refl

same-result : (s : Scenario) (h : List Entry) (l c : ℕ) (d : Deed) (g : Ground) (w : Scene) (left : ℕ → Bool) (a : ℕ) → NoLeave c d → (closed s g w d (most s g w (act s h l) left a d (books s h))).result c ≡ (books s h).result c
same-result s h l c (deed.Leave k hr v bytes) g w left a f =
    let u : Books = entered_rows g.owns (books s h) (rows s (act s h l) left (books s h) a (deed.Leave k hr v bytes)) in
    ap (λ (t : Bool). cond t (first_of (made_since (books s h) u)) (u.result c)) (false_from_ne_true (c == k) (λ t. f k hr v bytes refl (sym (eqb-true c k t))))
    ∙ ap (λ (y : ℕ → Option ℕ). y c) (rows-keep g.owns (books s h) (rows s (act s h l) left (books s h) a (deed.Leave k hr v bytes))).result
same-result s h l c (deed.Out k o i m r x bytes) g w left a f = ap (λ (y : ℕ → Option ℕ). y c) (rows-keep g.owns (books s h) (rows s (act s h l) left (books s h) a (deed.Out k o i m r x bytes))).result
same-result s h l c d g w left a f = ap (λ (y : ℕ → Option ℕ). y c) (rows-keep g.owns (books s h) (rows s (act s h l) left (books s h) a d)).result

replied-later : (s : Scenario) (h : List Entry) (e : Entry) (kind : Option Kind) (bytes : Option (List ℕ)) (hr : HResult) (v : Option Value) (number : Option ℕ) → Formed s → legal s (e ∷ h) → Replied s h kind bytes hr v number → Replied s (e ∷ h) kind bytes hr v number
replied-later s h e kind bytes hr v number f q z = record {
  packets = z.packets;
  spelled = z.spelled;
  short = z.short;
  sendable = z.sendable;
  in_range = z.in_range;
  few = z.few;
  named = z.named;
  numbered = z.numbered;
  fields = all-later s h e (as_list number) z.packets f q z.fields;
}

left-by-leave : (hr : HResult) (v : Option Value) (x : Option Ending) → x ≡ Some (ByLeave hr v) → NotLeft x → ⊥
left-by-leave hr v x e p = subst NotLeft e p

old-replied : (s : Scenario) (h : List Entry) (e : Entry) (c : ℕ) (z : Ending) → Formed s → legal s (e ∷ h) → ending s h c ≡ Some z → RepliedBy s h c (Some z) → RepliedBy s (e ∷ h) c (Some z)
old-replied s h e c (ByLeave hr v) f q w p =
    let none : NoLeave c e.deed = no-leave-again s h c e.deed hr v (legal-once s (e ∷ h) q).1 w in
    let x : issue (e ∷ h) c ≡ issue h c = same-issue s h e.lane e.deed c (λ k o i m t cause bytes d u.
    let n : k ≡ calls h + 1 = out-number s h e.lane e.deed (next-comes s h e.lane e.deed q.1) k o i m t cause bytes d in
    left-by-leave hr v (ending s h c) w (not-left s h c q.0 (omega (arith, n, u)))) in
    let y : reply (e ∷ h) c ≡ reply h c = same-reply h c e.deed none in
    let r : (books s (e ∷ h)).result c ≡ (books s h).result c = same-result s h e.lane c e.deed (ground s (e ∷ h)) (scene s (e ∷ h)) (λ j. is_leave (ending s h j)) (number_or_zero (running s h e.lane)) none in
    λ m. subst (λ (i : Option Issue). Replied s (e ∷ h) (result_of s i) (reply (e ∷ h) c) hr v ((books s (e ∷ h)).result c)) (sym x)
    (subst (λ (b : Option (List ℕ)). Replied s (e ∷ h) (result_of s (issue h c)) b hr v ((books s (e ∷ h)).result c)) (sym y)
    (subst (λ (n : Option ℕ). Replied s (e ∷ h) (result_of s (issue h c)) (reply h c) hr v n) (sym r)
    (replied-later s h e (result_of s (issue h c)) (reply h c) hr v ((books s h).result c) f q (p (subst (λ (i : Option Issue). is_marshalled (route_of i) ≡ true) x m)))))
old-replied s h e c _ f q w p = tt

-- ---- a call as it leaves

listed-good : (n m : ℕ) (v : Option Value) → GoodResult n m v → All (GoodValue n m) (result_list v)
listed-good n m None p = All-nil (GoodValue n m)
listed-good n m (Some v) p = All-cons (GoodValue n m) v [] p (All-nil (GoodValue n m))

pub left-replied : (s : Scenario) (h : List Entry) (l c : ℕ) (i : Issue) (hr : HResult) (v : Option Value) (bytes : Option (List ℕ)) → Formed s → FitsTypes s → legal s (record { lane = l; deed = deed.Leave c hr v bytes } ∷ h) → length h + 1 ≤ 1_000_000 → issue h c ≡ Some i → is_marshalled i.route ≡ true → returned h c ≡ false
    → Replied s (record { lane = l; deed = deed.Leave c hr v bytes } ∷ h) (result_kind (method_at s.classes i.iface i.method)) bytes hr v ((books s (record { lane = l; deed = deed.Leave c hr v bytes } ∷ h)).result c)
left-replied s h l c i hr v bytes f t q n issued m back =
    let d : Deed = deed.Leave c hr v bytes in
    let short : length h ≤ 1_000_000 = omega (arith, n) in
    let cookies : length (books s h).cookies ≤ length h = (books-few s h f).cookies in
    let k : DeedCan d = deed-can s h l d (scenario-clean s f t) (omega (arith, cookies, n)) (carried-so s h f t q.0 short) q.1 in
    let good : GoodResult (objects h) (faces s) v = fine-next s h (record { lane = l; deed = d }) f q in
    let few : objects h ≤ length h = objects-few h in
    let low : faces s ≤ 64 = f.interfaces.few in
    new-reply s h (20 * length h + 5) l c i hr v bytes (held-few s h f q.0) k.brings.0 k.brings.1 (few-packets s h f short)
    (λ rs new e are. fields-fit s (sight s h) (20 * length h + 5) _ new rs (iids-fit s f t) (named-fits s h f q.0 short) (omega (arith, n)) (subst RefsFit e (refs-fit (objects h) (faces s) (result_list v) (omega (arith, few, n)) (omega (arith, low)) (listed-good (objects h) (faces s) v good))) are)
    (leave-gives s h l c i hr v bytes q.1 issued) m back

own-replied : (s : Scenario) (h : List Entry) (l c : ℕ) (hr : HResult) (v : Option Value) (bytes : Option (List ℕ)) → Formed s → FitsTypes s → legal s (record { lane = l; deed = deed.Leave c hr v bytes } ∷ h) → length h + 1 ≤ 1_000_000 → ending s h c ≡ None
    → RepliedBy s (record { lane = l; deed = deed.Leave c hr v bytes } ∷ h) c (Some (ByLeave hr v))
own-replied s h l c hr v bytes f t q n none =
    let e : Entry = record { lane = l; deed = deed.Leave c hr v bytes } in
    let back : returned h c ≡ false = not-back (returned h c) (ending s h c) none (returned-ended s h c q.0) in
    subst (λ (b : Bool). is_marshalled (route_of (issue h c)) ≡ true → Replied s (e ∷ h) (result_of s (issue h c)) (cond b bytes (reply h c)) hr v ((books s (e ∷ h)).result c)) (sym (same-number c))
    (elim (issue h c) as (λ x. issue h c ≡ x → is_marshalled (route_of x) ≡ true → Replied s (e ∷ h) (result_of s x) bytes hr v ((books s (e ∷ h)).result c)) [
      | None ↦ λ u m. cc
      | Some i ↦ λ u m. left-replied s h l c i hr v bytes f t q n u m back
    ] refl)

new-replied : (s : Scenario) (h : List Entry) (e : Entry) (c k : ℕ) (hr : HResult) (v : Option Value) (bytes : Option (List ℕ)) → Formed s → FitsTypes s → legal s (e ∷ h) → length h + 1 ≤ 1_000_000 → ending s h c ≡ None → e.deed ≡ deed.Leave k hr v bytes → k ≡ c → RepliedBy s (e ∷ h) c (Some (ByLeave hr v))
new-replied s h e c k hr v bytes f t q n none d u =
    subst (λ (x : Deed). RepliedBy s (record { lane = e.lane; deed = x } ∷ h) c (Some (ByLeave hr v))) (sym d)
    (subst (λ (j : ℕ). RepliedBy s (record { lane = e.lane; deed = deed.Leave k hr v bytes } ∷ h) j (Some (ByLeave hr v))) u
    (own-replied s h e.lane k hr v bytes f t (subst (λ (x : Deed). legal s (record { lane = e.lane; deed = x } ∷ h)) d q) n (subst (λ (j : ℕ). ending s h j ≡ None) (sym u) none)))

pub replied : (s : Scenario) (h : List Entry) (c : ℕ) → Formed s → FitsTypes s → legal s h → length h ≤ 1_000_000 → RepliedBy s h c (ending s h c)
replied s [] c f t q n = tt
replied s (e ∷ h) c f t q n =
    elim (ending s h c) as (λ x. ending s h c ≡ x → RepliedBy s h c x → RepliedBy s (e ∷ h) c (or_else x (ends (end_effect (filtered s h) e.deed) c (target h c) (named h (target h c)) (can_be_cut (issue h c) (admitted h c))))) [
      | None ↦ λ w p. ends-is (λ (j : ℕ) (x : Option Ending). RepliedBy s (e ∷ h) j x) (filtered s h) e.deed c (target h c) (named h (target h c)) (can_be_cut (issue h c) (admitted h c))
          (λ x z. not-left-replied s (e ∷ h) c x z)
          (λ k hr v bytes d u. new-replied s h e c k hr v bytes f t q (omega (arith, n)) w d u)
      | Some z ↦ λ w p. old-replied s h e c z f q w p
    ] refl (replied s h c f t q.0 (omega (arith, n)))

-- ---- the Back

replied-read : (s : Scenario) (h : List Entry) (c : ℕ) (hr : HResult) (v : Option Value) → Replied s h (result_of s (issue h c)) (reply h c) hr v ((books s h).result c) → length (books s h).packets < 2 ^ 64 → AllThere s h (as_list ((books s h).result c)) → ReadsReply s h c hr v
replied-read s h c hr v z n there =
    let kind : Option Kind = result_of s (issue h c) in
    let said : Option ℕ → Result Reply RequestError = λ p. Ok (record { hr = hr; value = v; packet = p }) in
    record {
      bytes = reply_bytes hr v z.packets;
      sent_so = z.spelled;
      says = reply-again kind hr v z.packets z.short z.sendable z.in_range z.few z.named
          ∙ ap (λ (ps : List ℕ). said (first ps)) z.numbered
          ∙ ap said (one ((books s h).result c));
      named = ap (map (named_packet s (sight s h))) (fields-again kind hr v z.packets z.short z.sendable z.in_range z.few ∙ fields-back (result_list v) z.packets z.named)
          ∙ all-named s h (as_list ((books s h).result c)) z.packets n z.fields there;
    }
  where
    one : (p : Option ℕ) → first (as_list p) ≡ p
    one None = refl
    one (Some p) = refl

result-there : (s : Scenario) (h : List Entry) (c : ℕ) (p : Option ℕ) → is_leave (ending s h c) ≡ true → result_gone (sight s h) c p ≡ false → AllThere s h (as_list p)
result-there s h c None e g = tt
result-there s h c (Some p) e g = (outstanding (packet (books s h) p).outstanding (is_leave (ending s h c)) e g, tt)
  where
    outstanding : (t b : Bool) → b ≡ true → (b && not t) ≡ false → t ≡ true
    outstanding true b x y = refl
    outstanding false true x y = cc
    outstanding false false x y = cc

-- The answer that a Back gives, where its call was ended by its Leave.
same-answer : (a b : Answer) → Some a ≡ Some b → a ≡ b
same-answer a b e = cc

back-reads : (s : Scenario) (h : List Entry) (c : ℕ) (hr : HResult) (v : Option Value) (x : Option Ending) → ending s h c ≡ x → RepliedBy s h c x → is_marshalled (route_of (issue h c)) ≡ true → is_leave x ≡ true → result_gone (sight s h) c ((books s h).result c) ≡ false
    → option_map (back_answer (sight s h) c) (option_map (answer_of (at_issue s h c)) x) ≡ Some (record { hr = hr; value = v }) → length (books s h).packets < 2 ^ 64 → ReadsReply s h c hr v
back-reads s h c hr v (Some (ByLeave g y)) w p m leave gone e n =
    let old : Answer = record { hr = g; value = y } in
    let new : Answer = record { hr = hr; value = v } in
    let same : old ≡ new = same-answer old new (ap (λ (b : Bool). Some (cond b (without_value RPC_E_CLIENT_CANTUNMARSHAL_DATA) old)) (sym gone) ∙ e) in
    subst (λ (a : HResult). ReadsReply s h c a v) (ap (λ (a : Answer). a.hr) same)
    (subst (λ (a : Option Value). ReadsReply s h c g a) (ap (λ (a : Answer). a.value) same)
    (replied-read s h c g y (p m) n (result-there s h c ((books s h).result c) (ap is_leave w) gone)))
back-reads s h c hr v None w p m leave gone e n = cc
back-reads s h c hr v (Some _) w p m leave gone e n = cc

pub reads-reply : (s : Scenario) (h : List Entry) (l c : ℕ) (hr : HResult) (v : Option Value) → Formed s → FitsTypes s → legal s (record { lane = l; deed = deed.Back c hr v } ∷ h) → length h + 1 ≤ 1_000_000 → Reads s h l (deed.Back c hr v)
reads-reply s h l c hr v f t q n = λ m leave gone.
    let room : length (books s h).packets + 5 ≤ 2 ^ 64 = few-packets s h f (omega (arith, n)) in
    back-reads s h c hr v (ending s h c) refl (replied s h c f t q.0 (omega (arith, n))) m leave gone (legal-own s (record { lane = l; deed = deed.Back c hr v } ∷ h) q).1 (omega (arith, room))

-- ---- each Leave that replies

gave-bytes : (s : Scenario) (v : Sight) (l : ℕ) (m n : Bool) (hr : HResult) (x : Option Value) (bytes : List ℕ) → Some bytes ≡ reply_for s v l (m && not n) hr x → (m ≡ true) × (n ≡ false)
gave-bytes s v l true true hr x bytes e = (cc, cc)
gave-bytes s v l true false hr x bytes e = (refl, refl)
gave-bytes s v l false n hr x bytes e = (cc, cc)

sends-by : (s : Scenario) (h : List Entry) (l c : ℕ) (hr : HResult) (v : Option Value) (bytes : List ℕ) (x : Option Issue) → Formed s → FitsTypes s → legal s (record { lane = l; deed = deed.Leave c hr v (Some bytes) } ∷ h) → length h + 1 ≤ 1_000_000 → issue h c ≡ x
    → SendsReply s (record { lane = l; deed = deed.Leave c hr v (Some bytes) } ∷ h) c hr v bytes
sends-by s h l c hr v bytes (Some i) f t q n u =
    let z : LeaveGives s (sight s h) l c i hr v (Some bytes) = leave-gives s h l c i hr v (Some bytes) q.1 u in
    let y : (is_marshalled i.route ≡ true) × (returned h c ≡ false) = gave-bytes s (sight s h) l (is_marshalled i.route) (returned h c) hr v bytes z.spelled in
    let r : Replied s (record { lane = l; deed = deed.Leave c hr v (Some bytes) } ∷ h) (result_kind (method_at s.classes i.iface i.method)) (Some bytes) hr v ((books s (record { lane = l; deed = deed.Leave c hr v (Some bytes) } ∷ h)).result c) = left-replied s h l c i hr v (Some bytes) f t q n u y.0 y.1 in
    record {
      packets = r.packets;
      spelled = same-bytes bytes (reply_bytes hr v r.packets) r.spelled;
      short = r.short;
      sendable = subst (λ (a : Option Issue). CanSendAll (kinds_before (result_of s a) hr) (wires (result_list v) r.packets)) (sym u) r.sendable;
      in_range = r.in_range;
      named = r.named;
      numbered = r.numbered;
    }
  where
    same-bytes : (a b : List ℕ) → Some a ≡ Some b → a ≡ b
    same-bytes a b e = cc
sends-by s h l c hr v bytes None f t q n u =
    absurd (unissued-silent s h l c hr v bytes q.1 u)

pub sends-reply : (s : Scenario) (h : List Entry) (l c : ℕ) (hr : HResult) (v : Option Value) (bytes : List ℕ) → Formed s → FitsTypes s → legal s (record { lane = l; deed = deed.Leave c hr v (Some bytes) } ∷ h) → length h + 1 ≤ 1_000_000 → SendsReply s (record { lane = l; deed = deed.Leave c hr v (Some bytes) } ∷ h) c hr v bytes
sends-reply s h l c hr v bytes f t q n = sends-by s h l c hr v bytes (issue h c) f t q n refl
