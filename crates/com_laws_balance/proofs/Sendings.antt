-- Each reference that a call sends by packets has one among the call's arguments.
use Rattle.std.proofs.Common.{subst, sym, ap, ◌∙◌, eqb-true, arith}
use Rattle.std.proofs.lemmas.Bool.{false_from_ne_true}
use Rattle.std.proofs.lemmas.Grind.{common_steps}
use Rattle.std.specs.Prelude.{◌≡◌, refl, ℕ, ◌≤◌, Bool, true, false, cond, ◌==◌, List, [], ◌∷◌, length, Option, Some, None, is_some}
use Rattle.com_base.specs.declared.value.RefValue.{RefValue}
use Rattle.com_base.specs.declared.value.Kind.{Kind}
use Rattle.com_base.specs.declared.value.Kind.TheVariants as kind
use Rattle.com_base.specs.declared.value.Value.{Value}
use Rattle.com_base.specs.declared.value.Value.TheVariants as value
use Rattle.com_base.specs.Values.{as_kind, default_of}
use Rattle.com_body.specs.declared.actions.Action.{Action}
use Rattle.com_body.specs.declared.actions.Action.TheVariants as action
use Rattle.com_classes.specs.Lookups.{method_at}
use Rattle.com_model.specs.declared.deeds.Deed.{Deed}
use Rattle.com_model.specs.declared.deeds.Deed.TheVariants as deed
use Rattle.com_model.specs.declared.deeds.Entry.{Entry}
use Rattle.com_model.specs.declared.deeds.Route.{Route}
use Rattle.com_model.specs.declared.scenario.Scenario.{Scenario}
use Rattle.com_model.specs.Lists.{is_member, number_or_zero}
use Rattle.com_model.specs.Tables.{parameters}
use Rattle.com_model.specs.Apartments.{running}
use Rattle.com_model.specs.Calls.{issues, issue_or, issue, route_of, is_marshalled}
use Rattle.com_model.specs.declared.keeps.Issue.{Issue}
use Rattle.com_model.specs.Values.{if_live, sent_values, carried}
use Rattle.com_model.specs.Frames.{Scene, scene, act}
use Rattle.com_model.specs.Endings.{ending, is_leave}
use Rattle.com_model.specs.Places.{Ground, ground}
use Rattle.com_refs_books.specs.Changes.{Books, packet, Change, ToProxy, ToPacket, Split, Join, Return, ToCookie, Withdraw, Same, changed, Row, change, entered_rows, made_since}
use Rattle.com_model.specs.Books.{out_values, rows, kept, most, closed, books}
use Rattle.com_model.specs.Issue.{own_values, values_or, sent}
use Rattle.com_model.specs.Sight.{sight}
use Rattle.com_model.specs.Rules.{legal}
use Rattle.com_laws_balance.proofs.Packets.{Of, In, Grown, grown-of, grown-then, grown-same, rows-grown, cut-grown, AllLive, MadeOf, marshals-make}
use Rattle.com_laws_balance.proofs.Says.{Says, next-says}

-- ---- what travels by packets is connected

carried-live : (live : ℕ → Bool) (v : Value) (rest : List Value) → AllLive live (carried rest) → AllLive live (carried (if_live true live v ∷ rest))
carried-live live (value.Ref (Some r)) rest p =
    elim (live r.object) as (λ t. live r.object ≡ t → AllLive live (carried (value.Ref (cond t (Some r) None) ∷ rest))) [ true ↦ λ e. (e, p) | false ↦ λ e. p ] refl
carried-live live (value.Ref None) rest p = p
carried-live live (value.Int x) rest p = p
carried-live live (value.Bool x) rest p = p
carried-live live (value.Text x) rest p = p
carried-live live (value.Bytes x) rest p = p
carried-live live (value.Guid x) rest p = p

default-live : (live : ℕ → Bool) (k : Kind) (rest : List Value) → AllLive live (carried rest) → AllLive live (carried (default_of k ∷ rest))
default-live live kind.Int rest p = p
default-live live kind.Bool rest p = p
default-live live kind.Text rest p = p
default-live live kind.Bytes rest p = p
default-live live kind.Guid rest p = p
default-live live (kind.Ref i) rest p = p

sent-live : (live : ℕ → Bool) (ks : List Kind) (vs : List Value) → AllLive live (carried (sent_values true live ks vs))
sent-live live [] vs = tt
sent-live live (k ∷ ks) [] = default-live live k (sent_values true live ks []) (sent-live live ks [])
sent-live live (k ∷ ks) (v ∷ vs) = carried-live live (as_kind v k) (sent_values true live ks vs) (sent-live live ks vs)

out-live : (s : Scenario) (b : Books) (x : Option Action) → AllLive b.live (carried (out_values s b true x))
out-live s b (Some (action.Call held i m args to)) = sent-live b.live (parameters (method_at s.classes i m)) args
out-live s b None = tt
out-live s b (Some _) = tt

-- ---- the packets of an entry

kept-packets : (before after : Books) (d : Deed) → (kept before d after).packets ≡ after.packets
kept-packets x b (deed.Out c u j m r cause bytes) = refl
kept-packets x b (deed.Leave c hr v bytes) = refl
kept-packets x b _ = refl

pub end-grown : (s : Scenario) (g : Ground) (w : Scene) (x : Option Action) (left : ℕ → Bool) (a : ℕ) (d : Deed) (b : Books) → Grown (entered_rows g.owns b (rows s x left b a d)) (closed s g w d (most s g w x left a d b))
end-grown s g w x left a d b =
    grown-then (entered_rows g.owns b (rows s x left b a d)) (most s g w x left a d b) (closed s g w d (most s g w x left a d b))
    (grown-same (entered_rows g.owns b (rows s x left b a d)) (most s g w x left a d b) (kept-packets b (entered_rows g.owns b (rows s x left b a d)) d))
    (cut-grown _ (most s g w x left a d b))

pub entry-grown : (s : Scenario) (g : Ground) (w : Scene) (x : Option Action) (left : ℕ → Bool) (a : ℕ) (d : Deed) (b : Books) → Grown b (closed s g w d (most s g w x left a d b))
entry-grown s g w x left a d b = grown-then b (entered_rows g.owns b (rows s x left b a d)) (closed s g w d (most s g w x left a d b)) (rows-grown g.owns b (rows s x left b a d)) (end-grown s g w x left a d b)

-- ---- arguments

pub record ArgumentOf (b : Books) (c : ℕ) (r : RefValue) : Type 0 where
  pub number : ℕ
  pub member : is_member number (b.arguments c) ≡ true
  pub low : number ≤ length b.packets
  pub is : (packet b number).outstanding ≡ true → Of (packet b number) r

argument-later : (b d : Books) (c : ℕ) (r : RefValue) → Grown b d → d.arguments c ≡ b.arguments c → ArgumentOf b c r → ArgumentOf d c r
argument-later b d c r g e p = record {
  number = p.number;
  member = subst (λ (ps : List ℕ). is_member p.number ps ≡ true) (sym e) p.member;
  low = omega (arith, p.low, g.more);
  is = grown-of b d p.number r g p.low p.is;
}

rows-arguments : (owned : ℕ → ℕ → Bool) (b : Books) (rs : List Row) → (entered_rows owned b rs).arguments ≡ b.arguments
rows-arguments owned b [] = refl
rows-arguments owned b (r ∷ rs) = rows-arguments owned (changed b (change owned b r)) rs ∙ changed-arguments b (change owned b r)
  where
    changed-arguments : (b : Books) (c : Change) → (changed b c).arguments ≡ b.arguments
    changed-arguments b (ToProxy x y z m) = refl
    changed-arguments b (ToPacket m x y r) = refl
    changed-arguments b (Split x y z m) = refl
    changed-arguments b (Join x q) = refl
    changed-arguments b (Return q) = refl
    changed-arguments b (ToCookie x y m) = refl
    changed-arguments b (Withdraw g) = refl
    changed-arguments b Same = refl

other-number : (c k : ℕ) → (k == c) ≡ false → (c == k) ≡ false
other-number c k e = false_from_ne_true (c == k) (λ t. not-both (k == c) e (subst (λ (n : ℕ). (n == c) ≡ true) (eqb-true c k t) (same-number c)))
  where
    same-number : (n : ℕ) → (n == n) ≡ true
    same-number n = grind (arith, common_steps)

    not-both : (b : Bool) → b ≡ false → b ≡ true → ⊥
    not-both b p q = cc

same-key : (c k : ℕ) → (k == c) ≡ true → (c == k) ≡ true
same-key c k e = subst (λ (n : ℕ). (n == k) ≡ true) (eqb-true k c e) (same-number k)
  where
    same-number : (n : ℕ) → (n == n) ≡ true
    same-number n = grind (arith, common_steps)

own-arguments : (s : Scenario) (g : Ground) (w : Scene) (x : Option Action) (left : ℕ → Bool) (a : ℕ) (b : Books) (k : ℕ) (o : Option ℕ) (i m : ℕ) (t : Route) (cause : ℕ) (bytes : Option (List ℕ)) (c : ℕ) (r : RefValue) → (c == k) ≡ true → is_some bytes ≡ true → In r (carried (out_values s b true x)) → ArgumentOf (closed s g w (deed.Out k o i m t cause bytes) (most s g w x left a (deed.Out k o i m t cause bytes) b)) c r
own-arguments s g w x left a b k o i m t cause None c r e q p = cc
own-arguments s g w x left a b k o i m t cause (Some bytes) c r e q p =
    let d : Deed = deed.Out k o i m t cause (Some bytes) in
    let u : Books = entered_rows g.owns b (rows s x left b a d) in
    let v : MadeOf b u r = marshals-make g.owns b a (carried (out_values s b true x)) r (out-live s b x) p in
    let z : Grown u (closed s g w d (most s g w x left a d b)) = end-grown s g w x left a d b in
    record {
      number = v.number;
      member = subst (λ (y : Bool). is_member v.number (cond y (made_since b u) (u.arguments c)) ≡ true) (sym e) v.made;
      low = omega (arith, v.low, z.more);
      is = grown-of u (closed s g w d (most s g w x left a d b)) v.number r z v.low (λ o. v.is);
    }

arguments-step : (s : Scenario) (h : List Entry) (g : Ground) (w : Scene) (left : ℕ → Bool) (a l : ℕ) (d : Deed) (c : ℕ) (r : RefValue) → Says s (sight s h) l d → (is_marshalled (route_of (issue h c)) ≡ true → In r (carried (sent s h c)) → ArgumentOf (books s h) c r) → is_marshalled (route_of (issue_or (issues l d) c (issue h c))) ≡ true → In r (carried (values_or s h (issues l d) c (sent s h c))) → ArgumentOf (closed s g w d (most s g w (act s h l) left a d (books s h))) c r
arguments-step s h g w left a l (deed.Out k o i m t cause bytes) c r z f q p =
    let d : Deed = deed.Out k o i m t cause bytes in
    let y : Issue = record { call = k; lane = l; object = o; iface = i; method = m; route = t; cause = cause } in
    elim (k == c) as (λ x. (k == c) ≡ x → is_marshalled (route_of (cond x (Some y) (issue h c))) ≡ true → In r (carried (own_values s h y x (sent s h c))) → ArgumentOf (closed s g w d (most s g w (act s h l) left a d (books s h))) c r) [
      | true ↦ λ e q p. own-arguments s g w (act s h l) left a (books s h) k o i m t cause bytes c r (same-key c k e) (z.marked ∙ q) (subst (λ (b : Bool). In r (carried (out_values s (books s h) b (act s h l)))) q p)
      | false ↦ λ e q p. argument-later (books s h) (closed s g w d (most s g w (act s h l) left a d (books s h))) c r (entry-grown s g w (act s h l) left a d (books s h))
          (ap (λ (b : Bool). cond b (made_since (books s h) (entered_rows g.owns (books s h) (rows s (act s h l) left (books s h) a d))) ((entered_rows g.owns (books s h) (rows s (act s h l) left (books s h) a d)).arguments c)) (other-number c k e)
          ∙ ap (λ (x : ℕ → List ℕ). x c) (rows-arguments g.owns (books s h) (rows s (act s h l) left (books s h) a d))) (f q p)
    ] refl q p
arguments-step s h g w left a l (deed.Leave k hr v bytes) c r z f q p =
    let d : Deed = deed.Leave k hr v bytes in
    argument-later (books s h) (closed s g w d (most s g w (act s h l) left a d (books s h))) c r (entry-grown s g w (act s h l) left a d (books s h)) (ap (λ (x : ℕ → List ℕ). x c) (rows-arguments g.owns (books s h) (rows s (act s h l) left (books s h) a d))) (f q p)
arguments-step s h g w left a l d c r z f q p = argument-later (books s h) (closed s g w d (most s g w (act s h l) left a d (books s h))) c r (entry-grown s g w (act s h l) left a d (books s h)) (ap (λ (x : ℕ → List ℕ). x c) (rows-arguments g.owns (books s h) (rows s (act s h l) left (books s h) a d))) (f q p)

-- A reference that a call sends by packets has one.
pub sent-argument : (s : Scenario) (h : List Entry) (c : ℕ) (r : RefValue) → legal s h → is_marshalled (route_of (issue h c)) ≡ true → In r (carried (sent s h c)) → ArgumentOf (books s h) c r
sent-argument s [] c r q m p = absurd p
sent-argument s (e ∷ h) c r q m p =
    arguments-step s h (ground s (e ∷ h)) (scene s (e ∷ h)) (λ c. is_leave (ending s h c)) (number_or_zero (running s h e.lane)) e.lane e.deed c r (next-says s h e.lane e.deed q.1) (λ m p. sent-argument s h c r q.0 m p) m p
