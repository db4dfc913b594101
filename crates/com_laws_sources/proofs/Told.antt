-- What is said of an object of a source after each entry, and of each open event.
use Rattle.std.proofs.Common.{refl, sym, ap, subst, inl, inr, arith}
use Rattle.std.proofs.lemmas.Bool.{ltb-true, ltb-false}
use Rattle.std.specs.Prelude.{◌≡◌, ℕ, ◌+◌, ◌≤◌, ◌<◌, Bool, true, false, nat_lt, List, [], ◌∷◌, ◌++◌, length, Some}
use Rattle.com_base.specs.declared.value.Value.{Value}
use Rattle.com_body.specs.declared.operands.Destination.TheVariants as destination
use Rattle.com_body.specs.declared.frame.Cells.{Cells}
use Rattle.com_body.specs.Frames.{FrameView}
use Rattle.com_model.specs.declared.deeds.Entry.{Entry}
use Rattle.com_model.specs.declared.scenario.Scenario.{Scenario}
use Rattle.com_model.specs.declared.keeps.Opener.{Opener}
use Rattle.com_model.specs.declared.keeps.Opener.TheVariants.{Enters}
use Rattle.com_model.specs.Openers.{openers}
use Rattle.com_model.specs.Calls.{issue}
use Rattle.com_model.specs.Frames.{scene}
use Rattle.com_laws_balance.proofs.Counts.{Among}
use Rattle.com_laws_balance.proofs.Directs.{Over}
use Rattle.com_laws_sources.specs.Alone.{alone}
use Rattle.com_laws_sources.specs.Bodies.{fire_body}
use Rattle.com_laws_sources.specs.Deliveries.{Held}
use Rattle.com_laws_sources.specs.Histories.{is_on, Change, Takes, Loses, Stays, changed, sinks, one_taken, taken, last, reached, visited}
use Rattle.com_laws_sources.specs.Kept.{Keeps, Rising}
use Rattle.com_laws_sources.specs.Rounds.{AtRound}
use Rattle.com_laws_sources.specs.Runs.{began}
use Rattle.com_laws_sources.specs.Sinks.{Sink, first_between, without}
use Rattle.com_laws_sources.specs.Sources.{fire}
use Rattle.com_laws_sources.proofs.Between.{between, between-all, between-next, between-without, between-more, rising-above, first-only, held-split, held-left, held-last, held-without, reached-more, one-longer, reached-low, rising-next}
use Rattle.com_laws_sources.proofs.Lists.{between-is}
use Rattle.com_laws_sources.proofs.Living.{Alive}
use Rattle.com_laws_sources.proofs.Sitting.{ChangeBy}

-- ---- what an event still owes

-- Of an event with this last cookie that reached some sinks, where the source took so many sinks and keeps some.
pub record Owing (l t : ℕ) (vs xs : List Sink) : Type 0 where
  pub low : l ≤ t
  pub few : length vs + between (reached vs) l xs ≤ 4
  pub rises : Rising 0 l vs
  pub got : (x : Sink) → Held x xs → x.cookie ≤ reached vs → Held x vs

later-cookie : (l t : ℕ) (vs : List Sink) (x y : Sink) → l ≤ t → Rising 0 l vs → y.cookie ≡ t + 1 → y ≡ x → x.cookie ≤ reached vs → ⊥
later-cookie l t vs x y low r k e h =
    let z : y.cookie ≡ x.cookie = ap (λ (z : Sink). z.cookie) e in
    let w : reached vs ≤ l = reached-low 0 l vs r in omega (arith, low, k, z, h, w)

pub owing-changed : (l t : ℕ) (vs xs : List Sink) (x : Change) → ChangeBy x t → Owing l t vs xs → Owing l (one_taken x t) vs (changed x xs)
owing-changed l t vs xs (Takes y) k w =
    let low : l ≤ t = w.low in
    let few : length vs + between (reached vs) l xs ≤ 4 = w.few in
    let more : between (reached vs) l (xs ++ (y ∷ [])) ≡ between (reached vs) l xs = between-more (reached vs) l xs y (omega (arith, low, k)) in record {
      low = omega (arith, low);
      few = omega (arith, few, more);
      rises = w.rises;
      got = λ x m h. elim (held-split x y xs m) as (λ _. Held x vs) [ inl u ↦ w.got x u h | inr u ↦ absurd (later-cookie l t vs x y low w.rises k u h) ];
    }
owing-changed l t vs xs (Loses n) k w =
    let few : length vs + between (reached vs) l xs ≤ 4 = w.few in
    let less : between (reached vs) l (without n xs) ≤ between (reached vs) l xs = between-without (reached vs) l n xs in record {
      low = w.low;
      few = omega (arith, few, less);
      rises = w.rises;
      got = λ x m h. w.got x (held-without n x xs m) h;
    }
owing-changed l t vs xs Stays k w = w

pub owing-next : (l t : ℕ) (vs xs : List Sink) (to : Sink) → Rising 0 t xs → first_between (reached vs) l xs ≡ Some to → Owing l t vs xs → Owing l t (vs ++ (to ∷ [])) xs
owing-next l t vs xs to r e w =
    let b : (reached vs < to.cookie) × (to.cookie ≤ l) = between-is (reached vs) l xs to e in
    let b0 : reached vs < to.cookie = b.0 in
    let few : length vs + between (reached vs) l xs ≤ 4 = w.few in
    let less : between to.cookie l xs + 1 ≤ between (reached vs) l xs = between-next (reached vs) l xs to e in
    let now : reached (vs ++ (to ∷ [])) ≡ to.cookie = reached-more vs to in
    let long : length (vs ++ (to ∷ [])) ≡ length vs + 1 = one-longer vs to in record {
      low = w.low;
      few = subst (λ (n : ℕ). length (vs ++ (to ∷ [])) + between n l xs ≤ 4) (sym now) (omega (arith, few, less, long));
      rises = rising-next 0 l vs to w.rises (omega (arith, b0)) b0 b.1;
      got = λ x m h. by-turn x m (subst (λ (n : ℕ). x.cookie ≤ n) now h) (nat_lt (reached vs) x.cookie) refl;
    }
  where
    by-turn : (x : Sink) → Held x xs → x.cookie ≤ to.cookie → (b : Bool) → nat_lt (reached vs) x.cookie ≡ b → Held x (vs ++ (to ∷ []))
    by-turn x m h true z = held-last x to vs (first-only (reached vs) l 0 t xs to x r e m (ltb-true (reached vs) x.cookie z) h)
    by-turn x m h false z = held-left x to vs (w.got x m (ltb-false (reached vs) x.cookie z))

pub owing-first : (t : ℕ) (xs : List Sink) → Rising 0 t xs → length xs ≤ 4 → Owing t t [] xs
owing-first t xs r f =
    let all : between 0 t xs ≤ length xs = between-all 0 t xs in record {
      low = omega arith;
      few = omega (arith, all, f);
      rises = omega arith;
      got = λ x m h. absurd (none x (rising-above 0 t xs x r m) h);
    }
  where
    none : (x : Sink) → 0 < x.cookie → x.cookie ≤ 0 → ⊥
    none x p h = omega (arith, p, h)

-- ---- the sentences

-- No body of the object is on top of a lane.
abbrev pub NoTop : List Entry → ℕ → Type 0
NoTop h o = (l c a : ℕ) (os : List Opener) → openers h l ≡ Enters c o a ∷ os → ⊥

-- A frame of `fire` at the round behind the sinks that got the event.
abbrev pub AtSeen : FrameView → Value → (last : ℕ) → List Sink → Type 0
AtSeen f event l vs = AtRound f (length vs) event l (reached vs)

-- A body of `fire` on top has what a round has, from a frame at it.
pub record Firing (s : Scenario) (h : List Entry) (o i c : ℕ) : Type 0 where
  pub event : Value
  pub frame : FrameView
  pub cells : Cells
  pub steps : ℕ
  pub at : AtSeen frame event (last h o i c) (visited h o i c)
  pub keeps : Keeps cells (sinks h o i) (taken h o i)
  pub same : alone fire_body steps ((scene s h).bodies c) ((scene s h).cells o) ≡ alone fire_body 1 frame cells

-- A body of `fire` that waits for a call stands at a round, and the result of the call goes to register 7.
pub record Waiting (s : Scenario) (h : List Entry) (o i d c : ℕ) : Type 0 where
  pub to : (scene s h).destinations d ≡ destination.Register 7
  pub event : Value
  pub at : AtSeen ((scene s h).bodies c) event (last h o i c) (visited h o i c)

abbrev pub Due : List Entry → (object iface call : ℕ) → Type 0
Due h o i c = Owing (last h o i c) (taken h o i) (visited h o i c) (sinks h o i)

-- While no body of the object is on top its cells keep its sinks. A body on top that is none of `fire` began with cells that keep
-- them. Only bodies of `fire` wait for a call.
pub record Told (s : Scenario) (h : List Entry) (o i : ℕ) : Type 0 where
  pub rests : Alive s h o → NoTop h o → Keeps ((scene s h).cells o) (sinks h o i) (taken h o i)
  pub sits : (l c a : ℕ) (os : List Opener) → openers h l ≡ Enters c o a ∷ os → is_on (issue h c) o i fire ≡ false → Keeps (began s h c) (sinks h o i) (taken h o i)
  pub fires : (l c a : ℕ) (os : List Opener) → openers h l ≡ Enters c o a ∷ os → is_on (issue h c) o i fire ≡ true → Firing s h o i c
  pub below : (l d c a : ℕ) (os : List Opener) → Over d (Enters c o a ∷ os) (openers h l) → (is_on (issue h c) o i fire ≡ true) × Waiting s h o i d c
  pub due : (l c a : ℕ) → Among (Enters c o a) (openers h l) → is_on (issue h c) o i fire ≡ true → Due h o i c

-- ---- what stays is said again

pub keeps-same : (x y : Cells) (a b : List Sink) (m n : ℕ) → y ≡ x → b ≡ a → n ≡ m → Keeps x a m → Keeps y b n
keeps-same x y a b m n p q r k =
    subst (λ (z : Cells). Keeps z b n) (sym p) (subst (λ (z : List Sink). Keeps x z n) (sym q) (subst (λ (z : ℕ). Keeps x a z) (sym r) k))

pub at-same : (f : FrameView) (event : Value) (l m : ℕ) (vs ws : List Sink) → m ≡ l → ws ≡ vs → AtSeen f event l vs → AtSeen f event m ws
at-same f event l m vs ws p q k = subst (λ (z : ℕ). AtSeen f event z ws) (sym p) (subst (λ (z : List Sink). AtSeen f event l z) (sym q) k)

pub owing-same : (l m t n : ℕ) (vs ws xs ys : List Sink) → m ≡ l → n ≡ t → ws ≡ vs → ys ≡ xs → Owing l t vs xs → Owing m n ws ys
owing-same l m t n vs ws xs ys p q r u k =
    subst (λ (z : ℕ). Owing z n ws ys) (sym p) (subst (λ (z : ℕ). Owing l z ws ys) (sym q) (subst (λ (z : List Sink). Owing l t z ys) (sym r) (subst (λ (z : List Sink). Owing l t vs z) (sym u) k)))
