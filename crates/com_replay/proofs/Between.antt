-- What stands between two picks.
use Rattle.std.proofs.Common.{ap, subst, sym, ◌∙◌, arith, drop, get_or}
use Rattle.std.proofs.lemmas.Grind.{common_steps}
use Rattle.std.proofs.lemmas.List.{reverse-append}
use Rattle.std.proofs.Math.Seq.{drop-cons}
use Rattle.std.specs.Prelude.{◌≡◌, refl, ℕ, zero, suc, ◌+◌, ◌<◌, ◌≤◌, Bool, true, false, cond, ◌&&◌, nat_lt}
use Rattle.std.specs.Prelude.{List, [], ◌∷◌, ◌++◌, Option, Some, None, is_some, length, reverse}
use Rattle.com_model.specs.declared.deeds.Deed.{Deed}
use Rattle.com_model.specs.declared.deeds.Entry.{Entry}
use Rattle.com_model.specs.declared.scenario.Scenario.{Scenario}
use Rattle.com_model.specs.Ends.{limit}
use Rattle.com_model.specs.Formed.{Formed}
use Rattle.com_model.specs.Rules.{next}
use Rattle.com_model.specs.State.{State, StandsFor, after, first_tables, next_of}
use Rattle.com_model.proofs.Sights.{same-next}
use Rattle.com_model.proofs.Whole.{first-stands}
use Rattle.com_runtime.proofs.Runs.{stands-later}
use Rattle.com_runtime.specs.Standings.{Reached}
use Rattle.com_runtime.specs.Turns.{IsNext}
use Rattle.com_runtime.proofs.Resting.{reached_by}
use Rattle.com_replay.specs.Nexts.{HasNext, has_next_in}
use Rattle.com_replay.specs.Picked.{IsPicked, picked, with_deed, with_picks}
use Rattle.com_replay.specs.Picks.{IsPickOf, makes_in, with_made}
use Rattle.com_replay.proofs.Histories.{one_more}

-- ---- whether a pick makes an entry

higher-false : (m n : ℕ) → n ≤ m → nat_lt m n ≡ false
higher-false m n p = grind (arith, common_steps, p)

lower-true : (m n : ℕ) → m < n → nat_lt m n ≡ true
lower-true m n p = grind (arith, common_steps, p)

pub no_room : (r s : Scenario) (st : State) (l : ℕ) → r ≡ s → limit s ≤ st.entries → false ≡ makes_in r st l
unfolding makes_in
no_room r s st l same p =
    sym (ap (λ (b : Bool). b && has_next_in r st l)
    (higher-false st.entries (limit r) (subst (λ (x : Scenario). limit x ≤ st.entries) (sym same) p)))

pub has_room : (r s : Scenario) (st : State) (l : ℕ) → r ≡ s → st.entries < limit s
    → has_next_in r st l ≡ makes_in r st l
unfolding makes_in
has_room r s st l same p =
    sym (ap (λ (b : Bool). b && has_next_in r st l)
    (lower-true st.entries (limit r) (subst (λ (x : Scenario). st.entries < limit x) (sym same) p)))

both-true : (a b : Bool) → (a && b) ≡ true → (a ≡ true) × (b ≡ true)
both-true true true e = (refl, refl)
both-true true false e = cc
both-true false b e = cc

lower-so : (m n : ℕ) → nat_lt m n ≡ true → m < n
lower-so m n e = grind (arith, common_steps, e)

pub room_of : (s : Scenario) (st : State) (l : ℕ) → makes_in s st l ≡ true → st.entries < limit s
unfolding makes_in
room_of s st l e =
    lower-so st.entries (limit s) (both-true (nat_lt st.entries (limit s)) (has_next_in s st l) e).0

pub next_of_pick : (s : Scenario) (st : State) (l : ℕ) → makes_in s st l ≡ true → HasNext s st l
unfolding makes_in has_next_in HasNext
next_of_pick s st l e = (both-true (nat_lt st.entries (limit s)) (is_some (next_of s st l)) e).1

-- ---- between two picks

-- The state stands for the entries so far, and the picks that are left make the whole history of them.
pub record Picking (s : Scenario) (picks : List ℕ) (st : State) (ls : List ℕ) (es : List Entry) : Type 0 where
  pub stands : StandsFor s st (reverse es)
  pub few : length (reverse es) ≤ limit s
  pub way : with_picks s (reverse es) ls ≡ picked s picks

whole-way : (s : Scenario) (picks : List ℕ) → with_picks s [] picks ≡ picked s picks
unfolding picked
whole-way s picks = refl

pub starts : (s : Scenario) (picks : List ℕ) (st : State) (entries : List Entry) → st ≡ first_tables s
    → entries ≡ [] → Picking s picks st (drop 0 picks) entries
starts s picks st entries first none =
    subst (λ (es : List Entry). Picking s picks st picks es) (sym none) (record {
      stands = subst (λ (x : State). StandsFor s x []) (sym first) (first-stands s);
      few = omega arith;
      way = whole-way s picks;
    })

pub is_reached : (r s : Scenario) (picks : List ℕ) (st : State) (left : List ℕ) (entries : List Entry) → r ≡ s
    → Formed s → Picking s picks st left entries → Reached r st
is_reached r s picks st left entries same f p =
    subst (λ (x : Scenario). Reached x st) (sym same) (reached_by s st (reverse entries) f p.stands)

-- The pick makes no entry of the history that the state stands for.
kept-by : (s : Scenario) (h : List Entry) (l : ℕ) (x : Option Deed)
    → (nat_lt (length h) (limit s) && is_some x) ≡ false → with_deed s h l x ≡ h
kept-by s h l None e = refl
kept-by s h l (Some d) e =
    ap (λ (b : Bool). cond b (record { lane = l; deed = d } ∷ h) h) (left (nat_lt (length h) (limit s)) e)
  where
    left : (b : Bool) → (b && true) ≡ false → b ≡ false
    left false e = refl
    left true e = cc

none-made : (s : Scenario) (st : State) (h : List Entry) (l : ℕ) → StandsFor s st h → makes_in s st l ≡ false
    → with_deed s h l (next s h l) ≡ h
unfolding makes_in has_next_in
none-made s st h l p e =
    kept-by s h l (next s h l)
    (subst (λ (n : ℕ). (nat_lt n (limit s) && is_some (next s h l)) ≡ false) p.entries
    (subst (λ (x : Option Deed). (nat_lt st.entries (limit s) && is_some x) ≡ false)
    (same-next s st h l p) e))

-- The pick made this entry of the history that the state stands for.
record OneMore (s : Scenario) (st new : State) (h : List Entry) (l : ℕ) (e : Entry) : Type 0 where
  stands : StandsFor s new (e ∷ h)
  room : length h < limit s
  way : with_deed s h l (next s h l) ≡ e ∷ h

one-made : (s : Scenario) (st new : State) (h : List Entry) (l : ℕ) (e : Entry) → Formed s → StandsFor s st h
    → makes_in s st l ≡ true → IsNext s st l e new → OneMore s st new h l e
one-made s st new h l e f p can is =
    let deed : next s h l ≡ Some e.deed = sym (same-next s st h l p) ∙ is.deed in
    let own : next s h e.lane ≡ Some e.deed = ap (next s h) is.by ∙ deed in
    let low : st.entries < limit s = room_of s st l can in
    let room : length h < limit s = subst (λ (n : ℕ). n < limit s) p.entries low in
    let becomes : new ≡ after s st e.lane e.deed =
    is.becomes ∙ ap (λ (k : ℕ). after s st k e.deed) (sym is.by) in
    record {
      stands = subst (λ (x : State). StandsFor s x (e ∷ h)) (sym becomes)
          (stands-later s st h e.lane e.deed f (p.lawful, own) p);
      room = room;
      way = ap (λ (k : ℕ). with_deed s h k (next s h k)) (sym is.by) ∙ one_more s h e own room;
    }

goes-by : (s : Scenario) (picks : List ℕ) (st new : State) (l : ℕ) (left : List ℕ) (entries : List Entry)
    (made : Option Entry) → Formed s → IsPickOf s st l made new → Picking s picks st (l ∷ left) entries
    → Picking s picks new left (with_made entries made)
goes-by s picks st new l left entries None f made p =
    let h : List Entry = reverse entries in
    record {
      stands = subst (λ (x : State). StandsFor s x h) (sym made.1) p.stands;
      few = p.few;
      way = ap (λ (g : List Entry). with_picks s g left) (sym (none-made s st h l p.stands made.0)) ∙ p.way;
    }
goes-by s picks st new l left entries (Some e) f made p =
    let h : List Entry = reverse entries in
    let more : OneMore s st new h l e = one-made s st new h l e f p.stands made.0 made.1 in
    let told : reverse (entries ++ e ∷ []) ≡ e ∷ h = reverse-append entries (e ∷ []) in
    let room : length h < limit s = more.room in
    record {
      stands = subst (StandsFor s new) (sym told) more.stands;
      few = subst (λ (g : List Entry). length g ≤ limit s) (sym told) (omega (arith, room));
      way = ap (λ (g : List Entry). with_picks s g left) (told ∙ sym more.way) ∙ p.way;
    }

next-pick : (xs : List ℕ) (n : ℕ) → n < length xs → drop n xs ≡ get_or xs n 0 ∷ drop (n + 1) xs
next-pick xs n h =
    let q : suc n ≡ n + 1 = omega arith in
    drop-cons xs n 0 h ∙ ap (λ (m : ℕ). get_or xs n 0 ∷ drop m xs) q

-- One pick more.
pub goes_on : (r s : Scenario) (picks : List ℕ) (st new : State) (n : ℕ) (entries longer : List Entry)
    (made : Option Entry) → r ≡ s → Formed s → n < length picks → IsPickOf r st (get_or picks n 0) made new
    → longer ≡ with_made entries made → Picking s picks st (drop n picks) entries
    → Picking s picks new (drop (n + 1) picks) longer
goes_on r s picks st new n entries longer made same f low is kept p =
    subst (λ (es : List Entry). Picking s picks new (drop (n + 1) picks) es) (sym kept)
    (goes-by s picks st new (get_or picks n 0) (drop (n + 1) picks) entries made f
    (subst (λ (x : Scenario). IsPickOf x st (get_or picks n 0) made new) same is)
    (subst (λ (xs : List ℕ). Picking s picks st xs entries) (next-pick picks n low) p))

drop-past : (xs : List ℕ) (n : ℕ) → length xs ≤ n → drop n xs ≡ []
drop-past [] n h = grind (arith, common_steps)
drop-past (x ∷ xs) zero h = absurd (omega (arith, h))
drop-past (x ∷ xs) (suc n) h = drop-past xs n (omega (arith, h))

reverse-length : (es : List Entry) → length (reverse es) ≡ length es
reverse-length [] = refl
reverse-length (e ∷ es) = grind (arith, common_steps, reverse-append (e ∷ []) es, reverse-length es)

-- No pick is left.
pub is_picked : (s : Scenario) (picks : List ℕ) (st : State) (n : ℕ) (entries : List Entry) → length picks ≤ n
    → Picking s picks st (drop n picks) entries → IsPicked s picks entries
is_picked s picks st n entries over p =
    let few : length (reverse entries) ≤ limit s = p.few in
    let same : length (reverse entries) ≡ length entries = reverse-length entries in
    record {
      lawful = p.stands.lawful;
      is = ap (with_picks s (reverse entries)) (sym (drop-past picks n over)) ∙ p.way;
      few = omega (arith, few, same);
    }
