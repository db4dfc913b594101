-- After each entry the books are at rest: by the definitions alone, whatever the entry is.
use Rattle.std.proofs.Common.{◌≡◌, refl, sym, ◌∙◌, ap, ap₂, arith, ℕ, ◌+◌, Bool, true, false, not, cond, ◌==◌, ◌&&◌, ◌||◌, if◌then◌else◌, List, [], ◌∷◌, map, sum_by, eqb-true}
use Rattle.std.proofs.lemmas.Grind.{common_steps}
use Rattle.std.specs.Prelude.{Option}
use Rattle.com_body.specs.declared.actions.Action.{Action}
use Rattle.com_refs_books.specs.Counting.{count_if}
use Rattle.com_refs_books.specs.declared.keeps.Packet.{Packet}
use Rattle.com_refs_books.specs.declared.keeps.Cookie.{Cookie}
use Rattle.com_refs_books.specs.Changes.{Books, entered_rows, cut, cut_packet, cut_cookie, no_packet, given_back, held_outside, packet_holds, cookie_holds, is_weak}
use Rattle.com_model.specs.declared.deeds.Deed.{Deed}
use Rattle.com_model.specs.declared.deeds.Entry.{Entry}
use Rattle.com_model.specs.declared.scenario.Scenario.{Scenario}
use Rattle.com_model.specs.Lists.{is_number, number_or_zero}
use Rattle.com_model.specs.Apartments.{running, ends_sta}
use Rattle.com_model.specs.Objects.{makes, disconnects}
use Rattle.com_model.specs.Frames.{Scene, scene, act}
use Rattle.com_model.specs.Endings.{ending, is_leave}
use Rattle.com_model.specs.Places.{Ground, ground, places, all_places}
use Rattle.com_model.specs.Books.{books, closed, most, kept, rows, live_after, made_by}
use Rattle.com_state.specs.Resting.{Rested}

-- ---- what a cut leaves, it leaves again

packet-twice : (live : ℕ → Bool) (p : Packet) → cut_packet live (cut_packet live p) ≡ cut_packet live p
packet-twice live p = elim (live p.object) as (λ l. live p.object ≡ l → cut_packet live (cond l p no_packet) ≡ cond l p no_packet) [
  | true ↦ λ e. ap (λ (l : Bool). cond l p no_packet) e
  | false ↦ λ e. elim (live 0) as (λ l. cond l no_packet no_packet ≡ no_packet) [ true ↦ refl | false ↦ refl ]
] refl

cut-packets : (live : ℕ → Bool) (ps : List Packet) → map (cut_packet live) (map (cut_packet live) ps) ≡ map (cut_packet live) ps
cut-packets live [] = refl
cut-packets live (p ∷ ps) = ap₂ (λ (q : Packet) (qs : List Packet). q ∷ qs) (packet-twice live p) (cut-packets live ps)

twice : (b : Bool) (n : ℕ) → (if b then (if b then n else 0) else 0) ≡ (if b then n else 0)
twice true n = refl
twice false n = refl

cut-cookies : (live : ℕ → Bool) (gs : List Cookie) → map (cut_cookie live) (map (cut_cookie live) gs) ≡ map (cut_cookie live) gs
cut-cookies live [] = refl
cut-cookies live (g ∷ gs) = ap₂ (λ (n : ℕ) (hs : List Cookie). (record g { refs = n }) ∷ hs) (twice (live g.object) g.refs) (cut-cookies live gs)

-- ---- a cut changes no holder of what is connected

held-packet : (live : ℕ → Bool) (o : ℕ) (p : Packet) → live o ≡ true → packet_holds o (cut_packet live p) ≡ packet_holds o p
held-packet live o p h = elim (live p.object) as (λ l. live p.object ≡ l → packet_holds o (cond l p no_packet) ≡ packet_holds o p) [
  | true ↦ λ e. refl
  | false ↦ λ e. elim (p.object == o) as (λ t. p.object == o ≡ t → 0 ≡ count_if (p.outstanding && (not (is_weak p.mode) && t))) [
    | true ↦ λ t. let same : p.object ≡ o = eqb-true p.object o t in let yes : live p.object ≡ true = ap live same ∙ h in absurd (clash (sym e ∙ yes))
    | false ↦ λ t. none p.outstanding (is_weak p.mode)
  ] refl
] refl
  where
    clash : false ≡ true → ⊥
    clash e = cc

    none : (x y : Bool) → 0 ≡ count_if (x && (not y && false))
    none true true = refl
    none true false = refl
    none false y = refl

pub held-packets : (live : ℕ → Bool) (o : ℕ) → live o ≡ true → (ps : List Packet) → sum_by (packet_holds o) (map (cut_packet live) ps) ≡ sum_by (packet_holds o) ps
held-packets live o h [] = refl
held-packets live o h (p ∷ ps) =
    let rest : sum_by (packet_holds o) (map (cut_packet live) ps) ≡ sum_by (packet_holds o) ps = held-packets live o h ps in
    let here : packet_holds o (cut_packet live p) ≡ packet_holds o p = held-packet live o p h in
    grind (arith, common_steps, rest, here)

pub held-cookies : (live : ℕ → Bool) (o : ℕ) (gs : List Cookie) → sum_by (cookie_holds o) (map (cut_cookie live) gs) ≡ sum_by (cookie_holds o) gs
held-cookies live o [] = refl
held-cookies live o (g ∷ gs) = grind (arith, common_steps, held-cookies live o gs)

pub cut-outside : (live : ℕ → Bool) (b : Books) (o : ℕ) → live o ≡ true → held_outside (cut live b) o ≡ held_outside b o
cut-outside live b o e = ap₂ (λ (n m : ℕ). n + m) (held-packets live o e b.packets) (held-cookies live o b.cookies)

-- ---- what is connected after an entry has a holder

clash : false ≡ true → ⊥
clash e = cc

last-is : (x y z w : Bool) → (x && (y && (z && not w))) ≡ true → w ≡ false
last-is x y z false e = refl
last-is true true true true e = absurd (clash e)
last-is true true false true e = absurd (clash e)
last-is true false z true e = absurd (clash e)
last-is false y z true e = absurd (clash e)

if-zero : (b : Bool) (n : ℕ) → n ≡ 0 → (if b then n else 0) ≡ 0
if-zero true n e = e
if-zero false n e = refl

off : (b : Bool) (n : ℕ) → b ≡ false → (if b then n else 0) ≡ 0
off b n e = ap (λ (x : Bool). if x then n else 0) e

gone : (x n : ℕ) → x ≡ 0 → (if x == 0 then 0 else n) ≡ 0
gone x n e = ap (λ (y : ℕ). if y == 0 then 0 else n) e

pub cut-rests : (n : ℕ) (pl : ℕ → ℕ → ℕ) (all : ℕ → ℕ) (live : ℕ → Bool) (b : Books) → ((o : ℕ) → live o ≡ true → (all o + held_outside (given_back n pl b) o == 0) ≡ false) → Rested pl (λ o. all o + held_outside (cut live (given_back n pl b)) o) (cut live (given_back n pl b))
cut-rests n pl all live b p = record {
  given = λ a o k z. if-zero (live o) (if pl a o == 0 then 0 else b.proxy a o k) (gone (pl a o) (b.proxy a o k) z);
  held = λ o e. ap (λ (m : ℕ). all o + m == 0) (cut-outside live (given_back n pl b) o e) ∙ p o e;
  stub = λ o k e. off (live o) ((given_back n pl b).stub o k) e;
  proxy = λ a o k e. off (live o) ((given_back n pl b).proxy a o k) e;
  packets = cut-packets live b.packets;
  cookies = cut-cookies live b.cookies;
}

-- One entry, over variables.
pub step-rests : (s : Scenario) (g : Ground) (w : Scene) (x : Option Action) (left : ℕ → Bool) (a : ℕ) (d : Deed) (b : Books)
    → Rested (places s g w) (λ o. all_places s g w o + held_outside (closed s g w d (most s g w x left a d b)) o) (closed s g w d (most s g w x left a d b))
step-rests s g w x left a d b =
    let m : Books = most s g w x left a d b in
    cut-rests g.apartments (places s g w) (all_places s g w) (live_after d g.named (λ o. all_places s g w o + held_outside m o) m.live) (kept b d (entered_rows g.owns b (rows s x left b a d)))
    (λ o q. last-is (made_by (makes d) o || m.live o) (not (is_number o (disconnects d))) (not (is_number (g.named o) (ends_sta d))) (all_places s g w o + held_outside m o == 0) q)

-- The theorem: for every history, legal or not.
pub rests : (s : Scenario) (h : List Entry) → Rested (places s (ground s h) (scene s h)) (λ o. all_places s (ground s h) (scene s h) o + held_outside (books s h) o) (books s h)
rests s [] = record {
  given = λ a o k z. refl;
  held = λ o e. absurd (clash e);
  stub = λ o k e. refl;
  proxy = λ a o k e. refl;
  packets = refl;
  cookies = refl;
}
rests s (e ∷ h) = step-rests s (ground s (e ∷ h)) (scene s (e ∷ h)) (act s h e.lane) (λ c. is_leave (ending s h c)) (number_or_zero (running s h e.lane)) e.deed (books s h)
