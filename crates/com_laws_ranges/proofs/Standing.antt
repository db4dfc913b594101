-- How many of each there are, in a state that stands for a history.
use Rattle.std.proofs.Common.{ap, ◌∙◌, arith, subst, sym}
use Rattle.std.proofs.lemmas.Grind.{common_steps}
use Rattle.std.specs.Prelude.{◌≡◌, ℕ, zero, suc, ◌+◌, ◌*◌, ◌^◌, ◌<◌, ◌≤◌, Bool, true, false, cond, ◌==◌, ◌&&◌, nat_le, List, ◌∷◌, length, Some, None, slice_index_or}
use Rattle.com_refs_books.specs.declared.keeps.Packet.{Packet}
use Rattle.com_refs_books.specs.declared.keeps.Cookie.{Cookie}
use Rattle.com_lanes.specs.Changes.{IsNumber, IsBelow}
use Rattle.com_model.specs.declared.deeds.Deed.{Deed}
use Rattle.com_model.specs.declared.deeds.Deed.TheVariants as deed
use Rattle.com_model.specs.declared.deeds.Entry.{Entry}
use Rattle.com_model.specs.declared.keeps.Opener.{Opener}
use Rattle.com_model.specs.declared.scenario.Scenario.{Scenario}
use Rattle.com_model.specs.Formed.{Formed}
use Rattle.com_model.specs.Ends.{limit}
use Rattle.com_model.specs.Lists.{where_true}
use Rattle.com_model.specs.Apartments.{makes_sta, ends_sta, is_sta, init_count, next_sta}
use Rattle.com_model.specs.Objects.{finals, objects}
use Rattle.com_model.specs.Calls.{calls}
use Rattle.com_model.specs.Books.{books}
use Rattle.com_model.specs.Waiting.{Mail, no_mail}
use Rattle.com_model.specs.Sight.{sight}
use Rattle.com_model.specs.Rules.{next, legal}
use Rattle.com_model.specs.State.{State, StandsFor, next_of, openers_in, served_in, books_in}
use Rattle.com_model.proofs.Fines.{FineBy}
use Rattle.com_model.proofs.Onces.{InRange, named-in-range}
use Rattle.com_model.proofs.Sights.{same-next}
use Rattle.com_laws_balance.proofs.Makings.{fine-next}
use Rattle.com_objects.specs.Kept.{IsMade}
use Rattle.com_laws_safety.specs.Released.{ReleasesOnce}
use Rattle.com_laws_safety.proofs.Released.{releases}
use Rattle.com_laws_safety.proofs.Sources.{next-source}
use Rattle.com_laws_safety.proofs.Small.{and-left}
use Rattle.com_laws_ranges.specs.Bounds.{Counted, HasPlace, IssuedCall, NextCall, TakesBack, FitsParts}
use Rattle.com_laws_ranges.proofs.Holding.{proxies-few}
use Rattle.com_laws_ranges.proofs.Homes.{HomesSay, homes-say}
use Rattle.com_laws_ranges.proofs.Numbers.{calls-few, causes-few, objects-few, stas-few, openers-few, served-few, counts-few, posted-few, FewBooks, books-few}

at-most : (m n k j : ℕ) → m ≡ n → k ≡ j → n ≤ j → m ≤ k
at-most m n k j p q r = omega (arith, p, q, r)

twenty-each : (m n k j : ℕ) → m ≡ n → k ≡ j → n ≤ 20 * j → m ≤ 20 * k
twenty-each m n k j p q r = omega (arith, p, q, r)

pub few : (s : Scenario) (st : State) (h : List Entry) → Formed s → StandsFor s st h → Counted st st.entries
few s st h f p =
    let n : st.entries ≡ length h = p.entries in
    let b : FewBooks (books s h) (length h) = books-few s h f in
    let bp : length (books s h).packets ≤ 4 * length h = b.packets in
    let bg : length (books s h).cookies ≤ length h = b.cookies in
    let np : length (books_in st).packets ≡ length (books s h).packets = ap (λ (ps : List Packet). length ps) p.books.packets in
    let ng : length (books_in st).cookies ≡ length (books s h).cookies = ap (λ (gs : List Cookie). length gs) p.books.cookies in
    record {
      calls = at-most _ _ _ _ p.calls.number n (calls-few h);
      objects = at-most _ _ _ _ p.objects.number n (objects-few h);
      stas = at-most _ _ _ _ (ap (λ (xs : List ℕ). length xs) p.apartments.stas) n (stas-few h);
      causes = at-most _ _ _ _ p.calls.causes n (causes-few h);
      openers = λ l. at-most _ _ _ _ (ap (λ (os : List Opener). length os) (p.lanes.openers l)) n (openers-few h l);
      served = λ l. at-most _ _ _ _ (p.lanes.served l) n (served-few h l);
      counts = λ l. at-most _ _ _ _ (p.lanes.counts l) n (counts-few s h l p.lawful);
      posted = λ l. at-most _ _ _ _ (ap (λ (m : Mail). m.posted) (p.lanes.mail l)) n (posted-few h l);
      packets = omega (arith, n, bp, np);
      cookies = omega (arith, n, bg, ng);
      proxies = λ a o i. twenty-each _ _ _ _ (p.books.proxy a o i) n (proxies-few s h f p.lawful a o i);
    }

-- ---- within the limit

pub limited : (s : Scenario) → limit s ≤ 1000000
limited s = elim (s.version == 2) as (λ t. cond t 1000000 200000 ≤ 1000000) [ true ↦ omega arith | false ↦ omega arith ]

small : (n m : ℕ) → n ≤ m → m ≤ 1000000 → n + 1 < 2 ^ 32
small n m p q = omega (arith, p, q)

small-long : (n m : ℕ) → n ≤ m → m ≤ 1000000 → n + 1 < 2 ^ 64
small-long n m p q = omega (arith, p, q)

small-stas : (n m : ℕ) → n ≤ m → m ≤ 1000000 → n + 4 ≤ 2 ^ 32
small-stas n m p q = omega (arith, p, q)

small-next : (n m : ℕ) → n ≤ m → m ≤ 1000000 → n + 3 + 1 < 2 ^ 32
small-next n m p q = omega (arith, p, q)

small-packets : (n m : ℕ) → n ≤ 4 * m → m ≤ 1000000 → n + 4 < 2 ^ 32
small-packets n m p q = omega (arith, p, q)

placed : (st : State) → st.entries ≤ 1000000 → Counted st st.entries → HasPlace st
placed st q c = record {
  lanes = record {
    served = λ l. small-long (served_in st l) st.entries (c.served l) q;
    counts = λ l. small (slice_index_or st.counts l 0) st.entries (c.counts l) q;
    posted = λ l. small-long (slice_index_or st.mail l no_mail).posted st.entries (c.posted l) q;
    stas = small-stas (length st.stas) st.entries c.stas q;
  };
  openers = λ l. small (length (openers_in st l)) st.entries (c.openers l) q;
  apartments = small-next (length st.stas) st.entries c.stas q;
  calls = small (length st.issues) st.entries c.calls q;
  causes = small st.causes st.entries c.causes q;
  objects = small (length st.makings) st.entries c.objects q;
  packets = small-packets (length (books_in st).packets) st.entries c.packets q;
  cookies = small (length (books_in st).cookies) st.entries c.cookies q;
}

pub place : (s : Scenario) (st : State) (h : List Entry) → Formed s → StandsFor s st h → st.entries ≤ limit s → HasPlace st
place s st h f p q = let k : limit s ≤ 1000000 = limited s in placed st (omega (arith, q, k)) (few s st h f p)

-- ---- what an entry names

low : (o n : ℕ) → nat_le o n ≡ true → o ≤ n
low o n p = grind (arith, common_steps, p)

made-by : (s : Scenario) (h : List Entry) (l : ℕ) (d : Deed) → FineBy (objects h) (length s.classes.interfaces) (next_sta h) d → ReleasesOnce s h l d → IsMade (objects h) (finals d)
made-by s h l (deed.Final o) g r =
    let z : (nat_le 1 o && nat_le o (objects h)) ≡ true = and-left (nat_le 1 o && nat_le o (objects h)) _ r.2 in
    (low 1 o (and-left (nat_le 1 o) (nat_le o (objects h)) z), g)
made-by s h l _ g r = tt

ended-below : (n : ℕ) (b : Bool) (a : ℕ) → a < n → IsBelow n (where_true b a)
ended-below n true a p = p
ended-below n false a p = tt

ends-below : (k m n : ℕ) (d : Deed) → FineBy k m n d → IsBelow n (ends_sta d)
ends-below k m n (deed.Uninit (Some a) zero) g = ended-below n (is_sta a) a g
ends-below k m n (deed.Uninit (Some a) (suc c)) g = tt
ends-below k m n (deed.Uninit None c) g = tt
ends-below k m n _ g = tt

sta-next : (s : Scenario) (h : List Entry) (l : ℕ) (d : Deed) → HomesSay s (sight s h) l d → IsNumber (next_sta h) (makes_sta d)
sta-next s h l (deed.Init m a hr) p = p
sta-next s h l _ p = tt

takes-back : (s : Scenario) (h : List Entry) (l : ℕ) (d : Deed) → HomesSay s (sight s h) l d → TakesBack (init_count h l) d
takes-back s h l (deed.Uninit home k) p = p
takes-back s h l _ p = tt

issued-by : (s : Scenario) (h : List Entry) (l : ℕ) (d : Deed) → legal s (record { lane = l; deed = d } ∷ h) → IssuedCall (calls h) d
issued-by s h l (deed.Retry c k) q =
    let z : InRange (0 + calls h) c = named-in-range s h (record { lane = l; deed = deed.Retry c k }) q in
    let high : c ≤ 0 + calls h = z.1 in
    (z.0, omega (arith, high))
issued-by s h l (deed.Again c) q =
    let z : InRange (0 + calls h) c = named-in-range s h (record { lane = l; deed = deed.Again c }) q in
    let high : c ≤ 0 + calls h = z.1 in
    (z.0, omega (arith, high))
issued-by s h l _ q = tt

next-call : (s : Scenario) (h : List Entry) (l m n : ℕ) (d : Deed) → HomesSay s (sight s h) l d → FineBy (objects h) m n d → NextCall (calls h) (objects h) d
next-call s h l m n (deed.Out c o i k r x bytes) p g = (p, g)
next-call s h l m n _ p g = tt

pub fits-parts : (s : Scenario) (st : State) (h : List Entry) (l : ℕ) (d : Deed) → Formed s → StandsFor s st h → next_of s st l ≡ Some d → FitsParts st l d
fits-parts s st h l d f p q =
    let e : Entry = record { lane = l; deed = d } in
    let n : next s h l ≡ Some d = sym (same-next s st h l p) ∙ q in
    let says : HomesSay s (sight s h) l d = homes-say s h l d n in
    let fine : FineBy (objects h) (length s.classes.interfaces) (next_sta h) d = fine-next s h e f (p.lawful, n) in
    record {
      stas = record {
        next = subst (λ (xs : List ℕ). IsNumber (length xs + 3) (makes_sta d)) (sym p.apartments.stas) (sta-next s h l d says);
        made = subst (λ (xs : List ℕ). IsBelow (length xs + 3) (ends_sta d)) (sym p.apartments.stas) (ends-below (objects h) (length s.classes.interfaces) (next_sta h) d fine);
      };
      made = subst (λ (k : ℕ). IsMade k (finals d)) (sym p.objects.number) (made-by s h l d fine (releases s h l d (next-source s h l d n)));
      issued = subst (λ (k : ℕ). IssuedCall k d) (sym p.calls.number) (issued-by s h l d (p.lawful, n));
      called = subst (λ (k : ℕ). NextCall k (length st.makings) d) (sym p.calls.number)
          (subst (λ (k : ℕ). NextCall (calls h) k d) (sym p.objects.number) (next-call s h l (length s.classes.interfaces) (next_sta h) d says fine));
      takes = subst (λ (k : ℕ). TakesBack k d) (sym (p.lanes.counts l)) (takes-back s h l d says);
    }
