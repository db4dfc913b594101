-- What is cut, and then ends.
use mathlib.Core.Path.{fun_ext}
use Rattle.std.proofs.Common.{◌≡◌, ℕ, Bool, true, false, eqb, cond, not, ◌&&◌, ◌+◌, ◌-◌, List, [], ◌∷◌, length, refl, sym, ap, subst, ◌∙◌, arith, eqb-true}
use Rattle.std.proofs.lemmas.Grind.{common_steps}
use Rattle.std.specs.Prelude.{map}
use Rattle.com_stub.specs.StubRows.{is_connected}
use Rattle.com_refs_books.specs.Counting.{sum_below}
use Rattle.com_refs_books.specs.Changes.{Books, cut, cut_packet, cut_cookie, given_back, no_packet, held_outside}
use Rattle.com_refs_books.specs.Ends.{stays, ends}
use Rattle.com_refs_books.specs.declared.keeps.Packet.{Packet}
use Rattle.com_refs_books.specs.declared.keeps.Cookie.{Cookie}
use Rattle.com_refs_holders.specs.Places.{SamePlaces, places_of, locals_of}
use Rattle.com_refs_holders.specs.Tables.{Tables, books_of, owns_of, object_in, made_in}
use Rattle.com_refs_holders.proofs.Same.{same_books}
use Rattle.com_refs.proofs.Ends.{holds-kept, holds-same}
use Rattle.com_refs.proofs.Losses.{live_is}
use Rattle.com_refs.proofs.Settling.{cut_none}
use Rattle.com_refs_rows.specs.Books.{Cut}

-- ---- the places stay

pub same_rows : (t u : Tables) → u.objects ≡ t.objects → u.proxies ≡ t.proxies → SamePlaces t u
same_rows t u eo er = record {
  made = ap (λ os. length os) eo;
  owns = λ x c. ap (λ os. owns_of os x c) eo;
  as_made = λ x. ap (λ os. made_in os x) eo;
  direct = λ x. ap (λ os. (object_in os x).direct) eo;
  elsewhere = λ c x. ap (λ rs. places_of c x rs) er;
  all_elsewhere = λ x. ap (λ rs. locals_of x rs) er;
}

pub same_all : (t u v : Tables) → SamePlaces t u → SamePlaces u v → SamePlaces t v
same_all t u v a b = record {
  made = b.made ∙ a.made;
  owns = λ x c. b.owns x c ∙ a.owns x c;
  as_made = λ x. b.as_made x ∙ a.as_made x;
  direct = λ x. b.direct x ∙ a.direct x;
  elsewhere = λ c x. b.elsewhere c x ∙ a.elsewhere c x;
  all_elsewhere = λ x. b.all_elsewhere x ∙ a.all_elsewhere x;
}

-- ---- a cut of a cut

module _ (more less : ℕ → Bool) (h : (x : ℕ) → less x ≡ true → more x ≡ true) where
  packet-again : (p : Packet) → cut_packet less (cut_packet more p) ≡ cut_packet less p
  packet-again p = elim (more p.object) as (λ l. more p.object ≡ l → cut_packet less (cond l p no_packet) ≡ cut_packet less p) [
    | true ↦ λ e. refl
    | false ↦ λ e. elim (less p.object) as (λ m. less p.object ≡ m → cut_packet less no_packet ≡ cond m p no_packet) [
      | true ↦ λ f. let yes : more p.object ≡ true = h p.object f in absurd (cc)
      | false ↦ λ f. grind (arith, common_steps)
    ] refl
  ] refl

  packets-again : (ps : List Packet) → map (cut_packet less) (map (cut_packet more) ps) ≡ map (cut_packet less) ps
  packets-again [] = refl
  packets-again (p ∷ ps) = ap (λ x. x ∷ map (cut_packet less) (map (cut_packet more) ps)) (packet-again p) ∙ ap (λ xs. cut_packet less p ∷ xs) (packets-again ps)

  number-again : (m l : Bool) (r : ℕ) → (m ≡ true → l ≡ true) → cond m (cond l r 0) 0 ≡ cond m r 0
  number-again true l r g = rw (g refl) refl
  number-again false l r g = refl

  cookies-again : (gs : List Cookie) → map (cut_cookie less) (map (cut_cookie more) gs) ≡ map (cut_cookie less) gs
  cookies-again [] = refl
  cookies-again (g ∷ gs) = ap (λ (n : ℕ). record g { refs = n } ∷ map (cut_cookie less) (map (cut_cookie more) gs)) (number-again (less g.object) (more g.object) g.refs (h g.object)) ∙ ap (λ xs. cut_cookie less g ∷ xs) (cookies-again gs)

  pub cut_again : (b : Books) → cut less (cut more b) ≡ cut less b
  cut_again b = same_books _ _ (record {
    stub = λ o i. number-again (less o) (more o) (b.stub o i) (h o);
    proxy = λ a o i. number-again (less o) (more o) (b.proxy a o i) (h o);
    packets = packets-again b.packets;
    cookies = cookies-again b.cookies;
    live = λ o. refl;
    arguments = refl;
    result = refl;
  })

-- ---- what is cut, and then ends, might as well only be disconnected

stub-cut : (m l : Bool) (s n : ℕ) (t : ℕ → Bool) (f : ℕ → ℕ) → (m ≡ true → l ≡ true) → cond m (cond l s 0 - sum_below n (λ a. cond (t a) (cond l (f a) 0) 0)) 0 ≡ cond m (s - sum_below n (λ a. cond (t a) (f a) 0)) 0
stub-cut true l s n t f h = rw (h refl) refl
stub-cut false l s n t f h = refl

proxy-cut : (m l t : Bool) (f : ℕ) → (m ≡ true → l ≡ true) → cond m (cond t 0 (cond l f 0)) 0 ≡ cond m (cond t 0 f) 0
proxy-cut true l t f h = rw (h refl) refl
proxy-cut false l t f h = refl

left-true : (p q : Bool) → p && q ≡ true → p ≡ true
left-true true q e = refl
left-true false q e = e

module _ (n : ℕ) (places : ℕ → ℕ → ℕ) (live : ℕ → Bool) (b : Books) where
  abbrev cut-off : Books
  cut-off = record b { live = live }

  held-test : (l : Bool) (k j : ℕ) → (l ≡ true → k ≡ j) → l && not (eqb k 0) ≡ l && not (eqb j 0)
  held-test true k j h = rw (h refl) refl
  held-test false k j h = refl

  stays-cut : (x : ℕ) → stays n places (cut live b) x ≡ stays n places cut-off x
  stays-cut x = held-test (live x) (sum_below n (λ a. places a x) + held_outside (cut live b) x) (sum_below n (λ a. places a x) + held_outside b x)
      (λ l. omega (arith, holds-kept live x l b.packets, holds-same live x b.cookies))

  under : (x : ℕ) → stays n places cut-off x ≡ true → live x ≡ true
  under x e = left-true (live x) _ e

  pub ends_cut : ends n places (cut live b) ≡ ends n places (record b { live = live })
  unfolding ends
  ends_cut =
      let test : stays n places (cut live b) ≡ stays n places cut-off = fun_ext stays-cut in
      ap (λ (t : ℕ → Bool). cut t (given_back n places (cut live b))) test ∙ same_books _ _ (record {
        stub = λ o i. stub-cut (stays n places cut-off o) (live o) (b.stub o i) n (λ a. eqb (places a o) 0) (λ a. b.proxy a o i) (under o);
        proxy = λ a o i. proxy-cut (stays n places cut-off o) (live o) (eqb (places a o) 0) (b.proxy a o i) (under o);
        packets = packets-again live (stays n places cut-off) under b.packets;
        cookies = cookies-again live (stays n places cut-off) under b.cookies;
        live = λ o. refl;
        arguments = refl;
        result = refl;
      })

-- ---- objects one after another

pub cut_nothing : (t u : Tables) (gone : ℕ → Bool) → u ≡ t → ((x : ℕ) → (books_of t).live x && not (gone x) ≡ (books_of t).live x) → Cut gone t u
cut_nothing t u gone e none = record {
  books = ap (λ (v : Tables). books_of v) e ∙ sym (cut_none t 0) ∙ ap (λ (l : ℕ → Bool). cut l (books_of t)) (fun_ext (λ x. kept ((books_of t).live x) (eqb x 0) ∙ sym (none x)));
  places = same_rows t u (ap (λ (v : Tables). v.objects) e) (ap (λ (v : Tables). v.proxies) e);
}
  where
    kept : (l e : Bool) → l && not (e && false) ≡ l
    kept true true = refl
    kept true false = refl
    kept false e = refl

-- An object that is not connected.
pub cut_dead : (t : Tables) (o : ℕ) → is_connected t.stubs o ≡ false → Cut (λ x. eqb x o) t t
cut_dead t o h = cut_nothing t t (λ x. eqb x o) refl (λ x. elim (eqb x o) as (λ p. eqb x o ≡ p → (books_of t).live x && not p ≡ (books_of t).live x) [
  | true ↦ λ e. let same : x ≡ o = eqb-true x o e in let dead : (books_of t).live x ≡ false = ap (λ (y : ℕ). (books_of t).live y) same ∙ sym (live_is t o) ∙ h in rw dead refl
  | false ↦ λ e. grind (arith, common_steps)
] refl)

pub cut_same : (gone all : ℕ → Bool) (t u : Tables) → ((x : ℕ) → gone x ≡ all x) → Cut gone t u → Cut all t u
cut_same gone all t u e f = subst (λ (g : ℕ → Bool). Cut g t u) (fun_ext e) f

pub cut_more : (t v u : Tables) (gone next all : ℕ → Bool) → ((x : ℕ) → not (all x) ≡ not (gone x) && not (next x)) → Cut gone t v → Cut next v u → Cut all t u
cut_more t v u gone next all e f g = record {
  books = g.books ∙ ap (λ (b : Books). cut (λ x. b.live x && not (next x)) b) f.books
      ∙ cut_again (λ x. (books_of t).live x && not (gone x)) (λ x. ((books_of t).live x && not (gone x)) && not (next x)) (λ x h. left-true _ _ h) (books_of t)
      ∙ ap (λ (l : ℕ → Bool). cut l (books_of t)) (fun_ext (λ x. group ((books_of t).live x) (not (gone x)) (not (next x)) ∙ ap (λ (w : Bool). (books_of t).live x && w) (sym (e x))));
  places = same_all t v u f.places g.places;
}
  where
    group : (p q r : Bool) → (p && q) && r ≡ p && (q && r)
    group true q r = refl
    group false q r = refl
