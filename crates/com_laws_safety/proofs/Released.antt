-- A Final is the first of its object, which nothing holds, and which is not connected.
use Rattle.std.proofs.Common.{subst, sym, ap, ◌∙◌, eqb-true}
use Rattle.std.proofs.lemmas.List.Sums.{sum_by-cons}
use Rattle.std.specs.Prelude.{◌≡◌, refl, ℕ, ◌+◌, Bool, true, false, cond, not, ◌==◌, ◌||◌, ◌&&◌, nat_le, length, List, [], ◌∷◌, map, sum_by, Option, Some, None}
use Rattle.com_model.specs.declared.deeds.Deed.{Deed}
use Rattle.com_model.specs.declared.deeds.Deed.TheVariants as deed
use Rattle.com_model.specs.declared.deeds.Entry.{Entry}
use Rattle.com_model.specs.declared.scenario.Scenario.{Scenario}
use Rattle.com_model.specs.Answers.{RPC_E_OUT_OF_RESOURCES, RPC_E_SERVER_CANTUNMARSHAL_DATA}
use Rattle.com_model.specs.Lists.{first, number_or_zero, is_number, where_true}
use Rattle.com_refs_books.specs.Counting.{count_if}
use Rattle.com_model.specs.Openers.{openers}
use Rattle.com_model.specs.Apartments.{running, ends_sta, serves}
use Rattle.com_model.specs.Objects.{objects, makes, named, disconnects, finaled}
use Rattle.com_model.specs.Calls.{object_of}
use Rattle.com_model.specs.Frames.{scene, act}
use Rattle.com_model.specs.Places.{ground, all_places, direct_places}
use Rattle.com_model.specs.Endings.{Answer, ending, is_leave}
use Rattle.com_refs_books.specs.Changes.{Books, is_weak, packet_holds, cookie_holds, held_outside, cut_packet, cut_cookie, cut, no_packet}
use Rattle.com_model.specs.Books.{books, most, made_by, holders}
use Rattle.com_refs_books.specs.declared.keeps.Packet.{Packet}
use Rattle.com_refs_books.specs.declared.keeps.Cookie.{Cookie}
use Rattle.com_model.specs.Dying.{is_entered, is_dying, fallen}
use Rattle.com_model.specs.Deeds.{uninitialised}
use Rattle.com_model.specs.Sight.{Sight, sight}
use Rattle.com_model.specs.Rules.{posted_to_sta, call_sort, verdict_on, is_handled_in, arguments_gone, admission, packet_left, answered, after_script, legal}
use Rattle.com_model.specs.Safe.{EachEntry}
use Rattle.com_model.proofs.Given.{cond-of}
use Rattle.com_model.proofs.Comes.{first-filter}
use Rattle.com_laws_safety.specs.Released.{ReleasesOnce, ReleasesBare}
use Rattle.com_laws_safety.proofs.Small.{not-both, differ, not-true, and-left, and-right}
use Rattle.com_laws_safety.proofs.Sources.{IsRest, Source, by_body, by_script, by_end, by_final, by_own, by_answer, by_inbox, by_retry, by_again, by_rest}
use Rattle.com_laws_safety.proofs.Acted.{ActionSort, action_sort, OfAction, deed-acted}
use Rattle.com_laws_safety.proofs.Caused.{each-next}

-- ---- the cut leaves what holds a connected object

no-count : (w x y : Bool) → y ≡ false → 0 ≡ count_if (w && (x && y))
no-count false x y f = refl
no-count true false y f = refl
no-count true true true f = absurd (not-both true refl f)
no-count true true false f = refl

cut-packet-holds : (live : ℕ → Bool) (o : ℕ) (p : Packet) → live o ≡ true → packet_holds o (cut_packet live p) ≡ packet_holds o p
cut-packet-holds live o p e =
    elim (live p.object) as (λ t. live p.object ≡ t → packet_holds o (cond t p no_packet) ≡ packet_holds o p) [
      | true ↦ λ z. refl
      | false ↦ λ z. no-count p.outstanding (not (is_weak p.mode)) (p.object == o) (differ (p.object == o) (λ q. not-both (live p.object) (subst (λ (x : ℕ). live x ≡ true) (sym (eqb-true p.object o q)) e) z))
    ] refl

cut-packets-hold : (live : ℕ → Bool) (o : ℕ) (ps : List Packet) → live o ≡ true → sum_by (packet_holds o) (map (cut_packet live) ps) ≡ sum_by (packet_holds o) ps
cut-packets-hold live o [] e = refl
cut-packets-hold live o (p ∷ ps) e =
    sum_by-cons (packet_holds o) (cut_packet live p) (map (cut_packet live) ps)
    ∙ ap (λ n. n + sum_by (packet_holds o) (map (cut_packet live) ps)) (cut-packet-holds live o p e)
    ∙ ap (λ n. packet_holds o p + n) (cut-packets-hold live o ps e)
    ∙ sym (sum_by-cons (packet_holds o) p ps)

cut-cookies-hold : (live : ℕ → Bool) (o : ℕ) (gs : List Cookie) → sum_by (cookie_holds o) (map (cut_cookie live) gs) ≡ sum_by (cookie_holds o) gs
cut-cookies-hold live o [] = refl
cut-cookies-hold live o (g ∷ gs) =
    sum_by-cons (cookie_holds o) (cut_cookie live g) (map (cut_cookie live) gs)
    ∙ ap (λ n. cookie_holds o g + n) (cut-cookies-hold live o gs)
    ∙ sym (sum_by-cons (cookie_holds o) g gs)

cut-holds : (live : ℕ → Bool) (o : ℕ) (b : Books) → live o ≡ true → held_outside (cut live b) o ≡ held_outside b o
cut-holds live o b e =
    ap (λ n. n + sum_by (cookie_holds o) (map (cut_cookie live) b.cookies)) (cut-packets-hold live o b.packets e)
    ∙ ap (λ n. sum_by (packet_holds o) b.packets + n) (cut-cookies-hold live o b.cookies)

-- ---- a connected object has a holder

held-live : (h d a n : Bool) → (h && (not d && (not a && not n))) ≡ true → n ≡ false
held-live true false false true e = cc
held-live true false false false e = refl
held-live true false true n e = cc
held-live true true a n e = cc
held-live false d a n e = cc

-- The holders of what is connected, after the cut as before it.
held-in : (live : ℕ → Bool) (o : ℕ) (b : Books) (n d : ℕ) → live o ≡ true → cond (live o) (n + held_outside (cut live b) o) d ≡ n + held_outside b o
held-in live o b n d e = ap (λ t. cond t (n + held_outside (cut live b) o) d) e ∙ ap (λ k. n + k) (cut-holds live o b e)

-- What is connected has a holder.
pub live-held : (s : Scenario) (h : List Entry) (o : ℕ) → (books s h).live o ≡ true → (holders s h o == 0) ≡ false
live-held s [] o e = cc
live-held s (e ∷ h) o q =
    let b : Books = most s (ground s (e ∷ h)) (scene s (e ∷ h)) (act s h e.lane) (λ c. is_leave (ending s h c)) (number_or_zero (running s h e.lane)) e.deed (books s h) in
    let n : ℕ = all_places s (ground s (e ∷ h)) (scene s (e ∷ h)) o in
    ap (λ x. x == 0) (held-in (books s (e ∷ h)).live o b n _ q)
    ∙ held-live (made_by (makes e.deed) o || b.live o) (is_number o (disconnects e.deed)) (is_number (named (e ∷ h) o) (ends_sta e.deed)) (n + held_outside b o == 0) q

-- ---- a Final

dying-first : (s : Scenario) (h : List Entry) (l o : ℕ) → is_dying s h o ≡ true → serves s h l (named h o) ≡ true → ReleasesOnce s h l (deed.Final o)
dying-first s h l o d f =
    let r : (not (finaled h o) && ((holders s h o == 0) && not (is_entered s (openers h) o))) ≡ true = and-right (nat_le 1 o && nat_le o (objects h)) _ d in
    let n : (holders s h o == 0) ≡ true = and-left (holders s h o == 0) _ (and-right (not (finaled h o)) _ r) in
    (not-true (finaled h o) (and-left (not (finaled h o)) _ r), f, d, differ ((books s h).live o) (λ q. not-both (holders s h o == 0) n (live-held s h o q)))

final-releases : (s : Scenario) (h : List Entry) (l o : ℕ) → first ((sight s h).dying l) ≡ Some o → ReleasesOnce s h l (deed.Final o)
final-releases s h l o e =
    let w : (is_dying s h o && serves s h l (named h o)) ≡ true = (first-filter (λ x. is_dying s h x && serves s h l (named h x)) (fallen s h) o e).0 in
    dying-first s h l o (and-left (is_dying s h o) _ w) (and-right (is_dying s h o) _ w)

-- ---- the rules

acted-releases : (s : Scenario) (h : List Entry) (l : ℕ) (b : ActionSort) (d : Deed) → OfAction b d → ReleasesOnce s h l d
acted-releases s h l b (deed.Final o) p = absurd p
acted-releases s h l b _ p = tt

rest-releases : (s : Scenario) (h : List Entry) (l : ℕ) (d : Deed) → IsRest d → ReleasesOnce s h l d
rest-releases s h l (deed.Final o) p = absurd p
rest-releases s h l _ p = tt

answered-releases : (s : Scenario) (h : List Entry) (l c : ℕ) (x : Answer) (p : Option ℕ) → ReleasesOnce s h l (answered (sight s h) c x p)
answered-releases s h l c x (Some p) = tt
answered-releases s h l c x None = tt

ended-releases : (s : Scenario) (h : List Entry) (l : ℕ) → ReleasesOnce s h l (after_script (sight s h) l)
ended-releases s h l = cond-of (ReleasesOnce s h l) ((sight s h).count l == 0) deed.End (uninitialised (sight s h) l) tt tt

admission-releases : (s : Scenario) (h : List Entry) (l c : ℕ) → ReleasesOnce s h l (admission s (sight s h) l c)
admission-releases s h l c =
    let v : Sight = sight s h in
    cond-of (ReleasesOnce s h l) (nat_le 256 (length (v.openers l))) (deed.Refuse c RPC_E_OUT_OF_RESOURCES) _ tt
    (cond-of (ReleasesOnce s h l) (posted_to_sta v c && not (is_handled_in s v l c)) (deed.Verdict c (call_sort v l c) (verdict_on s v l c)) _ tt
    (cond-of (ReleasesOnce s h l) (arguments_gone v c) (deed.Refuse c RPC_E_SERVER_CANTUNMARSHAL_DATA) (deed.Enter c (object_of (v.issue c)) (v.owner (object_of (v.issue c)) l) (where_true (posted_to_sta v c) (call_sort v l c)) (v.unread c)) tt tt))

pub releases : (s : Scenario) (h : List Entry) (l : ℕ) (d : Deed) → Source s (sight s h) l d → ReleasesOnce s h l d
releases s h l d (by_body c o a os x p q e) = acted-releases s h l (action_sort x) d (subst (OfAction (action_sort x)) e (deed-acted s (sight s h) l x))
releases s h l d (by_script x p t q e) = acted-releases s h l (action_sort x) d (subst (OfAction (action_sort x)) e (deed-acted s (sight s h) l x))
releases s h l d (by_end p t e) = subst (ReleasesOnce s h l) e (ended-releases s h l)
releases s h l d (by_final o p e) = subst (ReleasesOnce s h l) e (final-releases s h l o p)
releases s h l d (by_own c p q e) = subst (ReleasesOnce s h l) e (admission-releases s h l c)
releases s h l d (by_answer c x p q e) = subst (ReleasesOnce s h l) e (answered-releases s h l c x (packet_left (sight s h) c))
releases s h l d (by_inbox c p q e) = subst (ReleasesOnce s h l) e (admission-releases s h l c)
releases s h l d (by_retry c n x q e) = subst (ReleasesOnce s h l) e tt
releases s h l d (by_again c t q e) = subst (ReleasesOnce s h l) e tt
releases s h l d (by_rest p) = rest-releases s h l d p

pub legal-released : (s : Scenario) (h : List Entry) → legal s h → EachEntry (ReleasesOnce s) h
legal-released s = each-next s (ReleasesOnce s) (λ h l d p z. releases s h l d z)

-- ---- what a Final finds

-- What is not connected has its direct places alone for holders.
held-off : (live : Bool) (n d : ℕ) → live ≡ false → (cond live n d == 0) ≡ true → d ≡ 0
held-off true n d e p = cc
held-off false n d e p = eqb-true d 0 p

bare : (s : Scenario) (h : List Entry) (l : ℕ) (d : Deed) → ReleasesOnce s h l d → ReleasesBare s h l d
bare s h l (deed.Final o) p =
    let q : ((holders s h o == 0) && not (is_entered s (openers h) o)) ≡ true = and-right (not (finaled h o)) _ (and-right (nat_le 1 o && nat_le o (objects h)) _ p.2) in
    (held-off ((books s h).live o) _ (direct_places s (ground s h) (scene s h) o) p.3 (and-left (holders s h o == 0) _ q), not-true (is_entered s (openers h) o) (and-right (holders s h o == 0) _ q))
bare s h l _ p = tt

pub legal-bare : (s : Scenario) (h : List Entry) → legal s h → EachEntry (ReleasesBare s) h
legal-bare s = each-next s (ReleasesBare s) (λ h l d p z. bare s h l d (releases s h l d z))
