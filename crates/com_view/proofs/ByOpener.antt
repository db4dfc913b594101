-- The entry that the rules give a lane, by what is innermost in it.
use Rattle.std.proofs.Common.{◌≡◌, ℕ, zero, suc, Bool, true, false, not, ◌&&◌, nat_le, List, [], ◌∷◌, Option, Some, None, is_none, slice_index_or, option_map, refl, ap, sym, ◌∙◌}
use Rattle.std.specs.Prelude.{if◌then◌else◌}
use Rattle.com_refs_books.specs.Changes.{Books}
use Rattle.com_model.specs.declared.deeds.Deed.{Deed}
use Rattle.com_model.specs.declared.deeds.Deed.TheVariants as deed
use Rattle.com_model.specs.declared.keeps.Opener.{Opener}
use Rattle.com_model.specs.declared.keeps.Opener.TheVariants.{Pumps, Waits, Enters}
use Rattle.com_model.specs.declared.keeps.Word.{Word}
use Rattle.com_model.specs.declared.scenario.Scenario.{Scenario}
use Rattle.com_model.specs.Apartments.{home_by_sort, is_sta, mta}
use Rattle.com_model.specs.Calls.{is_post, route_of}
use Rattle.com_model.specs.Deeds.{in_sta}
use Rattle.com_model.specs.Endings.{Answer, answer_of}
use Rattle.com_model.specs.Lists.{first, or_else, where_true}
use Rattle.com_model.specs.Rules.{admission, admits_next, admits_sta, answered, asked_on, enters_itself, is_open_to_calls, is_script_turn, packet_left, posted_again, retried, rule_again, rule_answer, rule_bound, rule_inbox, rule_own, rule_pending, rule_retry, rule_script, rule_word, ruled, scripted, takes_word, top}
use Rattle.com_model.specs.Sight.{Sight}
use Rattle.com_model.specs.Tables.{LaneSort, Thread, Host, Pool, NoLane, lane_sort}
use Rattle.com_model.specs.Waiting.{bound_reached, mark_of, not_asked}
use Rattle.com_view.specs.Ruled.{answer_deed, asked_deed, direct_deed, has_served, home_call, idle_call, posted_deed, pump_deed, stirs_to, wait_deed}
use Rattle.com_view.specs.Seen.{Seen, dying_seen, sight_by}
use Rattle.com_view.proofs.ByTop.{again_is, answer_is, body_is_none, bound_of, no_script, nobody_pumps, own_is, pending_is, rest, retry_is, wait_is_none, word_is}

-- ---- the call that is let in

either : (b : Bool) (x : Option ℕ) → (if b then x else x) ≡ x
either true x = refl
either false x = refl

swapped : (p q : Bool) (x : Option ℕ) → (if p && q then x else None) ≡ (if q then (if p then x else None) else None)
swapped true true x = refl
swapped true false x = refl
swapped false true x = refl
swapped false false x = refl

sta_call : (v : Sight) (l : ℕ) (x : LaneSort) (o : Option Opener) (home : Option ℕ) → top v l ≡ o
    → admits_sta v l x home ≡ (if is_open_to_calls v x o then home_call v home else None)
sta_call v l x o None e = sym (either (is_open_to_calls v x o) None)
sta_call v l x o (Some a) e =
    ap (λ (t : Option Opener). if is_sta a && is_open_to_calls v x t then first (v.inbox a) else None) e
    ∙ swapped (is_sta a) (is_open_to_calls v x o) (first (v.inbox a))

-- A lane of the pool in which something is open lets in nothing, and its home is no STA.
open_call : (v : Sight) (l : ℕ) (x : LaneSort) (o : Opener) (h : Option ℕ) → top v l ≡ Some o → v.home l ≡ home_by_sort x h
    → admits_next v l x ≡ (if is_open_to_calls v x (Some o) then home_call v (v.home l) else None)
open_call v l Thread o h e p = sta_call v l Thread (Some o) (v.home l) e
open_call v l Host o h e p = sta_call v l Host (Some o) (v.home l) e
open_call v l NoLane o h e p = sta_call v l NoLane (Some o) (v.home l) e
open_call v l Pool o h e p =
    ap (λ (t : Option Opener). if is_none t then first (v.inbox mta) else None) e
    ∙ sym (ap (λ (t : Option ℕ). if is_open_to_calls v Pool (Some o) then home_call v t else None) p ∙ either (is_open_to_calls v Pool (Some o)) None)

idle_is : (v : Sight) (l : ℕ) (x : LaneSort) (h : Option ℕ) → top v l ≡ None → v.home l ≡ home_by_sort x h → admits_next v l x ≡ idle_call v x
idle_is v l Thread h e p = sta_call v l Thread None (v.home l) e
idle_is v l Host h e p = sta_call v l Host None (v.home l) e ∙ ap (λ (t : Option ℕ). home_call v t) p
idle_is v l NoLane h e p = sta_call v l NoLane None (v.home l) e
idle_is v l Pool h e p = ap (λ (t : Option Opener). if is_none t then first (v.inbox mta) else None) e

inbox_is : (s : Scenario) (v : Sight) (l : ℕ) (q : Option ℕ) → admits_next v l (lane_sort s l) ≡ q → rule_inbox s v l ≡ option_map (admission s v l) q
inbox_is s v l q e = ap (λ (t : Option ℕ). option_map (admission s v l) t) e

-- ---- the pump's bound

served_is : (os : List Opener) (k n : ℕ) → first os ≡ Some (Pumps k) → bound_reached os n ≡ has_served k n
served_is [] k n e = absurd cc
served_is (Pumps zero ∷ os) zero n e = refl
served_is (Pumps zero ∷ os) (suc k) n e = absurd cc
served_is (Pumps (suc j) ∷ os) zero n e = absurd cc
served_is (Pumps (suc j) ∷ os) (suc k) n e = let same : suc j ≡ suc k = cc in ap (λ (m : ℕ). nat_le m n) same
served_is (Waits c ∷ os) k n e = absurd cc
served_is (Enters c o a ∷ os) k n e = absurd cc

bound_is : (v : Sight) (l : ℕ) (b : Bool) → bound_reached (v.openers l) (v.served l) ≡ b → rule_bound v l ≡ where_true b deed.EndPump
bound_is v l b e = ap (λ (t : Bool). where_true t deed.EndPump) e

-- ---- the whole chain, behind the Final

eight : (own ans bnd inb ret aga pen wor a b c d e f g h scr : Option Deed) → own ≡ a → ans ≡ b → bnd ≡ c → inb ≡ d → ret ≡ e → aga ≡ f → pen ≡ g → wor ≡ h
    → or_else own (or_else ans (or_else bnd (or_else inb (or_else ret (or_else aga (or_else pen (or_else wor scr)))))))
    ≡ or_else a (or_else b (or_else c (or_else d (or_else e (or_else f (or_else g (or_else h scr)))))))
eight own ans bnd inb ret aga pen wor a b c d e f g h scr pa pb pc pd pe pf pg ph = rw (pa, pb, pc, pd, pe, pf, pg, ph) refl

by : (s : Scenario) (v : Sight) (l : ℕ) (a b c d e f g h : Option Deed) → rule_own s v l ≡ a → rule_answer v l ≡ b → rule_bound v l ≡ c → rule_inbox s v l ≡ d
    → rule_retry s v l ≡ e → rule_again v l ≡ f → rule_pending s v l ≡ g → rule_word v l ≡ h
    → rest s v l ≡ or_else a (or_else b (or_else c (or_else d (or_else e (or_else f (or_else g (or_else h (rule_script s v l))))))))
by s v l a b c d e f g h =
    eight (rule_own s v l) (rule_answer v l) (rule_bound v l) (rule_inbox s v l) (rule_retry s v l) (rule_again v l) (rule_pending s v l) (rule_word v l) a b c d e f g h (rule_script s v l)

-- Where something is open the script does not act.
script_none : (s : Scenario) (v : Sight) (l : ℕ) (o : Opener) → top v l ≡ Some o → rule_script s v l ≡ None
script_none s v l o e =
    ap (λ (t : Option Opener). where_true (is_script_turn (lane_sort s l) t (v.over l)) (scripted s v l (v.act l))) e
    ∙ ap (λ (t : Bool). where_true t (scripted s v l (v.act l))) (no_script (lane_sort s l) o (v.over l))

with_script : (x z r : Option Deed) → z ≡ None → r ≡ or_else x None → or_else x z ≡ r
with_script x z r e p = ap (λ (t : Option Deed). or_else x t) e ∙ sym p

-- ---- nothing is open

idle : (s : Scenario) (v : Sight) (l : ℕ) (h : Option ℕ) → top v l ≡ None → v.home l ≡ home_by_sort (lane_sort s l) h
    → or_else (stirs_to s v (lane_sort s l) l None) (rule_script s v l) ≡ rest s v l
idle s v l h e p =
    sym (by s v l None None None (option_map (admission s v l) (idle_call v (lane_sort s l))) None None None None
    (own_is s v l None e) (answer_is v l None e) (bound_is v l false (bound_of (v.openers l) None (v.served l) e nobody_pumps))
    (inbox_is s v l _ (idle_is v l (lane_sort s l) h e p)) (retry_is s v l None e) (again_is v l None e) (pending_is s v l None e) (word_is v l None e))

-- ---- a pump

pump_chain : (b i w : Option Deed) → or_else None (or_else None (or_else b (or_else i (or_else None (or_else None (or_else None (or_else w None))))))) ≡ or_else (or_else b (or_else i w)) None
pump_chain (Some x) i w = refl
pump_chain None (Some x) w = refl
pump_chain None None (Some x) = refl
pump_chain None None None = refl

pumping : (s : Scenario) (v : Sight) (l n : ℕ) (h : Option ℕ) → top v l ≡ Some (Pumps n) → v.home l ≡ home_by_sort (lane_sort s l) h
    → or_else (pump_deed s v l n) (rule_script s v l) ≡ rest s v l
pumping s v l n h e p =
    let z : rule_script s v l ≡ None = script_none s v l (Pumps n) e in
    with_script (pump_deed s v l n) (rule_script s v l) (rest s v l) z
    (by s v l None None (where_true (has_served n (v.served l)) deed.EndPump) (option_map (admission s v l) (home_call v (v.home l))) None None None
    (takes_word (first (v.mail l).words) (v.quit l))
    (own_is s v l _ e) (answer_is v l _ e) (bound_is v l _ (served_is (v.openers l) n (v.served l) e))
    (inbox_is s v l _ (open_call v l (lane_sort s l) (Pumps n) h e p)) (retry_is s v l _ e) (again_is v l _ e) (pending_is s v l _ e) (word_is v l _ e)
    ∙ ap (λ (t : Option Deed). or_else None (or_else None (or_else (where_true (has_served n (v.served l)) deed.EndPump) (or_else (option_map (admission s v l) (home_call v (v.home l)))
    (or_else None (or_else None (or_else None (or_else (takes_word (first (v.mail l).words) (v.quit l)) t)))))))) z
    ∙ pump_chain (where_true (has_served n (v.served l)) deed.EndPump) (option_map (admission s v l) (home_call v (v.home l))) (takes_word (first (v.mail l).words) (v.quit l)))

-- ---- a call that is waited for

posted_chain : (a i r t p : Option Deed) → or_else None (or_else a (or_else None (or_else i (or_else r (or_else t (or_else p (or_else None None))))))) ≡ or_else (or_else a (or_else i (or_else (or_else r t) p))) None
posted_chain (Some x) i r t p = refl
posted_chain None (Some x) r t p = refl
posted_chain None None (Some x) t p = refl
posted_chain None None None (Some x) p = refl
posted_chain None None None None (Some x) = refl
posted_chain None None None None None = refl

direct_chain : {E F : Type 0} (f : F → Deed) (k : E → F) (y : Option E) (new : Bool) (d : Deed) (r t : Option Deed)
    → or_else (where_true (new && is_none y) d) (or_else (option_map f (option_map k y)) (or_else None (or_else None (or_else r (or_else t (or_else None (or_else None None)))))))
    ≡ or_else (or_else (option_map f (option_map k y)) (or_else (where_true new d) (or_else r t))) None
direct_chain f k (Some x) true d r t = refl
direct_chain f k (Some x) false d r t = refl
direct_chain f k None true d r t = refl
direct_chain f k None false d (Some x) t = refl
direct_chain f k None false d None (Some x) = refl
direct_chain f k None false d None None = refl

and_none : (b : Bool) → (b && false) ≡ false
and_none true = refl
and_none false = refl

not_made : (b : Bool) (d : Deed) → b ≡ false → where_true b d ≡ None
not_made true d e = absurd cc
not_made false d e = refl

-- Without post nobody is asked about words.
asked_none : (s : Scenario) (v : Sight) (l c : ℕ) (w : Option Word) → is_post (route_of (v.issue c)) ≡ false → asked_on s v l c w ≡ None
asked_none s v l c None e = refl
asked_none s v l c (Some w) e =
    not_made (in_sta (v.home l) && is_post (route_of (v.issue c))) _ (ap (λ (t : Bool). in_sta (v.home l) && t) e ∙ and_none (in_sta (v.home l)))

own_posted : (s : Scenario) (v : Sight) (l c : ℕ) → is_post (route_of (v.issue c)) ≡ true → where_true (enters_itself v c) (admission s v l c) ≡ None
own_posted s v l c e = ap (λ (t : Bool). where_true (not t && (is_none (v.admitted c) && is_none (v.ending c))) (admission s v l c)) e

own_direct : (s : Scenario) (v : Sight) (l c : ℕ) → is_post (route_of (v.issue c)) ≡ false
    → where_true (enters_itself v c) (admission s v l c) ≡ where_true (is_none (v.admitted c) && is_none (v.ending c)) (admission s v l c)
own_direct s v l c e = ap (λ (t : Bool). where_true (not t && (is_none (v.admitted c) && is_none (v.ending c))) (admission s v l c)) e

-- What a lane that waits lets in: nothing where its call does not go by post.
lets_in : (s : Scenario) (v : Sight) (l c : ℕ) (h : Option ℕ) (post : Bool) → top v l ≡ Some (Waits c) → v.home l ≡ home_by_sort (lane_sort s l) h → is_post (route_of (v.issue c)) ≡ post
    → rule_inbox s v l ≡ option_map (admission s v l) (if post then home_call v (v.home l) else None)
lets_in s v l c h post e p q =
    inbox_is s v l _ (open_call v l (lane_sort s l) (Waits c) h e p ∙ ap (λ (t : Bool). if t then home_call v (v.home l) else None) q)

waits_posted : (s : Scenario) (v : Sight) (l c : ℕ) (h : Option ℕ) → top v l ≡ Some (Waits c) → v.home l ≡ home_by_sort (lane_sort s l) h → is_post (route_of (v.issue c)) ≡ true
    → or_else (or_else (answer_deed v c) (posted_deed s v l c)) (rule_script s v l) ≡ rest s v l
waits_posted s v l c h e p q =
    let z : rule_script s v l ≡ None = script_none s v l (Waits c) e in
    let i : Option Deed = option_map (admission s v l) (home_call v (v.home l)) in
    let r : Option Deed = retried s v l c (v.phase c) in
    let t : Option Deed = posted_again v c (v.phase c) in
    with_script (or_else (answer_deed v c) (posted_deed s v l c)) (rule_script s v l) (rest s v l) z
    (by s v l None (answer_deed v c) None i r t (asked_deed s v l c) None
    (own_is s v l _ e ∙ own_posted s v l c q) (answer_is v l _ e) (bound_is v l false (bound_of (v.openers l) _ (v.served l) e (wait_is_none c)))
    (lets_in s v l c h true e p q) (retry_is s v l _ e) (again_is v l _ e) (pending_is s v l _ e) (word_is v l _ e)
    ∙ ap (λ (y : Option Deed). or_else None (or_else (answer_deed v c) (or_else None (or_else i (or_else r (or_else t (or_else (asked_deed s v l c) (or_else None y)))))))) z
    ∙ posted_chain (answer_deed v c) i r t (asked_deed s v l c))

waits_direct : (s : Scenario) (v : Sight) (l c : ℕ) (h : Option ℕ) → top v l ≡ Some (Waits c) → v.home l ≡ home_by_sort (lane_sort s l) h → is_post (route_of (v.issue c)) ≡ false
    → or_else (or_else (answer_deed v c) (direct_deed s v l c)) (rule_script s v l) ≡ rest s v l
waits_direct s v l c h e p q =
    let z : rule_script s v l ≡ None = script_none s v l (Waits c) e in
    let o : Option Deed = where_true (is_none (v.admitted c) && is_none (v.ending c)) (admission s v l c) in
    let r : Option Deed = retried s v l c (v.phase c) in
    let t : Option Deed = posted_again v c (v.phase c) in
    with_script (or_else (answer_deed v c) (direct_deed s v l c)) (rule_script s v l) (rest s v l) z
    (by s v l o (answer_deed v c) None None r t None None
    (own_is s v l _ e ∙ own_direct s v l c q) (answer_is v l _ e) (bound_is v l false (bound_of (v.openers l) _ (v.served l) e (wait_is_none c)))
    (lets_in s v l c h false e p q) (retry_is s v l _ e) (again_is v l _ e) (pending_is s v l _ e ∙ asked_none s v l c (not_asked (mark_of (v.mail l).marks c) (v.mail l).words) q) (word_is v l _ e)
    ∙ ap (λ (y : Option Deed). or_else o (or_else (answer_deed v c) (or_else None (or_else None (or_else r (or_else t (or_else None (or_else None y)))))))) z
    ∙ direct_chain (λ (x : Answer). answered v c x (packet_left v c)) (answer_of (v.at_issue c)) (v.ending c) (is_none (v.admitted c)) (admission s v l c) r t)

waiting : (s : Scenario) (v : Sight) (l c : ℕ) (h : Option ℕ) (post : Bool) → top v l ≡ Some (Waits c) → v.home l ≡ home_by_sort (lane_sort s l) h → is_post (route_of (v.issue c)) ≡ post
    → or_else (wait_deed s v l c) (rule_script s v l) ≡ rest s v l
waiting s v l c h true e p q =
    ap (λ (t : Bool). or_else (or_else (answer_deed v c) (if t then posted_deed s v l c else direct_deed s v l c)) (rule_script s v l)) q ∙ waits_posted s v l c h e p q
waiting s v l c h false e p q =
    ap (λ (t : Bool). or_else (or_else (answer_deed v c) (if t then posted_deed s v l c else direct_deed s v l c)) (rule_script s v l)) q ∙ waits_direct s v l c h e p q

-- ---- a body

entered : (s : Scenario) (v : Sight) (l c o a : ℕ) (h : Option ℕ) → top v l ≡ Some (Enters c o a) → v.home l ≡ home_by_sort (lane_sort s l) h
    → or_else None (rule_script s v l) ≡ rest s v l
entered s v l c o a h e p =
    sym (by s v l None None None None None None None None
    (own_is s v l _ e) (answer_is v l _ e) (bound_is v l false (bound_of (v.openers l) _ (v.served l) e (body_is_none c o a)))
    (inbox_is s v l None (open_call v l (lane_sort s l) (Enters c o a) h e p)) (retry_is s v l _ e) (again_is v l _ e) (pending_is s v l _ e) (word_is v l _ e))

by_top : (s : Scenario) (v : Sight) (l : ℕ) (o : Option Opener) (h : Option ℕ) → top v l ≡ o → v.home l ≡ home_by_sort (lane_sort s l) h
    → or_else (stirs_to s v (lane_sort s l) l o) (rule_script s v l) ≡ rest s v l
by_top s v l None h e p = idle s v l h e p
by_top s v l (Some (Pumps n)) h e p = pumping s v l n h e p
by_top s v l (Some (Waits c)) h e p = waiting s v l c h (is_post (route_of (v.issue c))) e p refl
by_top s v l (Some (Enters c x a)) h e p = entered s v l c x a h e p

-- ---- as the view reads it

given : (x : Option ℕ) (o : ℕ) (z r : Option Deed) → x ≡ Some o → or_else (Some (deed.Final o)) z ≡ or_else (option_map (λ o. deed.Final o) x) r
given x o z r e = rw e refl

not_given : (x : Option ℕ) (r : Option Deed) → x ≡ None → r ≡ or_else (option_map (λ o. deed.Final o) x) r
not_given x r e = rw e refl

pub ruled_by_final : (w : Seen) (b : Books) (l o : ℕ) → first (dying_seen w l) ≡ Some o
    → or_else (Some (deed.Final o)) (rule_script w.scenario (sight_by w b) l) ≡ ruled w.scenario (sight_by w b) l
ruled_by_final w b l o e =
    given (first (dying_seen w l)) o (rule_script w.scenario (sight_by w b) l) (rest w.scenario (sight_by w b) l) e

pub none_dies : (x : Option ℕ) → ((o : ℕ) → x ≡ Some o → ⊥) → x ≡ None
none_dies None p = refl
none_dies (Some o) p = absurd (p o refl)

pub ruled_by_top : (w : Seen) (b : Books) (l : ℕ) → first (dying_seen w l) ≡ None
    → or_else (stirs_to w.scenario (sight_by w b) (lane_sort w.scenario l) l (top (sight_by w b) l)) (rule_script w.scenario (sight_by w b) l)
    ≡ ruled w.scenario (sight_by w b) l
ruled_by_top w b l e =
    by_top w.scenario (sight_by w b) l (top (sight_by w b) l) (slice_index_or w.lanes.homes l None) refl refl
    ∙ not_given (first (dying_seen w l)) (rest w.scenario (sight_by w b) l) e
