-- Which rules can give a lane an entry, by what is innermost in it.
use Rattle.std.proofs.Common.{◌≡◌, ℕ, Bool, true, false, not, ◌&&◌, ◌||◌, nat_le, List, [], ◌∷◌, Option, Some, None, is_some, is_none, slice_index_or, option_map, option_and_then, refl, ap, sym, ◌∙◌}
use Rattle.std.specs.Prelude.{if◌then◌else◌}
use Rattle.com_refs_books.specs.Changes.{Books}
use Rattle.com_model.specs.declared.deeds.Deed.{Deed}
use Rattle.com_model.specs.declared.keeps.Opener.{Opener}
use Rattle.com_model.specs.declared.keeps.Opener.TheVariants.{Pumps, Waits, Enters}
use Rattle.com_model.specs.declared.keeps.Phase.{Phase}
use Rattle.com_model.specs.declared.keeps.Phase.TheVariants as phase
use Rattle.com_model.specs.declared.keeps.Word.{Word}
use Rattle.com_model.specs.declared.scenario.Scenario.{Scenario}
use Rattle.com_model.specs.Apartments.{home_by_sort, is_sta, mta}
use Rattle.com_model.specs.Calls.{is_post, route_of}
use Rattle.com_model.specs.Deeds.{in_sta}
use Rattle.com_model.specs.Lists.{first, or_else, where_true}
use Rattle.com_model.specs.Rules.{admission, admits_next, admits_sta, answered, asked_on, due_of, enters_itself, is_open_to_calls, is_script_turn, packet_left, posted_again, pumped, retried, rule_again, rule_answer, rule_bound, rule_final, rule_inbox, rule_own, rule_pending, rule_retry, rule_script, rule_word, ruled, scripted, takes_word, top, waiting_call}
use Rattle.com_model.specs.Sight.{Sight}
use Rattle.com_model.specs.Tables.{LaneSort, Thread, Host, Pool, NoLane, lane_sort}
use Rattle.com_model.specs.Waiting.{bound_reached, mark_of, not_asked}
use Rattle.com_view.specs.Nexts.{has_moved, has_posted, idle_has, pump_has, stirs, wait_has}
use Rattle.com_view.specs.Seen.{Seen, bare, dying_seen, sight_by}

-- ---- whether a chain of rules gives an entry

some_or : (p q : Option Deed) → is_some (or_else p q) ≡ (is_some p || is_some q)
some_or None q = refl
some_or (Some d) q = refl

on : (p q : Option Deed) (b c : Bool) → is_some p ≡ b → is_some q ≡ c → is_some (or_else p q) ≡ (b || c)
on p q b c h k = some_or p q ∙ rw (h, k) refl

none_is : (p : Option Deed) → p ≡ None → is_some p ≡ false
none_is p e = ap (λ (x : Option Deed). is_some x) e

some_where : (b : Bool) (d : Deed) → is_some (where_true b d) ≡ b
some_where true d = refl
some_where false d = refl

some_map : {X Y : Type 0} → (f : X → Y) (x : Option X) → is_some (option_map f x) ≡ is_some x
some_map f None = refl
some_map f (Some y) = refl

or_false : (b : Bool) → (b || false) ≡ b
or_false true = refl
or_false false = refl

-- The nine rules behind that of the Final, by whether each gives an entry.
nine : (own ans bnd inb ret aga pen wor scr : Option Deed) (a b c d e f g h i : Bool) → is_some own ≡ a → is_some ans ≡ b → is_some bnd ≡ c → is_some inb ≡ d
    → is_some ret ≡ e → is_some aga ≡ f → is_some pen ≡ g → is_some wor ≡ h → is_some scr ≡ i
    → is_some (or_else own (or_else ans (or_else bnd (or_else inb (or_else ret (or_else aga (or_else pen (or_else wor scr))))))))
    ≡ (a || (b || (c || (d || (e || (f || (g || (h || i))))))))
nine own ans bnd inb ret aga pen wor scr a b c d e f g h i ha hb hc hd he hf hg hh hi =
    on own _ a _ ha (on ans _ b _ hb (on bnd _ c _ hc (on inb _ d _ hd (on ret _ e _ he (on aga _ f _ hf (on pen _ g _ hg (on wor scr h i hh hi)))))))

-- ---- the inbox

and_swap : (may : Bool) (p : Option ℕ) (b : Bool) → is_some (if b && may then p else None) ≡ (may && (b && is_some p))
and_swap true p true = refl
and_swap true p false = refl
and_swap false p true = refl
and_swap false p false = refl

and_none : (may : Bool) → (may && false) ≡ false
and_none true = refl
and_none false = refl

sta_inbox : (v : Sight) (l : ℕ) (x : LaneSort) (o : Option Opener) (home : Option ℕ) → top v l ≡ o
    → is_some (admits_sta v l x home) ≡ (is_open_to_calls v x o && has_posted v home)
sta_inbox v l x o None e = sym (and_none (is_open_to_calls v x o))
sta_inbox v l x o (Some a) e =
    ap (λ (t : Option Opener). is_some (if is_sta a && is_open_to_calls v x t then first (v.inbox a) else None)) e
    ∙ and_swap (is_open_to_calls v x o) (first (v.inbox a)) (is_sta a)

-- A lane of the pool in which something is open lets in nothing, and its home is no STA.
open_inbox : (v : Sight) (l : ℕ) (x : LaneSort) (o : Opener) (h : Option ℕ) → top v l ≡ Some o → v.home l ≡ home_by_sort x h
    → is_some (admits_next v l x) ≡ (is_open_to_calls v x (Some o) && has_posted v (v.home l))
open_inbox v l Thread o h e p = sta_inbox v l Thread (Some o) (v.home l) e
open_inbox v l Host o h e p = sta_inbox v l Host (Some o) (v.home l) e
open_inbox v l NoLane o h e p = sta_inbox v l NoLane (Some o) (v.home l) e
open_inbox v l Pool o h e p =
    ap (λ (t : Option Opener). is_some (if is_none t then first (v.inbox mta) else None)) e
    ∙ sym (ap (λ (t : Option ℕ). is_open_to_calls v Pool (Some o) && has_posted v t) p ∙ and_none (is_open_to_calls v Pool (Some o)))

idle_inbox : (v : Sight) (l : ℕ) (x : LaneSort) (h : Option ℕ) → top v l ≡ None → v.home l ≡ home_by_sort x h
    → (is_some (admits_next v l x) || is_script_turn x None (v.over l)) ≡ idle_has v x l
idle_inbox v l Thread h e p =
    rw (sta_inbox v l Thread None (v.home l) e) refl
idle_inbox v l Host h e p =
    rw (sta_inbox v l Host None (v.home l) e, p) (or_false _)
idle_inbox v l NoLane h e p =
    rw (sta_inbox v l NoLane None (v.home l) e) refl
idle_inbox v l Pool h e p =
    rw e (or_false _)

-- ---- each of the nine rules, where what is innermost is known

pub own_is : (s : Scenario) (v : Sight) (l : ℕ) (o : Option Opener) → top v l ≡ o
    → rule_own s v l ≡ option_and_then (λ c. where_true (enters_itself v c) (admission s v l c)) (waiting_call o)
own_is s v l o e = ap (λ (t : Option Opener). option_and_then (λ c. where_true (enters_itself v c) (admission s v l c)) (waiting_call t)) e

pub answer_is : (v : Sight) (l : ℕ) (o : Option Opener) → top v l ≡ o
    → rule_answer v l ≡ option_and_then (λ c. option_map (λ x. answered v c x (packet_left v c)) (due_of v c)) (waiting_call o)
answer_is v l o e = ap (λ (t : Option Opener). option_and_then (λ c. option_map (λ x. answered v c x (packet_left v c)) (due_of v c)) (waiting_call t)) e

pub retry_is : (s : Scenario) (v : Sight) (l : ℕ) (o : Option Opener) → top v l ≡ o
    → rule_retry s v l ≡ option_and_then (λ c. retried s v l c (v.phase c)) (waiting_call o)
retry_is s v l o e = ap (λ (t : Option Opener). option_and_then (λ c. retried s v l c (v.phase c)) (waiting_call t)) e

pub again_is : (v : Sight) (l : ℕ) (o : Option Opener) → top v l ≡ o
    → rule_again v l ≡ option_and_then (λ c. posted_again v c (v.phase c)) (waiting_call o)
again_is v l o e = ap (λ (t : Option Opener). option_and_then (λ c. posted_again v c (v.phase c)) (waiting_call t)) e

pub pending_is : (s : Scenario) (v : Sight) (l : ℕ) (o : Option Opener) → top v l ≡ o
    → rule_pending s v l ≡ option_and_then (λ c. asked_on s v l c (not_asked (mark_of (v.mail l).marks c) (v.mail l).words)) (waiting_call o)
pending_is s v l o e = ap (λ (t : Option Opener). option_and_then (λ c. asked_on s v l c (not_asked (mark_of (v.mail l).marks c) (v.mail l).words)) (waiting_call t)) e

pub word_is : (v : Sight) (l : ℕ) (o : Option Opener) → top v l ≡ o → rule_word v l ≡ pumped v l o
word_is v l o e = ap (λ (t : Option Opener). pumped v l t) e

script_is : (s : Scenario) (v : Sight) (l : ℕ) (o : Option Opener) → top v l ≡ o
    → is_some (rule_script s v l) ≡ is_script_turn (lane_sort s l) o (v.over l)
script_is s v l o e =
    some_where (is_script_turn (lane_sort s l) (top v l) (v.over l)) (scripted s v l (v.act l))
    ∙ ap (λ (t : Option Opener). is_script_turn (lane_sort s l) t (v.over l)) e

pub no_script : (x : LaneSort) (o : Opener) (over : Bool) → is_script_turn x (Some o) over ≡ false
no_script Thread o over = refl
no_script Host o over = refl
no_script Pool o over = refl
no_script NoLane o over = refl

pub bound_of : (os : List Opener) (o : Option Opener) (n : ℕ) → first os ≡ o → (pumps : (k : ℕ) → o ≡ Some (Pumps k) → ⊥) → bound_reached os n ≡ false
bound_of [] o n e p = refl
bound_of (Pumps k ∷ os) o n e p = absurd (p k (sym e))
bound_of (Waits c ∷ os) o n e p = refl
bound_of (Enters c x a ∷ os) o n e p = refl

pub nobody_pumps : (k : ℕ) → None ≡ Some (Pumps k) → ⊥
nobody_pumps k e = cc

pub wait_is_none : (c k : ℕ) → Some (Waits c) ≡ Some (Pumps k) → ⊥
wait_is_none c k e = cc

pub body_is_none : (c o a k : ℕ) → Some (Enters c o a) ≡ Some (Pumps k) → ⊥
body_is_none c o a k e = cc

inbox_some : (s : Scenario) (v : Sight) (l : ℕ) → is_some (rule_inbox s v l) ≡ is_some (admits_next v l (lane_sort s l))
inbox_some s v l = some_map (admission s v l) (admits_next v l (lane_sort s l))

moved_is : (s : Scenario) (v : Sight) (l c : ℕ) (f : Phase) → (is_some (retried s v l c f) || is_some (posted_again v c f)) ≡ has_moved v f
moved_is s v l c (phase.Judged x) = refl
moved_is s v l c (phase.Delayed t) = some_where (nat_le t v.clock) _
moved_is s v l c _ = refl

and_true : (b : Bool) → (b && true) ≡ b
and_true true = refl
and_true false = refl

asked_is : (s : Scenario) (v : Sight) (l c : ℕ) (w : Option Word) → is_some (asked_on s v l c w) ≡ ((in_sta (v.home l) && is_post (route_of (v.issue c))) && is_some w)
asked_is s v l c None = sym (and_none _)
asked_is s v l c (Some w) = some_where (in_sta (v.home l) && is_post (route_of (v.issue c))) _ ∙ sym (and_true _)

-- ---- the whole chain, behind the Final

abbrev pub rest : Scenario → Sight → ℕ → Option Deed
rest s v l =
    or_else (rule_own s v l) (or_else (rule_answer v l) (or_else (rule_bound v l) (or_else (rule_inbox s v l) (or_else (rule_retry s v l)
    (or_else (rule_again v l) (or_else (rule_pending s v l) (or_else (rule_word v l) (rule_script s v l))))))))

by : (s : Scenario) (v : Sight) (l : ℕ) (a b c d e f g h i : Bool) → is_some (rule_own s v l) ≡ a → is_some (rule_answer v l) ≡ b → is_some (rule_bound v l) ≡ c
    → is_some (rule_inbox s v l) ≡ d → is_some (rule_retry s v l) ≡ e → is_some (rule_again v l) ≡ f → is_some (rule_pending s v l) ≡ g → is_some (rule_word v l) ≡ h
    → is_some (rule_script s v l) ≡ i → is_some (rest s v l) ≡ (a || (b || (c || (d || (e || (f || (g || (h || i))))))))
by s v l = nine (rule_own s v l) (rule_answer v l) (rule_bound v l) (rule_inbox s v l) (rule_retry s v l) (rule_again v l) (rule_pending s v l) (rule_word v l) (rule_script s v l)

bound_some : (v : Sight) (l : ℕ) → is_some (rule_bound v l) ≡ bound_reached (v.openers l) (v.served l)
bound_some v l = some_where (bound_reached (v.openers l) (v.served l)) _

idle : (s : Scenario) (v : Sight) (l : ℕ) (h : Option ℕ) → top v l ≡ None → v.home l ≡ home_by_sort (lane_sort s l) h → is_some (rest s v l) ≡ idle_has v (lane_sort s l) l
idle s v l h e p =
    by s v l false false false (is_some (admits_next v l (lane_sort s l))) false false false false (is_script_turn (lane_sort s l) None (v.over l))
    (none_is _ (own_is s v l None e)) (none_is _ (answer_is v l None e)) (bound_some v l ∙ bound_of (v.openers l) None (v.served l) e nobody_pumps)
    (inbox_some s v l) (none_is _ (retry_is s v l None e)) (none_is _ (again_is v l None e)) (none_is _ (pending_is s v l None e)) (none_is _ (word_is v l None e))
    (script_is s v l None e)
    ∙ idle_inbox v l (lane_sort s l) h e p

pump_or : (w q b i : Bool) → (false || (false || (b || (i || (false || (false || (false || ((w || q) || false)))))))) ≡ (w || (q || (b || i)))
pump_or true true true true = refl
pump_or true true true false = refl
pump_or true true false true = refl
pump_or true true false false = refl
pump_or true false true true = refl
pump_or true false true false = refl
pump_or true false false true = refl
pump_or true false false false = refl
pump_or false true true true = refl
pump_or false true true false = refl
pump_or false true false true = refl
pump_or false true false false = refl
pump_or false false true true = refl
pump_or false false true false = refl
pump_or false false false true = refl
pump_or false false false false = refl

takes_some : (w : Option Word) (q : Bool) → is_some (takes_word w q) ≡ (is_some w || q)
takes_some None q = some_where q _
takes_some (Some w) q = refl

pump_opens : (v : Sight) (x : LaneSort) (n : ℕ) → is_open_to_calls v x (Some (Pumps n)) ≡ true
pump_opens v x n = refl

pumping : (s : Scenario) (v : Sight) (l n : ℕ) (h : Option ℕ) → top v l ≡ Some (Pumps n) → v.home l ≡ home_by_sort (lane_sort s l) h → is_some (rest s v l) ≡ pump_has v l
pumping s v l n h e p =
    by s v l false false (bound_reached (v.openers l) (v.served l)) (has_posted v (v.home l)) false false false (is_some (first (v.mail l).words) || v.quit l) false
    (none_is _ (own_is s v l _ e)) (none_is _ (answer_is v l _ e)) (bound_some v l)
    (inbox_some s v l ∙ open_inbox v l (lane_sort s l) (Pumps n) h e p) (none_is _ (retry_is s v l _ e)) (none_is _ (again_is v l _ e)) (none_is _ (pending_is s v l _ e))
    (ap (λ (x : Option Deed). is_some x) (word_is v l _ e) ∙ takes_some (first (v.mail l).words) (v.quit l))
    (script_is s v l _ e ∙ no_script (lane_sort s l) (Pumps n) (v.over l))
    ∙ pump_or (is_some (first (v.mail l).words)) (v.quit l) (bound_reached (v.openers l) (v.served l)) (has_posted v (v.home l))

-- What a waiting lane's rules come to, by what each test says: p, the call goes by post; n, it was not let in; e, it
-- is answered; r and t, it was judged or is due; h, its home is an STA; g and w, a call or a word has come.
wait_or : (p n e r t h g w : Bool)
    → ((not p && (n && not e)) || (e || (false || ((p && (h && g)) || (r || (t || (((h && p) && w) || (false || false))))))))
    ≡ (e || ((r || t) || (if p then h && (g || w) else n)))
wait_or true n true r t h g w = refl
wait_or false true true r t h g w = refl
wait_or false false true r t h g w = refl
wait_or true n false true true true true true = refl
wait_or true n false true true true true false = refl
wait_or true n false true true true false true = refl
wait_or true n false true true true false false = refl
wait_or true n false true true false g w = refl
wait_or true n false true false true true true = refl
wait_or true n false true false true true false = refl
wait_or true n false true false true false true = refl
wait_or true n false true false true false false = refl
wait_or true n false true false false g w = refl
wait_or true n false false true true true true = refl
wait_or true n false false true true true false = refl
wait_or true n false false true true false true = refl
wait_or true n false false true true false false = refl
wait_or true n false false true false g w = refl
wait_or true n false false false true true true = refl
wait_or true n false false false true true false = refl
wait_or true n false false false true false true = refl
wait_or true n false false false true false false = refl
wait_or true n false false false false g w = refl
wait_or false true false true true h g w = refl
wait_or false false false true true true g w = refl
wait_or false false false true true false g w = refl
wait_or false true false true false h g w = refl
wait_or false false false true false true g w = refl
wait_or false false false true false false g w = refl
wait_or false true false false true h g w = refl
wait_or false false false false true true g w = refl
wait_or false false false false true false g w = refl
wait_or false true false false false h g w = refl
wait_or false false false false false true g w = refl
wait_or false false false false false false g w = refl

none_not : {X : Type 0} → (x : Option X) → is_none x ≡ not (is_some x)
none_not None = refl
none_not (Some y) = refl

twice : (b c : Bool) → (b && c) ≡ (b && (b && c))
twice true c = refl
twice false c = refl

posted_in_sta : (v : Sight) (home : Option ℕ) → has_posted v home ≡ (in_sta home && has_posted v home)
posted_in_sta v None = refl
posted_in_sta v (Some a) = twice (is_sta a) (is_some (first (v.inbox a)))

waiting : (s : Scenario) (v : Sight) (l c : ℕ) (h : Option ℕ) → top v l ≡ Some (Waits c) → v.home l ≡ home_by_sort (lane_sort s l) h → is_some (rest s v l) ≡ wait_has v l c
waiting s v l c h e p =
    let post : Bool = is_post (route_of (v.issue c)) in
    let new : Bool = is_none (v.admitted c) in
    let done : Bool = is_some (v.ending c) in
    let judged : Bool = is_some (retried s v l c (v.phase c)) in
    let due : Bool = is_some (posted_again v c (v.phase c)) in
    let sta : Bool = in_sta (v.home l) in
    let came : Bool = has_posted v (v.home l) in
    let word : Bool = is_some (not_asked (mark_of (v.mail l).marks c) (v.mail l).words) in
    by s v l (not post && (new && not done)) done false (post && (sta && came)) judged due ((sta && post) && word) false false
    (ap (λ (x : Option Deed). is_some x) (own_is s v l _ e) ∙ some_where (enters_itself v c) _ ∙ ap (λ (b : Bool). not post && (new && b)) (none_not (v.ending c)))
    (ap (λ (x : Option Deed). is_some x) (answer_is v l _ e) ∙ some_map _ (due_of v c) ∙ some_map _ (v.ending c))
    (bound_some v l ∙ bound_of (v.openers l) _ (v.served l) e (wait_is_none c))
    (inbox_some s v l ∙ open_inbox v l (lane_sort s l) (Waits c) h e p ∙ ap (λ (b : Bool). post && b) (posted_in_sta v (v.home l)))
    (ap (λ (x : Option Deed). is_some x) (retry_is s v l _ e))
    (ap (λ (x : Option Deed). is_some x) (again_is v l _ e))
    (ap (λ (x : Option Deed). is_some x) (pending_is s v l _ e) ∙ asked_is s v l c (not_asked (mark_of (v.mail l).marks c) (v.mail l).words))
    (none_is _ (word_is v l _ e))
    (script_is s v l _ e ∙ no_script (lane_sort s l) (Waits c) (v.over l))
    ∙ wait_or post new done judged due sta came word
    ∙ ap (λ (m : Bool). done || (m || (if post then sta && (came || word) else new))) (moved_is s v l c (v.phase c))

entered : (s : Scenario) (v : Sight) (l c o a : ℕ) (h : Option ℕ) → top v l ≡ Some (Enters c o a) → v.home l ≡ home_by_sort (lane_sort s l) h → is_some (rest s v l) ≡ false
entered s v l c o a h e p =
    by s v l false false false false false false false false false
    (none_is _ (own_is s v l _ e)) (none_is _ (answer_is v l _ e)) (bound_some v l ∙ bound_of (v.openers l) _ (v.served l) e (body_is_none c o a))
    (inbox_some s v l ∙ open_inbox v l (lane_sort s l) (Enters c o a) h e p) (none_is _ (retry_is s v l _ e)) (none_is _ (again_is v l _ e)) (none_is _ (pending_is s v l _ e))
    (none_is _ (word_is v l _ e)) (script_is s v l _ e ∙ no_script (lane_sort s l) (Enters c o a) (v.over l))

by_top : (s : Scenario) (v : Sight) (l : ℕ) (o : Option Opener) (h : Option ℕ) → top v l ≡ o → v.home l ≡ home_by_sort (lane_sort s l) h
    → is_some (rest s v l) ≡ stirs v (lane_sort s l) l o
by_top s v l None h e p = idle s v l h e p
by_top s v l (Some (Pumps n)) h e p = pumping s v l n h e p
by_top s v l (Some (Waits c)) h e p = waiting s v l c h e p
by_top s v l (Some (Enters c x a)) h e p = entered s v l c x a h e p

-- ---- as the view reads it

final_some : (w : Seen) (b : Books) (l : ℕ) → is_some (rule_final (sight_by w b) l) ≡ is_some (first (dying_seen w l))
final_some w b l = some_map _ (first (dying_seen w l))

pub ruled_final : (w : Seen) (b : Books) (l : ℕ) → is_some (first (dying_seen w l)) ≡ true → true ≡ is_some (ruled w.scenario (sight_by w b) l)
ruled_final w b l e =
    let v : Sight = sight_by w b in
    sym (on (rule_final v l) (rest w.scenario v l) true (is_some (rest w.scenario v l)) (final_some w b l ∙ e) refl)

pub ruled_stirs : (w : Seen) (b : Books) (l : ℕ) → is_some (first (dying_seen w l)) ≡ false
    → stirs (bare w) (lane_sort w.scenario l) l (top (bare w) l) ≡ is_some (ruled w.scenario (sight_by w b) l)
ruled_stirs w b l e =
    let v : Sight = sight_by w b in
    sym (on (rule_final v l) (rest w.scenario v l) false (stirs v (lane_sort w.scenario l) l (top v l)) (final_some w b l ∙ e)
    (by_top w.scenario v l (top v l) (slice_index_or w.lanes.homes l None) refl refl))
