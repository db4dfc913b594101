-- A state that stands for a history stands for the longer one after a deed: the part of lanes. No row stands for the numbers
-- above the highest lane, and no entry changes what is said of them.
use Rattle.std.proofs.Common.{subst, sym, ap, ◌∙◌, eqb-true, arith}
use Rattle.std.proofs.lemmas.Bool.{false_from_ne_true, ltb-true, ltb-false}
use Rattle.std.proofs.lemmas.List.{get_or_past}
use Rattle.std.proofs.lemmas.Grind.{common_steps}
use Rattle.std.specs.Prelude.{◌≡◌, refl, ℕ, ◌+◌, ◌≤◌, ◌<◌, pos, negsuc, Bool, true, false, cond, not, ◌||◌, ◌&&◌, ◌==◌, nat_le, nat_lt, List, [], ◌∷◌, length, Some, None, slice_index_or}
use Rattle.com_base.specs.declared.hresult.HResult.{HResult}
use Rattle.com_model.specs.declared.deeds.Deed.{Deed}
use Rattle.com_model.specs.declared.deeds.Deed.TheVariants as deed
use Rattle.com_model.specs.declared.deeds.Entry.{Entry}
use Rattle.com_model.specs.declared.scenario.Scenario.{Scenario}
use Rattle.com_model.specs.Answers.{S_OK, E_INVALIDARG, is_S_OK}
use Rattle.com_model.specs.Lists.{each_from, is_member}
use Rattle.com_model.specs.Tables.{LaneSort, Thread, Host, Pool, NoLane, lane_sort, lanes, threads, host_lane, is_thread}
use Rattle.com_model.specs.Openers.{Opener, Keeps, effect, effect_on, opened, left_on, openers, served}
use Rattle.com_model.specs.Apartments.{Remains, home_effect, home_effect_on, home_after, count_after, makes_sta, with_last, is_end, thread_home, init_count, made_in, over}
use Rattle.com_model.specs.Clock.{Keeps as KeepsFilter, filter_effect, filter_effect_on, filter_after, last_filter}
use Rattle.com_model.specs.Waiting.{no_mail, Brings, Leaves, mail_effect, mail_after, mail, Stands, LeavesQuit, quit_effect, quit_after, quit_stands, bound_reached, postings}
use Rattle.com_model.specs.Deeds.{word_answer}
use Rattle.com_model.specs.Rules.{next, next_by, ticks}
use Rattle.com_model.specs.Sight.{Sight, sight}
use Rattle.com_model.specs.State.{State, LanesStand, openers_in, served_in}
use Rattle.com_model.proofs.Comes.{Comes, sort_of, next-comes}
use Rattle.com_model.proofs.Stands.{row-of, rows-from, made-row}
use Rattle.com_model.proofs.Rowed.{after_rowed}

-- A lane that has a next entry is one of the scenario's.
no-sort : (a b c e : Bool) → a ≡ false → b ≡ false → c ≡ false → e ≡ false → cond a NoLane (cond b Thread (cond c Host (cond e Pool NoLane))) ≡ NoLane
no-sort false false false false p q r t = refl
no-sort true b c e p q r t = cc
no-sort false true c e p q r t = cc
no-sort false false true e p q r t = cc
no-sort false false false true p q r t = cc

lane-under : (s : Scenario) (h : List Entry) (l : ℕ) (d : Deed) (b : Bool) → nat_le l (lanes s) ≡ b → next s h l ≡ Some d → l ≤ lanes s
lane-under s h l d true e q = grind (arith, common_steps)
lane-under s h l d false e q =
    let f : lanes s < l = grind (arith, common_steps) in
    let m : threads s + 1 + s.pool ≡ lanes s = refl in
    let a : (l == 0) ≡ false = false_from_ne_true (l == 0) (λ t. let z : l ≡ 0 = eqb-true l 0 t in omega (arith, z, f)) in
    let b : nat_le l (threads s) ≡ false = grind (arith, common_steps) in
    let c : (l == host_lane s) ≡ false = false_from_ne_true (l == host_lane s) (λ t. let z : l ≡ threads s + 1 = eqb-true l (host_lane s) t in omega (arith, z, f, m)) in
    let sort : lane_sort s l ≡ NoLane = no-sort (l == 0) (nat_le l (threads s)) (l == host_lane s) (nat_le l (lanes s)) a b c e in
    let none : next s h l ≡ None = ap (λ (x : LaneSort). next_by s (sight s h) x l) sort ∙ ap (λ (t : Bool). cond t (ticks s (sight s h)) None) a in
    cc

pub lane-within : (s : Scenario) (h : List Entry) (l : ℕ) (d : Deed) → next s h l ≡ Some d → l ≤ lanes s
lane-within s h l d q = lane-under s h l d (nat_le l (lanes s)) refl q

-- Words and quits with S_OK go to threads.
to-thread : (s : Scenario) (m : ℕ) (t o : Bool) → nat_le 1 m && nat_le m (threads s) ≡ t → is_S_OK (cond (t && o) S_OK E_INVALIDARG) ≡ true → m ≤ lanes s
to-thread s m true o e q = let n : threads s + 1 + s.pool ≡ lanes s = refl in grind (arith, common_steps)
to-thread s m false o e q = cc

above : (s : Scenario) (m k : ℕ) → m ≤ lanes s → lanes s < k → (m == k) ≡ false
above s m k p q = false_from_ne_true (m == k) (λ t. let z : m ≡ k = eqb-true m k t in omega (arith, z, p, q))

not-sent : (b ok : Bool) → (ok ≡ true → b ≡ false) → (b && ok) ≡ false
not-sent true true f = f refl
not-sent true false f = refl
not-sent false ok f = refl

sent-within : (s : Scenario) (v : Sight) (m k : ℕ) (hr : HResult) → lanes s < k → hr ≡ word_answer s v (pos m) → ((m == k) && is_S_OK hr) ≡ false
sent-within s v m k hr q e = not-sent (m == k) (is_S_OK hr) (λ ok. above s m k (to-thread s m (is_thread s m) (not (v.over m)) refl (subst (λ (x : HResult). is_S_OK x ≡ true) e ok)) q)

mail-silent : (s : Scenario) (v : Sight) (ps : List ℕ) (os : List Opener) (d : Deed) (k : ℕ) → lanes s < k → Comes s v ps os (sort_of d) → mail_after (mail_effect k false d) no_mail ≡ no_mail
mail-silent s v ps os (deed.Post (pos m) w hr) k q z = ap (λ (b : Bool). mail_after (cond b (Brings w) Leaves) no_mail) (sent-within s v m k hr q z)
mail-silent s v ps os (deed.Post (negsuc m) w hr) k q z = refl
mail-silent s v ps os _ k q z = refl

quit-silent : (s : Scenario) (v : Sight) (ps : List ℕ) (os : List Opener) (d : Deed) (k : ℕ) → lanes s < k → Comes s v ps os (sort_of d) → quit_after (quit_effect k false d) false ≡ false
quit-silent s v ps os (deed.Quit (pos m) hr) k q z = ap (λ (b : Bool). quit_after (cond b Stands LeavesQuit) false) (sent-within s v m k hr q z)
quit-silent s v ps os (deed.Quit (negsuc m) hr) k q z = refl
quit-silent s v ps os _ k q z = refl

-- A row of each number: a step of the table's row, and the default above.
row-all : {X : Type 0} (f : ℕ → X → X) (xs : List X) (n : ℕ) (d : X) → length xs ≡ n + 1 → ((k : ℕ) → n < k → f k d ≡ d) → (k : ℕ) (y : X) → slice_index_or xs k d ≡ y → slice_index_or (each_from f 0 xs) k d ≡ f k y
row-all f xs n d p q k y e = by-size (nat_lt n k) refl
  where
    by-size : (t : Bool) → nat_lt n k ≡ t → slice_index_or (each_from f 0 xs) k d ≡ f k y
    by-size false h = row-of f xs n k d y p (ltb-false n k h) e
    by-size true h =
        let z : n < k = ltb-true n k h in
        let m : length (each_from f 0 xs) ≡ n + 1 = rows-from f 0 xs (n + 1) p in
        get_or_past (each_from f 0 xs) k d (omega (arith, z, m)) ∙ sym (q k z) ∙ ap (f k) (sym (get_or_past xs k d (omega (arith, z, p))) ∙ e)

pub lanes-after : (s : Scenario) (st : State) (h : List Entry) (l : ℕ) (d : Deed) → next s h l ≡ Some d → LanesStand s st h → LanesStand s (after_rowed s st l d) (record { lane = l; deed = d } ∷ h)
lanes-after s st h l d nx p =
    let e : Entry = record { lane = l; deed = d } in
    let z : Comes s (sight s h) (postings h) (openers h l) (sort_of d) = next-comes s h l d nx in
    let w : l ≤ lanes s = lane-within s h l d nx in
    let a : (k : ℕ) → lanes s < k → (l == k) ≡ false = λ k q. above s l k w q in
    record {
      rows = (rows-from _ 0 st.openers _ p.rows.0, rows-from _ 0 st.served _ p.rows.1, rows-from _ 0 st.homes _ p.rows.2, rows-from _ 0 st.counts _ p.rows.3, rows-from _ 0 st.made _ p.rows.4, rows-from _ 0 st.over _ p.rows.5, rows-from _ 0 st.filters _ p.rows.6, rows-from _ 0 st.mail _ p.rows.7, rows-from _ 0 st.quits _ p.rows.8);
      openers = λ m. row-all (λ k os. opened (effect_on k e) os) st.openers (lanes s) [] p.rows.0 (λ k q. ap (λ (b : Bool). opened (cond b (effect d) Keeps) []) (a k q)) m (openers h m) (p.openers m);
      served = λ m. row-all (λ k n. left_on (effect_on k e) (opened (effect_on k e) (openers_in st k)) n) st.served (lanes s) 0 p.rows.1 (λ k q. ap (λ (b : Bool). left_on (cond b (effect d) Keeps) (opened (cond b (effect d) Keeps) (openers_in st k)) 0) (a k q)) m (served h m) (p.served m) ∙ ap (λ (os : List Opener). left_on (effect_on m e) (opened (effect_on m e) os) (served h m)) (p.openers m);
      homes = λ m. row-all (λ k x. home_after (home_effect_on k e) x) st.homes (lanes s) None p.rows.2 (λ k q. ap (λ (b : Bool). home_after (cond b (home_effect d) Remains) None) (a k q)) m (thread_home h m) (p.homes m);
      counts = λ m. row-all (λ k n. count_after (home_effect_on k e) n) st.counts (lanes s) 0 p.rows.3 (λ k q. ap (λ (b : Bool). count_after (cond b (home_effect d) Remains) 0) (a k q)) m (init_count h m) (p.counts m);
      made = λ m x. ap (is_member x) (row-all (λ k y. cond (e.lane == k) (with_last y (makes_sta d)) y) st.made (lanes s) [] p.rows.4 (λ k q. ap (λ (b : Bool). cond b (with_last [] (makes_sta d)) []) (a k q)) m (slice_index_or st.made m []) refl) ∙ made-row x (e.lane == m) (slice_index_or st.made m []) (makes_sta d) (made_in h m x) (p.made m x);
      over = λ m. row-all (λ k b. (e.lane == k && is_end d) || b) st.over (lanes s) false p.rows.5 (λ k q. ap (λ (b : Bool). (b && is_end d) || false) (a k q)) m (over h m) (p.over m);
      filters = λ m. row-all (λ k f. filter_after (filter_effect_on k e) f) st.filters (lanes s) None p.rows.6 (λ k q. ap (λ (b : Bool). filter_after (cond b (filter_effect d) KeepsFilter) None) (a k q)) m (last_filter h m) (p.filters m);
      mail = λ m. row-all (λ k x. mail_after (mail_effect k (e.lane == k) d) x) st.mail (lanes s) no_mail p.rows.7 (λ k q. ap (λ (b : Bool). mail_after (mail_effect k b d) no_mail) (a k q) ∙ mail-silent s (sight s h) (postings h) (openers h l) d k q z) m (mail h m) (p.mail m);
      quits = λ m. row-all (λ k b. quit_after (quit_effect k (e.lane == k && not (bound_reached (openers_in st k) (served_in st k))) d) b) st.quits (lanes s) false p.rows.8 (λ k q. ap (λ (b : Bool). quit_after (quit_effect k (b && not (bound_reached (openers_in st k) (served_in st k))) d) false) (a k q) ∙ quit-silent s (sight s h) (postings h) (openers h l) d k q z) m (quit_stands h m) (p.quits m) ∙ ap (λ (os : List Opener). quit_after (quit_effect m (e.lane == m && not (bound_reached os (served_in st m))) d) (quit_stands h m)) (p.openers m) ∙ ap (λ (n : ℕ). quit_after (quit_effect m (e.lane == m && not (bound_reached (openers h m) n)) d) (quit_stands h m)) (p.served m);
    }
