-- What an entry changes in a table, row by row: each row of the table by its number.
use Rattle.std.proofs.Common.{subst, sym, ap, ap₂, ◌∙◌, eqb-true, arith}
use Rattle.std.proofs.lemmas.Bool.{false_from_ne_true}
use Rattle.std.proofs.lemmas.Grind.{common_steps}
use Rattle.std.specs.Prelude.{◌≡◌, refl, ℕ, ℤ, zero, suc, ◌+◌, ◌<◌, pos, negsuc, Bool, true, false, cond, not, ◌==◌, ◌&&◌, ◌||◌, if◌then◌else◌, List, [], ◌∷◌, Option, Some, None, is_some, is_none, slice_index_or, slice_set}
use Rattle.com_base.specs.declared.value.Value.{Value}
use Rattle.com_model.specs.declared.deeds.Deed.{Deed}
use Rattle.com_model.specs.declared.deeds.Deed.TheVariants as deed
use Rattle.com_model.specs.declared.deeds.Entry.{Entry}
use Rattle.com_model.specs.declared.scenario.Scenario.{Scenario}
use Rattle.com_model.specs.Answers.{is_S_OK}
use Rattle.com_model.specs.Lists.{or_else, where_true, is_number, each_from}
use Rattle.com_refs_books.specs.Counting.{count_if}
use Rattle.com_model.specs.Openers.{Opener, Pumps, Waits, Enters, Effect, Opens, Closes, Keeps, EndsPump, Backs, Leaves, effect, effect_on, opened, left_on, running_call}
use Rattle.com_model.specs.Apartments.{HomeEffect, Initialises, Uninitialises, Remains, home_effect, home_effect_on, home_after, count_after, makes_sta, ends_sta, with_last, is_end}
use Rattle.com_model.specs.Objects.{makes, finals}
use Rattle.com_model.specs.Calls.{Admission, Leaving, object_of, lane_of, issues, admits, leaves, returns, admission_or, leaving_or}
use Rattle.com_model.specs.Clock.{FilterEffect, Names, Keeps as KeepsFilter, ticked, filter_effect, filter_effect_on, filter_after}
use Rattle.com_model.specs.Waiting.{Phase, Unposted, Mail, Posts, Judges, Delays, GivesUp, PostsNone, PostEffect, Brings, Takes, Asks, Forgets, Leaves as LeavesMail, post_effect, phase_after, posted_last, mail_effect, mail_after, bound_reached, Stands, Ends, LeavesQuit, quit_effect, quit_after, no_mail}
use Rattle.com_model.specs.Endings.{Ending, EndEffect, EndsCall, CutsObject, CutsSta, EndsNone, end_effect, ends, can_be_cut}
use Rattle.com_model.specs.Books.{out_values}
use Rattle.com_model.specs.State.{State, openers_in, served_in, grown, issued_by, issue_in, named_in, admitted_in, filter_in, books_in, sight_of, is_marshalled_by, enters, let_go, end_effect_in, ends_in, endings_by, unread_by, after_entry, changed, changed_at, changed_from_one, opens, serves_more, homes_change, counts_change, made_change, over_change, filters_change, mail_lane, mail_change, quit_lane, quit_change, admissions_by, leavings_by, returned_by, phases_by, tables_after, after_by, after}

abbrev pub ends_rowed : Scenario → State → Entry → ℕ → Option Ending
ends_rowed s st e c =
    ends (end_effect (λ d. is_some (filter_in s st (lane_of (issue_in st d)))) e.deed) c
    (object_of (issue_in st c)) (named_in st (object_of (issue_in st c))) (can_be_cut (issue_in st c) (admitted_in st c))

abbrev pub endings_rowed : Scenario → State → Entry → List (Option Ending)
endings_rowed s st e = each_from (λ c x. or_else x (ends_rowed s st e c)) 1 (grown (issued_by e) None st.endings)

abbrev pub unread_rowed : Scenario → State → Entry → List (List Value)
unread_rowed s st e =
    each_from (λ c vs. let_go (enters (admits e.lane e.deed) c || is_some (ends_rowed s st e c)) vs) 1
    (grown (issued_by e) (out_values s (books_in st) (is_marshalled_by (issues e.lane e.deed)) ((sight_of s st).act e.lane)) st.unread)

abbrev pub tables_rowed : Scenario → State → Entry → State
tables_rowed s st e =
    record st {
      openers = each_from (λ l os. opened (effect_on l e) os) 0 st.openers;
      served = each_from (λ l n. left_on (effect_on l e) (opened (effect_on l e) (openers_in st l)) n) 0 st.served;
      homes = each_from (λ l a. home_after (home_effect_on l e) a) 0 st.homes;
      counts = each_from (λ l n. count_after (home_effect_on l e) n) 0 st.counts;
      made = each_from (λ l as'. if e.lane == l then with_last as' (makes_sta e.deed) else as') 0 st.made;
      over = each_from (λ l b. (e.lane == l && is_end e.deed) || b) 0 st.over;
      filters = each_from (λ l f. filter_after (filter_effect_on l e) f) 0 st.filters;
      mail = each_from (λ l m. mail_after (mail_effect l (e.lane == l) e.deed) m) 0 st.mail;
      quits = each_from (λ l b. quit_after (quit_effect l (e.lane == l && not (bound_reached (openers_in st l) (served_in st l))) e.deed) b) 0 st.quits;
      stas = with_last st.stas (makes_sta e.deed);
      ended = with_last st.ended (ends_sta e.deed);
      makings = grown (is_some (makes e.deed)) (makes e.deed) st.makings;
      finaled = with_last st.finaled (finals e.deed);
      issues = grown (issued_by e) (issues e.lane e.deed) st.issues;
      admissions = each_from (λ c x. admission_or (admits e.lane e.deed) c x) 1 (grown (issued_by e) None st.admissions);
      leavings = each_from (λ c x. leaving_or (leaves e.deed) c x) 1 (grown (issued_by e) None st.leavings);
      returned = each_from (λ c b. is_number c (returns e.deed) || b) 1 (grown (issued_by e) false st.returned);
      endings = endings_rowed s st e;
      phases = each_from (λ c p. phase_after (post_effect e.deed) st.clock c p) 1 (grown (issued_by e) Unposted st.phases);
      times = grown (issued_by e) st.clock st.times;
      postings = posted_last (post_effect e.deed) st.postings;
      causes = count_if (issued_by e && is_none (running_call (openers_in st e.lane))) + st.causes;
      clock = ticked e.deed st.clock;
      entries = st.entries + 1;
    }

abbrev pub entry_rowed : Scenario → State → Entry → State
entry_rowed s st e = after_by s st (tables_rowed s st e) (unread_rowed s st e) e

abbrev pub after_rowed : Scenario → State → (lane : ℕ) → Deed → State
after_rowed s st l d = entry_rowed s st (record { lane = l; deed = d })

-- ---- one row of a table

other-row : (l n : ℕ) → (l ≡ n → ⊥) → (l == n) ≡ false
other-row l n f = false_from_ne_true (l == n) (λ t. f (eqb-true l n t))

same-row : (l n : ℕ) → l ≡ n → (l == n) ≡ true
same-row l n e = subst (λ (k : ℕ). (l == k) ≡ true) e (grind (arith, common_steps))

each-same : {X : Type 0} (f g : ℕ → X → X) (n : ℕ) (xs : List X) → ((k : ℕ) (x : X) → f k x ≡ g k x) → each_from f n xs ≡ each_from g n xs
each-same f g n [] p = refl
each-same f g n (x ∷ xs) p = ap₂ (λ (y : _) (ys : List _). y ∷ ys) (p n x) (each-same f g (n + 1) xs p)

each-past : {X : Type 0} (l n : ℕ) (g : X → X) (xs : List X) → l < n → each_from (λ k x. cond (l == k) (g x) x) n xs ≡ xs
each-past l n g [] h = refl
each-past l n g (x ∷ xs) h = ap₂ (λ (y : _) (ys : List _). y ∷ ys) (ap (λ (b : Bool). cond b (g x) x) (other-row l n (λ e. omega (arith, h, e)))) (each-past l (n + 1) g xs (omega (arith, h)))

each-one : {X : Type 0} (l n k : ℕ) (g : X → X) (d : X) (xs : List X) → l ≡ n + k → each_from (λ j x. cond (l == j) (g x) x) n xs ≡ slice_set xs k (g (slice_index_or xs k d))
each-one l n k g d [] e = refl
each-one l n zero g d (x ∷ xs) e = ap₂ (λ (y : _) (ys : List _). y ∷ ys) (ap (λ (b : Bool). cond b (g x) x) (same-row l n (omega (arith, e)))) (each-past l (n + 1) g xs (omega (arith, e)))
each-one l n (suc k) g d (x ∷ xs) e = ap₂ (λ (y : _) (ys : List _). y ∷ ys) (ap (λ (b : Bool). cond b (g x) x) (other-row l n (λ z. omega (arith, e, z)))) (each-one l (n + 1) k g d xs (omega (arith, e)))

each-still : {X : Type 0} (f : ℕ → X → X) (n : ℕ) (xs : List X) → ((k : ℕ) (x : X) → f k x ≡ x) → each_from f n xs ≡ xs
each-still f n [] p = refl
each-still f n (x ∷ xs) p = ap₂ (λ (y : _) (ys : List _). y ∷ ys) (p n x) (each-still f (n + 1) xs p)

same-both : {X : Type 0} (b : Bool) (x : X) → cond b x x ≡ x
same-both true x = refl
same-both false x = refl

each-at : {X : Type 0} (f : ℕ → X → X) (c : Option (X → X)) (l : ℕ) (d : X) (xs : List X) → ((k : ℕ) (x : X) → f k x ≡ cond (l == k) (changed c x) x) → each_from f 0 xs ≡ changed_at c l d xs
each-at f None l d xs p = each-still f 0 xs (λ k x. p k x ∙ same-both (l == k) x)
each-at f (Some g) l d xs p = each-same f (λ k x. cond (l == k) (g x) x) 0 xs p ∙ each-one l 0 l g d xs (omega arith)

each-called : {X : Type 0} (f : ℕ → X → X) (g : X → X) (c : ℕ) (d : X) (xs : List X) → ((k : ℕ) (x : X) → f k x ≡ cond (c == k) (g x) x) → each_from f 1 xs ≡ changed_from_one (Some g) c d xs
each-called f g zero d xs p = each-same f (λ k x. cond (0 == k) (g x) x) 1 xs p ∙ each-past 0 1 g xs (omega arith)
each-called f g (suc c) d xs p = each-same f (λ k x. cond (suc c == k) (g x) x) 1 xs p ∙ each-one (suc c) 1 c g d xs (omega arith)

-- ---- the row of each table

opens-row : (b : Bool) (x : Effect) (os : List Opener) → opened (cond b x Keeps) os ≡ cond b (changed (opens x) os) os
opens-row true (Opens o) os = refl
opens-row true (Closes c) os = refl
opens-row b Keeps os = elim b as (λ t. opened (cond t Keeps Keeps) os ≡ cond t os os) [
  | true ↦ refl
  | false ↦ refl
]
opens-row false x os = refl

serves-own : (x : Effect) (os : List Opener) (n : ℕ) → left_on x os n ≡ changed (serves_more x os) n
serves-own (Opens (Pumps k)) os n = refl
serves-own (Opens (Waits c)) os n = refl
serves-own (Opens (Enters c o a)) os n = refl
serves-own (Closes EndsPump) os n = refl
serves-own (Closes (Backs c)) os n = refl
serves-own (Closes (Leaves c)) os n = refl
serves-own Keeps os n = refl

by-lane : {X : Type 0} (l k : ℕ) (P : ℕ → Bool → X) (Q : X) (R : X) → ((l ≡ k) → P k true ≡ Q) → P k false ≡ R → P k (l == k) ≡ cond (l == k) Q R
by-lane l k P Q R f g = elim (l == k) as (λ t. (l == k) ≡ t → P k t ≡ cond t Q R) [
  | true ↦ λ e. f (eqb-true l k e)
  | false ↦ λ e. g
] refl

homes-row : (b : Bool) (x : HomeEffect) (h : Option ℕ) → home_after (cond b x Remains) h ≡ cond b (changed (homes_change x) h) h
homes-row true (Initialises a hr) h = refl
homes-row true (Uninitialises a n) h = refl
homes-row true Remains h = refl
homes-row false x h = refl

counts-row : (b : Bool) (x : HomeEffect) (n : ℕ) → count_after (cond b x Remains) n ≡ cond b (changed (counts_change x) n) n
counts-row true (Initialises a hr) n = refl
counts-row true (Uninitialises a k) n = refl
counts-row true Remains n = refl
counts-row false x n = refl

made-row : (b : Bool) (x : Option ℕ) (xs : List ℕ) → cond b (with_last xs x) xs ≡ cond b (changed (made_change x) xs) xs
made-row true None xs = refl
made-row true (Some a) xs = refl
made-row false x xs = refl

over-row : (b x o : Bool) → ((b && x) || o) ≡ cond b (changed (over_change x) o) o
over-row true true o = refl
over-row true false o = refl
over-row false x o = refl

filters-row : (b : Bool) (x : FilterEffect) (f : Option ℕ) → filter_after (cond b x KeepsFilter) f ≡ cond b (changed (filters_change x) f) f
filters-row true (Names g) f = refl
filters-row true KeepsFilter f = refl
filters-row false x f = refl

brings-row : (b ok : Bool) (w : ℤ) (m : Mail) → mail_after (cond (b && ok) (Brings w) LeavesMail) m ≡ cond b (changed (where_true ok (mail_after (Brings w))) m) m
brings-row true true w m = refl
brings-row true false w m = refl
brings-row false ok w m = refl

mail-if : (b : Bool) (x : _) (m : Mail) → mail_after (cond b x LeavesMail) m ≡ cond b (mail_after x m) m
mail-if true x m = refl
mail-if false x m = refl

mail-row : (l k : ℕ) (d : Deed) (m : Mail) → mail_after (mail_effect k (l == k) d) m ≡ cond (mail_lane l d == k) (changed (mail_change d) m) m
mail-row l k (deed.Post (pos j) w hr) m = brings-row (j == k) (is_S_OK hr) w m
mail-row l k (deed.Post (negsuc j) w hr) m = sym (same-both (l == k) m)
mail-row l k (deed.Word w) m = mail-if (l == k) Takes m
mail-row l k (deed.Pending c w n) m = mail-if (l == k) (Asks c n) m
mail-row l k (deed.Back c hr v) m = mail-if (l == k) (Forgets c) m
mail-row l k _ m = sym (same-both (l == k) m)

sends-row : (c ok b : Bool) → quit_after (cond (c && ok) Stands LeavesQuit) b ≡ cond c (changed (where_true ok (λ x. true)) b) b
sends-row true true b = refl
sends-row true false b = refl
sends-row false ok b = refl

ends-row : (own b : Bool) → quit_after (cond own Ends LeavesQuit) b ≡ changed (where_true own (λ x. false)) b
ends-row true b = refl
ends-row false b = refl

quit-row : (l k : ℕ) (q : ℕ → Bool) (d : Deed) (b : Bool) → quit_after (quit_effect k (l == k && q k) d) b ≡ cond (quit_lane l d == k) (changed (quit_change (q l) d) b) b
quit-row l k q (deed.Quit (pos j) hr) b = sends-row (j == k) (is_S_OK hr) b
quit-row l k q (deed.Quit (negsuc j) hr) b = sym (same-both (l == k) b)
quit-row l k q deed.EndPump b =
    by-lane l k (λ j t. quit_after (cond (t && q j) Ends LeavesQuit) b) (changed (where_true (q l) (λ x. false)) b) b
    (λ e. ends-row (q k) b ∙ ap (λ (j : ℕ). changed (where_true (q j) (λ x. false)) b) (sym e)) refl
quit-row l k q _ b = sym (same-both (l == k) b)

-- ---- the rows of calls

admissions-rows : (m : Option Admission) (t : List (Option Admission)) → each_from (λ c x. admission_or m c x) 1 t ≡ admissions_by m t
admissions-rows None t = each-still (λ c x. x) 1 t (λ c x. refl)
admissions-rows (Some a) t = each-called (λ c x. admission_or (Some a) c x) (λ x. Some a) a.call None t (λ c x. refl)

leavings-rows : (m : Option Leaving) (t : List (Option Leaving)) → each_from (λ c x. leaving_or m c x) 1 t ≡ leavings_by m t
leavings-rows None t = each-still (λ c x. x) 1 t (λ c x. refl)
leavings-rows (Some a) t = each-called (λ c x. leaving_or (Some a) c x) (λ x. Some a) a.call None t (λ c x. refl)

numbers-flip : (a b : ℕ) → (a == b) ≡ (b == a)
numbers-flip a b = elim (b == a) as (λ t. (b == a) ≡ t → (a == b) ≡ t) [
  | true ↦ λ e. same-row a b (sym (eqb-true b a e))
  | false ↦ λ e. other-row a b (λ z. not-both (b == a) e (same-row b a (sym z)))
] refl
  where
    not-both : (t : Bool) → t ≡ false → t ≡ true → ⊥
    not-both t p q = cc

or-row : (t b : Bool) → (t || b) ≡ cond t true b
or-row true b = refl
or-row false b = refl

returned-rows : (m : Option ℕ) (t : List Bool) → each_from (λ c b. is_number c m || b) 1 t ≡ returned_by m t
returned-rows None t = each-still (λ c b. false || b) 1 t (λ c b. refl)
returned-rows (Some n) t = each-called (λ c b. (c == n) || b) (λ b. true) n false t (λ c b. or-row (c == n) b ∙ ap (λ (x : Bool). cond x true b) (numbers-flip c n))

phases-rows : (x : PostEffect) (now : ℕ) (t : List Phase) → each_from (λ c p. phase_after x now c p) 1 t ≡ phases_by x now t
phases-rows (Posts d) now t = each-called (λ c p. phase_after (Posts d) now c p) _ d Unposted t (λ c p. refl)
phases-rows (Judges d v) now t = each-called (λ c p. phase_after (Judges d v) now c p) _ d Unposted t (λ c p. refl)
phases-rows (Delays d ms) now t = each-called (λ c p. phase_after (Delays d ms) now c p) _ d Unposted t (λ c p. refl)
phases-rows (GivesUp d) now t = each-called (λ c p. phase_after (GivesUp d) now c p) _ d Unposted t (λ c p. refl)
phases-rows PostsNone now t = each-still (λ c p. p) 1 t (λ c p. refl)

end-row : (t : Bool) (x : Ending) (y : Option Ending) → or_else y (where_true t x) ≡ cond t (or_else y (Some x)) y
end-row true x y = refl
end-row false x None = refl
end-row false x (Some z) = refl

or-none : (y : Option Ending) → or_else y None ≡ y
or-none None = refl
or-none (Some z) = refl

endings-rows : (st : State) (x : EndEffect) (t : List (Option Ending)) → each_from (λ c y. or_else y (ends_in st x c)) 1 t ≡ endings_by st x t
endings-rows st EndsNone t = each-still (λ c y. or_else y None) 1 t (λ c y. or-none y)
endings-rows st (EndsCall d x) t = each-called (λ c y. or_else y (where_true (d == c) x)) (λ y. or_else y (Some x)) d None t (λ c y. end-row (d == c) x y)
endings-rows st (CutsObject o) t = refl
endings-rows st (CutsSta a) t = refl

let-go-end : (t : Bool) (x : Ending) (vs : List Value) → let_go (false || is_some (where_true t x)) vs ≡ cond t [] vs
let-go-end true x vs = refl
let-go-end false x vs = refl

let-go-enter : (t : Bool) (vs : List Value) → let_go (t || false) vs ≡ cond t [] vs
let-go-enter true vs = refl
let-go-enter false vs = refl

unread-rows : (st : State) (m : Option Admission) (x : EndEffect) (t : List (List Value)) → each_from (λ c vs. let_go (enters m c || is_some (ends_in st x c)) vs) 1 t ≡ unread_by st m x t
unread-rows st None EndsNone t = each-still (λ c vs. vs) 1 t (λ c vs. refl)
unread-rows st None (EndsCall d x) t = each-called (λ c vs. let_go (false || is_some (where_true (d == c) x)) vs) (λ vs. []) d [] t (λ c vs. let-go-end (d == c) x vs)
unread-rows st (Some a) EndsNone t = each-called (λ c vs. let_go ((a.call == c) || false) vs) (λ vs. []) a.call [] t (λ c vs. let-go-enter (a.call == c) vs)
unread-rows st (Some a) (EndsCall d x) t = refl
unread-rows st (Some a) (CutsObject o) t = refl
unread-rows st (Some a) (CutsSta b) t = refl
unread-rows st None (CutsObject o) t = refl
unread-rows st None (CutsSta b) t = refl

-- ---- all tables

pub tables-rows : (s : Scenario) (st : State) (e : Entry) → tables_rowed s st e ≡ tables_after s st e
tables-rows s st e =
    let l : ℕ = e.lane in
    let d : Deed = e.deed in
    λ i. record (tables_after s st e) {
      openers = each-at (λ k os. opened (effect_on k e) os) (opens (effect d)) l [] st.openers (λ k os. opens-row (l == k) (effect d) os) i;
      served = each-at (λ k n. left_on (effect_on k e) (opened (effect_on k e) (openers_in st k)) n) (serves_more (effect d) (opened (effect d) (openers_in st l))) l 0 st.served
          (λ k n. by-lane l k (λ j t. left_on (cond t (effect d) Keeps) (opened (cond t (effect d) Keeps) (openers_in st j)) n) (changed (serves_more (effect d) (opened (effect d) (openers_in st l))) n) n
          (λ z. serves-own (effect d) (opened (effect d) (openers_in st k)) n ∙ ap (λ (j : ℕ). changed (serves_more (effect d) (opened (effect d) (openers_in st j))) n) (sym z)) refl) i;
      homes = each-at (λ k h. home_after (home_effect_on k e) h) (homes_change (home_effect d)) l None st.homes (λ k h. homes-row (l == k) (home_effect d) h) i;
      counts = each-at (λ k n. count_after (home_effect_on k e) n) (counts_change (home_effect d)) l 0 st.counts (λ k n. counts-row (l == k) (home_effect d) n) i;
      made = each-at (λ k xs. cond (l == k) (with_last xs (makes_sta d)) xs) (made_change (makes_sta d)) l [] st.made (λ k xs. made-row (l == k) (makes_sta d) xs) i;
      over = each-at (λ k b. (l == k && is_end d) || b) (over_change (is_end d)) l false st.over (λ k b. over-row (l == k) (is_end d) b) i;
      filters = each-at (λ k f. filter_after (filter_effect_on k e) f) (filters_change (filter_effect d)) l None st.filters (λ k f. filters-row (l == k) (filter_effect d) f) i;
      mail = each-at (λ k m. mail_after (mail_effect k (l == k) d) m) (mail_change d) (mail_lane l d) no_mail st.mail (λ k m. mail-row l k d m) i;
      quits = each-at (λ k b. quit_after (quit_effect k (l == k && not (bound_reached (openers_in st k) (served_in st k))) d) b) (quit_change (not (bound_reached (openers_in st l) (served_in st l))) d) (quit_lane l d) false st.quits (λ k b. quit-row l k (λ j. not (bound_reached (openers_in st j) (served_in st j))) d b) i;
      admissions = admissions-rows (admits l d) (grown (issued_by e) None st.admissions) i;
      leavings = leavings-rows (leaves d) (grown (issued_by e) None st.leavings) i;
      returned = returned-rows (returns d) (grown (issued_by e) false st.returned) i;
      endings = endings-rows st (end_effect_in s st e) (grown (issued_by e) None st.endings) i;
      phases = phases-rows (post_effect d) st.clock (grown (issued_by e) Unposted st.phases) i;
    }

rows-entry : (s : Scenario) (st : State) (e : Entry) → entry_rowed s st e ≡ after_entry s st e
rows-entry s st e =
    ap₂ (λ (su : State) (vs : List (List Value)). after_by s st su vs e) (tables-rows s st e)
    (unread-rows st (admits e.lane e.deed) (end_effect_in s st e) (grown (issued_by e) (out_values s (books_in st) (is_marshalled_by (issues e.lane e.deed)) ((sight_of s st).act e.lane)) st.unread))

pub after-rows : (s : Scenario) (st : State) (l : ℕ) (d : Deed) → after_rowed s st l d ≡ after s st l d
after-rows s st l d = rows-entry s st (record { lane = l; deed = d })
