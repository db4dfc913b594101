-- An entry keeps what the book of a history keeps.
use Rattle.std.proofs.Common.{refl, ap, sym, subst, ◌∙◌, arith, eqb-true}
use Rattle.std.specs.Prelude.{◌≡◌, ℕ, ◌+◌, ◌-◌, ◌≤◌, ◌^◌, Bool, true, false, cond, ◌==◌, List, [], ◌∷◌, ◌++◌, length, Option, Some, None, is_some}
use Rattle.com_base.specs.declared.hresult.HResult.{HResult}
use Rattle.com_base.specs.declared.value.Value.{Value}
use Rattle.com_body.specs.declared.operands.Asked.{Asked}
use Rattle.com_model.specs.declared.deeds.Route.{Route}
use Rattle.com_deliveries.specs.declared.sources.Source.{Source}
use Rattle.com_deliveries.specs.declared.tally.Call.{Call}
use Rattle.com_deliveries.specs.Tables.{AreSources}
use Rattle.com_deliveries.specs.Book.{Book, made, no_source, no_call, called, begun, ended, took, lost, on_source, next_of, reached_by, changed_by, done_in, after, empty}
use Rattle.com_deliveries.specs.Rows.{row_at, with_row, top_in, stack_in}
use Rattle.com_deliveries.proofs.Leaving.{leave-object}
use Rattle.com_deliveries.proofs.Standing.{ObjectFor, CallFor, Stands, still, tops, lane-opens, lane-closes, object-made, calls-moved, kept-of, out-call, enter-call, leave-call, reached-length, class-in}
use Rattle.com_deliveries.proofs.RowReads.{row-length, one-more, no-row}
use Rattle.com_model.specs.declared.deeds.Deed.{Deed}
use Rattle.com_model.specs.declared.deeds.Deed.TheVariants as deed
use Rattle.com_model.specs.declared.deeds.Entry.{Entry}
use Rattle.com_model.specs.declared.scenario.Scenario.{Scenario}
use Rattle.com_model.specs.declared.keeps.Issue.{Issue}
use Rattle.com_model.specs.declared.keeps.Making.{Making}
use Rattle.com_model.specs.declared.keeps.Opener.TheVariants.{Pumps, Waits, Enters}
use Rattle.com_model.specs.Answers.{is_S_OK}
use Rattle.com_model.specs.Lists.{first, is_number, number_or_zero}
use Rattle.com_model.specs.Openers.{openers, top_call, EndsPump, Backs, Leaves}
use Rattle.com_model.specs.Objects.{asked_number, objects, making, class_of}
use Rattle.com_model.specs.Calls.{issue, left, calls}
use Rattle.com_laws_sources.specs.Histories.{given_to, first_number, first_reference, result_cookie, sinks, taken, last, visited, leaving, changed, one_taken}
use Rattle.com_laws_sources.specs.Sinks.{Sink}
use Rattle.com_laws_sources.specs.Sources.{advise, unadvise}

-- What is true of a legal history, and of the entry that comes next.
pub record Lawful (s : Scenario) (h : List Entry) : Type 0 where
  pub target : (c : ℕ) (y : Issue) → issue h c ≡ Some y → number_or_zero y.object ≤ objects h
  pub no_values : (c : ℕ) → calls h + 1 ≤ c → given_to h c ≡ []
  pub not_left : (c : ℕ) → calls h + 1 ≤ c → is_some (left h c) ≡ false
  pub no_last : (o i c : ℕ) → calls h + 1 ≤ c → last h o i c ≡ 0
  pub none_visited : (o i c : ℕ) → calls h + 1 ≤ c → visited h o i c ≡ []
  pub no_sinks : (o i : ℕ) → objects h + 1 ≤ o → sinks h o i ≡ []
  pub none_taken : (o i : ℕ) → objects h + 1 ≤ o → taken h o i ≡ 0
  pub top : (l c : ℕ) → top_call (first (openers h l)) ≡ Some c → c ≤ calls h
  pub room : (o i : ℕ) → taken h o i + 1 ≤ 2 ^ 64 - 1

abbrev pub NewIn : (objects calls : ℕ) → Deed → Type 0
NewIn n k (deed.Made (Some o) (Some a) c i hr) = o ≡ n + 1
NewIn n k (deed.Made (Some o) None c i hr) = ⊥
NewIn n k (deed.Out c o i m r cause bytes) = c ≡ k + 1
NewIn n k _ = Unit {0}

abbrev pub entry : ℕ → Deed → Entry
entry l d = record { lane = l; deed = d }

-- ---- an object

none-more : (n : ℕ) → n ≡ 0 + n
none-more n = omega arith

later : (o x n : ℕ) → o ≡ n + 1 → x ≤ n → o ≡ x → ⊥
later o x n e p q = omega (arith, e, p, q)

far : (o x n : ℕ) → o ≡ n + 1 → o ≡ x → n + 1 ≤ x
far o x n e q = omega (arith, e, q)

not-true : (b : Bool) → (b ≡ true → ⊥) → b ≡ false
not-true true g = absurd (g refl)
not-true false g = refl

step-made : (s : Scenario) (table : List (Option ℕ)) (h : List Entry) (b : Book) (l o a : ℕ) (k i : Asked) (hr : HResult) → AreSources s table → Lawful s h → o ≡ objects h + 1 → Stands s h b
    → Stands s (entry l (deed.Made (Some o) (Some a) k i hr) ∷ h) (done_in table l (deed.Made (Some o) (Some a) k i hr) b)
step-made s table h b l o a k i hr src law e st =
    let m : Making = record { object = o; apartment = a; class = asked_number k } in
    let wide : o ≡ length b.objects + 1 = e ∙ ap (λ (n : ℕ). n + 1) (sym st.many_objects) in
    record {
      many_objects = one-more b.objects (made table k) ∙ ap (λ (n : ℕ). n + 1) st.many_objects;
      many_calls = st.many_calls ∙ none-more (calls h);
      objects = λ x. object-made s table b.objects o x k m (sinks h x) (taken h x) (making h x) src wide refl
          (λ p j. (law.no_sinks x j (far o x (objects h) e p), law.none_taken x j (far o x (objects h) e p))) (st.objects x);
      calls = λ c. calls-moved s c (class_of h) (class_of (entry l (deed.Made (Some o) (Some a) k i hr) ∷ h)) (given_to h c) (is_some (left h c)) (λ x j. last h x j c) (λ x j. visited h x j c) (row_at b.calls c) (issue h c)
          (λ y p. sym (ap (λ (t : Bool). class-in (cond t (Some m) (making h (number_or_zero y.object))))
          (not-true (o == number_or_zero y.object) (λ t. later o (number_or_zero y.object) (objects h) e (law.target c y p) (eqb-true o (number_or_zero y.object) t)))))
          (st.calls c);
      lanes = λ j. st.lanes j ∙ still (l == j) (openers h j);
    }

-- ---- a call

step-out : (s : Scenario) (table : List (Option ℕ)) (h : List Entry) (b : Book) (l d : ℕ) (u : Option ℕ) (i m : ℕ) (r : Route) (k : ℕ) (bytes : Option (List ℕ)) → Lawful s h → d ≡ calls h + 1 → Stands s h b
    → Stands s (entry l (deed.Out d u i m r k bytes) ∷ h) (done_in table l (deed.Out d u i m r k bytes) b)
step-out s table h b l d u i m r k bytes law e st =
    let y : Issue = record { call = d; lane = l; object = u; iface = i; method = m; route = r; cause = k } in
    let top : Option ℕ = top_call (first (openers h l)) in
    let t : ℕ = top_in (stack_in b.lanes l) in
    let wide : length (reached_by t (next_of b.objects (row_at b.calls t)) b.calls ++ (called d u i m ∷ [])) ≡ calls h + 1 =
    one-more (reached_by t (next_of b.objects (row_at b.calls t)) b.calls) (called d u i m)
    ∙ ap (λ (n : ℕ). n + 1) (reached-length (next_of b.objects (row_at b.calls t)) t b.calls ∙ st.many_calls) in
    record {
      many_objects = st.many_objects;
      many_calls = wide ∙ swap (calls h);
      objects = st.objects;
      calls = λ c. out-call s b.objects b.calls top t c d u i m y (class_of h) (given_to h c) (is_some (left h c)) (λ x j. last h x j c) (λ x j. visited h x j c) (sinks h) (taken h) (issue h c)
          (e ∙ ap (λ (n : ℕ). n + 1) (sym st.many_calls)) refl refl refl (ap top_in (st.lanes l) ∙ tops (openers h l)) (kept-of s h b st)
          (λ p. let f : calls h + 1 ≤ c = far d c (calls h) e p in record {
            no_values = law.no_values c f;
            not_left = law.not_left c f;
            no_last = λ x j. law.no_last x j c f;
            none_seen = λ x j. law.none_visited x j c f;
            not_sent = other top c f (λ n q. law.top l n q);
          }) (st.calls c);
      lanes = λ j. lane-opens l j 0 (Waits d) b.lanes (openers h j) refl (st.lanes j);
    }
  where
    swap : (n : ℕ) → n + 1 ≡ 1 + n
    swap n = omega arith

    other : (x : Option ℕ) (c : ℕ) → calls h + 1 ≤ c → ((n : ℕ) → x ≡ Some n → n ≤ calls h) → is_number c x ≡ false
    other None c f g = refl
    other (Some n) c f g = not-true (c == n) (λ z. let q : c ≡ n = eqb-true c n z in let p : n ≤ calls h = g n refl in omega (arith, q, p, f))

step-enter : (s : Scenario) (table : List (Option ℕ)) (h : List Entry) (b : Book) (l d o a : ℕ) (t : Option ℕ) (vs : List Value) → Stands s h b
    → Stands s (entry l (deed.Enter d o a t vs) ∷ h) (done_in table l (deed.Enter d o a t vs) b)
step-enter s table h b l d o a t vs st = record {
  many_objects = st.many_objects;
  many_calls = row-length (begun b.objects (first_number vs)) no_call d b.calls ∙ st.many_calls ∙ none-more (calls h);
  objects = st.objects;
  calls = λ c. enter-call s b.objects b.calls d c (class_of h) (given_to h c) vs (is_some (left h c)) (λ x j. last h x j c) (taken h) (λ x j. visited h x j c) (sinks h) (issue h c) (kept-of s h b st) (st.calls c);
  lanes = λ j. lane-opens l j d (Enters d o a) b.lanes (openers h j) refl (st.lanes j);
}

changed-length : (objs : List Source) (r : Call) (c : ℕ) (a d u : Bool)
    → length (cond a (cond d (with_row (took c) no_source r.object objs) (cond u (with_row (lost r.number) no_source r.object objs) objs)) objs) ≡ length objs
changed-length objs r c false d u = refl
changed-length objs r c true true u = row-length (took c) no_source r.object objs
changed-length objs r c true false true = row-length (lost r.number) no_source r.object objs
changed-length objs r c true false false = refl

leave-length : (objs : List Source) (r : Option Call) (v : Option Value) (ok : Bool) → length (cond ok (changed_by objs r v) objs) ≡ length objs
leave-length objs r v false = refl
leave-length objs None v true = refl
leave-length objs (Some r) v true = changed-length objs r (result_cookie v) (on_source objs r) (r.method == advise) (r.method == unadvise)

number-of : (s : Scenario) (c : ℕ) (k : ℕ → ℕ) (vs : List Value) (lv : Bool) (l : ℕ → ℕ → ℕ) (seen : ℕ → ℕ → List Sink) (r : Option Call) (y : Option Issue) → CallFor s c k vs lv l seen r y → (z : Call) → r ≡ Some z → z.number ≡ first_number vs
number-of s c k vs lv l seen (Some r) (Some y) w z e = subst (λ (x : Call). x.number ≡ first_number vs) (same e) w.number
  where
    same : Some r ≡ Some z → r ≡ z
    same e = cc
number-of s c k vs lv l seen None y w z e = cc
number-of s c k vs lv l seen (Some r) None w z e = absurd w

left-objects : (s : Scenario) (h : List Entry) (b : Book) (d o : ℕ) (ok : Bool) (v : Option Value) → Lawful s h → Stands s h b
    → ObjectFor s (λ i. changed (leaving h o i d ok v) (sinks h o i)) (λ i. one_taken (leaving h o i d ok v) (taken h o i)) (row_at (cond ok (changed_by b.objects (row_at b.calls d) v) b.objects) o) (making h o)
left-objects s h b d o false v law st = st.objects o
left-objects s h b d o true v law st =
    leave-object s b.objects d o (class_of h) (given_to h d) (is_some (left h d)) (λ x j. last h x j d) (λ x j. visited h x j d)
    (record { cookie = result_cookie v; held = first_reference (given_to h d) }) (first_number (given_to h d)) v (sinks h o) (taken h o) (row_at b.calls d) (issue h d) (making h o)
    (number-of s d (class_of h) (given_to h d) (is_some (left h d)) (λ x j. last h x j d) (λ x j. visited h x j d) (row_at b.calls d) (issue h d) (st.calls d)) refl (law.room o) (st.calls d) (st.objects o)

step-leave : (s : Scenario) (table : List (Option ℕ)) (h : List Entry) (b : Book) (l d : ℕ) (hr : HResult) (v : Option Value) (bytes : Option (List ℕ)) → Lawful s h → Stands s h b
    → Stands s (entry l (deed.Leave d hr v bytes) ∷ h) (done_in table l (deed.Leave d hr v bytes) b)
step-leave s table h b l d hr v bytes law st = record {
  many_objects = leave-length b.objects (row_at b.calls d) v (is_S_OK hr) ∙ st.many_objects;
  many_calls = row-length ended no_call d b.calls ∙ st.many_calls ∙ none-more (calls h);
  objects = λ o. left-objects s h b d o (is_S_OK hr) v law st;
  calls = λ c. leave-call s b.calls d c (class_of h) (given_to h c) (record { call = d; hr = hr; value = v }) (left h c) (λ x j. last h x j c) (λ x j. visited h x j c) (issue h c) (st.calls c);
  lanes = λ j. lane-closes l j (Leaves d) b.lanes (openers h j) (st.lanes j);
}

-- ---- any entry

step : (s : Scenario) (table : List (Option ℕ)) (h : List Entry) (b : Book) (l : ℕ) (d : Deed) → AreSources s table → Lawful s h → NewIn (objects h) (calls h) d → Stands s h b
    → Stands s (entry l d ∷ h) (done_in table l d b)
step s table h b l (deed.Made (Some o) (Some a) k i hr) src law n st = step-made s table h b l o a k i hr src law n st
step s table h b l (deed.Made (Some o) None k i hr) src law n st = absurd n
step s table h b l (deed.Made None a k i hr) src law n st = record {
  many_objects = st.many_objects;
  many_calls = st.many_calls ∙ none-more (calls h);
  objects = st.objects;
  calls = st.calls;
  lanes = λ j. st.lanes j ∙ still (l == j) (openers h j);
}
step s table h b l (deed.Out c o i m r k bytes) src law n st = step-out s table h b l c o i m r k bytes law n st
step s table h b l (deed.Enter c o a t vs) src law n st = step-enter s table h b l c o a t vs st
step s table h b l (deed.Leave c hr v bytes) src law n st = step-leave s table h b l c hr v bytes law st
step s table h b l (deed.Pump n) src law w st = record {
  many_objects = st.many_objects;
  many_calls = st.many_calls ∙ none-more (calls h);
  objects = st.objects;
  calls = st.calls;
  lanes = λ j. lane-opens l j 0 (Pumps n) b.lanes (openers h j) refl (st.lanes j);
}
step s table h b l deed.EndPump src law n st = record {
  many_objects = st.many_objects;
  many_calls = st.many_calls ∙ none-more (calls h);
  objects = st.objects;
  calls = st.calls;
  lanes = λ j. lane-closes l j EndsPump b.lanes (openers h j) (st.lanes j);
}
step s table h b l (deed.Back c hr v) src law n st = record {
  many_objects = st.many_objects;
  many_calls = st.many_calls ∙ none-more (calls h);
  objects = st.objects;
  calls = st.calls;
  lanes = λ j. lane-closes l j (Backs c) b.lanes (openers h j) (st.lanes j);
}
step s table h b l _ src law n st = record {
  many_objects = st.many_objects;
  many_calls = st.many_calls ∙ none-more (calls h);
  objects = st.objects;
  calls = st.calls;
  lanes = λ j. st.lanes j ∙ still (l == j) (openers h j);
}

pub stands-first : (s : Scenario) → Stands s [] empty
stands-first s = record { many_objects = refl; many_calls = refl; objects = first-object; calls = first-call; lanes = λ l. no-lane l }
  where
    first-object : (o : ℕ) → ObjectFor s (sinks [] o) (taken [] o) (row_at empty.objects o) (making [] o)
    first-object o = subst (λ (r : Option Source). ObjectFor s (sinks [] o) (taken [] o) r None) (sym (no-row o)) tt

    first-call : (c : ℕ) → CallFor s c (class_of []) (given_to [] c) (is_some (left [] c)) (λ o i. last [] o i c) (λ o i. visited [] o i c) (row_at empty.calls c) (issue [] c)
    first-call c =
        subst (λ (r : Option Call). CallFor s c (class_of []) (given_to [] c) (is_some (left [] c)) (λ o i. last [] o i c) (λ o i. visited [] o i c) r None) (sym (no-row c)) tt

    no-lane : (l : ℕ) → stack_in empty.lanes l ≡ []
    no-lane l = refl

pub stands-next : (s : Scenario) (table : List (Option ℕ)) (h : List Entry) (e : Entry) (b : Book) → AreSources s table → Lawful s h → NewIn (objects h) (calls h) e.deed → Stands s h b → Stands s (e ∷ h) (after table e b)
stands-next s table h e b src law n st = step s table h b e.lane e.deed src law n st
