-- What the book of a history keeps of it, and that an entry keeps that true.
use Rattle.std.proofs.Common.{refl, ap, sym, subst, ◌∙◌, arith, eqb-true}
use Rattle.std.specs.Prelude.{◌≡◌, ℕ, ◌+◌, Bool, true, false, cond, ◌&&◌, ◌==◌, nat_lt, nat_le, List, [], ◌∷◌, ◌++◌, length, map, Option, Some, None, is_some, option_map}
use Rattle.com_base.specs.declared.value.Value.{Value}
use Rattle.com_body.specs.declared.operands.Asked.{Asked}
use Rattle.com_deliveries.specs.declared.sources.Source.{Source}
use Rattle.com_deliveries.specs.declared.tally.Call.{Call}
use Rattle.com_deliveries.specs.Book.{Book, made, no_call, called, begun, got, ended, has_iface, cookies_of, advised_of, on_source, is_event, next_of, reached_by}
use Rattle.com_deliveries.specs.Delivered.{cookie_of}
use Rattle.com_deliveries.specs.Tables.{AreSources}
use Rattle.com_deliveries.specs.Rows.{row_at, with_row, next_in, last_in, top_in, without_top, stack_in, opened_in, closed_in}
use Rattle.com_deliveries.proofs.RowReads.{row-new, row-old, row-here, row-there, row-length, stack-opened, stack-beside, stack-closed, stack-still}
use Rattle.com_model.specs.declared.deeds.Entry.{Entry}
use Rattle.com_model.specs.declared.scenario.Scenario.{Scenario}
use Rattle.com_model.specs.declared.keeps.Issue.{Issue}
use Rattle.com_model.specs.declared.keeps.Making.{Making}
use Rattle.com_model.specs.declared.keeps.Opener.{Opener}
use Rattle.com_model.specs.declared.keeps.Opener.TheVariants.{Pumps, Waits, Enters}
use Rattle.com_model.specs.Lists.{first, without_first, is_number, number_or_zero}
use Rattle.com_model.specs.Openers.{Opens, Closes, Keeps, Closer, opened, openers, top_call}
use Rattle.com_model.specs.Objects.{asked_number, objects, making, class_of}
use Rattle.com_model.specs.Calls.{issue, left, calls}
use Rattle.com_laws_sources.specs.Histories.{given_to, first_number, sinks, taken, last, reached, visited, with_next}
use Rattle.com_laws_sources.specs.Sinks.{Sink, first_between}
use Rattle.com_laws_sources.specs.Sources.{IsSource, fire}

-- ---- what is kept

abbrev pub body_of : Opener → ℕ
body_of (Enters c o a) = c
body_of _ = 0

-- The row of an object of this class, with its sinks and how many were taken, by interface.
pub record SourceFor (s : Scenario) (k : ℕ) (xs : ℕ → List Sink) (n : ℕ → ℕ) (r : Source) : Type 0 where
  pub found : (i : ℕ) → r.iface ≡ Some i → IsSource s k i
  pub known : (i : ℕ) → IsSource s k i → r.iface ≡ Some i
  pub kept : (i : ℕ) → IsSource s k i → (r.cookies ≡ map cookie_of (xs i)) × (r.advised ≡ n i)

abbrev pub ObjectFor : Scenario → (ℕ → List Sink) → (ℕ → ℕ) → Option Source → Option Making → Type 0
ObjectFor s xs n None None = Unit {0}
ObjectFor s xs n (Some r) (Some m) = SourceFor s m.class xs n r
ObjectFor s xs n None (Some m) = ⊥
ObjectFor s xs n (Some r) None = ⊥

-- The row of a call on an object of this class, with the values that it was given, whether it left, and its
-- last cookie and the sinks that it reached, if it is an event.
pub record RowFor (s : Scenario) (c : ℕ) (y : Issue) (k : ℕ) (vs : List Value) (lv : Bool) (l : ℕ) (seen : List Sink) (r : Call) : Type 0 where
  pub call : r.call ≡ c
  pub object : r.object ≡ number_or_zero y.object
  pub iface : r.iface ≡ y.iface
  pub method : r.method ≡ y.method
  pub number : r.number ≡ first_number vs
  pub left : r.has_left ≡ lv
  pub got : IsSource s k y.iface → y.method ≡ fire → (r.last ≡ l) × (r.cookies ≡ map cookie_of seen)

abbrev pub CallFor : Scenario → ℕ → (ℕ → ℕ) → List Value → Bool → (ℕ → ℕ → ℕ) → (ℕ → ℕ → List Sink) → Option Call → Option Issue → Type 0
CallFor s c k vs lv l seen None None = Unit {0}
CallFor s c k vs lv l seen (Some r) (Some y) =
    RowFor s c y (k (number_or_zero y.object)) vs lv (l (number_or_zero y.object) y.iface) (seen (number_or_zero y.object) y.iface) r
CallFor s c k vs lv l seen None (Some y) = ⊥
CallFor s c k vs lv l seen (Some r) None = ⊥

pub record Stands (s : Scenario) (h : List Entry) (b : Book) : Type 0 where
  pub many_objects : length b.objects ≡ objects h
  pub many_calls : length b.calls ≡ calls h
  pub objects : (o : ℕ) → ObjectFor s (sinks h o) (taken h o) (row_at b.objects o) (making h o)
  pub calls : (c : ℕ) → CallFor s c (class_of h) (given_to h c) (is_some (left h c)) (λ o i. last h o i c) (λ o i. visited h o i c) (row_at b.calls c) (issue h c)
  pub lanes : (l : ℕ) → stack_in b.lanes l ≡ map body_of (openers h l)

-- ---- small words

not-both : (b : Bool) → b ≡ true → b ≡ false → ⊥
not-both b p q = cc

same-number : (n : ℕ) → (n == n) ≡ true
same-number n = grind arith

pub apart : (j l : ℕ) → (j == l) ≡ false → j ≡ l → ⊥
apart j l e p = not-both (j == l) (ap (λ (k : ℕ). j == k) (sym p) ∙ same-number j) e

pub tops : (os : List Opener) → top_in (map body_of os) ≡ number_or_zero (top_call (first os))
tops [] = refl
tops (Pumps n ∷ os) = refl
tops (Waits n ∷ os) = refl
tops (Enters c o a ∷ os) = refl

-- ---- lanes

pub still : (t : Bool) (os : List Opener) → map body_of os ≡ map body_of (opened (cond t Keeps Keeps) os)
still true os = refl
still false os = refl

pub lane-opens : (l m c : ℕ) (o : Opener) (lanes : List (List ℕ)) (os : List Opener) → c ≡ body_of o → stack_in lanes m ≡ map body_of os
    → stack_in (opened_in l c lanes) m ≡ map body_of (opened (cond (l == m) (Opens o) Keeps) os)
lane-opens l m c o lanes os p st =
    elim (l == m) as (λ t. (l == m) ≡ t → stack_in (opened_in l c lanes) m ≡ map body_of (opened (cond t (Opens o) Keeps) os)) [
      | true ↦ λ e. subst (λ (j : ℕ). stack_in (opened_in l c lanes) j ≡ c ∷ stack_in lanes j) (eqb-true l m e) (stack-opened l c lanes)
          ∙ ap (λ (xs : List ℕ). c ∷ xs) st ∙ ap (λ (k : ℕ). k ∷ map body_of os) p
      | false ↦ λ e. stack-beside l m c lanes (apart l m e) ∙ st
    ] refl

without-mapped : (os : List Opener) → without_top (map body_of os) ≡ map body_of (without_first os)
without-mapped [] = refl
without-mapped (o ∷ os) = refl

pub lane-closes : (l m : ℕ) (x : Closer) (lanes : List (List ℕ)) (os : List Opener) → stack_in lanes m ≡ map body_of os
    → stack_in (closed_in l lanes) m ≡ map body_of (opened (cond (l == m) (Closes x) Keeps) os)
lane-closes l m x lanes os st =
    elim (l == m) as (λ t. (l == m) ≡ t → stack_in (closed_in l lanes) m ≡ map body_of (opened (cond t (Closes x) Keeps) os)) [
      | true ↦ λ e. subst (λ (j : ℕ). stack_in (closed_in l lanes) j ≡ without_top (stack_in lanes j)) (eqb-true l m e) (stack-closed l lanes)
          ∙ ap without_top st ∙ without-mapped os
      | false ↦ λ e. stack-still l m lanes (apart l m e) ∙ st
    ] refl

-- ---- an object is made

new-source : (s : Scenario) (table : List (Option ℕ)) (k : Asked) (xs : ℕ → List Sink) (n : ℕ → ℕ) → AreSources s table → ((i : ℕ) → (xs i ≡ []) × (n i ≡ 0)) → SourceFor s (asked_number k) xs n (made table k)
unfolding AreSources
new-source s table k xs n src f = record {
  found = λ i e. (src (asked_number k) i).0 e;
  known = λ i p. (src (asked_number k) i).1 p;
  kept = λ i p. (ap (map cookie_of) (sym (f i).0), sym (f i).1);
}

pub object-made : (s : Scenario) (table : List (Option ℕ)) (rows : List Source) (o x : ℕ) (k : Asked) (m : Making) (xs : ℕ → List Sink) (n : ℕ → ℕ) (before : Option Making)
    → AreSources s table → o ≡ length rows + 1 → m.class ≡ asked_number k → (o ≡ x → (i : ℕ) → (xs i ≡ []) × (n i ≡ 0)) → ObjectFor s xs n (row_at rows x) before
    → ObjectFor s xs n (row_at (rows ++ (made table k ∷ [])) x) (cond (o == x) (Some m) before)
object-made s table rows o x k m xs n before src e c f st =
    elim (o == x) as (λ t. (o == x) ≡ t → ObjectFor s xs n (row_at (rows ++ (made table k ∷ [])) x) (cond t (Some m) before)) [
      | true ↦ λ w. let z : o ≡ x = eqb-true o x w in
          subst (λ (r : Option Source). ObjectFor s xs n r (Some m)) (sym (row-new rows (made table k) x (sym z ∙ e)))
          (subst (λ (j : ℕ). SourceFor s j xs n (made table k)) (sym c) (new-source s table k xs n src (f z)))
      | false ↦ λ w. subst (λ (r : Option Source). ObjectFor s xs n r before) (sym (row-old rows (made table k) x (λ z. apart o x w (e ∙ sym z)))) st
    ] refl

pub calls-moved : (s : Scenario) (c : ℕ) (k j : ℕ → ℕ) (vs : List Value) (lv : Bool) (l : ℕ → ℕ → ℕ) (seen : ℕ → ℕ → List Sink) (r : Option Call) (y : Option Issue)
    → ((z : Issue) → y ≡ Some z → k (number_or_zero z.object) ≡ j (number_or_zero z.object)) → CallFor s c k vs lv l seen r y → CallFor s c j vs lv l seen r y
calls-moved s c k j vs lv l seen None None f w = tt
calls-moved s c k j vs lv l seen (Some r) (Some y) f w =
    subst (λ (n : ℕ). RowFor s c y n vs lv (l (number_or_zero y.object) y.iface) (seen (number_or_zero y.object) y.iface) r) (f y refl) w
calls-moved s c k j vs lv l seen None (Some y) f w = absurd w
calls-moved s c k j vs lv l seen (Some r) None f w = absurd w

-- ---- the next sink, in cookies

mapped-last : (xs : List Sink) → last_in (map cookie_of xs) ≡ reached xs
mapped-last [] = refl
mapped-last (x ∷ []) = refl
mapped-last (x ∷ y ∷ xs) = mapped-last (y ∷ xs)

next-by : (t : Bool) (x : Sink) (a : Option ℕ) (b : Option Sink) → a ≡ option_map cookie_of b → cond t (Some x.cookie) a ≡ option_map cookie_of (cond t (Some x) b)
next-by true x a b e = refl
next-by false x a b e = e

mapped-next : (r l : ℕ) (xs : List Sink) → next_in r l (map cookie_of xs) ≡ option_map cookie_of (first_between r l xs)
mapped-next r l [] = refl
mapped-next r l (x ∷ xs) = next-by (nat_lt r x.cookie && nat_le x.cookie l) x (next_in r l (map cookie_of xs)) (first_between r l xs) (mapped-next r l xs)

mapped-more : (xs : List Sink) (x : Sink) → map cookie_of xs ++ (x.cookie ∷ []) ≡ map cookie_of (xs ++ (x ∷ []))
mapped-more [] x = refl
mapped-more (y ∷ ys) x = ap (λ (cs : List ℕ). y.cookie ∷ cs) (mapped-more ys x)

abbrev gets : Option ℕ → Call → Call
gets None r = r
gets (Some c) r = got c r

gets-cookies : (f : Option Sink) (n : Option ℕ) (r : Call) (seen : List Sink) → n ≡ option_map cookie_of f → r.cookies ≡ map cookie_of seen → (gets n r).cookies ≡ map cookie_of (with_next true f seen)
gets-cookies None n r seen e p = ap (λ (m : Option ℕ). (gets m r).cookies) e ∙ p
gets-cookies (Some x) n r seen e p =
    ap (λ (m : Option ℕ). (gets m r).cookies) e ∙ ap (λ (cs : List ℕ). cs ++ (x.cookie ∷ [])) p ∙ mapped-more seen x

gets-last : (n : Option ℕ) (r : Call) (l : ℕ) → r.last ≡ l → (gets n r).last ≡ l
gets-last None r l e = e
gets-last (Some c) r l e = e

gets-row : (s : Scenario) (c : ℕ) (y : Issue) (k : ℕ) (vs : List Value) (lv : Bool) (l : ℕ) (seen more : List Sink) (n : Option ℕ) (r : Call) → RowFor s c y k vs lv l seen r
    → (IsSource s k y.iface → y.method ≡ fire → ((gets n r).last ≡ l) × ((gets n r).cookies ≡ map cookie_of more)) → RowFor s c y k vs lv l more (gets n r)
gets-row s c y k vs lv l seen more None r w g = record { call = w.call; object = w.object; iface = w.iface; method = w.method; number = w.number; left = w.left; got = g }
gets-row s c y k vs lv l seen more (Some x) r w g = record { call = w.call; object = w.object; iface = w.iface; method = w.method; number = w.number; left = w.left; got = g }

reached-zero : (n : Option ℕ) (rows : List Call) → reached_by 0 n rows ≡ rows
reached-zero None rows = refl
reached-zero (Some x) rows = refl

reached-here : (n : Option ℕ) (c : ℕ) (rows : List Call) → row_at (reached_by c n rows) c ≡ option_map (gets n) (row_at rows c)
reached-here None c rows = same (row_at rows c)
  where
    same : (o : Option Call) → o ≡ option_map (gets None) o
    same None = refl
    same (Some r) = refl
reached-here (Some x) c rows = row-here (got x) no_call c rows

reached-there : (n : Option ℕ) (t c : ℕ) (rows : List Call) → (c ≡ t → ⊥) → row_at (reached_by t n rows) c ≡ row_at rows c
reached-there None t c rows f = refl
reached-there (Some x) t c rows f = row-there (got x) no_call t c rows f

pub reached-length : (n : Option ℕ) (t : ℕ) (rows : List Call) → length (reached_by t n rows) ≡ length rows
reached-length None t rows = refl
reached-length (Some x) t rows = row-length (got x) no_call t rows

-- ---- objects that calls are on

-- The row of a source's object.
pub record Kept (s : Scenario) (rows : List Source) (o i : ℕ) (xs : List Sink) (n : ℕ) : Type 0 where
  pub row : Source
  pub is : row_at rows o ≡ Some row
  pub iface : row.iface ≡ Some i
  pub cookies : row.cookies ≡ map cookie_of xs
  pub advised : row.advised ≡ n

abbrev pub class-in : Option Making → ℕ
class-in m = number_or_zero (option_map (λ (x : Making). x.class) m)

no-class-zero : (s : Scenario) (i : ℕ) → IsSource s 0 i → ⊥
no-class-zero s i p = none-there p.there
  where
    none-there : None ≡ Some p.declaration → ⊥
    none-there e = cc

kept-by : (s : Scenario) (rows : List Source) (o i : ℕ) (xs : ℕ → List Sink) (n : ℕ → ℕ) (r : Option Source) (m : Option Making) → row_at rows o ≡ r → ObjectFor s xs n r m → IsSource s (class-in m) i → Kept s rows o i (xs i) (n i)
kept-by s rows o i xs n None None e w p = absurd (no-class-zero s i p)
kept-by s rows o i xs n (Some r) (Some m) e w p = record { row = r; is = e; iface = w.known i p; cookies = (w.kept i p).0; advised = (w.kept i p).1 }
kept-by s rows o i xs n None (Some m) e w p = absurd w
kept-by s rows o i xs n (Some r) None e w p = absurd w

pub kept-of : (s : Scenario) (h : List Entry) (b : Book) → Stands s h b → (o i : ℕ) → IsSource s (class_of h o) i → Kept s b.objects o i (sinks h o i) (taken h o i)
kept-of s h b st o i p = kept-by s b.objects o i (sinks h o) (taken h o) (row_at b.objects o) (making h o) refl (st.objects o) p

-- ---- a call that sends an event

pub on-own : (s : Scenario) (rows : List Source) (o i n : ℕ) (xs : List Sink) (r : Call) → Kept s rows o i xs n → r.object ≡ o → r.iface ≡ i → on_source rows r ≡ true
on-own s rows o i n xs r q e d =
    ap (λ (x : ℕ). has_iface (row_at rows x) r.iface) e ∙ ap (λ (x : Option Source). has_iface x r.iface) q.is
    ∙ ap (is_number r.iface) q.iface ∙ ap (λ (j : ℕ). j == i) d ∙ same-number i

pub event-own : (s : Scenario) (rows : List Source) (o i n : ℕ) (xs : List Sink) (r : Call) → Kept s rows o i xs n → r.object ≡ o → r.iface ≡ i → r.method ≡ fire → is_event rows r ≡ true
event-own s rows o i n xs r q e d f =
    ap (λ (t : Bool). t && r.method == fire) (on-own s rows o i n xs r q e d) ∙ ap (λ (m : ℕ). m == fire) f ∙ same-number fire

next-own : (s : Scenario) (rows : List Source) (o i n l : ℕ) (xs seen : List Sink) (r : Call) → Kept s rows o i xs n → r.object ≡ o → r.iface ≡ i → r.method ≡ fire → r.last ≡ l → r.cookies ≡ map cookie_of seen
    → next_of rows (Some r) ≡ option_map cookie_of (first_between (reached seen) l xs)
next-own s rows o i n l xs seen r q e d f el ec =
    let all : List ℕ = cookies_of (row_at rows r.object) in
    let es : all ≡ map cookie_of xs = ap (λ (x : ℕ). cookies_of (row_at rows x)) e ∙ ap cookies_of q.is ∙ q.cookies in
    ap (λ (t : Bool). cond t (next_in (last_in r.cookies) r.last all) None) (event-own s rows o i n xs r q e d f)
    ∙ ap (λ (cs : List ℕ). next_in (last_in cs) r.last all) ec ∙ ap (λ (k : ℕ). next_in k r.last all) (mapped-last seen)
    ∙ ap (λ (k : ℕ). next_in (reached seen) k all) el ∙ ap (λ (cs : List ℕ). next_in (reached seen) l cs) es ∙ mapped-next (reached seen) l xs

abbrev AllKept : Scenario → List Source → (ℕ → ℕ) → (ℕ → ℕ → List Sink) → (ℕ → ℕ → ℕ) → Type 0
AllKept s rows k xs n = (o i : ℕ) → IsSource s (k o) i → Kept s rows o i (xs o i) (n o i)

-- The sinks that a call reached, after an Out of which this says whether its body made it.
abbrev further : Bool → (ℕ → ℕ → ℕ) → (ℕ → ℕ → List Sink) → (ℕ → ℕ → List Sink) → ℕ → ℕ → List Sink
further t l xs seen o i = with_next t (first_between (reached (seen o i)) (l o i) (xs o i)) (seen o i)

sent-by : (s : Scenario) (objs : List Source) (c : ℕ) (k : ℕ → ℕ) (vs : List Value) (lv : Bool) (l : ℕ → ℕ → ℕ) (seen xs : ℕ → ℕ → List Sink) (n : ℕ → ℕ → ℕ) (r : Option Call) (y : Option Issue)
    → AllKept s objs k xs n → CallFor s c k vs lv l seen r y → CallFor s c k vs lv l (further true l xs seen) (option_map (gets (next_of objs r)) r) y
sent-by s objs c k vs lv l seen xs n None None a w = tt
sent-by s objs c k vs lv l seen xs n (Some r) (Some y) a w =
    let o : ℕ = number_or_zero y.object in
    gets-row s c y (k o) vs lv (l o y.iface) (seen o y.iface) (further true l xs seen o y.iface) (next_of objs (Some r)) r w (λ p q. (
      gets-last (next_of objs (Some r)) r (l o y.iface) (w.got p q).0,
      gets-cookies (first_between (reached (seen o y.iface)) (l o y.iface) (xs o y.iface)) (next_of objs (Some r)) r (seen o y.iface)
          (next-own s objs o y.iface (n o y.iface) (l o y.iface) (xs o y.iface) (seen o y.iface) r (a o y.iface p) w.object w.iface (w.method ∙ q) (w.got p q).0 (w.got p q).1)
          (w.got p q).1,
    ))
sent-by s objs c k vs lv l seen xs n None (Some y) a w = absurd w
sent-by s objs c k vs lv l seen xs n (Some r) None a w = absurd w

-- A call that was issued before, at an Out of this lane's top.
out-old : (s : Scenario) (objs : List Source) (rows : List Call) (top : Option ℕ) (t c : ℕ) (k : ℕ → ℕ) (vs : List Value) (lv : Bool) (l : ℕ → ℕ → ℕ) (seen xs : ℕ → ℕ → List Sink) (n : ℕ → ℕ → ℕ) (y : Option Issue)
    → t ≡ number_or_zero top → AllKept s objs k xs n → CallFor s c k vs lv l seen (row_at rows c) y
    → CallFor s c k vs lv l (further (is_number c top) l xs seen) (row_at (reached_by t (next_of objs (row_at rows t)) rows) c) y
out-old s objs rows None t c k vs lv l seen xs n y e a w =
    subst (λ (r : Option Call). CallFor s c k vs lv l seen r y)
    (sym (ap (λ (j : ℕ). row_at (reached_by j (next_of objs (row_at rows t)) rows) c) e ∙ ap (λ (rs : List Call). row_at rs c) (reached-zero (next_of objs (row_at rows t)) rows))) w
out-old s objs rows (Some m) t c k vs lv l seen xs n y e a w =
    elim (c == m) as (λ z. (c == m) ≡ z → CallFor s c k vs lv l (further z l xs seen) (row_at (reached_by t (next_of objs (row_at rows t)) rows) c) y) [
      | true ↦ λ z. let f : t ≡ c = e ∙ sym (eqb-true c m z) in
          subst (λ (j : ℕ). CallFor s c k vs lv l (further true l xs seen) (row_at (reached_by j (next_of objs (row_at rows j)) rows) c) y) (sym f)
          (subst (λ (r : Option Call). CallFor s c k vs lv l (further true l xs seen) r y) (sym (reached-here (next_of objs (row_at rows c)) c rows))
          (sent-by s objs c k vs lv l seen xs n (row_at rows c) y a w))
      | false ↦ λ z. subst (λ (r : Option Call). CallFor s c k vs lv l seen r y) (sym (reached-there (next_of objs (row_at rows t)) t c rows (λ p. apart c m z (p ∙ e)))) w
    ] refl

-- What is known of a call that was not issued before.
pub record Unissued (vs : List Value) (lv : Bool) (l : ℕ → ℕ → ℕ) (seen : ℕ → ℕ → List Sink) (sends : Bool) : Type 0 where
  pub no_values : vs ≡ []
  pub not_left : lv ≡ false
  pub no_last : (o i : ℕ) → l o i ≡ 0
  pub none_seen : (o i : ℕ) → seen o i ≡ []
  pub not_sent : sends ≡ false

pub out-call : (s : Scenario) (objs : List Source) (rows : List Call) (top : Option ℕ) (t c d : ℕ) (u : Option ℕ) (i m : ℕ) (x : Issue) (k : ℕ → ℕ) (vs : List Value) (lv : Bool) (l : ℕ → ℕ → ℕ) (seen xs : ℕ → ℕ → List Sink) (n : ℕ → ℕ → ℕ) (y : Option Issue)
    → d ≡ length rows + 1 → x.object ≡ u → x.iface ≡ i → x.method ≡ m → t ≡ number_or_zero top → AllKept s objs k xs n
    → (d ≡ c → Unissued vs lv l seen (is_number c top)) → CallFor s c k vs lv l seen (row_at rows c) y
    → CallFor s c k vs lv l (further (is_number c top) l xs seen) (row_at (reached_by t (next_of objs (row_at rows t)) rows ++ (called d u i m ∷ [])) c) (cond (d == c) (Some x) y)
out-call s objs rows top t c d u i m x k vs lv l seen xs n y ed eu ei em e a f w =
    let after : List Call = reached_by t (next_of objs (row_at rows t)) rows in
    let long : length after ≡ length rows = reached-length (next_of objs (row_at rows t)) t rows in
    elim (d == c) as (λ z. (d == c) ≡ z → CallFor s c k vs lv l (further (is_number c top) l xs seen) (row_at (after ++ (called d u i m ∷ [])) c) (cond z (Some x) y)) [
      | true ↦ λ z. let g : d ≡ c = eqb-true d c z in let new : Unissued vs lv l seen (is_number c top) = f g in
          subst (λ (r : Option Call). CallFor s c k vs lv l (further (is_number c top) l xs seen) r (Some x))
          (sym (row-new after (called d u i m) c (sym g ∙ ed ∙ ap (λ (j : ℕ). j + 1) (sym long))))
          (record {
            call = g;
            object = ap number_or_zero (sym eu);
            iface = sym ei;
            method = sym em;
            number = ap first_number (sym new.no_values);
            left = sym new.not_left;
            got = λ p q. (
              sym (new.no_last (number_or_zero x.object) x.iface),
              sym (ap (λ (b : Bool). map cookie_of (further b l xs seen (number_or_zero x.object) x.iface)) new.not_sent ∙ ap (map cookie_of) (new.none_seen (number_or_zero x.object) x.iface)),
            );
          })
      | false ↦ λ z. subst (λ (r : Option Call). CallFor s c k vs lv l (further (is_number c top) l xs seen) r y)
          (sym (row-old after (called d u i m) c (λ p. apart d c z (ed ∙ ap (λ (j : ℕ). j + 1) (sym long) ∙ sym p))))
          (out-old s objs rows top t c k vs lv l seen xs n y e a w)
    ] refl

-- ---- a body that begins

begun-by : (s : Scenario) (objs : List Source) (c : ℕ) (k : ℕ → ℕ) (vs given : List Value) (lv : Bool) (l n : ℕ → ℕ → ℕ) (seen xs : ℕ → ℕ → List Sink) (r : Option Call) (y : Option Issue)
    → AllKept s objs k xs n → CallFor s c k vs lv l seen r y → CallFor s c k given lv n seen (option_map (begun objs (first_number given)) r) y
begun-by s objs c k vs given lv l n seen xs None None a w = tt
begun-by s objs c k vs given lv l n seen xs (Some r) (Some y) a w = record {
  call = w.call;
  object = w.object;
  iface = w.iface;
  method = w.method;
  number = refl;
  left = w.left;
  got = λ p q. let z : Kept s objs (number_or_zero y.object) y.iface (xs (number_or_zero y.object) y.iface) (n (number_or_zero y.object) y.iface) = a (number_or_zero y.object) y.iface p in
      (ap (λ (o : ℕ). advised_of (row_at objs o)) w.object ∙ ap advised_of z.is ∙ z.advised, (w.got p q).1);
}
begun-by s objs c k vs given lv l n seen xs None (Some y) a w = absurd w
begun-by s objs c k vs given lv l n seen xs (Some r) None a w = absurd w

pub enter-call : (s : Scenario) (objs : List Source) (rows : List Call) (d c : ℕ) (k : ℕ → ℕ) (vs given : List Value) (lv : Bool) (l n : ℕ → ℕ → ℕ) (seen xs : ℕ → ℕ → List Sink) (y : Option Issue)
    → AllKept s objs k xs n → CallFor s c k vs lv l seen (row_at rows c) y
    → CallFor s c k (cond (d == c) given vs) lv (λ o i. cond (d == c) (n o i) (l o i)) seen (row_at (with_row (begun objs (first_number given)) no_call d rows) c) y
enter-call s objs rows d c k vs given lv l n seen xs y a w =
    elim (d == c) as (λ z. (d == c) ≡ z → CallFor s c k (cond z given vs) lv (λ o i. cond z (n o i) (l o i)) seen (row_at (with_row (begun objs (first_number given)) no_call d rows) c) y) [
      | true ↦ λ z. subst (λ (j : ℕ). CallFor s c k given lv n seen (row_at (with_row (begun objs (first_number given)) no_call j rows) c) y) (sym (eqb-true d c z))
          (subst (λ (r : Option Call). CallFor s c k given lv n seen r y) (sym (row-here (begun objs (first_number given)) no_call c rows)) (begun-by s objs c k vs given lv l n seen xs (row_at rows c) y a w))
      | false ↦ λ z. subst (λ (r : Option Call). CallFor s c k vs lv l seen r y) (sym (row-there (begun objs (first_number given)) no_call d c rows (λ p. apart d c z (sym p)))) w
    ] refl

-- ---- a body that leaves

ended-by : (s : Scenario) (c : ℕ) (k : ℕ → ℕ) (vs : List Value) (lv : Bool) (l : ℕ → ℕ → ℕ) (seen : ℕ → ℕ → List Sink) (r : Option Call) (y : Option Issue) → CallFor s c k vs lv l seen r y → CallFor s c k vs true l seen (option_map ended r) y
ended-by s c k vs lv l seen None None w = tt
ended-by s c k vs lv l seen (Some r) (Some y) w = record { call = w.call; object = w.object; iface = w.iface; method = w.method; number = w.number; left = refl; got = w.got }
ended-by s c k vs lv l seen None (Some y) w = absurd w
ended-by s c k vs lv l seen (Some r) None w = absurd w

pub leave-call : {X : Type 0} (s : Scenario) (rows : List Call) (d c : ℕ) (k : ℕ → ℕ) (vs : List Value) (x : X) (before : Option X) (l : ℕ → ℕ → ℕ) (seen : ℕ → ℕ → List Sink) (y : Option Issue)
    → CallFor s c k vs (is_some before) l seen (row_at rows c) y → CallFor s c k vs (is_some (cond (d == c) (Some x) before)) l seen (row_at (with_row ended no_call d rows) c) y
leave-call s rows d c k vs x before l seen y w =
    elim (d == c) as (λ z. (d == c) ≡ z → CallFor s c k vs (is_some (cond z (Some x) before)) l seen (row_at (with_row ended no_call d rows) c) y) [
      | true ↦ λ z. subst (λ (j : ℕ). CallFor s c k vs true l seen (row_at (with_row ended no_call j rows) c) y) (sym (eqb-true d c z))
          (subst (λ (r : Option Call). CallFor s c k vs true l seen r y) (sym (row-here ended no_call c rows)) (ended-by s c k vs (is_some before) l seen (row_at rows c) y w))
      | false ↦ λ z. subst (λ (r : Option Call). CallFor s c k vs (is_some before) l seen r y) (sym (row-there ended no_call d c rows (λ p. apart d c z (sym p)))) w
    ] refl
