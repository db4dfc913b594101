-- The rows of an entry that gives, by its deed.
use mathlib.Core.Path.{fun_ext}
use Rattle.std.proofs.Common.{◌≡◌, ℕ, Bool, true, false, cond, eqb, not, ◌&&◌, ◌||◌, ◌+◌, List, [], ◌∷◌, ◌++◌, length, refl, sym, ap, subst, ◌∙◌, arith, eqb-true, inl, inr}
use Rattle.std.proofs.lemmas.Bool.{ne_eqb, eqb-false}
use Rattle.std.proofs.lemmas.Grind.{common_steps}
use Rattle.std.proofs.lemmas.List.{append-nil}
use Rattle.std.specs.Prelude.{Option, Some, None, ℤ, is_some}
use Rattle.com_base.specs.declared.hresult.HResult.{HResult}
use Rattle.com_base.specs.declared.value.RefValue.{RefValue}
use Rattle.com_base.specs.declared.value.Value.{Value}
use Rattle.com_base.specs.declared.value.MarshalMode.{MarshalMode}
use Rattle.com_body.specs.declared.actions.Action.{Action}
use Rattle.com_body.specs.declared.operands.Asked.{Asked}
use Rattle.com_body.specs.declared.operands.Asked.TheVariants as asked
use Rattle.com_refs_books.specs.Changes.{Books, Row, changed, ToProxy, Same, entered_rows, marshal_all}
use Rattle.com_refs_holders.specs.Steps.{made_live}
use Rattle.com_refs_holders.specs.Tables.{Tables, books_of, owns_of}
use Rattle.com_model.specs.declared.deeds.Deed.{Deed}
use Rattle.com_model.specs.declared.deeds.Deed.TheVariants as deed
use Rattle.com_model.specs.declared.deeds.Route.{Route}
use Rattle.com_model.specs.declared.scenario.Scenario.{Scenario}
use Rattle.com_model.specs.Calls.{issues}
use Rattle.com_model.specs.Books.{rows, kept, back_rows}
use Rattle.com_reference_moves.specs.declared.moves.Move.{Move}
use Rattle.com_refs_rows.specs.declared.calls.CallPackets.{CallPackets}
use Rattle.com_refs_rows.specs.Calls.{call_at, arguments_of, arguments_in, result_in, number_of}
use Rattle.com_refs_rows.specs.Books.{Gained, Made, Marshalled, books_with, moved_to, with_arguments, with_answer}
use Rattle.com_refs_rows.specs.Entries.{Around, tally, left_by, ends_holder, brings_to, Carries, Given, Gives, RowsOf, MakesOrNone, is_of_reference}
use Rattle.com_refs_rows.specs.Owners.{Grown}
use Rattle.com_refs_rows.proofs.Cutting.{same_rows}
use Rattle.com_refs_rows.proofs.Gaining.{brought_none}
use Rattle.com_refs_rows.proofs.Entering.{IsPlain, clash, expected, given_by, given_gained, given_later}
use Rattle.com_refs_rows.proofs.Packed.{with_calls, read_rows}

-- ---- a new object

eqb-sym : (m n : ℕ) → eqb m n ≡ eqb n m
eqb-sym m n = elim (eqb m n) as (λ p. eqb m n ≡ p → p ≡ eqb n m) [
  | true ↦ λ e. let same : m ≡ n = eqb-true m n e in rw same (grind (arith, common_steps))
  | false ↦ λ e. sym (ne_eqb n m (λ s. eqb-false m n e (sym s)))
] refl

connects-new : (o : ℕ) (live : ℕ → Bool) (y : ℕ) → eqb y o || live y ≡ (eqb o y || live y) && (true && true)
connects-new o live y = ap (λ (p : Bool). p || live y) (eqb-sym y o) ∙ keeps (eqb o y || live y)
  where
    keeps : (l : Bool) → l ≡ l && (true && true)
    keeps true = refl
    keeps false = refl

new-books : (b : Books) (x : ℕ → List ℕ) (y : ℕ → Option ℕ) (a o i : ℕ) (w : Bool)
    → with_calls (made_live o (changed b (cond w Same (ToProxy a o i 5)))) x y ≡ record (changed (with_calls b x y) (cond w Same (ToProxy a o i 5))) { live = λ z. (eqb o z || (changed (with_calls b x y) (cond w Same (ToProxy a o i 5))).live z) && (true && true) }
new-books b x y a o i true = ap (λ (l : ℕ → Bool). record (with_calls b x y) { live = l }) (fun_ext (connects-new o b.live))
new-books b x y a o i false = ap (λ (l : ℕ → Bool). record (changed (with_calls b x y) (ToProxy a o i 5)) { live = l }) (fun_ext (connects-new o b.live))

pub given_made : (s : Scenario) (x : Option Action) (g : Around) (o w k i : ℕ) (hr : HResult) (t u : Tables) (calls : List CallPackets) (xs ys : List Move)
    → let d : Deed = deed.Made (Some o) (Some w) (asked.Number k) (asked.Number i) hr in
    Made g.apartment (record { object = o; iface = i }) t u → ys ≡ xs ++ moved_to g.apartment (record { object = o; iface = i }) ∷ [] → Grown g.classes (Some (record { object = o; apartment = w; class = k })) t u
    → Given g (expected s x g d t u calls calls xs ys) d (tally t calls) xs (tally u calls) ys
given_made s x g o w k i hr t u calls xs ys = λ made written grown. record {
  moves = moved_to g.apartment (record { object = o; iface = i }) ∷ [];
  written = written;
  none = λ yes. absurd (clash (sym yes));
  below = λ n h. (h, tt);
  owns = λ z c h. elim h [ inl none ↦ absurd (cc) | inr le ↦ made.owns z c le ];
  objects = grown;
  counts = λ n places below all counts. made.counts n places below.0 all counts;
  calls = λ l. omega arith;
  books = ap (λ (b : Books). with_calls b (arguments_in calls) (result_in calls)) made.books ∙ new-books (books_of t) (arguments_in calls) (result_in calls) g.apartment o i (owns_of u.objects o g.apartment);
}

-- ---- calls

pub given_out : (s : Scenario) (x : Option Action) (g : Around) (c : ℕ) (o : Option ℕ) (i m : ℕ) (r : Route) (k : ℕ) (bytes : Option (List ℕ)) (t u : Tables) (calls later : List CallPackets) (xs : List Move) (rs : List RefValue)
    → let d : Deed = deed.Out c o i m r k bytes in
    Carries s x (books_with t calls) d g.carried → rs ≡ cond (is_some bytes) g.carried []
    → Marshalled (marshal_all g.apartment rs) t u → books_with u later ≡ with_arguments c (books_with t calls) (entered_rows (owns_of t.objects) (books_with t calls) (marshal_all g.apartment rs))
    → length later ≡ length calls + 1 → Given g (expected s x g d t u calls later xs xs) d (tally t calls) xs (tally u later) xs
given_out s x g c o i m r k None t u calls later xs rs = λ carries is packed books many.
    given_by s x g (deed.Out c o i m r k None) t u calls later xs xs refl (record { makes_none = refl; disconnects_none = refl; ends_none = refl }) (λ l. omega (arith, many)) [] (sym (append-nil xs)) (λ n h. tt) (brought_none t u packed.places)
    (books ∙ ap (λ (l : List RefValue). with_arguments c (books_with t calls) (entered_rows (owns_of t.objects) (books_with t calls) (marshal_all g.apartment l))) is)
given_out s x g c o i m r k (Some bytes) t u calls later xs rs = λ carries is packed books many.
    given_by s x g (deed.Out c o i m r k (Some bytes)) t u calls later xs xs refl (record { makes_none = refl; disconnects_none = refl; ends_none = refl }) (λ l. omega (arith, many)) [] (sym (append-nil xs)) (λ n h. tt) (brought_none t u packed.places)
    (books ∙ ap (λ (l : List RefValue). with_arguments c (books_with t calls) (entered_rows (owns_of t.objects) (books_with t calls) (marshal_all g.apartment l))) (is ∙ carries))

pub given_leave : (s : Scenario) (x : Option Action) (g : Around) (c : ℕ) (hr : HResult) (v : Option Value) (bytes : Option (List ℕ)) (t u : Tables) (calls later : List CallPackets) (xs : List Move) (rs : List RefValue)
    → let d : Deed = deed.Leave c hr v bytes in
    Carries s x (books_with t calls) d g.carried → rs ≡ cond (is_some bytes) g.carried []
    → Marshalled (marshal_all g.apartment rs) t u → books_with u later ≡ with_answer c (books_with t calls) (entered_rows (owns_of t.objects) (books_with t calls) (marshal_all g.apartment rs))
    → length later ≡ length calls → Given g (expected s x g d t u calls later xs xs) d (tally t calls) xs (tally u later) xs
given_leave s x g c hr v None t u calls later xs rs = λ carries is packed books many.
    given_by s x g (deed.Leave c hr v None) t u calls later xs xs refl (record { makes_none = refl; disconnects_none = refl; ends_none = refl }) (λ l. omega (arith, many)) [] (sym (append-nil xs)) (λ n h. tt) (brought_none t u packed.places)
    (books ∙ ap (λ (l : List RefValue). with_answer c (books_with t calls) (entered_rows (owns_of t.objects) (books_with t calls) (marshal_all g.apartment l))) is)
given_leave s x g c hr v (Some bytes) t u calls later xs rs = λ carries is packed books many.
    given_by s x g (deed.Leave c hr v (Some bytes)) t u calls later xs xs refl (record { makes_none = refl; disconnects_none = refl; ends_none = refl }) (λ l. omega (arith, many)) [] (sym (append-nil xs)) (λ n h. tt) (brought_none t u packed.places)
    (books ∙ ap (λ (l : List RefValue). with_answer c (books_with t calls) (entered_rows (owns_of t.objects) (books_with t calls) (marshal_all g.apartment l))) (is ∙ carries))

pub given_enter : (s : Scenario) (x : Option Action) (g : Around) (c o y : ℕ) (w : Option ℕ) (vs : List Value) (t u : Tables) (calls : List CallPackets) (row : CallPackets) (xs ys : List Move)
    → let d : Deed = deed.Enter c o y w vs in
    row ≡ call_at calls c → Gained y (read_rows y (arguments_of row)) t u xs ys → Given g (expected s x g d t u calls calls xs ys) d (tally t calls) xs (tally u calls) ys
given_enter s x g c o y w vs t u calls row xs ys = λ is f.
    given_gained s x g (deed.Enter c o y w vs) t u calls calls xs ys refl (record { makes_none = refl; disconnects_none = refl; ends_none = refl }) (λ b z. refl) (λ l. refl) refl
    (subst (λ (r : CallPackets). Gained y (read_rows y (arguments_of r)) t u xs ys) is f)

-- A call whose answer is its body's Leave comes back.
pub given_back : (s : Scenario) (x : Option Action) (g : Around) (c : ℕ) (hr : HResult) (v : Option Value) (t u : Tables) (calls : List CallPackets) (number : ℕ) (xs ys : List Move)
    → let d : Deed = deed.Back c hr v in
    number ≡ (call_at calls c).result → left_by g.calls c ≡ true → Gained g.apartment (back_rows g.apartment true (number_of number)) t u xs ys → Given g (expected s x g d t u calls calls xs ys) d (tally t calls) xs (tally u calls) ys
given_back s x g c hr v t u calls number xs ys = λ is left f.
    given_gained s x g (deed.Back c hr v) t u calls calls xs ys (ap (λ (p : Bool). not p) left) (record { makes_none = refl; disconnects_none = refl; ends_none = refl }) (λ b z. refl) (λ l. refl) refl
    (subst (λ (p : Bool). Gained g.apartment (back_rows g.apartment p (number_of (call_at calls c).result)) t u xs ys) (sym left)
    (subst (λ (k : ℕ). Gained g.apartment (back_rows g.apartment true (number_of k)) t u xs ys) is f))

-- ---- nothing is given

pub given_none : (s : Scenario) (x : Option Action) (g : Around) (d : Deed) (t : Tables) (calls : List CallPackets) (xs : List Move)
    → ends_holder (left_by g.calls) d ≡ false → IsPlain d → ((b c : Books) → kept b d c ≡ c) → ((l : ℕ) → issues l d ≡ None) → rows s x (left_by g.calls) (books_with t calls) g.apartment d ≡ [] → Given g (expected s x g d t t calls calls xs xs) d (tally t calls) xs (tally t calls) xs
given_none s x g d t calls xs gives plain keeps quiet none =
    given_gained s x g d t t calls calls xs xs gives plain keeps quiet refl (subst (λ (rs : List Row). Gained (brings_to g.apartment d) rs t t xs xs) (sym none) (record {
      moves = [];
      written = sym (append-nil xs);
      below = λ n h. tt;
      places = brought_none t t (same_rows t t refl refl);
      books = refl;
    }))

-- ---- each deed

pub gives_rows : (g : Around) (d : Deed) (t u : Tables) (calls : List CallPackets) (xs ys : List Move) → ((left : ℕ → Bool) → ends_holder left d ≡ false) → IsPlain d → ((b c : Books) → kept b d c ≡ c) → ((l : ℕ) → issues l d ≡ None)
    → brings_to g.apartment d ≡ g.apartment → RowsOf g.apartment d t u xs ys → Gives g d (tally t calls) xs (tally u calls) ys
gives_rows g d t u calls xs ys gives plain keeps quiet here each = λ s x carries.
    given_gained s x g d t u calls calls xs ys (gives (left_by g.calls)) plain keeps quiet refl
    (subst (λ (a : ℕ). Gained a (rows s x (left_by g.calls) (books_with t calls) g.apartment d) t u xs ys) (sym here) (each s x (left_by g.calls) (books_with t calls)))

pub gives_query : (g : Around) (o : Option ℕ) (i : Asked) (hr : HResult) (t u : Tables) (calls : List CallPackets) (xs ys : List Move) → RowsOf g.apartment (deed.Query o i hr) t u xs ys → Gives g (deed.Query o i hr) (tally t calls) xs (tally u calls) ys
gives_query g o i hr t u calls xs ys each = gives_rows g (deed.Query o i hr) t u calls xs ys (λ left. refl) (record { makes_none = refl; disconnects_none = refl; ends_none = refl }) (λ b c. refl) (λ l. refl) refl each

pub gives_marshal : (g : Around) (p : Option ℕ) (m : MarshalMode) (held : Option RefValue) (n : ℕ) (hr : HResult) (bytes : Option (List ℕ)) (t u : Tables) (calls : List CallPackets) (xs ys : List Move)
    → RowsOf g.apartment (deed.Marshal p m held n hr bytes) t u xs ys → Gives g (deed.Marshal p m held n hr bytes) (tally t calls) xs (tally u calls) ys
gives_marshal g p m held n hr bytes t u calls xs ys each = gives_rows g (deed.Marshal p m held n hr bytes) t u calls xs ys (λ left. refl) (record { makes_none = refl; disconnects_none = refl; ends_none = refl }) (λ b c. refl) (λ l. refl) refl each

pub gives_unmarshal : (g : Around) (p : Option ℕ) (held : Option RefValue) (n : ℕ) (hr : HResult) (t u : Tables) (calls : List CallPackets) (xs ys : List Move)
    → RowsOf g.apartment (deed.Unmarshal p held n hr) t u xs ys → Gives g (deed.Unmarshal p held n hr) (tally t calls) xs (tally u calls) ys
gives_unmarshal g p held n hr t u calls xs ys each = gives_rows g (deed.Unmarshal p held n hr) t u calls xs ys (λ left. refl) (record { makes_none = refl; disconnects_none = refl; ends_none = refl }) (λ b c. refl) (λ l. refl) refl each

pub gives_register : (g : Around) (k : Option ℕ) (held : Option RefValue) (hr : HResult) (t u : Tables) (calls : List CallPackets) (xs ys : List Move)
    → RowsOf g.apartment (deed.Register k held hr) t u xs ys → Gives g (deed.Register k held hr) (tally t calls) xs (tally u calls) ys
gives_register g k held hr t u calls xs ys each = gives_rows g (deed.Register k held hr) t u calls xs ys (λ left. refl) (record { makes_none = refl; disconnects_none = refl; ends_none = refl }) (λ b c. refl) (λ l. refl) refl each

pub gives_get : (g : Around) (k : ℤ) (held : Option RefValue) (n : ℕ) (hr : HResult) (t u : Tables) (calls : List CallPackets) (xs ys : List Move)
    → RowsOf g.apartment (deed.Get k held n hr) t u xs ys → Gives g (deed.Get k held n hr) (tally t calls) xs (tally u calls) ys
gives_get g k held n hr t u calls xs ys each = gives_rows g (deed.Get k held n hr) t u calls xs ys (λ left. refl) (record { makes_none = refl; disconnects_none = refl; ends_none = refl }) (λ b c. refl) (λ l. refl) refl each

pub gives_nothing : (g : Around) (d : Deed) (t : Tables) (calls : List CallPackets) (xs : List Move) → ((left : ℕ → Bool) → ends_holder left d ≡ false) → IsPlain d → ((b c : Books) → kept b d c ≡ c) → ((l : ℕ) → issues l d ≡ None)
    → ((s : Scenario) (x : Option Action) (left : ℕ → Bool) (b : Books) → rows s x left b g.apartment d ≡ []) → Gives g d (tally t calls) xs (tally t calls) xs
gives_nothing g d t calls xs gives plain keeps quiet none = λ s x carries. given_none s x g d t calls xs (gives (left_by g.calls)) plain keeps quiet (none s x (left_by g.calls) (books_with t calls))

pub gives_made : (g : Around) (o w : Option ℕ) (k i : Asked) (hr : HResult) (t u : Tables) (calls : List CallPackets) (xs ys : List Move) → MakesOrNone g.classes g.apartment o w k i t u xs ys → Gives g (deed.Made o w k i hr) (tally t calls) xs (tally u calls) ys
gives_made g (Some o) (Some w) (asked.Number k) (asked.Number i) hr t u calls xs ys m = λ s x carries. given_made s x g o w k i hr t u calls xs ys m.0 m.1 m.2
gives_made g None w k i hr t u calls xs ys m =
    subst (λ (v : Tables). Gives g (deed.Made None w k i hr) (tally t calls) xs (tally v calls) ys) (sym m.0)
    (subst (λ (l : List Move). Gives g (deed.Made None w k i hr) (tally t calls) xs (tally t calls) l) (sym m.1)
    (gives_nothing g (deed.Made None w k i hr) t calls xs (λ left. refl) (record { makes_none = refl; disconnects_none = refl; ends_none = refl }) (λ b c. refl) (λ l. refl) (λ s x left b. refl)))
gives_made g (Some o) w k i hr t u calls xs ys m = absurd m

pub gives_back : (g : Around) (c : ℕ) (hr : HResult) (v : Option Value) (t u : Tables) (calls : List CallPackets) (number : ℕ) (xs ys : List Move)
    → number ≡ (call_at calls c).result → left_by g.calls c ≡ true → Gained g.apartment (back_rows g.apartment true (number_of number)) t u xs ys → Gives g (deed.Back c hr v) (tally t calls) xs (tally u calls) ys
gives_back g c hr v t u calls number xs ys is left f = λ s x carries. given_back s x g c hr v t u calls number xs ys is left f

-- A result that is given up, later.
pub gives_later : (g : Around) (d : Deed) (t : Tables) (calls : List CallPackets) (xs : List Move) → ends_holder (left_by g.calls) d ≡ true → ((l : ℕ) → issues l d ≡ None) → Gives g d (tally t calls) xs (tally t calls) xs
gives_later g d t calls xs takes quiet = λ s x carries. given_later s x g d t t calls calls xs xs takes quiet refl refl refl

pub gives_other : (g : Around) (d : Deed) (t : Tables) (calls : List CallPackets) (xs : List Move) → is_of_reference d ≡ false
    → ((c : ℕ) (o : Option ℕ) (i m : ℕ) (r : Route) (k : ℕ) (bytes : Option (List ℕ)) → d ≡ deed.Out c o i m r k bytes → ⊥)
    → ((c o y : ℕ) (w : Option ℕ) (vs : List Value) → d ≡ deed.Enter c o y w vs → ⊥)
    → ((c : ℕ) (hr : HResult) (v : Option Value) (bytes : Option (List ℕ)) → d ≡ deed.Leave c hr v bytes → ⊥)
    → ((c : ℕ) (hr : HResult) (v : Option Value) → d ≡ deed.Back c hr v → ⊥)
    → Gives g d (tally t calls) xs (tally t calls) xs
gives_other g (deed.Out c o i m r k bytes) t calls xs h out enter leave back = absurd (out c o i m r k bytes refl)
gives_other g (deed.Enter c o y w vs) t calls xs h out enter leave back = absurd (enter c o y w vs refl)
gives_other g (deed.Leave c hr v bytes) t calls xs h out enter leave back = absurd (leave c hr v bytes refl)
gives_other g (deed.Back c hr v) t calls xs h out enter leave back = absurd (back c hr v refl)
gives_other g (deed.Made o w k i hr) t calls xs h out enter leave back = absurd (clash h)
gives_other g (deed.Query o i hr) t calls xs h out enter leave back = absurd (clash h)
gives_other g (deed.Marshal p m held n hr bytes) t calls xs h out enter leave back = absurd (clash h)
gives_other g (deed.Unmarshal p held n hr) t calls xs h out enter leave back = absurd (clash h)
gives_other g (deed.Register k held hr) t calls xs h out enter leave back = absurd (clash h)
gives_other g (deed.Get k held n hr) t calls xs h out enter leave back = absurd (clash h)
gives_other g (deed.DropPacket p hr) t calls xs h out enter leave back = gives_later g (deed.DropPacket p hr) t calls xs refl (λ l. refl)
gives_other g (deed.Revoke k hr) t calls xs h out enter leave back = gives_later g (deed.Revoke k hr) t calls xs refl (λ l. refl)
gives_other g (deed.Disconnect o hr) t calls xs h out enter leave back = gives_later g (deed.Disconnect o hr) t calls xs refl (λ l. refl)
gives_other g (deed.Uninit home n) t calls xs h out enter leave back = gives_later g (deed.Uninit home n) t calls xs refl (λ l. refl)
gives_other g d t calls xs h out enter leave back = gives_nothing g d t calls xs (λ left. refl) (record { makes_none = refl; disconnects_none = refl; ends_none = refl }) (λ b c. refl) (λ l. refl) (λ s x left b. refl)

pub not_of_reference : (d : Deed)
    → ((o w : Option ℕ) (k i : Asked) (hr : HResult) → d ≡ deed.Made o w k i hr → ⊥)
    → ((o : Option ℕ) (i : Asked) (hr : HResult) → d ≡ deed.Query o i hr → ⊥)
    → ((p : Option ℕ) (m : MarshalMode) (held : Option RefValue) (n : ℕ) (hr : HResult) (bytes : Option (List ℕ)) → d ≡ deed.Marshal p m held n hr bytes → ⊥)
    → ((p : Option ℕ) (held : Option RefValue) (n : ℕ) (hr : HResult) → d ≡ deed.Unmarshal p held n hr → ⊥)
    → ((k : Option ℕ) (held : Option RefValue) (hr : HResult) → d ≡ deed.Register k held hr → ⊥)
    → ((k : ℤ) (held : Option RefValue) (n : ℕ) (hr : HResult) → d ≡ deed.Get k held n hr → ⊥)
    → is_of_reference d ≡ false
not_of_reference (deed.Made o w k i hr) made query marshal unmarshal register get = absurd (made o w k i hr refl)
not_of_reference (deed.Query o i hr) made query marshal unmarshal register get = absurd (query o i hr refl)
not_of_reference (deed.Marshal p m held n hr bytes) made query marshal unmarshal register get = absurd (marshal p m held n hr bytes refl)
not_of_reference (deed.Unmarshal p held n hr) made query marshal unmarshal register get = absurd (unmarshal p held n hr refl)
not_of_reference (deed.Register k held hr) made query marshal unmarshal register get = absurd (register k held hr refl)
not_of_reference (deed.Get k held n hr) made query marshal unmarshal register get = absurd (get k held n hr refl)
not_of_reference d made query marshal unmarshal register get = refl
