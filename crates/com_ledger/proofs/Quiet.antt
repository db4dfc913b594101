-- Entries that do not touch the books.
use Rattle.std.proofs.Common.{◌≡◌, ℕ, zero, suc, ◌+◌, ◌-◌, ◌==◌, pos, negsuc, Bool, true, false, not, cond, List, [], ◌∷◌, ◌++◌, length, refl, sym, ap, ◌∙◌, arith, eqb-true}
use Rattle.std.proofs.lemmas.List.{length-append}
use Rattle.std.specs.Prelude.{Option, Some, None, is_some, slice_index_or}
use Rattle.com_base.specs.declared.hresult.HResult.{HResult}
use Rattle.com_base.specs.declared.value.Value.{Value}
use Rattle.com_body.specs.declared.actions.Action.{Action}
use Rattle.com_refs_books.specs.Changes.{Books, Row, Revokes, entered_rows, made_since}
use Rattle.com_refs_books.specs.Counting.{count_if, numbers_from}
use Rattle.com_refs_books.specs.Ends.{ends}
use Rattle.com_refs_holders.specs.Places.{Counts}
use Rattle.com_refs_holders.specs.Stands.{Tells}
use Rattle.com_refs_holders.specs.Tables.{Tables, books_of, owns_of}
use Rattle.com_model.specs.declared.deeds.Deed.{Deed}
use Rattle.com_model.specs.declared.deeds.Deed.TheVariants as deed
use Rattle.com_model.specs.declared.keeps.Issue.{Issue}
use Rattle.com_model.specs.declared.scenario.Scenario.{Scenario}
use Rattle.com_model.specs.Answers.{is_S_OK}
use Rattle.com_model.specs.Books.{back_rows, rows, kept}
use Rattle.com_model.specs.Calls.{issues}
use Rattle.com_model.specs.declared.deeds.Route.{Route}
use Rattle.com_model.specs.Lists.{put}
use Rattle.com_model.specs.Objects.{makes}
use Rattle.com_laws_unchanged.specs.Ends.{connected}
use Rattle.com_laws_unchanged.specs.Rowless.{is_rowless}
use Rattle.com_laws_unchanged.proofs.Rowless.{Rowless, rowless, same-connected}
use Rattle.com_refs.specs.Totals.{Totals}
use Rattle.com_state.specs.Parts.{named_at}
use Rattle.com_state.specs.Resting.{is_quiet}
use Rattle.com_refs_rows.specs.declared.calls.CallPackets.{CallPackets}
use Rattle.com_refs_rows.specs.Books.{books_with}
use Rattle.com_refs_rows.specs.Calls.{arguments_in, arguments_of, call_at, no_packets, number_of, result_in}
use Rattle.com_refs_rows.specs.Entries.{Applies, Around, entered, left_by, tally}
use Rattle.com_refs_rows.specs.Moving.{plus}
use Rattle.com_refs_rows.proofs.Cutting.{same_rows}
use Rattle.com_refs_rows.proofs.Entering.{ends_beside}
use Rattle.com_refs_rows.proofs.Owning.{grown_none, owned_same}
use Rattle.com_refs_rows.proofs.Packed.{with_calls}
use Rattle.com_refs_rows.proofs.Placed.{same_counts}
use Rattle.com_ledger.specs.Quiet.{LeavesBooks}

clash : false ≡ true → ⊥
clash e = cc

off : (b : Bool) → not b ≡ true → b ≡ false
off true e = absurd (clash e)
off false e = refl

-- ---- the deeds

quiet-rowless : (d : Deed) → is_quiet d ≡ true → is_rowless d ≡ true
quiet-rowless (deed.Init m a hr) q = refl
quiet-rowless (deed.Made o a k i hr) q = absurd (clash q)
quiet-rowless (deed.Query o i hr) q = absurd (clash q)
quiet-rowless (deed.Copy held) q = absurd (clash q)
quiet-rowless (deed.Release held) q = absurd (clash q)
quiet-rowless (deed.Unmarshal p held refs hr) q = absurd (clash q)
quiet-rowless (deed.Get g held refs hr) q = absurd (clash q)
quiet-rowless (deed.Final o) q = absurd (clash q)
quiet-rowless d q = q

quiet-rows : (s : Scenario) (x : Option Action) (left : ℕ → Bool) (b : Books) (a : ℕ) (d : Deed) → is_quiet d ≡ true → rows s x left b a d ≡ []
quiet-rows s x left b a (deed.Made o w k i hr) q = absurd (clash q)
quiet-rows s x left b a (deed.Query o i hr) q = absurd (clash q)
quiet-rows s x left b a (deed.Marshal (Some p) m held refs hr bytes) q = absurd (clash q)
quiet-rows s x left b a (deed.Marshal None m held refs hr bytes) q = refl
quiet-rows s x left b a (deed.Unmarshal p held refs hr) q = absurd (clash q)
quiet-rows s x left b a (deed.DropPacket (Some p) hr) q = absurd (clash q)
quiet-rows s x left b a (deed.DropPacket None hr) q = refl
quiet-rows s x left b a (deed.Register (Some g) held hr) q = absurd (clash q)
quiet-rows s x left b a (deed.Register None held hr) q = refl
quiet-rows s x left b a (deed.Get g held refs hr) q = absurd (clash q)
quiet-rows s x left b a (deed.Revoke (pos g) hr) q = ap (λ (t : Bool). cond t (Revokes g ∷ []) []) (off (is_S_OK hr) q)
quiet-rows s x left b a (deed.Revoke (negsuc g) hr) q = refl
quiet-rows s x left b a (deed.Out c o i m r k bytes) q = absurd (clash q)
quiet-rows s x left b a (deed.Enter c o y t vs) q = absurd (clash q)
quiet-rows s x left b a (deed.Leave c hr v bytes) q = absurd (clash q)
quiet-rows s x left b a (deed.Back c hr v) q = absurd (clash q)
quiet-rows s x left b a _ q = refl

quiet-kept : (b : Books) (d : Deed) (c : Books) → is_quiet d ≡ true → kept b d c ≡ c
quiet-kept b (deed.Out k o i m r x bytes) c q = absurd (clash q)
quiet-kept b (deed.Leave k hr v bytes) c q = absurd (clash q)
quiet-kept b _ c q = refl

quiet-issues : (d : Deed) (l : ℕ) → is_quiet d ≡ true → issues l d ≡ None
quiet-issues (deed.Out c o i m r k bytes) l q = absurd (clash q)
quiet-issues _ l q = refl

-- With the row of a quiet deed the books are as they were.
pub quiet_leaves : (g : Around) (d : Deed) (t : Tables) (calls : List CallPackets) → is_quiet d ≡ true → LeavesBooks g d t calls calls
quiet_leaves g d t calls q = record {
  books = λ s x owned.
      let b : Books = books_with t calls in
      ap (λ (r : List Row). connected d (named_at g.objects) (kept b d (entered_rows owned b r))) (quiet-rows s x (left_by g.calls) b g.apartment d q)
      ∙ ap (connected d (named_at g.objects)) (quiet-kept b d b q)
      ∙ same-connected d (named_at g.objects) b (rowless d (quiet-rowless d q));
  number = λ l. let none : count_if (is_some (issues l d)) ≡ 0 = ap (λ (i : Option Issue). count_if (is_some i)) (quiet-issues d l q) in omega (arith, none);
  makes_none = (rowless d (quiet-rowless d q)).no_making;
}

-- So they are where a call comes back whose result no packet carries.
pub back_leaves : (g : Around) (c : ℕ) (hr : HResult) (v : Option Value) (t : Tables) (calls : List CallPackets) → (call_at calls c).result ≡ 0
    → LeavesBooks g (deed.Back c hr v) t calls calls
back_leaves g c hr v t calls none = record {
  books = λ s x owned.
      let b : Books = books_with t calls in
      ap (λ (k : ℕ). connected (deed.Back c hr v) (named_at g.objects) (entered_rows owned b (back_rows g.apartment (left_by g.calls c) (number_of k)))) none
      ∙ same-connected (deed.Back c hr v) (named_at g.objects) b (record { no_making = refl; no_end = refl; no_cut = refl });
  number = λ l. omega arith;
  makes_none = refl;
}

-- An Out that sends no packets has a row of its own, and else they are as they were.
row-beyond : (calls : List CallPackets) (k : ℕ) → slice_index_or (calls ++ no_packets ∷ []) k no_packets ≡ slice_index_or calls k no_packets
row-beyond [] zero = refl
row-beyond [] (suc k) = refl
row-beyond (r ∷ rs) zero = refl
row-beyond (r ∷ rs) (suc k) = row-beyond rs k

call-beyond : (calls : List CallPackets) (c : ℕ) → call_at (calls ++ no_packets ∷ []) c ≡ call_at calls c
call-beyond calls zero = refl
call-beyond calls (suc k) = row-beyond calls k

put-none : (calls : List CallPackets) (c : ℕ) → (call_at calls c).count ≡ 0 → (j : ℕ) → put c [] (arguments_in calls) j ≡ arguments_in (calls ++ no_packets ∷ []) j
put-none calls c none j = by-test (j == c) refl ∙ ap arguments_of (sym (call-beyond calls j))
  where
    empty : arguments_in calls c ≡ []
    empty = ap (λ (n : ℕ). numbers_from (call_at calls c).first n) none

    by-test : (t : Bool) → (j == c) ≡ t → put c [] (arguments_in calls) j ≡ arguments_in calls j
    by-test true q = ap (λ (b : Bool). cond b [] (arguments_in calls j)) q ∙ sym empty ∙ ap (arguments_in calls) (sym (eqb-true j c q))
    by-test false q = ap (λ (b : Bool). cond b [] (arguments_in calls j)) q

made-none : (b : Books) → made_since b b ≡ []
made-none b = let n : length b.packets - length b.packets ≡ 0 = omega arith in ap (λ (k : ℕ). numbers_from (length b.packets + 1) k) n

pub out_leaves : (g : Around) (c : ℕ) (o : Option ℕ) (i m : ℕ) (r : Route) (k : ℕ) (t : Tables) (calls : List CallPackets) → (call_at calls c).count ≡ 0
    → LeavesBooks g (deed.Out c o i m r k None) t calls (calls ++ no_packets ∷ [])
out_leaves g c o i m r k t calls none = record {
  books = λ s x owned.
      let b : Books = books_with t calls in
      let d : Deed = deed.Out c o i m r k None in
      same-connected d (named_at g.objects) (kept b d b) (record { no_making = refl; no_end = refl; no_cut = refl })
      ∙ ap (λ (ps : List ℕ). record b { arguments = put c ps b.arguments }) (made-none b)
      ∙ (λ z. record b { arguments = λ j. put-none calls c none j z; result = λ j. number_of (sym (call-beyond calls j) z).result });
  number = λ l. omega (arith, length-append calls (no_packets ∷ []));
  makes_none = refl;
}

-- ---- the whole entry

-- Nothing comes to places, and nothing leaves them.
counts-later : (n : ℕ) (places later : ℕ → ℕ → ℕ) (t : Tables) → Counts n places t → ((c o : ℕ) → plus later [] c o ≡ plus places [] c o) → Counts n later t
counts-later n places later t counts both =
    same_counts n places later t (λ c o. let e : plus later [] c o ≡ plus places [] c o = both c o in omega (arith, e)) counts

pub passed_applies : (g : Around) (d : Deed) (t : Tables) (calls later : List CallPackets) → LeavesBooks g d t calls later
    → ((n : ℕ) (places : ℕ → ℕ → ℕ) → Counts n places t → Tells n places t) → ((n : ℕ) (places : ℕ → ℕ → ℕ) → Counts n places t → Totals n places t)
    → ((n : ℕ) (places : ℕ → ℕ → ℕ) → Tells n places t → Totals n places t → ends n places (books_of t) ≡ books_of t)
    → Applies g d [] [] (tally t calls) (tally t later)
passed_applies g d t calls later leaves tells totals rests = λ s x carries. record {
  calls = leaves.number;
  owned = owns_of t.objects;
  owns = λ y c h. refl;
  exact = λ y c. refl;
  objects = grown_none g.classes (makes d) t t leaves.makes_none (owned_same t t (same_rows t t refl refl));
  counts = λ n places after low gs ls made counts both. counts-later n places after t counts both;
  books = λ n places after low gs ls made counts both.
      let now : Counts n after t = counts-later n places after t counts both in
      sym (ap (λ (b : Books). ends n after b) (leaves.books s x (owns_of t.objects))
      ∙ ends_beside n after (books_of t) (arguments_in later) (result_in later)
      ∙ ap (λ (b : Books). with_calls b (arguments_in later) (result_in later)) (rests n after (tells n after now) (totals n after now)));
}
