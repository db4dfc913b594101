-- The row of an entry that ends a holder which is no place, by its deed.
use mathlib.Core.Path.{fun_ext}
use Rattle.std.proofs.Common.{◌≡◌, ℕ, zero, suc, ℤ, pos, negsuc, Bool, true, false, cond, eqb, not, nat_le, ◌&&◌, ◌||◌, List, [], ◌∷◌, refl, sym, ap, subst, ◌∙◌, arith, eqb-true}
use Rattle.std.proofs.lemmas.Bool.{ne_eqb, eqb-false}
use Rattle.std.proofs.lemmas.Grind.{common_steps}
use Rattle.std.specs.Prelude.{Option, Some, None}
use Rattle.com_base.specs.declared.hresult.HResult.{HResult}
use Rattle.com_base.specs.declared.value.Value.{Value}
use Rattle.com_body.specs.declared.actions.Action.{Action}
use Rattle.com_refs_books.specs.Changes.{Books, Row, Drops, Revokes, entered_rows}
use Rattle.com_refs_holders.specs.Places.{Counts}
use Rattle.com_refs_holders.specs.Stands.{Tells}
use Rattle.com_refs_holders.specs.Tables.{Tables, owns_of}
use Rattle.com_model.specs.declared.deeds.Deed.{Deed}
use Rattle.com_model.specs.declared.deeds.Deed.TheVariants as deed
use Rattle.com_model.specs.declared.scenario.Scenario.{Scenario}
use Rattle.com_model.specs.Apartments.{ends_sta}
use Rattle.com_model.specs.Books.{rows, kept, back_rows, made_by}
use Rattle.com_model.specs.Deeds.{cookie_number}
use Rattle.com_model.specs.Lists.{is_number, where_true}
use Rattle.com_model.specs.Objects.{makes, disconnects}
use Rattle.com_laws_unchanged.specs.Ends.{connected}
use Rattle.com_refs.specs.Totals.{Totals}
use Rattle.com_state.specs.Parts.{ObjectTables, named_at}
use Rattle.com_refs_rows.specs.declared.calls.CallPackets.{CallPackets}
use Rattle.com_refs_rows.specs.Calls.{call_at, number_of}
use Rattle.com_refs_rows.specs.Books.{Taken, Cut, books_with}
use Rattle.com_refs_rows.specs.Entries.{Around, tally, left_by, entered, ends_holder, Closed, Closes, ClosesTables, GivesUp}
use Rattle.com_refs_rows.proofs.Entering.{IsPlain, connected_plain, closed_none, closed_taken, closed_cut}
use Rattle.com_refs_rows.proofs.Losing.{withdraw_none}

module _ (s : Scenario) (x : Option Action) (g : Around) (owned : ℕ → ℕ → Bool) (calls : List CallPackets) (t u : Tables) where
  abbrev pub expects : Deed → Books
  expects d = entered s x g owned d (books_with t calls)

  -- no row, and nothing happened
  pub closed_plain : (d : Deed) → IsPlain d → u ≡ t → kept (books_with t calls) d (entered_rows owned (books_with t calls) (rows s x (left_by g.calls) (books_with t calls) g.apartment d)) ≡ books_with t calls
      → Closed (expects d) (tally t calls) (tally u calls)
  closed_plain d plain e none = closed_none (expects d) (tally t calls) (tally u calls) (ap (λ (v : Tables). tally v calls) e)
      (connected_plain d (named_at g.objects) (kept (books_with t calls) d (entered_rows owned (books_with t calls) (rows s x (left_by g.calls) (books_with t calls) g.apartment d))) plain ∙ none)

  module _ (tells : (n : ℕ) (places : ℕ → ℕ → ℕ) → Counts n places u → Tells n places u) (totals : (n : ℕ) (places : ℕ → ℕ → ℕ) → Counts n places u → Totals n places u) where
    pub closed_row : (d : Deed) (row : Row) → IsPlain d → Taken row t u
        → kept (books_with t calls) d (entered_rows owned (books_with t calls) (rows s x (left_by g.calls) (books_with t calls) g.apartment d)) ≡ entered_rows (owns_of t.objects) (books_with t calls) (row ∷ [])
        → Closed (expects d) (tally t calls) (tally u calls)
    closed_row d row plain taken one = closed_taken row t u calls (expects d) tells totals taken
        (connected_plain d (named_at g.objects) (kept (books_with t calls) d (entered_rows owned (books_with t calls) (rows s x (left_by g.calls) (books_with t calls) g.apartment d))) plain ∙ one)

    -- a packet
    pub closed_drop : (p : ℕ) (hr : HResult) → Taken (Drops p) t u → Closed (expects (deed.DropPacket (Some p) hr)) (tally t calls) (tally u calls)
    closed_drop p hr taken = closed_row (deed.DropPacket (Some p) hr) (Drops p) (record { makes_none = refl; disconnects_none = refl; ends_none = refl }) taken refl

    -- a cookie
    pub closed_revoke : (g' : ℤ) (hr : HResult) → hr.0 ≡ 0 → Taken (Revokes (cookie_number g')) t u → Closed (expects (deed.Revoke g' hr)) (tally t calls) (tally u calls)
    closed_revoke (pos n) hr ok taken = closed_row (deed.Revoke (pos n) hr) (Revokes n) (record { makes_none = refl; disconnects_none = refl; ends_none = refl }) taken
        (ap (λ (k : ℕ). entered_rows owned (books_with t calls) (cond (eqb k 0) (Revokes n ∷ []) [])) ok)
    closed_revoke (negsuc n) hr ok taken = closed_row (deed.Revoke (negsuc n) hr) (Revokes 0) (record { makes_none = refl; disconnects_none = refl; ends_none = refl }) taken (sym (withdraw_none (books_with t calls) 0 refl))

    -- the result's packet of a call
    pub closed_back : (c number : ℕ) (hr : HResult) (v : Option Value) → left_by g.calls c ≡ false → (call_at calls c).result ≡ suc number → Taken (Drops (suc number)) t u → Closed (expects (deed.Back c hr v)) (tally t calls) (tally u calls)
    closed_back c number hr v left is taken = closed_row (deed.Back c hr v) (Drops (suc number)) (record { makes_none = refl; disconnects_none = refl; ends_none = refl }) taken
        (ap (λ (w : Bool). entered_rows owned (books_with t calls) (back_rows g.apartment w (number_of (call_at calls c).result))) left
        ∙ ap (λ (k : ℕ). entered_rows owned (books_with t calls) (back_rows g.apartment false (number_of k))) is)

    pub closed_given_up : (c number : ℕ) (hr : HResult) (v : Option Value) → (number ≡ 0 → ⊥) → left_by g.calls c ≡ false → (call_at calls c).result ≡ number → Taken (Drops number) t u → Closed (expects (deed.Back c hr v)) (tally t calls) (tally u calls)
    closed_given_up c zero hr v some left is taken = absurd (some refl)
    closed_given_up c (suc number) hr v some left is taken = closed_back c number hr v left is taken

  -- a cookie that was not revoked, and a result that has no packet
  pub closed_unrevoked : (g' : ℤ) (hr : HResult) → (hr.0 ≡ 0 → ⊥) → u ≡ t → Closed (expects (deed.Revoke g' hr)) (tally t calls) (tally u calls)
  closed_unrevoked (pos n) hr bad e = closed_plain (deed.Revoke (pos n) hr) (record { makes_none = refl; disconnects_none = refl; ends_none = refl }) e
      (ap (λ (w : Bool). entered_rows owned (books_with t calls) (cond w (Revokes n ∷ []) [])) (ne_eqb hr.0 0 bad))
  closed_unrevoked (negsuc n) hr bad e = closed_plain (deed.Revoke (negsuc n) hr) (record { makes_none = refl; disconnects_none = refl; ends_none = refl }) e refl

  pub closed_resultless : (c : ℕ) (hr : HResult) (v : Option Value) → (call_at calls c).result ≡ 0 → u ≡ t → Closed (expects (deed.Back c hr v)) (tally t calls) (tally u calls)
  closed_resultless c hr v none e = closed_plain (deed.Back c hr v) (record { makes_none = refl; disconnects_none = refl; ends_none = refl }) e
      (ap (λ (k : ℕ). entered_rows owned (books_with t calls) (back_rows g.apartment (left_by g.calls c) (number_of k))) none)

  -- what is not connected any more
  all-true : (l p : Bool) → l && (p && true) ≡ l && p
  all-true true true = refl
  all-true true false = refl
  all-true false p = refl

  eqb-sym : (m n : ℕ) → eqb m n ≡ eqb n m
  eqb-sym m n = elim (eqb m n) as (λ p. eqb m n ≡ p → p ≡ eqb n m) [
    | true ↦ λ e. let same : m ≡ n = eqb-true m n e in rw same (grind (arith, common_steps))
    | false ↦ λ e. sym (ne_eqb n m (λ z. eqb-false m n e (sym z)))
  ] refl

  live-with : (d : Deed) (l : ℕ → Bool) → ((o : ℕ) → (books_with t calls).live o && not (l o) ≡ (made_by (makes d) o || (books_with t calls).live o) && (not (is_number o (disconnects d)) && not (is_number (named_at g.objects o) (ends_sta d))))
      → record (books_with t calls) { live = λ o. (books_with t calls).live o && not (l o) } ≡ connected d (named_at g.objects) (books_with t calls)
  live-with d l e = ap (λ (f : ℕ → Bool). record (books_with t calls) { live = f }) (fun_ext e)

  pub closed_disconnect : (o : ℕ) (hr : HResult) → hr.0 ≡ 0 → Cut (λ y. eqb y o) t u → Closed (expects (deed.Disconnect (Some o) hr)) (tally t calls) (tally u calls)
  closed_disconnect o hr ok f = closed_cut (λ y. eqb y o) t u calls (expects (deed.Disconnect (Some o) hr)) f
      (live-with (deed.Disconnect (Some o) hr) (λ y. eqb y o) (λ y. sym (ap (λ (k : ℕ). (books_with t calls).live y && (not (is_number y (cond (eqb k 0) (Some o) None)) && true)) ok ∙ all-true ((books_with t calls).live y) (not (eqb y o)))))

  pub closed_uninit : (a : ℕ) → nat_le 2 a ≡ true → Cut (λ y. eqb (named_at g.objects y) a) t u → Closed (expects (deed.Uninit (Some a) 0)) (tally t calls) (tally u calls)
  closed_uninit a sta f = closed_cut (λ y. eqb (named_at g.objects y) a) t u calls (expects (deed.Uninit (Some a) 0)) f
      (live-with (deed.Uninit (Some a) 0) (λ y. eqb (named_at g.objects y) a) (λ y. sym (ap (λ (w : Bool). (books_with t calls).live y && (true && not (is_number (named_at g.objects y) (where_true w a)))) sta)))

-- ---- each deed

pub closes_tables : (objects : ObjectTables) (d : Deed) (g : Around) (t u : Tables) (calls : List CallPackets) → g.objects ≡ objects → ((left : ℕ → Bool) → ends_holder left d ≡ true) → ClosesTables objects d t u → Closes g d (tally t calls) (tally u calls)
closes_tables objects d g t u calls same takes each = λ s x owned.
    subst (λ (w : Bool). Closed (cond w (entered s x g owned d (books_with t calls)) (books_with t calls)) (tally t calls) (tally u calls)) (sym (takes (left_by g.calls))) (each s x g owned calls same)

pub closes_nothing : (g : Around) (d : Deed) (t : Tables) (calls : List CallPackets) → ends_holder (left_by g.calls) d ≡ false → Closes g d (tally t calls) (tally t calls)
closes_nothing g d t calls none = λ s x owned.
    subst (λ (w : Bool). Closed (cond w (entered s x g owned d (books_with t calls)) (books_with t calls)) (tally t calls) (tally t calls)) (sym none) (closed_none (books_with t calls) (tally t calls) (tally t calls) refl refl)

pub closes_back : (g : Around) (c number : ℕ) (hr : HResult) (v : Option Value) (t u : Tables) (calls : List CallPackets) → left_by g.calls c ≡ false → (call_at calls c).result ≡ number → GivesUp number t u
    → Closes g (deed.Back c hr v) (tally t calls) (tally u calls)
closes_back g c number hr v t u calls left is each = λ s x owned.
    subst (λ (w : Bool). Closed (cond (not w) (entered s x g owned (deed.Back c hr v) (books_with t calls)) (books_with t calls)) (tally t calls) (tally u calls)) (sym left) (each s x g owned calls c hr v left is)

pub not_ender : (left : ℕ → Bool) (d : Deed)
    → ((p : Option ℕ) (hr : HResult) → d ≡ deed.DropPacket p hr → ⊥)
    → ((k : ℤ) (hr : HResult) → d ≡ deed.Revoke k hr → ⊥)
    → ((c : ℕ) (hr : HResult) (v : Option Value) → d ≡ deed.Back c hr v → ⊥)
    → ((o : Option ℕ) (hr : HResult) → d ≡ deed.Disconnect o hr → ⊥)
    → ((home : Option ℕ) (n : ℕ) → d ≡ deed.Uninit home n → ⊥)
    → ends_holder left d ≡ false
not_ender left (deed.DropPacket p hr) drop revoke back disconnect uninit = absurd (drop p hr refl)
not_ender left (deed.Revoke k hr) drop revoke back disconnect uninit = absurd (revoke k hr refl)
not_ender left (deed.Back c hr v) drop revoke back disconnect uninit = absurd (back c hr v refl)
not_ender left (deed.Disconnect o hr) drop revoke back disconnect uninit = absurd (disconnect o hr refl)
not_ender left (deed.Uninit home n) drop revoke back disconnect uninit = absurd (uninit home n refl)
not_ender left d drop revoke back disconnect uninit = refl
