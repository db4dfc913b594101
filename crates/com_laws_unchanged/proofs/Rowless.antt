-- An entry without rows leaves the books to its end as they were.
use Rattle.std.proofs.Common.{◌≡◌, refl, sym, ◌∙◌, ap, arith, ℕ, zero, suc, ◌+◌, ◌-◌, pos, negsuc, Bool, true, false, not, cond, ◌==◌, ◌&&◌, ◌||◌, List, [], ◌∷◌, map, length, eqb-true}
use Rattle.std.specs.Prelude.{Option, Some, None}
use Rattle.com_base.specs.declared.hresult.HResult.{HResult}
use Rattle.com_base.specs.declared.value.Value.{Value}
use Rattle.com_body.specs.declared.operands.Asked.TheVariants as asked
use Rattle.com_body.specs.declared.actions.Action.{Action}
use Rattle.com_refs_books.specs.Counting.{sum_below, numbers_from}
use Rattle.com_refs_books.specs.Changes.{Books, Row, Revokes, Asks, Unmarshals, entered_rows, made_since, first_of, cut, held_outside}
use Rattle.com_refs_books.specs.Ends.{stays, ends}
use Rattle.com_model.specs.declared.deeds.Deed.{Deed}
use Rattle.com_model.specs.declared.deeds.Deed.TheVariants as deed
use Rattle.com_model.specs.declared.deeds.Entry.{Entry}
use Rattle.com_model.specs.declared.deeds.Route.{Route}
use Rattle.com_model.specs.declared.scenario.Scenario.{Scenario}
use Rattle.com_model.specs.Answers.{is_S_OK}
use Rattle.com_model.specs.Lists.{put, is_number, number_or_zero}
use Rattle.com_model.specs.Apartments.{ends_sta}
use Rattle.com_model.specs.Objects.{makes, disconnects}
use Rattle.com_model.specs.Endings.{is_leave}
use Rattle.com_model.specs.Books.{rows, kept, made_by, back_rows}
use Rattle.com_model.specs.State.{State, books_in, ending_in, named_in, owns_in, running_in, sight_of}
use Rattle.com_state.specs.Resting.{Rested}
use Rattle.com_state.proofs.Quiet.{given-rested, cut-rested}
use Rattle.com_laws_unchanged.specs.Ends.{connects, connected, books_entered}
use Rattle.com_laws_unchanged.specs.Rowless.{is_rowless}

clash : false ≡ true → ⊥
clash e = cc

off : (b : Bool) → not b ≡ true → b ≡ false
off true e = absurd (clash e)
off false e = refl

-- Books at rest have nothing to end.
pub ends-rested : (n : ℕ) (pl : ℕ → ℕ → ℕ) (b : Books) → Rested pl (λ o. sum_below n (λ a. pl a o) + held_outside b o) b → ends n pl b ≡ b
unfolding ends
ends-rested n pl b r =
    let h : ℕ → ℕ = λ o. sum_below n (λ a. pl a o) + held_outside b o in
    ap (λ (c : Books). cut (stays n pl b) c) (given-rested n pl h b r)
    ∙ cut-rested pl h b (stays n pl b) r (λ o. held (b.live o) (h o == 0) (r.held o))
  where
    held : (x t : Bool) → (x ≡ true → t ≡ false) → (x && not t) ≡ x
    held true t p = ap not (p refl)
    held false t p = refl

-- ---- the deeds

pub record Rowless (d : Deed) : Type 0 where
  pub no_making : makes d ≡ None
  pub no_end : ends_sta d ≡ None
  pub no_cut : disconnects d ≡ None

pub rowless : (d : Deed) → is_rowless d ≡ true → Rowless d
rowless (deed.Init m a hr) q = record { no_making = refl; no_end = refl; no_cut = refl }
rowless (deed.Uninit a zero) q = absurd (clash q)
rowless (deed.Uninit None (suc n)) q = record { no_making = refl; no_end = refl; no_cut = refl }
rowless (deed.Uninit (Some a) (suc n)) q = record { no_making = refl; no_end = refl; no_cut = refl }
rowless (deed.Disconnect o hr) q = record { no_making = refl; no_end = refl; no_cut = ap (λ (b : Bool). cond b o None) (off (is_S_OK hr) q) }
rowless (deed.Made None a k i hr) q = record { no_making = refl; no_end = refl; no_cut = refl }
rowless (deed.Made (Some o) a k i hr) q = absurd (clash q)
rowless (deed.Out c o i m r k bytes) q = absurd (clash q)
rowless (deed.Enter c o a t vs) q = absurd (clash q)
rowless (deed.Leave c hr v bytes) q = absurd (clash q)
rowless (deed.Back c hr v) q = absurd (clash q)
rowless _ q = record { no_making = refl; no_end = refl; no_cut = refl }

no-rows : (s : Scenario) (x : Option Action) (left : ℕ → Bool) (b : Books) (a : ℕ) (d : Deed) → is_rowless d ≡ true → rows s x left b a d ≡ []
no-rows s x left b a (deed.Made None w k i hr) q = refl
no-rows s x left b a (deed.Made (Some o) w k i hr) q = absurd (clash q)
no-rows s x left b a (deed.Query None i hr) q = refl
no-rows s x left b a (deed.Query (Some o) (asked.Number i) hr) q = ap (λ (t : Bool). cond t (Asks a o i ∷ []) []) (off (is_S_OK hr) q)
no-rows s x left b a (deed.Query (Some o) (asked.Guid g) hr) q = refl
no-rows s x left b a (deed.Marshal (Some p) m held refs hr bytes) q = absurd (clash q)
no-rows s x left b a (deed.Marshal None m held refs hr bytes) q = refl
no-rows s x left b a (deed.Unmarshal None held refs hr) q = refl
no-rows s x left b a (deed.Unmarshal (Some p) held refs hr) q = absurd (clash q)
no-rows s x left b a (deed.DropPacket (Some p) hr) q = absurd (clash q)
no-rows s x left b a (deed.DropPacket None hr) q = refl
no-rows s x left b a (deed.Register (Some g) held hr) q = absurd (clash q)
no-rows s x left b a (deed.Register None held hr) q = refl
no-rows s x left b a (deed.Get g None refs hr) q = refl
no-rows s x left b a (deed.Get g (Some r) refs hr) q = absurd (clash q)
no-rows s x left b a (deed.Revoke (pos g) hr) q = ap (λ (t : Bool). cond t (Revokes g ∷ []) []) (off (is_S_OK hr) q)
no-rows s x left b a (deed.Revoke (negsuc g) hr) q = refl
no-rows s x left b a (deed.Out c o i m r k bytes) q = absurd (clash q)
no-rows s x left b a (deed.Enter c o y t vs) q = absurd (clash q)
no-rows s x left b a (deed.Leave c hr v bytes) q = absurd (clash q)
no-rows s x left b a (deed.Back c hr v) q = absurd (clash q)
no-rows s x left b a _ q = refl

nothing-kept : (b : Books) (d : Deed) (c : Books) → is_rowless d ≡ true → kept b d c ≡ c
nothing-kept b (deed.Out k o i m r x bytes) c q = absurd (clash q)
nothing-kept b (deed.Leave k hr v bytes) c q = absurd (clash q)
nothing-kept b _ c q = refl

-- What is connected stays so to the end.
pub same-connected : (d : Deed) (named : ℕ → ℕ) (b : Books) → Rowless d → connected d named b ≡ b
same-connected d named b z = λ i. record {
  stub = b.stub;
  proxy = b.proxy;
  packets = b.packets;
  cookies = b.cookies;
  live = λ o. live o i;
  arguments = b.arguments;
  result = b.result;
}
  where
    and-true : (x : Bool) → ((false || x) && (true && true)) ≡ x
    and-true true = refl
    and-true false = refl

    live : (o : ℕ) → connects d named b.live o ≡ b.live o
    live o =
        ap (λ (m : Option _). (made_by m o || b.live o) && (not (is_number o (disconnects d)) && not (is_number (named o) (ends_sta d)))) z.no_making
        ∙ ap (λ (c : Option ℕ). (made_by None o || b.live o) && (not (is_number o c) && not (is_number (named o) (ends_sta d)))) z.no_cut
        ∙ ap (λ (c : Option ℕ). (made_by None o || b.live o) && (not (is_number o None) && not (is_number (named o) c))) z.no_end
        ∙ and-true (b.live o)

pub rowless-books : (s : Scenario) (st su : State) (e : Entry) → is_rowless e.deed ≡ true → books_entered s st su e ≡ books_in st
rowless-books s st su e q =
    let b : Books = books_in st in
    ap (λ (r : List Row). connected e.deed (named_in su) (kept b e.deed (entered_rows (owns_in s su) b r))) (no-rows s ((sight_of s st).act e.lane) (λ c. is_leave (ending_in st c)) b (number_or_zero (running_in s st e.lane)) e.deed q)
    ∙ ap (connected e.deed (named_in su)) (nothing-kept b e.deed b q)
    ∙ same-connected e.deed (named_in su) b (rowless e.deed q)

-- ---- calls that marshal nothing

put-same : {X : Type 0} (k : ℕ) (x : X) (f : ℕ → X) → f k ≡ x → (j : ℕ) → put k x f j ≡ f j
put-same k x f e j = by-test (j == k) refl
  where
    by-test : (t : Bool) → (j == k) ≡ t → put k x f j ≡ f j
    by-test true q = ap (λ (b : Bool). cond b x (f j)) q ∙ sym e ∙ ap f (sym (eqb-true j k q))
    by-test false q = ap (λ (b : Bool). cond b x (f j)) q

made-none : (b : Books) → made_since b b ≡ []
made-none b = let n : length b.packets - length b.packets ≡ 0 = omega arith in ap (λ (k : ℕ). numbers_from (length b.packets + 1) k) n

with-arguments : (b : Books) (c : ℕ) → b.arguments c ≡ [] → record b { arguments = put c (made_since b b) b.arguments } ≡ b
with-arguments b c e =
    ap (λ (ps : List ℕ). record b { arguments = put c ps b.arguments }) (made-none b)
    ∙ ap (λ (f : ℕ → List ℕ). record b { arguments = f }) (λ i j. put-same c [] b.arguments e j i)

with-result : (b : Books) (c : ℕ) → b.result c ≡ None → record b { result = put c (first_of (made_since b b)) b.result } ≡ b
with-result b c e =
    ap (λ (ps : List ℕ). record b { result = put c (first_of ps) b.result }) (made-none b)
    ∙ ap (λ (f : ℕ → Option ℕ). record b { result = f }) (λ i j. put-same c None b.result e j i)

plain : (d : Deed) → makes d ≡ None → ends_sta d ≡ None → disconnects d ≡ None → Rowless d
plain d p q r = record { no_making = p; no_end = q; no_cut = r }

pub out-books : (s : Scenario) (st su : State) (l c i m k : ℕ) (o : Option ℕ) (r : Route) → (books_in st).arguments c ≡ [] → books_entered s st su (record { lane = l; deed = deed.Out c o i m r k None }) ≡ books_in st
out-books s st su l c i m k o r e =
    ap (connected (deed.Out c o i m r k None) (named_in su)) (with-arguments (books_in st) c e)
    ∙ same-connected (deed.Out c o i m r k None) (named_in su) (books_in st) (plain (deed.Out c o i m r k None) refl refl refl)

pub enter-books : (s : Scenario) (st su : State) (l c o a : ℕ) (t : Option ℕ) (vs : List Value) → (books_in st).arguments c ≡ [] → books_entered s st su (record { lane = l; deed = deed.Enter c o a t vs }) ≡ books_in st
enter-books s st su l c o a t vs e =
    ap (λ (ps : List ℕ). connected (deed.Enter c o a t vs) (named_in su) (entered_rows (owns_in s su) (books_in st) (map (λ p. Unmarshals a p) ps))) e
    ∙ same-connected (deed.Enter c o a t vs) (named_in su) (books_in st) (plain (deed.Enter c o a t vs) refl refl refl)

pub leave-books : (s : Scenario) (st su : State) (l c : ℕ) (hr : HResult) (v : Option Value) → (books_in st).result c ≡ None → books_entered s st su (record { lane = l; deed = deed.Leave c hr v None }) ≡ books_in st
leave-books s st su l c hr v e =
    ap (connected (deed.Leave c hr v None) (named_in su)) (with-result (books_in st) c e)
    ∙ same-connected (deed.Leave c hr v None) (named_in su) (books_in st) (plain (deed.Leave c hr v None) refl refl refl)

pub back-books : (s : Scenario) (st su : State) (l c : ℕ) (hr : HResult) (v : Option Value) → (books_in st).result c ≡ None → books_entered s st su (record { lane = l; deed = deed.Back c hr v }) ≡ books_in st
back-books s st su l c hr v e =
    ap (λ (p : Option ℕ). connected (deed.Back c hr v) (named_in su) (entered_rows (owns_in s su) (books_in st) (back_rows (number_or_zero (running_in s st l)) (is_leave (ending_in st c)) p))) e
    ∙ same-connected (deed.Back c hr v) (named_in su) (books_in st) (plain (deed.Back c hr v) refl refl refl)
