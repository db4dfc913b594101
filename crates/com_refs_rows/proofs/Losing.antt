-- Rows that take a holder, and rows of what has ended.
use mathlib.Core.Path.{fun_ext}
use Rattle.std.proofs.Common.{◌≡◌, ℕ, zero, suc, Bool, true, false, cond, eqb, ◌&&◌, ◌-◌, ◌<◌, ◌≤◌, List, [], ◌∷◌, length, Result, OnOk, refl, sym, ap, subst, ◌∙◌, arith, eqb-true, inl, inr}
use Rattle.std.proofs.lemmas.Bool.{cases_lt}
use Rattle.std.specs.Prelude.{None, Ok, Err, slice_set, slice_index_or}
use Rattle.com_stub.specs.StubRows.{is_connected}
use Rattle.com_refs_books.specs.Changes.{Books, Row, changed, change, unmarshal_change, Same, Return, Withdraw, Unmarshals, Drops, packet, cookie, no_cookie, at2, set_from_one}
use Rattle.com_refs_books.specs.Ends.{ends}
use Rattle.com_refs_books.specs.declared.keeps.Packet.{Packet}
use Rattle.com_refs_books.specs.declared.keeps.Cookie.{Cookie}
use Rattle.com_refs_holders.specs.Stands.{Tells}
use Rattle.com_refs_holders.specs.Tables.{Tables, books_of, owns_of, outstanding_in}
use Rattle.com_refs_holders.proofs.Cuts.{packet_hidden}
use Rattle.com_refs.specs.Totals.{Totals}
use Rattle.com_refs_rows.specs.Books.{Taken}
use Rattle.com_refs_rows.proofs.Cutting.{same_rows}

pub on_ok : {A E : Type 0} (r : Result A E) {P : Type 0} → P → OnOk r P
on_ok (Ok x) p = p
on_ok (Err e) p = tt

pub on_ok_three : {A E P Q R S : Type 0} (r : Result A E) → (P → Q → R → S) → OnOk r P → OnOk r Q → OnOk r R → OnOk r S
on_ok_three (Ok x) f p q s = f p q s
on_ok_three (Err e) f p q s = tt

-- ---- what has ended

gone_is : (t : Tables) (n : ℕ) → outstanding_in (is_connected t.stubs) t.packets n ≡ None → (packet (books_of t) n).outstanding ≡ false
gone_is t n h = ap (λ (k : Packet). k.outstanding) (packet_hidden t n h)

pub hidden_unmarshal : (t : Tables) (a n : ℕ) → outstanding_in (is_connected t.stubs) t.packets n ≡ None → changed (books_of t) (change (owns_of t.objects) (books_of t) (Unmarshals a n)) ≡ books_of t
hidden_unmarshal t a n h = ap (λ (w : Bool). changed (books_of t) (cond w (unmarshal_change (packet (books_of t) n).mode (owns_of t.objects (packet (books_of t) n).object a) a n (packet (books_of t) n).object (packet (books_of t) n).iface) Same)) (gone_is t n h)

pub hidden_drop : (t : Tables) (n : ℕ) → outstanding_in (is_connected t.stubs) t.packets n ≡ None → changed (books_of t) (change (owns_of t.objects) (books_of t) (Drops n)) ≡ books_of t
hidden_drop t n h = ap (λ (w : Bool). changed (books_of t) (cond w (Return n) Same)) (gone_is t n h)

-- A cookie that was revoked, or never given, brings nothing back.
same-count : (f : ℕ → ℕ → ℕ) (o i : ℕ) → at2 o i (f o i - 0) f ≡ f
same-count f o i = fun_ext (λ k. fun_ext (λ j. here k j)) where
  here : (k j : ℕ) → cond (eqb k o && eqb j i) (f o i - 0) (f k j) ≡ f k j
  here k j = elim (eqb k o) as (λ p. eqb k o ≡ p → cond (p && eqb j i) (f o i - 0) (f k j) ≡ f k j) [
    | true ↦ λ e. elim (eqb j i) as (λ q. eqb j i ≡ q → cond q (f o i - 0) (f k j) ≡ f k j) [
      | true ↦ λ g. let same : k ≡ o = eqb-true k o e in let also : j ≡ i = eqb-true j i g in rw (same, also) (omega arith)
      | false ↦ λ g. refl
    ] refl
    | false ↦ λ e. refl
  ] refl

same-cookies : (gs : List Cookie) (k : ℕ) → slice_index_or gs k no_cookie ≡ no_cookie → slice_set gs k no_cookie ≡ gs
same-cookies [] k h = refl
same-cookies (g ∷ gs) zero h = ap (λ (x : Cookie). x ∷ gs) (sym h)
same-cookies (g ∷ gs) (suc k) h = ap (λ (l : List Cookie). g ∷ l) (same-cookies gs k h)

cookies-stay : (b : Books) (g : ℕ) → cookie b g ≡ no_cookie → set_from_one b.cookies g no_cookie ≡ b.cookies
cookies-stay b zero h = refl
cookies-stay b (suc k) h = same-cookies b.cookies k h

pub withdraw_none : (b : Books) (g : ℕ) → cookie b g ≡ no_cookie → changed b (Withdraw g) ≡ b
withdraw_none b g h =
    ap (λ (k : Cookie). record b { stub = at2 k.object k.iface (b.stub k.object k.iface - k.refs) b.stub; cookies = set_from_one b.cookies g no_cookie }) h
    ∙ ap (λ (f : ℕ → ℕ → ℕ). record b { stub = f; cookies = set_from_one b.cookies g no_cookie }) (same-count b.stub 0 0)
    ∙ ap (λ (l : List Cookie). record b { cookies = l }) (cookies-stay b g h)

past_cookies : (gs : List Cookie) (k : ℕ) → length gs ≤ k → slice_index_or gs k no_cookie ≡ no_cookie
past_cookies [] k h = refl
past_cookies (g ∷ gs) zero h = absurd (omega (arith, h))
past_cookies (g ∷ gs) (suc k) h = past_cookies gs k (omega (arith, h))

none_past : (b : Books) (n : ℕ) → length b.cookies < n → cookie b n ≡ no_cookie
none_past b zero h = refl
none_past b (suc k) h = past_cookies b.cookies k (omega (arith, h))

-- The cookie of a number that has 32 bits, and none of another.
pub withdraw_found : (b : Books) (m n k : ℕ) → length b.cookies < m → (n < m → k ≡ n) → (m ≤ n → k ≡ 0) → changed b (Withdraw k) ≡ changed b (Withdraw n)
withdraw_found b m n k few within past = elim (cases_lt n m) [
  | inl l ↦ ap (λ (j : ℕ). changed b (Withdraw j)) (within l)
  | inr l ↦ ap (λ (j : ℕ). changed b (Withdraw j)) (past l) ∙ withdraw_none b 0 refl ∙ sym (withdraw_none b n (none_past b n (omega (arith, few, l))))
]

-- ---- rows that take nothing

pub taken_nothing : (row : Row) (t u : Tables) → u ≡ t
    → ((n : ℕ) (places : ℕ → ℕ → ℕ) → Tells n places t → Totals n places t → ends n places (books_of t) ≡ books_of t)
    → changed (books_of t) (change (owns_of t.objects) (books_of t) row) ≡ books_of t → Taken row t u
taken_nothing row t u e rests same = subst (λ (v : Tables). Taken row t v) (sym e) (record {
  books = λ n places tells totals. sym (ap (λ (b : Books). ends n places b) same ∙ rests n places tells totals);
  places = same_rows t t refl refl;
})
