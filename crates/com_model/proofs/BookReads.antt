-- Tables that are written of bounded books read as these; and the changes leave what calls keep.
use mathlib.Core.Path.{fun_ext}
use Rattle.std.specs.Prelude.{◌≡◌, refl, ℕ, zero, suc, ◌+◌, Bool, false, List, [], length, Option, None}
use Rattle.std.proofs.Common.{ap, ◌∙◌}
use Rattle.com_model.specs.declared.scenario.Scenario.{Scenario}
use Rattle.com_refs_books.specs.Changes.{Books, Change, ToProxy, ToPacket, Split, Join, Return, ToCookie, Withdraw, Same, changed}
use Rattle.com_model.specs.State.{State, books_in, book_tables, objects_in, next_sta_in}
use Rattle.com_model.specs.BooksTie.{BoundedBooks, BooksTie, with_calls}
use Rattle.com_model.proofs.Tabled.{tabulated-row, rows-in-rows, rows-deep}

pub books_read : (s : Scenario) (st : State) (b : Books) → BoundedBooks (length s.classes.interfaces) (objects_in st) (length st.issues) (next_sta_in st) b → books_in (record st { books = book_tables s st b }) ≡ b
books_read s st b g =
    let n : ℕ = objects_in st + 1 in
    let m : ℕ = length s.classes.interfaces in
    let t : Books = books_in (record st { books = book_tables s st b }) in
    ap (λ (x : ℕ → ℕ → ℕ). record t { stub = x }) (fun_ext (λ o. fun_ext (λ i. rows-in-rows n n m b.stub b.stub 0 refl refl g.stub_o g.stub_i o i)))
    ∙ ap (λ (x : ℕ → ℕ → ℕ → ℕ). record t { stub = b.stub; proxy = x }) (fun_ext (λ a. fun_ext (λ o. fun_ext (λ i. rows-deep (next_sta_in st) (next_sta_in st) n n m b.proxy b.proxy 0 refl refl refl g.proxy_a g.proxy_o g.proxy_i a o i))))
    ∙ ap (λ (x : ℕ → Bool). record t { stub = b.stub; proxy = b.proxy; live = x }) (fun_ext (λ o. tabulated-row n b.live false g.live o))
    ∙ ap (λ (x : ℕ → List ℕ). record t { stub = b.stub; proxy = b.proxy; live = b.live; arguments = x }) (fun_ext (λ c. tabulated-row (length st.issues + 1) b.arguments [] g.arguments c))
    ∙ ap (λ (x : ℕ → Option ℕ). record b { result = x }) (fun_ext (λ c. tabulated-row (length st.issues + 1) b.result None g.result c))

pub changed-calls : (x : ℕ → List ℕ) (y : ℕ → Option ℕ) (b : Books) (c : Change) → changed (with_calls x y b) c ≡ with_calls x y (changed b c)
changed-calls x y b (ToProxy a o i n) = refl
changed-calls x y b (ToPacket m o i n) = refl
changed-calls x y b (Split a o i n) = refl
changed-calls x y b (Join a p) = joined p where
  joined : (p : ℕ) → changed (with_calls x y b) (Join a p) ≡ with_calls x y (changed b (Join a p))
  joined zero = refl
  joined (suc p) = refl
changed-calls x y b (Return p) = returned p where
  returned : (p : ℕ) → changed (with_calls x y b) (Return p) ≡ with_calls x y (changed b (Return p))
  returned zero = refl
  returned (suc p) = refl
changed-calls x y b (ToCookie o i n) = refl
changed-calls x y b (Withdraw g) = withdrawn g where
  withdrawn : (g : ℕ) → changed (with_calls x y b) (Withdraw g) ≡ with_calls x y (changed b (Withdraw g))
  withdrawn zero = refl
  withdrawn (suc g) = refl
changed-calls x y b Same = refl

pub books_tie : BooksTie
books_tie = record { read = books_read; calls = changed-calls }
