-- What ties the books of the code to those of the state.
use Rattle.std.specs.Prelude.{◌≡◌, ℕ, ◌+◌, ◌≤◌, false, List, [], length, Option, None}
use Rattle.com_model.specs.declared.scenario.Scenario.{Scenario}
use Rattle.com_refs_books.specs.Changes.{Books, Change, changed}
use Rattle.com_model.specs.State.{State, books_in, book_tables, objects_in, next_sta_in}

pub record BoundedBooks (faces n c a : ℕ) (b : Books) : Type 0 where
  pub stub_o : (o i : ℕ) → n + 1 ≤ o → b.stub o i ≡ 0
  pub stub_i : (o i : ℕ) → faces ≤ i → b.stub o i ≡ 0
  pub proxy_a : (x o i : ℕ) → a ≤ x → b.proxy x o i ≡ 0
  pub proxy_o : (x o i : ℕ) → n + 1 ≤ o → b.proxy x o i ≡ 0
  pub proxy_i : (x o i : ℕ) → faces ≤ i → b.proxy x o i ≡ 0
  pub live : (o : ℕ) → n + 1 ≤ o → b.live o ≡ false
  pub arguments : (k : ℕ) → c + 1 ≤ k → b.arguments k ≡ []
  pub result : (k : ℕ) → c + 1 ≤ k → b.result k ≡ None

-- The books, with what calls keep of packets.
abbrev pub with_calls : (ℕ → List ℕ) → (ℕ → Option ℕ) → Books → Books
with_calls x y b = record b { arguments = x; result = y }

pub record BooksTie : Type 0 where
  pub read : (s : Scenario) (st : State) (b : Books)
      → BoundedBooks (length s.classes.interfaces) (objects_in st) (length st.issues) (next_sta_in st) b
      → books_in (record st { books = book_tables s st b }) ≡ b
  pub calls : (x : ℕ → List ℕ) (y : ℕ → Option ℕ) (b : Books) (c : Change)
      → changed (with_calls x y b) c ≡ with_calls x y (changed b c)
