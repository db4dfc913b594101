-- The sight of a state, read from its parts.
use Rattle.std.proofs.Common.{◌≡◌, ℕ, Bool, true, ◌==◌, ◌&&◌, suc, List, [], ◌∷◌, filter, refl, ap, ◌∙◌, All, is_none, arith}
use Rattle.com_refs_books.specs.Changes.{Books}
use Rattle.com_model.specs.declared.scenario.Scenario.{Scenario}
use Rattle.com_model.specs.Calls.{object_of}
use Rattle.com_model.specs.Lists.{from_one}
use Rattle.com_model.specs.Sight.{Sight}
use Rattle.com_model.specs.State.{State, SameBooks, sight_of, books_in, dies_in, serves_in, named_in, dying_in, inbox_in, issue_in, phase_in, admitted_in, ending_in}
use Rattle.com_model.specs.Waiting.{is_queued}
use Rattle.com_state.specs.Parts.{CallTables, objects_of, calls_of, named_at, issue_at}
use Rattle.com_calls.specs.Kept.{Kept, IsNamed, inbox_at, with_tables}
use Rattle.com_view.specs.Reads.{Reads}
use Rattle.com_view.specs.Seen.{Seen, sight_by}

pub same_books : (b c : Books) → SameBooks b c → b ≡ c
same_books b c h = λ i. record {
  stub = λ o j. h.stub o j i;
  proxy = λ a o j. h.proxy a o j i;
  packets = h.packets i;
  cookies = h.cookies i;
  live = λ o. h.live o i;
  arguments = λ x. h.arguments x i;
  result = λ x. h.result x i;
}

-- Where each of a list passes the first test, only the second counts.
pub filter_both : (f g : ℕ → Bool) (os : List ℕ) → All (λ o. f o ≡ true) os → filter (λ o. f o && g o) os ≡ filter g os
filter_both f g [] h = refl
filter_both f g (o ∷ os) h =
    let here : f o ≡ true = h 0 0 (omega arith) in
    let rest : filter (λ x. f x && g x) os ≡ filter g os = filter_both f g os (λ k d p. h (suc k) d (omega arith)) in
    rw (here, rest) refl

abbrev with_queues : Sight → (inbox dying : ℕ → List ℕ) → Sight
with_queues v q d = record v { inbox = q; dying = d }

queues_read : (st : State) (b : Kept) → calls_of st ≡ b.tables → IsNamed (objects_of st) b → (a : ℕ)
    → inbox_in st a ≡ inbox_at (with_tables b (calls_of st)) a
queues_read st b e n a =
    let named : (c : ℕ) → named_in st (object_of (issue_in st c)) ≡ from_one b.apartments c 0 =
    λ c. ap (λ (t : CallTables). named_at (objects_of st) (object_of (issue_at t c))) e ∙ n.named c in
    λ i. filter (λ c. named c i == a && (is_queued (phase_in st c) && (is_none (admitted_in st c) && is_none (ending_in st c)))) st.postings

dying_read : (s : Scenario) (st : State) → All (λ o. dies_in s st o ≡ true) st.fallen → (l : ℕ)
    → dying_in s st l ≡ filter (λ o. serves_in s st l (named_in st o)) st.fallen
dying_read s st h l = filter_both (dies_in s st) (λ o. serves_in s st l (named_in st o)) st.fallen h

pub reads_state : (w : Seen) (b : Books) (st : State) → Reads w b st → sight_of w.scenario st ≡ sight_by w b
reads_state w b st h =
    let q : ℕ → List ℕ = inbox_at (with_tables w.calls (calls_of st)) in
    let d : ℕ → List ℕ = λ l. filter (λ o. serves_in w.scenario st l (named_in st o)) st.fallen in
    let queues : sight_of w.scenario st ≡ with_queues (sight_of w.scenario st) q d =
    λ i. with_queues (sight_of w.scenario st) (λ a. queues_read st w.calls h.calls h.named a i) (λ l. dying_read w.scenario st h.dying l i) in
    let parts : with_queues (sight_of w.scenario st) q d ≡ sight_by w b =
    λ i. sight_by
    (record { scenario = w.scenario; lanes = h.lanes i; objects = h.objects i; calls = with_tables w.calls (h.calls i); scene = h.scene i; fallen = h.fallen i; clock = h.clock i })
    (same_books (books_in st) b h.books i) in
    queues ∙ parts
