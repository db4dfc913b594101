-- Reading an agreed trace: what stands between two of its lines.
use Rattle.std.proofs.Common.{◌≡◌, ℕ, ◌+◌, ◌^◌, ◌<◌, ◌≤◌, refl, sym, ◌∙◌, ap, ap₂, subst, append_assoc, append-nil, arith, List, [], ◌∷◌, ◌++◌, length, Bool, true, Option, Some, None}
use Rattle.std.proofs.lemmas.List.{reverse-append}
use Rattle.std.specs.Prelude.{is_some, nat_le, cond, reverse}
use Rattle.com_model.specs.declared.counts.Ended.{Ended}
use Rattle.com_model.specs.declared.deeds.Deed.{Deed}
use Rattle.com_model.specs.declared.deeds.Entry.{Entry}
use Rattle.com_model.specs.declared.scenario.Scenario.{Scenario}
use Rattle.com_model.specs.Clock.{clock}
use Rattle.com_model.specs.Ends.{all_counts, ended_as, ended_by, limit}
use Rattle.com_model.specs.Formed.{Formed}
use Rattle.com_model.specs.Rules.{legal}
use Rattle.com_model.specs.Sight.{Sight, sight}
use Rattle.com_model.specs.State.{State, StandsFor, after, first_tables, next_of, sight_of}
use Rattle.com_model.proofs.Lanes.{lane-within}
use Rattle.com_model.proofs.Sights.{same-next, same-sight}
use Rattle.com_model.proofs.Whole.{first-stands}
use Rattle.com_runtime.proofs.Runs.{stands-later}
use Rattle.com_runtime.specs.Reports.{all_counts_in}
use Rattle.com_runtime.specs.Standings.{Reached, ended_now}
use Rattle.com_runtime.proofs.Counting.{all-counted}
use Rattle.com_runtime.proofs.Resting.{reached_by}
use Rattle.com_check.specs.Fronts.{named}
use Rattle.com_check.specs.Lines.{lines_of}
use Rattle.com_check.specs.Judging.{IsText, Unended, entry_line, history_lines, report_lines}
use Rattle.com_check.proofs.Histories.{few_entries}
use Rattle.com_check.proofs.Names.{line_names}
use Rattle.com_replay.specs.Nexts.{HasNext}
use Rattle.com_check.specs.declared.agreement.traces.Agreed.{Agreed}
use Rattle.com_check.specs.Agreeing.{IsAgreed}
use Rattle.com_check.specs.AgreedLines.{IsMadeFor, NamesNext}

abbrev Lines : Type 0
Lines = List (List ℕ)

-- ---- fronts of histories and of their lines

data LastOf (xs : List Entry) : Type 0 where
  no_last : xs ≡ [] → LastOf xs
  has_last : (zs : List Entry) (k : Entry) → xs ≡ zs ++ k ∷ [] → LastOf xs

last_of : (xs : List Entry) → LastOf xs
last_of [] = no_last refl
last_of (x ∷ xs) =
    elim (last_of xs) as (λ _. LastOf (x ∷ xs)) [
      | no_last e ↦ has_last [] x (ap (λ (ys : List Entry). x ∷ ys) e)
      | has_last zs k e ↦ has_last (x ∷ zs) k (ap (λ (ys : List Entry). x ∷ ys) e)
    ]

tail_same : (x y : List ℕ) (xs ys : Lines) → x ∷ xs ≡ y ∷ ys → xs ≡ ys
tail_same x y xs ys e = cc

cut_front : (xs a b : Lines) → xs ++ a ≡ xs ++ b → a ≡ b
cut_front [] a b e = e
cut_front (x ∷ xs) a b e = cut_front xs a b (tail_same x x (xs ++ a) (xs ++ b) e)

record Behind (v : ℕ) (xs h : List Entry) : Type 0 where
  rest : Lines
  is : history_lines v (xs ++ h) ≡ history_lines v h ++ rest

behind : (v : ℕ) (xs h : List Entry) → Behind v xs h
unfolding history_lines
behind v [] h = record { rest = []; is = sym (append-nil (history_lines v h)) }
behind v (x ∷ xs) h =
    let r : Behind v xs h = behind v xs h in
    let line : Lines = entry_line v (length (xs ++ h) + 1) x ∷ [] in
    record {
      rest = r.rest ++ line;
      is = ap (λ (y : Lines). y ++ line) r.is ∙ append_assoc (history_lines v h) r.rest line;
    }

one_line_more : (v : ℕ) (e : Entry) (g : List Entry) (x : Lines) → history_lines v (e ∷ g) ++ x ≡ history_lines v g ++ (entry_line v (length g + 1) e ∷ x)
unfolding history_lines
one_line_more v e g x = append_assoc (history_lines v g) (entry_line v (length g + 1) e ∷ []) x

legal_older : (s : Scenario) (xs h : List Entry) → legal s (xs ++ h) → legal s h
legal_older s [] h q = q
legal_older s (x ∷ xs) h q = legal_older s xs h q.0

unended_older : (s : Scenario) (xs h : List Entry) → Unended s (xs ++ h) → Unended s h
unended_older s [] h q = q
unended_older s (x ∷ xs) h q = unended_older s xs h q.0

within_limit : (s : Scenario) (h : List Entry) → Unended s h → length h ≤ limit s
within_limit s [] u = omega arith
within_limit s (e ∷ h) u = let low : length h < limit s = u.1 in omega (arith, low)

-- ---- what stands between two lines

-- The state stands for the entries so far, which are a front of the trace's history; so are their lines of its lines.
pub record Again (s : Scenario) (trace : List ℕ) (st : State) (entries : List Entry) (rest : List ℕ) : Type 0 where
  pub text : IsText s trace
  pub more : List Entry
  pub parts : text.history ≡ more ++ reverse entries
  pub stands : StandsFor s st (reverse entries)
  pub left : lines_of trace ≡ history_lines s.version (reverse entries) ++ lines_of rest

no_lines : (v : ℕ) (x : Lines) → x ≡ history_lines v [] ++ x
unfolding history_lines
no_lines v x = refl

pub starts : (s : Scenario) (trace : List ℕ) (st : State) (entries : List Entry) → IsText s trace → st ≡ first_tables s → entries ≡ []
    → Again s trace st entries trace
starts s trace st entries t first none =
    subst (λ (es : List Entry). Again s trace st es trace) (sym none) (record {
      text = t;
      more = t.history;
      parts = sym (append-nil t.history);
      stands = subst (λ (x : State). StandsFor s x []) (sym first) (first-stands s);
      left = no_lines s.version (lines_of trace);
    })

older : (s : Scenario) (trace : List ℕ) (st : State) (entries : List Entry) (rest : List ℕ) → Again s trace st entries rest → Unended s (reverse entries)
older s trace st entries rest p =
    unended_older s p.more (reverse entries) (subst (λ (h : List Entry). Unended s h) p.parts p.text.unended)

pub is_reached : (r s : Scenario) (trace : List ℕ) (st : State) (entries : List Entry) (rest : List ℕ) → r ≡ s → Formed s → Again s trace st entries rest → Reached r st
is_reached r s trace st entries rest same f p =
    subst (λ (x : Scenario). Reached x st) (sym same) (reached_by s st (reverse entries) f p.stands)

is_low : (k n : ℕ) → k ≤ n → nat_le k n ≡ true
is_low k n q = grind (arith, q)

ended_same : (s : Scenario) (st : State) (h : List Entry) → StandsFor s st h → length h ≤ limit s → ended_as s h ≡ ended_now s st
unfolding ended_now
ended_same s st h p q =
    ap (λ (b : Bool). cond b (ended_by s (sight s h) (length h)) None) (is_low (length h) (limit s) q)
    ∙ ap (λ (v : Sight). ended_by s v (length h)) (sym (same-sight s st h p))
    ∙ ap (ended_by s (sight_of s st)) (sym p.entries)

ends_as : (s : Scenario) (trace : List ℕ) (st : State) (entries : List Entry) (rest : List ℕ) → Again s trace st entries rest
    → ended_as s (reverse entries) ≡ ended_now s st
ends_as s trace st entries rest p =
    ended_same s st (reverse entries) p.stands (within_limit s (reverse entries) (older s trace st entries rest p))

-- ---- a line that is left

-- The history goes on by this entry, and its line stands next.
record Following (s : Scenario) (trace : List ℕ) (entries : List Entry) (rest : List ℕ) (text : IsText s trace) : Type 0 where
  entry : Entry
  more : List Entry
  parts : text.history ≡ more ++ (entry ∷ reverse entries)
  lawful : legal s (entry ∷ reverse entries)
  room : length (reverse entries) < limit s
  behind : Lines
  lines : lines_of rest ≡ entry_line s.version (length (reverse entries) + 1) entry ∷ behind

not_over : (x : Option Ended) → x ≡ None → is_some x ≡ true → ⊥
not_over None e p = cc
not_over (Some y) e p = cc

follows_by : (s : Scenario) (trace : List ℕ) (entries zs : List Entry) (k : Entry) (rest : List ℕ) (t : IsText s trace)
    → t.history ≡ zs ++ (k ∷ reverse entries) → lines_of trace ≡ history_lines s.version (reverse entries) ++ lines_of rest
    → Following s trace entries rest t
follows_by s trace entries zs k rest t is left =
    let g : List Entry = reverse entries in
    let v : ℕ = s.version in
    let u : Unended s (k ∷ g) = unended_older s zs (k ∷ g) (subst (λ (h : List Entry). Unended s h) is t.unended) in
    let r : Behind v zs (k ∷ g) = behind v zs (k ∷ g) in
    let tail : Lines = r.rest ++ report_lines s t.history in
    record {
      entry = k;
      more = zs;
      parts = is;
      lawful = legal_older s zs (k ∷ g) (subst (legal s) is t.lawful);
      room = u.1;
      behind = tail;
      lines = cut_front (history_lines v g) (lines_of rest) (entry_line v (length g + 1) k ∷ tail)
          (sym left ∙ t.lines ∙ ap (λ (h : List Entry). history_lines v h ++ report_lines s t.history) is
          ∙ ap (λ (x : Lines). x ++ report_lines s t.history) r.is
          ∙ append_assoc (history_lines v (k ∷ g)) r.rest (report_lines s t.history) ∙ one_line_more v k g tail);
    }

following : (s : Scenario) (trace : List ℕ) (st : State) (entries : List Entry) (rest : List ℕ) → (p : Again s trace st entries rest) → ended_now s st ≡ None
    → Following s trace entries rest p.text
following s trace st entries rest p goes =
    elim (last_of p.more) as (λ _. Following s trace entries rest p.text) [
      | no_last e ↦
          let whole : p.text.history ≡ reverse entries = p.parts ∙ ap (λ (xs : List Entry). xs ++ reverse entries) e in
          absurd (not_over (ended_as s (reverse entries)) (ends_as s trace st entries rest p ∙ goes)
          (subst (λ (h : List Entry). is_some (ended_as s h) ≡ true) whole p.text.ends))
      | has_last zs k e ↦
          follows_by s trace entries zs k rest p.text
          (p.parts ∙ ap (λ (xs : List Entry). xs ++ reverse entries) e ∙ append_assoc zs (k ∷ []) (reverse entries)) p.left
    ]

nothing : (rest : List ℕ) (x : List ℕ) (xs : Lines) → rest ≡ [] → lines_of rest ≡ x ∷ xs → ⊥
unfolding lines_of
nothing rest x xs none e = no-line (sym (ap lines_of none) ∙ e)
  where
    no-line : [] ≡ x ∷ xs → ⊥
    no-line e = cc

some_left : (rest : List ℕ) → (rest ≡ [] → ⊥) → 0 < length rest
some_left [] n = absurd (n refl)
some_left (b ∷ bs) n = omega arith

pub line_left : (s : Scenario) (trace : List ℕ) (st : State) (entries : List Entry) (rest : List ℕ) → Again s trace st entries rest → ended_now s st ≡ None
    → 0 < length rest
line_left s trace st entries rest p goes =
    let f : Following s trace entries rest p.text = following s trace st entries rest p goes in
    some_left rest (λ none. nothing rest _ f.behind none f.lines)

low_lane : (s : Scenario) (h : List Entry) (e : Entry) → Formed s → legal s (e ∷ h) → e.lane < 2 ^ 32
low_lane s h e f q = few s.pool (length s.threads) e.lane f.pool.1 f.threads.1 (lane-within s h e.lane e.deed q.1)
  where
    few : (p t l : ℕ) → p ≤ 8 → t ≤ 16 → l ≤ t + 1 + p → l < 2 ^ 32
    few p t l a b c = omega (arith, a, b, c)

low_place : (s : Scenario) (n : ℕ) → n < limit s → n + 1 < 2 ^ 64
low_place s n p = let k : limit s ≤ 1_000_000 = few_entries s in omega (arith, p, k)

wider : (l : ℕ) → l < 2 ^ 32 → l < 2 ^ 64
wider l p = omega (arith, p)

head_same : (x y : List ℕ) (xs ys : Lines) → x ∷ xs ≡ y ∷ ys → x ≡ y
head_same x y xs ys e = cc

-- The line that stands next is that of the entry.
line_is : (s : Scenario) (trace : List ℕ) (entries : List Entry) (rest line after : List ℕ) (t : IsText s trace) → (f : Following s trace entries rest t)
    → lines_of rest ≡ line ∷ lines_of after → line ≡ entry_line s.version (length (reverse entries) + 1) f.entry
line_is s trace entries rest line after t f cut =
    head_same line (entry_line s.version (length (reverse entries) + 1) f.entry) (lines_of after) f.behind (sym cut ∙ f.lines)

names_entry : (s : Scenario) (trace : List ℕ) (entries : List Entry) (rest line after : List ℕ) (t : IsText s trace) → (f : Following s trace entries rest t)
    → Formed s → lines_of rest ≡ line ∷ lines_of after → named line ≡ Some f.entry.lane
names_entry s trace entries rest line after t f form cut =
    ap named (line_is s trace entries rest line after t f cut)
    ∙ line_names s.version (length (reverse entries) + 1) f.entry (low_place s (length (reverse entries)) f.room)
    (wider f.entry.lane (low_lane s (reverse entries) f.entry form f.lawful))

pub names_next : (r s : Scenario) (trace : List ℕ) (st : State) (entries : List Entry) (rest line after : List ℕ) → r ≡ s → Formed s
    → Again s trace st entries rest → ended_now s st ≡ None → lines_of rest ≡ line ∷ lines_of after → NamesNext r st line
unfolding HasNext
names_next r s trace st entries rest line after same form p goes cut =
    let f : Following s trace entries rest p.text = following s trace st entries rest p goes in
    subst (λ (x : Scenario). NamesNext x st line) (sym same) (record {
      lane = f.entry.lane;
      low = low_lane s (reverse entries) f.entry form f.lawful;
      names = names_entry s trace entries rest line after p.text f form cut;
      next = ap is_some (same-next s st (reverse entries) f.entry.lane p.stands ∙ f.lawful.1);
    })

pub has_room : (r s : Scenario) (trace : List ℕ) (st : State) (entries : List Entry) (rest : List ℕ) → r ≡ s → Again s trace st entries rest
    → ended_now s st ≡ None → st.entries < limit r
has_room r s trace st entries rest same p goes =
    let f : Following s trace entries rest p.text = following s trace st entries rest p goes in
    let room : length (reverse entries) < limit s = f.room in
    let count : st.entries ≡ length (reverse entries) = p.stands.entries in
    subst (λ (x : Scenario). st.entries < limit x) (sym same) (omega (arith, room, count))

some_same : {A : Type 0} → (a b : A) → Some a ≡ Some b → a ≡ b
some_same a b e = cc

reverse_more : (xs : List Entry) (e : Entry) → reverse (xs ++ e ∷ []) ≡ e ∷ reverse xs
reverse_more xs e = reverse-append xs (e ∷ [])

-- One line more.
pub goes_on : (r s : Scenario) (trace : List ℕ) (st new : State) (entries longer : List Entry) (rest line after : List ℕ) (e : Entry) → r ≡ s → Formed s
    → Again s trace st entries rest → ended_now s st ≡ None → lines_of rest ≡ line ∷ lines_of after → IsMadeFor r st line e new
    → longer ≡ entries ++ e ∷ [] → Again s trace new longer after
goes_on r s trace st new entries longer rest line after e same form p goes cut made more =
    let g : List Entry = reverse entries in
    let f : Following s trace entries rest p.text = following s trace st entries rest p goes in
    let is : IsMadeFor s st line e new = subst (λ (x : Scenario). IsMadeFor x st line e new) same made in
    let lane : e.lane ≡ f.entry.lane = some_same e.lane f.entry.lane (sym is.names ∙ names_entry s trace entries rest line after p.text f form cut) in
    let deed : e.deed ≡ f.entry.deed =
    some_same e.deed f.entry.deed
    (sym is.next.deed ∙ ap (next_of s st) lane ∙ same-next s st g f.entry.lane p.stands ∙ f.lawful.1) in
    let own : e ≡ f.entry = ap₂ (λ (l : ℕ) (d : Deed). record { lane = l; deed = d }) lane deed in
    let lawful : legal s (e ∷ g) = subst (λ (k : Entry). legal s (k ∷ g)) (sym own) f.lawful in
    let told : reverse longer ≡ e ∷ g = ap reverse more ∙ reverse_more entries e in
    let stands : StandsFor s new (e ∷ g) = subst (λ (x : State). StandsFor s x (e ∷ g)) (sym is.next.becomes) (stands-later s st g e.lane e.deed form lawful p.stands) in
    let left : lines_of trace ≡ history_lines s.version (e ∷ g) ++ lines_of after =
    p.left ∙ ap (λ (x : Lines). history_lines s.version g ++ x) cut
    ∙ ap (λ (x : List ℕ). history_lines s.version g ++ (x ∷ lines_of after))
    (line_is s trace entries rest line after p.text f cut ∙ ap (entry_line s.version (length g + 1)) (sym own))
    ∙ sym (one_line_more s.version e g (lines_of after)) in
    record {
      text = p.text;
      more = f.more;
      parts = f.parts ∙ ap (λ (k : Entry). f.more ++ (k ∷ g)) (sym own) ∙ ap (λ (x : List Entry). f.more ++ x) (sym told);
      stands = subst (StandsFor s new) (sym told) stands;
      left = left ∙ ap (λ (x : List Entry). history_lines s.version x ++ lines_of after) (sym told);
    }

-- ---- the end

-- Where the history has ended, it is the whole one.
is_whole : (s : Scenario) (trace : List ℕ) (st : State) (entries : List Entry) (rest : List ℕ) (x : Ended) → (p : Again s trace st entries rest)
    → ended_now s st ≡ Some x → reverse entries ≡ p.text.history
is_whole s trace st entries rest x p over =
    elim (last_of p.more) as (λ _. reverse entries ≡ p.text.history) [
      | no_last e ↦ sym (p.parts ∙ ap (λ (xs : List Entry). xs ++ reverse entries) e)
      | has_last zs k e ↦
          let is : p.text.history ≡ zs ++ (k ∷ reverse entries) =
          p.parts ∙ ap (λ (xs : List Entry). xs ++ reverse entries) e ∙ append_assoc zs (k ∷ []) (reverse entries) in
          let u : Unended s (k ∷ reverse entries) =
          unended_older s zs (k ∷ reverse entries) (subst (λ (h : List Entry). Unended s h) is p.text.unended) in
          absurd (not-some (sym u.2 ∙ ends_as s trace st entries rest p ∙ over))
    ]
  where
    not-some : None ≡ Some x → ⊥
    not-some e = cc

pub is_agreed : (s : Scenario) (trace : List ℕ) (st : State) (entries : List Entry) (rest : List ℕ) (x : Ended) (a : Agreed) → Again s trace st entries rest
    → ended_now s st ≡ Some x → a ≡ record { history = entries; counts = all_counts_in s st; clock = st.clock; ended = x } → IsAgreed s trace a
is_agreed s trace st entries rest x a p over is =
    let whole : reverse entries ≡ p.text.history = is_whole s trace st entries rest x p over in
    record {
      text = p.text;
      history = ap (λ (b : Agreed). reverse b.history) is ∙ whole;
      counts = ap (λ (b : Agreed). b.counts) is ∙ all-counted s st (reverse entries) p.stands ∙ ap (all_counts s) whole;
      clock = ap (λ (b : Agreed). b.clock) is ∙ p.stands.clock ∙ ap clock whole;
      ended = sym (ap (ended_as s) whole) ∙ ends_as s trace st entries rest p ∙ over ∙ ap (λ (b : Agreed). Some b.ended) (sym is);
    }
