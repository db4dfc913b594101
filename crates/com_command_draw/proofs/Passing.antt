-- A page that is begun, from the first state to the end of the history.
use Rattle.std.proofs.Common.{sym, subst, ◌∙◌, ap, arith}
use Rattle.std.proofs.lemmas.List.{reverse-append}
use Rattle.std.specs.Prelude.{◌≡◌, refl, ℕ, ◌+◌, ◌-◌, ◌≤◌, ◌<◌, ◌^◌, Bool, true, false, cond, ◌==◌, List, [], ◌∷◌, ◌++◌, length, Some, drop, reverse}
use Rattle.com_model.specs.declared.counts.Ended.{Ended}
use Rattle.com_model.specs.declared.deeds.Entry.{Entry}
use Rattle.com_model.specs.declared.scenario.Scenario.{Scenario}
use Rattle.com_model.specs.Ends.{ended_as, limit, scheduled}
use Rattle.com_model.specs.Formed.{Formed}
use Rattle.com_model.specs.State.{State, StandsFor, first_tables}
use Rattle.com_runtime.specs.Reports.{all_counts_in}
use Rattle.com_runtime.specs.Standings.{Reached}
use Rattle.com_replay.specs.Steps.{IsMade, IsOver, Moment}
use Rattle.com_runtime.proofs.Counting.{all-counted}
use Rattle.com_replay.specs.Recorded.{IsRecorded}
use Rattle.com_replay.proofs.Recording.{Recording, recording_ends, recording_goes_on, recording_reached, recording_smaller, recording_starts, recording_within}
use Rattle.com_draw.specs.Entries.{after, drawn, entry_text}
use Rattle.com_draw.specs.Pages.{written}
use Rattle.com_draw.specs.Pictures.{Picture, depth_in}
use Rattle.com_draw.proofs.Counted.{drawn_entries}
use Rattle.com_draw.proofs.Depths.{IsShallow, drawn_shallow, has_room}
use Rattle.com_command_draw.specs.declared.beginning.Begun.{Begun}
use Rattle.com_command_draw.specs.Begun.{IsBegun}

-- What stands between two steps: the runtime has made these entries, and they are drawn; and where they are kept, these were kept.
pub record Passing (s : Scenario) (st : State) (picks : List ℕ) (last : ℕ) (d : Picture) (text : List ℕ) (is_kept : Bool) (kept : List Entry) : Type 0 where
  pub entries : List Entry
  pub recording : Recording s st picks last entries
  pub drawn_is : d ≡ drawn s (reverse entries)
  pub written_is : text ≡ written s (reverse entries)
  pub kept_is : is_kept ≡ true → kept ≡ entries

pub passing_starts : (s : Scenario) (st : State) (tried last : ℕ) (d : Picture) (old text : List ℕ) (is_kept : Bool) (kept : List Entry)
    → st ≡ first_tables s → tried ≡ 0 → last ≡ 0 → d ≡ drawn s [] → old ≡ [] → text ≡ old ++ written s [] → kept ≡ []
    → Passing s st (drop tried s.picks) last d text is_kept kept
passing_starts s st tried last d old text is_kept kept first t l is none begins empty = record {
  entries = [];
  recording = recording_starts s st tried last [] first t l refl;
  drawn_is = is;
  written_is = begins ∙ ap (λ (x : List ℕ). x ++ written s []) none;
  kept_is = λ k. empty;
}

-- ---- one entry more

drawn_more : (s : Scenario) (h : List Entry) (e : Entry) → after s (drawn s h) e ≡ drawn s (e ∷ h)
drawn_more s h e = refl

written_more : (s : Scenario) (h : List Entry) (e : Entry) → written s h ++ entry_text s (drawn s h) e ≡ written s (e ∷ h)
written_more s h e = refl

grown : (entries : List Entry) (e : Entry) → reverse (entries ++ (e ∷ [])) ≡ e ∷ reverse entries
grown entries e = reverse-append entries (e ∷ [])

pub passing_on : (s : Scenario) (m n : Moment) (e : Entry) (d later : Picture) (text longer : List ℕ) (is_kept : Bool) (kept more : List Entry)
    → Formed s → IsMade s m n e → Passing s m.state m.picks m.last d text is_kept kept
    → later ≡ after s d e → longer ≡ text ++ entry_text s d e → (is_kept ≡ true → more ≡ kept ++ (e ∷ []))
    → Passing s n.state n.picks n.last later longer is_kept more
passing_on s m n e d later text longer is_kept kept more f made p draws writes keeps =
    let all : List Entry = p.entries ++ (e ∷ []) in
    let told : reverse all ≡ e ∷ reverse p.entries = grown p.entries e in
    record {
      entries = all;
      recording = recording_goes_on s m n e p.entries all f made p.recording refl;
      drawn_is = draws ∙ ap (λ (x : Picture). after s x e) p.drawn_is ∙ drawn_more s (reverse p.entries) e ∙ ap (λ (h : List Entry). drawn s h) (sym told);
      written_is = writes
          ∙ ap (λ (x : List ℕ). x ++ entry_text s d e) p.written_is
          ∙ ap (λ (x : Picture). written s (reverse p.entries) ++ entry_text s x e) p.drawn_is
          ∙ written_more s (reverse p.entries) e
          ∙ ap (λ (h : List Entry). written s h) (sym told);
      kept_is = λ k. keeps k ∙ ap (λ (es : List Entry). es ++ (e ∷ [])) (p.kept_is k);
    }

-- The runtime lends the entry that is drawn, and keeps its state where the entry is taken.
pub passing_on_at : (s : Scenario) (m n : Moment) (e l : Entry) (new : State) (d later : Picture) (text longer : List ℕ) (is_kept : Bool) (kept more : List Entry)
    → l ≡ e → new ≡ n.state → Formed s → IsMade s m n e → Passing s m.state m.picks m.last d text is_kept kept
    → later ≡ after s d l → longer ≡ text ++ entry_text s d l → (is_kept ≡ true → more ≡ kept ++ (e ∷ []))
    → Passing s new n.picks n.last later longer is_kept more
passing_on_at s m n e l new d later text longer is_kept kept more is same f made p draws writes keeps =
    subst (λ (x : State). Passing s x n.picks n.last later longer is_kept more) (sym same)
    (passing_on s m n e d later text longer is_kept kept more f made p
    (draws ∙ ap (λ (x : Entry). after s d x) is) (writes ∙ ap (λ (x : Entry). text ++ entry_text s d x) is) keeps)

pub passing_smaller : (s : Scenario) (m n : Moment) (e : Entry) (d : Picture) (text : List ℕ) (is_kept : Bool) (kept : List Entry)
    → IsMade s m n e → Passing s m.state m.picks m.last d text is_kept kept → limit s - n.state.entries < limit s - m.state.entries
passing_smaller s m n e d text is_kept kept made p = recording_smaller s m n e p.entries made p.recording

pub passing_smaller_at : (s : Scenario) (m n : Moment) (e : Entry) (new : State) (d : Picture) (text : List ℕ) (is_kept : Bool) (kept : List Entry)
    → new ≡ n.state → IsMade s m n e → Passing s m.state m.picks m.last d text is_kept kept → limit s - new.entries < limit s - m.state.entries
passing_smaller_at s m n e new d text is_kept kept same made p =
    subst (λ (x : State). limit s - x.entries < limit s - m.state.entries) (sym same) (passing_smaller s m n e d text is_kept kept made p)

pub passing_within : (s : Scenario) (st : State) (picks : List ℕ) (last : ℕ) (d : Picture) (text : List ℕ) (is_kept : Bool) (kept : List Entry)
    → Passing s st picks last d text is_kept kept → st.entries ≤ limit s
passing_within s st picks last d text is_kept kept p = recording_within s st picks last p.entries p.recording

pub passing_reached : (s : Scenario) (st : State) (picks : List ℕ) (last : ℕ) (d : Picture) (text : List ℕ) (is_kept : Bool) (kept : List Entry)
    → Formed s → Passing s st picks last d text is_kept kept → Reached s st
passing_reached s st picks last d text is_kept kept f p = recording_reached s st picks last p.entries f p.recording

pub limit_few : (s : Scenario) → limit s ≤ 1_000_000
limit_few s = elim (s.version == 2) as (λ b. cond b 1_000_000 200_000 ≤ 1_000_000) [ true ↦ omega arith | false ↦ omega arith ]

few : (m k l n : ℕ) → m + k ≡ l → l ≤ 1_000_000 → n ≡ k → n ≤ 1_000_000
few m k l n c b e = omega (arith, c, b, e)

passing_few : (s : Scenario) (st : State) (picks : List ℕ) (last : ℕ) (d : Picture) (text : List ℕ) (is_kept : Bool) (kept : List Entry)
    → Passing s st picks last d text is_kept kept → d.entries ≤ 1_000_000
passing_few s st picks last d text is_kept kept p =
    few p.recording.more (length p.recording.history) (limit s) d.entries p.recording.count (limit_few s)
    (ap (λ (x : Picture). x.entries) p.drawn_is ∙ drawn_entries s (reverse p.entries) ∙ ap (λ (h : List Entry). length h) p.recording.is)

-- The drawing has room for one entry more.
pub passing_room : (s : Scenario) (st : State) (picks : List ℕ) (last : ℕ) (d : Picture) (text : List ℕ) (is_kept : Bool) (kept : List Entry)
    → Passing s st picks last d text is_kept kept → d.entries < 2 ^ 63
passing_room s st picks last d text is_kept kept p = let k : d.entries ≤ 1_000_000 = passing_few s st picks last d text is_kept kept p in omega (arith, k)

-- It has room for one more in each lane.
pub passing_depth : (s : Scenario) (st : State) (picks : List ℕ) (last : ℕ) (d : Picture) (text : List ℕ) (is_kept : Bool) (kept : List Entry) (l : ℕ)
    → Passing s st picks last d text is_kept kept → depth_in d l + 1 < 2 ^ 31
passing_depth s st picks last d text is_kept kept l p =
    let k : d.entries ≤ 1_000_000 = passing_few s st picks last d text is_kept kept p in
    has_room d l (subst IsShallow (sym p.drawn_is) (drawn_shallow s (reverse p.entries))) (omega (arith, k))

-- ---- the end

recorded : (s : Scenario) (m n : Moment) (x : Ended) (d : Picture) (text : List ℕ) (is_kept : Bool) (kept : List Entry)
    → IsOver s m n x → (p : Passing s m.state m.picks m.last d text is_kept kept) → IsRecorded s p.entries x
recorded s m n x d text is_kept kept over p = recording_ends s m n x p.entries over p.recording

pub passing_ends : (s : Scenario) (m n : Moment) (x : Ended) (d : Picture) (text : List ℕ) (is_kept : Bool) (kept : List Entry) (b : Begun)
    → IsOver s m n x → Passing s m.state m.picks m.last d text is_kept kept
    → b ≡ record { drawing = d; text = text; counts = all_counts_in s n.state; clock = n.state.clock; ended = x }
    → IsBegun s b
passing_ends s m n x d text is_kept kept b over p is =
    let r : IsRecorded s p.entries x = recorded s m n x d text is_kept kept over p in
    let whole : reverse p.entries ≡ scheduled s = r.history in
    let same : StandsFor s n.state p.recording.history =
    subst (λ (k : Moment). StandsFor s k.state p.recording.history) (sym over.same) p.recording.stands in
    let stands : StandsFor s n.state (scheduled s) = subst (λ (h : List Entry). StandsFor s n.state h) (sym p.recording.is ∙ whole) same in
    record {
      drawing = ap (λ (y : Begun). y.drawing) is ∙ p.drawn_is ∙ ap (λ (h : List Entry). drawn s h) whole;
      text = ap (λ (y : Begun). y.text) is ∙ p.written_is ∙ ap (λ (h : List Entry). written s h) whole;
      counts = ap (λ (y : Begun). y.counts) is ∙ all-counted s n.state (scheduled s) stands;
      clock = ap (λ (y : Begun). y.clock) is ∙ stands.clock;
      ended = sym (ap (λ (h : List Entry). ended_as s h) whole) ∙ r.ended_is ∙ ap (λ (y : Begun). Some y.ended) (sym is);
    }

pub passing_kept : (s : Scenario) (m n : Moment) (x : Ended) (d : Picture) (text : List ℕ) (is_kept : Bool) (kept : List Entry)
    → IsOver s m n x → Passing s m.state m.picks m.last d text is_kept kept → is_kept ≡ true → reverse kept ≡ scheduled s
passing_kept s m n x d text is_kept kept over p k =
    let r : IsRecorded s p.entries x = recorded s m n x d text is_kept kept over p in
    ap (λ (es : List Entry). reverse es) (p.kept_is k) ∙ r.history
