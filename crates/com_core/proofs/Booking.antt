-- An entry that was applied to a ledger which is tied to a state leaves it tied to the state after the entry.
use Rattle.std.proofs.Common.{◌≡◌, ℕ, refl, sym, ap, ◌∙◌, subst, ◌<◌, List, [], ◌∷◌}
use Rattle.std.specs.Prelude.{Bool, Option, Some}
use Rattle.com_base.specs.declared.value.RefValue.{RefValue}
use Rattle.com_body.specs.declared.actions.Action.{Action}
use Rattle.com_body.specs.declared.frame.Outcome.{Outcome}
use Rattle.com_refs_books.specs.Changes.{Books}
use Rattle.com_model.specs.declared.deeds.Deed.{Deed}
use Rattle.com_model.specs.declared.deeds.Deed.TheVariants as deed
use Rattle.com_model.specs.declared.deeds.Entry.{Entry}
use Rattle.com_model.specs.declared.scenario.Scenario.{Scenario}
use Rattle.com_model.specs.Frames.{Actor}
use Rattle.com_model.specs.Lists.{number_or_zero}
use Rattle.com_model.specs.Sight.{Sight}
use Rattle.com_model.specs.State.{State, after, books_in, home_in, next_of, next_sta_in, running_in, sight_of}
use Rattle.com_reference_moves.specs.declared.moves.Move.{Move}
use Rattle.com_reference_moves.specs.Steps.{moves_stepped, movings_of}
use Rattle.com_reference_moves.specs.Tables.{ground_at, moves_in}
use Rattle.com_objects.specs.Settled.{Rise}
use Rattle.com_parts.specs.Fits.{Sent}
use Rattle.com_parts.specs.Tables.{PartTables}
use Rattle.com_laws_places.specs.Moves.{Moves, Move as Moving}
use Rattle.com_turns.specs.Turns.{carried_seen, carried_with}
use Rattle.com_turns.proofs.Stands.{carried_stands}
use Rattle.com_view.specs.Reads.{Reads}
use Rattle.com_view.specs.Seen.{Seen, home_seen, running_seen}
use Rattle.com_view.proofs.Sights.{reads_state as sight_read}
use Rattle.com_refs_rows.specs.Books.{Held}
use Rattle.com_refs_rows.specs.Entries.{Around, Carries, StandsAround, around, brings_to}
use Rattle.com_ledger.specs.Ties.{AllTouched, Notes, Ties, places_at}
use Rattle.com_ledger.proofs.Applying.{applied-ties}
use Rattle.com_ledger.proofs.Following.{counts-next, moves-below, places-next}
use Rattle.com_ledger.proofs.Tied.{losses-touched}
use Rattle.com_ledger.proofs.Within.{entered-below, places-made, running-below}
use Rattle.com_core.specs.Making.{Booked, BookedBy, TiesLater}
use Rattle.com_core.specs.Stands.{IsGiven, IsReached, Stands, seen_by}
use Rattle.com_core.proofs.Moved.{moves_filled}
use Rattle.com_core.proofs.Tied.{books_later}

-- ---- the moves of an entry as those of the code

move-of : Moving → Move
move-of m = record { apartment = m.apartment; reference = m.reference }

moves-of : List Moving → List Move
moves-of [] = []
moves-of (m ∷ ms) = move-of m ∷ moves-of ms

movings-back : (ms : List Moving) → movings_of (moves-of ms) ≡ ms
unfolding move-of moves-of
movings-back [] = refl
movings-back (m ∷ ms) = ap (λ (xs : List Moving). m ∷ xs) (movings-back ms)

-- ---- beside what the state has

-- What a turn carries is what its deed does.
carries-with : (s : Scenario) (b : Books) (x : Option Action) (d : Deed) → Carries s x b d (carried_with s b x d)
carries-with s b x (deed.Out c o i m r k (Some bytes)) = refl
carries-with s b x (deed.Leave c hr v (Some bytes)) = refl
carries-with s b x _ = tt

pub stands_around : (s : Scenario) (st : State) (p : PartTables) (b : Books) (fallen : List ℕ) (clock l : ℕ) (d : Deed) (running : Option ℕ) (carried : List RefValue)
    → Reads (seen_by s p fallen clock) b st → Stands st p b fallen clock → running ≡ running_seen (seen_by s p fallen clock) l
    → carried ≡ carried_seen (seen_by s p fallen clock) b l d
    → StandsAround s st l d (around p.calls.tables p.objects s.classes carried (number_or_zero running))
stands_around s st p b fallen clock l d running carried reads h run e =
    let w : Seen = seen_by s p fallen clock in
    let x : Option Action = (sight_of s st).act l in
    let there : running ≡ running_in s st l = run ∙ sym (ap (λ (v : Sight). v.running l) (sight_read w b st reads)) in
    let same : carried ≡ carried_with s (books_in st) x d = e ∙ carried_stands w b st l d reads in
    record {
      calls = h.calls;
      objects = h.objects;
      classes = refl;
      apartment = ap number_or_zero there;
      carried = subst (λ (rs : List RefValue). Carries s x (books_in st) d rs) (sym same) (carries-with s (books_in st) x d);
    }

brings-below : (s : Scenario) (st : State) (r : IsReached s st) (l : ℕ) (d : Deed) (a : ℕ) → next_of s st l ≡ Some d → a ≡ number_or_zero (running_in s st l) → brings_to a d < next_sta_in (after s st l d)
brings-below s st r l (deed.Enter c o y t vs) a n run = entered-below s st r.history l c o y t vs r.formed r.stands n
brings-below s st r l d a n run = subst (λ (x : ℕ). x < next_sta_in (after s st l d)) (sym run) (running-below s st r.history l d r.formed r.stands n)

-- ---- after the entry

abbrev gains : Scenario → State → (lane : ℕ) → Deed → List Move
gains s st l d = moves-of (moves_in s st (record { lane = l; deed = d })).gained

abbrev losses : Scenario → State → (lane : ℕ) → Deed → List Move
losses s st l d = moves-of (moves_in s st (record { lane = l; deed = d })).lost

gains-are : (s : Scenario) (st : State) (l : ℕ) (d : Deed) → movings_of (gains s st l d) ≡ (moves_in s st (record { lane = l; deed = d })).gained
gains-are s st l d = movings-back (moves_in s st (record { lane = l; deed = d })).gained

losses-are : (s : Scenario) (st : State) (l : ℕ) (d : Deed) → movings_of (losses s st l d) ≡ (moves_in s st (record { lane = l; deed = d })).lost
losses-are s st l d = movings-back (moves_in s st (record { lane = l; deed = d })).lost

ties-booked : (s : Scenario) (st : State) (r : IsReached s st) (l : ℕ) (d : Deed) (g : Around) (w u : Held) → next_of s st l ≡ Some d → StandsAround s st l d g
    → Booked g d (moves_in s st (record { lane = l; deed = d })) w u → Ties s st w → Ties s (after s st l d) u
ties-booked s st r l d g w u n a b t =
    applied-ties s st r.history l d g (gains s st l d) (losses s st l d) w u r.formed r.stands n (gains-are s st l d) (losses-are s st l d) t a b.totals b.offers b.issued
    (b.applies (gains s st l d) (losses s st l d) (gains-are s st l d) (losses-are s st l d))

touched-booked : (s : Scenario) (st : State) (r : IsReached s st) (l : ℕ) (d : Deed) (g : Around) (w u : Held) → next_of s st l ≡ Some d → StandsAround s st l d g
    → Booked g d (moves_in s st (record { lane = l; deed = d })) w u → Ties s st w → Notes w.tables u.tables u.touched
touched-booked s st r l d g w u n a b t =
    let below = moves-below s st r.history l d (gains s st l d) (losses s st l d) r.formed r.stands n (gains-are s st l d) (losses-are s st l d) in
    b.loses (gains s st l d) (losses s st l d) (gains-are s st l d) (losses-are s st l d)
    s ((sight_of s st).act l) (subst (λ (c : Books). Carries s ((sight_of s st).act l) c d g.carried) (sym t.books) a.carried)
    (next_sta_in (after s st l d)) (places_at s st) (places_at s (after s st l d))
    (brings-below s st r l d g.apartment n a.apartment) below.0 below.1
    (λ c x h. places-made s st r.history c x r.formed r.stands (subst (λ (k : ℕ). k < x) t.objects.number h))
    (counts-next s st r.history l d w r.formed r.stands n t)
    (places-next s st r.history l d (gains s st l d) (losses s st l d) r.formed r.stands n (gains-are s st l d) (losses-are s st l d))

pub booked_ties : (s : Scenario) (st : State) (r : IsReached s st) (l : ℕ) (d : Deed) (g : Around) (m : Moves) (w u : Held) → next_of s st l ≡ Some d → StandsAround s st l d g
    → m ≡ moves_in s st (record { lane = l; deed = d }) → Booked g d m w u → Ties s st w → TiesLater s st l d u
booked_ties s st r l d g m w u n a e k t =
    let b : Booked g d (moves_in s st (record { lane = l; deed = d })) w u = subst (λ (x : Moves). Booked g d x w u) e k in
    let later : Ties s (after s st l d) u = ties-booked s st r l d g w u n a b t in
    let touched : AllTouched s st (after s st l d) u.touched = losses-touched s st (after s st l d) w u u.touched t later (touched-booked s st r l d g w u n a b t) in
    record {
      ties = later;
      books = books_later s st l d u later touched (subst (λ (k : ℕ). Rise 0 u.touched k) later.objects.number b.rise);
    }

-- The ties after an entry that is booked by what is read of the parts.
pub booked_later : (s : Scenario) (st : State) (p : PartTables) (b : Books) (fallen : List ℕ) (clock l : ℕ) (d : Deed) (acting : Actor) (r : Option Outcome) (follows : Actor) (filtered : Bool)
    (x : Option Sent) (home running : Option ℕ) (carried : List RefValue) (w u : Held) → IsReached s st → Stands st p b fallen clock → Reads (seen_by s p fallen clock) b st
    → next_of s st l ≡ Some d → IsGiven s st (record { lane = l; deed = d }) acting r follows filtered x
    → home ≡ home_seen (seen_by s p fallen clock) l → running ≡ running_seen (seen_by s p fallen clock) l → carried ≡ carried_seen (seen_by s p fallen clock) b l d
    → BookedBy s p home running carried (record { lane = l; deed = d }) acting r follows w u → Ties s st w → TiesLater s st l d u
booked_later s st p b fallen clock l d acting r follows filtered x home running carried w u reached h reads n given housed run e k t =
    let v : Entry = record { lane = l; deed = d } in
    let m : Moves = moves_stepped (ground_at home p.objects p.calls.tables) p.scene acting r follows v in
    let there : home ≡ home_in s st l = housed ∙ sym (ap (λ (y : Sight). y.home l) (sight_read (seen_by s p fallen clock) b st reads)) in
    booked_ties s st reached l d (around p.calls.tables p.objects s.classes carried (number_or_zero running)) m w u n
    (stands_around s st p b fallen clock l d running carried reads h run e)
    (moves_filled s st p b fallen clock l d acting r follows filtered x home m h given there refl) k t
