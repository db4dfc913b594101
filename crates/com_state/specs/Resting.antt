-- What holds of a state between entries: nothing is left to give back or to cut, and what is dying stands in
-- the list of the dying.
use Rattle.std.specs.Prelude.{◌≡◌, ℕ, suc, ◌+◌, ◌==◌, Bool, true, false, not, map, filter}
use Rattle.std.specs.Prelude.{None}
use Rattle.com_refs_books.specs.Changes.{Books, cut_packet, cut_cookie, held_outside}
use Rattle.com_model.specs.declared.deeds.Deed.{Deed}
use Rattle.com_model.specs.declared.deeds.Deed.TheVariants as deed
use Rattle.com_model.specs.declared.scenario.Scenario.{Scenario}
use Rattle.com_model.specs.Answers.{is_S_OK}
use Rattle.com_model.specs.Lists.{is_member}
use Rattle.com_model.specs.Places.{places, all_places}
use Rattle.com_model.specs.State.{State, ground_in, scene_in, books_in, dies_in, scene_tables, book_tables}

-- An apartment without place for an object holds no reference to it, what is connected has a holder, and what
-- is not connected has nothing.
pub record Rested (places : ℕ → ℕ → ℕ) (holders : ℕ → ℕ) (b : Books) : Type 0 where
  pub given : (a o i : ℕ) → places a o ≡ 0 → b.proxy a o i ≡ 0
  pub held : (o : ℕ) → b.live o ≡ true → (holders o == 0) ≡ false
  pub stub : (o i : ℕ) → b.live o ≡ false → b.stub o i ≡ 0
  pub proxy : (a o i : ℕ) → b.live o ≡ false → b.proxy a o i ≡ 0
  pub packets : map (cut_packet b.live) b.packets ≡ b.packets
  pub cookies : map (cut_cookie b.live) b.cookies ≡ b.cookies

-- The scene and the books are written as they are read, the books are at rest, and what is dying has fallen.
pub record Settled (s : Scenario) (st : State) : Type 0 where
  pub scene : scene_tables s st (scene_in st) ≡ st.scene
  pub books : book_tables s st (books_in st) ≡ st.books
  pub rested : Rested (places s (ground_in s st) (scene_in st))
      (λ o. all_places s (ground_in s st) (scene_in st) o + held_outside (books_in st) o) (books_in st)
  pub dying : filter (dies_in s st) st.fallen ≡ st.fallen
  pub fell : (o : ℕ) → dies_in s st o ≡ true → is_member o st.fallen ≡ true

-- The deeds that move no reference, whatever the state: an Init of a lane that has a home, an Uninit that
-- leaves a count, what pumps, words, filters and the clock do, bytes for a buffer, and refusals that write no
-- slot.
abbrev pub is_quiet : Deed → Bool
is_quiet (deed.Init m a hr) = not (is_S_OK hr)
is_quiet (deed.Uninit a (suc n)) = true
is_quiet (deed.Marshal None m held refs hr bytes) = true
is_quiet (deed.DropPacket None hr) = true
is_quiet (deed.Register None held hr) = true
is_quiet (deed.Revoke g hr) = not (is_S_OK hr)
is_quiet (deed.Disconnect o hr) = not (is_S_OK hr)
is_quiet (deed.Raw b n) = true
is_quiet (deed.SetFilter f hr) = true
is_quiet (deed.Post l w hr) = true
is_quiet (deed.Quit l hr) = true
is_quiet (deed.Pump n) = true
is_quiet deed.EndPump = true
is_quiet (deed.Word w) = true
is_quiet (deed.Verdict c t v) = true
is_quiet (deed.Refuse c hr) = true
is_quiet (deed.Retry c n) = true
is_quiet (deed.Again c) = true
is_quiet (deed.Pending c w n) = true
is_quiet (deed.Tick t) = true
is_quiet deed.End = true
is_quiet _ = false
