-- A quiet deed makes, issues, admits and ends nothing, and has no row in the books.
use Rattle.std.proofs.Common.{◌≡◌, refl, ◌∙◌, ap, ℕ, zero, suc, pos, negsuc, Bool, true, false, not, cond, ◌==◌, ◌&&◌, ◌||◌, [], ◌∷◌}
use Rattle.std.specs.Prelude.{Option, Some, None}
use Rattle.com_base.specs.declared.value.Mode.TheVariants as mode
use Rattle.com_body.specs.declared.actions.Action.{Action}
use Rattle.com_refs_books.specs.Changes.{Books, Revokes}
use Rattle.com_model.specs.declared.deeds.Deed.{Deed}
use Rattle.com_model.specs.declared.deeds.Deed.TheVariants as deed
use Rattle.com_model.specs.declared.scenario.Scenario.{Scenario}
use Rattle.com_model.specs.Answers.{is_S_OK}
use Rattle.com_model.specs.Lists.{is_number, where_true}
use Rattle.com_model.specs.Apartments.{makes_sta, ends_sta}
use Rattle.com_model.specs.Objects.{makes, finals, disconnects}
use Rattle.com_model.specs.Calls.{issues, admits, leaves, returns}
use Rattle.com_model.specs.Frames.{Actor, unless_final}
use Rattle.com_model.specs.Books.{rows, kept, live_after, made_by}
use Rattle.com_state.specs.Resting.{is_quiet}

clash : false ≡ true → ⊥
clash e = cc

off : (b : Bool) → not b ≡ true → b ≡ false
off true e = absurd (clash e)
off false e = refl

pub record Silent (l : ℕ) (d : Deed) : Type 0 where
  pub no_making : makes d ≡ None
  pub no_sta : makes_sta d ≡ None
  pub no_end : ends_sta d ≡ None
  pub no_issue : issues l d ≡ None
  pub no_admission : admits l d ≡ None
  pub no_leaving : leaves d ≡ None
  pub no_return : returns d ≡ None
  pub no_final : finals d ≡ None
  pub no_cut : disconnects d ≡ None

pub silent : (l : ℕ) (d : Deed) → is_quiet d ≡ true → Silent l d
silent l (deed.Init mode.Sta a hr) q = record { no_making = refl; no_sta = ap (λ (b : Bool). where_true b a) (off (is_S_OK hr) q); no_end = refl; no_issue = refl; no_admission = refl; no_leaving = refl; no_return = refl; no_final = refl; no_cut = refl }
silent l (deed.Init mode.Mta a hr) q = record { no_making = refl; no_sta = refl; no_end = refl; no_issue = refl; no_admission = refl; no_leaving = refl; no_return = refl; no_final = refl; no_cut = refl }
silent l (deed.Uninit a zero) q = absurd (clash q)
silent l (deed.Uninit None (suc n)) q = record { no_making = refl; no_sta = refl; no_end = refl; no_issue = refl; no_admission = refl; no_leaving = refl; no_return = refl; no_final = refl; no_cut = refl }
silent l (deed.Uninit (Some a) (suc n)) q = record { no_making = refl; no_sta = refl; no_end = refl; no_issue = refl; no_admission = refl; no_leaving = refl; no_return = refl; no_final = refl; no_cut = refl }
silent l (deed.Disconnect o hr) q = record { no_making = refl; no_sta = refl; no_end = refl; no_issue = refl; no_admission = refl; no_leaving = refl; no_return = refl; no_final = refl; no_cut = ap (λ (b : Bool). cond b o None) (off (is_S_OK hr) q) }
silent l (deed.Made o a k i hr) q = absurd (clash q)
silent l (deed.Out c o i m r k bytes) q = absurd (clash q)
silent l (deed.Enter c o a t vs) q = absurd (clash q)
silent l (deed.Leave c hr v bytes) q = absurd (clash q)
silent l (deed.Back c hr v) q = absurd (clash q)
silent l (deed.Final o) q = absurd (clash q)
silent l _ q = record { no_making = refl; no_sta = refl; no_end = refl; no_issue = refl; no_admission = refl; no_leaving = refl; no_return = refl; no_final = refl; no_cut = refl }

pub silent-rows : (s : Scenario) (x : Option Action) (left : ℕ → Bool) (b : Books) (a : ℕ) (d : Deed) → is_quiet d ≡ true → rows s x left b a d ≡ []
silent-rows s x left b a (deed.Made o w k i hr) q = absurd (clash q)
silent-rows s x left b a (deed.Query o i hr) q = absurd (clash q)
silent-rows s x left b a (deed.Marshal (Some p) m held refs hr bytes) q = absurd (clash q)
silent-rows s x left b a (deed.Marshal None m held refs hr bytes) q = refl
silent-rows s x left b a (deed.Unmarshal p held refs hr) q = absurd (clash q)
silent-rows s x left b a (deed.DropPacket (Some p) hr) q = absurd (clash q)
silent-rows s x left b a (deed.DropPacket None hr) q = refl
silent-rows s x left b a (deed.Register (Some g) held hr) q = absurd (clash q)
silent-rows s x left b a (deed.Register None held hr) q = refl
silent-rows s x left b a (deed.Get g held refs hr) q = absurd (clash q)
silent-rows s x left b a (deed.Revoke (pos g) hr) q = ap (λ (t : Bool). cond t (Revokes g ∷ []) []) (off (is_S_OK hr) q)
silent-rows s x left b a (deed.Revoke (negsuc g) hr) q = refl
silent-rows s x left b a (deed.Out c o i m r k bytes) q = absurd (clash q)
silent-rows s x left b a (deed.Enter c o y t vs) q = absurd (clash q)
silent-rows s x left b a (deed.Leave c hr v bytes) q = absurd (clash q)
silent-rows s x left b a (deed.Back c hr v) q = absurd (clash q)
silent-rows s x left b a _ q = refl

pub silent-kept : (b : Books) (d : Deed) (c : Books) → is_quiet d ≡ true → kept b d c ≡ c
silent-kept b (deed.Out k o i m r x bytes) c q = absurd (clash q)
silent-kept b (deed.Leave k hr v bytes) c q = absurd (clash q)
silent-kept b _ c q = refl

pub silent-actor : (d : Deed) (a : Actor) → is_quiet d ≡ true → unless_final d a ≡ a
silent-actor (deed.Final o) a q = absurd (clash q)
silent-actor _ a q = refl

-- What is connected stays so where it has a holder.
pub silent-live : (d : Deed) (l : ℕ) (named holders : ℕ → ℕ) (live : ℕ → Bool) (o : ℕ) → is_quiet d ≡ true → (live o ≡ true → (holders o == 0) ≡ false) → live_after d named holders live o ≡ live o
silent-live d l named holders live o q p =
    let z : Silent l d = silent l d q in
    ap (λ (m : Option _). (made_by m o || live o) && (not (is_number o (disconnects d)) && (not (is_number (named o) (ends_sta d)) && not (holders o == 0)))) z.no_making
    ∙ ap (λ (c : Option ℕ). (made_by None o || live o) && (not (is_number o c) && (not (is_number (named o) (ends_sta d)) && not (holders o == 0)))) z.no_cut
    ∙ ap (λ (c : Option ℕ). (made_by None o || live o) && (not (is_number o None) && (not (is_number (named o) c) && not (holders o == 0)))) z.no_end
    ∙ held (live o) (holders o == 0) p
  where
    held : (x h : Bool) → (x ≡ true → h ≡ false) → ((false || x) && (true && (true && not h))) ≡ x
    held true h p = ap not (p refl)
    held false h p = refl
