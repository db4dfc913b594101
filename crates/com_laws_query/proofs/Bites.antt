-- Each law of queries fails of a history whose last entry breaks it.
use Rattle.std.proofs.Common.{ap, sym, ◌∙◌}
use Rattle.std.specs.Prelude.{◌≡◌, refl, ℕ, Bool, true, false, ◌==◌, List, [], ◌∷◌, Option, Some, None}
use Rattle.com_base.specs.declared.hresult.HResult.{HResult}
use Rattle.com_base.specs.declared.value.RefValue.{RefValue}
use Rattle.com_body.specs.declared.operands.Asked.{Asked}
use Rattle.com_body.specs.declared.operands.Asked.TheVariants as asked
use Rattle.com_body.specs.declared.actions.Action.TheVariants as action
use Rattle.com_model.specs.declared.deeds.Deed.TheVariants as deed
use Rattle.com_model.specs.declared.deeds.Entry.{Entry}
use Rattle.com_model.specs.Answers.{S_OK, E_NOINTERFACE, RPC_E_DISCONNECTED}
use Rattle.com_model.specs.Lists.{number_or_zero}
use Rattle.com_model.specs.Apartments.{running}
use Rattle.com_model.specs.Objects.{owns}
use Rattle.com_model.specs.Frames.{act, reference}
use Rattle.com_model.specs.Deeds.{object_in}
use Rattle.com_model.specs.Rules.{legal}
use Rattle.com_model.specs.Safe.{EachEntry}
use Rattle.com_laws_query.specs.Querying.{Refusal, uninitialised, null, severed, lacking, QueryAnswers, QueryRefused}
use Rattle.com_laws_query.proofs.Answers.{same-query}
use Rattle.com_laws_query.specs.Rules.{Query, Identity, StaticSet, Reflexive, Symmetric, Transitive}
use Rattle.com_laws_query.specs.Broken.{asking, asking_2, asking_3, asking_4, of_another, without_reason, without_identity, without_return, without_own}

-- ---- all but the last entry is legal

pub legal-two : legal asking asking_2
legal-two = ((tt, refl), refl)

pub legal-three : legal asking asking_3
legal-three = (legal-two, refl)

pub legal-four : legal asking asking_4
legal-four = (legal-three, refl)

-- ---- the queries of these histories

abbrev ask-unknown : Query asking without_identity
ask-unknown = record { later = []; before = asking_2; lane = 1; slot = 1; through = reference 1 1; wanted = asked.Number 0; number = 0; iface = asked.Number 0; answer = E_NOINTERFACE; stands = refl; acts = refl; known = refl }

abbrev go-there : Query asking without_return
go-there = record { later = record { lane = 1; deed = deed.Query (Some 1) (asked.Number 1) E_NOINTERFACE } ∷ []; before = asking_2; lane = 1; slot = 1; through = reference 1 1; wanted = asked.Number 0; number = 0; iface = asked.Number 0; answer = S_OK; stands = refl; acts = refl; known = refl }

abbrev come-back : Query asking without_return
come-back = record { later = []; before = asking_3; lane = 1; slot = 2; through = reference 1 0; wanted = asked.Number 1; number = 1; iface = asked.Number 1; answer = E_NOINTERFACE; stands = refl; acts = refl; known = refl }

abbrev first-asked : Query asking without_own
first-asked = record { later = record { lane = 1; deed = deed.Query (Some 1) (asked.Number 1) E_NOINTERFACE } ∷ record { lane = 1; deed = deed.Query (Some 1) (asked.Number 1) S_OK } ∷ []; before = asking_2; lane = 1; slot = 1; through = reference 1 1; wanted = asked.Number 0; number = 0; iface = asked.Number 0; answer = S_OK; stands = refl; acts = refl; known = refl }

abbrev then-asked : Query asking without_own
then-asked = record { later = record { lane = 1; deed = deed.Query (Some 1) (asked.Number 1) E_NOINTERFACE } ∷ []; before = asking_3; lane = 1; slot = 2; through = reference 1 0; wanted = asked.Number 1; number = 1; iface = asked.Number 1; answer = S_OK; stands = refl; acts = refl; known = refl }

abbrev last-asked : Query asking without_own
last-asked = record { later = []; before = asking_4; lane = 1; slot = 3; through = reference 1 1; wanted = asked.Number 1; number = 1; iface = asked.Number 1; answer = E_NOINTERFACE; stands = refl; acts = refl; known = refl }

-- ---- each law fails

false-true : false ≡ true → ⊥
false-true e = cc

abbrev is_one : Option ℕ → Bool
is_one None = false
is_one (Some n) = n == 1

of-another : (slot : ℕ) (held : Option RefValue) (wanted : Asked) → act asking asking_2 1 ≡ Some (action.Query slot held wanted) → Some 2 ≡ object_in held → ⊥
of-another slot held wanted e n = false-true (ap is_one n ∙ ap (λ (x : Option RefValue). is_one (object_in x)) (sym (same-query 1 slot (Some (reference 1 1)) held (asked.Number 0) wanted e).0))

pub answers-bite : EachEntry (QueryAnswers asking) of_another → ⊥
answers-bite p = of-another p.1.slot p.1.held p.1.wanted p.1.acts p.1.names

abbrev is_severed : HResult → Bool
is_severed hr = hr.0 == 0x80010108

true-false : true ≡ false → ⊥
true-false e = cc

some-same : (x y : RefValue) → Some x ≡ Some y → x ≡ y
some-same x y e = cc

no-reason : Refusal asking asking_2 1 (Some (reference 1 1)) (asked.Number 0) RPC_E_DISCONNECTED → ⊥
no-reason (uninitialised p z) = false-true (sym (ap is_severed z))
no-reason (null p z) = false-true (sym (ap is_severed z))
no-reason (severed r p c z) = true-false (ap (λ (x : RefValue). owns asking asking_2 x.object (number_or_zero (running asking asking_2 1))) (some-same (reference 1 1) r p) ∙ c.0)
no-reason (lacking r p c z) = false-true (sym (ap is_severed z))

pub refused-bites : EachEntry (QueryRefused asking) without_reason → ⊥
refused-bites p = no-reason ((p.1 refl).reason 1 (Some (reference 1 1)) (asked.Number 0) refl)

pub identity-bites : Identity asking without_identity → ⊥
identity-bites p = p.always ask-unknown refl refl

pub static-set-bites : StaticSet asking without_own → ⊥
static-set-bites p = p then-asked last-asked refl refl refl refl

pub reflexive-bites : Reflexive asking without_own → ⊥
reflexive-bites p = p last-asked refl refl

pub symmetric-bites : Symmetric asking without_return → ⊥
symmetric-bites p = p go-there come-back refl refl refl refl refl

pub transitive-bites : Transitive asking without_own → ⊥
transitive-bites p = p first-asked then-asked last-asked refl refl refl refl refl refl refl refl
