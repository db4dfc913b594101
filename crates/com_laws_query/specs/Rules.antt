-- The rules of QueryInterface, over all queries of a history. Source: the documentation of IUnknown, "Rules
-- for Implementing QueryInterface": objects have identity, the set of interfaces is static, and asking is
-- reflexive, symmetric and transitive.
use Rattle.std.specs.Prelude.{◌≡◌, ℕ, List, ◌∷◌, ◌++◌, Some, ◌↔◌}
use Rattle.com_base.specs.declared.hresult.HResult.{HResult}
use Rattle.com_base.specs.declared.value.RefValue.{RefValue}
use Rattle.com_body.specs.declared.operands.Asked.{Asked}
use Rattle.com_body.specs.declared.actions.Action.TheVariants as action
use Rattle.com_model.specs.declared.deeds.Deed.TheVariants as deed
use Rattle.com_model.specs.declared.deeds.Entry.{Entry}
use Rattle.com_model.specs.declared.scenario.Scenario.{Scenario}
use Rattle.com_model.specs.Answers.{S_OK, E_NOINTERFACE}
use Rattle.com_model.specs.Tables.{interface_number}
use Rattle.com_model.specs.Frames.{act, taken_in}

-- A query through a reference for the interface with a number: its entry stands in the history, with what
-- came before it and what came later; it is that of the action of whoever acted.
pub record Query (s : Scenario) (h : List Entry) : Type 0 where
  pub later : List Entry
  pub before : List Entry
  pub lane : ℕ
  pub slot : ℕ
  pub through : RefValue
  pub wanted : Asked
  pub number : ℕ
  pub iface : Asked
  pub answer : HResult
  pub stands : h ≡ later ++ record { lane = lane; deed = deed.Query (Some through.object) iface answer } ∷ before
  pub acts : act s before lane ≡ Some (action.Query slot (Some through) wanted)
  pub known : interface_number s wanted ≡ Some number

-- Identity: IUnknown is never wanting, and what two successful queries for it take is one reference exactly
-- where they are put to one object.
pub record Identity (s : Scenario) (h : List Entry) : Type 0 where
  pub always : (q : Query s h) → q.number ≡ 0 → q.answer ≡ E_NOINTERFACE → ⊥
  pub one : (q p : Query s h) → q.number ≡ 0 → p.number ≡ 0 → q.answer ≡ S_OK → p.answer ≡ S_OK
      → (taken_in (deed.Query (Some q.through.object) q.iface q.answer)
      ≡ taken_in (deed.Query (Some p.through.object) p.iface p.answer)) ↔ (q.through.object ≡ p.through.object)

-- The set is static: what an object gives at one time is wanting at none, before or after.
abbrev pub StaticSet : Scenario → List Entry → Type 0
StaticSet s h =
    (q p : Query s h) → q.through.object ≡ p.through.object → q.number ≡ p.number → q.answer ≡ S_OK
    → p.answer ≡ E_NOINTERFACE → ⊥

-- Through an interface that interface is never wanting.
abbrev pub Reflexive : Scenario → List Entry → Type 0
Reflexive s h = (q : Query s h) → q.number ≡ q.through.iface → q.answer ≡ E_NOINTERFACE → ⊥

-- Where one interface was given through another, that other is never wanting through it.
abbrev pub Symmetric : Scenario → List Entry → Type 0
Symmetric s h =
    (q p : Query s h) → q.through.object ≡ p.through.object → p.through.iface ≡ q.number
    → p.number ≡ q.through.iface → q.answer ≡ S_OK → p.answer ≡ E_NOINTERFACE → ⊥

-- Where one interface was given through another, and a third through that one, the third is never wanting
-- through the first.
abbrev pub Transitive : Scenario → List Entry → Type 0
Transitive s h =
    (q p r : Query s h) → q.through.object ≡ p.through.object → q.through.object ≡ r.through.object
    → p.through.iface ≡ q.number → r.through.iface ≡ q.through.iface → r.number ≡ p.number
    → q.answer ≡ S_OK → p.answer ≡ S_OK → r.answer ≡ E_NOINTERFACE → ⊥
