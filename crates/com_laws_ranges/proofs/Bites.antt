-- The law of the work of open bodies fails of an Enter of a call that nobody issued, and of one of an object that nobody made.
use Rattle.std.proofs.lemmas.List.Elements.{All-head}
use Rattle.std.specs.Prelude.{◌≡◌, refl, false, true, [], ◌∷◌, All, IsSome}
use Rattle.com_classes.specs.Lookups.{class_at}
use Rattle.com_model.specs.declared.keeps.Opener.TheVariants.{Waits, Enters}
use Rattle.com_model.specs.Calls.{issue}
use Rattle.com_model.specs.Cases.{direct_call, direct_call_2, direct_call_3}
use Rattle.com_model.specs.Objects.{class_of}
use Rattle.com_model.specs.Openers.{openers}
use Rattle.com_model.specs.Rules.{legal}
use Rattle.com_model.proofs.Cases.{whole-direct_call}
use Rattle.com_laws_ranges.specs.Broken.{enters_unissued, enters_unmade}
use Rattle.com_laws_ranges.specs.Works.{HasWork}

-- ---- all but the last entry is legal

pub legal-two : legal direct_call direct_call_2
legal-two = whole-direct_call.0.0.0.0.0.0.0.0.0

pub legal-three : legal direct_call direct_call_3
legal-three = whole-direct_call.0.0.0.0.0.0.0.0

-- ---- one half of the law has nothing against the last entry

pub unissued-declared : IsSome (class_at direct_call.classes (class_of enters_unissued 1))
unissued-declared = refl

pub unmade-issued : IsSome (issue enters_unmade 1)
unmade-issued = refl

-- ---- the last entry breaks the other half

wrong : false ≡ true → ⊥
wrong e = cc

pub unissued-bites : All (HasWork direct_call enters_unissued) (openers enters_unissued 1) → ⊥
unissued-bites p = wrong (All-head (HasWork direct_call enters_unissued) (Enters 1 1 3) [] p).0

pub unmade-bites : All (HasWork direct_call enters_unmade) (openers enters_unmade 1) → ⊥
unmade-bites p = wrong (All-head (HasWork direct_call enters_unmade) (Enters 1 2 3) (Waits 1 ∷ []) p).1
