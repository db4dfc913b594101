-- Each clause of `Safe` fails of a history whose last entry breaks it.
use Rattle.std.proofs.Common.{ap, arith}
use Rattle.std.specs.Prelude.{◌≡◌, refl, ℕ, ◌≤◌, true, false, List, [], ◌∷◌, Option, Some, None, is_none, pos}
use Rattle.com_base.specs.declared.hresult.HResult.{HResult}
use Rattle.com_base.specs.declared.value.Value.{Value}
use Rattle.com_base.specs.declared.value.Value.TheVariants as value
use Rattle.com_model.specs.declared.deeds.Deed.TheVariants as deed
use Rattle.com_model.specs.Endings.{ending}
use Rattle.com_model.specs.declared.keeps.Ending.{Ending}
use Rattle.com_model.specs.Rules.{legal}
use Rattle.com_model.specs.Safe.{Apartment, OneStack, Reentry, Replies, Balance, Release, Causes}
use Rattle.com_model.specs.Cases.{direct_call, direct_call_3, direct_call_6, pumped_words, pumped_words_3, into_the_host, into_the_host_3, answer_first, answer_first_10}
use Rattle.com_model.proofs.Cases.{whole-direct_call, whole-pumped_words, whole-into_the_host, whole-answer_first}
use Rattle.com_laws_safe.specs.Broken.{in_foreign_apartment, above_a_pump, above_an_answer, another_value, unmarshalled_out_of_nothing, two_apartments, out_of_nothing, held_by_a_script, without_a_cause}

-- ---- all but the last entry is legal

pub legal-three : legal direct_call direct_call_3
legal-three = whole-direct_call.0.0.0.0.0.0.0.0

pub legal-six : legal direct_call direct_call_6
legal-six = whole-direct_call.0.0.0.0.0

pub legal-pumped : legal pumped_words pumped_words_3
legal-pumped = whole-pumped_words.0.0.0.0.0.0.0

pub legal-posted : legal into_the_host into_the_host_3
legal-posted = whole-into_the_host.0.0.0.0.0.0.0.0

pub legal-answered : legal answer_first answer_first_10
legal-answered = whole-answer_first.0.0.0.0.0.0.0.0.0.0.0.0.0

pub legal-two : legal unmarshalled_out_of_nothing two_apartments
legal-two = (((tt, refl), refl), refl)

-- ---- the last entry breaks the clause

pub apartment-bites : Apartment into_the_host in_foreign_apartment → ⊥
apartment-bites p = let z : 1 ≡ 2 = p.1.0 in absurd (omega (arith, z))

pub one-stack-bites : OneStack pumped_words above_a_pump → ⊥
one-stack-bites p = p.1.1

some-none : (x : Option Ending) → is_none x ≡ false → x ≡ None → ⊥
some-none None e p = cc
some-none (Some y) e p = cc

pub reentry-bites : Reentry answer_first above_an_answer → ⊥
reentry-bites p = some-none (ending answer_first answer_first_10 1) refl p.1.1.1

abbrev number_in : List Value → ℕ
number_in (value.Int (pos n) ∷ vs) = n
number_in _ = 0

pub once-bites : Replies direct_call another_value → ⊥
once-bites p = let z : 6 ≡ 5 = ap number_in p.1.1.0 in absurd (omega (arith, z))

pub balance-bites : Balance unmarshalled_out_of_nothing out_of_nothing → ⊥
balance-bites p =
    let z : 1 ≤ 0 = p.1.1 3 1 1 refl refl (omega arith) in absurd (omega (arith, z))

pub release-bites : Release direct_call held_by_a_script → ⊥
release-bites p = let z : false ≡ true = p.0.1.2 in cc

refused-entered : (c d o a : ℕ) (t : Option ℕ) (vs : List Value) (hr : HResult) → deed.Enter d o a t vs ≡ deed.Refuse c hr → ⊥
refused-entered c d o a t vs hr e = cc

pub causes-bites : Causes direct_call without_a_cause → ⊥
causes-bites p = refused-entered _ _ _ _ _ _ _ p.1
