-- Both laws fail of an object that is made by an interface which its class does not have.
use Rattle.std.proofs.Common.{arith}
use Rattle.std.specs.Prelude.{◌≡◌, ◌<◌, true, false, None}
use Rattle.com_model.specs.Cases.{direct_call, direct_call_1}
use Rattle.com_model.specs.Rules.{legal}
use Rattle.com_model.specs.Safe.{EachEntry}
use Rattle.com_model.proofs.Cases.{whole-direct_call}
use Rattle.com_laws_values.specs.Held.{HoldsDeclared, NamesDeclared}
use Rattle.com_laws_values.specs.Broken.{as_a_relay}

pub legal-one : legal direct_call direct_call_1
legal-one = whole-direct_call.0.0.0.0.0.0.0.0.0.0

wrong : false ≡ true → ⊥
wrong e = cc

pub holds-bites : HoldsDeclared direct_call as_a_relay → ⊥
holds-bites p = let low : 0 < 8 = omega arith in wrong ((p.scripts 1).slots 0 None low).1

pub names-bites : EachEntry (NamesDeclared direct_call) as_a_relay → ⊥
names-bites p = wrong p.1
