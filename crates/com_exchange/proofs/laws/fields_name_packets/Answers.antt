use Rattle.std.proofs.Common.{refl}
use Rattle.std.proofs.lemmas.Nat.{from_le_bytes-to_le_bytes_8}
use Rattle.com_exchange.proofs.laws.fields_name_packets.Goals as goal

pub returns-clause-number : goal.returns-clause-number
returns-clause-number c = λ s v k p short. from_le_bytes-to_le_bytes_8 p short

pub returns-clause-reference : goal.returns-clause-reference
returns-clause-reference c = λ s v k p. refl
