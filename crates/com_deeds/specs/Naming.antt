-- The packet that bytes name, in the words of the model.
use Rattle.com_deeds.specs.declared.holders.Named.{Named}
use Rattle.com_deeds.specs.declared.holders.Named.TheVariants as named
use Rattle.com_model.specs.Deeds.{Named as Naming, NamesPacket, Refuses}

-- What bytes name, in the model's form: an outstanding packet by its number, or the HRESULT that refuses them.
abbrev pub named_as : Named → Naming
named_as (named.Packet p) = NamesPacket p
named_as (named.Refused hr) = Refuses hr
