use Rattle.com_refs_holders.proofs.Moves.{more_from}
use Rattle.com_refs_holders.proofs.Holders.take_shared.Goals as goal

pub returns-clause-places : goal.returns-clause-places
returns-clause-places c = more_from _ _ _ _ _ _ c.make_room.ensures.objects c.make_room.ensures.proxies c.share_elsewhere.ensures.places
