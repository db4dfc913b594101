use Rattle.com_laws_sources.proofs.Stepped.{own-step, cells-stay}
use Rattle.com_laws_sources.proofs.Framed.{frames-stay, back-writes, goes-alone}
use Rattle.com_laws_sources.proofs.own_steps.Goals as goal

pub returns-clause-own : goal.returns-clause-own
returns-clause-own c = own-step

pub returns-clause-cells : goal.returns-clause-cells
returns-clause-cells c = cells-stay

pub returns-clause-alone : goal.returns-clause-alone
returns-clause-alone c = goes-alone

pub returns-clause-frames : goal.returns-clause-frames
returns-clause-frames c = frames-stay

pub returns-clause-back : goal.returns-clause-back
returns-clause-back c = back-writes
