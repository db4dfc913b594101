use Rattle.com_refs.proofs.Ties.{counts_same, counts_more, counts_less}
use Rattle.com_refs.proofs.counts_move.Goals as goal

pub returns-clause-same : goal.returns-clause-same
returns-clause-same c = λ n places t u counts same. counts_same n places places t u counts same

pub returns-clause-more : goal.returns-clause-more
returns-clause-more c = λ n places later t u a o owned counts more is below grows. counts_more n places later t u a o owned counts more is below grows

pub returns-clause-less : goal.returns-clause-less
returns-clause-less c = λ n places later t u a o owned counts less is below falls. counts_less n places later t u a o owned counts less is below falls
