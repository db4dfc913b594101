use Rattle.std.proofs.Common.{arith, rules, leb, leb-true, leb-false}
use Rattle.std.proofs.lemmas.List.Sorted.{IsPartitionPoint-from_clause, IsPartitionedBy-leb}
use Rattle.com_lane_lists.specs.Words.{number_of}
use Rattle.com_lane_lists.proofs.Words.{not_asked_at}
use Rattle.com_lane_lists.proofs.mail.place_after.Goals as goal

pub returns : goal.returns
returns c =
    let parted = IsPartitionedBy-leb number_of _ c.args.mark c.requires in
    let point = IsPartitionPoint-from_clause (λ w. leb w.number c.args.mark) _ _ c.partition_point.ensures.partitioned parted (λ a r q k. search rules) in
    not_asked_at c.args.mark _ _ (λ k d h q. leb-true _ _ (point.0 k d (omega arith) h)) (λ d h. leb-false _ _ (point.1 c.partition_point.result d (omega arith) h))
