use Rattle.std.proofs.Common.{length}
use Rattle.com_keyed.proofs.Linking.{follows_on}
use Rattle.com_keyed.proofs.latest.Goals as goal

pub loop-link-preserved : goal.loop-link-preserved
loop-link-preserved c =
    follows_on c.args.keys.now c.args.links.now c.args.heads.now (length c.args.heads.now) c.args.key c.args.end c.loop-link.link c.requires.linked c.requires.end c.loop-link.invariant c.loop-link-test.true c.if-keys-index.false
