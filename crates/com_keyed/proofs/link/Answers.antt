use Rattle.com_keyed.proofs.Linking.{linked_index}
use Rattle.com_keyed.proofs.link.Goals as goal

pub returns : goal.returns
returns c = record {
  linked = linked_index c.args.keys.now c.args.links.now c.args.heads.now c.args.index c.requires.room c.requires.buckets c.requires.linked;
}
