use Rattle.com_exchange.proofs.ranges.fields_are_in_range.Goals as goal

pub returns : goal.returns
returns c = record {
  iid = c.guid_is_in_range.ensures;
  refs = c.numbers_are_in_range.ensures.refs;
  oxid = c.numbers_are_in_range.ensures.oxid;
  oid = c.numbers_are_in_range.ensures.oid;
  ipid = c.guid_is_in_range-2.ensures;
}
