use Rattle.com_parts.proofs.apply.change_rows.Goals as goal

pub returns-in-Made-clause-objects : goal.returns-in-Made-clause-objects
returns-in-Made-clause-objects c = c.apply.ensures c.args.lane

pub returns-in-Final-clause-objects : goal.returns-in-Final-clause-objects
returns-in-Final-clause-objects c = c.apply-in-Final.ensures c.args.lane
