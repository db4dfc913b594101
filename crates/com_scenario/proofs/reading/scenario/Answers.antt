use Rattle.com_scenario.proofs.reading.scenario.Goals as goal

pub tables-requires : goal.tables-requires
tables-requires c = record { interfaces = c.requires.interfaces; few = c.requires.classes.few; distinct = c.requires.classes.distinct }
