-- What a run answers.
use Rattle.std.specs.Prelude.{List}
use Rattle.com_model.specs.declared.deeds.Entry.{Entry}
use Rattle.com_threads.specs.declared.run.Ran.{Ran}
use Rattle.com_threads.specs.Histories.{newest_first}

-- The history of a run, as the rules speak of it: the newest entry first.
abbrev pub history_of : Ran → List Entry
history_of r = newest_first r.history
