use Rattle.com_threads.proofs.run.run_on.Given as goal

abbrev pub ghosts-run_named : goal.ghosts-run_named
ghosts-run_named g a = record { scenario = a.scenario.now }
