use Rattle.com_model.proofs.Cases.{text-direct_call, report-direct_call, report-halved, foreign-back, foreign-leave, whole-forged, scheduled-forged, whole-halved, scheduled-halved, no-tick, whole-direct_call, whole-pumped_words, whole-into_the_host, whole-callback, whole-answer_first, whole-younger_first, whole-relayed, whole-outer_causality, whole-delayed, scheduled-direct_call, scheduled-pumped_words, scheduled-into_the_host, scheduled-callback, scheduled-answer_first, scheduled-younger_first, scheduled-relayed, scheduled-outer_causality, scheduled-delayed}
use Rattle.com_model.proofs.laws.worked_cases.Goals as goal

pub returns-clause-direct_call : goal.returns-clause-direct_call
returns-clause-direct_call c = (scheduled-direct_call, whole-direct_call.0, whole-direct_call.1)

pub returns-clause-pumped_words : goal.returns-clause-pumped_words
returns-clause-pumped_words c = (scheduled-pumped_words, whole-pumped_words.0, whole-pumped_words.1)

pub returns-clause-into_the_host : goal.returns-clause-into_the_host
returns-clause-into_the_host c = (scheduled-into_the_host, whole-into_the_host.0, whole-into_the_host.1)

pub returns-clause-callback : goal.returns-clause-callback
returns-clause-callback c = (scheduled-callback, whole-callback.0, whole-callback.1)

pub returns-clause-answer_first : goal.returns-clause-answer_first
returns-clause-answer_first c = (scheduled-answer_first, whole-answer_first.0, whole-answer_first.1)

pub returns-clause-younger_first : goal.returns-clause-younger_first
returns-clause-younger_first c = (scheduled-younger_first, whole-younger_first.0, whole-younger_first.1)

pub returns-clause-relayed : goal.returns-clause-relayed
returns-clause-relayed c = (scheduled-relayed, whole-relayed.0, whole-relayed.1)

pub returns-clause-outer_causality : goal.returns-clause-outer_causality
returns-clause-outer_causality c = (scheduled-outer_causality, whole-outer_causality.0, whole-outer_causality.1)

pub returns-clause-delayed : goal.returns-clause-delayed
returns-clause-delayed c = (scheduled-delayed, whole-delayed.0, whole-delayed.1)

pub returns-clause-forged : goal.returns-clause-forged
returns-clause-forged c = (scheduled-forged, whole-forged.0, whole-forged.1)

pub returns-clause-halved : goal.returns-clause-halved
returns-clause-halved c = (scheduled-halved, whole-halved.0, whole-halved.1)

pub returns-clause-no_tick : goal.returns-clause-no_tick
returns-clause-no_tick c = no-tick

pub returns-clause-foreign_closers : goal.returns-clause-foreign_closers
returns-clause-foreign_closers c = (foreign-back, foreign-leave)

pub returns-clause-direct_call_text : goal.returns-clause-direct_call_text
returns-clause-direct_call_text c = text-direct_call

pub returns-clause-direct_call_report : goal.returns-clause-direct_call_report
returns-clause-direct_call_report c = report-direct_call

pub returns-clause-halved_report : goal.returns-clause-halved_report
returns-clause-halved_report c = report-halved
