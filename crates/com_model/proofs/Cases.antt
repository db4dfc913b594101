-- The worked cases, computed entry by entry.
use Rattle.std.proofs.Common.{arith}
use Rattle.std.specs.Fmt.{digits}
use Rattle.std.specs.Prelude.{◌≡◌, refl, Some, None}
use Rattle.com_model.specs.declared.counts.Ended.TheVariants as ended
use Rattle.com_model.specs.Rules.{next, legal}
use Rattle.com_model.specs.Ends.{ended_as, scheduled, text, report}
use Rattle.com_wire.specs.Fields.{number, guid, number_at, guid_at}
use Rattle.objref.specs.Grammar.{header, standard_body, strings}
use Rattle.objref.specs.Reading.{standard_at, strings_at, standard_ref, handler_ref, custom_ref, objref_of}
use Rattle.com_model.specs.Openers.{nested}
use Rattle.ndr_args.specs.Written.{written_arg, written_from}
use Rattle.orpc.specs.Headers.{this_text, that_text}
use Rattle.com_model.specs.Cases.{direct_call_text, direct_call_report, halved_report, foreign_back, foreign_leave, forged, halved, forged_1, forged_2, forged_3, forged_4, forged_5, forged_6, forged_7, forged_8, forged_9, forged_10, halved_1, halved_2, halved_3, halved_4, halved_5, halved_6, halved_7, halved_8, direct_call, pumped_words, into_the_host, callback, answer_first, younger_first, relayed, outer_causality, delayed, direct_call_1, direct_call_2, direct_call_3, direct_call_4, direct_call_5, direct_call_6, direct_call_7, direct_call_8, direct_call_9, direct_call_10, pumped_words_1, pumped_words_2, pumped_words_3, pumped_words_4, pumped_words_5, pumped_words_6, pumped_words_7, pumped_words_8, pumped_words_9, into_the_host_1, into_the_host_2, into_the_host_3, into_the_host_4, into_the_host_5, into_the_host_6, into_the_host_7, into_the_host_8, into_the_host_9, into_the_host_10, callback_1, callback_2, callback_3, callback_4, callback_5, callback_6, callback_7, callback_8, callback_9, callback_10, callback_11, callback_12, callback_13, callback_14, callback_15, callback_16, callback_17, callback_18, callback_19, callback_20, callback_21, answer_first_1, answer_first_2, answer_first_3, answer_first_4, answer_first_5, answer_first_6, answer_first_7, answer_first_8, answer_first_9, answer_first_10, answer_first_11, answer_first_12, answer_first_13, answer_first_14, answer_first_15, answer_first_16, answer_first_17, answer_first_18, answer_first_19, answer_first_20, answer_first_21, answer_first_22, younger_first_1, younger_first_2, younger_first_3, younger_first_4, younger_first_5, younger_first_6, younger_first_7, younger_first_8, younger_first_9, younger_first_10, younger_first_11, younger_first_12, younger_first_13, younger_first_14, younger_first_15, relayed_1, relayed_2, relayed_3, relayed_4, relayed_5, relayed_6, relayed_7, relayed_8, relayed_9, relayed_10, relayed_11, relayed_12, relayed_13, relayed_14, relayed_15, relayed_16, relayed_17, relayed_18, relayed_19, relayed_20, relayed_21, relayed_22, relayed_23, relayed_24, relayed_25, outer_causality_1, outer_causality_2, outer_causality_3, outer_causality_4, outer_causality_5, outer_causality_6, outer_causality_7, outer_causality_8, outer_causality_9, outer_causality_10, outer_causality_11, outer_causality_12, outer_causality_13, outer_causality_14, outer_causality_15, outer_causality_16, outer_causality_17, outer_causality_18, outer_causality_19, outer_causality_20, outer_causality_21, outer_causality_22, outer_causality_23, outer_causality_24, outer_causality_25, outer_causality_26, outer_causality_27, outer_causality_28, outer_causality_29, outer_causality_30, outer_causality_31, outer_causality_32, outer_causality_33, outer_causality_34, outer_causality_35, outer_causality_36, outer_causality_37, outer_causality_38, outer_causality_39, outer_causality_40, outer_causality_41, outer_causality_42, outer_causality_43, outer_causality_44, delayed_1, delayed_2, delayed_3, delayed_4, delayed_5, delayed_6, delayed_7, delayed_8, delayed_9, delayed_10, delayed_11, delayed_12, delayed_13, delayed_14, delayed_15, delayed_16, delayed_17, delayed_18, delayed_19, delayed_20, delayed_21, delayed_22, delayed_23, delayed_24, delayed_25, delayed_26, delayed_27, delayed_28}

legal-direct_call-1 : legal direct_call direct_call_1
unfolding number guid this_text that_text written_arg written_from header standard_body strings number_at guid_at standard_at strings_at standard_ref handler_ref custom_ref objref_of
legal-direct_call-1 = (tt, refl)

legal-direct_call-2 : legal direct_call direct_call_2
unfolding number guid this_text that_text written_arg written_from header standard_body strings number_at guid_at standard_at strings_at standard_ref handler_ref custom_ref objref_of
legal-direct_call-2 = (legal-direct_call-1, refl)

legal-direct_call-3 : legal direct_call direct_call_3
unfolding number guid this_text that_text written_arg written_from header standard_body strings number_at guid_at standard_at strings_at standard_ref handler_ref custom_ref objref_of
legal-direct_call-3 = (legal-direct_call-2, refl)

legal-direct_call-4 : legal direct_call direct_call_4
unfolding number guid this_text that_text written_arg written_from header standard_body strings number_at guid_at standard_at strings_at standard_ref handler_ref custom_ref objref_of
legal-direct_call-4 = (legal-direct_call-3, refl)

legal-direct_call-5 : legal direct_call direct_call_5
unfolding number guid this_text that_text written_arg written_from header standard_body strings number_at guid_at standard_at strings_at standard_ref handler_ref custom_ref objref_of
legal-direct_call-5 = (legal-direct_call-4, refl)

legal-direct_call-6 : legal direct_call direct_call_6
unfolding number guid this_text that_text written_arg written_from header standard_body strings number_at guid_at standard_at strings_at standard_ref handler_ref custom_ref objref_of
legal-direct_call-6 = (legal-direct_call-5, refl)

legal-direct_call-7 : legal direct_call direct_call_7
unfolding number guid this_text that_text written_arg written_from header standard_body strings number_at guid_at standard_at strings_at standard_ref handler_ref custom_ref objref_of
legal-direct_call-7 = (legal-direct_call-6, refl)

legal-direct_call-8 : legal direct_call direct_call_8
unfolding number guid this_text that_text written_arg written_from header standard_body strings number_at guid_at standard_at strings_at standard_ref handler_ref custom_ref objref_of
legal-direct_call-8 = (legal-direct_call-7, refl)

legal-direct_call-9 : legal direct_call direct_call_9
unfolding number guid this_text that_text written_arg written_from header standard_body strings number_at guid_at standard_at strings_at standard_ref handler_ref custom_ref objref_of
legal-direct_call-9 = (legal-direct_call-8, refl)

legal-direct_call-10 : legal direct_call direct_call_10
unfolding number guid this_text that_text written_arg written_from header standard_body strings number_at guid_at standard_at strings_at standard_ref handler_ref custom_ref objref_of
legal-direct_call-10 = (legal-direct_call-9, refl)

pub whole-direct_call : legal direct_call direct_call_10 × (ended_as direct_call direct_call_10 ≡ Some ended.Ok)
unfolding number guid this_text that_text written_arg written_from header standard_body strings number_at guid_at standard_at strings_at standard_ref handler_ref custom_ref objref_of
whole-direct_call = (legal-direct_call-10, refl)

pub scheduled-direct_call : scheduled direct_call ≡ direct_call_10
unfolding number guid this_text that_text written_arg written_from header standard_body strings number_at guid_at standard_at strings_at standard_ref handler_ref custom_ref objref_of
scheduled-direct_call = refl

legal-pumped_words-1 : legal pumped_words pumped_words_1
unfolding number guid this_text that_text written_arg written_from header standard_body strings number_at guid_at standard_at strings_at standard_ref handler_ref custom_ref objref_of
legal-pumped_words-1 = (tt, refl)

legal-pumped_words-2 : legal pumped_words pumped_words_2
unfolding number guid this_text that_text written_arg written_from header standard_body strings number_at guid_at standard_at strings_at standard_ref handler_ref custom_ref objref_of
legal-pumped_words-2 = (legal-pumped_words-1, refl)

legal-pumped_words-3 : legal pumped_words pumped_words_3
unfolding number guid this_text that_text written_arg written_from header standard_body strings number_at guid_at standard_at strings_at standard_ref handler_ref custom_ref objref_of
legal-pumped_words-3 = (legal-pumped_words-2, refl)

legal-pumped_words-4 : legal pumped_words pumped_words_4
unfolding number guid this_text that_text written_arg written_from header standard_body strings number_at guid_at standard_at strings_at standard_ref handler_ref custom_ref objref_of
legal-pumped_words-4 = (legal-pumped_words-3, refl)

legal-pumped_words-5 : legal pumped_words pumped_words_5
unfolding number guid this_text that_text written_arg written_from header standard_body strings number_at guid_at standard_at strings_at standard_ref handler_ref custom_ref objref_of
legal-pumped_words-5 = (legal-pumped_words-4, refl)

legal-pumped_words-6 : legal pumped_words pumped_words_6
unfolding number guid this_text that_text written_arg written_from header standard_body strings number_at guid_at standard_at strings_at standard_ref handler_ref custom_ref objref_of
legal-pumped_words-6 = (legal-pumped_words-5, refl)

legal-pumped_words-7 : legal pumped_words pumped_words_7
unfolding number guid this_text that_text written_arg written_from header standard_body strings number_at guid_at standard_at strings_at standard_ref handler_ref custom_ref objref_of
legal-pumped_words-7 = (legal-pumped_words-6, refl)

legal-pumped_words-8 : legal pumped_words pumped_words_8
unfolding number guid this_text that_text written_arg written_from header standard_body strings number_at guid_at standard_at strings_at standard_ref handler_ref custom_ref objref_of
legal-pumped_words-8 = (legal-pumped_words-7, refl)

legal-pumped_words-9 : legal pumped_words pumped_words_9
unfolding number guid this_text that_text written_arg written_from header standard_body strings number_at guid_at standard_at strings_at standard_ref handler_ref custom_ref objref_of
legal-pumped_words-9 = (legal-pumped_words-8, refl)

pub whole-pumped_words : legal pumped_words pumped_words_9 × (ended_as pumped_words pumped_words_9 ≡ Some ended.Ok)
unfolding number guid this_text that_text written_arg written_from header standard_body strings number_at guid_at standard_at strings_at standard_ref handler_ref custom_ref objref_of
whole-pumped_words = (legal-pumped_words-9, refl)

pub scheduled-pumped_words : scheduled pumped_words ≡ pumped_words_9
unfolding number guid this_text that_text written_arg written_from header standard_body strings number_at guid_at standard_at strings_at standard_ref handler_ref custom_ref objref_of
scheduled-pumped_words = refl

legal-into_the_host-1 : legal into_the_host into_the_host_1
unfolding number guid this_text that_text written_arg written_from header standard_body strings number_at guid_at standard_at strings_at standard_ref handler_ref custom_ref objref_of
legal-into_the_host-1 = (tt, refl)

legal-into_the_host-2 : legal into_the_host into_the_host_2
unfolding number guid this_text that_text written_arg written_from header standard_body strings number_at guid_at standard_at strings_at standard_ref handler_ref custom_ref objref_of
legal-into_the_host-2 = (legal-into_the_host-1, refl)

legal-into_the_host-3 : legal into_the_host into_the_host_3
unfolding number guid this_text that_text written_arg written_from header standard_body strings number_at guid_at standard_at strings_at standard_ref handler_ref custom_ref objref_of
legal-into_the_host-3 = (legal-into_the_host-2, refl)

legal-into_the_host-4 : legal into_the_host into_the_host_4
unfolding number guid this_text that_text written_arg written_from header standard_body strings number_at guid_at standard_at strings_at standard_ref handler_ref custom_ref objref_of
legal-into_the_host-4 = (legal-into_the_host-3, refl)

legal-into_the_host-5 : legal into_the_host into_the_host_5
unfolding number guid this_text that_text written_arg written_from header standard_body strings number_at guid_at standard_at strings_at standard_ref handler_ref custom_ref objref_of
legal-into_the_host-5 = (legal-into_the_host-4, refl)

legal-into_the_host-6 : legal into_the_host into_the_host_6
unfolding number guid this_text that_text written_arg written_from header standard_body strings number_at guid_at standard_at strings_at standard_ref handler_ref custom_ref objref_of
legal-into_the_host-6 = (legal-into_the_host-5, refl)

legal-into_the_host-7 : legal into_the_host into_the_host_7
unfolding number guid this_text that_text written_arg written_from header standard_body strings number_at guid_at standard_at strings_at standard_ref handler_ref custom_ref objref_of
legal-into_the_host-7 = (legal-into_the_host-6, refl)

legal-into_the_host-8 : legal into_the_host into_the_host_8
unfolding number guid this_text that_text written_arg written_from header standard_body strings number_at guid_at standard_at strings_at standard_ref handler_ref custom_ref objref_of
legal-into_the_host-8 = (legal-into_the_host-7, refl)

legal-into_the_host-9 : legal into_the_host into_the_host_9
unfolding number guid this_text that_text written_arg written_from header standard_body strings number_at guid_at standard_at strings_at standard_ref handler_ref custom_ref objref_of
legal-into_the_host-9 = (legal-into_the_host-8, refl)

legal-into_the_host-10 : legal into_the_host into_the_host_10
unfolding number guid this_text that_text written_arg written_from header standard_body strings number_at guid_at standard_at strings_at standard_ref handler_ref custom_ref objref_of
legal-into_the_host-10 = (legal-into_the_host-9, refl)

pub whole-into_the_host : legal into_the_host into_the_host_10 × (ended_as into_the_host into_the_host_10 ≡ Some ended.Ok)
unfolding number guid this_text that_text written_arg written_from header standard_body strings number_at guid_at standard_at strings_at standard_ref handler_ref custom_ref objref_of
whole-into_the_host = (legal-into_the_host-10, refl)

pub scheduled-into_the_host : scheduled into_the_host ≡ into_the_host_10
unfolding number guid this_text that_text written_arg written_from header standard_body strings number_at guid_at standard_at strings_at standard_ref handler_ref custom_ref objref_of
scheduled-into_the_host = refl

legal-callback-1 : legal callback callback_1
unfolding number guid this_text that_text written_arg written_from header standard_body strings number_at guid_at standard_at strings_at standard_ref handler_ref custom_ref objref_of
legal-callback-1 = (tt, refl)

legal-callback-2 : legal callback callback_2
unfolding number guid this_text that_text written_arg written_from header standard_body strings number_at guid_at standard_at strings_at standard_ref handler_ref custom_ref objref_of
legal-callback-2 = (legal-callback-1, refl)

legal-callback-3 : legal callback callback_3
unfolding number guid this_text that_text written_arg written_from header standard_body strings number_at guid_at standard_at strings_at standard_ref handler_ref custom_ref objref_of
legal-callback-3 = (legal-callback-2, refl)

legal-callback-4 : legal callback callback_4
unfolding number guid this_text that_text written_arg written_from header standard_body strings number_at guid_at standard_at strings_at standard_ref handler_ref custom_ref objref_of
legal-callback-4 = (legal-callback-3, refl)

legal-callback-5 : legal callback callback_5
unfolding number guid this_text that_text written_arg written_from header standard_body strings number_at guid_at standard_at strings_at standard_ref handler_ref custom_ref objref_of
legal-callback-5 = (legal-callback-4, refl)

legal-callback-6 : legal callback callback_6
unfolding number guid this_text that_text written_arg written_from header standard_body strings number_at guid_at standard_at strings_at standard_ref handler_ref custom_ref objref_of
legal-callback-6 = (legal-callback-5, refl)

legal-callback-7 : legal callback callback_7
unfolding number guid this_text that_text written_arg written_from header standard_body strings number_at guid_at standard_at strings_at standard_ref handler_ref custom_ref objref_of
legal-callback-7 = (legal-callback-6, refl)

legal-callback-8 : legal callback callback_8
unfolding number guid this_text that_text written_arg written_from header standard_body strings number_at guid_at standard_at strings_at standard_ref handler_ref custom_ref objref_of
legal-callback-8 = (legal-callback-7, refl)

legal-callback-9 : legal callback callback_9
unfolding number guid this_text that_text written_arg written_from header standard_body strings number_at guid_at standard_at strings_at standard_ref handler_ref custom_ref objref_of
legal-callback-9 = (legal-callback-8, refl)

legal-callback-10 : legal callback callback_10
unfolding number guid this_text that_text written_arg written_from header standard_body strings number_at guid_at standard_at strings_at standard_ref handler_ref custom_ref objref_of
legal-callback-10 = (legal-callback-9, refl)

legal-callback-11 : legal callback callback_11
unfolding number guid this_text that_text written_arg written_from header standard_body strings number_at guid_at standard_at strings_at standard_ref handler_ref custom_ref objref_of
legal-callback-11 = (legal-callback-10, refl)

legal-callback-12 : legal callback callback_12
unfolding number guid this_text that_text written_arg written_from header standard_body strings number_at guid_at standard_at strings_at standard_ref handler_ref custom_ref objref_of
legal-callback-12 = (legal-callback-11, refl)

legal-callback-13 : legal callback callback_13
unfolding number guid this_text that_text written_arg written_from header standard_body strings number_at guid_at standard_at strings_at standard_ref handler_ref custom_ref objref_of
legal-callback-13 = (legal-callback-12, refl)

legal-callback-14 : legal callback callback_14
unfolding number guid this_text that_text written_arg written_from header standard_body strings number_at guid_at standard_at strings_at standard_ref handler_ref custom_ref objref_of
legal-callback-14 = (legal-callback-13, refl)

legal-callback-15 : legal callback callback_15
unfolding number guid this_text that_text written_arg written_from header standard_body strings number_at guid_at standard_at strings_at standard_ref handler_ref custom_ref objref_of
legal-callback-15 = (legal-callback-14, refl)

legal-callback-16 : legal callback callback_16
unfolding number guid this_text that_text written_arg written_from header standard_body strings number_at guid_at standard_at strings_at standard_ref handler_ref custom_ref objref_of
legal-callback-16 = (legal-callback-15, refl)

legal-callback-17 : legal callback callback_17
unfolding number guid this_text that_text written_arg written_from header standard_body strings number_at guid_at standard_at strings_at standard_ref handler_ref custom_ref objref_of
legal-callback-17 = (legal-callback-16, refl)

legal-callback-18 : legal callback callback_18
unfolding number guid this_text that_text written_arg written_from header standard_body strings number_at guid_at standard_at strings_at standard_ref handler_ref custom_ref objref_of
legal-callback-18 = (legal-callback-17, refl)

legal-callback-19 : legal callback callback_19
unfolding number guid this_text that_text written_arg written_from header standard_body strings number_at guid_at standard_at strings_at standard_ref handler_ref custom_ref objref_of
legal-callback-19 = (legal-callback-18, refl)

legal-callback-20 : legal callback callback_20
unfolding number guid this_text that_text written_arg written_from header standard_body strings number_at guid_at standard_at strings_at standard_ref handler_ref custom_ref objref_of
legal-callback-20 = (legal-callback-19, refl)

legal-callback-21 : legal callback callback_21
unfolding number guid this_text that_text written_arg written_from header standard_body strings number_at guid_at standard_at strings_at standard_ref handler_ref custom_ref objref_of
legal-callback-21 = (legal-callback-20, refl)

pub whole-callback : legal callback callback_21 × (ended_as callback callback_21 ≡ Some ended.Ok)
unfolding number guid this_text that_text written_arg written_from header standard_body strings number_at guid_at standard_at strings_at standard_ref handler_ref custom_ref objref_of
whole-callback = (legal-callback-21, refl)

pub scheduled-callback : scheduled callback ≡ callback_21
unfolding number guid this_text that_text written_arg written_from header standard_body strings number_at guid_at standard_at strings_at standard_ref handler_ref custom_ref objref_of
scheduled-callback = refl

legal-answer_first-1 : legal answer_first answer_first_1
unfolding number guid this_text that_text written_arg written_from header standard_body strings number_at guid_at standard_at strings_at standard_ref handler_ref custom_ref objref_of
legal-answer_first-1 = (tt, refl)

legal-answer_first-2 : legal answer_first answer_first_2
unfolding number guid this_text that_text written_arg written_from header standard_body strings number_at guid_at standard_at strings_at standard_ref handler_ref custom_ref objref_of
legal-answer_first-2 = (legal-answer_first-1, refl)

legal-answer_first-3 : legal answer_first answer_first_3
unfolding number guid this_text that_text written_arg written_from header standard_body strings number_at guid_at standard_at strings_at standard_ref handler_ref custom_ref objref_of
legal-answer_first-3 = (legal-answer_first-2, refl)

legal-answer_first-4 : legal answer_first answer_first_4
unfolding number guid this_text that_text written_arg written_from header standard_body strings number_at guid_at standard_at strings_at standard_ref handler_ref custom_ref objref_of
legal-answer_first-4 = (legal-answer_first-3, refl)

legal-answer_first-5 : legal answer_first answer_first_5
unfolding number guid this_text that_text written_arg written_from header standard_body strings number_at guid_at standard_at strings_at standard_ref handler_ref custom_ref objref_of
legal-answer_first-5 = (legal-answer_first-4, refl)

legal-answer_first-6 : legal answer_first answer_first_6
unfolding number guid this_text that_text written_arg written_from header standard_body strings number_at guid_at standard_at strings_at standard_ref handler_ref custom_ref objref_of
legal-answer_first-6 = (legal-answer_first-5, refl)

legal-answer_first-7 : legal answer_first answer_first_7
unfolding number guid this_text that_text written_arg written_from header standard_body strings number_at guid_at standard_at strings_at standard_ref handler_ref custom_ref objref_of
legal-answer_first-7 = (legal-answer_first-6, refl)

legal-answer_first-8 : legal answer_first answer_first_8
unfolding number guid this_text that_text written_arg written_from header standard_body strings number_at guid_at standard_at strings_at standard_ref handler_ref custom_ref objref_of
legal-answer_first-8 = (legal-answer_first-7, refl)

legal-answer_first-9 : legal answer_first answer_first_9
unfolding number guid this_text that_text written_arg written_from header standard_body strings number_at guid_at standard_at strings_at standard_ref handler_ref custom_ref objref_of
legal-answer_first-9 = (legal-answer_first-8, refl)

legal-answer_first-10 : legal answer_first answer_first_10
unfolding number guid this_text that_text written_arg written_from header standard_body strings number_at guid_at standard_at strings_at standard_ref handler_ref custom_ref objref_of
legal-answer_first-10 = (legal-answer_first-9, refl)

legal-answer_first-11 : legal answer_first answer_first_11
unfolding number guid this_text that_text written_arg written_from header standard_body strings number_at guid_at standard_at strings_at standard_ref handler_ref custom_ref objref_of
legal-answer_first-11 = (legal-answer_first-10, refl)

legal-answer_first-12 : legal answer_first answer_first_12
unfolding number guid this_text that_text written_arg written_from header standard_body strings number_at guid_at standard_at strings_at standard_ref handler_ref custom_ref objref_of
legal-answer_first-12 = (legal-answer_first-11, refl)

legal-answer_first-13 : legal answer_first answer_first_13
unfolding number guid this_text that_text written_arg written_from header standard_body strings number_at guid_at standard_at strings_at standard_ref handler_ref custom_ref objref_of
legal-answer_first-13 = (legal-answer_first-12, refl)

legal-answer_first-14 : legal answer_first answer_first_14
unfolding number guid this_text that_text written_arg written_from header standard_body strings number_at guid_at standard_at strings_at standard_ref handler_ref custom_ref objref_of
legal-answer_first-14 = (legal-answer_first-13, refl)

legal-answer_first-15 : legal answer_first answer_first_15
unfolding number guid this_text that_text written_arg written_from header standard_body strings number_at guid_at standard_at strings_at standard_ref handler_ref custom_ref objref_of
legal-answer_first-15 = (legal-answer_first-14, refl)

legal-answer_first-16 : legal answer_first answer_first_16
unfolding number guid this_text that_text written_arg written_from header standard_body strings number_at guid_at standard_at strings_at standard_ref handler_ref custom_ref objref_of
legal-answer_first-16 = (legal-answer_first-15, refl)

legal-answer_first-17 : legal answer_first answer_first_17
unfolding number guid this_text that_text written_arg written_from header standard_body strings number_at guid_at standard_at strings_at standard_ref handler_ref custom_ref objref_of
legal-answer_first-17 = (legal-answer_first-16, refl)

legal-answer_first-18 : legal answer_first answer_first_18
unfolding number guid this_text that_text written_arg written_from header standard_body strings number_at guid_at standard_at strings_at standard_ref handler_ref custom_ref objref_of
legal-answer_first-18 = (legal-answer_first-17, refl)

legal-answer_first-19 : legal answer_first answer_first_19
unfolding number guid this_text that_text written_arg written_from header standard_body strings number_at guid_at standard_at strings_at standard_ref handler_ref custom_ref objref_of
legal-answer_first-19 = (legal-answer_first-18, refl)

legal-answer_first-20 : legal answer_first answer_first_20
unfolding number guid this_text that_text written_arg written_from header standard_body strings number_at guid_at standard_at strings_at standard_ref handler_ref custom_ref objref_of
legal-answer_first-20 = (legal-answer_first-19, refl)

legal-answer_first-21 : legal answer_first answer_first_21
unfolding number guid this_text that_text written_arg written_from header standard_body strings number_at guid_at standard_at strings_at standard_ref handler_ref custom_ref objref_of
legal-answer_first-21 = (legal-answer_first-20, refl)

legal-answer_first-22 : legal answer_first answer_first_22
unfolding number guid this_text that_text written_arg written_from header standard_body strings number_at guid_at standard_at strings_at standard_ref handler_ref custom_ref objref_of
legal-answer_first-22 = (legal-answer_first-21, refl)

pub whole-answer_first : legal answer_first answer_first_22 × (ended_as answer_first answer_first_22 ≡ Some ended.Ok)
unfolding number guid this_text that_text written_arg written_from header standard_body strings number_at guid_at standard_at strings_at standard_ref handler_ref custom_ref objref_of
whole-answer_first = (legal-answer_first-22, refl)

pub scheduled-answer_first : scheduled answer_first ≡ answer_first_22
unfolding number guid this_text that_text written_arg written_from header standard_body strings number_at guid_at standard_at strings_at standard_ref handler_ref custom_ref objref_of
scheduled-answer_first = refl

legal-younger_first-1 : legal younger_first younger_first_1
unfolding number guid this_text that_text written_arg written_from header standard_body strings number_at guid_at standard_at strings_at standard_ref handler_ref custom_ref objref_of
legal-younger_first-1 = (tt, refl)

legal-younger_first-2 : legal younger_first younger_first_2
unfolding number guid this_text that_text written_arg written_from header standard_body strings number_at guid_at standard_at strings_at standard_ref handler_ref custom_ref objref_of
legal-younger_first-2 = (legal-younger_first-1, refl)

legal-younger_first-3 : legal younger_first younger_first_3
unfolding number guid this_text that_text written_arg written_from header standard_body strings number_at guid_at standard_at strings_at standard_ref handler_ref custom_ref objref_of
legal-younger_first-3 = (legal-younger_first-2, refl)

legal-younger_first-4 : legal younger_first younger_first_4
unfolding number guid this_text that_text written_arg written_from header standard_body strings number_at guid_at standard_at strings_at standard_ref handler_ref custom_ref objref_of
legal-younger_first-4 = (legal-younger_first-3, refl)

legal-younger_first-5 : legal younger_first younger_first_5
unfolding number guid this_text that_text written_arg written_from header standard_body strings number_at guid_at standard_at strings_at standard_ref handler_ref custom_ref objref_of
legal-younger_first-5 = (legal-younger_first-4, refl)

legal-younger_first-6 : legal younger_first younger_first_6
unfolding number guid this_text that_text written_arg written_from header standard_body strings number_at guid_at standard_at strings_at standard_ref handler_ref custom_ref objref_of
legal-younger_first-6 = (legal-younger_first-5, refl)

legal-younger_first-7 : legal younger_first younger_first_7
unfolding number guid this_text that_text written_arg written_from header standard_body strings number_at guid_at standard_at strings_at standard_ref handler_ref custom_ref objref_of
legal-younger_first-7 = (legal-younger_first-6, refl)

legal-younger_first-8 : legal younger_first younger_first_8
unfolding number guid this_text that_text written_arg written_from header standard_body strings number_at guid_at standard_at strings_at standard_ref handler_ref custom_ref objref_of
legal-younger_first-8 = (legal-younger_first-7, refl)

legal-younger_first-9 : legal younger_first younger_first_9
unfolding number guid this_text that_text written_arg written_from header standard_body strings number_at guid_at standard_at strings_at standard_ref handler_ref custom_ref objref_of
legal-younger_first-9 = (legal-younger_first-8, refl)

legal-younger_first-10 : legal younger_first younger_first_10
unfolding number guid this_text that_text written_arg written_from header standard_body strings number_at guid_at standard_at strings_at standard_ref handler_ref custom_ref objref_of
legal-younger_first-10 = (legal-younger_first-9, refl)

legal-younger_first-11 : legal younger_first younger_first_11
unfolding number guid this_text that_text written_arg written_from header standard_body strings number_at guid_at standard_at strings_at standard_ref handler_ref custom_ref objref_of
legal-younger_first-11 = (legal-younger_first-10, refl)

legal-younger_first-12 : legal younger_first younger_first_12
unfolding number guid this_text that_text written_arg written_from header standard_body strings number_at guid_at standard_at strings_at standard_ref handler_ref custom_ref objref_of
legal-younger_first-12 = (legal-younger_first-11, refl)

legal-younger_first-13 : legal younger_first younger_first_13
unfolding number guid this_text that_text written_arg written_from header standard_body strings number_at guid_at standard_at strings_at standard_ref handler_ref custom_ref objref_of
legal-younger_first-13 = (legal-younger_first-12, refl)

legal-younger_first-14 : legal younger_first younger_first_14
unfolding number guid this_text that_text written_arg written_from header standard_body strings number_at guid_at standard_at strings_at standard_ref handler_ref custom_ref objref_of
legal-younger_first-14 = (legal-younger_first-13, refl)

legal-younger_first-15 : legal younger_first younger_first_15
unfolding number guid this_text that_text written_arg written_from header standard_body strings number_at guid_at standard_at strings_at standard_ref handler_ref custom_ref objref_of
legal-younger_first-15 = (legal-younger_first-14, refl)

pub whole-younger_first : legal younger_first younger_first_15 × (ended_as younger_first younger_first_15 ≡ Some ended.Ok)
unfolding number guid this_text that_text written_arg written_from header standard_body strings number_at guid_at standard_at strings_at standard_ref handler_ref custom_ref objref_of
whole-younger_first = (legal-younger_first-15, refl)

pub scheduled-younger_first : scheduled younger_first ≡ younger_first_15
unfolding number guid this_text that_text written_arg written_from header standard_body strings number_at guid_at standard_at strings_at standard_ref handler_ref custom_ref objref_of
scheduled-younger_first = refl

legal-relayed-1 : legal relayed relayed_1
unfolding number guid this_text that_text written_arg written_from header standard_body strings number_at guid_at standard_at strings_at standard_ref handler_ref custom_ref objref_of
legal-relayed-1 = (tt, refl)

legal-relayed-2 : legal relayed relayed_2
unfolding number guid this_text that_text written_arg written_from header standard_body strings number_at guid_at standard_at strings_at standard_ref handler_ref custom_ref objref_of
legal-relayed-2 = (legal-relayed-1, refl)

legal-relayed-3 : legal relayed relayed_3
unfolding number guid this_text that_text written_arg written_from header standard_body strings number_at guid_at standard_at strings_at standard_ref handler_ref custom_ref objref_of
legal-relayed-3 = (legal-relayed-2, refl)

legal-relayed-4 : legal relayed relayed_4
unfolding number guid this_text that_text written_arg written_from header standard_body strings number_at guid_at standard_at strings_at standard_ref handler_ref custom_ref objref_of
legal-relayed-4 = (legal-relayed-3, refl)

legal-relayed-5 : legal relayed relayed_5
unfolding number guid this_text that_text written_arg written_from header standard_body strings number_at guid_at standard_at strings_at standard_ref handler_ref custom_ref objref_of
legal-relayed-5 = (legal-relayed-4, refl)

legal-relayed-6 : legal relayed relayed_6
unfolding number guid this_text that_text written_arg written_from header standard_body strings number_at guid_at standard_at strings_at standard_ref handler_ref custom_ref objref_of
legal-relayed-6 = (legal-relayed-5, refl)

legal-relayed-7 : legal relayed relayed_7
unfolding number guid this_text that_text written_arg written_from header standard_body strings number_at guid_at standard_at strings_at standard_ref handler_ref custom_ref objref_of
legal-relayed-7 = (legal-relayed-6, refl)

legal-relayed-8 : legal relayed relayed_8
unfolding number guid this_text that_text written_arg written_from header standard_body strings number_at guid_at standard_at strings_at standard_ref handler_ref custom_ref objref_of
legal-relayed-8 = (legal-relayed-7, refl)

legal-relayed-9 : legal relayed relayed_9
unfolding number guid this_text that_text written_arg written_from header standard_body strings number_at guid_at standard_at strings_at standard_ref handler_ref custom_ref objref_of
legal-relayed-9 = (legal-relayed-8, refl)

legal-relayed-10 : legal relayed relayed_10
unfolding number guid this_text that_text written_arg written_from header standard_body strings number_at guid_at standard_at strings_at standard_ref handler_ref custom_ref objref_of
legal-relayed-10 = (legal-relayed-9, refl)

legal-relayed-11 : legal relayed relayed_11
unfolding number guid this_text that_text written_arg written_from header standard_body strings number_at guid_at standard_at strings_at standard_ref handler_ref custom_ref objref_of
legal-relayed-11 = (legal-relayed-10, refl)

legal-relayed-12 : legal relayed relayed_12
unfolding number guid this_text that_text written_arg written_from header standard_body strings number_at guid_at standard_at strings_at standard_ref handler_ref custom_ref objref_of
legal-relayed-12 = (legal-relayed-11, refl)

legal-relayed-13 : legal relayed relayed_13
unfolding number guid this_text that_text written_arg written_from header standard_body strings number_at guid_at standard_at strings_at standard_ref handler_ref custom_ref objref_of
legal-relayed-13 = (legal-relayed-12, refl)

legal-relayed-14 : legal relayed relayed_14
unfolding number guid this_text that_text written_arg written_from header standard_body strings number_at guid_at standard_at strings_at standard_ref handler_ref custom_ref objref_of
legal-relayed-14 = (legal-relayed-13, refl)

legal-relayed-15 : legal relayed relayed_15
unfolding number guid this_text that_text written_arg written_from header standard_body strings number_at guid_at standard_at strings_at standard_ref handler_ref custom_ref objref_of
legal-relayed-15 = (legal-relayed-14, refl)

legal-relayed-16 : legal relayed relayed_16
unfolding number guid this_text that_text written_arg written_from header standard_body strings number_at guid_at standard_at strings_at standard_ref handler_ref custom_ref objref_of
legal-relayed-16 = (legal-relayed-15, refl)

legal-relayed-17 : legal relayed relayed_17
unfolding number guid this_text that_text written_arg written_from header standard_body strings number_at guid_at standard_at strings_at standard_ref handler_ref custom_ref objref_of
legal-relayed-17 = (legal-relayed-16, refl)

legal-relayed-18 : legal relayed relayed_18
unfolding number guid this_text that_text written_arg written_from header standard_body strings number_at guid_at standard_at strings_at standard_ref handler_ref custom_ref objref_of
legal-relayed-18 = (legal-relayed-17, refl)

legal-relayed-19 : legal relayed relayed_19
unfolding number guid this_text that_text written_arg written_from header standard_body strings number_at guid_at standard_at strings_at standard_ref handler_ref custom_ref objref_of
legal-relayed-19 = (legal-relayed-18, refl)

legal-relayed-20 : legal relayed relayed_20
unfolding number guid this_text that_text written_arg written_from header standard_body strings number_at guid_at standard_at strings_at standard_ref handler_ref custom_ref objref_of
legal-relayed-20 = (legal-relayed-19, refl)

legal-relayed-21 : legal relayed relayed_21
unfolding number guid this_text that_text written_arg written_from header standard_body strings number_at guid_at standard_at strings_at standard_ref handler_ref custom_ref objref_of
legal-relayed-21 = (legal-relayed-20, refl)

legal-relayed-22 : legal relayed relayed_22
unfolding number guid this_text that_text written_arg written_from header standard_body strings number_at guid_at standard_at strings_at standard_ref handler_ref custom_ref objref_of
legal-relayed-22 = (legal-relayed-21, refl)

legal-relayed-23 : legal relayed relayed_23
unfolding number guid this_text that_text written_arg written_from header standard_body strings number_at guid_at standard_at strings_at standard_ref handler_ref custom_ref objref_of
legal-relayed-23 = (legal-relayed-22, refl)

legal-relayed-24 : legal relayed relayed_24
unfolding number guid this_text that_text written_arg written_from header standard_body strings number_at guid_at standard_at strings_at standard_ref handler_ref custom_ref objref_of
legal-relayed-24 = (legal-relayed-23, refl)

legal-relayed-25 : legal relayed relayed_25
unfolding number guid this_text that_text written_arg written_from header standard_body strings number_at guid_at standard_at strings_at standard_ref handler_ref custom_ref objref_of
legal-relayed-25 = (legal-relayed-24, refl)

pub whole-relayed : legal relayed relayed_25 × (ended_as relayed relayed_25 ≡ Some ended.Ok)
unfolding number guid this_text that_text written_arg written_from header standard_body strings number_at guid_at standard_at strings_at standard_ref handler_ref custom_ref objref_of
whole-relayed = (legal-relayed-25, refl)

pub scheduled-relayed : scheduled relayed ≡ relayed_25
unfolding number guid this_text that_text written_arg written_from header standard_body strings number_at guid_at standard_at strings_at standard_ref handler_ref custom_ref objref_of
scheduled-relayed = refl

legal-outer_causality-1 : legal outer_causality outer_causality_1
unfolding number guid this_text that_text written_arg written_from header standard_body strings number_at guid_at standard_at strings_at standard_ref handler_ref custom_ref objref_of
legal-outer_causality-1 = (tt, refl)

legal-outer_causality-2 : legal outer_causality outer_causality_2
unfolding number guid this_text that_text written_arg written_from header standard_body strings number_at guid_at standard_at strings_at standard_ref handler_ref custom_ref objref_of
legal-outer_causality-2 = (legal-outer_causality-1, refl)

legal-outer_causality-3 : legal outer_causality outer_causality_3
unfolding number guid this_text that_text written_arg written_from header standard_body strings number_at guid_at standard_at strings_at standard_ref handler_ref custom_ref objref_of
legal-outer_causality-3 = (legal-outer_causality-2, refl)

legal-outer_causality-4 : legal outer_causality outer_causality_4
unfolding number guid this_text that_text written_arg written_from header standard_body strings number_at guid_at standard_at strings_at standard_ref handler_ref custom_ref objref_of
legal-outer_causality-4 = (legal-outer_causality-3, refl)

legal-outer_causality-5 : legal outer_causality outer_causality_5
unfolding number guid this_text that_text written_arg written_from header standard_body strings number_at guid_at standard_at strings_at standard_ref handler_ref custom_ref objref_of
legal-outer_causality-5 = (legal-outer_causality-4, refl)

legal-outer_causality-6 : legal outer_causality outer_causality_6
unfolding number guid this_text that_text written_arg written_from header standard_body strings number_at guid_at standard_at strings_at standard_ref handler_ref custom_ref objref_of
legal-outer_causality-6 = (legal-outer_causality-5, refl)

legal-outer_causality-7 : legal outer_causality outer_causality_7
unfolding number guid this_text that_text written_arg written_from header standard_body strings number_at guid_at standard_at strings_at standard_ref handler_ref custom_ref objref_of
legal-outer_causality-7 = (legal-outer_causality-6, refl)

legal-outer_causality-8 : legal outer_causality outer_causality_8
unfolding number guid this_text that_text written_arg written_from header standard_body strings number_at guid_at standard_at strings_at standard_ref handler_ref custom_ref objref_of
legal-outer_causality-8 = (legal-outer_causality-7, refl)

legal-outer_causality-9 : legal outer_causality outer_causality_9
unfolding number guid this_text that_text written_arg written_from header standard_body strings number_at guid_at standard_at strings_at standard_ref handler_ref custom_ref objref_of
legal-outer_causality-9 = (legal-outer_causality-8, refl)

legal-outer_causality-10 : legal outer_causality outer_causality_10
unfolding number guid this_text that_text written_arg written_from header standard_body strings number_at guid_at standard_at strings_at standard_ref handler_ref custom_ref objref_of
legal-outer_causality-10 = (legal-outer_causality-9, refl)

legal-outer_causality-11 : legal outer_causality outer_causality_11
unfolding number guid this_text that_text written_arg written_from header standard_body strings number_at guid_at standard_at strings_at standard_ref handler_ref custom_ref objref_of
legal-outer_causality-11 = (legal-outer_causality-10, refl)

legal-outer_causality-12 : legal outer_causality outer_causality_12
unfolding number guid this_text that_text written_arg written_from header standard_body strings number_at guid_at standard_at strings_at standard_ref handler_ref custom_ref objref_of
legal-outer_causality-12 = (legal-outer_causality-11, refl)

legal-outer_causality-13 : legal outer_causality outer_causality_13
unfolding number guid this_text that_text written_arg written_from header standard_body strings number_at guid_at standard_at strings_at standard_ref handler_ref custom_ref objref_of
legal-outer_causality-13 = (legal-outer_causality-12, refl)

legal-outer_causality-14 : legal outer_causality outer_causality_14
unfolding number guid this_text that_text written_arg written_from header standard_body strings number_at guid_at standard_at strings_at standard_ref handler_ref custom_ref objref_of
legal-outer_causality-14 = (legal-outer_causality-13, refl)

legal-outer_causality-15 : legal outer_causality outer_causality_15
unfolding number guid this_text that_text written_arg written_from header standard_body strings number_at guid_at standard_at strings_at standard_ref handler_ref custom_ref objref_of
legal-outer_causality-15 = (legal-outer_causality-14, refl)

legal-outer_causality-16 : legal outer_causality outer_causality_16
unfolding number guid this_text that_text written_arg written_from header standard_body strings number_at guid_at standard_at strings_at standard_ref handler_ref custom_ref objref_of
legal-outer_causality-16 = (legal-outer_causality-15, refl)

legal-outer_causality-17 : legal outer_causality outer_causality_17
unfolding number guid this_text that_text written_arg written_from header standard_body strings number_at guid_at standard_at strings_at standard_ref handler_ref custom_ref objref_of
legal-outer_causality-17 = (legal-outer_causality-16, refl)

legal-outer_causality-18 : legal outer_causality outer_causality_18
unfolding number guid this_text that_text written_arg written_from header standard_body strings number_at guid_at standard_at strings_at standard_ref handler_ref custom_ref objref_of
legal-outer_causality-18 = (legal-outer_causality-17, refl)

legal-outer_causality-19 : legal outer_causality outer_causality_19
unfolding number guid this_text that_text written_arg written_from header standard_body strings number_at guid_at standard_at strings_at standard_ref handler_ref custom_ref objref_of
legal-outer_causality-19 = (legal-outer_causality-18, refl)

legal-outer_causality-20 : legal outer_causality outer_causality_20
unfolding number guid this_text that_text written_arg written_from header standard_body strings number_at guid_at standard_at strings_at standard_ref handler_ref custom_ref objref_of
legal-outer_causality-20 = (legal-outer_causality-19, refl)

legal-outer_causality-21 : legal outer_causality outer_causality_21
unfolding number guid this_text that_text written_arg written_from header standard_body strings number_at guid_at standard_at strings_at standard_ref handler_ref custom_ref objref_of
legal-outer_causality-21 = (legal-outer_causality-20, refl)

legal-outer_causality-22 : legal outer_causality outer_causality_22
unfolding number guid this_text that_text written_arg written_from header standard_body strings number_at guid_at standard_at strings_at standard_ref handler_ref custom_ref objref_of
legal-outer_causality-22 = (legal-outer_causality-21, refl)

legal-outer_causality-23 : legal outer_causality outer_causality_23
unfolding number guid this_text that_text written_arg written_from header standard_body strings number_at guid_at standard_at strings_at standard_ref handler_ref custom_ref objref_of
legal-outer_causality-23 = (legal-outer_causality-22, refl)

legal-outer_causality-24 : legal outer_causality outer_causality_24
unfolding number guid this_text that_text written_arg written_from header standard_body strings number_at guid_at standard_at strings_at standard_ref handler_ref custom_ref objref_of
legal-outer_causality-24 = (legal-outer_causality-23, refl)

legal-outer_causality-25 : legal outer_causality outer_causality_25
unfolding number guid this_text that_text written_arg written_from header standard_body strings number_at guid_at standard_at strings_at standard_ref handler_ref custom_ref objref_of
legal-outer_causality-25 = (legal-outer_causality-24, refl)

legal-outer_causality-26 : legal outer_causality outer_causality_26
unfolding number guid this_text that_text written_arg written_from header standard_body strings number_at guid_at standard_at strings_at standard_ref handler_ref custom_ref objref_of
legal-outer_causality-26 = (legal-outer_causality-25, refl)

legal-outer_causality-27 : legal outer_causality outer_causality_27
unfolding number guid this_text that_text written_arg written_from header standard_body strings number_at guid_at standard_at strings_at standard_ref handler_ref custom_ref objref_of
legal-outer_causality-27 = (legal-outer_causality-26, refl)

legal-outer_causality-28 : legal outer_causality outer_causality_28
unfolding number guid this_text that_text written_arg written_from header standard_body strings number_at guid_at standard_at strings_at standard_ref handler_ref custom_ref objref_of
legal-outer_causality-28 = (legal-outer_causality-27, refl)

legal-outer_causality-29 : legal outer_causality outer_causality_29
unfolding number guid this_text that_text written_arg written_from header standard_body strings number_at guid_at standard_at strings_at standard_ref handler_ref custom_ref objref_of
legal-outer_causality-29 = (legal-outer_causality-28, refl)

legal-outer_causality-30 : legal outer_causality outer_causality_30
unfolding number guid this_text that_text written_arg written_from header standard_body strings number_at guid_at standard_at strings_at standard_ref handler_ref custom_ref objref_of
legal-outer_causality-30 = (legal-outer_causality-29, refl)

legal-outer_causality-31 : legal outer_causality outer_causality_31
unfolding number guid this_text that_text written_arg written_from header standard_body strings number_at guid_at standard_at strings_at standard_ref handler_ref custom_ref objref_of
legal-outer_causality-31 = (legal-outer_causality-30, refl)

legal-outer_causality-32 : legal outer_causality outer_causality_32
unfolding number guid this_text that_text written_arg written_from header standard_body strings number_at guid_at standard_at strings_at standard_ref handler_ref custom_ref objref_of
legal-outer_causality-32 = (legal-outer_causality-31, refl)

legal-outer_causality-33 : legal outer_causality outer_causality_33
unfolding number guid this_text that_text written_arg written_from header standard_body strings number_at guid_at standard_at strings_at standard_ref handler_ref custom_ref objref_of
legal-outer_causality-33 = (legal-outer_causality-32, refl)

legal-outer_causality-34 : legal outer_causality outer_causality_34
unfolding number guid this_text that_text written_arg written_from header standard_body strings number_at guid_at standard_at strings_at standard_ref handler_ref custom_ref objref_of
legal-outer_causality-34 = (legal-outer_causality-33, refl)

legal-outer_causality-35 : legal outer_causality outer_causality_35
unfolding number guid this_text that_text written_arg written_from header standard_body strings number_at guid_at standard_at strings_at standard_ref handler_ref custom_ref objref_of
legal-outer_causality-35 = (legal-outer_causality-34, refl)

legal-outer_causality-36 : legal outer_causality outer_causality_36
unfolding number guid this_text that_text written_arg written_from header standard_body strings number_at guid_at standard_at strings_at standard_ref handler_ref custom_ref objref_of
legal-outer_causality-36 = (legal-outer_causality-35, refl)

legal-outer_causality-37 : legal outer_causality outer_causality_37
unfolding number guid this_text that_text written_arg written_from header standard_body strings number_at guid_at standard_at strings_at standard_ref handler_ref custom_ref objref_of
legal-outer_causality-37 = (legal-outer_causality-36, refl)

legal-outer_causality-38 : legal outer_causality outer_causality_38
unfolding number guid this_text that_text written_arg written_from header standard_body strings number_at guid_at standard_at strings_at standard_ref handler_ref custom_ref objref_of
legal-outer_causality-38 = (legal-outer_causality-37, refl)

legal-outer_causality-39 : legal outer_causality outer_causality_39
unfolding number guid this_text that_text written_arg written_from header standard_body strings number_at guid_at standard_at strings_at standard_ref handler_ref custom_ref objref_of
legal-outer_causality-39 = (legal-outer_causality-38, refl)

legal-outer_causality-40 : legal outer_causality outer_causality_40
unfolding number guid this_text that_text written_arg written_from header standard_body strings number_at guid_at standard_at strings_at standard_ref handler_ref custom_ref objref_of
legal-outer_causality-40 = (legal-outer_causality-39, refl)

legal-outer_causality-41 : legal outer_causality outer_causality_41
unfolding number guid this_text that_text written_arg written_from header standard_body strings number_at guid_at standard_at strings_at standard_ref handler_ref custom_ref objref_of
legal-outer_causality-41 = (legal-outer_causality-40, refl)

legal-outer_causality-42 : legal outer_causality outer_causality_42
unfolding number guid this_text that_text written_arg written_from header standard_body strings number_at guid_at standard_at strings_at standard_ref handler_ref custom_ref objref_of
legal-outer_causality-42 = (legal-outer_causality-41, refl)

legal-outer_causality-43 : legal outer_causality outer_causality_43
unfolding number guid this_text that_text written_arg written_from header standard_body strings number_at guid_at standard_at strings_at standard_ref handler_ref custom_ref objref_of
legal-outer_causality-43 = (legal-outer_causality-42, refl)

legal-outer_causality-44 : legal outer_causality outer_causality_44
unfolding number guid this_text that_text written_arg written_from header standard_body strings number_at guid_at standard_at strings_at standard_ref handler_ref custom_ref objref_of
legal-outer_causality-44 = (legal-outer_causality-43, refl)

pub whole-outer_causality : legal outer_causality outer_causality_44 × (ended_as outer_causality outer_causality_44 ≡ Some ended.Ok)
unfolding number guid this_text that_text written_arg written_from header standard_body strings number_at guid_at standard_at strings_at standard_ref handler_ref custom_ref objref_of
whole-outer_causality = (legal-outer_causality-44, refl)

pub scheduled-outer_causality : scheduled outer_causality ≡ outer_causality_44
unfolding number guid this_text that_text written_arg written_from header standard_body strings number_at guid_at standard_at strings_at standard_ref handler_ref custom_ref objref_of
scheduled-outer_causality = refl

legal-delayed-1 : legal delayed delayed_1
unfolding number guid this_text that_text written_arg written_from header standard_body strings number_at guid_at standard_at strings_at standard_ref handler_ref custom_ref objref_of
legal-delayed-1 = (tt, refl)

legal-delayed-2 : legal delayed delayed_2
unfolding number guid this_text that_text written_arg written_from header standard_body strings number_at guid_at standard_at strings_at standard_ref handler_ref custom_ref objref_of
legal-delayed-2 = (legal-delayed-1, refl)

legal-delayed-3 : legal delayed delayed_3
unfolding number guid this_text that_text written_arg written_from header standard_body strings number_at guid_at standard_at strings_at standard_ref handler_ref custom_ref objref_of
legal-delayed-3 = (legal-delayed-2, refl)

legal-delayed-4 : legal delayed delayed_4
unfolding number guid this_text that_text written_arg written_from header standard_body strings number_at guid_at standard_at strings_at standard_ref handler_ref custom_ref objref_of
legal-delayed-4 = (legal-delayed-3, refl)

legal-delayed-5 : legal delayed delayed_5
unfolding number guid this_text that_text written_arg written_from header standard_body strings number_at guid_at standard_at strings_at standard_ref handler_ref custom_ref objref_of
legal-delayed-5 = (legal-delayed-4, refl)

legal-delayed-6 : legal delayed delayed_6
unfolding number guid this_text that_text written_arg written_from header standard_body strings number_at guid_at standard_at strings_at standard_ref handler_ref custom_ref objref_of
legal-delayed-6 = (legal-delayed-5, refl)

legal-delayed-7 : legal delayed delayed_7
unfolding number guid this_text that_text written_arg written_from header standard_body strings number_at guid_at standard_at strings_at standard_ref handler_ref custom_ref objref_of
legal-delayed-7 = (legal-delayed-6, refl)

legal-delayed-8 : legal delayed delayed_8
unfolding number guid this_text that_text written_arg written_from header standard_body strings number_at guid_at standard_at strings_at standard_ref handler_ref custom_ref objref_of
legal-delayed-8 = (legal-delayed-7, refl)

legal-delayed-9 : legal delayed delayed_9
unfolding number guid this_text that_text written_arg written_from header standard_body strings number_at guid_at standard_at strings_at standard_ref handler_ref custom_ref objref_of
legal-delayed-9 = (legal-delayed-8, refl)

legal-delayed-10 : legal delayed delayed_10
unfolding number guid this_text that_text written_arg written_from header standard_body strings number_at guid_at standard_at strings_at standard_ref handler_ref custom_ref objref_of
legal-delayed-10 = (legal-delayed-9, refl)

legal-delayed-11 : legal delayed delayed_11
unfolding number guid this_text that_text written_arg written_from header standard_body strings number_at guid_at standard_at strings_at standard_ref handler_ref custom_ref objref_of
legal-delayed-11 = (legal-delayed-10, refl)

legal-delayed-12 : legal delayed delayed_12
unfolding number guid this_text that_text written_arg written_from header standard_body strings number_at guid_at standard_at strings_at standard_ref handler_ref custom_ref objref_of
legal-delayed-12 = (legal-delayed-11, refl)

legal-delayed-13 : legal delayed delayed_13
unfolding number guid this_text that_text written_arg written_from header standard_body strings number_at guid_at standard_at strings_at standard_ref handler_ref custom_ref objref_of
legal-delayed-13 = (legal-delayed-12, refl)

legal-delayed-14 : legal delayed delayed_14
unfolding number guid this_text that_text written_arg written_from header standard_body strings number_at guid_at standard_at strings_at standard_ref handler_ref custom_ref objref_of
legal-delayed-14 = (legal-delayed-13, refl)

legal-delayed-15 : legal delayed delayed_15
unfolding number guid this_text that_text written_arg written_from header standard_body strings number_at guid_at standard_at strings_at standard_ref handler_ref custom_ref objref_of
legal-delayed-15 = (legal-delayed-14, refl)

legal-delayed-16 : legal delayed delayed_16
unfolding number guid this_text that_text written_arg written_from header standard_body strings number_at guid_at standard_at strings_at standard_ref handler_ref custom_ref objref_of
legal-delayed-16 = (legal-delayed-15, refl)

legal-delayed-17 : legal delayed delayed_17
unfolding number guid this_text that_text written_arg written_from header standard_body strings number_at guid_at standard_at strings_at standard_ref handler_ref custom_ref objref_of
legal-delayed-17 = (legal-delayed-16, refl)

legal-delayed-18 : legal delayed delayed_18
unfolding number guid this_text that_text written_arg written_from header standard_body strings number_at guid_at standard_at strings_at standard_ref handler_ref custom_ref objref_of
legal-delayed-18 = (legal-delayed-17, refl)

legal-delayed-19 : legal delayed delayed_19
unfolding number guid this_text that_text written_arg written_from header standard_body strings number_at guid_at standard_at strings_at standard_ref handler_ref custom_ref objref_of
legal-delayed-19 = (legal-delayed-18, refl)

legal-delayed-20 : legal delayed delayed_20
unfolding number guid this_text that_text written_arg written_from header standard_body strings number_at guid_at standard_at strings_at standard_ref handler_ref custom_ref objref_of
legal-delayed-20 = (legal-delayed-19, refl)

legal-delayed-21 : legal delayed delayed_21
unfolding number guid this_text that_text written_arg written_from header standard_body strings number_at guid_at standard_at strings_at standard_ref handler_ref custom_ref objref_of
legal-delayed-21 = (legal-delayed-20, refl)

legal-delayed-22 : legal delayed delayed_22
unfolding number guid this_text that_text written_arg written_from header standard_body strings number_at guid_at standard_at strings_at standard_ref handler_ref custom_ref objref_of
legal-delayed-22 = (legal-delayed-21, refl)

legal-delayed-23 : legal delayed delayed_23
unfolding number guid this_text that_text written_arg written_from header standard_body strings number_at guid_at standard_at strings_at standard_ref handler_ref custom_ref objref_of
legal-delayed-23 = (legal-delayed-22, refl)

legal-delayed-24 : legal delayed delayed_24
unfolding number guid this_text that_text written_arg written_from header standard_body strings number_at guid_at standard_at strings_at standard_ref handler_ref custom_ref objref_of
legal-delayed-24 = (legal-delayed-23, refl)

legal-delayed-25 : legal delayed delayed_25
unfolding number guid this_text that_text written_arg written_from header standard_body strings number_at guid_at standard_at strings_at standard_ref handler_ref custom_ref objref_of
legal-delayed-25 = (legal-delayed-24, refl)

legal-delayed-26 : legal delayed delayed_26
unfolding number guid this_text that_text written_arg written_from header standard_body strings number_at guid_at standard_at strings_at standard_ref handler_ref custom_ref objref_of
legal-delayed-26 = (legal-delayed-25, refl)

legal-delayed-27 : legal delayed delayed_27
unfolding number guid this_text that_text written_arg written_from header standard_body strings number_at guid_at standard_at strings_at standard_ref handler_ref custom_ref objref_of
legal-delayed-27 = (legal-delayed-26, refl)

legal-delayed-28 : legal delayed delayed_28
unfolding number guid this_text that_text written_arg written_from header standard_body strings number_at guid_at standard_at strings_at standard_ref handler_ref custom_ref objref_of
legal-delayed-28 = (legal-delayed-27, refl)

pub whole-delayed : legal delayed delayed_28 × (ended_as delayed delayed_28 ≡ Some ended.Ok)
unfolding number guid this_text that_text written_arg written_from header standard_body strings number_at guid_at standard_at strings_at standard_ref handler_ref custom_ref objref_of
whole-delayed = (legal-delayed-28, refl)

pub scheduled-delayed : scheduled delayed ≡ delayed_28
unfolding number guid this_text that_text written_arg written_from header standard_body strings number_at guid_at standard_at strings_at standard_ref handler_ref custom_ref objref_of
scheduled-delayed = refl

legal-forged-1 : legal forged forged_1
unfolding number guid this_text that_text written_arg written_from header standard_body strings number_at guid_at standard_at strings_at standard_ref handler_ref custom_ref objref_of
legal-forged-1 = (tt, refl)

legal-forged-2 : legal forged forged_2
unfolding number guid this_text that_text written_arg written_from header standard_body strings number_at guid_at standard_at strings_at standard_ref handler_ref custom_ref objref_of
legal-forged-2 = (legal-forged-1, refl)

legal-forged-3 : legal forged forged_3
unfolding number guid this_text that_text written_arg written_from header standard_body strings number_at guid_at standard_at strings_at standard_ref handler_ref custom_ref objref_of
legal-forged-3 = (legal-forged-2, refl)

legal-forged-4 : legal forged forged_4
unfolding number guid this_text that_text written_arg written_from header standard_body strings number_at guid_at standard_at strings_at standard_ref handler_ref custom_ref objref_of
legal-forged-4 = (legal-forged-3, refl)

legal-forged-5 : legal forged forged_5
unfolding number guid this_text that_text written_arg written_from header standard_body strings number_at guid_at standard_at strings_at standard_ref handler_ref custom_ref objref_of
legal-forged-5 = (legal-forged-4, refl)

legal-forged-6 : legal forged forged_6
unfolding number guid this_text that_text written_arg written_from header standard_body strings number_at guid_at standard_at strings_at standard_ref handler_ref custom_ref objref_of
legal-forged-6 = (legal-forged-5, refl)

legal-forged-7 : legal forged forged_7
unfolding number guid this_text that_text written_arg written_from header standard_body strings number_at guid_at standard_at strings_at standard_ref handler_ref custom_ref objref_of
legal-forged-7 = (legal-forged-6, refl)

legal-forged-8 : legal forged forged_8
unfolding number guid this_text that_text written_arg written_from header standard_body strings number_at guid_at standard_at strings_at standard_ref handler_ref custom_ref objref_of
legal-forged-8 = (legal-forged-7, refl)

legal-forged-9 : legal forged forged_9
unfolding number guid this_text that_text written_arg written_from header standard_body strings number_at guid_at standard_at strings_at standard_ref handler_ref custom_ref objref_of
legal-forged-9 = (legal-forged-8, refl)

legal-forged-10 : legal forged forged_10
unfolding number guid this_text that_text written_arg written_from header standard_body strings number_at guid_at standard_at strings_at standard_ref handler_ref custom_ref objref_of
legal-forged-10 = (legal-forged-9, refl)

pub whole-forged : legal forged forged_10 × (ended_as forged forged_10 ≡ Some ended.Ok)
unfolding number guid this_text that_text written_arg written_from header standard_body strings number_at guid_at standard_at strings_at standard_ref handler_ref custom_ref objref_of
whole-forged = (legal-forged-10, refl)

pub scheduled-forged : scheduled forged ≡ forged_10
unfolding number guid this_text that_text written_arg written_from header standard_body strings number_at guid_at standard_at strings_at standard_ref handler_ref custom_ref objref_of
scheduled-forged = refl

legal-halved-1 : legal halved halved_1
unfolding number guid this_text that_text written_arg written_from header standard_body strings number_at guid_at standard_at strings_at standard_ref handler_ref custom_ref objref_of
legal-halved-1 = (tt, refl)

legal-halved-2 : legal halved halved_2
unfolding number guid this_text that_text written_arg written_from header standard_body strings number_at guid_at standard_at strings_at standard_ref handler_ref custom_ref objref_of
legal-halved-2 = (legal-halved-1, refl)

legal-halved-3 : legal halved halved_3
unfolding number guid this_text that_text written_arg written_from header standard_body strings number_at guid_at standard_at strings_at standard_ref handler_ref custom_ref objref_of
legal-halved-3 = (legal-halved-2, refl)

legal-halved-4 : legal halved halved_4
unfolding number guid this_text that_text written_arg written_from header standard_body strings number_at guid_at standard_at strings_at standard_ref handler_ref custom_ref objref_of
legal-halved-4 = (legal-halved-3, refl)

legal-halved-5 : legal halved halved_5
unfolding number guid this_text that_text written_arg written_from header standard_body strings number_at guid_at standard_at strings_at standard_ref handler_ref custom_ref objref_of
legal-halved-5 = (legal-halved-4, refl)

legal-halved-6 : legal halved halved_6
unfolding number guid this_text that_text written_arg written_from header standard_body strings number_at guid_at standard_at strings_at standard_ref handler_ref custom_ref objref_of
legal-halved-6 = (legal-halved-5, refl)

legal-halved-7 : legal halved halved_7
unfolding number guid this_text that_text written_arg written_from header standard_body strings number_at guid_at standard_at strings_at standard_ref handler_ref custom_ref objref_of
legal-halved-7 = (legal-halved-6, refl)

legal-halved-8 : legal halved halved_8
unfolding number guid this_text that_text written_arg written_from header standard_body strings number_at guid_at standard_at strings_at standard_ref handler_ref custom_ref objref_of
legal-halved-8 = (legal-halved-7, refl)

pub whole-halved : legal halved halved_8 × (ended_as halved halved_8 ≡ Some ended.Ok)
unfolding number guid this_text that_text written_arg written_from header standard_body strings number_at guid_at standard_at strings_at standard_ref handler_ref custom_ref objref_of
whole-halved = (legal-halved-8, refl)

pub scheduled-halved : scheduled halved ≡ halved_8
unfolding number guid this_text that_text written_arg written_from header standard_body strings number_at guid_at standard_at strings_at standard_ref handler_ref custom_ref objref_of
scheduled-halved = refl

-- A lane can still step, so no Tick is due although a call waits for a time.
pub no-tick : next delayed delayed_12 0 ≡ None
unfolding number guid this_text that_text written_arg written_from header standard_body strings number_at guid_at standard_at strings_at standard_ref handler_ref custom_ref objref_of
no-tick = refl

-- A closer of another call closes nothing.
pub foreign-back : nested foreign_back 1 → ⊥
foreign-back n = let e : 2 ≡ 1 = n.1 in omega (arith, e)

pub foreign-leave : nested foreign_leave 1 → ⊥
foreign-leave n = let e : 2 ≡ 1 = n.1 in omega (arith, e)

pub text-direct_call : text direct_call direct_call_10 ≡ direct_call_text
unfolding number guid this_text that_text written_arg written_from header standard_body strings number_at guid_at standard_at strings_at standard_ref handler_ref custom_ref objref_of digits
text-direct_call = refl

pub report-direct_call : report direct_call direct_call_10 ≡ direct_call_report
unfolding number guid this_text that_text written_arg written_from header standard_body strings number_at guid_at standard_at strings_at standard_ref handler_ref custom_ref objref_of digits
report-direct_call = refl

pub report-halved : report halved halved_8 ≡ halved_report
unfolding number guid this_text that_text written_arg written_from header standard_body strings number_at guid_at standard_at strings_at standard_ref handler_ref custom_ref objref_of digits
report-halved = refl
