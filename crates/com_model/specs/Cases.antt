-- Small worked cases: scenarios and their histories, a name for each prefix.
use Rattle.std.specs.Prelude.{ℕ, List, [], ◌∷◌, ◌++◌, Some, None, pos, codes}
use Rattle.com_base.specs.declared.value.Value.TheVariants as value
use Rattle.com_base.specs.declared.value.MarshalMode.TheVariants as marshal
use Rattle.com_base.specs.declared.value.Mode.TheVariants as mode
use Rattle.com_body.specs.declared.operands.Asked.TheVariants as asked
use Rattle.com_body.specs.declared.operands.Op.TheVariants as op
use Rattle.com_body.specs.declared.operands.Place.TheVariants as place
use Rattle.com_body.specs.declared.operands.Arg.TheVariants as arg
use Rattle.com_body.specs.declared.operands.Destination.TheVariants as destination
use Rattle.com_body.specs.declared.statements.Stmt.TheVariants as stmt
use Rattle.com_body.specs.declared.frame.Native.TheVariants as native
use Rattle.com_classes.specs.declared.classes.ThreadingModel.TheVariants as model
use Rattle.com_filter.specs.declared.Verdict.TheVariants as verdict
use Rattle.com_filter.specs.declared.Rule.TheVariants as rule
use Rattle.com_model.specs.Answers.{CO_E_OBJNOTCONNECTED}
use Rattle.com_model.specs.declared.deeds.Deed.TheVariants as deed
use Rattle.com_model.specs.declared.deeds.Route.TheVariants as route
use Rattle.com_model.specs.declared.deeds.Entry.{Entry}
use Rattle.com_model.specs.declared.scenario.Scenario.{Scenario}
use Rattle.com_classes.specs.BuiltIns.{built_in_interfaces}

-- A direct call in one STA.
abbrev pub direct_call : Scenario
direct_call = record {
  version = 1;
  pool = 1;
  classes = record {
    interfaces = built_in_interfaces;
    classes = (record {
      name = codes "Cnt";
      clsid = record {
        data1 = 1544224961;
        data2 = 0;
        data3 = 16384;
        data4 = 128 ∷ 0 ∷ 0 ∷ 0 ∷ 0 ∷ 0 ∷ 0 ∷ 1 ∷ [];
      };
      model = model.Both;
      native = native.Counter;
      interfaces = 1 ∷ [];
      bodies = [];
    }) ∷ [];
  };
  filters = [];
  threads =
      ((stmt.Init mode.Sta) ∷ (stmt.Create 0 (asked.Number 1) (asked.Number 1))
      ∷ (stmt.Call 0 1 0 ((arg.Op (op.Literal (value.Int (pos 5)))) ∷ []) (destination.Register 1))
      ∷ (stmt.Release (place.Slot 0)) ∷ stmt.Uninit ∷ []) ∷ [];
  picks = [];
}

-- Up to the Init: lane 1 has made its STA, a3.
abbrev pub direct_call_1 : List Entry
direct_call_1 = record { lane = 1; deed = deed.Init mode.Sta 3 (record { 0 = 0 }) } ∷ []

-- Up to the Made: slot 0 of the script holds object 1, a counter that a3 owns.
abbrev pub direct_call_2 : List Entry
direct_call_2 =
    record {
      lane = 1;
      deed = deed.Made (Some 1) (Some 3) (asked.Number 1) (asked.Number 1) (record { 0 = 0 });
    }
    ∷ direct_call_1

-- Up to the Out: call 1 is issued on the route direct, with causality 1, and not entered yet.
abbrev pub direct_call_3 : List Entry
direct_call_3 = record { lane = 1; deed = deed.Out 1 (Some 1) 1 0 route.Direct 1 None } ∷ direct_call_2

abbrev pub direct_call_4 : List Entry
direct_call_4 = record { lane = 1; deed = deed.Enter 1 1 3 None ((value.Int (pos 5)) ∷ []) } ∷ direct_call_3

abbrev pub direct_call_5 : List Entry
direct_call_5 =
    record { lane = 1; deed = deed.Leave 1 (record { 0 = 0 }) (Some (value.Int (pos 5))) None }
    ∷ direct_call_4

-- Up to the Back: call 1 gave 5, nothing is open, and the script still holds object 1.
abbrev pub direct_call_6 : List Entry
direct_call_6 =
    record { lane = 1; deed = deed.Back 1 (record { 0 = 0 }) (Some (value.Int (pos 5))) } ∷ direct_call_5

abbrev pub direct_call_7 : List Entry
direct_call_7 =
    record { lane = 1; deed = deed.Release (Some (record { object = 1; iface = 1 })) } ∷ direct_call_6

abbrev pub direct_call_8 : List Entry
direct_call_8 = record { lane = 1; deed = deed.Final 1 } ∷ direct_call_7

abbrev pub direct_call_9 : List Entry
direct_call_9 = record { lane = 1; deed = deed.Uninit (Some 3) 0 } ∷ direct_call_8

-- The whole history: the reference is released, object 1 has its Final, a3 has ended and lane 1 is over.
abbrev pub direct_call_10 : List Entry
direct_call_10 = record { lane = 1; deed = deed.End } ∷ direct_call_9

-- A pump takes a word, and ends by a quit.
abbrev pub pumped_words : Scenario
pumped_words = record {
  version = 1;
  pool = 1;
  classes = record { interfaces = built_in_interfaces; classes = [] };
  filters = [];
  threads =
      ((stmt.Init mode.Sta) ∷ (stmt.Pump 0) ∷ [])
      ∷ ((stmt.Post (op.Literal (value.Int (pos 1))) (op.Literal (value.Int (pos 7))))
      ∷ (stmt.Quit (op.Literal (value.Int (pos 1)))) ∷ []) ∷ [];
  picks = [];
}

abbrev pub pumped_words_1 : List Entry
pumped_words_1 = record { lane = 1; deed = deed.Init mode.Sta 3 (record { 0 = 0 }) } ∷ []

abbrev pub pumped_words_2 : List Entry
pumped_words_2 = record { lane = 2; deed = deed.Post (pos 1) (pos 7) (record { 0 = 0 }) } ∷ pumped_words_1

-- Up to the Pump: lane 1 pumps without bound, and the word 7 that lane 2 posted waits for it.
abbrev pub pumped_words_3 : List Entry
pumped_words_3 = record { lane = 1; deed = deed.Pump 0 } ∷ pumped_words_2

abbrev pub pumped_words_4 : List Entry
pumped_words_4 = record { lane = 2; deed = deed.Quit (pos 1) (record { 0 = 0 }) } ∷ pumped_words_3

abbrev pub pumped_words_5 : List Entry
pumped_words_5 = record { lane = 1; deed = deed.Word (pos 7) } ∷ pumped_words_4

abbrev pub pumped_words_6 : List Entry
pumped_words_6 = record { lane = 2; deed = deed.End } ∷ pumped_words_5

abbrev pub pumped_words_7 : List Entry
pumped_words_7 = record { lane = 1; deed = deed.EndPump } ∷ pumped_words_6

abbrev pub pumped_words_8 : List Entry
pumped_words_8 = record { lane = 1; deed = deed.Uninit (Some 3) 0 } ∷ pumped_words_7

abbrev pub pumped_words_9 : List Entry
pumped_words_9 = record { lane = 1; deed = deed.End } ∷ pumped_words_8

-- A call from the MTA into the host STA.
abbrev pub into_the_host : Scenario
into_the_host = record {
  version = 1;
  pool = 1;
  classes = record {
    interfaces = built_in_interfaces;
    classes = (record {
      name = codes "Cnt";
      clsid = record {
        data1 = 1544224961;
        data2 = 0;
        data3 = 16384;
        data4 = 128 ∷ 0 ∷ 0 ∷ 0 ∷ 0 ∷ 0 ∷ 0 ∷ 1 ∷ [];
      };
      model = model.Apartment;
      native = native.Counter;
      interfaces = 1 ∷ [];
      bodies = [];
    }) ∷ [];
  };
  filters = [];
  threads =
      ((stmt.Init mode.Mta) ∷ (stmt.Create 0 (asked.Number 1) (asked.Number 1))
      ∷ (stmt.Call 0 1 0 ((arg.Op (op.Literal (value.Int (pos 7)))) ∷ []) (destination.Register 1))
      ∷ (stmt.Release (place.Slot 0)) ∷ []) ∷ [];
  picks = [];
}

abbrev pub into_the_host_1 : List Entry
into_the_host_1 = record { lane = 1; deed = deed.Init mode.Mta 1 (record { 0 = 0 }) } ∷ []

abbrev pub into_the_host_2 : List Entry
into_the_host_2 =
    record {
      lane = 1;
      deed = deed.Made (Some 1) (Some 2) (asked.Number 1) (asked.Number 1) (record { 0 = 0 });
    }
    ∷ into_the_host_1

-- Up to the Out: call 1 waits in the inbox of the host STA, sent from the MTA with the bytes of its request.
abbrev pub into_the_host_3 : List Entry
into_the_host_3 =
    record {
      lane = 1;
      deed = deed.Out 1 (Some 1) 1 0 route.Post 1
          (Some (5 ∷ 0 ∷ 7 ∷ 0 ∷ 0 ∷ 0 ∷ 0 ∷ 0 ∷ 0 ∷ 0 ∷ 0 ∷ 0 ∷ 1 ∷ 0 ∷ 0 ∷ 0 ∷ 0 ∷ 0 ∷ 0 ∷ 0 ∷ 0 ∷ 0 ∷ 0 ∷ 0
          ∷ 0 ∷ 0 ∷ 0 ∷ 0 ∷ 0 ∷ 0 ∷ 0 ∷ 0 ∷ 7 ∷ 0 ∷ 0 ∷ 0 ∷ 0 ∷ 0 ∷ 0 ∷ 0 ∷ []));
    } ∷ into_the_host_2

abbrev pub into_the_host_4 : List Entry
into_the_host_4 =
    record { lane = 2; deed = deed.Enter 1 1 2 (Some 1) ((value.Int (pos 7)) ∷ []) } ∷ into_the_host_3

abbrev pub into_the_host_5 : List Entry
into_the_host_5 =
    record {
      lane = 2;
      deed = deed.Leave 1 (record { 0 = 0 }) (Some (value.Int (pos 7)))
          (Some (0 ∷ 0 ∷ 0 ∷ 0 ∷ 0 ∷ 0 ∷ 0 ∷ 0 ∷ 7 ∷ 0 ∷ 0 ∷ 0 ∷ 0 ∷ 0 ∷ 0 ∷ 0 ∷ 0 ∷ 0 ∷ 0 ∷ 0 ∷ []));
    }
    ∷ into_the_host_4

abbrev pub into_the_host_6 : List Entry
into_the_host_6 =
    record { lane = 1; deed = deed.Back 1 (record { 0 = 0 }) (Some (value.Int (pos 7))) } ∷ into_the_host_5

abbrev pub into_the_host_7 : List Entry
into_the_host_7 =
    record { lane = 1; deed = deed.Release (Some (record { object = 1; iface = 1 })) } ∷ into_the_host_6

abbrev pub into_the_host_8 : List Entry
into_the_host_8 = record { lane = 2; deed = deed.Final 1 } ∷ into_the_host_7

abbrev pub into_the_host_9 : List Entry
into_the_host_9 = record { lane = 1; deed = deed.Uninit (Some 1) 0 } ∷ into_the_host_8

abbrev pub into_the_host_10 : List Entry
into_the_host_10 = record { lane = 1; deed = deed.End } ∷ into_the_host_9

-- A callback into an STA that waits for its own call.
abbrev pub callback : Scenario
callback = record {
  version = 1;
  pool = 1;
  classes = record {
    interfaces = built_in_interfaces;
    classes = (record {
      name = codes "Cnt";
      clsid = record {
        data1 = 1544224961;
        data2 = 0;
        data3 = 16384;
        data4 = 128 ∷ 0 ∷ 0 ∷ 0 ∷ 0 ∷ 0 ∷ 0 ∷ 1 ∷ [];
      };
      model = model.Both;
      native = native.Counter;
      interfaces = 1 ∷ [];
      bodies = [];
    })
        ∷ (record {
          name = codes "Rly";
          clsid = record {
            data1 = 1544224963;
            data2 = 0;
            data3 = 16384;
            data4 = 128 ∷ 0 ∷ 0 ∷ 0 ∷ 0 ∷ 0 ∷ 0 ∷ 1 ∷ [];
          };
          model = model.Free;
          native = native.Relay;
          interfaces = 2 ∷ [];
          bodies = [];
        }) ∷ [];
  };
  filters = [];
  threads =
      ((stmt.Init mode.Sta) ∷ (stmt.Create 0 (asked.Number 1) (asked.Number 1))
      ∷ (stmt.Create 1 (asked.Number 2) (asked.Number 2))
      ∷ (stmt.Call 1 2 0 ((arg.Slot 0) ∷ []) destination.Nowhere)
      ∷ (stmt.Call 1 2 1 ((arg.Op (op.Literal (value.Int (pos 4)))) ∷ []) (destination.Register 1))
      ∷ []) ∷ [];
  picks = [];
}

abbrev pub callback_1 : List Entry
callback_1 = record { lane = 1; deed = deed.Init mode.Sta 3 (record { 0 = 0 }) } ∷ []

-- Up to the first Made: the script holds object 1, a counter that the STA a3 owns.
abbrev pub callback_2 : List Entry
callback_2 =
    record {
      lane = 1;
      deed = deed.Made (Some 1) (Some 3) (asked.Number 1) (asked.Number 1) (record { 0 = 0 });
    }
    ∷ callback_1

-- Up to the second Made: the script holds, by a proxy, object 2, a relay that the MTA owns.
abbrev pub callback_3 : List Entry
callback_3 =
    record {
      lane = 1;
      deed = deed.Made (Some 2) (Some 1) (asked.Number 2) (asked.Number 2) (record { 0 = 0 });
    }
    ∷ callback_2

abbrev pub callback_4 : List Entry
callback_4 =
    record {
      lane = 1;
      deed = deed.Out 1 (Some 2) 2 0 route.Post 1
          (Some (5 ∷ 0 ∷ 7 ∷ 0 ∷ 0 ∷ 0 ∷ 0 ∷ 0 ∷ 0 ∷ 0 ∷ 0 ∷ 0 ∷ 1 ∷ 0 ∷ 0 ∷ 0 ∷ 0 ∷ 0 ∷ 0 ∷ 0 ∷ 0 ∷ 0 ∷ 0 ∷ 0
          ∷ 0 ∷ 0 ∷ 0 ∷ 0 ∷ 0 ∷ 0 ∷ 0 ∷ 0 ∷ 0 ∷ 0 ∷ 2 ∷ 0 ∷ 72 ∷ 0 ∷ 0 ∷ 0 ∷ 72 ∷ 0 ∷ 0 ∷ 0 ∷ 77 ∷ 69 ∷ 79
          ∷ 87 ∷ 1 ∷ 0 ∷ 0 ∷ 0 ∷ 1 ∷ 0 ∷ 11 ∷ 92 ∷ 0 ∷ 0 ∷ 0 ∷ 64 ∷ 128 ∷ 0 ∷ 0 ∷ 0 ∷ 0 ∷ 0 ∷ 0 ∷ 1 ∷ 0 ∷ 0
          ∷ 0 ∷ 0 ∷ 5 ∷ 0 ∷ 0 ∷ 0 ∷ 3 ∷ 0 ∷ 0 ∷ 0 ∷ 0 ∷ 0 ∷ 0 ∷ 0 ∷ 1 ∷ 0 ∷ 0 ∷ 0 ∷ 0 ∷ 0 ∷ 0 ∷ 0 ∷ 1 ∷ 0 ∷ 0
          ∷ 0 ∷ 1 ∷ 0 ∷ 3 ∷ 0 ∷ 1 ∷ 0 ∷ 0 ∷ 0 ∷ 0 ∷ 0 ∷ 0 ∷ 0 ∷ 2 ∷ 0 ∷ 1 ∷ 0 ∷ 0 ∷ 0 ∷ 0 ∷ 0 ∷ []));
    }
    ∷ callback_3

-- Up to the Enter of call 1: the pool lane 3 runs the relay's body, which holds object 1 by a proxy.
abbrev pub callback_5 : List Entry
callback_5 =
    record {
      lane = 3;
      deed = deed.Enter 1 2 1 None ((value.Ref (Some (record { object = 1; iface = 1 }))) ∷ []);
    }
    ∷ callback_4

-- Up to the Copy: a link of the relay holds object 1 too.
abbrev pub callback_6 : List Entry
callback_6 = record { lane = 3; deed = deed.Copy (Some (record { object = 1; iface = 1 })) } ∷ callback_5

-- Up to the Leave of call 1: the body's slot is gone, the link still holds object 1, and lane 1 waits.
abbrev pub callback_7 : List Entry
callback_7 =
    record {
      lane = 3;
      deed = deed.Leave 1 (record { 0 = 0 }) None
          (Some (0 ∷ 0 ∷ 0 ∷ 0 ∷ 0 ∷ 0 ∷ 0 ∷ 0 ∷ 0 ∷ 0 ∷ 0 ∷ 0 ∷ []));
    } ∷ callback_6

abbrev pub callback_8 : List Entry
callback_8 = record { lane = 1; deed = deed.Back 1 (record { 0 = 0 }) None } ∷ callback_7

abbrev pub callback_9 : List Entry
callback_9 =
    record {
      lane = 1;
      deed = deed.Out 2 (Some 2) 2 1 route.Post 2
          (Some (5 ∷ 0 ∷ 7 ∷ 0 ∷ 0 ∷ 0 ∷ 0 ∷ 0 ∷ 0 ∷ 0 ∷ 0 ∷ 0 ∷ 2 ∷ 0 ∷ 0 ∷ 0 ∷ 0 ∷ 0 ∷ 0 ∷ 0 ∷ 0 ∷ 0 ∷ 0 ∷ 0
          ∷ 0 ∷ 0 ∷ 0 ∷ 0 ∷ 0 ∷ 0 ∷ 0 ∷ 0 ∷ 4 ∷ 0 ∷ 0 ∷ 0 ∷ 0 ∷ 0 ∷ 0 ∷ 0 ∷ []));
    } ∷ callback_8

abbrev pub callback_10 : List Entry
callback_10 = record { lane = 3; deed = deed.Enter 2 2 1 None ((value.Int (pos 4)) ∷ []) } ∷ callback_9

-- Up to the second Copy: in call 2 the relay's body has object 1 from the link in a slot.
abbrev pub callback_11 : List Entry
callback_11 = record { lane = 3; deed = deed.Copy (Some (record { object = 1; iface = 1 })) } ∷ callback_10

abbrev pub callback_12 : List Entry
callback_12 =
    record {
      lane = 3;
      deed = deed.Out 3 (Some 1) 1 0 route.Post 2
          (Some (5 ∷ 0 ∷ 7 ∷ 0 ∷ 0 ∷ 0 ∷ 0 ∷ 0 ∷ 0 ∷ 0 ∷ 0 ∷ 0 ∷ 2 ∷ 0 ∷ 0 ∷ 0 ∷ 0 ∷ 0 ∷ 0 ∷ 0 ∷ 0 ∷ 0 ∷ 0 ∷ 0
          ∷ 0 ∷ 0 ∷ 0 ∷ 0 ∷ 0 ∷ 0 ∷ 0 ∷ 0 ∷ 4 ∷ 0 ∷ 0 ∷ 0 ∷ 0 ∷ 0 ∷ 0 ∷ 0 ∷ []));
    } ∷ callback_11

abbrev pub callback_13 : List Entry
callback_13 = record { lane = 1; deed = deed.Enter 3 1 3 (Some 2) ((value.Int (pos 4)) ∷ []) } ∷ callback_12

-- Up to the Leave of call 3, the callback: it ran in lane 1 above the Out of call 2, and lane 3 still waits.
abbrev pub callback_14 : List Entry
callback_14 =
    record {
      lane = 1;
      deed = deed.Leave 3 (record { 0 = 0 }) (Some (value.Int (pos 4)))
          (Some (0 ∷ 0 ∷ 0 ∷ 0 ∷ 0 ∷ 0 ∷ 0 ∷ 0 ∷ 4 ∷ 0 ∷ 0 ∷ 0 ∷ 0 ∷ 0 ∷ 0 ∷ 0 ∷ 0 ∷ 0 ∷ 0 ∷ 0 ∷ []));
    }
    ∷ callback_13

abbrev pub callback_15 : List Entry
callback_15 =
    record { lane = 3; deed = deed.Back 3 (record { 0 = 0 }) (Some (value.Int (pos 4))) } ∷ callback_14

-- Up to the Leave of call 2, with what the callback gave; the link alone holds object 1 in the MTA.
abbrev pub callback_16 : List Entry
callback_16 =
    record {
      lane = 3;
      deed = deed.Leave 2 (record { 0 = 0 }) (Some (value.Int (pos 4)))
          (Some (0 ∷ 0 ∷ 0 ∷ 0 ∷ 0 ∷ 0 ∷ 0 ∷ 0 ∷ 4 ∷ 0 ∷ 0 ∷ 0 ∷ 0 ∷ 0 ∷ 0 ∷ 0 ∷ 0 ∷ 0 ∷ 0 ∷ 0 ∷ []));
    }
    ∷ callback_15

abbrev pub callback_17 : List Entry
callback_17 =
    record { lane = 1; deed = deed.Back 2 (record { 0 = 0 }) (Some (value.Int (pos 4))) } ∷ callback_16

-- Up to the Uninit: a3 has ended, and both objects are dying, as the relay's proxy and the counter's owner
-- are gone.
abbrev pub callback_18 : List Entry
callback_18 = record { lane = 1; deed = deed.Uninit (Some 3) 0 } ∷ callback_17

-- Up to the Final of the relay in the pool lane 3: its link is null.
abbrev pub callback_19 : List Entry
callback_19 = record { lane = 3; deed = deed.Final 2 } ∷ callback_18

-- Up to the Final of the counter in lane 1, which serves a3 though that has ended.
abbrev pub callback_20 : List Entry
callback_20 = record { lane = 1; deed = deed.Final 1 } ∷ callback_19

abbrev pub callback_21 : List Entry
callback_21 = record { lane = 1; deed = deed.End } ∷ callback_20

-- A lane whose call is answered comes back before it admits the next call of its inbox.
abbrev pub answer_first : Scenario
answer_first = record {
  version = 1;
  pool = 1;
  classes = record {
    interfaces = built_in_interfaces;
    classes = (record {
      name = codes "Cnt";
      clsid = record {
        data1 = 1544224961;
        data2 = 0;
        data3 = 16384;
        data4 = 128 ∷ 0 ∷ 0 ∷ 0 ∷ 0 ∷ 0 ∷ 0 ∷ 1 ∷ [];
      };
      model = model.Both;
      native = native.Counter;
      interfaces = 1 ∷ [];
      bodies = [];
    })
        ∷ (record {
          name = codes "Far";
          clsid = record {
            data1 = 1544224962;
            data2 = 0;
            data3 = 16384;
            data4 = 128 ∷ 0 ∷ 0 ∷ 0 ∷ 0 ∷ 0 ∷ 0 ∷ 1 ∷ [];
          };
          model = model.Free;
          native = native.Counter;
          interfaces = 1 ∷ [];
          bodies = [];
        }) ∷ [];
  };
  filters = [];
  threads =
      ((stmt.Init mode.Sta) ∷ (stmt.Create 0 (asked.Number 1) (asked.Number 1))
      ∷ (stmt.Create 1 (asked.Number 2) (asked.Number 1)) ∷ (stmt.Register 0 0)
      ∷ (stmt.Call 1 1 0 ((arg.Op (op.Literal (value.Int (pos 1)))) ∷ []) (destination.Register 1))
      ∷ (stmt.Pump 1) ∷ [])
      ∷ ((stmt.Init mode.Mta) ∷ (stmt.Get 0 (op.Literal (value.Int (pos 1))))
      ∷ (stmt.Call 0 1 0 ((arg.Op (op.Literal (value.Int (pos 2)))) ∷ []) (destination.Register 1))
      ∷ []) ∷ [];
  picks = 1 ∷ 1 ∷ 1 ∷ 1 ∷ 1 ∷ 2 ∷ 2 ∷ 2 ∷ 4 ∷ 4 ∷ 1 ∷ [];
}

abbrev pub answer_first_1 : List Entry
answer_first_1 = record { lane = 1; deed = deed.Init mode.Sta 3 (record { 0 = 0 }) } ∷ []

abbrev pub answer_first_2 : List Entry
answer_first_2 =
    record {
      lane = 1;
      deed = deed.Made (Some 1) (Some 3) (asked.Number 1) (asked.Number 1) (record { 0 = 0 });
    }
    ∷ answer_first_1

abbrev pub answer_first_3 : List Entry
answer_first_3 =
    record {
      lane = 1;
      deed = deed.Made (Some 2) (Some 1) (asked.Number 2) (asked.Number 1) (record { 0 = 0 });
    }
    ∷ answer_first_2

abbrev pub answer_first_4 : List Entry
answer_first_4 =
    record {
      lane = 1;
      deed = deed.Register (Some 1) (Some (record { object = 1; iface = 1 })) (record { 0 = 0 });
    }
    ∷ answer_first_3

abbrev pub answer_first_5 : List Entry
answer_first_5 =
    record {
      lane = 1;
      deed = deed.Out 1 (Some 2) 1 0 route.Post 1
          (Some (5 ∷ 0 ∷ 7 ∷ 0 ∷ 0 ∷ 0 ∷ 0 ∷ 0 ∷ 0 ∷ 0 ∷ 0 ∷ 0 ∷ 1 ∷ 0 ∷ 0 ∷ 0 ∷ 0 ∷ 0 ∷ 0 ∷ 0 ∷ 0 ∷ 0 ∷ 0 ∷ 0
          ∷ 0 ∷ 0 ∷ 0 ∷ 0 ∷ 0 ∷ 0 ∷ 0 ∷ 0 ∷ 1 ∷ 0 ∷ 0 ∷ 0 ∷ 0 ∷ 0 ∷ 0 ∷ 0 ∷ []));
    } ∷ answer_first_4

abbrev pub answer_first_6 : List Entry
answer_first_6 = record { lane = 2; deed = deed.Init mode.Mta 1 (record { 0 = 0 }) } ∷ answer_first_5

abbrev pub answer_first_7 : List Entry
answer_first_7 =
    record {
      lane = 2;
      deed = deed.Get (pos 1) (Some (record { object = 1; iface = 1 })) 5 (record { 0 = 0 });
    }
    ∷ answer_first_6

abbrev pub answer_first_8 : List Entry
answer_first_8 =
    record {
      lane = 2;
      deed = deed.Out 2 (Some 1) 1 0 route.Post 2
          (Some (5 ∷ 0 ∷ 7 ∷ 0 ∷ 0 ∷ 0 ∷ 0 ∷ 0 ∷ 0 ∷ 0 ∷ 0 ∷ 0 ∷ 2 ∷ 0 ∷ 0 ∷ 0 ∷ 0 ∷ 0 ∷ 0 ∷ 0 ∷ 0 ∷ 0 ∷ 0 ∷ 0
          ∷ 0 ∷ 0 ∷ 0 ∷ 0 ∷ 0 ∷ 0 ∷ 0 ∷ 0 ∷ 2 ∷ 0 ∷ 0 ∷ 0 ∷ 0 ∷ 0 ∷ 0 ∷ 0 ∷ []));
    } ∷ answer_first_7

abbrev pub answer_first_9 : List Entry
answer_first_9 = record { lane = 4; deed = deed.Enter 1 2 1 None ((value.Int (pos 1)) ∷ []) } ∷ answer_first_8

-- Up to the Leave of call 1: lane 1 has the answer of its own call, and call 2 waits in the inbox of its STA.
abbrev pub answer_first_10 : List Entry
answer_first_10 =
    record {
      lane = 4;
      deed = deed.Leave 1 (record { 0 = 0 }) (Some (value.Int (pos 1)))
          (Some (0 ∷ 0 ∷ 0 ∷ 0 ∷ 0 ∷ 0 ∷ 0 ∷ 0 ∷ 1 ∷ 0 ∷ 0 ∷ 0 ∷ 0 ∷ 0 ∷ 0 ∷ 0 ∷ 0 ∷ 0 ∷ 0 ∷ 0 ∷ []));
    }
    ∷ answer_first_9

abbrev pub answer_first_11 : List Entry
answer_first_11 =
    record { lane = 1; deed = deed.Back 1 (record { 0 = 0 }) (Some (value.Int (pos 1))) } ∷ answer_first_10

abbrev pub answer_first_12 : List Entry
answer_first_12 = record { lane = 1; deed = deed.Pump 1 } ∷ answer_first_11

abbrev pub answer_first_13 : List Entry
answer_first_13 =
    record { lane = 1; deed = deed.Enter 2 1 3 (Some 1) ((value.Int (pos 2)) ∷ []) } ∷ answer_first_12

abbrev pub answer_first_14 : List Entry
answer_first_14 =
    record {
      lane = 1;
      deed = deed.Leave 2 (record { 0 = 0 }) (Some (value.Int (pos 2)))
          (Some (0 ∷ 0 ∷ 0 ∷ 0 ∷ 0 ∷ 0 ∷ 0 ∷ 0 ∷ 2 ∷ 0 ∷ 0 ∷ 0 ∷ 0 ∷ 0 ∷ 0 ∷ 0 ∷ 0 ∷ 0 ∷ 0 ∷ 0 ∷ []));
    }
    ∷ answer_first_13

abbrev pub answer_first_15 : List Entry
answer_first_15 =
    record { lane = 2; deed = deed.Back 2 (record { 0 = 0 }) (Some (value.Int (pos 2))) } ∷ answer_first_14

abbrev pub answer_first_16 : List Entry
answer_first_16 = record { lane = 1; deed = deed.EndPump } ∷ answer_first_15

abbrev pub answer_first_17 : List Entry
answer_first_17 = record { lane = 2; deed = deed.Uninit (Some 1) 0 } ∷ answer_first_16

abbrev pub answer_first_18 : List Entry
answer_first_18 = record { lane = 1; deed = deed.Uninit (Some 3) 0 } ∷ answer_first_17

abbrev pub answer_first_19 : List Entry
answer_first_19 = record { lane = 2; deed = deed.End } ∷ answer_first_18

abbrev pub answer_first_20 : List Entry
answer_first_20 = record { lane = 4; deed = deed.Final 2 } ∷ answer_first_19

abbrev pub answer_first_21 : List Entry
answer_first_21 = record { lane = 1; deed = deed.Final 1 } ∷ answer_first_20

abbrev pub answer_first_22 : List Entry
answer_first_22 = record { lane = 1; deed = deed.End } ∷ answer_first_21

-- A body gives up a younger object first, and that one is released first.
abbrev pub younger_first : Scenario
younger_first = record {
  version = 1;
  pool = 1;
  classes = record {
    interfaces = built_in_interfaces
        ++ (record {
          name = codes "ITwo";
          iid = record {
            data1 = 1544224784;
            data2 = 0;
            data3 = 16384;
            data4 = 128 ∷ 0 ∷ 0 ∷ 0 ∷ 0 ∷ 0 ∷ 0 ∷ 1 ∷ [];
          };
          methods = (record { name = codes "go"; params = []; result = None }) ∷ [];
        }) ∷ [];
    classes = (record {
      name = codes "Cnt";
      clsid = record {
        data1 = 1544224961;
        data2 = 0;
        data3 = 16384;
        data4 = 128 ∷ 0 ∷ 0 ∷ 0 ∷ 0 ∷ 0 ∷ 0 ∷ 1 ∷ [];
      };
      model = model.Both;
      native = native.Counter;
      interfaces = 1 ∷ [];
      bodies = [];
    })
        ∷ (record {
          name = codes "Two";
          clsid = record {
            data1 = 1544224785;
            data2 = 0;
            data3 = 16384;
            data4 = 128 ∷ 0 ∷ 0 ∷ 0 ∷ 0 ∷ 0 ∷ 0 ∷ 1 ∷ [];
          };
          model = model.Both;
          native = native.Bodies;
          interfaces = 4 ∷ [];
          bodies = (record {
            iface = 4;
            method = 0;
            body = (stmt.Create 0 (asked.Number 1) (asked.Number 1))
                ∷ (stmt.Create 1 (asked.Number 1) (asked.Number 1)) ∷ (stmt.Release (place.Slot 1))
                ∷ (stmt.Release (place.Slot 0)) ∷ [];
          }) ∷ [];
        }) ∷ [];
  };
  filters = [];
  threads =
      ((stmt.Init mode.Sta) ∷ (stmt.Create 0 (asked.Number 2) (asked.Number 4))
      ∷ (stmt.Call 0 4 0 [] destination.Nowhere) ∷ []) ∷ [];
  picks = [];
}

abbrev pub younger_first_1 : List Entry
younger_first_1 = record { lane = 1; deed = deed.Init mode.Sta 3 (record { 0 = 0 }) } ∷ []

abbrev pub younger_first_2 : List Entry
younger_first_2 =
    record {
      lane = 1;
      deed = deed.Made (Some 1) (Some 3) (asked.Number 2) (asked.Number 4) (record { 0 = 0 });
    }
    ∷ younger_first_1

abbrev pub younger_first_3 : List Entry
younger_first_3 = record { lane = 1; deed = deed.Out 1 (Some 1) 4 0 route.Direct 1 None } ∷ younger_first_2

abbrev pub younger_first_4 : List Entry
younger_first_4 = record { lane = 1; deed = deed.Enter 1 1 3 None [] } ∷ younger_first_3

abbrev pub younger_first_5 : List Entry
younger_first_5 =
    record {
      lane = 1;
      deed = deed.Made (Some 2) (Some 3) (asked.Number 1) (asked.Number 1) (record { 0 = 0 });
    }
    ∷ younger_first_4

abbrev pub younger_first_6 : List Entry
younger_first_6 =
    record {
      lane = 1;
      deed = deed.Made (Some 3) (Some 3) (asked.Number 1) (asked.Number 1) (record { 0 = 0 });
    }
    ∷ younger_first_5

abbrev pub younger_first_7 : List Entry
younger_first_7 =
    record { lane = 1; deed = deed.Release (Some (record { object = 3; iface = 1 })) } ∷ younger_first_6

abbrev pub younger_first_8 : List Entry
younger_first_8 =
    record { lane = 1; deed = deed.Release (Some (record { object = 2; iface = 1 })) } ∷ younger_first_7

abbrev pub younger_first_9 : List Entry
younger_first_9 = record { lane = 1; deed = deed.Leave 1 (record { 0 = 0 }) None None } ∷ younger_first_8

abbrev pub younger_first_10 : List Entry
younger_first_10 = record { lane = 1; deed = deed.Final 3 } ∷ younger_first_9

abbrev pub younger_first_11 : List Entry
younger_first_11 = record { lane = 1; deed = deed.Final 2 } ∷ younger_first_10

abbrev pub younger_first_12 : List Entry
younger_first_12 = record { lane = 1; deed = deed.Back 1 (record { 0 = 0 }) None } ∷ younger_first_11

abbrev pub younger_first_13 : List Entry
younger_first_13 = record { lane = 1; deed = deed.Uninit (Some 3) 0 } ∷ younger_first_12

abbrev pub younger_first_14 : List Entry
younger_first_14 = record { lane = 1; deed = deed.Final 1 } ∷ younger_first_13

abbrev pub younger_first_15 : List Entry
younger_first_15 = record { lane = 1; deed = deed.End } ∷ younger_first_14

-- A callback through a relay in the MTA, with references that go from hand to hand.
abbrev pub relayed : Scenario
relayed = record {
  version = 1;
  pool = 1;
  classes = record {
    interfaces = built_in_interfaces;
    classes = (record {
      name = codes "Cnt";
      clsid = record {
        data1 = 1544224961;
        data2 = 0;
        data3 = 16384;
        data4 = 128 ∷ 0 ∷ 0 ∷ 0 ∷ 0 ∷ 0 ∷ 0 ∷ 1 ∷ [];
      };
      model = model.Both;
      native = native.Counter;
      interfaces = 1 ∷ [];
      bodies = [];
    })
        ∷ (record {
          name = codes "Rly";
          clsid = record {
            data1 = 1544224963;
            data2 = 0;
            data3 = 16384;
            data4 = 128 ∷ 0 ∷ 0 ∷ 0 ∷ 0 ∷ 0 ∷ 0 ∷ 1 ∷ [];
          };
          model = model.Both;
          native = native.Relay;
          interfaces = 2 ∷ [];
          bodies = [];
        }) ∷ [];
  };
  filters = [];
  threads =
      ((stmt.Init mode.Sta) ∷ (stmt.Create 0 (asked.Number 1) (asked.Number 1))
      ∷ (stmt.Get 1 (op.Literal (value.Int (pos 1))))
      ∷ (stmt.Call 1 2 0 ((arg.Slot 0) ∷ []) destination.Nowhere)
      ∷ (stmt.Call 1 2 1 ((arg.Op (op.Literal (value.Int (pos 4)))) ∷ []) (destination.Register 1))
      ∷ [])
      ∷ ((stmt.Init mode.Mta) ∷ (stmt.Create 0 (asked.Number 2) (asked.Number 2)) ∷ (stmt.Register 0 0) ∷ [])
      ∷ [];
  picks = 2 ∷ 2 ∷ 2 ∷ [];
}

abbrev pub relayed_1 : List Entry
relayed_1 = record { lane = 2; deed = deed.Init mode.Mta 1 (record { 0 = 0 }) } ∷ []

abbrev pub relayed_2 : List Entry
relayed_2 =
    record {
      lane = 2;
      deed = deed.Made (Some 1) (Some 1) (asked.Number 2) (asked.Number 2) (record { 0 = 0 });
    }
    ∷ relayed_1

abbrev pub relayed_3 : List Entry
relayed_3 =
    record {
      lane = 2;
      deed = deed.Register (Some 1) (Some (record { object = 1; iface = 2 })) (record { 0 = 0 });
    }
    ∷ relayed_2

abbrev pub relayed_4 : List Entry
relayed_4 = record { lane = 1; deed = deed.Init mode.Sta 3 (record { 0 = 0 }) } ∷ relayed_3

abbrev pub relayed_5 : List Entry
relayed_5 = record { lane = 2; deed = deed.Uninit (Some 1) 0 } ∷ relayed_4

abbrev pub relayed_6 : List Entry
relayed_6 =
    record {
      lane = 1;
      deed = deed.Made (Some 2) (Some 3) (asked.Number 1) (asked.Number 1) (record { 0 = 0 });
    }
    ∷ relayed_5

abbrev pub relayed_7 : List Entry
relayed_7 = record { lane = 2; deed = deed.End } ∷ relayed_6

abbrev pub relayed_8 : List Entry
relayed_8 =
    record {
      lane = 1;
      deed = deed.Get (pos 1) (Some (record { object = 1; iface = 2 })) 5 (record { 0 = 0 });
    } ∷ relayed_7

abbrev pub relayed_9 : List Entry
relayed_9 =
    record {
      lane = 1;
      deed = deed.Out 1 (Some 1) 2 0 route.Post 1
          (Some (5 ∷ 0 ∷ 7 ∷ 0 ∷ 0 ∷ 0 ∷ 0 ∷ 0 ∷ 0 ∷ 0 ∷ 0 ∷ 0 ∷ 1 ∷ 0 ∷ 0 ∷ 0 ∷ 0 ∷ 0 ∷ 0 ∷ 0 ∷ 0 ∷ 0 ∷ 0 ∷ 0
          ∷ 0 ∷ 0 ∷ 0 ∷ 0 ∷ 0 ∷ 0 ∷ 0 ∷ 0 ∷ 0 ∷ 0 ∷ 2 ∷ 0 ∷ 72 ∷ 0 ∷ 0 ∷ 0 ∷ 72 ∷ 0 ∷ 0 ∷ 0 ∷ 77 ∷ 69 ∷ 79
          ∷ 87 ∷ 1 ∷ 0 ∷ 0 ∷ 0 ∷ 1 ∷ 0 ∷ 11 ∷ 92 ∷ 0 ∷ 0 ∷ 0 ∷ 64 ∷ 128 ∷ 0 ∷ 0 ∷ 0 ∷ 0 ∷ 0 ∷ 0 ∷ 1 ∷ 0 ∷ 0
          ∷ 0 ∷ 0 ∷ 5 ∷ 0 ∷ 0 ∷ 0 ∷ 3 ∷ 0 ∷ 0 ∷ 0 ∷ 0 ∷ 0 ∷ 0 ∷ 0 ∷ 2 ∷ 0 ∷ 0 ∷ 0 ∷ 0 ∷ 0 ∷ 0 ∷ 0 ∷ 2 ∷ 0 ∷ 0
          ∷ 0 ∷ 1 ∷ 0 ∷ 3 ∷ 0 ∷ 1 ∷ 0 ∷ 0 ∷ 0 ∷ 0 ∷ 0 ∷ 0 ∷ 0 ∷ 2 ∷ 0 ∷ 1 ∷ 0 ∷ 0 ∷ 0 ∷ 0 ∷ 0 ∷ []));
    }
    ∷ relayed_8

abbrev pub relayed_10 : List Entry
relayed_10 =
    record {
      lane = 4;
      deed = deed.Enter 1 1 1 None ((value.Ref (Some (record { object = 2; iface = 1 }))) ∷ []);
    }
    ∷ relayed_9

abbrev pub relayed_11 : List Entry
relayed_11 = record { lane = 4; deed = deed.Copy (Some (record { object = 2; iface = 1 })) } ∷ relayed_10

abbrev pub relayed_12 : List Entry
relayed_12 =
    record {
      lane = 4;
      deed = deed.Leave 1 (record { 0 = 0 }) None
          (Some (0 ∷ 0 ∷ 0 ∷ 0 ∷ 0 ∷ 0 ∷ 0 ∷ 0 ∷ 0 ∷ 0 ∷ 0 ∷ 0 ∷ []));
    } ∷ relayed_11

abbrev pub relayed_13 : List Entry
relayed_13 = record { lane = 1; deed = deed.Back 1 (record { 0 = 0 }) None } ∷ relayed_12

abbrev pub relayed_14 : List Entry
relayed_14 =
    record {
      lane = 1;
      deed = deed.Out 2 (Some 1) 2 1 route.Post 2
          (Some (5 ∷ 0 ∷ 7 ∷ 0 ∷ 0 ∷ 0 ∷ 0 ∷ 0 ∷ 0 ∷ 0 ∷ 0 ∷ 0 ∷ 2 ∷ 0 ∷ 0 ∷ 0 ∷ 0 ∷ 0 ∷ 0 ∷ 0 ∷ 0 ∷ 0 ∷ 0 ∷ 0
          ∷ 0 ∷ 0 ∷ 0 ∷ 0 ∷ 0 ∷ 0 ∷ 0 ∷ 0 ∷ 4 ∷ 0 ∷ 0 ∷ 0 ∷ 0 ∷ 0 ∷ 0 ∷ 0 ∷ []));
    } ∷ relayed_13

abbrev pub relayed_15 : List Entry
relayed_15 = record { lane = 4; deed = deed.Enter 2 1 1 None ((value.Int (pos 4)) ∷ []) } ∷ relayed_14

abbrev pub relayed_16 : List Entry
relayed_16 = record { lane = 4; deed = deed.Copy (Some (record { object = 2; iface = 1 })) } ∷ relayed_15

abbrev pub relayed_17 : List Entry
relayed_17 =
    record {
      lane = 4;
      deed = deed.Out 3 (Some 2) 1 0 route.Post 2
          (Some (5 ∷ 0 ∷ 7 ∷ 0 ∷ 0 ∷ 0 ∷ 0 ∷ 0 ∷ 0 ∷ 0 ∷ 0 ∷ 0 ∷ 2 ∷ 0 ∷ 0 ∷ 0 ∷ 0 ∷ 0 ∷ 0 ∷ 0 ∷ 0 ∷ 0 ∷ 0 ∷ 0
          ∷ 0 ∷ 0 ∷ 0 ∷ 0 ∷ 0 ∷ 0 ∷ 0 ∷ 0 ∷ 4 ∷ 0 ∷ 0 ∷ 0 ∷ 0 ∷ 0 ∷ 0 ∷ 0 ∷ []));
    } ∷ relayed_16

abbrev pub relayed_18 : List Entry
relayed_18 = record { lane = 1; deed = deed.Enter 3 2 3 (Some 2) ((value.Int (pos 4)) ∷ []) } ∷ relayed_17

abbrev pub relayed_19 : List Entry
relayed_19 =
    record {
      lane = 1;
      deed = deed.Leave 3 (record { 0 = 0 }) (Some (value.Int (pos 4)))
          (Some (0 ∷ 0 ∷ 0 ∷ 0 ∷ 0 ∷ 0 ∷ 0 ∷ 0 ∷ 4 ∷ 0 ∷ 0 ∷ 0 ∷ 0 ∷ 0 ∷ 0 ∷ 0 ∷ 0 ∷ 0 ∷ 0 ∷ 0 ∷ []));
    }
    ∷ relayed_18

abbrev pub relayed_20 : List Entry
relayed_20 =
    record { lane = 4; deed = deed.Back 3 (record { 0 = 0 }) (Some (value.Int (pos 4))) } ∷ relayed_19

abbrev pub relayed_21 : List Entry
relayed_21 =
    record {
      lane = 4;
      deed = deed.Leave 2 (record { 0 = 0 }) (Some (value.Int (pos 4)))
          (Some (0 ∷ 0 ∷ 0 ∷ 0 ∷ 0 ∷ 0 ∷ 0 ∷ 0 ∷ 4 ∷ 0 ∷ 0 ∷ 0 ∷ 0 ∷ 0 ∷ 0 ∷ 0 ∷ 0 ∷ 0 ∷ 0 ∷ 0 ∷ []));
    }
    ∷ relayed_20

abbrev pub relayed_22 : List Entry
relayed_22 =
    record { lane = 1; deed = deed.Back 2 (record { 0 = 0 }) (Some (value.Int (pos 4))) } ∷ relayed_21

abbrev pub relayed_23 : List Entry
relayed_23 = record { lane = 1; deed = deed.Uninit (Some 3) 0 } ∷ relayed_22

abbrev pub relayed_24 : List Entry
relayed_24 = record { lane = 1; deed = deed.Final 2 } ∷ relayed_23

abbrev pub relayed_25 : List Entry
relayed_25 = record { lane = 1; deed = deed.End } ∷ relayed_24

-- A call with the causality of an outer call, not of the topmost, is nested.
abbrev pub outer_causality : Scenario
outer_causality = record {
  version = 1;
  pool = 2;
  classes = record {
    interfaces = built_in_interfaces;
    classes = (record {
      name = codes "Cnt";
      clsid = record {
        data1 = 1544224961;
        data2 = 0;
        data3 = 16384;
        data4 = 128 ∷ 0 ∷ 0 ∷ 0 ∷ 0 ∷ 0 ∷ 0 ∷ 1 ∷ [];
      };
      model = model.Both;
      native = native.Counter;
      interfaces = 1 ∷ [];
      bodies = [];
    })
        ∷ (record {
          name = codes "Far";
          clsid = record {
            data1 = 1544224962;
            data2 = 0;
            data3 = 16384;
            data4 = 128 ∷ 0 ∷ 0 ∷ 0 ∷ 0 ∷ 0 ∷ 0 ∷ 1 ∷ [];
          };
          model = model.Free;
          native = native.Counter;
          interfaces = 1 ∷ [];
          bodies = [];
        })
        ∷ (record {
          name = codes "Rly";
          clsid = record {
            data1 = 1544224963;
            data2 = 0;
            data3 = 16384;
            data4 = 128 ∷ 0 ∷ 0 ∷ 0 ∷ 0 ∷ 0 ∷ 0 ∷ 1 ∷ [];
          };
          model = model.Both;
          native = native.Relay;
          interfaces = 2 ∷ [];
          bodies = [];
        })
        ∷ (record {
          name = codes "Frl";
          clsid = record {
            data1 = 1544224964;
            data2 = 0;
            data3 = 16384;
            data4 = 128 ∷ 0 ∷ 0 ∷ 0 ∷ 0 ∷ 0 ∷ 0 ∷ 1 ∷ [];
          };
          model = model.Free;
          native = native.Relay;
          interfaces = 2 ∷ [];
          bodies = [];
        }) ∷ [];
  };
  filters = [];
  threads =
      ((stmt.Init mode.Sta) ∷ (stmt.Create 0 (asked.Number 1) (asked.Number 1))
      ∷ (stmt.Create 1 (asked.Number 2) (asked.Number 1))
      ∷ (stmt.Create 2 (asked.Number 3) (asked.Number 2))
      ∷ (stmt.Create 3 (asked.Number 4) (asked.Number 2))
      ∷ (stmt.Call 2 2 0 ((arg.Slot 1) ∷ []) destination.Nowhere)
      ∷ (stmt.Call 3 2 0 ((arg.Slot 0) ∷ []) destination.Nowhere) ∷ (stmt.Register 0 2)
      ∷ (stmt.Call 3 2 1 ((arg.Op (op.Literal (value.Int (pos 1)))) ∷ []) (destination.Register 1))
      ∷ [])
      ∷ ((stmt.Init mode.Mta) ∷ (stmt.Get 0 (op.Literal (value.Int (pos 1))))
      ∷ (stmt.Call 0 2 1 ((arg.Op (op.Literal (value.Int (pos 2)))) ∷ []) (destination.Register 1))
      ∷ []) ∷ [];
  picks =
      1 ∷ 1 ∷ 1 ∷ 1 ∷ 1 ∷ 1 ∷ 1 ∷ 1 ∷ 1 ∷ 1 ∷ 1 ∷ 4 ∷ 4 ∷ 4 ∷ 1 ∷ 1 ∷ 2 ∷ 2 ∷ 1 ∷ 2 ∷ 1 ∷ 1 ∷ 1 ∷ 4 ∷ 4 ∷ 4
      ∷ 1 ∷ 1 ∷ [];
}

abbrev pub outer_causality_1 : List Entry
outer_causality_1 = record { lane = 1; deed = deed.Init mode.Sta 3 (record { 0 = 0 }) } ∷ []

abbrev pub outer_causality_2 : List Entry
outer_causality_2 =
    record {
      lane = 1;
      deed = deed.Made (Some 1) (Some 3) (asked.Number 1) (asked.Number 1) (record { 0 = 0 });
    }
    ∷ outer_causality_1

abbrev pub outer_causality_3 : List Entry
outer_causality_3 =
    record {
      lane = 1;
      deed = deed.Made (Some 2) (Some 1) (asked.Number 2) (asked.Number 1) (record { 0 = 0 });
    }
    ∷ outer_causality_2

abbrev pub outer_causality_4 : List Entry
outer_causality_4 =
    record {
      lane = 1;
      deed = deed.Made (Some 3) (Some 3) (asked.Number 3) (asked.Number 2) (record { 0 = 0 });
    }
    ∷ outer_causality_3

abbrev pub outer_causality_5 : List Entry
outer_causality_5 =
    record {
      lane = 1;
      deed = deed.Made (Some 4) (Some 1) (asked.Number 4) (asked.Number 2) (record { 0 = 0 });
    }
    ∷ outer_causality_4

abbrev pub outer_causality_6 : List Entry
outer_causality_6 =
    record { lane = 1; deed = deed.Out 1 (Some 3) 2 0 route.Direct 1 None } ∷ outer_causality_5

abbrev pub outer_causality_7 : List Entry
outer_causality_7 =
    record {
      lane = 1;
      deed = deed.Enter 1 3 3 None ((value.Ref (Some (record { object = 2; iface = 1 }))) ∷ []);
    }
    ∷ outer_causality_6

abbrev pub outer_causality_8 : List Entry
outer_causality_8 =
    record { lane = 1; deed = deed.Copy (Some (record { object = 2; iface = 1 })) } ∷ outer_causality_7

abbrev pub outer_causality_9 : List Entry
outer_causality_9 = record { lane = 1; deed = deed.Leave 1 (record { 0 = 0 }) None None } ∷ outer_causality_8

abbrev pub outer_causality_10 : List Entry
outer_causality_10 = record { lane = 1; deed = deed.Back 1 (record { 0 = 0 }) None } ∷ outer_causality_9

abbrev pub outer_causality_11 : List Entry
outer_causality_11 =
    record {
      lane = 1;
      deed = deed.Out 2 (Some 4) 2 0 route.Post 2
          (Some (5 ∷ 0 ∷ 7 ∷ 0 ∷ 0 ∷ 0 ∷ 0 ∷ 0 ∷ 0 ∷ 0 ∷ 0 ∷ 0 ∷ 2 ∷ 0 ∷ 0 ∷ 0 ∷ 0 ∷ 0 ∷ 0 ∷ 0 ∷ 0 ∷ 0 ∷ 0 ∷ 0
          ∷ 0 ∷ 0 ∷ 0 ∷ 0 ∷ 0 ∷ 0 ∷ 0 ∷ 0 ∷ 0 ∷ 0 ∷ 2 ∷ 0 ∷ 72 ∷ 0 ∷ 0 ∷ 0 ∷ 72 ∷ 0 ∷ 0 ∷ 0 ∷ 77 ∷ 69 ∷ 79
          ∷ 87 ∷ 1 ∷ 0 ∷ 0 ∷ 0 ∷ 1 ∷ 0 ∷ 11 ∷ 92 ∷ 0 ∷ 0 ∷ 0 ∷ 64 ∷ 128 ∷ 0 ∷ 0 ∷ 0 ∷ 0 ∷ 0 ∷ 0 ∷ 1 ∷ 0 ∷ 0
          ∷ 0 ∷ 0 ∷ 5 ∷ 0 ∷ 0 ∷ 0 ∷ 3 ∷ 0 ∷ 0 ∷ 0 ∷ 0 ∷ 0 ∷ 0 ∷ 0 ∷ 1 ∷ 0 ∷ 0 ∷ 0 ∷ 0 ∷ 0 ∷ 0 ∷ 0 ∷ 1 ∷ 0 ∷ 0
          ∷ 0 ∷ 1 ∷ 0 ∷ 3 ∷ 0 ∷ 1 ∷ 0 ∷ 0 ∷ 0 ∷ 0 ∷ 0 ∷ 0 ∷ 0 ∷ 2 ∷ 0 ∷ 1 ∷ 0 ∷ 0 ∷ 0 ∷ 0 ∷ 0 ∷ []));
    }
    ∷ outer_causality_10

abbrev pub outer_causality_12 : List Entry
outer_causality_12 =
    record {
      lane = 4;
      deed = deed.Enter 2 4 1 None ((value.Ref (Some (record { object = 1; iface = 1 }))) ∷ []);
    }
    ∷ outer_causality_11

abbrev pub outer_causality_13 : List Entry
outer_causality_13 =
    record { lane = 4; deed = deed.Copy (Some (record { object = 1; iface = 1 })) } ∷ outer_causality_12

abbrev pub outer_causality_14 : List Entry
outer_causality_14 =
    record {
      lane = 4;
      deed = deed.Leave 2 (record { 0 = 0 }) None
          (Some (0 ∷ 0 ∷ 0 ∷ 0 ∷ 0 ∷ 0 ∷ 0 ∷ 0 ∷ 0 ∷ 0 ∷ 0 ∷ 0 ∷ []));
    } ∷ outer_causality_13

abbrev pub outer_causality_15 : List Entry
outer_causality_15 = record { lane = 1; deed = deed.Back 2 (record { 0 = 0 }) None } ∷ outer_causality_14

abbrev pub outer_causality_16 : List Entry
outer_causality_16 =
    record {
      lane = 1;
      deed = deed.Register (Some 1) (Some (record { object = 3; iface = 2 })) (record { 0 = 0 });
    }
    ∷ outer_causality_15

abbrev pub outer_causality_17 : List Entry
outer_causality_17 = record { lane = 2; deed = deed.Init mode.Mta 1 (record { 0 = 0 }) } ∷ outer_causality_16

abbrev pub outer_causality_18 : List Entry
outer_causality_18 =
    record {
      lane = 2;
      deed = deed.Get (pos 1) (Some (record { object = 3; iface = 2 })) 5 (record { 0 = 0 });
    }
    ∷ outer_causality_17

abbrev pub outer_causality_19 : List Entry
outer_causality_19 =
    record {
      lane = 1;
      deed = deed.Out 3 (Some 4) 2 1 route.Post 3
          (Some (5 ∷ 0 ∷ 7 ∷ 0 ∷ 0 ∷ 0 ∷ 0 ∷ 0 ∷ 0 ∷ 0 ∷ 0 ∷ 0 ∷ 3 ∷ 0 ∷ 0 ∷ 0 ∷ 0 ∷ 0 ∷ 0 ∷ 0 ∷ 0 ∷ 0 ∷ 0 ∷ 0
          ∷ 0 ∷ 0 ∷ 0 ∷ 0 ∷ 0 ∷ 0 ∷ 0 ∷ 0 ∷ 1 ∷ 0 ∷ 0 ∷ 0 ∷ 0 ∷ 0 ∷ 0 ∷ 0 ∷ []));
    } ∷ outer_causality_18

abbrev pub outer_causality_20 : List Entry
outer_causality_20 =
    record {
      lane = 2;
      deed = deed.Out 4 (Some 3) 2 1 route.Post 4
          (Some (5 ∷ 0 ∷ 7 ∷ 0 ∷ 0 ∷ 0 ∷ 0 ∷ 0 ∷ 0 ∷ 0 ∷ 0 ∷ 0 ∷ 4 ∷ 0 ∷ 0 ∷ 0 ∷ 0 ∷ 0 ∷ 0 ∷ 0 ∷ 0 ∷ 0 ∷ 0 ∷ 0
          ∷ 0 ∷ 0 ∷ 0 ∷ 0 ∷ 0 ∷ 0 ∷ 0 ∷ 0 ∷ 2 ∷ 0 ∷ 0 ∷ 0 ∷ 0 ∷ 0 ∷ 0 ∷ 0 ∷ []));
    } ∷ outer_causality_19

abbrev pub outer_causality_21 : List Entry
outer_causality_21 =
    record { lane = 1; deed = deed.Enter 4 3 3 (Some 4) ((value.Int (pos 2)) ∷ []) } ∷ outer_causality_20

abbrev pub outer_causality_22 : List Entry
outer_causality_22 =
    record { lane = 1; deed = deed.Copy (Some (record { object = 2; iface = 1 })) } ∷ outer_causality_21

abbrev pub outer_causality_23 : List Entry
outer_causality_23 =
    record {
      lane = 1;
      deed = deed.Out 5 (Some 2) 1 0 route.Post 4
          (Some (5 ∷ 0 ∷ 7 ∷ 0 ∷ 0 ∷ 0 ∷ 0 ∷ 0 ∷ 0 ∷ 0 ∷ 0 ∷ 0 ∷ 4 ∷ 0 ∷ 0 ∷ 0 ∷ 0 ∷ 0 ∷ 0 ∷ 0 ∷ 0 ∷ 0 ∷ 0 ∷ 0
          ∷ 0 ∷ 0 ∷ 0 ∷ 0 ∷ 0 ∷ 0 ∷ 0 ∷ 0 ∷ 2 ∷ 0 ∷ 0 ∷ 0 ∷ 0 ∷ 0 ∷ 0 ∷ 0 ∷ []));
    } ∷ outer_causality_22

abbrev pub outer_causality_24 : List Entry
outer_causality_24 =
    record { lane = 4; deed = deed.Enter 3 4 1 None ((value.Int (pos 1)) ∷ []) } ∷ outer_causality_23

abbrev pub outer_causality_25 : List Entry
outer_causality_25 =
    record { lane = 4; deed = deed.Copy (Some (record { object = 1; iface = 1 })) } ∷ outer_causality_24

abbrev pub outer_causality_26 : List Entry
outer_causality_26 =
    record {
      lane = 4;
      deed = deed.Out 6 (Some 1) 1 0 route.Post 3
          (Some (5 ∷ 0 ∷ 7 ∷ 0 ∷ 0 ∷ 0 ∷ 0 ∷ 0 ∷ 0 ∷ 0 ∷ 0 ∷ 0 ∷ 3 ∷ 0 ∷ 0 ∷ 0 ∷ 0 ∷ 0 ∷ 0 ∷ 0 ∷ 0 ∷ 0 ∷ 0 ∷ 0
          ∷ 0 ∷ 0 ∷ 0 ∷ 0 ∷ 0 ∷ 0 ∷ 0 ∷ 0 ∷ 1 ∷ 0 ∷ 0 ∷ 0 ∷ 0 ∷ 0 ∷ 0 ∷ 0 ∷ []));
    } ∷ outer_causality_25

abbrev pub outer_causality_27 : List Entry
outer_causality_27 =
    record { lane = 1; deed = deed.Enter 6 1 3 (Some 2) ((value.Int (pos 1)) ∷ []) } ∷ outer_causality_26

abbrev pub outer_causality_28 : List Entry
outer_causality_28 =
    record {
      lane = 1;
      deed = deed.Leave 6 (record { 0 = 0 }) (Some (value.Int (pos 1)))
          (Some (0 ∷ 0 ∷ 0 ∷ 0 ∷ 0 ∷ 0 ∷ 0 ∷ 0 ∷ 1 ∷ 0 ∷ 0 ∷ 0 ∷ 0 ∷ 0 ∷ 0 ∷ 0 ∷ 0 ∷ 0 ∷ 0 ∷ 0 ∷ []));
    }
    ∷ outer_causality_27

abbrev pub outer_causality_29 : List Entry
outer_causality_29 =
    record { lane = 4; deed = deed.Back 6 (record { 0 = 0 }) (Some (value.Int (pos 1))) } ∷ outer_causality_28

abbrev pub outer_causality_30 : List Entry
outer_causality_30 =
    record { lane = 5; deed = deed.Enter 5 2 1 None ((value.Int (pos 2)) ∷ []) } ∷ outer_causality_29

abbrev pub outer_causality_31 : List Entry
outer_causality_31 =
    record {
      lane = 4;
      deed = deed.Leave 3 (record { 0 = 0 }) (Some (value.Int (pos 1)))
          (Some (0 ∷ 0 ∷ 0 ∷ 0 ∷ 0 ∷ 0 ∷ 0 ∷ 0 ∷ 1 ∷ 0 ∷ 0 ∷ 0 ∷ 0 ∷ 0 ∷ 0 ∷ 0 ∷ 0 ∷ 0 ∷ 0 ∷ 0 ∷ []));
    }
    ∷ outer_causality_30

abbrev pub outer_causality_32 : List Entry
outer_causality_32 =
    record {
      lane = 5;
      deed = deed.Leave 5 (record { 0 = 0 }) (Some (value.Int (pos 2)))
          (Some (0 ∷ 0 ∷ 0 ∷ 0 ∷ 0 ∷ 0 ∷ 0 ∷ 0 ∷ 2 ∷ 0 ∷ 0 ∷ 0 ∷ 0 ∷ 0 ∷ 0 ∷ 0 ∷ 0 ∷ 0 ∷ 0 ∷ 0 ∷ []));
    }
    ∷ outer_causality_31

abbrev pub outer_causality_33 : List Entry
outer_causality_33 =
    record { lane = 1; deed = deed.Back 5 (record { 0 = 0 }) (Some (value.Int (pos 2))) } ∷ outer_causality_32

abbrev pub outer_causality_34 : List Entry
outer_causality_34 =
    record {
      lane = 1;
      deed = deed.Leave 4 (record { 0 = 0 }) (Some (value.Int (pos 2)))
          (Some (0 ∷ 0 ∷ 0 ∷ 0 ∷ 0 ∷ 0 ∷ 0 ∷ 0 ∷ 2 ∷ 0 ∷ 0 ∷ 0 ∷ 0 ∷ 0 ∷ 0 ∷ 0 ∷ 0 ∷ 0 ∷ 0 ∷ 0 ∷ []));
    }
    ∷ outer_causality_33

abbrev pub outer_causality_35 : List Entry
outer_causality_35 =
    record { lane = 2; deed = deed.Back 4 (record { 0 = 0 }) (Some (value.Int (pos 2))) } ∷ outer_causality_34

abbrev pub outer_causality_36 : List Entry
outer_causality_36 =
    record { lane = 1; deed = deed.Back 3 (record { 0 = 0 }) (Some (value.Int (pos 1))) } ∷ outer_causality_35

abbrev pub outer_causality_37 : List Entry
outer_causality_37 = record { lane = 2; deed = deed.Uninit (Some 1) 0 } ∷ outer_causality_36

abbrev pub outer_causality_38 : List Entry
outer_causality_38 = record { lane = 1; deed = deed.Uninit (Some 3) 0 } ∷ outer_causality_37

abbrev pub outer_causality_39 : List Entry
outer_causality_39 = record { lane = 2; deed = deed.End } ∷ outer_causality_38

abbrev pub outer_causality_40 : List Entry
outer_causality_40 = record { lane = 4; deed = deed.Final 2 } ∷ outer_causality_39

abbrev pub outer_causality_41 : List Entry
outer_causality_41 = record { lane = 5; deed = deed.Final 4 } ∷ outer_causality_40

abbrev pub outer_causality_42 : List Entry
outer_causality_42 = record { lane = 1; deed = deed.Final 1 } ∷ outer_causality_41

abbrev pub outer_causality_43 : List Entry
outer_causality_43 = record { lane = 1; deed = deed.Final 3 } ∷ outer_causality_42

abbrev pub outer_causality_44 : List Entry
outer_causality_44 = record { lane = 1; deed = deed.End } ∷ outer_causality_43

-- A call that is to be made again after 100 milliseconds.
abbrev pub delayed : Scenario
delayed = record {
  version = 1;
  pool = 1;
  classes = record {
    interfaces = built_in_interfaces;
    classes = (record {
      name = codes "Cnt";
      clsid = record {
        data1 = 1544224961;
        data2 = 0;
        data3 = 16384;
        data4 = 128 ∷ 0 ∷ 0 ∷ 0 ∷ 0 ∷ 0 ∷ 0 ∷ 1 ∷ [];
      };
      model = model.Both;
      native = native.Counter;
      interfaces = 1 ∷ [];
      bodies = [];
    })
        ∷ (record {
          name = codes "Far";
          clsid = record {
            data1 = 1544224962;
            data2 = 0;
            data3 = 16384;
            data4 = 128 ∷ 0 ∷ 0 ∷ 0 ∷ 0 ∷ 0 ∷ 0 ∷ 1 ∷ [];
          };
          model = model.Free;
          native = native.Counter;
          interfaces = 1 ∷ [];
          bodies = [];
        }) ∷ [];
  };
  filters = ((rule.Incoming (Some 4) 0 verdict.Later) ∷ []) ∷ ((rule.Retry None 0 (pos 100)) ∷ []) ∷ [];
  threads =
      ((stmt.Init mode.Sta) ∷ (stmt.SetFilter (Some 1)) ∷ (stmt.Create 0 (asked.Number 1) (asked.Number 1))
      ∷ (stmt.Create 1 (asked.Number 2) (asked.Number 1)) ∷ (stmt.Register 0 0)
      ∷ (stmt.Call 1 1 0 ((arg.Op (op.Literal (value.Int (pos 1)))) ∷ []) (destination.Register 1))
      ∷ (stmt.Pump 1) ∷ [])
      ∷ ((stmt.Init mode.Sta) ∷ (stmt.SetFilter (Some 2)) ∷ (stmt.Get 0 (op.Literal (value.Int (pos 1))))
      ∷ (stmt.Call 0 1 0 ((arg.Op (op.Literal (value.Int (pos 2)))) ∷ []) (destination.Register 1))
      ∷ []) ∷ [];
  picks = 1 ∷ 1 ∷ 1 ∷ 1 ∷ 1 ∷ 2 ∷ 2 ∷ 2 ∷ 1 ∷ 2 ∷ 1 ∷ [];
}

abbrev pub delayed_1 : List Entry
delayed_1 = record { lane = 1; deed = deed.Init mode.Sta 3 (record { 0 = 0 }) } ∷ []

abbrev pub delayed_2 : List Entry
delayed_2 = record { lane = 1; deed = deed.SetFilter (Some 1) (record { 0 = 0 }) } ∷ delayed_1

abbrev pub delayed_3 : List Entry
delayed_3 =
    record {
      lane = 1;
      deed = deed.Made (Some 1) (Some 3) (asked.Number 1) (asked.Number 1) (record { 0 = 0 });
    }
    ∷ delayed_2

abbrev pub delayed_4 : List Entry
delayed_4 =
    record {
      lane = 1;
      deed = deed.Made (Some 2) (Some 1) (asked.Number 2) (asked.Number 1) (record { 0 = 0 });
    }
    ∷ delayed_3

abbrev pub delayed_5 : List Entry
delayed_5 =
    record {
      lane = 1;
      deed = deed.Register (Some 1) (Some (record { object = 1; iface = 1 })) (record { 0 = 0 });
    }
    ∷ delayed_4

abbrev pub delayed_6 : List Entry
delayed_6 = record { lane = 2; deed = deed.Init mode.Sta 4 (record { 0 = 0 }) } ∷ delayed_5

abbrev pub delayed_7 : List Entry
delayed_7 = record { lane = 2; deed = deed.SetFilter (Some 2) (record { 0 = 0 }) } ∷ delayed_6

abbrev pub delayed_8 : List Entry
delayed_8 =
    record {
      lane = 2;
      deed = deed.Get (pos 1) (Some (record { object = 1; iface = 1 })) 5 (record { 0 = 0 });
    } ∷ delayed_7

abbrev pub delayed_9 : List Entry
delayed_9 =
    record {
      lane = 1;
      deed = deed.Out 1 (Some 2) 1 0 route.Post 1
          (Some (5 ∷ 0 ∷ 7 ∷ 0 ∷ 0 ∷ 0 ∷ 0 ∷ 0 ∷ 0 ∷ 0 ∷ 0 ∷ 0 ∷ 1 ∷ 0 ∷ 0 ∷ 0 ∷ 0 ∷ 0 ∷ 0 ∷ 0 ∷ 0 ∷ 0 ∷ 0 ∷ 0
          ∷ 0 ∷ 0 ∷ 0 ∷ 0 ∷ 0 ∷ 0 ∷ 0 ∷ 0 ∷ 1 ∷ 0 ∷ 0 ∷ 0 ∷ 0 ∷ 0 ∷ 0 ∷ 0 ∷ []));
    } ∷ delayed_8

abbrev pub delayed_10 : List Entry
delayed_10 =
    record {
      lane = 2;
      deed = deed.Out 2 (Some 1) 1 0 route.Post 2
          (Some (5 ∷ 0 ∷ 7 ∷ 0 ∷ 0 ∷ 0 ∷ 0 ∷ 0 ∷ 0 ∷ 0 ∷ 0 ∷ 0 ∷ 2 ∷ 0 ∷ 0 ∷ 0 ∷ 0 ∷ 0 ∷ 0 ∷ 0 ∷ 0 ∷ 0 ∷ 0 ∷ 0
          ∷ 0 ∷ 0 ∷ 0 ∷ 0 ∷ 0 ∷ 0 ∷ 0 ∷ 0 ∷ 2 ∷ 0 ∷ 0 ∷ 0 ∷ 0 ∷ 0 ∷ 0 ∷ 0 ∷ []));
    } ∷ delayed_9

abbrev pub delayed_11 : List Entry
delayed_11 = record { lane = 1; deed = deed.Verdict 2 4 verdict.Later } ∷ delayed_10

abbrev pub delayed_12 : List Entry
delayed_12 = record { lane = 2; deed = deed.Retry 2 (pos 100) } ∷ delayed_11

abbrev pub delayed_13 : List Entry
delayed_13 = record { lane = 4; deed = deed.Enter 1 2 1 None ((value.Int (pos 1)) ∷ []) } ∷ delayed_12

abbrev pub delayed_14 : List Entry
delayed_14 =
    record {
      lane = 4;
      deed = deed.Leave 1 (record { 0 = 0 }) (Some (value.Int (pos 1)))
          (Some (0 ∷ 0 ∷ 0 ∷ 0 ∷ 0 ∷ 0 ∷ 0 ∷ 0 ∷ 1 ∷ 0 ∷ 0 ∷ 0 ∷ 0 ∷ 0 ∷ 0 ∷ 0 ∷ 0 ∷ 0 ∷ 0 ∷ 0 ∷ []));
    }
    ∷ delayed_13

abbrev pub delayed_15 : List Entry
delayed_15 =
    record { lane = 1; deed = deed.Back 1 (record { 0 = 0 }) (Some (value.Int (pos 1))) } ∷ delayed_14

abbrev pub delayed_16 : List Entry
delayed_16 = record { lane = 1; deed = deed.Pump 1 } ∷ delayed_15

abbrev pub delayed_17 : List Entry
delayed_17 = record { lane = 0; deed = deed.Tick 100 } ∷ delayed_16

abbrev pub delayed_18 : List Entry
delayed_18 = record { lane = 2; deed = deed.Again 2 } ∷ delayed_17

abbrev pub delayed_19 : List Entry
delayed_19 = record { lane = 1; deed = deed.Enter 2 1 3 (Some 1) ((value.Int (pos 2)) ∷ []) } ∷ delayed_18

abbrev pub delayed_20 : List Entry
delayed_20 =
    record {
      lane = 1;
      deed = deed.Leave 2 (record { 0 = 0 }) (Some (value.Int (pos 2)))
          (Some (0 ∷ 0 ∷ 0 ∷ 0 ∷ 0 ∷ 0 ∷ 0 ∷ 0 ∷ 2 ∷ 0 ∷ 0 ∷ 0 ∷ 0 ∷ 0 ∷ 0 ∷ 0 ∷ 0 ∷ 0 ∷ 0 ∷ 0 ∷ []));
    }
    ∷ delayed_19

abbrev pub delayed_21 : List Entry
delayed_21 =
    record { lane = 2; deed = deed.Back 2 (record { 0 = 0 }) (Some (value.Int (pos 2))) } ∷ delayed_20

abbrev pub delayed_22 : List Entry
delayed_22 = record { lane = 1; deed = deed.EndPump } ∷ delayed_21

abbrev pub delayed_23 : List Entry
delayed_23 = record { lane = 2; deed = deed.Uninit (Some 4) 0 } ∷ delayed_22

abbrev pub delayed_24 : List Entry
delayed_24 = record { lane = 1; deed = deed.Uninit (Some 3) 0 } ∷ delayed_23

abbrev pub delayed_25 : List Entry
delayed_25 = record { lane = 2; deed = deed.End } ∷ delayed_24

abbrev pub delayed_26 : List Entry
delayed_26 = record { lane = 4; deed = deed.Final 2 } ∷ delayed_25

abbrev pub delayed_27 : List Entry
delayed_27 = record { lane = 1; deed = deed.Final 1 } ∷ delayed_26

abbrev pub delayed_28 : List Entry
delayed_28 = record { lane = 1; deed = deed.End } ∷ delayed_27

-- Bytes with a forged number of references name no packet; the packet itself is unmarshalled once.
abbrev pub forged : Scenario
forged = record {
  version = 1;
  pool = 1;
  classes = record {
    interfaces = built_in_interfaces;
    classes = (record {
      name = codes "Cnt";
      clsid = record {
        data1 = 1544224961;
        data2 = 0;
        data3 = 16384;
        data4 = 128 ∷ 0 ∷ 0 ∷ 0 ∷ 0 ∷ 0 ∷ 0 ∷ 1 ∷ [];
      };
      model = model.Both;
      native = native.Counter;
      interfaces = 1 ∷ [];
      bodies = [];
    }) ∷ [];
  };
  filters = [];
  threads =
      ((stmt.Init mode.Sta) ∷ (stmt.Create 0 (asked.Number 1) (asked.Number 1))
      ∷ (stmt.Marshal 0 0 marshal.Normal)
      ∷ (stmt.Raw 1
      (77 ∷ 69 ∷ 79 ∷ 87 ∷ 1 ∷ 0 ∷ 0 ∷ 0 ∷ 1 ∷ 0 ∷ 11 ∷ 92 ∷ 0 ∷ 0 ∷ 0 ∷ 64 ∷ 128 ∷ 0 ∷ 0 ∷ 0 ∷ 0 ∷ 0
      ∷ 0 ∷ 1 ∷ 0 ∷ 0 ∷ 0 ∷ 0 ∷ 6 ∷ 0 ∷ 0 ∷ 0 ∷ 3 ∷ 0 ∷ 0 ∷ 0 ∷ 0 ∷ 0 ∷ 0 ∷ 0 ∷ 1 ∷ 0 ∷ 0 ∷ 0 ∷ 0 ∷ 0
      ∷ 0 ∷ 0 ∷ 1 ∷ 0 ∷ 0 ∷ 0 ∷ 1 ∷ 0 ∷ 3 ∷ 0 ∷ 1 ∷ 0 ∷ 0 ∷ 0 ∷ 0 ∷ 0 ∷ 0 ∷ 0 ∷ 2 ∷ 0 ∷ 1 ∷ 0 ∷ 0 ∷ 0
      ∷ 0 ∷ 0 ∷ [])) ∷ (stmt.Unmarshal 1 1) ∷ (stmt.Unmarshal 1 0) ∷ (stmt.Unmarshal 2 0) ∷ []) ∷ [];
  picks = [];
}

abbrev pub forged_1 : List Entry
forged_1 = record { lane = 1; deed = deed.Init mode.Sta 3 (record { 0 = 0 }) } ∷ []

abbrev pub forged_2 : List Entry
forged_2 =
    record {
      lane = 1;
      deed = deed.Made (Some 1) (Some 3) (asked.Number 1) (asked.Number 1) (record { 0 = 0 });
    } ∷ forged_1

abbrev pub forged_3 : List Entry
forged_3 =
    record {
      lane = 1;
      deed = deed.Marshal (Some 1) marshal.Normal (Some (record { object = 1; iface = 1 })) 5
          (record { 0 = 0 })
          (Some (77 ∷ 69 ∷ 79 ∷ 87 ∷ 1 ∷ 0 ∷ 0 ∷ 0 ∷ 1 ∷ 0 ∷ 11 ∷ 92 ∷ 0 ∷ 0 ∷ 0 ∷ 64 ∷ 128 ∷ 0 ∷ 0 ∷ 0 ∷ 0
          ∷ 0 ∷ 0 ∷ 1 ∷ 0 ∷ 0 ∷ 0 ∷ 0 ∷ 5 ∷ 0 ∷ 0 ∷ 0 ∷ 3 ∷ 0 ∷ 0 ∷ 0 ∷ 0 ∷ 0 ∷ 0 ∷ 0 ∷ 1 ∷ 0 ∷ 0 ∷ 0 ∷ 0 ∷ 0
          ∷ 0 ∷ 0 ∷ 1 ∷ 0 ∷ 0 ∷ 0 ∷ 1 ∷ 0 ∷ 3 ∷ 0 ∷ 1 ∷ 0 ∷ 0 ∷ 0 ∷ 0 ∷ 0 ∷ 0 ∷ 0 ∷ 2 ∷ 0 ∷ 1 ∷ 0 ∷ 0 ∷ 0 ∷ 0
          ∷ 0 ∷ []));
    } ∷ forged_2

abbrev pub forged_4 : List Entry
forged_4 = record { lane = 1; deed = deed.Raw 1 72 } ∷ forged_3

abbrev pub forged_5 : List Entry
forged_5 = record { lane = 1; deed = deed.Unmarshal None None 0 CO_E_OBJNOTCONNECTED } ∷ forged_4

abbrev pub forged_6 : List Entry
forged_6 =
    record {
      lane = 1;
      deed = deed.Unmarshal (Some 1) (Some (record { object = 1; iface = 1 })) 0 (record { 0 = 0 });
    }
    ∷ forged_5

abbrev pub forged_7 : List Entry
forged_7 = record { lane = 1; deed = deed.Unmarshal None None 0 CO_E_OBJNOTCONNECTED } ∷ forged_6

abbrev pub forged_8 : List Entry
forged_8 = record { lane = 1; deed = deed.Uninit (Some 3) 0 } ∷ forged_7

abbrev pub forged_9 : List Entry
forged_9 = record { lane = 1; deed = deed.Final 1 } ∷ forged_8

abbrev pub forged_10 : List Entry
forged_10 = record { lane = 1; deed = deed.End } ∷ forged_9

-- A proxy gives half of its references, rounded down, and where it has 1 the packet has 5 new ones.
abbrev pub halved : Scenario
halved = record {
  version = 1;
  pool = 1;
  classes = record {
    interfaces = built_in_interfaces;
    classes = (record {
      name = codes "Far";
      clsid = record {
        data1 = 1544224962;
        data2 = 0;
        data3 = 16384;
        data4 = 128 ∷ 0 ∷ 0 ∷ 0 ∷ 0 ∷ 0 ∷ 0 ∷ 1 ∷ [];
      };
      model = model.Free;
      native = native.Counter;
      interfaces = 1 ∷ [];
      bodies = [];
    }) ∷ [];
  };
  filters = [];
  threads =
      ((stmt.Init mode.Sta) ∷ (stmt.Create 0 (asked.Number 1) (asked.Number 1))
      ∷ (stmt.Marshal 0 0 marshal.Normal) ∷ (stmt.Marshal 1 0 marshal.Normal)
      ∷ (stmt.Marshal 2 0 marshal.Normal) ∷ (stmt.Marshal 3 0 marshal.Normal) ∷ []) ∷ [];
  picks = [];
}

abbrev pub halved_1 : List Entry
halved_1 = record { lane = 1; deed = deed.Init mode.Sta 3 (record { 0 = 0 }) } ∷ []

abbrev pub halved_2 : List Entry
halved_2 =
    record {
      lane = 1;
      deed = deed.Made (Some 1) (Some 1) (asked.Number 1) (asked.Number 1) (record { 0 = 0 });
    } ∷ halved_1

abbrev pub halved_3 : List Entry
halved_3 =
    record {
      lane = 1;
      deed = deed.Marshal (Some 1) marshal.Normal (Some (record { object = 1; iface = 1 })) 2
          (record { 0 = 0 })
          (Some (77 ∷ 69 ∷ 79 ∷ 87 ∷ 1 ∷ 0 ∷ 0 ∷ 0 ∷ 1 ∷ 0 ∷ 11 ∷ 92 ∷ 0 ∷ 0 ∷ 0 ∷ 64 ∷ 128 ∷ 0 ∷ 0 ∷ 0 ∷ 0
          ∷ 0 ∷ 0 ∷ 1 ∷ 0 ∷ 0 ∷ 0 ∷ 0 ∷ 2 ∷ 0 ∷ 0 ∷ 0 ∷ 1 ∷ 0 ∷ 0 ∷ 0 ∷ 0 ∷ 0 ∷ 0 ∷ 0 ∷ 1 ∷ 0 ∷ 0 ∷ 0 ∷ 0 ∷ 0
          ∷ 0 ∷ 0 ∷ 1 ∷ 0 ∷ 0 ∷ 0 ∷ 1 ∷ 0 ∷ 1 ∷ 0 ∷ 1 ∷ 0 ∷ 0 ∷ 0 ∷ 0 ∷ 0 ∷ 0 ∷ 0 ∷ 2 ∷ 0 ∷ 1 ∷ 0 ∷ 0 ∷ 0 ∷ 0
          ∷ 0 ∷ []));
    } ∷ halved_2

abbrev pub halved_4 : List Entry
halved_4 =
    record {
      lane = 1;
      deed = deed.Marshal (Some 2) marshal.Normal (Some (record { object = 1; iface = 1 })) 1
          (record { 0 = 0 })
          (Some (77 ∷ 69 ∷ 79 ∷ 87 ∷ 1 ∷ 0 ∷ 0 ∷ 0 ∷ 1 ∷ 0 ∷ 11 ∷ 92 ∷ 0 ∷ 0 ∷ 0 ∷ 64 ∷ 128 ∷ 0 ∷ 0 ∷ 0 ∷ 0
          ∷ 0 ∷ 0 ∷ 1 ∷ 0 ∷ 0 ∷ 0 ∷ 0 ∷ 1 ∷ 0 ∷ 0 ∷ 0 ∷ 1 ∷ 0 ∷ 0 ∷ 0 ∷ 0 ∷ 0 ∷ 0 ∷ 0 ∷ 1 ∷ 0 ∷ 0 ∷ 0 ∷ 0 ∷ 0
          ∷ 0 ∷ 0 ∷ 1 ∷ 0 ∷ 0 ∷ 0 ∷ 1 ∷ 0 ∷ 1 ∷ 0 ∷ 2 ∷ 0 ∷ 0 ∷ 0 ∷ 0 ∷ 0 ∷ 0 ∷ 0 ∷ 2 ∷ 0 ∷ 1 ∷ 0 ∷ 0 ∷ 0 ∷ 0
          ∷ 0 ∷ []));
    } ∷ halved_3

abbrev pub halved_5 : List Entry
halved_5 =
    record {
      lane = 1;
      deed = deed.Marshal (Some 3) marshal.Normal (Some (record { object = 1; iface = 1 })) 1
          (record { 0 = 0 })
          (Some (77 ∷ 69 ∷ 79 ∷ 87 ∷ 1 ∷ 0 ∷ 0 ∷ 0 ∷ 1 ∷ 0 ∷ 11 ∷ 92 ∷ 0 ∷ 0 ∷ 0 ∷ 64 ∷ 128 ∷ 0 ∷ 0 ∷ 0 ∷ 0
          ∷ 0 ∷ 0 ∷ 1 ∷ 0 ∷ 0 ∷ 0 ∷ 0 ∷ 1 ∷ 0 ∷ 0 ∷ 0 ∷ 1 ∷ 0 ∷ 0 ∷ 0 ∷ 0 ∷ 0 ∷ 0 ∷ 0 ∷ 1 ∷ 0 ∷ 0 ∷ 0 ∷ 0 ∷ 0
          ∷ 0 ∷ 0 ∷ 1 ∷ 0 ∷ 0 ∷ 0 ∷ 1 ∷ 0 ∷ 1 ∷ 0 ∷ 3 ∷ 0 ∷ 0 ∷ 0 ∷ 0 ∷ 0 ∷ 0 ∷ 0 ∷ 2 ∷ 0 ∷ 1 ∷ 0 ∷ 0 ∷ 0 ∷ 0
          ∷ 0 ∷ []));
    } ∷ halved_4

abbrev pub halved_6 : List Entry
halved_6 =
    record {
      lane = 1;
      deed = deed.Marshal (Some 4) marshal.Normal (Some (record { object = 1; iface = 1 })) 5
          (record { 0 = 0 })
          (Some (77 ∷ 69 ∷ 79 ∷ 87 ∷ 1 ∷ 0 ∷ 0 ∷ 0 ∷ 1 ∷ 0 ∷ 11 ∷ 92 ∷ 0 ∷ 0 ∷ 0 ∷ 64 ∷ 128 ∷ 0 ∷ 0 ∷ 0 ∷ 0
          ∷ 0 ∷ 0 ∷ 1 ∷ 0 ∷ 0 ∷ 0 ∷ 0 ∷ 5 ∷ 0 ∷ 0 ∷ 0 ∷ 1 ∷ 0 ∷ 0 ∷ 0 ∷ 0 ∷ 0 ∷ 0 ∷ 0 ∷ 1 ∷ 0 ∷ 0 ∷ 0 ∷ 0 ∷ 0
          ∷ 0 ∷ 0 ∷ 1 ∷ 0 ∷ 0 ∷ 0 ∷ 1 ∷ 0 ∷ 1 ∷ 0 ∷ 4 ∷ 0 ∷ 0 ∷ 0 ∷ 0 ∷ 0 ∷ 0 ∷ 0 ∷ 2 ∷ 0 ∷ 1 ∷ 0 ∷ 0 ∷ 0 ∷ 0
          ∷ 0 ∷ []));
    } ∷ halved_5

abbrev pub halved_7 : List Entry
halved_7 = record { lane = 1; deed = deed.Uninit (Some 3) 0 } ∷ halved_6

abbrev pub halved_8 : List Entry
halved_8 = record { lane = 1; deed = deed.End } ∷ halved_7

-- The lines that are printed of the direct call, and the report behind them.
abbrev pub direct_call_text : List ℕ
direct_call_text =
    codes "1 L1 init sta a3 S_OK\n"
    ++ codes "2 L1 made o1 a3 C1 I1 S_OK\n"
    ++ codes "3 L1 out c1 o1 I1.0 direct cause1 -\n"
    ++ codes "4 L1 enter c1 o1 a3 - (5)\n"
    ++ codes "5 L1 leave c1 S_OK (5) -\n"
    ++ codes "6 L1 back c1 S_OK (5)\n"
    ++ codes "7 L1 release o1 I1\n"
    ++ codes "8 L1 final o1\n"
    ++ codes "9 L1 uninit a3 0\n"
    ++ codes "10 L1 end\n"

-- The report of the direct call: object 1 is released, nothing is held, and all is done in 10 entries.
abbrev pub direct_call_report : List ℕ
direct_call_report =
    codes "o1 C1 a3 released direct 0 proxies 0 packets 0 tables 0 stub 0\n"
    ++ codes "entries 10 clock 0\n"
    ++ codes "end ok\n"

-- The report of the packets that a proxy gave: the proxy gave the rest of its references back when its
-- apartment ended.
abbrev pub halved_report : List ℕ
halved_report =
    codes "o1 C1 a1 live direct 0 proxies 0 packets 9 tables 0 stub 9\n"
    ++ codes "entries 8 clock 0\n"
    ++ codes "end ok\n"

-- A Back of another call than the innermost Out's, and a Leave of another than the innermost Enter's.
abbrev pub foreign_back : List Entry
foreign_back = record { lane = 1; deed = deed.Back 2 (record { 0 = 0 }) None } ∷ direct_call_3

abbrev pub foreign_leave : List Entry
foreign_leave = record { lane = 1; deed = deed.Leave 2 (record { 0 = 0 }) None None } ∷ direct_call_4
