-- The built-in interfaces, with their methods and the bodies of their classes.
use Rattle.std.specs.Prelude.{List, [], ◌∷◌, true, false, Some, None, pos, codes}
use Rattle.com_base.specs.declared.limits.TheConstants.{ANSWER_REGISTER}
use Rattle.com_base.specs.declared.value.Kind.TheVariants as kind
use Rattle.com_base.specs.declared.value.Value.TheVariants as value
use Rattle.com_body.specs.declared.statements.Stmt.{Stmt}
use Rattle.com_body.specs.declared.statements.Stmt.TheVariants as stmt
use Rattle.com_body.specs.declared.operands.Op.TheVariants as op
use Rattle.com_body.specs.declared.operands.Place.TheVariants as place
use Rattle.com_body.specs.declared.operands.Arg.TheVariants as arg
use Rattle.com_body.specs.declared.operands.Code.{Code}
use Rattle.com_body.specs.declared.operands.Code.TheVariants as code
use Rattle.com_body.specs.declared.operands.Given.TheVariants as given
use Rattle.com_body.specs.declared.operands.Destination.TheVariants as destination
use Rattle.com_classes.specs.declared.interfaces.Interface.{Interface}

-- Interface 0, which every object has. It has no method that a call may name.
abbrev pub iunknown : Interface
iunknown = record {
  name = codes "IUnknown";
  iid = record {
    data1 = 0x00000000;
    data2 = 0x0000;
    data3 = 0x0000;
    data4 = 0xC0 ∷ 0 ∷ 0 ∷ 0 ∷ 0 ∷ 0 ∷ 0 ∷ 0x46 ∷ [];
  };
  methods = [];
}

-- Interface 1: `add int -> int` and `get -> int`.
abbrev pub icounter : Interface
icounter = record {
  name = codes "ICounter";
  iid = record {
    data1 = 0x5C0B0001;
    data2 = 0x0000;
    data3 = 0x4000;
    data4 = 0x80 ∷ 0 ∷ 0 ∷ 0 ∷ 0 ∷ 0 ∷ 0 ∷ 1 ∷ [];
  };
  methods =
      record { name = codes "add"; params = kind.Int ∷ []; result = Some kind.Int } ∷
      record { name = codes "get"; params = []; result = Some kind.Int } ∷ [];
}

-- Interface 2: `set ICounter` and `forward int -> int`.
abbrev pub irelay : Interface
irelay = record {
  name = codes "IRelay";
  iid = record {
    data1 = 0x5C0B0002;
    data2 = 0x0000;
    data3 = 0x4000;
    data4 = 0x80 ∷ 0 ∷ 0 ∷ 0 ∷ 0 ∷ 0 ∷ 0 ∷ 1 ∷ [];
  };
  methods =
      record { name = codes "set"; params = kind.Ref 1 ∷ []; result = None } ∷
      record { name = codes "forward"; params = kind.Int ∷ []; result = Some kind.Int } ∷ [];
}

-- Interface 3: `set` and `test -> bool`.
abbrev pub ilatch : Interface
ilatch = record {
  name = codes "ILatch";
  iid = record {
    data1 = 0x5C0B0003;
    data2 = 0x0000;
    data3 = 0x4000;
    data4 = 0x80 ∷ 0 ∷ 0 ∷ 0 ∷ 0 ∷ 0 ∷ 0 ∷ 1 ∷ [];
  };
  methods =
      record { name = codes "set"; params = []; result = None } ∷
      record { name = codes "test"; params = []; result = Some kind.Bool } ∷ [];
}

-- The interfaces that every scenario begins with, in the order of their numbers, from 0.
abbrev pub built_in_interfaces : List Interface
built_in_interfaces = iunknown ∷ icounter ∷ irelay ∷ ilatch ∷ []

-- S_OK as a code.
abbrev pub with_ok : Code
with_ok = code.Literal (record { 0 = 0 })

-- ICounter.add and ICounter.get: cell 0 is the sum.
abbrev pub counter_bodies : List (List Stmt)
counter_bodies =
    (stmt.Load 1 0 ∷ stmt.Add 1 (op.Register 0) ∷ stmt.Store 0 (op.Register 1) ∷
    stmt.Leave with_ok (given.Op (op.Register 1)) ∷ []) ∷
    (stmt.Load 1 0 ∷ stmt.Leave with_ok (given.Op (op.Register 1)) ∷ []) ∷ []

-- IRelay.set and IRelay.forward: link 0 is the counter to which `forward` adds.
abbrev pub relay_bodies : List (List Stmt)
relay_bodies =
    (stmt.Copy (place.Link 0) (place.Slot 0) ∷ stmt.Leave with_ok given.Nothing ∷ []) ∷
    (stmt.Copy (place.Slot 0) (place.Link 0) ∷
    stmt.Call 0 1 0 (arg.Op (op.Register 0) ∷ []) (destination.Register 1) ∷
    stmt.Leave (code.Register ANSWER_REGISTER) (given.Op (op.Register 1)) ∷ []) ∷ []

-- ILatch.set and ILatch.test: cell 0 is 1 once it was set.
abbrev pub latch_bodies : List (List Stmt)
latch_bodies =
    (stmt.Store 0 (op.Literal (value.Int (pos 1))) ∷ stmt.Leave with_ok given.Nothing ∷ []) ∷
    (stmt.Load 1 0 ∷ stmt.Set 2 (op.Literal (value.Bool false)) ∷ stmt.SkipZero 1 1 ∷
    stmt.Set 2 (op.Literal (value.Bool true)) ∷ stmt.Leave with_ok (given.Op (op.Register 2)) ∷ []) ∷ []
