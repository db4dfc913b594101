-- Statements: what a line's first words say goes on to be said of the whole line.
use Rattle.std.proofs.Common.{ℕ, ◌+◌, List, [], ◌∷◌, ◌++◌, length, Option, Some, None, Ok}
use Rattle.std.specs.Prelude.{bytes_eq, codes}
use Rattle.com_base.specs.declared.value.Kind.{Kind}
use Rattle.com_body.specs.declared.operands.Arg.{Arg}
use Rattle.com_body.specs.declared.statements.Stmt.TheVariants as stmts
use Rattle.com_classes.specs.declared.interfaces.Method.{Method}
use Rattle.com_text.specs.Words.{WordAt}
use Rattle.com_read_operands.specs.Reading.{word_at, stands_at, number_at}
use Rattle.com_read_operands.specs.Naming.{name_at, declared_at, asked_at}
use Rattle.com_read_operands.specs.Operands.{operand_of, register_at, slot_at, cell_at, buffer_at, place_at, op_at, code_at, mode_at, marshal_mode_at}
use Rattle.com_read_statements.specs.declared.calls.MethodNumber.{MethodNumber}
use Rattle.com_read_statements.specs.declared.calls.Target.{Target}
use Rattle.com_read_statements.specs.declared.calls.Target.TheVariants as targets
use Rattle.com_read_statements.specs.declared.keywords.Program.{Program}
use Rattle.com_read_statements.specs.declared.keywords.LocalWord.{LocalWord}
use Rattle.com_read_statements.specs.declared.keywords.LocalWord.TheVariants as locals
use Rattle.com_read_statements.specs.declared.keywords.ObjectWord.{ObjectWord}
use Rattle.com_read_statements.specs.declared.keywords.ObjectWord.TheVariants as objects
use Rattle.com_read_statements.specs.declared.keywords.LaneWord.{LaneWord}
use Rattle.com_read_statements.specs.declared.keywords.LaneWord.TheVariants as lanes
use Rattle.com_read_statements.specs.declared.keywords.Keyword.{Keyword}
use Rattle.com_read_statements.specs.declared.keywords.Keyword.TheVariants as keywords
use Rattle.com_read_statements.specs.declared.names.Names.{Names}
use Rattle.com_read_statements.specs.Keywords.{has_cells, has_links}
use Rattle.com_read_statements.specs.Calls.{method_of, target_at, method_at, argument_at, arguments_on, landing_of, destination_at, call_of, signed_call, call_by, call_at}
use Rattle.com_read_statements.specs.Statements.{local_of, raw_at, object_of, filter_at, lane_of, stmt_of}
use Rattle.com_laws_faults.proofs.Goes.{Sure, Goes, still, stays, goes, bind, surely, by_word, map, optional, either, surely_either}
use Rattle.com_laws_faults.proofs.Words.{word_sure, ends, stands_or_not, number_sure, name_sure, declared_sure, asked_sure, register_sure, slot_sure, cell_sure, buffer_sure, place_sure, op_sure, code_sure, mode_sure, marshal_mode_sure, given_ends}

module _ (p a : List WordAt) where
  target_sure : (names : Names) (k : ℕ) → Sure (target_at names p k) (target_at names (p ++ a) k)
  unfolding target_at
  target_sure names k = by_word (word_at p k) (word_at (p ++ a) k) _ (word_sure p a k)

  pub head_sure : (names : Names) (k : ℕ) → Sure (method_at names p k) (method_at names (p ++ a) k)
  unfolding method_at
  head_sure names k = by_word (word_at p k) (word_at (p ++ a) k) _ (word_sure p a k)

  argument_sure : (kind : Kind) (k : ℕ) → Sure (argument_at kind p k) (argument_at kind (p ++ a) k)
  unfolding argument_at
  argument_sure kind k = by_word (word_at p k) (word_at (p ++ a) k) _ (word_sure p a k)

  arguments_sure : (done : List Arg) (ps : List Kind) (k : ℕ) → Sure (arguments_on done ps p k) (arguments_on done ps (p ++ a) k)
  arguments_sure done [] k = still (Ok done)
  arguments_sure done (q ∷ qs) k = surely (argument_at q p k) (argument_at q (p ++ a) k) _ _ (argument_sure q k) (λ x. arguments_sure (done ++ x ∷ []) qs (k + 1))

  destination_goes : (kind : Option Kind) (k : ℕ) → Goes (destination_at kind p k) (destination_at kind (p ++ a) k)
  unfolding destination_at
  destination_goes kind k = optional (stands_at p k) (stands_at (p ++ a) k) _ _ (stands_or_not p a k) tt (λ there. either there _ _ _ _
      (λ _. bind (word_at p k) (word_at (p ++ a) k) _ _ (word_sure p a k) (λ arrow. either (bytes_eq arrow.bytes (codes "->")) _ _ _ _
      (λ _. bind (word_at p (k + 1)) (word_at (p ++ a) (k + 1)) _ _ (word_sure p a (k + 1)) (λ w.
      bind (landing_of kind w (operand_of w)) (landing_of kind w (operand_of w)) _ _ (still _) (λ d. ends p a (k + 2) d d)))
      (λ _. stays _)))
      (λ _. stays _))

  call_of_goes : (slot : ℕ) (number : MethodNumber) (m : Method) → Goes (call_of slot number m p) (call_of slot number m (p ++ a))
  unfolding call_of
  call_of_goes slot number m =
      bind (arguments_on [] m.params p 3) (arguments_on [] m.params (p ++ a) 3) _ _ (arguments_sure [] m.params 3) (λ given.
      map (destination_at m.result p (3 + length m.params)) (destination_at m.result (p ++ a) (3 + length m.params)) _ _ (destination_goes m.result (3 + length m.params)))

  signed_goes : (slot : ℕ) (number : MethodNumber) (o : Option Method) → Goes (signed_call slot number o p) (signed_call slot number o (p ++ a))
  signed_goes slot number None = goes _ _ (by_word (word_at p 2) (word_at (p ++ a) 2) _ (word_sure p a 2))
  signed_goes slot number (Some m) = call_of_goes slot number m

  call_by_goes : (names : Names) (slot : ℕ) (t : Target) → Goes (call_by names slot p t) (call_by names slot (p ++ a) t)
  call_by_goes names slot (targets.Named m) = signed_goes slot m (method_of names.tables m.iface m.method)
  call_by_goes names slot (targets.Numbered m) = ends p a 3 _ _

  call_goes : (names : Names) → Goes (call_at names p) (call_at names (p ++ a))
  unfolding call_at
  call_goes names =
      bind (slot_at p 1) (slot_at (p ++ a) 1) _ _ (slot_sure p a 1) (λ slot.
      bind (target_at names p 2) (target_at names (p ++ a) 2) _ _ (target_sure names 2) (λ t. call_by_goes names slot t))

  local_goes : (pr : Program) (k : LocalWord) → Goes (local_of pr k p) (local_of pr k (p ++ a))
  unfolding local_of
  local_goes pr locals.Set =
      bind (register_at p 1) (register_at (p ++ a) 1) _ _ (register_sure p a 1) (λ to.
      bind (op_at p 2) (op_at (p ++ a) 2) _ _ (op_sure p a 2) (λ from. ends p a 3 _ _))
  local_goes pr locals.Add =
      bind (register_at p 1) (register_at (p ++ a) 1) _ _ (register_sure p a 1) (λ to.
      bind (op_at p 2) (op_at (p ++ a) 2) _ _ (op_sure p a 2) (λ from. ends p a 3 _ _))
  local_goes pr locals.Sub =
      bind (register_at p 1) (register_at (p ++ a) 1) _ _ (register_sure p a 1) (λ to.
      bind (op_at p 2) (op_at (p ++ a) 2) _ _ (op_sure p a 2) (λ from. ends p a 3 _ _))
  local_goes pr locals.Less =
      bind (register_at p 1) (register_at (p ++ a) 1) _ _ (register_sure p a 1) (λ to.
      bind (op_at p 2) (op_at (p ++ a) 2) _ _ (op_sure p a 2) (λ left.
      bind (op_at p 3) (op_at (p ++ a) 3) _ _ (op_sure p a 3) (λ right. ends p a 4 _ _)))
  local_goes pr locals.Same =
      bind (register_at p 1) (register_at (p ++ a) 1) _ _ (register_sure p a 1) (λ to.
      bind (slot_at p 2) (slot_at (p ++ a) 2) _ _ (slot_sure p a 2) (λ left.
      bind (slot_at p 3) (slot_at (p ++ a) 3) _ _ (slot_sure p a 3) (λ right. ends p a 4 _ _)))
  local_goes pr locals.Load =
      bind (register_at p 1) (register_at (p ++ a) 1) _ _ (register_sure p a 1) (λ to.
      bind (cell_at (has_cells pr) p 2) (cell_at (has_cells pr) (p ++ a) 2) _ _ (cell_sure p a (has_cells pr) 2) (λ cell. ends p a 3 _ _))
  local_goes pr locals.Store =
      bind (cell_at (has_cells pr) p 1) (cell_at (has_cells pr) (p ++ a) 1) _ _ (cell_sure p a (has_cells pr) 1) (λ cell.
      bind (op_at p 2) (op_at (p ++ a) 2) _ _ (op_sure p a 2) (λ from. ends p a 3 _ _))
  local_goes pr locals.Skip =
      bind (number_at 1 2000 p 1) (number_at 1 2000 (p ++ a) 1) _ _ (number_sure p a 1 2000 1) (λ count. ends p a 2 _ _)
  local_goes pr locals.SkipZero =
      bind (register_at p 1) (register_at (p ++ a) 1) _ _ (register_sure p a 1) (λ register.
      bind (number_at 1 2000 p 2) (number_at 1 2000 (p ++ a) 2) _ _ (number_sure p a 1 2000 2) (λ count. ends p a 3 _ _))

  raw_sure : (k : ℕ) → Sure (raw_at p k) (raw_at (p ++ a) k)
  unfolding raw_at
  raw_sure k = by_word (word_at p k) (word_at (p ++ a) k) _ (word_sure p a k)

  object_goes : (pr : Program) (names : Names) (k : ObjectWord) → Goes (object_of pr names k p) (object_of pr names k (p ++ a))
  unfolding object_of
  object_goes pr names objects.Create =
      bind (slot_at p 1) (slot_at (p ++ a) 1) _ _ (slot_sure p a 1) (λ slot.
      bind (asked_at names.classes 1 p 2) (asked_at names.classes 1 (p ++ a) 2) _ _ (asked_sure p a names.classes 1 2) (λ class.
      bind (asked_at names.interfaces 0 p 3) (asked_at names.interfaces 0 (p ++ a) 3) _ _ (asked_sure p a names.interfaces 0 3) (λ iface. ends p a 4 _ _)))
  object_goes pr names objects.Query =
      bind (slot_at p 1) (slot_at (p ++ a) 1) _ _ (slot_sure p a 1) (λ to.
      bind (slot_at p 2) (slot_at (p ++ a) 2) _ _ (slot_sure p a 2) (λ from.
      bind (asked_at names.interfaces 0 p 3) (asked_at names.interfaces 0 (p ++ a) 3) _ _ (asked_sure p a names.interfaces 0 3) (λ iface. ends p a 4 _ _)))
  object_goes pr names objects.Copy =
      bind (place_at (has_links pr) p 1) (place_at (has_links pr) (p ++ a) 1) _ _ (place_sure p a (has_links pr) 1) (λ to.
      bind (place_at (has_links pr) p 2) (place_at (has_links pr) (p ++ a) 2) _ _ (place_sure p a (has_links pr) 2) (λ from. ends p a 3 _ _))
  object_goes pr names objects.Release =
      bind (place_at (has_links pr) p 1) (place_at (has_links pr) (p ++ a) 1) _ _ (place_sure p a (has_links pr) 1) (λ place. ends p a 2 _ _)
  object_goes pr names objects.Call = call_goes names
  object_goes pr names objects.Marshal =
      bind (buffer_at p 1) (buffer_at (p ++ a) 1) _ _ (buffer_sure p a 1) (λ buffer.
      bind (slot_at p 2) (slot_at (p ++ a) 2) _ _ (slot_sure p a 2) (λ slot.
      bind (marshal_mode_at p 3) (marshal_mode_at (p ++ a) 3) _ _ (marshal_mode_sure p a 3) (λ mode. ends p a 4 _ _)))
  object_goes pr names objects.Unmarshal =
      bind (slot_at p 1) (slot_at (p ++ a) 1) _ _ (slot_sure p a 1) (λ slot.
      bind (buffer_at p 2) (buffer_at (p ++ a) 2) _ _ (buffer_sure p a 2) (λ buffer. ends p a 3 _ _))
  object_goes pr names objects.Drop =
      bind (buffer_at p 1) (buffer_at (p ++ a) 1) _ _ (buffer_sure p a 1) (λ buffer. ends p a 2 _ _)
  object_goes pr names objects.Raw =
      bind (buffer_at p 1) (buffer_at (p ++ a) 1) _ _ (buffer_sure p a 1) (λ buffer.
      bind (raw_at p 2) (raw_at (p ++ a) 2) _ _ (raw_sure 2) (λ bytes. ends p a 3 _ _))
  object_goes pr names objects.Disconnect =
      bind (slot_at p 1) (slot_at (p ++ a) 1) _ _ (slot_sure p a 1) (λ slot. ends p a 2 _ _)

  filter_sure : (filters : List (List ℕ)) (k : ℕ) → Sure (filter_at filters p k) (filter_at filters (p ++ a) k)
  unfolding filter_at
  filter_sure filters k = surely (name_at p k) (name_at (p ++ a) k) _ _ (name_sure p a k) (λ w. surely_either (bytes_eq w.bytes (codes "none")) _ _ _ _
      (λ _. still _)
      (λ _. by_word (declared_at filters p k) (declared_at filters (p ++ a) k) _ (declared_sure p a filters k)))

  lane_goes : (names : Names) (k : LaneWord) → Goes (lane_of names k p) (lane_of names k (p ++ a))
  unfolding lane_of
  lane_goes names lanes.Register =
      bind (register_at p 1) (register_at (p ++ a) 1) _ _ (register_sure p a 1) (λ to.
      bind (slot_at p 2) (slot_at (p ++ a) 2) _ _ (slot_sure p a 2) (λ slot. ends p a 3 _ _))
  lane_goes names lanes.Get =
      bind (slot_at p 1) (slot_at (p ++ a) 1) _ _ (slot_sure p a 1) (λ slot.
      bind (op_at p 2) (op_at (p ++ a) 2) _ _ (op_sure p a 2) (λ cookie. ends p a 3 _ _))
  lane_goes names lanes.Revoke =
      bind (op_at p 1) (op_at (p ++ a) 1) _ _ (op_sure p a 1) (λ cookie. ends p a 2 _ _)
  lane_goes names lanes.Post =
      bind (op_at p 1) (op_at (p ++ a) 1) _ _ (op_sure p a 1) (λ lane.
      bind (op_at p 2) (op_at (p ++ a) 2) _ _ (op_sure p a 2) (λ word. ends p a 3 _ _))
  lane_goes names lanes.Quit =
      bind (op_at p 1) (op_at (p ++ a) 1) _ _ (op_sure p a 1) (λ lane. ends p a 2 _ _)
  lane_goes names lanes.Leave =
      bind (code_at p 1) (code_at (p ++ a) 1) _ _ (code_sure p a 1) (λ answer. given_ends p a 2 (λ given. stmts.Leave answer given))
  lane_goes names lanes.Init =
      bind (mode_at p 1) (mode_at (p ++ a) 1) _ _ (mode_sure p a 1) (λ mode. ends p a 2 _ _)
  lane_goes names lanes.Uninit = ends p a 1 _ _
  lane_goes names lanes.SetFilter =
      bind (filter_at names.filters p 1) (filter_at names.filters (p ++ a) 1) _ _ (filter_sure names.filters 1) (λ filter. ends p a 2 _ _)
  lane_goes names lanes.Pump =
      bind (number_at 0 1000 p 1) (number_at 0 1000 (p ++ a) 1) _ _ (number_sure p a 0 1000 1) (λ bound. ends p a 2 _ _)

  pub stmt_goes : (pr : Program) (names : Names) (k : Keyword) → Goes (stmt_of pr names k p) (stmt_of pr names k (p ++ a))
  unfolding stmt_of
  stmt_goes pr names (keywords.Local w) = local_goes pr w
  stmt_goes pr names (keywords.Object w) = object_goes pr names w
  stmt_goes pr names (keywords.Lane w) = lane_goes names w
