-- Statements: each fault of a line is that of its words in front of the cut, or stands behind it.
use Rattle.std.proofs.Common.{ℕ, ◌+◌, ◌≤◌, arith, List, [], ◌∷◌, ◌++◌, length, Option, Some, None, Ok}
use Rattle.std.specs.Prelude.{bytes_eq, codes}
use Rattle.com_base.specs.declared.value.Kind.{Kind}
use Rattle.com_body.specs.declared.operands.Arg.{Arg}
use Rattle.com_classes.specs.declared.interfaces.Method.{Method}
use Rattle.com_read_operands.specs.Reading.{word_at, stands_at, number_at}
use Rattle.com_read_operands.specs.Naming.{asked_at}
use Rattle.com_read_operands.specs.Operands.{operand_of, register_at, slot_at, cell_at, buffer_at, place_at, op_at, code_at, mode_at, marshal_mode_at}
use Rattle.com_read_statements.specs.declared.calls.MethodNumber.{MethodNumber}
use Rattle.com_read_statements.specs.declared.calls.Target.{Target}
use Rattle.com_read_statements.specs.declared.calls.Target.TheVariants as targets
use Rattle.com_read_statements.specs.declared.keywords.Program.{Program}
use Rattle.com_read_statements.specs.declared.keywords.LocalWord.{LocalWord}
use Rattle.com_read_statements.specs.declared.keywords.LocalWord.TheVariants as locals
use Rattle.com_read_statements.specs.declared.keywords.ObjectWord.{ObjectWord}
use Rattle.com_read_statements.specs.declared.keywords.ObjectWord.TheVariants as objects
use Rattle.com_read_statements.specs.declared.keywords.LaneWord.{LaneWord}
use Rattle.com_read_statements.specs.declared.keywords.LaneWord.TheVariants as lanes
use Rattle.com_read_statements.specs.declared.keywords.Keyword.{Keyword}
use Rattle.com_read_statements.specs.declared.keywords.Keyword.TheVariants as keywords
use Rattle.com_read_statements.specs.declared.names.Names.{Names}
use Rattle.com_read_statements.specs.Keywords.{has_cells, has_links}
use Rattle.com_read_statements.specs.Calls.{method_of, target_at, argument_at, arguments_on, landing_of, destination_at, call_of, signed_call, call_by, call_at}
use Rattle.com_read_statements.specs.Statements.{local_of, raw_at, object_of, filter_at, lane_of, stmt_of}
use Rattle.com_read_operands.specs.Reading.{end_at, ◌>>=◌, fault_at}
use Rattle.com_read_operands.specs.declared.faults.Fault.{Fault}
use Rattle.com_read_operands.specs.Operands.{given_at}
use Rattle.std.specs.Prelude.{Result, Err}
use Rattle.com_laws_faults.proofs.Out.{Cut, Told, okay, wrong, tells, fixed, settled, branch, sooner, made, next, regrouped}
use Rattle.com_laws_faults.proofs.Pure.{landing_out}
use Rattle.com_laws_faults.proofs.At.{word_reads, word_from, word_then, stands_reads, end_reads, number_reads, asked_reads, register_reads, slot_reads, cell_reads, buffer_reads, place_reads, op_reads, code_reads, given_reads, mode_reads, marshal_mode_reads, target_reads, argument_reads, raw_reads, filter_reads}

pub ends : {A : Type 0} (x : Cut) (k i : ℕ) (u v : A) → k ≤ i → Told x k (end_at x.p i >>= λ done. Ok u) (end_at (x.p ++ x.a) i >>= λ done. Ok v)
ends x k i u v le = made x k (end_at x.p i) (end_at (x.p ++ x.a) i) (λ done. u) (λ done. v) (sooner x k i (end_at x.p i) (end_at (x.p ++ x.a) i) le (tells x i (end_at x.p i) (end_at (x.p ++ x.a) i) (end_reads x i)))

module _ (x : Cut) where
  arguments_then : {B : Type 0} (done : List Arg) (ps : List Kind) (k : ℕ) (f g : List Arg → Result B Fault) → ((given : List Arg) → Told x (k + length ps) (f given) (g given))
      → Told x k (arguments_on done ps x.p k >>= f) (arguments_on done ps (x.p ++ x.a) k >>= g)
  arguments_then done [] k f g h = sooner x k (k + 0) (f done) (g done) (omega arith) (h done)
  arguments_then done (q ∷ qs) k f g h = regrouped x k (argument_at q x.p k) (argument_at q (x.p ++ x.a) k) _ _ f g
      (next x k k (argument_at q x.p k) (argument_at q (x.p ++ x.a) k) _ _ (omega arith) (argument_reads x q k) (λ y _.
      sooner x k (k + 1) _ _ (omega arith) (arguments_then (done ++ y ∷ []) qs (k + 1) f g (λ given. sooner x (k + 1 + length qs) (k + length (q ∷ qs)) (f given) (g given) (omega arith) (h given)))))

  destination_told : (kind : Option Kind) (k : ℕ) → Told x k (destination_at kind x.p k) (destination_at kind (x.p ++ x.a) k)
  unfolding destination_at
  destination_told kind k = next x k k (stands_at x.p k) (stands_at (x.p ++ x.a) k) _ _ (omega arith) (stands_reads x k) (λ there _. branch x k there _ _ _ _
      (next x k k (word_at x.p k) (word_at (x.p ++ x.a) k) _ _ (omega arith) (word_reads x k) (λ arrow e. branch x k (bytes_eq arrow.bytes (codes "->")) _ _ _ _
      (next x k (k + 1) (word_at x.p (k + 1)) (word_at (x.p ++ x.a) (k + 1)) _ _ (omega arith) (word_reads x (k + 1)) (λ w d.
      next x (k + 1) (k + 1) (landing_of kind w (operand_of w)) (landing_of kind w (operand_of w)) _ _ (omega arith) (fixed x (k + 1) (landing_of kind w (operand_of w)) (λ l. landing_out x w (word_from x (k + 1) w l d) kind (operand_of w))) (λ y _.
      ends x (k + 1) (k + 2) y y (omega arith))))
      (settled x k (Err (fault_at 3 arrow)) (λ l. wrong x 3 arrow (word_from x k arrow l e)))))
      (settled x k _ (λ l. okay x _)))

  call_of_told : (slot : ℕ) (number : MethodNumber) (m : Method) → Told x 2 (call_of slot number m x.p) (call_of slot number m (x.p ++ x.a))
  unfolding call_of
  call_of_told slot number m = sooner x 2 3 _ _ (omega arith) (arguments_then [] m.params 3 _ _ (λ given.
      made x (3 + length m.params) (destination_at m.result x.p (3 + length m.params)) (destination_at m.result (x.p ++ x.a) (3 + length m.params)) _ _ (destination_told m.result (3 + length m.params))))

  signed_told : (slot : ℕ) (number : MethodNumber) (o : Option Method) → Told x 2 (signed_call slot number o x.p) (signed_call slot number o (x.p ++ x.a))
  signed_told slot number None = tells x 2 _ _ (word_then x 2 _ (λ w h. wrong x 8 w h))
  signed_told slot number (Some m) = call_of_told slot number m

  call_by_told : (names : Names) (slot : ℕ) (t : Target) → Told x 2 (call_by names slot x.p t) (call_by names slot (x.p ++ x.a) t)
  call_by_told names slot (targets.Named m) = signed_told slot m (method_of names.tables m.iface m.method)
  call_by_told names slot (targets.Numbered m) = ends x 2 3 _ _ (omega arith)

  call_told : (names : Names) → Told x 0 (call_at names x.p) (call_at names (x.p ++ x.a))
  unfolding call_at
  call_told names =
      next x 0 1 (slot_at x.p 1) (slot_at (x.p ++ x.a) 1) _ _ (omega arith) (slot_reads x 1) (λ slot _.
      next x 1 2 (target_at names x.p 2) (target_at names (x.p ++ x.a) 2) _ _ (omega arith) (target_reads x names 2) (λ t _. call_by_told names slot t))

  local_told : (pr : Program) (k : LocalWord) → Told x 0 (local_of pr k x.p) (local_of pr k (x.p ++ x.a))
  unfolding local_of
  local_told pr locals.Set =
      next x 0 1 (register_at x.p 1) (register_at (x.p ++ x.a) 1) _ _ (omega arith) (register_reads x 1) (λ to _.
      next x 1 2 (op_at x.p 2) (op_at (x.p ++ x.a) 2) _ _ (omega arith) (op_reads x 2) (λ from _. ends x 2 3 _ _ (omega arith)))
  local_told pr locals.Add =
      next x 0 1 (register_at x.p 1) (register_at (x.p ++ x.a) 1) _ _ (omega arith) (register_reads x 1) (λ to _.
      next x 1 2 (op_at x.p 2) (op_at (x.p ++ x.a) 2) _ _ (omega arith) (op_reads x 2) (λ from _. ends x 2 3 _ _ (omega arith)))
  local_told pr locals.Sub =
      next x 0 1 (register_at x.p 1) (register_at (x.p ++ x.a) 1) _ _ (omega arith) (register_reads x 1) (λ to _.
      next x 1 2 (op_at x.p 2) (op_at (x.p ++ x.a) 2) _ _ (omega arith) (op_reads x 2) (λ from _. ends x 2 3 _ _ (omega arith)))
  local_told pr locals.Less =
      next x 0 1 (register_at x.p 1) (register_at (x.p ++ x.a) 1) _ _ (omega arith) (register_reads x 1) (λ to _.
      next x 1 2 (op_at x.p 2) (op_at (x.p ++ x.a) 2) _ _ (omega arith) (op_reads x 2) (λ left _.
      next x 2 3 (op_at x.p 3) (op_at (x.p ++ x.a) 3) _ _ (omega arith) (op_reads x 3) (λ right _. ends x 3 4 _ _ (omega arith))))
  local_told pr locals.Same =
      next x 0 1 (register_at x.p 1) (register_at (x.p ++ x.a) 1) _ _ (omega arith) (register_reads x 1) (λ to _.
      next x 1 2 (slot_at x.p 2) (slot_at (x.p ++ x.a) 2) _ _ (omega arith) (slot_reads x 2) (λ left _.
      next x 2 3 (slot_at x.p 3) (slot_at (x.p ++ x.a) 3) _ _ (omega arith) (slot_reads x 3) (λ right _. ends x 3 4 _ _ (omega arith))))
  local_told pr locals.Load =
      next x 0 1 (register_at x.p 1) (register_at (x.p ++ x.a) 1) _ _ (omega arith) (register_reads x 1) (λ to _.
      next x 1 2 (cell_at (has_cells pr) x.p 2) (cell_at (has_cells pr) (x.p ++ x.a) 2) _ _ (omega arith) (cell_reads x (has_cells pr) 2) (λ cell _. ends x 2 3 _ _ (omega arith)))
  local_told pr locals.Store =
      next x 0 1 (cell_at (has_cells pr) x.p 1) (cell_at (has_cells pr) (x.p ++ x.a) 1) _ _ (omega arith) (cell_reads x (has_cells pr) 1) (λ cell _.
      next x 1 2 (op_at x.p 2) (op_at (x.p ++ x.a) 2) _ _ (omega arith) (op_reads x 2) (λ from _. ends x 2 3 _ _ (omega arith)))
  local_told pr locals.Skip =
      next x 0 1 (number_at 1 2000 x.p 1) (number_at 1 2000 (x.p ++ x.a) 1) _ _ (omega arith) (number_reads x 1 2000 1) (λ count _. ends x 1 2 _ _ (omega arith))
  local_told pr locals.SkipZero =
      next x 0 1 (register_at x.p 1) (register_at (x.p ++ x.a) 1) _ _ (omega arith) (register_reads x 1) (λ register _.
      next x 1 2 (number_at 1 2000 x.p 2) (number_at 1 2000 (x.p ++ x.a) 2) _ _ (omega arith) (number_reads x 1 2000 2) (λ count _. ends x 2 3 _ _ (omega arith)))

  object_told : (pr : Program) (names : Names) (k : ObjectWord) → Told x 0 (object_of pr names k x.p) (object_of pr names k (x.p ++ x.a))
  unfolding object_of
  object_told pr names objects.Create =
      next x 0 1 (slot_at x.p 1) (slot_at (x.p ++ x.a) 1) _ _ (omega arith) (slot_reads x 1) (λ slot _.
      next x 1 2 (asked_at names.classes 1 x.p 2) (asked_at names.classes 1 (x.p ++ x.a) 2) _ _ (omega arith) (asked_reads x names.classes 1 2) (λ class _.
      next x 2 3 (asked_at names.interfaces 0 x.p 3) (asked_at names.interfaces 0 (x.p ++ x.a) 3) _ _ (omega arith) (asked_reads x names.interfaces 0 3) (λ iface _. ends x 3 4 _ _ (omega arith))))
  object_told pr names objects.Query =
      next x 0 1 (slot_at x.p 1) (slot_at (x.p ++ x.a) 1) _ _ (omega arith) (slot_reads x 1) (λ to _.
      next x 1 2 (slot_at x.p 2) (slot_at (x.p ++ x.a) 2) _ _ (omega arith) (slot_reads x 2) (λ from _.
      next x 2 3 (asked_at names.interfaces 0 x.p 3) (asked_at names.interfaces 0 (x.p ++ x.a) 3) _ _ (omega arith) (asked_reads x names.interfaces 0 3) (λ iface _. ends x 3 4 _ _ (omega arith))))
  object_told pr names objects.Copy =
      next x 0 1 (place_at (has_links pr) x.p 1) (place_at (has_links pr) (x.p ++ x.a) 1) _ _ (omega arith) (place_reads x (has_links pr) 1) (λ to _.
      next x 1 2 (place_at (has_links pr) x.p 2) (place_at (has_links pr) (x.p ++ x.a) 2) _ _ (omega arith) (place_reads x (has_links pr) 2) (λ from _. ends x 2 3 _ _ (omega arith)))
  object_told pr names objects.Release =
      next x 0 1 (place_at (has_links pr) x.p 1) (place_at (has_links pr) (x.p ++ x.a) 1) _ _ (omega arith) (place_reads x (has_links pr) 1) (λ place _. ends x 1 2 _ _ (omega arith))
  object_told pr names objects.Call = call_told names
  object_told pr names objects.Marshal =
      next x 0 1 (buffer_at x.p 1) (buffer_at (x.p ++ x.a) 1) _ _ (omega arith) (buffer_reads x 1) (λ buffer _.
      next x 1 2 (slot_at x.p 2) (slot_at (x.p ++ x.a) 2) _ _ (omega arith) (slot_reads x 2) (λ slot _.
      next x 2 3 (marshal_mode_at x.p 3) (marshal_mode_at (x.p ++ x.a) 3) _ _ (omega arith) (marshal_mode_reads x 3) (λ mode _. ends x 3 4 _ _ (omega arith))))
  object_told pr names objects.Unmarshal =
      next x 0 1 (slot_at x.p 1) (slot_at (x.p ++ x.a) 1) _ _ (omega arith) (slot_reads x 1) (λ slot _.
      next x 1 2 (buffer_at x.p 2) (buffer_at (x.p ++ x.a) 2) _ _ (omega arith) (buffer_reads x 2) (λ buffer _. ends x 2 3 _ _ (omega arith)))
  object_told pr names objects.Drop =
      next x 0 1 (buffer_at x.p 1) (buffer_at (x.p ++ x.a) 1) _ _ (omega arith) (buffer_reads x 1) (λ buffer _. ends x 1 2 _ _ (omega arith))
  object_told pr names objects.Raw =
      next x 0 1 (buffer_at x.p 1) (buffer_at (x.p ++ x.a) 1) _ _ (omega arith) (buffer_reads x 1) (λ buffer _.
      next x 1 2 (raw_at x.p 2) (raw_at (x.p ++ x.a) 2) _ _ (omega arith) (raw_reads x 2) (λ bytes _. ends x 2 3 _ _ (omega arith)))
  object_told pr names objects.Disconnect =
      next x 0 1 (slot_at x.p 1) (slot_at (x.p ++ x.a) 1) _ _ (omega arith) (slot_reads x 1) (λ slot _. ends x 1 2 _ _ (omega arith))

  lane_told : (names : Names) (k : LaneWord) → Told x 0 (lane_of names k x.p) (lane_of names k (x.p ++ x.a))
  unfolding lane_of
  lane_told names lanes.Register =
      next x 0 1 (register_at x.p 1) (register_at (x.p ++ x.a) 1) _ _ (omega arith) (register_reads x 1) (λ to _.
      next x 1 2 (slot_at x.p 2) (slot_at (x.p ++ x.a) 2) _ _ (omega arith) (slot_reads x 2) (λ slot _. ends x 2 3 _ _ (omega arith)))
  lane_told names lanes.Get =
      next x 0 1 (slot_at x.p 1) (slot_at (x.p ++ x.a) 1) _ _ (omega arith) (slot_reads x 1) (λ slot _.
      next x 1 2 (op_at x.p 2) (op_at (x.p ++ x.a) 2) _ _ (omega arith) (op_reads x 2) (λ cookie _. ends x 2 3 _ _ (omega arith)))
  lane_told names lanes.Revoke =
      next x 0 1 (op_at x.p 1) (op_at (x.p ++ x.a) 1) _ _ (omega arith) (op_reads x 1) (λ cookie _. ends x 1 2 _ _ (omega arith))
  lane_told names lanes.Post =
      next x 0 1 (op_at x.p 1) (op_at (x.p ++ x.a) 1) _ _ (omega arith) (op_reads x 1) (λ lane _.
      next x 1 2 (op_at x.p 2) (op_at (x.p ++ x.a) 2) _ _ (omega arith) (op_reads x 2) (λ word _. ends x 2 3 _ _ (omega arith)))
  lane_told names lanes.Quit =
      next x 0 1 (op_at x.p 1) (op_at (x.p ++ x.a) 1) _ _ (omega arith) (op_reads x 1) (λ lane _. ends x 1 2 _ _ (omega arith))
  lane_told names lanes.Leave =
      next x 0 1 (code_at x.p 1) (code_at (x.p ++ x.a) 1) _ _ (omega arith) (code_reads x 1) (λ answer _. next x 1 2 (given_at x.p 2) (given_at (x.p ++ x.a) 2) _ _ (omega arith) (given_reads x 2) (λ given _. ends x 2 3 _ _ (omega arith)))
  lane_told names lanes.Init =
      next x 0 1 (mode_at x.p 1) (mode_at (x.p ++ x.a) 1) _ _ (omega arith) (mode_reads x 1) (λ mode _. ends x 1 2 _ _ (omega arith))
  lane_told names lanes.Uninit = ends x 0 1 _ _ (omega arith)
  lane_told names lanes.SetFilter =
      next x 0 1 (filter_at names.filters x.p 1) (filter_at names.filters (x.p ++ x.a) 1) _ _ (omega arith) (filter_reads x names.filters 1) (λ filter _. ends x 1 2 _ _ (omega arith))
  lane_told names lanes.Pump =
      next x 0 1 (number_at 0 1000 x.p 1) (number_at 0 1000 (x.p ++ x.a) 1) _ _ (omega arith) (number_reads x 0 1000 1) (λ bound _. ends x 1 2 _ _ (omega arith))

  pub stmt_told : (pr : Program) (names : Names) (k : Keyword) → Told x 0 (stmt_of pr names k x.p) (stmt_of pr names k (x.p ++ x.a))
  unfolding stmt_of
  stmt_told pr names (keywords.Local w) = local_told pr w
  stmt_told pr names (keywords.Object w) = object_told pr names w
  stmt_told pr names (keywords.Lane w) = lane_told names w
