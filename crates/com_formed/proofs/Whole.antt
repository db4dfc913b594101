-- A list whose skips end inside it is a body within each limit that its length keeps.
use Rattle.std.proofs.Common.{◌≡◌, ℕ, ◌≤◌, ◌<◌, List, length, Option, Some, None, Bool, true, false, refl, ap, ◌∙◌, arith, nat_lt, ◌^◌, All, take, if◌then◌else◌}
use Rattle.std.proofs.lemmas.Bool.Decides.{nat_tests}
use Rattle.com_base.specs.declared.built_ins.TheConstants.{BUILT_IN_COUNT}
use Rattle.com_base.specs.declared.limits.TheConstants.{CLASS_LIMIT, FILTER_LIMIT, INTERFACE_LIMIT, POOL_LIMIT, SCRIPT_LIMIT, THREAD_LIMIT}
use Rattle.com_body.specs.declared.statements.Stmt.{Stmt}
use Rattle.com_body.specs.declared.body.BodyFault.{BodyFault}
use Rattle.com_body.specs.declared.body.BodyFault.TheVariants as fault
use Rattle.com_body.specs.Bodies.{first_past_end, fault_of, IsBody}
use Rattle.com_classes.specs.BuiltIns.{built_in_interfaces}
use Rattle.com_classes.specs.declared.interfaces.Interface.{Interface}
use Rattle.com_model.specs.declared.scenario.Scenario.{Scenario}
use Rattle.com_model.specs.Formed.{Context, IsStatement, FormedBody, EachFrom, Distinct, IsInterface, IsAllowed, same_interface}
use Rattle.com_model.specs.Formed.{FormedInterfaces, IsClass, same_class, FormedClasses, IsFilter, in_script, Formed}

abbrev judged : Bool → Option ℕ → Option BodyFault
judged long jump = if long then Some fault.TooLong else elim jump [ None ↦ None | Some k ↦ Some (fault.Jump k) ]

not_long : (b : List Stmt) (limit : ℕ) → length b ≤ limit → nat_lt limit (length b) ≡ false
not_long b limit h = grind (arith, nat_tests)

pub whole_body : (b : List Stmt) (limit : ℕ) → first_past_end b 0 ≡ None → length b ≤ limit → fault_of b limit ≡ None
whole_body b limit inside h =
    ap (λ l. judged l (first_past_end b 0)) (not_long b limit h) ∙ ap (λ j. judged false j) inside

short_by : (b : List Stmt) (limit : ℕ) (long : Bool) (jump : Option ℕ) → nat_lt limit (length b) ≡ long → judged long jump ≡ None → length b ≤ limit
short_by b limit true jump at e = absurd cc
short_by b limit false jump at e = grind (arith, nat_tests)

pub short_body : (b : List Stmt) (limit : ℕ) → fault_of b limit ≡ None → length b ≤ limit
short_body b limit e = short_by b limit (nat_lt limit (length b)) (first_past_end b 0) refl e

-- ---- the parts of each whole

pub formed_body : (s : Scenario) (x : Context) (limit : ℕ) (b : List Stmt) → IsBody b → length b ≤ limit → All (IsStatement s x) b → FormedBody s x limit b
formed_body s x limit b is few each =
    record { ranges = is.in_range; statements = each; whole = whole_body b limit is.inside few }

pub formed_interfaces : (xs : List Interface) → length xs ≤ INTERFACE_LIMIT → take BUILT_IN_COUNT xs ≡ built_in_interfaces → EachFrom IsInterface 0 xs → All IsAllowed xs
    → Distinct same_interface xs → FormedInterfaces xs
formed_interfaces xs few built each allowed distinct =
    record { built = built; few = few; each = each; allowed = allowed; distinct = distinct }

pub formed_classes : (s : Scenario) → length s.classes.classes ≤ CLASS_LIMIT → EachFrom (IsClass s) 1 s.classes.classes → Distinct same_class s.classes.classes → FormedClasses s
formed_classes s few each distinct = record { few = few; each = each; distinct = distinct }

pub formed : (s : Scenario) → (1 ≤ s.version) × (s.version ≤ 2) → (1 ≤ s.pool) × (s.pool ≤ POOL_LIMIT) → FormedInterfaces s.classes.interfaces → FormedClasses s
    → All IsFilter s.filters × (length s.filters ≤ FILTER_LIMIT) → All (FormedBody s (in_script s) SCRIPT_LIMIT) s.threads × (length s.threads ≤ THREAD_LIMIT)
    → All (λ l. l < 2 ^ 32) s.picks → Formed s
formed s version pool interfaces classes filters threads picks =
    record { version = version; pool = pool; interfaces = interfaces; classes = classes; filters = filters; threads = threads; picks = picks }
