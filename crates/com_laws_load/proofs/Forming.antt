-- A number's scenario is formed, and its numbers are in the ranges of their types.
use Rattle.std.proofs.Common.{◌≡◌, ℕ, zero, suc, ◌+◌, ◌*◌, ◌≤◌, ◌<◌, ◌%◌, ◌^◌, inr, Bool, true, false, nat_lt}
use Rattle.std.proofs.Common.{pos, List, [], ◌∷◌, length, Option, Some, None, All, if◌then◌else◌, codes}
use Rattle.std.proofs.Common.{refl, ap, ◌∙◌, arith, length-append}
use Rattle.std.proofs.lemmas.Bool.Decides.{nat_tests}
use Rattle.std.proofs.lemmas.List.Elements.{All-nil, All-cons, All-head, All-tail, All-append, All-push}
use Rattle.std.proofs.lemmas.List.Elements.{All-weaker, All-from_recursion}
use Rattle.rand_pcg.specs.Lcg.{Lcg}
use Rattle.com_base.specs.declared.value.Mode.{Mode}
use Rattle.com_base.specs.declared.value.Value.TheVariants as values
use Rattle.com_body.specs.declared.body.BodyFault.{BodyFault}
use Rattle.com_body.specs.declared.body.BodyFault.TheVariants as faults
use Rattle.com_body.specs.declared.operands.Arg.{Arg}
use Rattle.com_body.specs.declared.operands.Arg.TheVariants as args
use Rattle.com_body.specs.declared.operands.Asked.TheVariants as asked
use Rattle.com_body.specs.declared.operands.Destination.TheVariants as destinations
use Rattle.com_body.specs.declared.operands.Op.TheVariants as ops
use Rattle.com_body.specs.declared.operands.Place.TheVariants as places
use Rattle.com_body.specs.declared.statements.Stmt.{Stmt}
use Rattle.com_body.specs.declared.statements.Stmt.TheVariants as stmts
use Rattle.com_body.specs.Bodies.{IsArg, IsInRange, skip_of, first_past_end, fault_of}
use Rattle.com_classes.specs.BuiltIns.{built_in_interfaces}
use Rattle.com_classes.specs.declared.classes.Class.{Class}
use Rattle.com_classes.specs.declared.classes.ThreadingModel.{ThreadingModel}
use Rattle.com_classes.specs.declared.classes.ThreadingModel.TheVariants as models
use Rattle.com_model.specs.declared.scenario.Scenario.{Scenario}
use Rattle.com_model.specs.Formed.{Distinct, is_name_byte, IsName, IsStatement, FormedBody, in_script}
use Rattle.com_model.specs.Formed.{in_class, IsBody, IsClass, same_class, FormedInterfaces, FormedClasses}
use Rattle.com_model.specs.Formed.{IsFilter, Formed}
use Rattle.com_print.specs.Ranges.{AreBytes, FitsArg, Fits}
use Rattle.com_print_scenario.specs.Ranges.{FitsInterface, FitsClass, FitsProgram, FitsTypes}
use Rattle.com_gen.specs.Loads.{seeded, word, behind, behind_rounds, behind_scripts}
use Rattle.com_laws_load.specs.LoadScenarios.{counter, first, second, third, fourth, fifth, counters}
use Rattle.com_laws_load.specs.LoadScenarios.{mode_of, round, round_from, rounds, script, scripts}
use Rattle.com_laws_load.specs.LoadScenarios.{with_threads, load_scenario}

-- ---- statements

record Good (s : Scenario) (st : Stmt) : Type 0 where
  ranges : IsInRange st
  stated : IsStatement s (in_script s) st
  fits : Fits st
  goes_on : skip_of st ≡ 0

abbrev number_given : ℕ → Arg
number_given n = args.Op (ops.Literal (values.Int (pos n)))

module _ (threads : List (List Stmt)) where
  abbrev GoodHere : Stmt → Type 0
  GoodHere st = Good (with_threads threads) st

  init_good : (mode : Mode) → GoodHere (stmts.Init mode)
  init_good mode = record { ranges = tt; stated = refl; fits = tt; goes_on = refl }

  create_good : (class : ℕ) → class < 5
      → GoodHere (stmts.Create 0 (asked.Number (1 + class)) (asked.Number 1))
  create_good class h = record {
    ranges = omega arith;
    stated = ((omega arith, omega arith), omega arith);
    fits = (tt, tt);
    goes_on = refl;
  }

  call_good : (argument : ℕ) → argument < 1000
      → GoodHere (stmts.Call 0 1 0 (number_given argument ∷ []) (destinations.Register 1))
  call_good argument h =
      let given = number_given argument in
      let small : argument < 2 ^ 63 = omega arith in
      record {
        ranges = (omega arith, All-from_recursion IsArg (given ∷ []) (tt, tt), omega arith);
        stated = (omega arith, inr ((tt, tt), tt));
        fits = (omega arith, All-from_recursion FitsArg (given ∷ []) (small, tt));
        goes_on = refl;
      }

  release_good : GoodHere (stmts.Release (places.Slot 0))
  release_good = record { ranges = omega arith; stated = tt; fits = tt; goes_on = refl }

  round_good : (class argument : ℕ) → All GoodHere (round class argument)
  round_good class argument =
      let called = call_good (argument % 1000) (omega arith) in
      All-from_recursion GoodHere (round class argument)
      (create_good (class % 5) (omega arith), (called, (release_good, tt)))

  rounds_good : (n : ℕ) (g : Lcg) → All GoodHere (rounds n g)
  unfolding rounds
  rounds_good zero g = All-nil GoodHere
  rounds_good (suc n) g =
      let h = behind_rounds n g in
      let last = round_good (word h) (word (behind h)) in
      All-append GoodHere (rounds n g) (round_from h) (rounds_good n g) last

  script_good : (g : Lcg) → All GoodHere (script g)
  script_good g =
      let mode = mode_of (word g) in
      let rest = rounds_good 400 (behind g) in
      All-cons GoodHere (stmts.Init mode) (rounds 400 (behind g)) (init_good mode) rest

-- ---- scripts

rounds_long : (n : ℕ) (g : Lcg) → length (rounds n g) ≡ 3 * n
unfolding rounds
rounds_long zero g = refl
rounds_long (suc n) g =
    let h = behind_rounds n g in
    omega (arith, rounds_long n g, length-append (rounds n g) (round_from h))

script_short : (g : Lcg) → length (script g) ≤ 2000
script_short g = omega (arith, rounds_long 400 (behind g))

none_passes : (left skip : ℕ) → skip ≡ 0 → nat_lt left skip ≡ false
none_passes left skip h = grind (arith, nat_tests)

all_inside : (s : Scenario) (statements : List Stmt) (k : ℕ) → All (Good s) statements
    → first_past_end statements k ≡ None
all_inside s [] k h = refl
all_inside s (st ∷ rest) k h =
    let inside = none_passes (length rest) (skip_of st) (All-head (Good s) st rest h).goes_on in
    ap (λ (b : Bool). if b then Some k else first_past_end rest (k + 1)) inside
    ∙ all_inside s rest (k + 1) (All-tail (Good s) st rest h)

abbrev jump_of : Option ℕ → Option BodyFault
jump_of o = elim o [ None ↦ None | Some k ↦ Some (faults.Jump k) ]

whole : (statements : List Stmt) (limit : ℕ) → length statements ≤ limit → first_past_end statements 0 ≡ None
    → fault_of statements limit ≡ None
whole statements limit short inside =
    let within : nat_lt limit (length statements) ≡ false = grind (arith, nat_tests) in
    ap (λ (b : Bool). if b then Some faults.TooLong else jump_of (first_past_end statements 0)) within
    ∙ ap jump_of inside

abbrev IsScript : List (List Stmt) → List Stmt → Type 0
IsScript threads body = FormedBody (with_threads threads) (in_script (with_threads threads)) 2000 body

script_formed : (threads : List (List Stmt)) (g : Lcg) → IsScript threads (script g)
script_formed threads g =
    let s = with_threads threads in
    let good = script_good threads g in
    record {
      ranges = All-weaker (Good s) IsInRange (λ st h. h.ranges) (script g) good;
      statements = All-weaker (Good s) (IsStatement s (in_script s)) (λ st h. h.stated) (script g) good;
      whole = whole (script g) 2000 (script_short g) (all_inside s (script g) 0 good);
    }

script_fits : (g : Lcg) → FitsProgram (script g)
script_fits g = All-weaker (Good (with_threads [])) Fits (λ st h. h.fits) (script g) (script_good [] g)

-- what holds of each script holds of all
all_scripts : (P : List Stmt → Type 0) → ((g : Lcg) → P (script g)) → (n : ℕ) (g : Lcg) → All P (scripts n g)
unfolding scripts
all_scripts P each zero g = All-nil P
all_scripts P each (suc n) g =
    let h = behind_scripts n g in
    All-push P (scripts n g) (script h) (all_scripts P each n g) (each h)

scripts_many : (n : ℕ) (g : Lcg) → length (scripts n g) ≡ n
unfolding scripts
scripts_many zero g = refl
scripts_many (suc n) g =
    omega (arith, scripts_many n g, length-append (scripts n g) (script (behind_scripts n g) ∷ []))

-- ---- classes

name_formed : (digit : ℕ) → is_name_byte digit ≡ true → IsName (78 ∷ digit ∷ [])
name_formed digit h =
    (refl, All-from_recursion (λ x. is_name_byte x ≡ true) (digit ∷ []) (h, tt), omega arith)

counter_formed : (s : Scenario) (n digit data1 : ℕ) (model : ThreadingModel)
    → s.classes.interfaces ≡ built_in_interfaces → is_name_byte digit ≡ true
    → IsClass s n (counter (78 ∷ digit ∷ []) data1 model)
counter_formed s n digit data1 model built h =
    let there : 1 < length s.classes.interfaces = omega (arith, ap length built) in (
      name_formed digit h,
      (refl, refl),
      All-from_recursion (λ i. i < length s.classes.interfaces) (1 ∷ []) (there, tt),
      All-nil (IsBody s (in_class n (counter (78 ∷ digit ∷ []) data1 model))),
      tt,
    )

abbrev Other : Class → Class → Type 0
Other k c = same_class k c ≡ false

counters_apart : Distinct same_class counters
counters_apart = (
  All-from_recursion (Other first) (second ∷ third ∷ fourth ∷ fifth ∷ []) (refl, (refl, (refl, (refl, tt)))),
  (
    All-from_recursion (Other second) (third ∷ fourth ∷ fifth ∷ []) (refl, (refl, (refl, tt))),
    (
      All-from_recursion (Other third) (fourth ∷ fifth ∷ []) (refl, (refl, tt)),
      (All-from_recursion (Other fourth) (fifth ∷ []) (refl, tt), (All-nil (Other fifth), tt)),
    ),
  ),
)

counters_formed : (threads : List (List Stmt)) → FormedClasses (with_threads threads)
counters_formed threads =
    let s = with_threads threads in
    let one = counter_formed s 1 49 0x5C0B00D1 models.Nothing refl refl in
    let two = counter_formed s 2 50 0x5C0B00D2 models.Apartment refl refl in
    let three = counter_formed s 3 51 0x5C0B00D3 models.Free refl refl in
    let four = counter_formed s 4 52 0x5C0B00D4 models.Both refl refl in
    let five = counter_formed s 5 53 0x5C0B00D5 models.Neutral refl refl in
    record {
      few = omega arith;
      each = (one, (two, (three, (four, (five, tt)))));
      distinct = counters_apart;
    }

byte_list : AreBytes (0x80 ∷ 0 ∷ 0 ∷ 0 ∷ 0 ∷ 0 ∷ 0 ∷ 1 ∷ [])
byte_list =
    let zero_fits : 0 < 256 = omega arith in
    All-from_recursion (λ b. b < 256) (0x80 ∷ 0 ∷ 0 ∷ 0 ∷ 0 ∷ 0 ∷ 0 ∷ 1 ∷ []) (
      omega arith,
      (zero_fits, (zero_fits, (zero_fits, (zero_fits, (zero_fits, (zero_fits, (omega arith, tt))))))),
    )

counter_fits : (name : List ℕ) (data1 : ℕ) (model : ThreadingModel) → data1 < 2 ^ 32
    → FitsClass (counter name data1 model)
counter_fits name data1 model h =
    (record { data1 = h; data2 = omega arith; data3 = omega arith; eight = refl; data4 = byte_list }, tt)

counters_fit : All FitsClass counters
counters_fit =
    let one = counter_fits (codes "N1") 0x5C0B00D1 models.Nothing (omega arith) in
    let two = counter_fits (codes "N2") 0x5C0B00D2 models.Apartment (omega arith) in
    let three = counter_fits (codes "N3") 0x5C0B00D3 models.Free (omega arith) in
    let four = counter_fits (codes "N4") 0x5C0B00D4 models.Both (omega arith) in
    let five = counter_fits (codes "N5") 0x5C0B00D5 models.Neutral (omega arith) in
    All-from_recursion FitsClass counters (one, (two, (three, (four, (five, tt)))))

-- ---- the whole

pub load_formed : FormedInterfaces built_in_interfaces → (number : ℕ) → Formed (load_scenario number)
unfolding load_scenario
load_formed interfaces number =
    let threads = scripts 8 (seeded number) in
    let many : length threads ≤ 16 = omega (arith, scripts_many 8 (seeded number)) in
    record {
      version = (omega arith, omega arith);
      pool = (omega arith, omega arith);
      interfaces = interfaces;
      classes = counters_formed threads;
      filters = (All-nil IsFilter, omega arith);
      threads = (all_scripts (IsScript threads) (script_formed threads) 8 (seeded number), many);
      picks = All-nil (λ l. l < 2 ^ 32);
    }

pub load_fits : (number : ℕ) → FitsTypes (load_scenario number)
unfolding load_scenario
load_fits number = record {
  interfaces = All-nil FitsInterface;
  classes = counters_fit;
  threads = all_scripts FitsProgram script_fits 8 (seeded number);
}
