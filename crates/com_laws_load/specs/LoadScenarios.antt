-- The scenario that a number's text spells, from the same drawn words on.
use Rattle.std.specs.Prelude.{ℕ, zero, suc, ◌+◌, ◌%◌, ◌==◌, pos, List, [], ◌∷◌, ◌++◌, if◌then◌else◌, codes}
use Rattle.rand_pcg.specs.Lcg.{Lcg}
use Rattle.com_base.specs.declared.value.Mode.{Mode}
use Rattle.com_base.specs.declared.value.Mode.TheVariants as modes
use Rattle.com_base.specs.declared.value.Value.TheVariants as values
use Rattle.com_body.specs.declared.frame.Native.TheVariants as natives
use Rattle.com_body.specs.declared.operands.Arg.TheVariants as args
use Rattle.com_body.specs.declared.operands.Asked.TheVariants as asked
use Rattle.com_body.specs.declared.operands.Destination.TheVariants as destinations
use Rattle.com_body.specs.declared.operands.Op.TheVariants as ops
use Rattle.com_body.specs.declared.operands.Place.TheVariants as places
use Rattle.com_body.specs.declared.statements.Stmt.{Stmt}
use Rattle.com_body.specs.declared.statements.Stmt.TheVariants as stmts
use Rattle.com_classes.specs.BuiltIns.{built_in_interfaces}
use Rattle.com_classes.specs.declared.classes.Class.{Class}
use Rattle.com_classes.specs.declared.classes.ThreadingModel.{ThreadingModel}
use Rattle.com_classes.specs.declared.classes.ThreadingModel.TheVariants as models
use Rattle.com_model.specs.declared.scenario.Scenario.{Scenario}
use Rattle.com_gen.specs.declared.TheConstants.{ROUNDS}
use Rattle.com_gen.specs.Loads.{seeded, word, behind, behind_rounds, behind_scripts}

-- A built-in counter class.
abbrev pub counter : List ℕ → (data1 : ℕ) → ThreadingModel → Class
counter name data1 model = record {
  name = name;
  clsid = record { data1 = data1; data2 = 0; data3 = 0x4000; data4 = 0x80 ∷ 0 ∷ 0 ∷ 0 ∷ 0 ∷ 0 ∷ 0 ∷ 1 ∷ [] };
  model = model;
  native = natives.Counter;
  interfaces = 1 ∷ [];
  bodies = [];
}

-- The five classes, one of each model but the agile.
abbrev pub first : Class
first = counter (codes "N1") 0x5C0B00D1 models.Nothing

abbrev pub second : Class
second = counter (codes "N2") 0x5C0B00D2 models.Apartment

abbrev pub third : Class
third = counter (codes "N3") 0x5C0B00D3 models.Free

abbrev pub fourth : Class
fourth = counter (codes "N4") 0x5C0B00D4 models.Both

abbrev pub fifth : Class
fifth = counter (codes "N5") 0x5C0B00D5 models.Neutral

abbrev pub counters : List Class
counters = first ∷ second ∷ third ∷ fourth ∷ fifth ∷ []

-- A script's apartment is an STA where the word is odd, and else the MTA.
abbrev pub mode_of : ℕ → Mode
mode_of w = if w % 2 == 1 then modes.Sta else modes.Mta

-- A round: an object of a class that the first word says is made in slot 0, its `ICounter.add` is called with
-- a number that the second word says, the sum goes into register 1, and the object is released.
abbrev pub round : (class argument : ℕ) → List Stmt
round class argument =
    stmts.Create 0 (asked.Number (1 + class % 5)) (asked.Number 1)
    ∷ stmts.Call 0 1 0 (args.Op (ops.Literal (values.Int (pos (argument % 1000)))) ∷ [])
    (destinations.Register 1)
    ∷ stmts.Release (places.Slot 0) ∷ []

abbrev pub round_from : Lcg → List Stmt
round_from g = round (word g) (word (behind g))

-- So many rounds from a generator on.
unfoldable pub rounds : ℕ → Lcg → List Stmt
rounds zero g = []
rounds (suc n) g = rounds n g ++ round_from (behind_rounds n g)

-- A script: the apartment and 400 rounds.
abbrev pub script : Lcg → List Stmt
script g = stmts.Init (mode_of (word g)) ∷ rounds ROUNDS (behind g)

-- So many scripts from a generator on.
unfoldable pub scripts : ℕ → Lcg → List (List Stmt)
scripts zero g = []
scripts (suc n) g = scripts n g ++ script (behind_scripts n g) ∷ []

-- The scenario of these threads: four pool lanes, and the counters beside the built-in interfaces.
abbrev pub with_threads : List (List Stmt) → Scenario
with_threads threads = record {
  version = 1;
  pool = 4;
  classes = record { interfaces = built_in_interfaces; classes = counters };
  filters = [];
  threads = threads;
  picks = [];
}

-- The scenario of a number: 8 threads.
unfoldable pub load_scenario : ℕ → Scenario
load_scenario number = with_threads (scripts 8 (seeded number))
