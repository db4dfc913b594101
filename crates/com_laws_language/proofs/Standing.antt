-- What was read so far is sections, and what is open of one more.
use Rattle.std.proofs.Common.{◌≡◌, ℕ, ◌+◌, ◌≤◌, ◌<◌, false, List, [], ◌∷◌, ◌++◌, length, map, flat_map, Ok, refl, sym, ap, ◌∙◌, arith, is_some, slice_get, nat_le, codes}
use Rattle.std.proofs.lemmas.List.{length-map}
use Rattle.std.proofs.lemmas.Bool.{leb-false}
use Rattle.com_body.specs.declared.frame.Native.TheVariants as natives
use Rattle.com_classes.specs.declared.interfaces.Interface.{Interface}
use Rattle.com_classes.specs.declared.classes.Class.{Class}
use Rattle.com_classes.specs.BuiltIns.{built_in_interfaces}
use Rattle.com_filter.specs.declared.Rule.{Rule}
use Rattle.com_body.specs.declared.statements.Stmt.{Stmt}
use Rattle.com_text.specs.Words.{WordAt}
use Rattle.com_read_operands.specs.Reading.{end_at}
use Rattle.com_read_statements.specs.declared.calls.MethodNumber.{MethodNumber}
use Rattle.com_read_statements.specs.declared.keywords.Program.TheVariants as programs
use Rattle.com_read_statements.specs.Calls.{method_at}
use Rattle.com_read_lines.specs.Codes.{CodeAt}
use Rattle.com_read_lines.specs.Declaring.{free_guid_at, free_name_at, filter_name_at, model_at, listed_at}
use Rattle.com_read_sections.specs.declared.state.State.{State}
use Rattle.com_read_sections.specs.declared.state.Section.TheVariants as within
use Rattle.com_read_sections.specs.Opened.{has_body, program_of}
use Rattle.com_laws_language.specs.Orders.{InOrder}
use Rattle.com_laws_language.specs.Sections.{Line, BodyLines, body_lines, Section, section_lines}
use Rattle.com_laws_language.specs.Parts.{Part, of_lanes, of_interface, of_class, of_filter, of_script, of_picks, lanes_in, interface_in, class_in, filter_name_in, script_in, name_of_class, name_of_interface, names_below, clsids_below, IsWithinLimits}
use Rattle.com_laws_language.specs.Spelling.{Begins, IsStatement, IsRule, IsBody, IsInterface, names_inside, Declares}
use Rattle.com_laws_language.proofs.Lists.{flat_push, few_push, order_push}
use Rattle.com_laws_language.proofs.States.{state_at, interface_begun, class_begun, filter_begun, thread_begun}

-- ---- whole sections, and the parts that they declare

pub record Whole (sections : List Section) (parts : List Part) : Type 0 where
  pub order : InOrder Declares [] sections parts
  pub limits : IsWithinLimits parts

pub record AtTop (v : ℕ) (lines : List Line) (st : State) : Type 0 where
  pub sections : List Section
  pub parts : List Part
  pub read : lines ≡ flat_map section_lines sections
  pub whole : Whole sections parts
  pub is : st ≡ state_at v parts

pub record AtInterface (v : ℕ) (lines : List Line) (st : State) : Type 0 where
  pub sections : List Section
  pub parts : List Part
  pub head : Line
  pub more : List Line
  pub i : Interface
  pub read : lines ≡ flat_map section_lines sections ++ head ∷ more
  pub whole : Whole sections parts
  pub room : length (flat_map interface_in parts) < 60
  pub declares : IsInterface parts head more i
  pub is : st ≡ interface_begun (state_at v parts) i

-- a class with its bodies so far
pub record IsOpenClass (above : List Part) (head : Line) (lines : List BodyLines) (c : Class) : Type 0 where
  pub begins : Begins head (codes "class")
  pub word : WordAt
  pub named : free_name_at (names_below above).classes head 1 ≡ Ok word
  pub name : c.name ≡ word.bytes
  pub clsid : free_guid_at (clsids_below above) head 2 ≡ Ok c.clsid
  pub model : model_at head 3 ≡ Ok c.model
  pub written : c.native ≡ natives.Bodies
  pub interfaces : listed_at (names_below above).interfaces head ≡ Ok c.interfaces
  pub bodies : InOrder (IsBody (names_inside above c.name) c.model) [] lines c.bodies

pub record AtClass (v : ℕ) (lines : List Line) (st : State) : Type 0 where
  pub sections : List Section
  pub parts : List Part
  pub head : Line
  pub bodies : List BodyLines
  pub c : Class
  pub read : lines ≡ flat_map section_lines sections ++ head ∷ flat_map body_lines bodies
  pub whole : Whole sections parts
  pub room : length (flat_map class_in parts) < 64
  pub declares : IsOpenClass parts head bodies c
  pub is : st ≡ class_begun (state_at v parts) c

pub record AtBody (v : ℕ) (lines : List Line) (st : State) : Type 0 where
  pub sections : List Section
  pub parts : List Part
  pub head : Line
  pub bodies : List BodyLines
  pub c : Class
  pub first : Line
  pub statements : List Line
  pub number : MethodNumber
  pub code : CodeAt
  pub read : lines ≡ flat_map section_lines sections ++ (head ∷ (flat_map body_lines bodies ++ first ∷ statements))
  pub whole : Whole sections parts
  pub room : length (flat_map class_in parts) < 64
  pub declares : IsOpenClass parts head bodies c
  pub begins : Begins first (codes "body")
  pub method : method_at (names_inside parts c.name) first 1 ≡ Ok number
  pub once : has_body c.bodies number ≡ false
  pub no_more : end_at first 2 ≡ Ok tt
  pub stated : InOrder (IsStatement (program_of c.model) (names_inside parts c.name)) [] statements code.statements
  pub is : st ≡ record (class_begun (state_at v parts) c) { section = within.Body c number code }

pub record AtFilter (v : ℕ) (lines : List Line) (st : State) : Type 0 where
  pub sections : List Section
  pub parts : List Part
  pub head : Line
  pub more : List Line
  pub name : List ℕ
  pub rules : List Rule
  pub read : lines ≡ flat_map section_lines sections ++ head ∷ more
  pub whole : Whole sections parts
  pub room : length (flat_map filter_name_in parts) < 16
  pub begins : Begins head (codes "filter")
  pub word : WordAt
  pub named : filter_name_at (names_below parts).filters head ≡ Ok word
  pub same : name ≡ word.bytes
  pub no_more : end_at head 2 ≡ Ok tt
  pub ruled : InOrder IsRule [] more rules
  pub few : length rules ≤ 32
  pub is : st ≡ filter_begun (state_at v parts) name rules

pub record AtThread (v : ℕ) (lines : List Line) (st : State) : Type 0 where
  pub sections : List Section
  pub parts : List Part
  pub head : Line
  pub more : List Line
  pub code : CodeAt
  pub read : lines ≡ flat_map section_lines sections ++ head ∷ more
  pub whole : Whole sections parts
  pub room : length (flat_map script_in parts) < 16
  pub begins : Begins head (codes "thread")
  pub no_more : end_at head 1 ≡ Ok tt
  pub stated : InOrder (IsStatement programs.Script (names_below parts)) [] more code.statements
  pub is : st ≡ thread_begun (state_at v parts) code

pub data Standing (v : ℕ) (lines : List Line) (st : State) : Type 0 where
  at_top : AtTop v lines st → Standing v lines st
  at_interface : AtInterface v lines st → Standing v lines st
  at_class : AtClass v lines st → Standing v lines st
  at_body : AtBody v lines st → Standing v lines st
  at_filter : AtFilter v lines st → Standing v lines st
  at_thread : AtThread v lines st → Standing v lines st

-- ---- limits

module _ (parts : List Part) (h : IsWithinLimits parts) where
  pub one_more : (p : Part) → length (flat_map lanes_in parts) + length (lanes_in p) ≤ 1 → length (flat_map interface_in parts) + length (interface_in p) ≤ 60 → length (flat_map class_in parts) + length (class_in p) ≤ 64
      → length (flat_map filter_name_in parts) + length (filter_name_in p) ≤ 16 → length (flat_map script_in parts) + length (script_in p) ≤ 16 → IsWithinLimits (parts ++ p ∷ [])
  one_more p a b c d e = record {
    pools = few_push lanes_in parts p 1 a;
    interfaces = few_push interface_in parts p 60 b;
    classes = few_push class_in parts p 64 c;
    filters = few_push filter_name_in parts p 16 d;
    threads = few_push script_in parts p 16 e;
  }

  pub more_lanes : (n : ℕ) → flat_map lanes_in parts ≡ [] → IsWithinLimits (parts ++ of_lanes n ∷ [])
  more_lanes n none = let b = h.interfaces in let c = h.classes in let d = h.filters in let e = h.threads in
      let a : length (flat_map lanes_in parts) ≡ 0 = ap length none in
      one_more (of_lanes n) (omega arith) (omega arith) (omega arith) (omega arith) (omega arith)

  pub more_interfaces : (i : Interface) → length (flat_map interface_in parts) < 60 → IsWithinLimits (parts ++ of_interface i ∷ [])
  more_interfaces i room = let a = h.pools in let c = h.classes in let d = h.filters in let e = h.threads in
      one_more (of_interface i) (omega arith) (omega arith) (omega arith) (omega arith) (omega arith)

  pub more_classes : (c : Class) → length (flat_map class_in parts) < 64 → IsWithinLimits (parts ++ of_class c ∷ [])
  more_classes c room = let a = h.pools in let b = h.interfaces in let d = h.filters in let e = h.threads in
      one_more (of_class c) (omega arith) (omega arith) (omega arith) (omega arith) (omega arith)

  pub more_filters : (name : List ℕ) (rules : List Rule) → length (flat_map filter_name_in parts) < 16 → IsWithinLimits (parts ++ of_filter name rules ∷ [])
  more_filters name rules room = let a = h.pools in let b = h.interfaces in let c = h.classes in let e = h.threads in
      one_more (of_filter name rules) (omega arith) (omega arith) (omega arith) (omega arith) (omega arith)

  pub more_scripts : (body : List Stmt) → length (flat_map script_in parts) < 16 → IsWithinLimits (parts ++ of_script body ∷ [])
  more_scripts body room = let a = h.pools in let b = h.interfaces in let c = h.classes in let d = h.filters in
      one_more (of_script body) (omega arith) (omega arith) (omega arith) (omega arith) (omega arith)

  pub more_picks : (lanes : List ℕ) → IsWithinLimits (parts ++ of_picks lanes ∷ [])
  more_picks lanes = let a = h.pools in let b = h.interfaces in let c = h.classes in let d = h.filters in let e = h.threads in
      one_more (of_picks lanes) (omega arith) (omega arith) (omega arith) (omega arith) (omega arith)

pub none_yet : (xs : List ℕ) → is_some (slice_get xs 0) ≡ false → xs ≡ []
none_yet [] e = refl
none_yet (x ∷ xs) e = absurd cc

pub room_for_interface : (own : List Interface) → nat_le 64 (length (map name_of_interface (built_in_interfaces ++ own))) ≡ false → length own < 60
room_for_interface own e = let few = leb-false 64 (length (map name_of_interface (built_in_interfaces ++ own))) e in omega (arith, few, length-map own name_of_interface)

pub room_for_class : (cs : List Class) → nat_le 64 (length (map name_of_class cs)) ≡ false → length cs < 64
room_for_class cs e = let few = leb-false 64 (length (map name_of_class cs)) e in omega (arith, few, length-map cs name_of_class)

-- ---- one section more

pub whole_push : (sections : List Section) (parts : List Part) (section : Section) (part : Part) → Whole sections parts → Declares parts section part → IsWithinLimits (parts ++ part ∷ []) → Whole (sections ++ section ∷ []) (parts ++ part ∷ [])
whole_push sections parts section part h d few = record { order = order_push Declares [] sections parts section part h.order d; limits = few }

pub closed : (v : ℕ) (sections : List Section) (parts : List Part) (section : Section) (part : Part) (lines : List Line) (st : State) → Whole sections parts → Declares parts section part → IsWithinLimits (parts ++ part ∷ [])
    → lines ≡ flat_map section_lines sections ++ section_lines section → st ≡ state_at v (parts ++ part ∷ []) → AtTop v lines st
closed v sections parts section part lines st h d few e is = record {
  sections = sections ++ section ∷ [];
  parts = parts ++ part ∷ [];
  read = e ∙ sym (flat_push section_lines sections section);
  whole = whole_push sections parts section part h d few;
  is = is;
}
