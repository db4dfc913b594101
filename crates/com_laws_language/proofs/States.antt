-- What the reader knows outside of sections, by the parts above.
use Rattle.std.proofs.Common.{◌≡◌, ℕ, List, [], ◌∷◌, ◌++◌, map, flat_map, slice_get, Some, refl, ap, ◌∙◌, append-nil}
use Rattle.std.proofs.lemmas.List.{map_push}
use Rattle.com_body.specs.declared.statements.Stmt.{Stmt}
use Rattle.com_classes.specs.declared.interfaces.Interface.{Interface}
use Rattle.com_classes.specs.declared.classes.Class.{Class}
use Rattle.com_classes.specs.BuiltIns.{built_in_interfaces}
use Rattle.com_filter.specs.declared.Rule.{Rule}
use Rattle.com_read_lines.specs.Codes.{CodeAt}
use Rattle.com_read_sections.specs.declared.state.State.{State}
use Rattle.com_read_sections.specs.declared.state.Section.TheVariants as within
use Rattle.com_read_sections.specs.Opened.{interface_closed}
use Rattle.com_read_sections.specs.Outlines.{taken_iids}
use Rattle.com_laws_language.specs.Parts.{Part, of_lanes, of_interface, of_class, of_filter, of_script, of_picks}
use Rattle.com_laws_language.specs.Parts.{lanes_in, interface_in, class_in, filter_name_in, filter_in, script_in, picks_in, name_of_class, name_of_interface, iid_of, clsid_of}
use Rattle.com_laws_language.proofs.Lists.{flat_push}

-- what is known by the lists of what was declared
unfoldable pub from : ℕ → List ℕ → List Interface → List Class → List (List ℕ) → List (List Rule) → List (List Stmt) → List ℕ → State
from v lanes own classes names filters scripts picks = record {
  version = v;
  pool = slice_get lanes 0;
  names = record {
    classes = map name_of_class classes;
    interfaces = map name_of_interface (built_in_interfaces ++ own);
    filters = names;
    tables = built_in_interfaces ++ own;
  };
  iids = taken_iids built_in_interfaces ++ map iid_of own;
  clsids = map clsid_of classes;
  classes = classes;
  filters = filters;
  threads = scripts;
  picks = picks;
  section = within.Top;
}

abbrev pub state_at : ℕ → List Part → State
state_at v parts = from v (flat_map lanes_in parts) (flat_map interface_in parts) (flat_map class_in parts) (flat_map filter_name_in parts) (flat_map filter_in parts) (flat_map script_in parts) (flat_map picks_in parts)

same_from : (v : ℕ) (l l' : List ℕ) (o o' : List Interface) (c c' : List Class) (n n' : List (List ℕ)) (f f' : List (List Rule)) (s s' : List (List Stmt)) (p p' : List ℕ)
    → l ≡ l' → o ≡ o' → c ≡ c' → n ≡ n' → f ≡ f' → s ≡ s' → p ≡ p' → from v l o c n f s p ≡ from v l' o' c' n' f' s' p'
same_from v l l' o o' c c' n n' f f' s s' p p' el eo ec en ef es ep = cc (el, eo, ec, en, ef, es, ep)

grown : (v : ℕ) (ps : List Part) (p : Part) (l : List ℕ) (o : List Interface) (c : List Class) (n : List (List ℕ)) (f : List (List Rule)) (s : List (List Stmt)) (k : List ℕ)
    → flat_map lanes_in ps ++ lanes_in p ≡ l → flat_map interface_in ps ++ interface_in p ≡ o → flat_map class_in ps ++ class_in p ≡ c → flat_map filter_name_in ps ++ filter_name_in p ≡ n
    → flat_map filter_in ps ++ filter_in p ≡ f → flat_map script_in ps ++ script_in p ≡ s → flat_map picks_in ps ++ picks_in p ≡ k → state_at v (ps ++ p ∷ []) ≡ from v l o c n f s k
grown v ps p l o c n f s k el eo ec en ef es ek = same_from v _ _ _ _ _ _ _ _ _ _ _ _ _ _
    (flat_push lanes_in ps p ∙ el) (flat_push interface_in ps p ∙ eo) (flat_push class_in ps p ∙ ec) (flat_push filter_name_in ps p ∙ en)
    (flat_push filter_in ps p ∙ ef) (flat_push script_in ps p ∙ es) (flat_push picks_in ps p ∙ ek)

-- ---- what a line makes

abbrev pub pooled : State → ℕ → State
pooled st lanes = record st { pool = Some lanes }

abbrev pub interface_begun : State → Interface → State
interface_begun st i = record st {
  names = record (st.names) { interfaces = st.names.interfaces ++ i.name ∷ [] };
  iids = st.iids ++ i.iid ∷ [];
  section = within.Interface i;
}

-- a class's names, in whatever stands below
abbrev pub class_named : State → Class → State
class_named st c = record st {
  names = record (st.names) { classes = st.names.classes ++ c.name ∷ [] };
  clsids = st.clsids ++ c.clsid ∷ [];
}

abbrev pub class_begun : State → Class → State
class_begun st c = record (class_named st c) { section = within.Class c }

abbrev pub class_added : State → Class → State
class_added st c = record (class_named st c) { classes = st.classes ++ c ∷ [] }

abbrev pub filter_begun : State → List ℕ → List Rule → State
filter_begun st name rules = record st {
  names = record (st.names) { filters = st.names.filters ++ name ∷ [] };
  section = within.Filter rules;
}

abbrev pub filter_added : State → List ℕ → List Rule → State
filter_added st name rules = record st {
  names = record (st.names) { filters = st.names.filters ++ name ∷ [] };
  filters = st.filters ++ rules ∷ [];
}

abbrev pub thread_begun : State → CodeAt → State
thread_begun st code = record st { section = within.Thread code }

abbrev pub script_added : State → List Stmt → State
script_added st body = record st { threads = st.threads ++ body ∷ [] }

abbrev pub picked : State → List ℕ → State
picked st lanes = record st { picks = st.picks ++ lanes }

-- ---- what stands outside of sections with one part more

module _ (v : ℕ) (ps : List Part) where
  pub with_lanes : (n : ℕ) → flat_map lanes_in ps ≡ [] → state_at v (ps ++ of_lanes n ∷ []) ≡ pooled (state_at v ps) n
  unfolding from
  with_lanes n h = grown v ps (of_lanes n) (n ∷ []) (flat_map interface_in ps) (flat_map class_in ps) (flat_map filter_name_in ps) (flat_map filter_in ps) (flat_map script_in ps) (flat_map picks_in ps) (ap (λ (x : List ℕ). x ++ n ∷ []) h) (append-nil _) (append-nil _) (append-nil _) (append-nil _) (append-nil _) (append-nil _)

  pub with_interface : (i : Interface) → state_at v (ps ++ of_interface i ∷ []) ≡ interface_closed (interface_begun (state_at v ps) i) i
  unfolding from
  with_interface i = grown v ps (of_interface i) (flat_map lanes_in ps) (flat_map interface_in ps ++ i ∷ []) (flat_map class_in ps) (flat_map filter_name_in ps) (flat_map filter_in ps) (flat_map script_in ps) (flat_map picks_in ps) (append-nil _) refl (append-nil _) (append-nil _) (append-nil _) (append-nil _) (append-nil _)
      ∙ rw (map_push name_of_interface (flat_map interface_in ps) i, map_push iid_of (flat_map interface_in ps) i) refl

  pub with_class : (c : Class) → state_at v (ps ++ of_class c ∷ []) ≡ class_added (state_at v ps) c
  unfolding from
  with_class c = grown v ps (of_class c) (flat_map lanes_in ps) (flat_map interface_in ps) (flat_map class_in ps ++ c ∷ []) (flat_map filter_name_in ps) (flat_map filter_in ps) (flat_map script_in ps) (flat_map picks_in ps) (append-nil _) (append-nil _) refl (append-nil _) (append-nil _) (append-nil _) (append-nil _)
      ∙ rw (map_push name_of_class (flat_map class_in ps) c, map_push clsid_of (flat_map class_in ps) c) refl

  pub with_filter : (name : List ℕ) (rules : List Rule) → state_at v (ps ++ of_filter name rules ∷ []) ≡ filter_added (state_at v ps) name rules
  unfolding from
  with_filter name rules = grown v ps (of_filter name rules) (flat_map lanes_in ps) (flat_map interface_in ps) (flat_map class_in ps) (flat_map filter_name_in ps ++ name ∷ []) (flat_map filter_in ps ++ rules ∷ []) (flat_map script_in ps) (flat_map picks_in ps) (append-nil _) (append-nil _) (append-nil _) refl refl (append-nil _) (append-nil _)

  pub with_script : (body : List Stmt) → state_at v (ps ++ of_script body ∷ []) ≡ script_added (state_at v ps) body
  unfolding from
  with_script body = grown v ps (of_script body) (flat_map lanes_in ps) (flat_map interface_in ps) (flat_map class_in ps) (flat_map filter_name_in ps) (flat_map filter_in ps) (flat_map script_in ps ++ body ∷ []) (flat_map picks_in ps) (append-nil _) (append-nil _) (append-nil _) (append-nil _) (append-nil _) refl (append-nil _)

  pub with_picks : (lanes : List ℕ) → state_at v (ps ++ of_picks lanes ∷ []) ≡ picked (state_at v ps) lanes
  unfolding from
  with_picks lanes = grown v ps (of_picks lanes) (flat_map lanes_in ps) (flat_map interface_in ps) (flat_map class_in ps) (flat_map filter_name_in ps) (flat_map filter_in ps) (flat_map script_in ps) (flat_map picks_in ps ++ lanes) (append-nil _) (append-nil _) (append-nil _) (append-nil _) (append-nil _) (append-nil _) refl
