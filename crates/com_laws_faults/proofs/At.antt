-- What is read at one word: in front of the cut the same, and behind it its faults stand there.
use Rattle.std.proofs.Common.{◌≡◌, ℕ, ◌-◌, ◌≤◌, ◌<◌, Bool, true, false, not, List, ◌++◌, length, Option, Some, None, Result, Ok, Err, refl, ap, subst, ◌∙◌, arith, if◌then◌else◌, nat_lt}
use Rattle.std.specs.Prelude.{slice_get, is_some, bytes_eq, codes}
use Rattle.com_base.specs.declared.guid.Guid.{Guid}
use Rattle.com_base.specs.declared.value.Kind.{Kind}
use Rattle.com_classes.specs.declared.classes.ThreadingModel.{ThreadingModel}
use Rattle.com_text.specs.declared.word.Sort.{Sort}
use Rattle.com_text.specs.declared.word.Sort.TheVariants as sorts
use Rattle.com_text.specs.Words.{WordAt}
use Rattle.com_read_operands.specs.declared.faults.Fault.{Fault}
use Rattle.com_read_operands.specs.Numbers.{number_of, signed_of}
use Rattle.com_read_operands.specs.Reading.{◌>>=◌, fault_at, missing_at, judged, needed, word_at, is_word, is_there, stands_at, left_over, nothing, end_at, opening, opened, first_at, number_at}
use Rattle.com_read_operands.specs.Literals.{guid_at, guid_of, are_pairs, unhexed}
use Rattle.com_read_operands.specs.Naming.{is_name, name_at, position_of, number_of_name, declared_at, opens_brace, asked_at}
use Rattle.com_read_operands.specs.Operands.{operand_of, register_at, slot_at, cell_at, buffer_at, place_at, op_at, hresult_of, code_at, given_at, mode_at, marshal_mode_at}
use Rattle.com_read_statements.specs.declared.names.Names.{Names}
use Rattle.com_read_statements.specs.Calls.{dot_of, target_at, method_at, argument_at}
use Rattle.com_read_statements.specs.Statements.{raw_at, filter_at}
use Rattle.com_read_lines.specs.Tables.{has_guid}
use Rattle.com_read_lines.specs.Declaring.{free_guid_at, free_name_at, interface_name_at, filter_name_at, model_at, native_at}
use Rattle.com_read_lines.specs.Methods.{type_word_of}
use Rattle.com_read_lines.specs.Rules.{call_type_at, verdict_at, refusal_at, answer_at, kept_at}
use Rattle.com_laws_faults.proofs.Words.{within_first}
use Rattle.com_laws_faults.proofs.Out.{IsSorted, IsFrom, Cut, Outside, Reads, okay, wrong, missing_word, strays, part, also, fixed, fork, is_from}
use Rattle.com_laws_faults.proofs.Pure.{within_out, guid_out, known_out, asked_out, register_out, slot_out, cell_out, buffer_out, place_out, literal_out, code_out, given_out, dotted_out, headed_out, argument_out, raw_out, relay_out, answer_out}

judged_same : (p a : List WordAt) (k : ℕ) → k < length p → (w : WordAt) (sort : Sort) → judged (p ++ a) k w sort ≡ judged p k w sort
judged_same p a k l w sorts.Plain = refl
judged_same p a k l w sorts.Text = refl
judged_same p a k l w sorts.Bytes = refl
judged_same p a k l w sorts.Unclosed = refl
judged_same p a k l w (sorts.Stray c) = refl
judged_same p a k l w (sorts.Remark c) = ap (λ (o : Option WordAt). Err (missing_at o)) (within_first p a (k - 1) (omega arith))

needed_same : (p a : List WordAt) (k : ℕ) → k < length p → (o : Option WordAt) → needed (p ++ a) k o ≡ needed p k o
needed_same p a k l None = ap (λ (o : Option WordAt). Err (missing_at o)) (within_first p a (k - 1) (omega arith))
needed_same p a k l (Some w) = judged_same p a k l w w.sort

judged_out : (x : Cut) (k : ℕ) (w : WordAt) (sort : Sort) → w.sort ≡ sort → IsFrom x.line x.column w → Outside x (judged (x.p ++ x.a) k w sort)
judged_out x k w sorts.Plain e h = okay x w
judged_out x k w sorts.Text e h = okay x w
judged_out x k w sorts.Bytes e h = okay x w
judged_out x k w sorts.Unclosed e h = wrong x 3 w h
judged_out x k w (sorts.Stray c) e h = strays x w c h (subst (IsSorted x.column) e h.sort)
judged_out x k w (sorts.Remark c) e h = missing_word x (slice_get (x.p ++ x.a) (k - 1)) (λ v d. x.lined (k - 1) v d)

needed_out : (x : Cut) (k : ℕ) (o : Option WordAt) → ((w : WordAt) → o ≡ Some w → IsFrom x.line x.column w) → Outside x (needed (x.p ++ x.a) k o)
needed_out x k None h = missing_word x (slice_get (x.p ++ x.a) (k - 1)) (λ w e. x.lined (k - 1) w e)
needed_out x k (Some w) h = judged_out x k w w.sort refl (h w refl)

judged_gives : (line : List WordAt) (k : ℕ) (w v : WordAt) (sort : Sort) → judged line k w sort ≡ Ok v → w ≡ v
judged_gives line k w v sorts.Plain e = cc
judged_gives line k w v sorts.Text e = cc
judged_gives line k w v sorts.Bytes e = cc
judged_gives line k w v sorts.Unclosed e = absurd cc
judged_gives line k w v (sorts.Stray c) e = absurd cc
judged_gives line k w v (sorts.Remark c) e = absurd cc

needed_gives : (line : List WordAt) (k : ℕ) (o : Option WordAt) (v : WordAt) → needed line k o ≡ Ok v → o ≡ Some v
needed_gives line k None v e = absurd cc
needed_gives line k (Some w) v e = ap (λ (u : WordAt). Some u) (judged_gives line k w v w.sort e)

opening_out : (x : Cut) (w : WordAt) (sort : Sort) → w.sort ≡ sort → IsFrom x.line x.column w → Outside x (opening w sort)
opening_out x w sorts.Plain e h = okay x w
opening_out x w sorts.Text e h = okay x w
opening_out x w sorts.Bytes e h = okay x w
opening_out x w sorts.Unclosed e h = wrong x 3 w h
opening_out x w (sorts.Stray c) e h = strays x w c h (subst (IsSorted x.column) e h.sort)
opening_out x w (sorts.Remark c) e h = strays x w c h (subst (IsSorted x.column) e h.sort)

opened_out : (x : Cut) (o : Option WordAt) → ((w : WordAt) → o ≡ Some w → IsFrom x.line x.column w) → Outside x (opened (x.p ++ x.a) o)
opened_out x None h = missing_word x (slice_get (x.p ++ x.a) 0) (λ w e. x.lined 0 w e)
opened_out x (Some w) h = opening_out x w w.sort refl (h w refl)

opening_gives : (w v : WordAt) (sort : Sort) → opening w sort ≡ Ok v → w ≡ v
opening_gives w v sorts.Plain e = cc
opening_gives w v sorts.Text e = cc
opening_gives w v sorts.Bytes e = cc
opening_gives w v sorts.Unclosed e = absurd cc
opening_gives w v (sorts.Stray c) e = absurd cc
opening_gives w v (sorts.Remark c) e = absurd cc

pub opened_gives : (line : List WordAt) (o : Option WordAt) (v : WordAt) → opened line o ≡ Ok v → o ≡ Some v
opened_gives line None v e = absurd cc
opened_gives line (Some w) v e = ap (λ (u : WordAt). Some u) (opening_gives w v w.sort e)

opened_same : (p a : List WordAt) → 0 < length p → (o : Option WordAt) → opened (p ++ a) o ≡ opened p o
opened_same p a l None = ap (λ (o : Option WordAt). Err (missing_at o)) (within_first p a 0 l)
opened_same p a l (Some w) = refl

there_out : (x : Cut) (w : WordAt) (sort : Sort) → w.sort ≡ sort → IsFrom x.line x.column w → Outside x (is_word w sort)
there_out x w (sorts.Remark c) e h = strays x w c h (subst (IsSorted x.column) e h.sort)
there_out x w sorts.Plain e h = okay x _
there_out x w sorts.Text e h = okay x _
there_out x w sorts.Bytes e h = okay x _
there_out x w sorts.Unclosed e h = okay x _
there_out x w (sorts.Stray c) e h = okay x _

is_there_out : (x : Cut) (o : Option WordAt) → ((w : WordAt) → o ≡ Some w → IsFrom x.line x.column w) → Outside x (is_there o)
is_there_out x None h = okay x _
is_there_out x (Some w) h = there_out x w w.sort refl (h w refl)

left_out : (x : Cut) (w : WordAt) (sort : Sort) → w.sort ≡ sort → IsFrom x.line x.column w → Outside x (left_over w sort)
left_out x w sorts.Plain e h = wrong x 5 w h
left_out x w sorts.Text e h = wrong x 5 w h
left_out x w sorts.Bytes e h = wrong x 5 w h
left_out x w sorts.Unclosed e h = wrong x 3 w h
left_out x w (sorts.Stray c) e h = strays x w c h (subst (IsSorted x.column) e h.sort)
left_out x w (sorts.Remark c) e h = strays x w c h (subst (IsSorted x.column) e h.sort)

nothing_out : (x : Cut) (o : Option WordAt) → ((w : WordAt) → o ≡ Some w → IsFrom x.line x.column w) → Outside x (nothing o)
nothing_out x None h = okay x _
nothing_out x (Some w) h = left_out x w w.sort refl (h w refl)

module _ (x : Cut) where
  pub word_reads : (k : ℕ) → Reads x k (word_at x.p k) (word_at (x.p ++ x.a) k)
  unfolding word_at
  word_reads k = record {
    same = λ l. ap (λ (o : Option WordAt). needed (x.p ++ x.a) k o) (within_first x.p x.a k l) ∙ needed_same x.p x.a k l (slice_get x.p k);
    late = λ l. needed_out x k (slice_get (x.p ++ x.a) k) (λ w e. is_from x k w l e);
  }

  pub word_from : (k : ℕ) (w : WordAt) → length x.p ≤ k → word_at (x.p ++ x.a) k ≡ Ok w → IsFrom x.line x.column w
  unfolding word_at
  word_from k w l e = is_from x k w l (needed_gives (x.p ++ x.a) k (slice_get (x.p ++ x.a) k) w e)

  pub first_reads : Reads x 0 (first_at x.p) (first_at (x.p ++ x.a))
  unfolding first_at
  first_reads = record {
    same = λ l. ap (λ (o : Option WordAt). opened (x.p ++ x.a) o) (within_first x.p x.a 0 l) ∙ opened_same x.p x.a l (slice_get x.p 0);
    late = λ l. opened_out x (slice_get (x.p ++ x.a) 0) (λ w e. is_from x 0 w l e);
  }

  pub first_from : (w : WordAt) → length x.p ≤ 0 → first_at (x.p ++ x.a) ≡ Ok w → IsFrom x.line x.column w
  unfolding first_at
  first_from w l e = is_from x 0 w l (opened_gives (x.p ++ x.a) (slice_get (x.p ++ x.a) 0) w e)

  pub stands_reads : (k : ℕ) → Reads x k (stands_at x.p k) (stands_at (x.p ++ x.a) k)
  unfolding stands_at
  stands_reads k = record {
    same = λ l. ap is_there (within_first x.p x.a k l);
    late = λ l. is_there_out x (slice_get (x.p ++ x.a) k) (λ w e. is_from x k w l e);
  }

  pub end_reads : (k : ℕ) → Reads x k (end_at x.p k) (end_at (x.p ++ x.a) k)
  unfolding end_at
  end_reads k = record {
    same = λ l. ap nothing (within_first x.p x.a k l);
    late = λ l. nothing_out x (slice_get (x.p ++ x.a) k) (λ w e. is_from x k w l e);
  }

  -- what is made of the word at an index
  pub word_then : {A : Type 0} (k : ℕ) (f : WordAt → Result A Fault) → ((w : WordAt) → IsFrom x.line x.column w → Outside x (f w)) → Reads x k (word_at x.p k >>= f) (word_at (x.p ++ x.a) k >>= f)
  word_then k f h = also x k (word_at x.p k) (word_at (x.p ++ x.a) k) f f (word_reads k) (λ w e. fixed x k (f w) (λ l. h w (word_from k w l e)))

  pub number_reads : (low high k : ℕ) → Reads x k (number_at low high x.p k) (number_at low high (x.p ++ x.a) k)
  unfolding number_at
  number_reads low high k = word_then k _ (λ w h. within_out x w h low high (number_of w.bytes))

  pub guid_reads : (k : ℕ) → Reads x k (guid_at x.p k) (guid_at (x.p ++ x.a) k)
  unfolding guid_at
  guid_reads k = word_then k _ (λ w h. guid_out x w h (guid_of w.bytes))

  pub name_reads : (k : ℕ) → Reads x k (name_at x.p k) (name_at (x.p ++ x.a) k)
  unfolding name_at
  name_reads k = word_then k _ (λ w h. part x (is_name w.bytes) _ _ (okay x w) (wrong x 3 w h))

  pub name_from : (k : ℕ) (w : WordAt) → length x.p ≤ k → name_at (x.p ++ x.a) k ≡ Ok w → IsFrom x.line x.column w
  unfolding name_at
  name_from k w l e = by (word_at (x.p ++ x.a) k) refl e
    where
      checked : (b : Bool) (v : WordAt) → (if b then Ok v else Err (fault_at 3 v)) ≡ Ok w → v ≡ w
      checked true v d = cc
      checked false v d = absurd cc

      by : (r : Result WordAt Fault) → word_at (x.p ++ x.a) k ≡ r → (r >>= λ v. if is_name v.bytes then Ok v else Err (fault_at 3 v)) ≡ Ok w → IsFrom x.line x.column w
      by (Ok v) q d = word_from k w l (q ∙ ap (λ (u : WordAt). Ok u) (checked (is_name v.bytes) v d))
      by (Err v) q d = absurd cc

  pub name_then : {A : Type 0} (k : ℕ) (f : WordAt → Result A Fault) → ((w : WordAt) → IsFrom x.line x.column w → Outside x (f w)) → Reads x k (name_at x.p k >>= f) (name_at (x.p ++ x.a) k >>= f)
  name_then k f h = also x k (name_at x.p k) (name_at (x.p ++ x.a) k) f f (name_reads k) (λ w e. fixed x k (f w) (λ l. h w (name_from k w l e)))

  pub declared_reads : (names : List (List ℕ)) (k : ℕ) → Reads x k (declared_at names x.p k) (declared_at names (x.p ++ x.a) k)
  unfolding declared_at
  declared_reads names k = name_then k _ (λ w h. known_out x w h (number_of_name names w.bytes))

  pub asked_reads : (names : List (List ℕ)) (low k : ℕ) → Reads x k (asked_at names low x.p k) (asked_at names low (x.p ++ x.a) k)
  unfolding asked_at
  asked_reads names low k = also x k (word_at x.p k) (word_at (x.p ++ x.a) k) _ _ (word_reads k) (λ w e. fork x k (opens_brace w.bytes) _ _ _ _
      (fixed x k _ (λ l. asked_out x w (word_from k w l e) (guid_of w.bytes)))
      (also x k (declared_at names x.p k) (declared_at names (x.p ++ x.a) k) _ _ (declared_reads names k) (λ n d. fixed x k _ (λ l. okay x _))))

  pub register_reads : (k : ℕ) → Reads x k (register_at x.p k) (register_at (x.p ++ x.a) k)
  unfolding register_at
  register_reads k = word_then k _ (λ w h. register_out x w h (operand_of w))

  pub slot_reads : (k : ℕ) → Reads x k (slot_at x.p k) (slot_at (x.p ++ x.a) k)
  unfolding slot_at
  slot_reads k = word_then k _ (λ w h. slot_out x w h (operand_of w))

  pub cell_reads : (cells : Bool) (k : ℕ) → Reads x k (cell_at cells x.p k) (cell_at cells (x.p ++ x.a) k)
  unfolding cell_at
  cell_reads cells k = word_then k _ (λ w h. cell_out x w h cells (operand_of w))

  pub buffer_reads : (k : ℕ) → Reads x k (buffer_at x.p k) (buffer_at (x.p ++ x.a) k)
  unfolding buffer_at
  buffer_reads k = word_then k _ (λ w h. buffer_out x w h (operand_of w))

  pub place_reads : (links : Bool) (k : ℕ) → Reads x k (place_at links x.p k) (place_at links (x.p ++ x.a) k)
  unfolding place_at
  place_reads links k = word_then k _ (λ w h. place_out x w h links (operand_of w))

  pub op_reads : (k : ℕ) → Reads x k (op_at x.p k) (op_at (x.p ++ x.a) k)
  unfolding op_at
  op_reads k = word_then k _ (λ w h. literal_out x w h (operand_of w))

  pub code_reads : (k : ℕ) → Reads x k (code_at x.p k) (code_at (x.p ++ x.a) k)
  unfolding code_at
  code_reads k = word_then k _ (λ w h. code_out x w h (hresult_of w.bytes))

  pub given_reads : (k : ℕ) → Reads x k (given_at x.p k) (given_at (x.p ++ x.a) k)
  unfolding given_at
  given_reads k = also x k (stands_at x.p k) (stands_at (x.p ++ x.a) k) _ _ (stands_reads k) (λ there e. fork x k there _ _ _ _
      (word_then k _ (λ w h. given_out x w h (operand_of w)))
      (fixed x k _ (λ l. okay x _)))

  pub mode_reads : (k : ℕ) → Reads x k (mode_at x.p k) (mode_at (x.p ++ x.a) k)
  unfolding mode_at
  mode_reads k = word_then k _ (λ w h. part x (bytes_eq w.bytes (codes "sta")) _ _ (okay x _) (part x (bytes_eq w.bytes (codes "mta")) _ _ (okay x _) (wrong x 3 w h)))

  pub marshal_mode_reads : (k : ℕ) → Reads x k (marshal_mode_at x.p k) (marshal_mode_at (x.p ++ x.a) k)
  unfolding marshal_mode_at
  marshal_mode_reads k = word_then k _ (λ w h. part x (bytes_eq w.bytes (codes "normal")) _ _ (okay x _) (part x (bytes_eq w.bytes (codes "strong")) _ _ (okay x _)
      (part x (bytes_eq w.bytes (codes "weak")) _ _ (okay x _) (wrong x 3 w h))))

  pub target_reads : (names : Names) (k : ℕ) → Reads x k (target_at names x.p k) (target_at names (x.p ++ x.a) k)
  unfolding target_at
  target_reads names k = word_then k _ (λ w h. dotted_out x w h names (dot_of w.bytes))

  pub head_reads : (names : Names) (k : ℕ) → Reads x k (method_at names x.p k) (method_at names (x.p ++ x.a) k)
  unfolding method_at
  head_reads names k = word_then k _ (λ w h. headed_out x w h names (dot_of w.bytes))

  pub argument_reads : (kind : Kind) (k : ℕ) → Reads x k (argument_at kind x.p k) (argument_at kind (x.p ++ x.a) k)
  unfolding argument_at
  argument_reads kind k = word_then k _ (λ w h. argument_out x w h kind (operand_of w))

  pub raw_reads : (k : ℕ) → Reads x k (raw_at x.p k) (raw_at (x.p ++ x.a) k)
  unfolding raw_at
  raw_reads k = word_then k _ (λ w h. part x (not (are_pairs w.bytes)) _ _ (wrong x 3 w h) (part x (nat_lt 8192 (length w.bytes)) _ _ (wrong x 12 w h) (raw_out x w h (unhexed w.bytes))))

  pub filter_reads : (filters : List (List ℕ)) (k : ℕ) → Reads x k (filter_at filters x.p k) (filter_at filters (x.p ++ x.a) k)
  unfolding filter_at
  filter_reads filters k = also x k (name_at x.p k) (name_at (x.p ++ x.a) k) _ _ (name_reads k) (λ w e. fork x k (bytes_eq w.bytes (codes "none")) _ _ _ _
      (fixed x k _ (λ l. okay x _))
      (also x k (declared_at filters x.p k) (declared_at filters (x.p ++ x.a) k) _ _ (declared_reads filters k) (λ n d. fixed x k _ (λ l. okay x _))))

  -- ---- declarations and rules

  pub free_guid_reads : (guids : List Guid) (k : ℕ) → Reads x k (free_guid_at guids x.p k) (free_guid_at guids (x.p ++ x.a) k)
  unfolding free_guid_at
  free_guid_reads guids k = also x k (guid_at x.p k) (guid_at (x.p ++ x.a) k) _ _ (guid_reads k) (λ g e. fork x k (has_guid guids g) _ _ _ _
      (word_then k _ (λ w h. wrong x 9 w h))
      (fixed x k _ (λ l. okay x g)))

  pub free_name_reads : (names : List (List ℕ)) (k : ℕ) → Reads x k (free_name_at names x.p k) (free_name_at names (x.p ++ x.a) k)
  unfolding free_name_at
  free_name_reads names k = name_then k _ (λ w h. part x (is_some (position_of names w.bytes)) _ _ (wrong x 9 w h) (okay x w))

  pub interface_name_reads : (names : List (List ℕ)) → Reads x 1 (interface_name_at names x.p) (interface_name_at names (x.p ++ x.a))
  unfolding interface_name_at
  interface_name_reads names = also x 1 (name_at x.p 1) (name_at (x.p ++ x.a) 1) _ _ (name_reads 1) (λ w e. fork x 1 (is_some (type_word_of w.bytes)) _ _ _ _
      (fixed x 1 _ (λ l. wrong x 3 w (name_from 1 w l e)))
      (free_name_reads names 1))

  pub filter_name_reads : (names : List (List ℕ)) → Reads x 1 (filter_name_at names x.p) (filter_name_at names (x.p ++ x.a))
  unfolding filter_name_at
  filter_name_reads names = also x 1 (name_at x.p 1) (name_at (x.p ++ x.a) 1) _ _ (name_reads 1) (λ w e. fork x 1 (bytes_eq w.bytes (codes "none")) _ _ _ _
      (fixed x 1 _ (λ l. wrong x 3 w (name_from 1 w l e)))
      (free_name_reads names 1))

  pub model_reads : (k : ℕ) → Reads x k (model_at x.p k) (model_at (x.p ++ x.a) k)
  unfolding model_at
  model_reads k = word_then k _ (λ w h. part x (bytes_eq w.bytes (codes "none")) _ _ (okay x _) (part x (bytes_eq w.bytes (codes "Apartment")) _ _ (okay x _)
      (part x (bytes_eq w.bytes (codes "Free")) _ _ (okay x _) (part x (bytes_eq w.bytes (codes "Both")) _ _ (okay x _)
      (part x (bytes_eq w.bytes (codes "Neutral")) _ _ (okay x _) (part x (bytes_eq w.bytes (codes "Agile")) _ _ (okay x _) (wrong x 3 w h)))))))

  pub native_reads : (model : ThreadingModel) (k : ℕ) → Reads x k (native_at model x.p k) (native_at model (x.p ++ x.a) k)
  unfolding native_at
  native_reads model k = word_then k _ (λ w h. part x (bytes_eq w.bytes (codes "counter")) _ _ (okay x _) (part x (bytes_eq w.bytes (codes "relay")) _ _ (relay_out x w h model)
      (part x (bytes_eq w.bytes (codes "latch")) _ _ (okay x _) (wrong x 3 w h))))

  pub call_type_reads : (k : ℕ) → Reads x k (call_type_at x.p k) (call_type_at (x.p ++ x.a) k)
  unfolding call_type_at
  call_type_reads k = word_then k _ (λ w h. part x (bytes_eq w.bytes (codes "1")) _ _ (okay x _) (part x (bytes_eq w.bytes (codes "2")) _ _ (okay x _)
      (part x (bytes_eq w.bytes (codes "4")) _ _ (okay x _) (part x (bytes_eq w.bytes (codes "*")) _ _ (okay x _) (wrong x 3 w h)))))

  pub verdict_reads : (k : ℕ) → Reads x k (verdict_at x.p k) (verdict_at (x.p ++ x.a) k)
  unfolding verdict_at
  verdict_reads k = word_then k _ (λ w h. part x (bytes_eq w.bytes (codes "handled")) _ _ (okay x _) (part x (bytes_eq w.bytes (codes "rejected")) _ _ (okay x _)
      (part x (bytes_eq w.bytes (codes "later")) _ _ (okay x _) (wrong x 3 w h))))

  pub refusal_reads : (k : ℕ) → Reads x k (refusal_at x.p k) (refusal_at (x.p ++ x.a) k)
  unfolding refusal_at
  refusal_reads k = word_then k _ (λ w h. part x (bytes_eq w.bytes (codes "rejected")) _ _ (okay x _) (part x (bytes_eq w.bytes (codes "later")) _ _ (okay x _)
      (part x (bytes_eq w.bytes (codes "*")) _ _ (okay x _) (wrong x 3 w h))))

  pub answer_reads : (k : ℕ) → Reads x k (answer_at x.p k) (answer_at (x.p ++ x.a) k)
  unfolding answer_at
  answer_reads k = word_then k _ (λ w h. answer_out x w h (signed_of w.bytes))

  pub kept_reads : (k : ℕ) → Reads x k (kept_at x.p k) (kept_at (x.p ++ x.a) k)
  unfolding kept_at
  kept_reads k = word_then k _ (λ w h. part x (bytes_eq w.bytes (codes "cancel")) _ _ (okay x _) (part x (bytes_eq w.bytes (codes "wait")) _ _ (okay x _)
      (part x (bytes_eq w.bytes (codes "discard")) _ _ (okay x _) (wrong x 3 w h))))
