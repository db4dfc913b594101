-- What is made of a word alone has its faults at the word.
use Rattle.std.proofs.Common.{ℕ, ◌+◌, Bool, ◌&&◌, ◌||◌, List, [], ◌∷◌, length, take, drop, Option, Some, None, nat_le, nat_lt, ◌==◌, ℤ}
use Rattle.com_base.specs.declared.guid.Guid.{Guid}
use Rattle.com_base.specs.declared.hresult.HResult.{HResult}
use Rattle.com_base.specs.declared.value.Kind.{Kind}
use Rattle.com_base.specs.declared.value.Kind.TheVariants as kinds
use Rattle.com_classes.specs.declared.classes.ThreadingModel.{ThreadingModel}
use Rattle.com_classes.specs.declared.classes.ThreadingModel.TheVariants as models
use Rattle.com_text.specs.Words.{WordAt}
use Rattle.com_read_operands.specs.declared.operands.Operand.{Operand}
use Rattle.com_read_operands.specs.declared.operands.Operand.TheVariants as operands
use Rattle.com_read_operands.specs.Reading.{within}
use Rattle.com_read_operands.specs.Numbers.{number_of}
use Rattle.com_read_operands.specs.Literals.{as_guid, unhexed}
use Rattle.com_read_operands.specs.Naming.{is_name, known, as_asked, number_of_name}
use Rattle.com_read_operands.specs.Operands.{inner, operand_of, as_register, as_slot, as_cell, as_buffer, as_place, text_literal, as_bytes, bytes_literal, literal_of, as_code_register, begins_hex, as_code, as_given}
use Rattle.com_read_statements.specs.declared.names.Names.{Names}
use Rattle.com_read_statements.specs.Calls.{numbered_by, numbered_of, named_in, named_by, named_of, method_number, as_target, behind_dot, dotted, headed, as_reference, as_value, as_argument, in_slot, in_register, landing_of}
use Rattle.com_read_statements.specs.Statements.{as_raw}
use Rattle.com_read_lines.specs.Declaring.{relay_of}
use Rattle.com_read_lines.specs.Rules.{in_answers, as_answer}
use Rattle.com_laws_faults.proofs.Out.{IsFrom, Cut, Outside, okay, wrong, part, followed}

module _ (x : Cut) (w : WordAt) (h : IsFrom x.line x.column w) where
  pub within_out : (low high : ℕ) (o : Option ℕ) → Outside x (within low high w o)
  within_out low high None = wrong x _ w h
  within_out low high (Some n) = part x (nat_le low n && nat_le n high) _ _ (okay x _) (wrong x _ w h)

  pub guid_out : (o : Option Guid) → Outside x (as_guid w o)
  guid_out None = wrong x _ w h
  guid_out (Some g) = okay x _

  pub known_out : (o : Option ℕ) → Outside x (known w o)
  known_out None = wrong x _ w h
  known_out (Some g) = okay x _

  pub asked_out : (o : Option Guid) → Outside x (as_asked w o)
  asked_out None = wrong x _ w h
  asked_out (Some g) = okay x _

  pub register_out : (o : Operand) → Outside x (as_register w o)
  register_out (operands.Register n) = okay x _
  register_out o = wrong x _ w h

  pub slot_out : (o : Operand) → Outside x (as_slot w o)
  slot_out (operands.Slot n) = okay x _
  slot_out o = wrong x _ w h

  pub cell_out : (cells : Bool) (o : Operand) → Outside x (as_cell cells w o)
  cell_out cells (operands.Cell n) = part x cells _ _ (okay x _) (wrong x _ w h)
  cell_out cells o = wrong x _ w h

  pub buffer_out : (o : Operand) → Outside x (as_buffer w o)
  buffer_out (operands.Buffer n) = okay x _
  buffer_out o = wrong x _ w h

  pub place_out : (links : Bool) (o : Operand) → Outside x (as_place links w o)
  place_out links (operands.Slot n) = okay x _
  place_out links (operands.Link n) = part x links _ _ (okay x _) (wrong x _ w h)
  place_out links o = wrong x _ w h

  text_out : Outside x (text_literal w)
  unfolding text_literal
  text_out = part x (nat_lt (length w.bytes) 2 || nat_lt 258 (length w.bytes)) _ _ (wrong x _ w h) (okay x _)

  as_bytes_out : (o : Option (List ℕ)) → Outside x (as_bytes w o)
  as_bytes_out None = wrong x _ w h
  as_bytes_out (Some bytes) = okay x _

  bytes_out : Outside x (bytes_literal w)
  unfolding bytes_literal
  bytes_out = part x (nat_lt 512 (length (inner w.bytes))) _ _ (wrong x _ w h) (as_bytes_out (unhexed (inner w.bytes)))

  pub literal_out : (o : Operand) → Outside x (literal_of w o)
  unfolding literal_of
  literal_out (operands.Register n) = okay x _
  literal_out (operands.Number n) = okay x _
  literal_out (operands.Bool b) = okay x _
  literal_out (operands.Guid g) = okay x _
  literal_out operands.Text = followed x (text_literal w) _ text_out (λ v e. okay x _)
  literal_out operands.Bytes = followed x (bytes_literal w) _ bytes_out (λ v e. okay x _)
  literal_out o = wrong x _ w h

  pub code_out : (o : Option HResult) → Outside x (as_code w o)
  code_out (Some hr) = okay x _
  code_out None = part x (begins_hex w.bytes) _ _ (wrong x _ w h) (by (operand_of w))
    where
      by : (o : Operand) → Outside x (as_code_register w o)
      by (operands.Register n) = okay x _
      by o = wrong x _ w h

  pub given_out : (o : Operand) → Outside x (as_given w o)
  given_out (operands.Slot n) = okay x _
  given_out o = followed x (literal_of w o) _ (literal_out o) (λ v e. okay x _)

  -- ---- methods and arguments

  named_in_out : (iface : ℕ) (o : Option ℕ) → Outside x (named_in w iface o)
  named_in_out iface None = wrong x _ w h
  named_in_out iface (Some m) = okay x _

  named_by_out : (names : Names) (back : List ℕ) (o : Option ℕ) → Outside x (named_by names w back o)
  named_by_out names back None = wrong x _ w h
  named_by_out names back (Some i) = named_in_out i (method_number names.tables i back)

  named_out : (names : Names) (front back : List ℕ) → Outside x (named_of names w front back)
  unfolding named_of
  named_out names front back = part x (is_name back) _ _ (named_by_out names back (number_of_name names.interfaces front)) (wrong x _ w h)

  numbered_by_out : (m : ℕ) (o : Option ℕ) → Outside x (numbered_by m w o)
  numbered_by_out m None = wrong x _ w h
  numbered_by_out m (Some i) = okay x _

  numbered_out : (names : Names) (front digits : List ℕ) → Outside x (numbered_of names w front digits)
  unfolding numbered_of
  numbered_out names front digits = followed x (within 0 65535 w (number_of digits)) _ (within_out 0 65535 (number_of digits)) (λ m e. numbered_by_out m (number_of_name names.interfaces front))

  target_out : (names : Names) (front back : List ℕ) → Outside x (as_target (named_of names w front back))
  target_out names front back = followed x (named_of names w front back) _ (named_out names front back) (λ m e. okay x _)

  behind_dot_out : (names : Names) (front back : List ℕ) → Outside x (behind_dot names w front back)
  behind_dot_out names front [] = target_out names front []
  behind_dot_out names front (b ∷ bs) = part x (b == 35) _ _ (numbered_out names front bs) (target_out names front (b ∷ bs))

  pub dotted_out : (names : Names) (o : Option ℕ) → Outside x (dotted names w o)
  dotted_out names None = wrong x _ w h
  dotted_out names (Some dot) = part x (is_name (take dot w.bytes)) _ _ (behind_dot_out names (take dot w.bytes) (drop (dot + 1) w.bytes)) (wrong x _ w h)

  pub headed_out : (names : Names) (o : Option ℕ) → Outside x (headed names w o)
  headed_out names None = wrong x _ w h
  headed_out names (Some dot) = part x (is_name (take dot w.bytes)) _ _ (named_out names (take dot w.bytes) (drop (dot + 1) w.bytes)) (wrong x _ w h)

  reference_out : (o : Operand) → Outside x (as_reference w o)
  reference_out (operands.Slot n) = okay x _
  reference_out operands.Null = okay x _
  reference_out (operands.Wrong n) = wrong x _ w h
  reference_out o = wrong x _ w h

  value_out : (o : Operand) → Outside x (as_value w o)
  value_out operands.Null = wrong x _ w h
  value_out o = followed x (literal_of w o) _ (literal_out o) (λ v e. okay x _)

  pub argument_out : (k : Kind) (o : Operand) → Outside x (as_argument k w o)
  argument_out (kinds.Ref i) o = reference_out o
  argument_out k o = value_out o

  in_slot_out : (o : Operand) → Outside x (in_slot w o)
  in_slot_out (operands.Slot n) = okay x _
  in_slot_out o = wrong x _ w h

  in_register_out : (o : Operand) → Outside x (in_register w o)
  in_register_out (operands.Register n) = okay x _
  in_register_out o = wrong x _ w h

  pub landing_out : (k : Option Kind) (o : Operand) → Outside x (landing_of k w o)
  unfolding landing_of
  landing_out None o = wrong x _ w h
  landing_out (Some (kinds.Ref i)) o = in_slot_out o
  landing_out (Some k) o = in_register_out o

  pub raw_out : (o : Option (List ℕ)) → Outside x (as_raw w o)
  raw_out None = wrong x _ w h
  raw_out (Some bytes) = okay x _

  pub relay_out : (m : ThreadingModel) → Outside x (relay_of w m)
  relay_out models.Agile = wrong x _ w h
  relay_out m = okay x _

  pub answer_out : (o : Option ℤ) → Outside x (as_answer w o)
  answer_out None = wrong x _ w h
  answer_out (Some z) = part x (in_answers z) _ _ (okay x _) (wrong x _ w h)
