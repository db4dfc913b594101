-- Bytes as one word of digits are read again.
use Rattle.std.proofs.Common.{◌≡◌, ℕ, ◌≤◌, List, Some, Ok, Err, Bool, false, not, Result, ap, ◌∙◌, arith, length, nat_lt, if◌then◌else◌}
use Rattle.std.proofs.lemmas.Bool.Decides.{nat_tests}
use Rattle.hex.specs.Hex.{encode_lower}
use Rattle.com_text.specs.Words.{WordAt}
use Rattle.com_read_operands.specs.declared.faults.Fault.{Fault}
use Rattle.com_read_operands.specs.Reading.{fault_at}
use Rattle.com_read_operands.specs.Literals.{are_pairs, unhexed}
use Rattle.com_read_statements.specs.Statements.{as_raw, raw_at}
use Rattle.com_print.specs.Spelled.{plain}
use Rattle.com_print.specs.Ranges.{AreBytes}
use Rattle.com_print.proofs.Hexes.{long_hex, pairs_again, unhexed_again}
use Rattle.com_print.proofs.Places.{at, stands, word_bytes}

abbrev raw_by : WordAt → List ℕ → Result (List ℕ) Fault
raw_by w bs =
    if not (are_pairs bs) then Err (fault_at 3 w)
    else (if nat_lt 8192 (length bs) then Err (fault_at 12 w)
    else as_raw w (unhexed bs))

pub raw_again : (line : List WordAt) (k : ℕ) (bytes : List ℕ) → at line k ≡ Some (plain (encode_lower bytes)) → AreBytes bytes → length bytes ≤ 4096 → raw_at line k ≡ Ok bytes
unfolding raw_at
raw_again line k bytes h are few =
    let s = stands line k (plain (encode_lower bytes)) h in
    let len = long_hex bytes in
    let short : nat_lt 8192 (length (encode_lower bytes)) ≡ false = grind (arith, nat_tests) in
    word_bytes raw_by line k (encode_lower bytes) s
    ∙ ap (λ (t : Bool). if not t then Err (fault_at 3 s.word) else (if nat_lt 8192 (length (encode_lower bytes)) then Err (fault_at 12 s.word) else as_raw s.word (unhexed (encode_lower bytes)))) (pairs_again bytes are)
    ∙ ap (λ (t : Bool). if t then Err (fault_at 12 s.word) else as_raw s.word (unhexed (encode_lower bytes))) short
    ∙ ap (as_raw s.word) (unhexed_again bytes are)
