-- The loops over a line's words read what the definitions read.
use Rattle.std.proofs.Common.{◌≡◌, ℕ, ◌+◌, ◌<◌, List, [], ◌∷◌, ◌++◌, length, get_or, drop, Some, Ok, if◌then◌else◌, refl}
use Rattle.std.proofs.lemmas.List.{drop_more}
use Rattle.com_base.specs.declared.value.Kind.{Kind}
use Rattle.com_text.specs.Words.{WordAt}
use Rattle.com_text.specs.declared.word.Sort.TheVariants as sorts
use Rattle.com_read_operands.specs.Reading.{◌>>=◌}
use Rattle.com_read_lines.specs.Declaring.{listed_item, listed_on, pick_at, picks_on}
use Rattle.com_read_lines.specs.Methods.{item_at, signature_on}

any_word : WordAt
any_word = record { line = 0; column = 0; after = 0; start = 0; end = 0; sort = sorts.Plain; bytes = [] }

-- the words from an index on are the word there and the rest
pub next : (line : List WordAt) (i : ℕ) → i < length line → (v : WordAt) × (drop i line ≡ v ∷ drop (i + 1) line)
next line i lt = (get_or line i any_word, drop_more line i any_word lt)

pub listed_more : (names : List (List ℕ)) (done : List ℕ) (line : List WordAt) (i : ℕ) → i < length line
    → listed_on names done line i (drop i line) ≡ (listed_item names (length done) line i >>= λ n. listed_on names (done ++ n ∷ []) line (i + 1) (drop (i + 1) line))
listed_more names done line i lt = rw (next line i lt).1 refl

pub picks_more : (done : List ℕ) (line : List WordAt) (i : ℕ) → i < length line
    → picks_on done line i (drop i line) ≡ (pick_at line i >>= λ n. picks_on (done ++ n ∷ []) line (i + 1) (drop (i + 1) line))
picks_more done line i lt = rw (next line i lt).1 refl

pub signature_more : (names : List (List ℕ)) (done : List Kind) (line : List WordAt) (i : ℕ) → i < length line
    → signature_on names done line i (drop i line) ≡ (item_at names (length done) line i >>= λ item.
    (if item.last then Ok (record { params = done; result = Some item.kind }) else signature_on names (done ++ item.kind ∷ []) line (i + 1) (drop (i + 1) line)))
signature_more names done line i lt = rw (next line i lt).1 refl
