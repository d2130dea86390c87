-- Tables of records: paper 01, "The two tables". One definition for the token table and the tree table, over the width.
-- Assumes nothing: these are definitions.
use Rattle.std.specs.Prelude.{cond, List, [], ◌∷◌, ◌++◌, ◌≡◌, ℕ, suc, ◌+◌, ◌*◌, ◌/◌, ◌^◌, leb, ltb, length, get_or, drop, replicate, Option, Some, None}
use Rattle.std.proofs.lemmas.List.Edits.{sets}
use Rattle.tables.specs.declared.Token.{Token}

-- a number of a record has 32 bits
abbrev pub number_end : ℕ
number_end = 2 ^ 32

-- "A token record is three 32-bit numbers": kind, first byte, length
abbrev pub token_width : ℕ
token_width = 3

-- which of them, from 0 on, is the first byte, and which the length
abbrev pub token_first : ℕ
token_first = 1

abbrev pub token_length : ℕ
token_length = 2

-- "A tree record is four"
abbrev pub node_width : ℕ
node_width = 4

-- "A table holds its length divided by 3 or 4, rounded down, records."
abbrev pub capacity : (width : ℕ) → List ℕ → ℕ
capacity width table = length table / width

-- the token record at record place n, where the table has that place
abbrev pub token_at : List ℕ → (n : ℕ) → Option Token
token_at tokens n =
    let at = token_width * n in
    let found : Token = record { kind = get_or tokens at 0; first = get_or tokens (at + token_first) 0; length = get_or tokens (at + token_length) 0 } in
    cond (ltb n (capacity token_width tokens)) (Some found) None

-- a table after one record at record place n; unchanged where it has no such place
unfoldable pub put : (width : ℕ) → List ℕ → (n : ℕ) → (numbers : List ℕ) → List ℕ
put width table n r = cond (leb (width * n + width) (length table)) (sets table (width * n) r) table

-- a table after several records, from record place n on
unfoldable pub store : (width : ℕ) → List ℕ → (n : ℕ) → List (List ℕ) → List ℕ
unfolding put
store width table n [] = table
store width table n (r ∷ rs) = store width (put width table n r) (suc n) rs

-- the numbers of several records in a row
unfoldable pub row : List (List ℕ) → List ℕ
row [] = []
row (r ∷ rs) = r ++ row rs

-- records at the front of a table: "On acceptance, numbers after the last record are unchanged."
abbrev pub front : (width : ℕ) → List (List ℕ) → List ℕ → List ℕ
front width rs table = row rs ++ drop (width * length rs) table

-- each record has as many numbers as the table is wide
pub data Records (width : ℕ) : List (List ℕ) → Type 0 where
  none : Records width []
  more : {r : List ℕ} {rs : List (List ℕ)} → length r ≡ width → Records width rs → Records width (r ∷ rs)

-- a table whose every number is zero
abbrev pub zeroed : List ℕ → List ℕ
zeroed table = replicate (length table) 0
