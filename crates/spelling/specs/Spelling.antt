-- A token's spelling: paper 01, "The bytes of one token are handed back as that part of the caller's text. If the
-- record asked for isn't in the table, or its span leaves the text, the part is empty." Assumes nothing: these are definitions.
use Rattle.std.specs.Prelude.{Bool, ◌&&◌, cond, List, ℕ, ◌+◌, ◌*◌, leb, ltb, length, get_or, take, drop, Option, Some, None}
use Rattle.tables.specs.Tables.{token_width, token_first, token_length, capacity}
use Rattle.spelling.specs.declared.Span.{Span}

-- a record's first byte and its length
abbrev pub first_byte : List ℕ → ℕ → ℕ
first_byte tokens i = get_or tokens (token_width * i + token_first) 0

abbrev pub size : List ℕ → ℕ → ℕ
size tokens i = get_or tokens (token_width * i + token_length) 0

-- the table has record i, and its span lies in a text of n bytes
abbrev pub inside : (n : ℕ) → List ℕ → ℕ → Bool
inside n tokens i = ltb i (capacity token_width tokens) && leb (first_byte tokens i + size tokens i) n

-- the span of record i, empty where it is not inside
abbrev pub located : (n : ℕ) → List ℕ → ℕ → Span
located n tokens i = cond (inside n tokens i) (record { first = first_byte tokens i; length = size tokens i }) (record { first = 0; length = 0 })

-- that span, and none where it is not inside
abbrev pub part : (n : ℕ) → List ℕ → ℕ → Option Span
part n tokens i = cond (inside n tokens i) (Some (record { first = first_byte tokens i; length = size tokens i })) None

-- the bytes of record i's token
abbrev pub spelling : List ℕ → List ℕ → ℕ → List ℕ
spelling text tokens i = take (located (length text) tokens i).length (drop (located (length text) tokens i).first text)
