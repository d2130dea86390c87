-- The table of paper 01, "What the reader says", as request A3 amends its row 5: a definition for each row, in the table's order and with its words.
-- A reply is a number, a place in bytes, a token count (in row 5 a keyword's kind) and a record count. Assumes nothing: these are definitions.
use Rattle.std.specs.Prelude.{ℕ}
use Rattle.replies.specs.declared.Reply.{Reply}

-- a reply is four numbers
abbrev pub reply_width : ℕ
reply_width = 4

abbrev pub reply : (number place tokens records : ℕ) → Reply
reply number place tokens records = record { number = number; place = place; tokens = tokens; records = records }

-- the number of every acceptance
abbrev pub accepted_number : ℕ
accepted_number = 0

-- 0: accepted; the text length, both counts
abbrev pub accepted : (text tokens records : ℕ) → Reply
accepted text tokens records = reply accepted_number text tokens records

-- 1: text too long or depth setting outside its range
abbrev pub outside_limits : Reply
outside_limits = reply 1 0 0 0

-- 2: no lexeme starts here; that byte
abbrev pub no_lexeme : (place : ℕ) → Reply
no_lexeme place = reply 2 place 0 0

-- 3: comment open at the end, or literal open at byte 10, byte 13 or the end; its start
abbrev pub left_open : (place : ℕ) → Reply
left_open place = reply 3 place 0 0

-- 4: bad literal; its start
abbrev pub bad_literal : (place : ℕ) → Reply
bad_literal place = reply 4 place 0 0

-- 5: keyword in another case; its start, and by request A3 the keyword's kind
abbrev pub other_case : (place kind : ℕ) → Reply
other_case place kind = reply 5 place kind 0

-- 6: more tokens than records; the text length, tokens needed
abbrev pub more_tokens : (text tokens : ℕ) → Reply
more_tokens text tokens = reply 6 text tokens 0

-- 7: grammar; start of the token, or the text length if the tokens only lack a continuation; tokens
abbrev pub grammar : (place tokens : ℕ) → Reply
grammar place tokens = reply 7 place tokens 0

-- 8: opening mark that would take depth past the setting; its start, tokens
abbrev pub too_deep : (place tokens : ℕ) → Reply
too_deep place tokens = reply 8 place tokens 0

-- 9: more tree records than room; the text length, tokens, records needed
abbrev pub more_records : (text tokens records : ℕ) → Reply
more_records text tokens records = reply 9 text tokens records
