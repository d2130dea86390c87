-- What the token part answers, and what its table holds afterwards: paper 01, "What the reader says", replies 0 to 6.
-- Functions of what the text is as tokens and of the table. Assumes nothing: these are definitions.
use Rattle.std.specs.Prelude.{Bool, cond, List, ℕ, leb, length, Result, Ok, Err}
use Rattle.limits.specs.Limits.{good_text}
use Rattle.replies.specs.declared.Reply.{Reply}
use Rattle.replies.specs.Replies as rows
use Rattle.replies.specs.Faults.{Fault, row, no_lexeme, left_open, bad_literal, other_case}
use Rattle.tables.specs.Tables.{token_width, capacity, store, front, zeroed}
use Rattle.text.specs.Tokens.{Tokens, tokens, fault, tokens_of}
use Rattle.text.specs.declared.Fault as declared
use Rattle.text.specs.declared.Fault.TheVariants.{NoLexeme, Open, BadLiteral, OtherCase}

-- the records have room in the table
abbrev pub room : List ℕ → List (List ℕ) → Bool
room table ts = leb (length ts) (capacity token_width table)

-- the reply to a good call with a text of n bytes
abbrev pub answer : (n : ℕ) → List ℕ → Tokens → Reply
answer n table (tokens ts) = cond (room table ts) (rows.accepted n (length ts) 0) (rows.more_tokens n (length ts))
answer n table (fault f) = row f

-- the table after a good call: the records at the front and the numbers after them as they were, or zeros
abbrev pub filled : List ℕ → Tokens → List ℕ
filled table (tokens ts) = cond (room table ts) (front token_width ts table) (zeroed table)
filled table (fault f) = zeroed table

-- the reply to any call
abbrev pub token_reply : (text table : List ℕ) → Reply
token_reply text table = cond (good_text (length text)) (answer (length text) table (tokens_of text)) rows.outside_limits

-- the table after any call: reply 1 leaves it untouched
abbrev pub token_table : (text table : List ℕ) → List ℕ
token_table text table = cond (good_text (length text)) (filled table (tokens_of text)) table

-- a fault of the text, from where no lexeme stands at a place, and why
abbrev pub fault_at : (place : ℕ) → declared.Fault → Fault
fault_at place NoLexeme = no_lexeme place
fault_at place Open = left_open place
fault_at place BadLiteral = bad_literal place
fault_at place (OtherCase kind) = other_case place kind

-- reading the whole text finds its tokens, and leaves as many of their records as fit in the table; or it finds the first fault
pub data Scanned : Tokens → (table after : List ℕ) → Result ℕ Reply → Type 0 where
  all_tokens : {table : List ℕ} (ts : List (List ℕ)) → Scanned (tokens ts) table (store token_width table 0 ts) (Ok (length ts))
  first_fault : {table after : List ℕ} (f : Fault) → Scanned (fault f) table after (Err (row f))
