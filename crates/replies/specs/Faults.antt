-- The first fault of a text: a case for each of the rows 2 to 5 of the table, with what that row says of the text.
-- Assumes nothing: these are definitions.
use Rattle.std.specs.Prelude.{ℕ}
use Rattle.replies.specs.declared.Reply.{Reply}
use Rattle.replies.specs.Replies as rows

pub data Fault : Type 0 where
  no_lexeme : (place : ℕ) → Fault
  left_open : (place : ℕ) → Fault
  bad_literal : (place : ℕ) → Fault
  other_case : (place kind : ℕ) → Fault

-- the row that says it
abbrev pub row : Fault → Reply
row (no_lexeme place) = rows.no_lexeme place
row (left_open place) = rows.left_open place
row (bad_literal place) = rows.bad_literal place
row (other_case place kind) = rows.other_case place kind
