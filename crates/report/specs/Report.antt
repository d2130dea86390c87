-- What the program writes: paper 01, "A program reads standard input". Lines of decimal numbers, each closed by byte 10.
-- Assumes nothing: these are definitions.
use Rattle.std.specs.Prelude.{cond, List, [], ◌∷◌, ◌++◌, ℕ, zero, suc, ◌+◌, ◌*◌, ◌/◌, eqb, ltb, leb, length, take, drop}
use Rattle.io.specs.Digits.{last_digits}
use Rattle.kinds.specs.Kinds.{bytes}
use Rattle.replies.specs.declared.Reply.{Reply}
use Rattle.replies.specs.Replies as replies
use Rattle.replies.specs.Replies.{reply_width}
use Rattle.tables.specs.Tables.{node_width}

-- numbers are written in decimal digits
abbrev pub base : ℕ
base = 10

-- a 32-bit number has at most ten digits: so many besides the first
abbrev pub further_digits : ℕ
further_digits = 9

-- the byte between two numbers, and the one that closes a line
abbrev pub blank : ℕ
blank = 32

abbrev pub line_end : ℕ
line_end = 10

-- the most bytes of a number with the byte after it, of a record's line, and of a refusal
abbrev pub number_size : ℕ
number_size = further_digits + 2

abbrev pub line_size : ℕ
line_size = node_width * number_size

abbrev pub first_line_size : ℕ
first_line_size = length (bytes "refused ") + reply_width * number_size

-- how many decimal digits a number has, where it has at most so many besides the first
unfoldable pub width : (besides : ℕ) → ℕ → ℕ
width zero n = 1
width (suc besides) n = cond (ltb n base) 1 (suc (width besides (n / base)))

-- a 32-bit number in decimal digits
abbrev pub number : ℕ → List ℕ
number n = last_digits base (width further_digits n) n

-- numbers on a line, a blank between two: "each line closed by byte 10"
unfoldable pub line : List ℕ → List ℕ
unfolding width
line [] = []
line (n ∷ []) = number n ++ line_end ∷ []
line (n ∷ m ∷ ns) = number n ++ blank ∷ line (m ∷ ns)

-- a line for each of so many records, as far as the table has them
unfoldable pub lines : (records : ℕ) → (tree : List ℕ) → List ℕ
unfolding line
lines zero tree = []
lines (suc records) tree = cond (leb node_width (length tree)) (line (take node_width tree) ++ lines records (drop node_width tree)) []

-- "A refusal is one line: `refused`, number, place, two counts."
unfoldable pub refusal : Reply → List ℕ
unfolding line
refusal r = bytes "refused " ++ line (r.number ∷ r.place ∷ r.tokens ∷ r.records ∷ [])

-- an accepted text's two counts, and then its tree
unfoldable pub acceptance : Reply → (tree : List ℕ) → List ℕ
unfolding line lines
acceptance r tree = bytes "accepted " ++ line (r.tokens ∷ r.records ∷ []) ++ lines r.records tree

unfoldable pub report : Reply → (tree : List ℕ) → List ℕ
unfolding refusal acceptance
report r tree = cond (eqb r.number replies.accepted_number) (acceptance r tree) (refusal r)
