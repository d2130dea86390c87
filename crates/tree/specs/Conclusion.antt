-- What the state in which the reading of a whole list has ended answers.
-- Assumes nothing: these are definitions, inner ones: what the tree part promises is said by the meaning of its tokens.
use Rattle.std.specs.Prelude.{Bool, false, cond, List, ℕ, ◌+◌, ◌*◌, eqb, ltb, get_or}
use Rattle.replies.specs.declared.Reply.{Reply}
use Rattle.replies.specs.Replies as replies
use Rattle.tables.specs.Tables.{capacity, zeroed, token_width, token_first, node_width}
use Rattle.readers_core.specs.Reading.{Reading, sunk}

-- the place of token i of a list of records: its first byte, or the text's length past the last token
abbrev pub place_in : (list : List ℕ) (text i : ℕ) → ℕ
place_in list text i = get_or list (token_width * i + token_first) text

-- the whole list is read
unfoldable pub complete : (count : ℕ) → Reading → Bool
complete count s = cond (eqb s.answer 0) (eqb s.at count) false

-- the reply
unfoldable pub concluded : (list tree : List ℕ) (count text : ℕ) → Reading → Reply
concluded list tree count text s =
    cond (complete count s)
    (cond (ltb (capacity node_width tree) s.count) (replies.more_records text count s.count)
    (replies.accepted text count s.count))
    (cond (eqb s.answer sunk) (replies.too_deep (place_in list text s.at) count)
    (replies.grammar (place_in list text s.at) count))

-- the tree table
unfoldable pub kept_tree : (tree : List ℕ) (count : ℕ) → Reading → List ℕ
kept_tree tree count s = cond (complete count s) (cond (ltb (capacity node_width tree) s.count) (zeroed tree) tree) (zeroed tree)
