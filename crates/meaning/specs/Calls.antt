-- The calls: what the whole reader and the tree part answer, for every input, with each number of each table afterwards.
-- These are what the exported functions promise. Assumes nothing: these are definitions.
use Rattle.std.specs.Prelude.{ℕ, zero, suc, ◌≡◌, Bool, true, false, ◌&&◌, List, [], ◌∷◌, map, leb, length, take, drop}
use Rattle.grammar.specs.Rule.{Edition}
use Rattle.limits.specs.Limits.{good_call}
use Rattle.tables.specs.Tables.{capacity, token_width, node_width}
use Rattle.replies.specs.declared.Reply.{Reply}
use Rattle.replies.specs.Replies.{outside_limits}
use Rattle.meaning.specs.Sense.{Sense, Means, TextSense, TextMeans, kind}
use Rattle.meaning.specs.Verdict.{verdict, text_verdict}
use Rattle.meaning.specs.Answer.{tree_reply, tree_after, text_reply, text_tokens_after, text_tree_after}

-- the whole reader on a text, two lent tables and a depth setting
pub record Answered (E : Edition) (text tokens tree : List ℕ) (setting : ℕ) (reply : Reply) (tokens' tree' : List ℕ) : Type 0 where
  -- "Reply 1 leaves both tables .. untouched"
  pub outside : good_call (length text) setting ≡ false →
      (reply ≡ outside_limits) × ((tokens' ≡ tokens) × (tree' ≡ tree))
  -- a good call, by the one meaning of its text
  pub inside : good_call (length text) setting ≡ true → (sense : TextSense) → TextMeans E text sense →
      let v = text_verdict setting (capacity token_width tokens) (capacity node_width tree) sense in
      (reply ≡ text_reply (length text) v) × ((tokens' ≡ text_tokens_after v tokens) × (tree' ≡ text_tree_after v tree))

-- the first n records of a table
unfoldable pub first_records : (width n : ℕ) → List ℕ → List (List ℕ)
first_records width zero table = []
first_records width (suc n) table = take width table ∷ first_records width n (drop width table)

-- "reply 1 also for a count above the table's records or above the text length"
abbrev pub good_tree_call : (tokens : List ℕ) → (count text setting : ℕ) → Bool
good_tree_call tokens count text setting = good_call text setting && (leb count (capacity token_width tokens) && leb count text)

-- the tree part called alone, on a token table that it only reads, with a token count, a text length, a tree table and a depth setting
pub record TreeAnswered (E : Edition) (tokens : List ℕ) (count text : ℕ) (tree : List ℕ) (setting : ℕ) (reply : Reply)
    (tree' : List ℕ) : Type 0 where
  pub outside : good_tree_call tokens count text setting ≡ false → (reply ≡ outside_limits) × (tree' ≡ tree)
  pub inside : good_tree_call tokens count text setting ≡ true →
      let ts = first_records token_width count tokens in
      (sense : Sense) → Means E (map kind ts) sense →
      let v = verdict setting (capacity node_width tree) (map kind ts) sense in
      (reply ≡ tree_reply text ts v) × (tree' ≡ tree_after v tree)
