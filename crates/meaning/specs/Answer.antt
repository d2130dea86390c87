-- What a call answers and what its tables hold afterwards: paper 01, "What the reader says" and "The two tables".
-- Each is a function of the verdict. Assumes nothing: these are definitions.
use Rattle.std.specs.Prelude.{ℕ, List, map, length, get_or}
use Rattle.tables.specs.Tables.{front, zeroed, token_width, node_width}
use Rattle.replies.specs.declared.Reply.{Reply}
use Rattle.replies.specs.Replies as replies
use Rattle.replies.specs.Faults.{row}
use Rattle.meaning.specs.Sense.{first}
use Rattle.meaning.specs.Verdict.{Verdict, grammar, deep, full, accepted, TextVerdict, fault, full_tokens, judgement}

-- the place of token q: its first byte, or the text's length past the last token
abbrev pub place : (text : ℕ) → (tokens : List (List ℕ)) → ℕ → ℕ
place text ts q = get_or (map first ts) q text

-- the tree part's reply: the paper's row for each verdict
unfoldable pub tree_reply : (text : ℕ) → (tokens : List (List ℕ)) → Verdict → Reply
tree_reply text ts (grammar q) = replies.grammar (place text ts q) (length ts)
tree_reply text ts (deep p) = replies.too_deep (place text ts p) (length ts)
tree_reply text ts (full r) = replies.more_records text (length ts) r
tree_reply text ts (accepted rs) = replies.accepted text (length ts) (length rs)

-- the tree table afterwards
unfoldable pub tree_after : Verdict → List ℕ → List ℕ
tree_after (grammar q) table = zeroed table
tree_after (deep p) table = zeroed table
tree_after (full r) table = zeroed table
tree_after (accepted rs) table = front node_width rs table

-- the whole reader's reply
unfoldable pub text_reply : (text : ℕ) → TextVerdict → Reply
unfolding tree_reply
text_reply text (fault f) = row f
text_reply text (full_tokens t) = replies.more_tokens text t
text_reply text (judgement ts v) = tree_reply text ts v

-- its token table afterwards: the tokens stay where the tree is accepted
unfoldable pub tokens_kept : Verdict → List (List ℕ) → List ℕ → List ℕ
tokens_kept (grammar q) ts table = zeroed table
tokens_kept (deep p) ts table = zeroed table
tokens_kept (full r) ts table = zeroed table
tokens_kept (accepted rs) ts table = front token_width ts table

unfoldable pub text_tokens_after : TextVerdict → List ℕ → List ℕ
unfolding tokens_kept
text_tokens_after (fault f) table = zeroed table
text_tokens_after (full_tokens t) table = zeroed table
text_tokens_after (judgement ts v) table = tokens_kept v ts table

-- and its tree table
unfoldable pub text_tree_after : TextVerdict → List ℕ → List ℕ
unfolding tree_after
text_tree_after (fault f) table = zeroed table
text_tree_after (full_tokens t) table = zeroed table
text_tree_after (judgement ts v) table = tree_after v table
