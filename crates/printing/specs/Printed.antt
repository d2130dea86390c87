-- What the program prints: paper 01, "A program reads standard input, at most 16,384 bytes, with 4,096 records in each table and
-- depth 64; a longer input prints as reply 1." Assumes nothing: these are definitions.
use Rattle.std.specs.Prelude.{cond, List, ℕ, ◌*◌, leb, length, replicate}
use Rattle.tables.specs.Tables.{node_width}
use Rattle.replies.specs.Replies.{outside_limits}
use Rattle.meaning.specs.Sense.{TextSense}
use Rattle.meaning.specs.Verdict.{text_verdict}
use Rattle.meaning.specs.Answer.{text_reply, text_tree_after}
use Rattle.report.specs.Report.{refusal, report}

-- "at most 16,384 bytes"
abbrev pub longest : ℕ
longest = 16384

-- "with 4,096 records in each table"
abbrev pub token_records : ℕ
token_records = 4096

abbrev pub tree_records : ℕ
tree_records = 4096

-- "and depth 64"
abbrev pub setting : ℕ
setting = 64

-- the tree table that the program lends: zeros
unfoldable pub lent : List ℕ
lent = replicate (node_width * tree_records) 0

-- the report of a text that the program reads: the reader's reply, and its tree table afterwards
unfoldable pub read_report : (text : List ℕ) → TextSense → List ℕ
unfolding text_verdict text_reply text_tree_after report lent
read_report text sense =
    let v = text_verdict setting token_records tree_records sense in
    report (text_reply (length text) v) (text_tree_after v lent)

-- "a longer input prints as reply 1"
unfoldable pub printed : (text : List ℕ) → TextSense → List ℕ
unfolding read_report refusal
printed text sense = cond (leb (length text) longest) (read_report text sense) (refusal outside_limits)
