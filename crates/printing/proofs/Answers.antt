-- The report of the reader's answer is what the program has to print; for a longer text it is that of reply 1.
-- The program's call is good, since the longest text and the depth setting lie within the reader's ceilings. Assumes nothing.
use Prim.Native.Nat.{ℕ, ◌*◌, ◌≤◌, ◌<◌}
use mathlib.Core.Bool.{true}
use mathlib.Core.List.{List}
use mathlib.Core.Path.{◌≡◌, ap, ◌∙◌}
use native.Mathlib.Omega.{arith}
use borrow.Author.Tests.{le-leb, lt-leb}
use lib.ListN.{length, length-replicate}
use Rattle.grammar.specs.Idl.{idl}
use Rattle.limits.specs.Limits.{text_ceiling, good_call}
use Rattle.tables.specs.Tables.{token_width, node_width, capacity}
use Rattle.replies.specs.declared.Reply.{Reply}
use Rattle.replies.specs.Replies.{outside_limits}
use Rattle.meaning.specs.Sense.{TextSense, TextMeans}
use Rattle.meaning.specs.Calls.{Answered}
use Rattle.report.specs.Report.{report}
use Rattle.printing.specs.Printed.{longest, token_records, tree_records, setting, lent, read_report, printed}

pub prints_longer : (text tree : List ℕ) (sense : TextSense) {reply : Reply} → longest < length text → reply ≡ outside_limits →
    report reply tree ≡ printed text sense
unfolding report printed
prints_longer text tree sense h e = rw (e, lt-leb _ _ h)

length_lent : length lent ≡ node_width * tree_records
unfolding lent
length_lent = length-replicate {A = ℕ} (node_width * tree_records) 0

lent_held : capacity node_width lent ≡ tree_records
lent_held = rw length_lent

pub prints_answer : {text tokens tree : List ℕ} {depth : ℕ} {reply : Reply} {tokens' tree' : List ℕ} →
    Answered idl text tokens tree depth reply tokens' tree' → length text ≤ longest → length tokens ≡ token_width * token_records →
    tree ≡ lent → depth ≡ setting → (sense : TextSense) → TextMeans idl text sense → report reply tree' ≡ printed text sense
unfolding printed read_report
prints_answer {text} {tokens} {tree} {depth} a short room zeros set sense means =
    let good : good_call (length text) depth ≡ true = rw (set, le-leb (length text) text_ceiling (omega arith)) in
    let tokens_held : capacity token_width tokens ≡ token_records = rw room in
    let tree_held : capacity node_width tree ≡ tree_records = ap (capacity node_width) zeros ∙ lent_held in
    let found = rw (tokens_held, tree_held, zeros, set) at (a.inside good sense means) in
    rw (found.0, found.1.1, le-leb (length text) longest short)
