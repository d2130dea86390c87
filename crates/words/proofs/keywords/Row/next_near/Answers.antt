-- `words::keywords::Row::next_near` meets its contract: a row holds the next row near it.
-- The rule of the table's next rows says so. Assumes nothing.
use Rattle.words.proofs.Rules.{next_at}
use Rattle.words.proofs.Searching.{row_of}
use Rattle.words.proofs.keywords.Row.next_near.Goals as goal

pub returns : goal.returns
returns c = row_of _ c.args.self.in_table c.of.ensures (next_at _ c.args.self.in_table)
