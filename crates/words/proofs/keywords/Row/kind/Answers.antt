-- `words::keywords::Row::kind` meets its contract: a row holds its kind.
-- The rule of the table's kinds says so. Assumes nothing.
use Rattle.words.proofs.Rules.{kind_at}
use Rattle.words.proofs.keywords.Row.kind.Goals as goal

pub returns : goal.returns
returns c = kind_at _ c.args.self.in_table
