-- The editions of the grammar that the reader offers. Edition 1 is the only one so far; a further edition is a further line.
-- Assumes nothing: these are definitions.
use Rattle.grammar.specs.Rule.{Edition}
use Rattle.grammar.specs.Idl.{idl}

pub data Offered : Edition → Type 0 where
  edition_1 : Offered idl
