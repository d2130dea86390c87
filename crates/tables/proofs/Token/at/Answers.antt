-- `tables::Token::at` meets its contract: the n-th of the table's records, or none where it has not so many.
-- Each number of that record is the table's at its place. Assumes nothing.
use Rattle.std.proofs.Common.{◌<◌, arith}
use native.Mathlib.Nat.{add-zero}
use borrow.Author.Tests.{lt-ltb}
use Rattle.tables.specs.Tables.{token_width, capacity}
use Rattle.tables.proofs.Reading.{number_at}
use Rattle.tables.proofs.Token.at.Goals as goal

pub returns : goal.returns
returns c =
    let tokens = c.args.tokens.now in
    let found = c.in_ok-found.ensures.lookup in
    let inside : c.args.n < capacity token_width tokens = omega (arith, c.as_chunks.ensures.front_len, found.3.0) in
    let kind = number_at token_width tokens c.args.n 0 inside (omega arith) c.as_chunks.ensures.front found.1 in
    let first = number_at token_width tokens c.args.n 1 inside (omega arith) c.as_chunks.ensures.front found.1 in
    let length = number_at token_width tokens c.args.n 2 inside (omega arith) c.as_chunks.ensures.front found.1 in
    rw (kind, first, length, lt-ltb _ _ inside, add-zero)
