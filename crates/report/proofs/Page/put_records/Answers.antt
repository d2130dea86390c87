-- `report::Page::put_records` meets its contract: at each turn what is written and the lines of the records left are the whole.
-- It ends where all are written, or where the table has no more. Assumes nothing.
use Rattle.std.proofs.Common.{◌<◌, ◌∙◌, arith, length}
use Rattle.std.specs.Iterator.Adapters.{take_count, take_source}
use Rattle.std.specs.Slice.Iter.{chunks_exact_rest}
use Rattle.tables.specs.Tables.{node_width}
use Rattle.report.proofs.Lines.{lines_step, lines_end}
use Rattle.report.proofs.Written.{left_more, left_fits, left_none, front_fits}
use Rattle.report.proofs.Page.put_records.Goals as goal

pub put_line-requires : goal.put_line-requires
put_line-requires c =
    let (chunk, count) = c.in-Some.ensures.steps in
    let step = lines_step c.in-Some.record.now _ _ _ chunk.1.0 (chunk.1.1 ∙ c.loop-record.invariant.width) count in
    front_fits c.loop-record.self _ _ (left_fits (rw step at c.loop-record.invariant.left) c.requires)

pub loop-record-preserved : goal.loop-record-preserved
loop-record-preserved c =
    let (chunk, count) = c.in-Some.ensures.steps in
    let inv = c.loop-record.invariant in
    let step = lines_step c.in-Some.record.now _ _ _ chunk.1.0 (chunk.1.1 ∙ inv.width) count in record {
      width = chunk.0 ∙ inv.width;
      same_reference = c.put_line.ensures.same_reference ∙ inv.same_reference;
      left = left_more _ _ (rw step at inv.left) c.put_line.ensures.written;
    }

pub returns-clause-written : goal.returns-clause-written
returns-clause-written c =
    let inv = c.loop-record.invariant in
    let records = c.loop-record.record-iterator in
    let tree = chunks_exact_rest (take_source records) in
    let short : 0 < take_count records → length tree < node_width = λ some. omega (arith, (c.in-None.ensures.steps some).1.0, inv.width) in
    left_none (rw (lines_end (take_count records) tree short) at inv.left)
