-- `report::Page::put_records` meets its contract: at each turn what is written and the lines of the records left are the whole.
-- The iterator has those records. Assumes nothing.
use Rattle.std.proofs.Common.{◌≡◌}
use Rattle.std.specs.Iterator.Adapters.{take_count, take_source}
use Rattle.std.specs.Slice.Iter.{chunks_exact_rest, chunks_exact_size}
use Rattle.tables.specs.Tables.{node_width}
use Rattle.report.specs.Report.{lines}
use Rattle.report.proofs.Written.{Left}
use Rattle.report.proofs.Page.put_records.Given as goal

abbrev pub invariant-loop-record : goal.invariant-loop-record
invariant-loop-record l =
    let records = l.record-iterator in record {
      width : chunks_exact_size (take_source records) ≡ node_width;
      same_reference : l.self.out.ghost_name ≡ l.initial.self.out.ghost_name;
      left : Left l.initial.self l.self (lines (take_count records) (chunks_exact_rest (take_source records))) (lines l.records l.tree);
    }
