-- `tables::put` meets its contract: the record's numbers stand in its place where the table has it, and nothing is written where not.
-- A place that the table has lies inside it, and one that it has not passes its end. Assumes nothing.
use Rattle.std.proofs.Common.{arith}
use Rattle.tables.proofs.Laws.{put_part, put_full, place_misses}
use Rattle.tables.proofs.put.Goals as goal

pub returns-then-n-table : goal.returns-then-n-table
returns-then-n-table g c =
    put_part g.row.WIDTH _ _ _ _ (omega arith) c.copy_from_slice.ensures.after c.copy_from_slice.ensures.len

pub returns-else-n-table : goal.returns-else-n-table
returns-else-n-table g c = put_full g.row.WIDTH _ _ _ (place_misses g.row.WIDTH _ _ c.requires (omega arith))
