-- `words::search` meets its contract. The loop's invariant: what is left of the near keywords from this row on, and how many came before.
use Prim.Native.Nat.{◌-◌}
use Rattle.words.specs.Table.{row_count}
use Rattle.words.proofs.Searching.{Searching, place}
use Rattle.words.proofs.search.Given as goal

abbrev pub invariant-loop-near : goal.invariant-loop-near
invariant-loop-near l = Searching l.word (place l.near) l.compared

abbrev pub decreases-loop-near : goal.decreases-loop-near
decreases-loop-near l = row_count - place l.near
