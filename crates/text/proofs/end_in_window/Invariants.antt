-- `text::end_in_window` meets its contract. The loop's invariant: the end is what is known of it from the bytes looked at.
use Rattle.std.proofs.Common.{◌≡◌, ◌≤◌, drop}
use Rattle.text.specs.Bytes.{run}
use Rattle.text.proofs.Blocks.{end_so_far}
use Rattle.text.proofs.end_in_window.Given as goal

abbrev pub invariant-loop-place : goal.invariant-loop-place
invariant-loop-place g l =
    let k = l.place-iterator.a.start in
    (k ≤ l.size) × (l.place-iterator.b.rest.now ≡ drop k l.bytes) × (l.end ≡ end_so_far l.size k (run g.C.Class.member l.bytes))
