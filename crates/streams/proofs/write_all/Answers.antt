-- `streams::write_all` meets its contract: what one write takes of the rest stands behind what is written so far.
-- Two writes one after the other append the bytes of both. Assumes nothing.
use Rattle.std.proofs.Common.{◌+◌, ◌≤◌, ap, ◌∙◌, rules, arith, length, drop, length-drop}
use Rattle.std.proofs.KnownBytes.{Appends-trans}
use Rattle.std.proofs.lemmas.List.{take_rest, drop-drop}
use Rattle.std.proofs.Math.Seq.{take-add}
use Rattle.streams.proofs.write_all.Goals as goal

pub loop-rest-preserved : goal.loop-rest-preserved
loop-rest-preserved g c =
    let (size, within, left, so_far) = c.loop-rest.invariant in
    let n = c.in_ok-n.n in
    let bytes = c.args.bytes.now in
    let rest = c.loop-rest.rest.now in
    let fits : n ≤ length rest = search rules in
    let more = Appends-trans _ _ _ _ _ so_far c.in_ok-n.ensures.bytes in (
      size + n,
      omega (arith, ap length left, length-drop size bytes),
      take_rest rest n ∙ ap (drop n) left ∙ drop-drop n size bytes,
      rw (take-add size n bytes, ← left) more,
    )
