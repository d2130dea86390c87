-- `text::end_in_window` meets its contract. The loop's invariant: the end is what is known of it from the bytes looked at.
-- One byte more is one step of the law. Assumes nothing.
use Rattle.std.proofs.Common.{◌∙◌, ◌+◌, ◌≡◌, ◌<◌, ap, sym, cond, Bool, get_or, arith}
use Rattle.text.proofs.Blocks.{end_further}
use Rattle.text.proofs.Runs.{front}
use Rattle.text.proofs.end_in_window.Goals as goal
use Rattle.text.proofs.end_in_window.Goals.{then-has, else-has}

pub loop-place-preserved : goal.loop-place-preserved
loop-place-preserved g c =
    let class = g.C.Class.member in
    let bytes = c.args.bytes.now in
    let size = g.row.N in
    let k = c.loop-place.place-iterator.a.start in
    let known = c.loop-place.invariant in
    let step = c.in-Some.ensures.steps in
    let first = front bytes k (sym known.1 ∙ step.1) in
    let chosen = λ (x : Bool). cond x size k in
    let inside = c.has.ensures ∙ ap class first.byte in
    let placed : c.if-has.found ≡ chosen (class (get_or bytes k 0)) =
    elim c.if-has.branch [
      | then-has w ↦ w.found-is ∙ ap chosen (sym w.if-has.true ∙ inside)
      | else-has w ↦ w.found-is ∙ step.0.0 ∙ ap chosen (sym w.if-has.false ∙ inside)
    ] in
    let next : c.next.new.self.a.start ≡ k + 1 = omega (arith, step.0.0, step.0.1) in
    let within : k < size = omega (arith, first.inside, c.told-bytes) in (
      omega (arith, next, within),
      rw next first.behind,
      rw next (c.min-end.ensures ∙ end_further class bytes size k _ _ within first.inside placed known.2),
    )
