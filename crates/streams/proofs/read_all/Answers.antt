-- `streams::read_all` meets its contract: what one read puts into the rest of the slice stands behind what was read so far.
-- Two reads one after the other take the bytes of both. Assumes nothing.
use Rattle.std.proofs.Common.{◌≡◌, ℕ, ◌+◌, ◌-◌, ◌≤◌, List, ◌++◌, rules, length, take, le_refl, drop_at, length-take-le}
use Rattle.std.proofs.lemmas.Slice.{take-put_mid_below}
use Rattle.std.proofs.KnownBytes.{Consumes-trans}
use Rattle.std.proofs.Math.Seq.{take-add, take-append-le}
use borrow.Rule.Slice.PartMut.{put_mid, post_of}
use Rattle.streams.proofs.read_all.Goals as goal

-- the first bytes of a slice, after a part of it is put in anew
take_put : (a k n : ℕ) (xs ys : List ℕ) → a ≤ length xs → n ≤ length ys → take (a + n) (put_mid a k xs ys) ≡ take a xs ++ take n ys
take_put a k n xs ys within fits =
    let after = post_of a k xs in
    rw (
      take-add a n (put_mid a k xs ys),
      take-put_mid_below a k xs ys a (le_refl a) within,
      drop_at (take a xs) (ys ++ after) a (length-take-le a xs within),
      take-append-le n ys after fits,
    )

pub loop-size-preserved : goal.loop-size-preserved
loop-size-preserved g c =
    let size = c.loop-size.size in
    let n = c.in_ok-n.n in
    let before = c.loop-size.bytes in
    let inv = c.loop-size.invariant in
    let fits : n ≤ length c.read_some.new.bytes = search rules in
    let more = Consumes-trans _ _ _ _ _ inv.so_far c.in_ok-n.ensures.bytes.0 in record {
      same = search rules;
      within = search rules;
      so_far = rw (take_put size (length before - size) n before c.read_some.new.bytes inv.within fits) more;
    }
