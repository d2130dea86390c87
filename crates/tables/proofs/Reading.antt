-- A table read record by record: the n-th record, as a number of it is found at its place in the table.
-- By induction on the records. Assumes nothing.
use Rattle.std.proofs.Common.{◌≡◌, ℕ, zero, suc, ◌+◌, ◌*◌, ◌<◌, List, get_or, take, drop, ap, ◌∙◌, arith}
use Rattle.std.proofs.lemmas.List.{get_or-drop, get_or-take}
use Rattle.std.specs.Simd.{first_chunks}
use native.Mathlib.Nat.{mul-zero, mul-suc}
use lib.Seq.{drop-drop}
use Rattle.tables.specs.Tables.{capacity}

module _ (width : ℕ) where
  chunk_at : (k n : ℕ) (t d : List ℕ) → n < k → get_or (first_chunks width k t) n d ≡ take width (drop (width * n) t)
  chunk_at zero n t d h = absurd (omega arith)
  chunk_at (suc k) zero t d h = rw (mul-zero width)
  chunk_at (suc k) (suc n) t d h =
      let e : width + width * n ≡ width * suc n = omega (arith, mul-suc width n) in
      chunk_at k n (drop width t) d (omega arith) ∙ ap (take width) (drop-drop (width * n) width t ∙ ap (λ (i : ℕ). drop i t) e)

  -- a number of the n-th record
  pub number_at : (t : List ℕ) (n : ℕ) {rs : List (List ℕ)} {r : List ℕ} (i : ℕ) → n < capacity width t → i < width →
      rs ≡ first_chunks width (capacity width t) t → r ≡ get_or rs n r → get_or r i 0 ≡ get_or t (width * n + i) 0
  number_at t n {rs} {r} i h w front e =
      ap (λ (l : List ℕ). get_or l i 0) (e ∙ ap (λ (l : List (List ℕ)). get_or l n r) front ∙ chunk_at (capacity width t) n t r h)
      ∙ get_or-take width (drop (width * n) t) i 0 w ∙ get_or-drop (width * n) t i 0
