-- A count that is given of bytes moved lies within the slice.
-- By the case of the definition. Assumes nothing.
use Rattle.std.proofs.Common.{ℕ, ◌≤◌, ◌≡◌, Result, Ok}
use Rattle.std.specs.declared.io.Error.{Error}
use Rattle.streams.specs.Transfer.{Within}

pub count_within : (n : ℕ) {size : ℕ} {t : Result ℕ Error} → t ≡ Ok size → Within n t → size ≤ n
count_within n e w = rw e at w
