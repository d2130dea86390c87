-- Readers that call each other: the remaining depth counts before the rank of the reader in the measure of a call.
-- At one depth a reader calls those of lower rank. Assumes nothing.
use Rattle.std.proofs.Common.{ℕ}

-- more than any rank
abbrev pub ranks : ℕ
ranks = 32
