-- What the contracts of reading and writing cite. Assumes nothing: these are definitions.
use Rattle.std.specs.Prelude.{ℕ, ◌<◌, ◌≤◌, List, length, take, Option, Result, Ok, Err}
use Rattle.std.specs.Io.KnownBytes.{Appends, Consumes, IsAtEnd}
use Rattle.std.specs.declared.io.Error.{Error}

-- no more bytes are counted than a slice of n bytes has
abbrev pub Within : (n : ℕ) → Result ℕ Error → Type 0
Within n (Ok size) = size ≤ n
Within n (Err error) = Unit {0}

-- reading to the end: the bytes counted are at the front of the slice, and if it has room for more, the input has none left
abbrev pub ReadWhole : (old new : Option (List ℕ)) → Result ℕ Error → (bytes : List ℕ) → Type 0
ReadWhole old new (Ok size) bytes = Consumes old new (take size bytes) × (size < length bytes → IsAtEnd new)
ReadWhole old new (Err error) bytes = Unit {0}

-- the first so many of the bytes are written, and no others
abbrev pub WrotePart : (old new : Option (List ℕ)) → (bytes : List ℕ) → Type 0
WrotePart old new bytes = (size : ℕ) × (size ≤ length bytes) × Appends old new (take size bytes)
