-- A course: an edition as readers follow it, with its plans and the number that readers write for each of its rules; and which
-- courses share rules. Assumes nothing: these are definitions.
use Rattle.std.specs.Prelude.{◌≡◌, ℕ, Bool, T, List, map}
use Rattle.grammar.specs.Forest.{Forest}
use Rattle.grammar.specs.Idl.{idl}
use Rattle.grammar.specs.Record.{TreeRecord, tree_record, records}
use Rattle.grammar.specs.Rule.{Edition}
use Rattle.grammar.specs.Sets.{elem}
use Rattle.prediction.specs.sharing.Renaming.{Inside, renamed, as_it_is}
use Rattle.prediction.specs.validator.Typing.{Table}
use Rattle.prediction.specs.validator.Check.{Checked, table_of}
use Rattle.prediction.proofs.theorems.IdlChecked.{idl_checked}

-- an edition that passes its test; readers write `code r` for its rule r
pub record Course : Type 0 where
  pub edition : Edition
  pub checked : Checked edition
  pub code : ℕ → ℕ

abbrev pub table_in : Course → Table
table_in C = table_of C.checked

-- a record with the number that readers write
unfoldable pub coded : (code : ℕ → ℕ) → TreeRecord → TreeRecord
coded code (tree_record rule first past size) = tree_record (code rule) first past size

-- what readers write for a forest whose first token is number i
unfoldable pub noted : Course → ℕ → Forest → List TreeRecord
unfolding coded
noted C i f = map (coded C.code) (records C.edition i f)

-- course C has the rules of course R for which `rule` holds, each by its number there: the same plan, which names shared rules
-- alone, recorded always in both or in neither, and written by readers as the same number
pub record Shares (R C : Course) : Type 0 where
  pub rule : ℕ → Bool
  pub number : ℕ → ℕ
  pub closed : (n : ℕ) → T (rule n) → Inside rule ((table_in R).plan n)
  pub same_plan : (n : ℕ) → T (rule n) → (table_in C).plan (number n) ≡ renamed number ((table_in R).plan n)
  pub same_always : (n : ℕ) → T (rule n) → elem (number n) C.edition.always ≡ elem n R.edition.always
  pub same_code : (n : ℕ) → T (rule n) → C.code (number n) ≡ R.code n

-- edition 1: readers write the numbers of its rules
abbrev pub one : Course
one = record { edition = idl; checked = idl_checked; code = as_it_is }
