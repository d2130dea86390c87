-- `words::keywords::Row::compare` meets its contract: the part of the row that is compared is the keyword's spelling.
-- A word near the spelling has its length, and a row starts with its spelling. Assumes nothing.
use mathlib.Core.Path.{◌≡◌, ap, sym, ◌∙◌}
use mathlib.Core.Bool.{true}
use mathlib.Core.List.{List}
use Prim.Native.Nat.{ℕ, ◌<◌}
use native.Mathlib.Omega.{arith}
use lib.ListN.{length, take, get_or}
use Rattle.words.specs.Comparison.{all_letters, likeness}
use Rattle.words.specs.Search.{near_to}
use Rattle.words.specs.Table.{row_count, spelling}
use Rattle.words.specs.declared.keywords.Keyword.{Keyword}
use Rattle.words.specs.declared.keywords.TheConstants.{KEYWORDS}
use Rattle.words.proofs.Spellings.{near_length}
use Rattle.words.proofs.Rules.{bounds_at, letters_of, spelling_at}
use Rattle.words.proofs.keywords.Row.compare.Goals as goal

-- the part that is lent
part : (w : List ℕ) {row : ℕ} (none : Keyword) → row < row_count → near_to w (spelling row) ≡ true →
    take (length w) (get_or KEYWORDS row none).1 ≡ spelling row
part w none r h = rw (near_length _ _ _ h) (spelling_at none r)

pub shared_ref_as_front-likeness_of : goal.shared_ref_as_front-likeness_of
shared_ref_as_front-likeness_of c = omega (arith, near_length _ _ _ c.requires.0, (bounds_at c.args.self.in_table).short_enough)

pub likeness_of-requires : goal.likeness_of-requires
likeness_of-requires c =
    let p = part c.args.word.now _ c.args.self.in_table c.requires.0 in
    let n = near_length _ _ _ c.requires.0 in
    (n ∙ ap length (sym p), omega (arith, n, (bounds_at c.args.self.in_table).short_enough), ap all_letters p ∙ letters_of c.args.self.in_table)

pub returns-clause-value : goal.returns-clause-value
returns-clause-value c =
    c.likeness_of.ensures ∙ ap (likeness c.args.word.now) (part c.args.word.now _ c.args.self.in_table c.requires.0)
