-- What the contracts of writing into a lent slice cite. Assumes nothing: these are definitions.
use Rattle.std.specs.Prelude.{◌≡◌, ℕ, ◌+◌, ◌≤◌, List, ◌++◌, length, take}
use Rattle.report.specs.declared.Page.{Page}

-- there is room for the text behind what is written
abbrev pub Fits : Page → (text : List ℕ) → Type 0
Fits page text = page.size + length text ≤ length page.out.now

-- the text stands behind what was written before, and the page is as long as it was
pub record Writes (old new : Page) (text : List ℕ) : Type 0 where
  pub same_size : length new.out.now ≡ length old.out.now
  pub end : new.size ≡ old.size + length text
  pub written : take new.size new.out.now ≡ take old.size old.out.now ++ text
