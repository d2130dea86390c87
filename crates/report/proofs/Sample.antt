-- The paper's example of what the program writes: the report of `native A;`.
-- Computed. Assumes nothing.
use mathlib.Core.List.{[], ◌∷◌, ◌++◌}
use mathlib.Core.Path.{◌≡◌, refl}
use Rattle.kinds.specs.Kinds.{bytes}
use Rattle.replies.specs.Replies.{accepted}
use Rattle.report.specs.Report.{line_end, width, line, lines, acceptance, report}

pub example :
    report (accepted 9 3 4) (51 ∷ 1 ∷ 2 ∷ 1 ∷ 42 ∷ 0 ∷ 2 ∷ 2 ∷ 2 ∷ 0 ∷ 3 ∷ 3 ∷ 1 ∷ 0 ∷ 3 ∷ 4 ∷ []) ≡
    bytes "accepted 3 4" ++ line_end ∷ bytes "51 1 2 1" ++ line_end ∷ bytes "42 0 2 2" ++ line_end ∷
    bytes "2 0 3 3" ++ line_end ∷ bytes "1 0 3 4" ++ line_end ∷ []
unfolding width line lines acceptance report
example = refl
