-- `number_type` reads by its plan: the kind ahead tells the choice.
-- What the plan comes to is what was called. Assumes nothing.
use Rattle.std.proofs.Common.{arith}
use Rattle.readers_core.proofs.Computing.{computing}
use Rattle.kinds.specs.Lists.{kinds_of, only}
use Rattle.readers_core.proofs.Choosing.{among, except}
use Rattle.readers_core.proofs.Frames.{chosen}
use Rattle.readers_core.proofs.Sequence.{◌▸◌, unrecorded}
use Rattle.readers_names.proofs.Words.{chosen_by, comes_as, read_word}
use Prim.Native.Nat.{ℕ}
use Rattle.prediction.specs.plans.Plan.{seq, token}
use Rattle.readers_core.specs.Notation.{make}
use borrow.Author.Rules.{rules}
use mathlib.Core.List.{List, [], ◌∷◌}
use mathlib.Core.Path.{refl}
use Rattle.readers_names.proofs.number_type.Goals as goal

abbrev floats : List ℕ
floats = kinds_of ("double" ∷ "float" ∷ [])

pub returns-in-LONG : goal.returns-in-LONG
unfolding computing
returns-in-LONG c =
    record {
      at_any = λ d. chosen (among (only "long")) c.next_kind-next.ensures (omega arith)
          (((c.take-word.ensures.reads _ _).in_any _ _) ▸ (c.long_number.ensures.at_any _));
    }

pub returns-in-FLOAT : goal.returns-in-FLOAT
unfolding comes_as
returns-in-FLOAT c =
    record {
      at_any = λ d. chosen_by (λ k. seq (token k) (make "floating_pt_type")) floats c.next_kind-next.ensures
          (search rules) tt (read_word refl tt c.take-word-in-FLOAT.ensures c.node.ensures);
    }

pub returns-in-SHORT : goal.returns-in-SHORT
unfolding computing
returns-in-SHORT c =
    record {
      at_any = λ d. chosen (among (only "short")) c.next_kind-next.ensures (omega arith)
          ((c.short_number.ensures.at_any _).of_any _);
    }

pub returns-in_default : goal.returns-in_default
unfolding computing
returns-in_default c =
    record {
      at_any = λ d. chosen (except (only "short" ∷ floats ∷ only "long" ∷ []))
          c.next_kind-next.ensures (omega arith)
          (((c.unsigned_int.ensures.at_any _).in_any _ _) ▸ unrecorded tt);
    }
