-- Right sides of rules as data; an edition: a table of rules, which rule a text is read by, which are recorded always.
-- Assumes nothing: definitions.
use Rattle.std.specs.Prelude.{ℕ, List, get_or}

pub data RightSide : Type 0 where
  terminal : ℕ → RightSide
  nonterminal : ℕ → RightSide
  sequence : RightSide → RightSide → RightSide
  choice : RightSide → RightSide → RightSide
  nothing : RightSide
  repeat : RightSide → RightSide
  deriving Discrete as RightSide-discrete

-- rule number r stands at place r of the list, after one entry for number 0, which is no rule
pub record Edition : Type 0 where
  pub rules : List RightSide
  pub start : ℕ
  pub always : List ℕ

unfoldable pub right_side : Edition → ℕ → RightSide
right_side E r = get_or E.rules r nothing
