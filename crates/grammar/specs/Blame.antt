-- Blame: "the token where the tokens before it begin some derivable list and with it they don't, or the end".
-- Assumes nothing: these are definitions.
use Rattle.std.specs.Prelude.{ℕ, suc, ◌≤◌, ◌<◌, ◌≡◌, List, length}
use Rattle.grammar.specs.Forest.{Forest}
use Rattle.grammar.specs.Rule.{Edition}
use Rattle.grammar.specs.Derivation.{kind_at, Derivation}

-- the first q of ks begin some list that is derived
pub record Begins (E : Edition) (ks : List ℕ) (q : ℕ) : Type 0 where
  pub whole : List ℕ
  pub forest : Forest
  pub derives : Derivation E whole forest
  pub long : q ≤ length whole
  pub starts : (k : ℕ) → k < q → kind_at whole k ≡ kind_at ks k

-- q is a token of ks, or the end: the tokens before it begin some list that is derived, with it they don't,
-- and ks itself is not derived, which says something at the end alone
pub record Blame (E : Edition) (ks : List ℕ) (q : ℕ) : Type 0 where
  pub within : q ≤ length ks
  pub viable : Begins E ks q
  pub dead : q < length ks → Begins E ks (suc q) → ⊥
  pub lacking : (g : Forest) → Derivation E ks g → ⊥
