-- Derivation by the rules of an edition: a relation, never a parser.
-- Assumes nothing: definitions.
use Rattle.std.specs.Prelude.{ℕ, suc, ◌≡◌, List, get_or, length}
use Rattle.grammar.specs.Forest.{Forest, end, leaf, node}
use Rattle.grammar.specs.Rule.{RightSide, terminal, nonterminal, sequence, choice, nothing, repeat, Edition}
use Rattle.grammar.specs.Rule.{right_side}

-- the kinds of a list of tokens by place, with 0, which is no kind, past its end
abbrev pub kind_at : List ℕ → ℕ → ℕ
kind_at ks q = get_or ks q 0

-- the right side e derives the kinds s from place i to place j; the trees before it, f, become g
pub data Derives (E : Edition) (s : ℕ → ℕ) : RightSide → ℕ → ℕ → Forest → Forest → Type 0 where
  derive_terminal : {k i : ℕ} {f : Forest} → s i ≡ k → Derives E s (terminal k) i (suc i) f (leaf f k)
  derive_rule : {r i j : ℕ} {f h : Forest} → Derives E s (right_side E r) i j end h →
      Derives E s (nonterminal r) i j f (node f r h)
  derive_sequence : {a b : RightSide} {i m j : ℕ} {f h g : Forest} → Derives E s a i m f h → Derives E s b m j h g →
      Derives E s (sequence a b) i j f g
  derive_left : {a b : RightSide} {i j : ℕ} {f g : Forest} → Derives E s a i j f g → Derives E s (choice a b) i j f g
  derive_right : {a b : RightSide} {i j : ℕ} {f g : Forest} → Derives E s b i j f g → Derives E s (choice a b) i j f g
  derive_nothing : {i : ℕ} {f : Forest} → Derives E s nothing i i f f
  derive_none : {a : RightSide} {i : ℕ} {f : Forest} → Derives E s (repeat a) i i f f
  derive_more : {a : RightSide} {i m j : ℕ} {f h g : Forest} → Derives E s a i m f h →
      Derives E s (repeat a) m j h g → Derives E s (repeat a) i j f g

-- the whole list of kinds is derived, by the rule that a text is read by, and g is the tree
unfoldable pub Derivation : Edition → List ℕ → Forest → Type 0
Derivation E ks g = Derives E (kind_at ks) (nonterminal E.start) 0 (length ks) end g
