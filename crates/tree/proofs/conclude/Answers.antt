-- `conclude` meets its contract: each way out is a case of the definition.
-- What was tested decides the case. Assumes nothing.
use Rattle.tables.specs.Tables.{capacity, node_width}
use Rattle.tree.specs.Conclusion.{concluded, kept_tree}
use borrow.Author.Tests.{le-ltb, lt-ltb}
use lib.Dec.{ltb}
use mathlib.Core.Bool.{false, true}
use mathlib.Core.Path.{◌∙◌, ◌≡◌, subst, sym}
use Prim.Native.Nat.{◌<◌, ◌≤◌, ℕ}
use Rattle.tree.proofs.conclude.Goals as goal

pub returns-then-tree-needed : goal.returns-then-tree-needed
unfolding concluded kept_tree
returns-then-tree-needed c =
    let whole = sym c.is_complete.ensures ∙ c.if-is_complete.true in
    let needed = c.records-needed.ensures in
    let args = c.args in
    let full : ltb (capacity node_width args.tree.now) args.state.count ≡ true =
    lt-ltb _ _ (subst (λ (n : ℕ). capacity node_width args.tree.now < n) needed c.if-tree-needed.true) in
    record { reply = c.more_records.ensures ∙ simp (whole, needed, full); table = c.clear.ensures ∙ simp (whole, full) }

pub returns-then-is_complete : goal.returns-then-is_complete
unfolding concluded kept_tree
returns-then-is_complete c =
    let whole = sym c.is_complete.ensures ∙ c.if-is_complete.true in
    let needed = c.records-needed.ensures in
    let args = c.args in
    let room : ltb (capacity node_width args.tree.now) args.state.count ≡ false =
    le-ltb _ _ (subst (λ (n : ℕ). n ≤ capacity node_width args.tree.now) needed c.if-tree-needed.false) in
    record { reply = c.accepted.ensures ∙ simp (whole, needed, room); table = simp (whole, room) }

pub returns-then-is_too_deep : goal.returns-then-is_too_deep
unfolding concluded kept_tree
returns-then-is_too_deep c =
    let not_whole = sym c.is_complete.ensures ∙ c.if-is_complete.false in
    let deep = sym c.is_too_deep.ensures ∙ c.if-is_too_deep.true in
    record {
      reply = c.too_deep.ensures ∙ simp (c.place_of-first.ensures, c.place.ensures, not_whole, deep);
      table = c.clear-2.ensures ∙ simp not_whole;
    }

pub returns : goal.returns
unfolding concluded kept_tree
returns c =
    let not_whole = sym c.is_complete.ensures ∙ c.if-is_complete.false in
    let blamed = sym c.is_too_deep.ensures ∙ c.if-is_too_deep.false in
    record {
      reply = c.grammar.ensures ∙ simp (c.place_of-first.ensures, c.place.ensures, not_whole, blamed);
      table = c.clear-2.ensures ∙ simp not_whole;
    }
