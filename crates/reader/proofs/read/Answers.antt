-- `read` meets its contract: a bad call changes nothing, and a good one is answered by its two parts in turn.
-- What the token part refuses is refused; the rest is judged by the tree part on the table just filled. Assumes nothing.
use mathlib.Core.Path.{refl, sym, ◌∙◌}
use borrow.Author.Tests.{eqb-true, eqb-false}
use Rattle.reader.proofs.Whole.{accepted, beyond, denied, refused}
use Rattle.reader.proofs.read.Goals as goal

pub returns-in_default : goal.returns-in_default
returns-in_default c =
    beyond c.args.depth c.args.text.now c.args.tokens.now c.args.tree.now c.in_default.ensures c.outside_limits.ensures

pub returns-then-not-is_accepted : goal.returns-then-not-is_accepted
returns-then-not-is_accepted c =
    refused c.args.depth c.args.text.now c.args.tokens.now c.args.tree.now c.in-Some.ensures
    c.read_tokens-found.ensures.reply c.read_tokens-found.ensures.table
    (eqb-false _ _ (sym c.is_accepted.ensures ∙ c.if-not-is_accepted.true)) c.clear.ensures

pub returns-then-is_accepted : goal.returns-then-is_accepted
returns-then-is_accepted c =
    accepted c.args.depth c.args.text.now c.args.tokens.now c.args.tree.now c.in-Some.ensures
    c.read_tokens-found.ensures.reply c.read_tokens-found.ensures.table
    (eqb-true _ _ (sym c.is_accepted.ensures ∙ c.if-not-is_accepted.false)) refl c.read_tree-answer.ensures
    (eqb-true _ _ (sym c.is_accepted-2.ensures ∙ c.if-is_accepted.true))

pub returns : goal.returns
returns c =
    denied c.args.depth c.args.text.now c.args.tokens.now c.args.tree.now c.in-Some.ensures
    c.read_tokens-found.ensures.reply c.read_tokens-found.ensures.table
    (eqb-true _ _ (sym c.is_accepted.ensures ∙ c.if-not-is_accepted.false)) refl c.read_tree-answer.ensures
    (eqb-false _ _ (sym c.is_accepted-2.ensures ∙ c.if-is_accepted.false)) c.clear-2.ensures
