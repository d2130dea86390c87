-- From what reading the whole text finds to the table: its tokens are few, and where they have room, their records are at its front.
-- Each rewrites the definitions by what was found. Assumes nothing.
use mathlib.Core.List.{List}
use mathlib.Core.Bool.{true, false}
use mathlib.Core.Path.{◌≡◌, refl, ◌∙◌}
use Prim.Native.Nat.{ℕ, ◌≤◌, ◌<◌}
use native.Mathlib.Omega.{arith}
use borrow.Author.Tests.{le-leb, leb-true}
use Rattle.std.specs.Prelude.{Ok, Err}
use lib.ListN.{length}
use Rattle.limits.specs.Limits.{text_ceiling, good_text}
use Rattle.replies.specs.declared.Reply.{Reply}
use Rattle.replies.specs.Replies as rows
use Rattle.tables.specs.Tables.{number_end, token_width, capacity, store, zeroed}
use Rattle.tables.proofs.Laws.{store_front, capacity_fits}
use Rattle.text.specs.Tokens.{Tokens, tokens, tokens_of}
use Rattle.tokens.specs.Answer.{Scanned, all_tokens, first_fault, answer, filled, token_reply, token_table}
use Rattle.tokens.proofs.Order.{tokens_few, tokens_records}

-- the whole text is n tokens, whose records are in the table as far as they fit
record Counted (whole : Tokens) (table after : List ℕ) (n : ℕ) : Type 0 where
  list : List (List ℕ)
  all : whole ≡ tokens list
  stored : after ≡ store token_width table 0 list
  count : length list ≡ n

counted : {whole : Tokens} {table after : List ℕ} {n : ℕ} → Scanned whole table after (Ok n) → Counted whole table after n
counted (all_tokens list) = record { list = list; all = refl; stored = refl; count = refl }

-- the first fault is the answer, and the table is to be zeroed
faulted : {whole : Tokens} {table after : List ℕ} {reply : Reply} (n : ℕ) → Scanned whole table after (Err reply) →
    (reply ≡ answer n table whole) × (zeroed table ≡ filled table whole)
faulted n (first_fault f) = (refl, refl)

pub refused : (text table : List ℕ) → good_text (length text) ≡ false →
    (rows.outside_limits ≡ token_reply text table) × (table ≡ token_table text table)
refused text table bad = simp bad (refl, refl)

module _ (text table : List ℕ) (good : good_text (length text) ≡ true) {after : List ℕ} {n : ℕ} (s : Scanned (tokens_of text) table after (Ok n)) where
  -- the count fits 32 bits
  pub few : n < number_end
  few =
      let k = counted s in
      let h = tokens_few text k.all in
      omega (arith, k.count, leb-true (length text) text_ceiling good)

  pub room_kept : n ≤ capacity token_width table → after ≡ token_table text table
  room_kept h =
      let k = counted s in
      let fits : length k.list ≤ capacity token_width table = omega (arith, k.count) in
      let stored = k.stored ∙ store_front token_width table (tokens_records text k.all) (capacity_fits token_width table (length k.list) fits) in
      simp (good, k.all, le-leb _ _ fits) stored
