-- The whole reader's answer from those of its two parts: what the token part refuses is refused, what it accepts is the tree part's to judge.
-- The token table read back is the tokens of the text, so both parts speak of one meaning. Assumes nothing.
use Prim.Native.Nat.{ℕ, ◌*◌, ◌≤◌}
use mathlib.Core.Path.{◌≡◌, refl, ap, sym, ◌∙◌, subst}
use mathlib.Core.Bool.{Bool, true, false, cond, true≢false}
use mathlib.Core.List.{List, ◌++◌, map, append_assoc}
use native.Mathlib.Omega.{arith}
use Rattle.std.specs.Prelude.{Some, None}
use borrow.Author.Tests.{le-leb, lt-ltb, le-ltb, leb-true, leb-false}
use lib.ListN.{length, drop}
use lib.Seq.{take_at, drop_at}
use Rattle.grammar.specs.Rule.{Edition}
use Rattle.limits.specs.declared.Limits.{Limits}
use Rattle.limits.specs.Limits.{good_text, good_call, bounded}
use Rattle.limits.proofs.Laws.{text_good, none_bad, some_good}
use Rattle.replies.specs.declared.Reply.{Reply}
use Rattle.replies.specs.Replies as rows
use Rattle.tables.specs.Tables.{token_width, node_width, capacity, row, front, zeroed, Records, none, more}
use Rattle.tables.proofs.Laws.{store_front, capacity_fits, length_store}
use Rattle.text.specs.Tokens.{Tokens, tokens, fault, tokens_of}
use Rattle.tokens.specs.Answer.{room, answer, filled, token_reply, token_table}
use Rattle.tokens.proofs.Order.{tokens_few, tokens_records}
use Rattle.meaning.specs.Sense.{Sense, Means, TextSense, read, TextMeans, means_fault, means_tokens, kind}
use Rattle.meaning.specs.Verdict as verdicts
use Rattle.meaning.specs.Verdict.{Verdict, verdict, text_verdict}
use Rattle.meaning.specs.Answer.{tree_reply, tree_after, text_reply, tokens_kept, text_tokens_after, text_tree_after}
use Rattle.meaning.proofs.Laws.{fault_range, tokens_stay}
use Rattle.meaning.specs.Calls.{Answered, first_records, good_tree_call, TreeAnswered}

-- the records at the front of a table, read back
pub read_back : (width : ℕ) {rs : List (List ℕ)} (rest : List ℕ) → Records width rs → first_records width (length rs) (row rs ++ rest) ≡ rs
unfolding first_records row
read_back width rest none = refl
read_back width rest (more {r} {rs} e q) =
    rw (append_assoc r (row rs) rest, take_at r (row rs ++ rest) width e, drop_at r (row rs ++ rest) width e, read_back width rest q)

length_kept : (width : ℕ) {rs : List (List ℕ)} (table : List ℕ) → Records width rs → length rs ≤ capacity width table →
    length (front width rs table) ≡ length table
length_kept width table q h =
    ap length (sym (store_front width table q (capacity_fits width table _ h))) ∙ length_store width table 0 _

-- the tokens are cleared by a refusal
kept_refused : (text : ℕ) (ts : List (List ℕ)) (table : List ℕ) (v : Verdict) → ((tree_reply text ts v).number ≡ rows.accepted_number → ⊥) →
    tokens_kept v ts table ≡ zeroed table
unfolding tree_reply tokens_kept
kept_refused text ts table (verdicts.grammar q) e = refl
kept_refused text ts table (verdicts.deep q) e = refl
kept_refused text ts table (verdicts.full r) e = refl
kept_refused text ts table (verdicts.accepted rs) e = absurd (e refl)

module _ (setting : ℕ) (text table tree : List ℕ) {l : Limits} (made : Some l ≡ bounded (length text) setting) where
  good : good_call (length text) setting ≡ true
  good = some_good (length text) setting made

  good_length : good_text (length text) ≡ true
  good_length = text_good (length text) setting good

  reply_is : token_reply text table ≡ answer (length text) table (tokens_of text)
  reply_is = rw good_length

  table_is : token_table text table ≡ filled table (tokens_of text)
  table_is = rw good_length

  -- what a good call must answer for each meaning
  Right : Reply → List ℕ → List ℕ → TextSense → Type 0
  Right reply tokens' tree' sense =
      let v = text_verdict setting (capacity token_width table) (capacity node_width tree) sense in
      (reply ≡ text_reply (length text) v) × ((tokens' ≡ text_tokens_after v table) × (tree' ≡ text_tree_after v tree))

  -- a refusal of the token part
  refused_right : {E : Edition} (sense : TextSense) → TextMeans E text sense →
      ((answer (length text) table (tokens_of text)).number ≡ rows.accepted_number → ⊥) →
      Right (answer (length text) table (tokens_of text)) (filled table (tokens_of text)) (zeroed tree) sense
  unfolding Right text_verdict text_reply text_tokens_after text_tree_after
  refused_right sense (means_fault e) n = rw e (refl, (refl, refl))
  refused_right sense (means_tokens {ts = ts} {sense = s} e m) n = rw e (go (room table ts) refl (rw e at n))
    where
      cap : ℕ
      cap = capacity token_width table

      go : (b : Bool) → room table ts ≡ b →
          ((cond b (rows.accepted (length text) (length ts) 0) (rows.more_tokens (length text) (length ts))).number ≡ rows.accepted_number → ⊥) →
          Right (cond b (rows.accepted (length text) (length ts) 0) (rows.more_tokens (length text) (length ts)))
          (cond b (front token_width ts table) (zeroed table)) (zeroed tree) (read ts s)
      go true u n = absurd (n refl)
      go false u n = rw (lt-ltb cap (length ts) (leb-false (length ts) cap u)) (refl, (refl, refl))

  -- an acceptance of the token part, judged by the tree part on the table read back
  module _ {E : Edition} {ts : List (List ℕ)} (e : tokens_of text ≡ tokens ts) (fits : room table ts ≡ true) {reply : Reply} {tree' : List ℕ}
      (judged : TreeAnswered E (front token_width ts table) (length ts) (length text) tree setting reply tree') where
    few : length ts ≤ capacity token_width table
    few = leb-true (length ts) (capacity token_width table) fits

    three_wide : Records token_width ts
    three_wide = tokens_records text e

    room_is : capacity token_width (front token_width ts table) ≡ capacity token_width table
    room_is = rw (length_kept token_width table three_wide few)

    good_tree : good_tree_call (front token_width ts table) (length ts) (length text) setting ≡ true
    good_tree = rw (good, room_is, fits, le-leb (length ts) (length text) (tokens_few text e))

    -- the tree part's answer for every meaning of the tokens
    answered : (s : Sense) → Means E (map kind ts) s →
        (reply ≡ tree_reply (length text) ts (verdict setting (capacity node_width tree) (map kind ts) s))
        × (tree' ≡ tree_after (verdict setting (capacity node_width tree) (map kind ts) s) tree)
    answered =
        subst (λ (l : List (List ℕ)). (s : Sense) → Means E (map kind l) s →
        (reply ≡ tree_reply (length text) l (verdict setting (capacity node_width tree) (map kind l) s))
        × (tree' ≡ tree_after (verdict setting (capacity node_width tree) (map kind l) s) tree))
        (read_back token_width (drop (token_width * length ts) table) three_wide) (judged.inside good_tree)

    zeroed_is : zeroed (front token_width ts table) ≡ zeroed table
    zeroed_is = rw (length_kept token_width table three_wide few)

    right : (s : Sense) → Means E (map kind ts) s → (tokens' : List ℕ) →
        ((v : Verdict) → reply ≡ tree_reply (length text) ts v → tokens' ≡ tokens_kept v ts table) → Right reply tokens' tree' (read ts s)
    unfolding Right text_verdict text_reply text_tokens_after text_tree_after
    right s m tokens' kept =
        let a = answered s m in
        rw (le-ltb (capacity token_width table) (length ts) few) (a.0, (kept (verdict setting (capacity node_width tree) (map kind ts) s) a.0, a.1))

    both_right : (sense : TextSense) → TextMeans E text sense → (tokens' : List ℕ) →
        ((v : Verdict) → reply ≡ tree_reply (length text) ts v → tokens' ≡ tokens_kept v ts table) → Right reply tokens' tree' sense
    both_right sense (means_fault e') tokens' kept = let z : ◌≡◌ {A = ℕ} 0 1 = cc in absurd (omega arith)
    both_right sense (means_tokens {ts = ts'} {sense = s} e' m) tokens' kept =
        let p : ts ≡ ts' = cc in
        subst (λ (l : List (List ℕ)). Right reply tokens' tree' (read l s)) p
        (right s (subst (λ (l : List (List ℕ)). Means E (map kind l) s) (sym p) m) tokens' kept)

    accepted_right : reply.number ≡ rows.accepted_number → (sense : TextSense) → TextMeans E text sense → Right reply (front token_width ts table) tree' sense
    accepted_right z sense m =
        both_right sense m (front token_width ts table) (λ v a. sym (tokens_stay (length text) ts table v (sym (ap (λ (r : Reply). r.number) a) ∙ z)))

    denied_right : (reply.number ≡ rows.accepted_number → ⊥) → (sense : TextSense) → TextMeans E text sense →
        Right reply (zeroed (front token_width ts table)) tree' sense
    denied_right n sense m =
        both_right sense m (zeroed (front token_width ts table))
        (λ v a. zeroed_is ∙ sym (kept_refused (length text) ts table v (λ z. n (ap (λ (r : Reply). r.number) a ∙ z))))

  pub refused : {E : Edition} {reply : Reply} {tokens' tree' : List ℕ} → reply ≡ token_reply text table → tokens' ≡ token_table text table →
      (reply.number ≡ rows.accepted_number → ⊥) → tree' ≡ zeroed tree → Answered E text table tree setting reply tokens' tree'
  unfolding Right
  refused {reply = reply} a b n c = record {
    outside = λ u. absurd (true≢false (sym good ∙ u));
    inside = λ u sense m.
        let r = refused_right sense m (λ z. n (ap (λ (r : Reply). r.number) (a ∙ reply_is) ∙ z)) in
        (a ∙ reply_is ∙ r.0, (b ∙ table_is ∙ r.1.0, c ∙ r.1.1));
  }

  -- what an accepted text is as tokens
  record Accepted (reply : Reply) (tokens' : List ℕ) : Type 0 where
    list : List (List ℕ)
    tokens_are : tokens_of text ≡ tokens list
    fits : room table list ≡ true
    counted : reply.tokens ≡ length list
    table_now : tokens' ≡ front token_width list table

  some_tokens : (reply : Reply) (tokens' : List ℕ) → reply ≡ token_reply text table → tokens' ≡ token_table text table →
      reply.number ≡ rows.accepted_number → Accepted reply tokens'
  some_tokens reply tokens' a b z = go (tokens_of text) refl (a ∙ reply_is) (b ∙ table_is)
    where
      roomy : (ts : List (List ℕ)) → tokens_of text ≡ tokens ts → (x : Bool) → room table ts ≡ x →
          reply ≡ cond x (rows.accepted (length text) (length ts) 0) (rows.more_tokens (length text) (length ts)) →
          tokens' ≡ cond x (front token_width ts table) (zeroed table) → Accepted reply tokens'
      roomy ts e true u c d = record { list = ts; tokens_are = e; fits = u; counted = ap (λ (r : Reply). r.tokens) c; table_now = d }
      roomy ts e false u c d = let w = ap (λ (r : Reply). r.number) c in absurd (omega arith)

      go : (found : Tokens) → tokens_of text ≡ found → reply ≡ answer (length text) table found → tokens' ≡ filled table found → Accepted reply tokens'
      go (tokens ts) e c d = roomy ts e (room table ts) refl c d
      go (fault f) e c d = let w = ap (λ (r : Reply). r.number) c in absurd (omega (arith, (fault_range f).0))

  module _ {E : Edition} {found : Reply} {middle : List ℕ} (a : found ≡ token_reply text table) (b : middle ≡ token_table text table)
      (z : found.number ≡ rows.accepted_number) {count : ℕ} (k : count ≡ found.tokens) {reply : Reply} {tree' : List ℕ}
      (judged : TreeAnswered E middle count (length text) tree setting reply tree') where
    judged_list : (x : Accepted found middle) →
        TreeAnswered E (front token_width x.list table) (length x.list) (length text) tree setting reply tree'
    judged_list x =
        subst (λ (n : ℕ). TreeAnswered E (front token_width x.list table) n (length text) tree setting reply tree') (k ∙ x.counted)
        (subst (λ (l : List ℕ). TreeAnswered E l count (length text) tree setting reply tree') x.table_now judged)

    pub accepted : reply.number ≡ rows.accepted_number → Answered E text table tree setting reply middle tree'
    unfolding Right
    accepted n =
        let x = some_tokens found middle a b z in
        record {
          outside = λ u. absurd (true≢false (sym good ∙ u));
          inside = λ u sense m.
              let r = accepted_right x.tokens_are x.fits (judged_list x) n sense m in
              (r.0, (x.table_now ∙ r.1.0, r.1.1));
        }

    pub denied : {tokens' : List ℕ} → (reply.number ≡ rows.accepted_number → ⊥) → tokens' ≡ zeroed middle →
        Answered E text table tree setting reply tokens' tree'
    unfolding Right
    denied n c =
        let x = some_tokens found middle a b z in
        record {
          outside = λ u. absurd (true≢false (sym good ∙ u));
          inside = λ u sense m.
              let r = denied_right x.tokens_are x.fits (judged_list x) n sense m in
              (r.0, (c ∙ ap zeroed x.table_now ∙ r.1.0, r.1.1));
        }

-- a bad call
pub beyond : {E : Edition} (setting : ℕ) (text table tree : List ℕ) {reply : Reply} →
    None ≡ bounded (length text) setting → reply ≡ rows.outside_limits → Answered E text table tree setting reply table tree
beyond setting text table tree a e = record {
  outside = λ u. (e, (refl, refl));
  inside = λ u. absurd (true≢false (sym u ∙ none_bad (length text) setting a));
}
