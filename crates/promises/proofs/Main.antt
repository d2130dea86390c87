-- What is promised, on one page of theorems, of each edition that is offered. `reader::read` is proved to answer as `Answered` says of
-- edition 1, `tree::read_tree` as `TreeAnswered` says of it, and the exported entries call these. Whatever answers so meets the demands below.
use Prim.Native.Nat.{ℕ, suc, ◌≤◌, ◌<◌}
use mathlib.Core.Path.{◌≡◌}
use mathlib.Core.Bool.{true, false}
use mathlib.Core.List.{List, [], map}
use native.Mathlib.Omega.{arith}
use lib.ListN.{length, get_or}
use Rattle.grammar.specs.Blame.{Begins, Blame}
use Rattle.grammar.specs.Depth.{Within}
use Rattle.grammar.specs.Derivation.{kind_at, Derivation}
use Rattle.grammar.specs.Forest.{Forest, leaves}
use Rattle.grammar.specs.Meaning.{Meaning}
use Rattle.grammar.specs.Rule.{Edition}
use Rattle.kinds.specs.Kinds.{bytes, keywords, nth_keyword, keyword}
use Rattle.limits.specs.Limits.{good_call}
use Rattle.replies.specs.declared.Reply.{Reply}
use Rattle.replies.specs.Replies as rows
use Rattle.replies.specs.Faults.{Fault, row}
use Rattle.tables.specs.Tables.{capacity, token_width, node_width, zeroed}
use Rattle.text.specs.Bytes.{at}
use Rattle.text.specs.Tokens.{tokens, fault, tokens_of}
use Rattle.text.specs.Words.{lower, sorted}
use Rattle.tokens.specs.Answer.{token_reply}
use Rattle.words.specs.Search.{near_keywords, most_near, sorted_among, comparisons}
use Rattle.words.proofs.Sorting as words
use Rattle.meaning.specs.Sense.{Sense, Means, TextSense, TextMeans, kind, tree_records}
use Rattle.meaning.specs.Verdict.{verdict}
use Rattle.meaning.specs.Answer.{place}
use Rattle.meaning.specs.Calls.{Answered, first_records, good_tree_call, TreeAnswered}
use Rattle.prediction.proofs.theorems.Theorems as theorems
use Rattle.meaning.specs.Samples.{All, Holds, starred}
use Rattle.meaning.proofs.OneMeaning.{some_text_sense, one_text_sense}
use Rattle.meaning.proofs.Samples.{starred_hold}
use Rattle.promises.specs.Editions.{Offered}
use Rattle.promises.specs.Demands.{Mixed, TreeAccepted, Accepted, Faulted, KeywordNamed, LiteralPrintable, OtherByte, TreeBlamed, Blamed}
use Rattle.promises.specs.Demands.{Kept, Again, TreeKept}
use Rattle.promises.proofs.Editions.{checked_of}
use Rattle.promises.proofs.Mixtures as mixtures
use Rattle.promises.proofs.OtherCase as other_case
use Rattle.promises.proofs.Literals as literals
use Rattle.promises.proofs.Demand1 as demand_1
use Rattle.promises.proofs.Demand2 as demand_2
use Rattle.promises.proofs.Demand3 as demand_3
use Rattle.promises.proofs.TreePart as tree_part

module _ {E : Edition} (offered : Offered E) where
  -- The grammar alone. No list of tokens has two derivations; each has its derivation or its place of blame, which is one;
  -- the leaves of a derivation are the tokens in order. Strings of both kinds side by side are blamed at the second, unless a token before it is.

  pub one_derivation : (ks : List ℕ) (g g' : Forest) → Derivation E ks g → Derivation E ks g' → g' ≡ g
  one_derivation = theorems.unique (checked_of offered)

  pub derivation_or_blame : (ks : List ℕ) → Meaning E ks
  derivation_or_blame = theorems.meaning (checked_of offered)

  pub never_both : (ks : List ℕ) (q : ℕ) (g : Forest) → Blame E ks q → Derivation E ks g → ⊥
  never_both = theorems.never_both (checked_of offered)

  pub one_blame : (ks : List ℕ) (q q' : ℕ) → Blame E ks q → Blame E ks q' → q' ≡ q
  one_blame = theorems.blamed_once (checked_of offered)

  pub leaves_are_tokens : (ks : List ℕ) (g : Forest) → Derivation E ks g → leaves g ≡ ks
  leaves_are_tokens = theorems.leaves_in_order (checked_of offered)

  pub mixture_blamed : (ks : List ℕ) (q : ℕ) → suc q < length ks → Mixed (kind_at ks q) (kind_at ks (suc q)) →
      Begins E ks (suc q) → Blame E ks (suc q)
  mixture_blamed = mixtures.mixture_blamed offered

  -- Each text has a meaning, and one alone: so `Answered` says one reply, and each number of each table, for every call.

  pub some_meaning : (text : List ℕ) → (s : TextSense) × TextMeans E text s
  some_meaning = some_text_sense (checked_of offered)

  pub one_meaning : (text : List ℕ) (s s' : TextSense) → TextMeans E text s → TextMeans E text s' → s' ≡ s
  one_meaning = one_text_sense (checked_of offered)

  -- The whole reader.

  module _ (text : List ℕ) {table tree : List ℕ} {setting : ℕ} {r : Reply} {table' tree' : List ℕ}
      (a : Answered E text table tree setting r table' tree') where
    -- Demand 1. A bad call is answered 1 and changes nothing, and reply 1 is given to no other
    pub bad_call : good_call (length text) setting ≡ false → (r ≡ rows.outside_limits) × ((table' ≡ table) × (tree' ≡ tree))
    bad_call = a.outside

    pub bad_call_alone : r.number ≡ 1 → good_call (length text) setting ≡ false
    bad_call_alone = demand_1.bad_call_alone (checked_of offered) text table tree setting a

    -- every later refusal zeroes both tables throughout, and there is none after 9
    pub refusal_zeroes : 2 ≤ r.number → (r.number ≤ 9) × ((table' ≡ zeroed table) × (tree' ≡ zeroed tree))
    refusal_zeroes = demand_1.refusal_zeroes (checked_of offered) text table tree setting a

    -- Demand 2. A good call, whatever was lent:
    module _ (good : good_call (length text) setting ≡ true) where
      -- what is accepted splits into lexemes, is derived, and stands in the tables
      pub accepted_only : r.number ≡ 0 → Accepted E text table tree setting r table' tree'
      accepted_only = demand_2.accepted_only (checked_of offered) text a good

      -- a refusal from 2 to 5 is the row of the text's first fault, and a text that has one gets no other
      pub fault_only : 2 ≤ r.number → r.number ≤ 5 → Faulted text r
      fault_only = demand_2.fault_only (checked_of offered) text a good

      pub fault_always : (f : Fault) → tokens_of text ≡ fault f → r ≡ row f
      fault_always = demand_2.fault_always (checked_of offered) text a good

      -- Request A3: reply 5 names the one keyword that the word at its place differs from in case alone
      pub keyword_named : r.number ≡ 5 → KeywordNamed text r
      keyword_named z = other_case.keyword_named text (fault_only (omega arith) (omega arith)) z

      -- what a grammar refusal names is the first token after which no continuation could be legal, or the end
      pub blamed_only : r.number ≡ 7 → Blamed E text table setting r
      blamed_only = demand_2.blamed_only (checked_of offered) text a good

      module _ (ts : List (List ℕ)) (splits : tokens_of text ≡ tokens ts) (tokens_fit : length ts ≤ capacity token_width table) where
        -- with room and depth enough, what is derived is accepted
        pub accepted_always : (g : Forest) → Derivation E (map kind ts) g → length (tree_records E g) ≤ capacity node_width tree →
            Within (kind_at (map kind ts)) setting 0 (length (map kind ts)) → r.number ≡ 0
        accepted_always = demand_2.accepted_always (checked_of offered) text a good ts splits tokens_fit

        -- a place of blame is named, with room, and depth enough before it
        pub blamed_always : (q : ℕ) → Blame E (map kind ts) q → Within (kind_at (map kind ts)) setting 0 q →
            r ≡ rows.grammar (place (length text) ts q) (length ts)
        blamed_always = demand_2.blamed_always (checked_of offered) text a good ts splits tokens_fit

  -- Demand 3. Two good calls on one text, the second with a depth setting nowhere smaller:
  module _ (text : List ℕ) {table₁ tree₁ table₂ tree₂ : List ℕ} {setting₁ setting₂ : ℕ} {r₁ r₂ : Reply} {table₁' tree₁' table₂' tree₂' : List ℕ}
      (a : Answered E text table₁ tree₁ setting₁ r₁ table₁' tree₁') (b : Answered E text table₂ tree₂ setting₂ r₂ table₂' tree₂')
      (good₁ : good_call (length text) setting₁ ≡ true) (good₂ : good_call (length text) setting₂ ≡ true) (deeper : setting₁ ≤ setting₂) where
    -- with tables nowhere smaller, acceptance and blame stay, and a mark refused for its depth, and any before it, is not blamed
    pub larger_call : capacity token_width table₁ ≤ capacity token_width table₂ → capacity node_width tree₁ ≤ capacity node_width tree₂ →
        Kept r₁ r₂ table₁' table₂' tree₁' tree₂'
    larger_call = demand_3.larger_call (checked_of offered) text a b good₁ good₂ deeper

    -- A call that differs only in that table: a full token table is refused again exactly when it holds fewer records than the count named,
    -- whatever tree table is lent,
    pub full_token_table : r₁.number ≡ 6 → Again r₁.tokens (capacity token_width table₂) r₁ r₂
    full_token_table = demand_3.full_token_table (checked_of offered) text a b good₁ good₂ deeper

    -- and a full tree table likewise, where the token table is nowhere smaller; with the count named the text is accepted
    pub full_tree_table : capacity token_width table₁ ≤ capacity token_width table₂ → r₁.number ≡ 9 →
        Again r₁.records (capacity node_width tree₂) r₁ r₂
    full_tree_table = demand_3.full_tree_table (checked_of offered) text a b good₁ good₂ deeper

    pub room_enough : capacity token_width table₁ ≤ capacity token_width table₂ → r₁.number ≡ 9 → r₁.records ≤ capacity node_width tree₂ →
        r₂.number ≡ 0
    room_enough = demand_3.room_enough (checked_of offered) text a b good₁ good₂ deeper

  -- The tree part called alone.

  module _ (table : List ℕ) (count text : ℕ) {tree : List ℕ} {setting : ℕ} {r : Reply} {tree' : List ℕ}
      (a : TreeAnswered E table count text tree setting r tree') where
    -- Demand 1. The same, of the table that it writes
    pub bad_tree_call : good_tree_call table count text setting ≡ false → (r ≡ rows.outside_limits) × (tree' ≡ tree)
    bad_tree_call = a.outside

    pub bad_tree_call_alone : r.number ≡ 1 → good_tree_call table count text setting ≡ false
    bad_tree_call_alone = demand_1.bad_tree_call_alone (checked_of offered) table count text tree setting a

    pub tree_refusal_zeroes : 2 ≤ r.number → ((7 ≤ r.number) × (r.number ≤ 9)) × (tree' ≡ zeroed tree)
    tree_refusal_zeroes = demand_1.tree_refusal_zeroes (checked_of offered) table count text tree setting a

    -- Demand 2. A good call, on the list of its token records
    module _ (good : good_tree_call table count text setting ≡ true) where
      abbrev list : List (List ℕ)
      list = first_records token_width count table

      pub tree_accepted_only : r.number ≡ 0 → TreeAccepted E text list tree setting r tree'
      tree_accepted_only = demand_2.tree_accepted_only (checked_of offered) table count text a good

      pub tree_accepted_always : (g : Forest) → Derivation E (map kind list) g → length (tree_records E g) ≤ capacity node_width tree →
          Within (kind_at (map kind list)) setting 0 (length (map kind list)) → r.number ≡ 0
      tree_accepted_always = demand_2.tree_accepted_always (checked_of offered) table count text a good

      pub tree_blamed_only : r.number ≡ 7 → TreeBlamed E text list setting r
      tree_blamed_only = demand_2.tree_blamed_only (checked_of offered) table count text a good

      pub tree_blamed_always : (q : ℕ) → Blame E (map kind list) q → Within (kind_at (map kind list)) setting 0 q →
          r ≡ rows.grammar (place text list q) (length list)
      tree_blamed_always = demand_2.tree_blamed_always (checked_of offered) table count text a good

  -- Demand 3. Two good calls on token tables that agree up to the count, the second with a depth setting nowhere smaller:
  module _ {table₁ table₂ : List ℕ} (count text : ℕ) {tree₁ tree₂ : List ℕ} {setting₁ setting₂ : ℕ} {r₁ r₂ : Reply} {tree₁' tree₂' : List ℕ}
      (a : TreeAnswered E table₁ count text tree₁ setting₁ r₁ tree₁') (b : TreeAnswered E table₂ count text tree₂ setting₂ r₂ tree₂')
      (good₁ : good_tree_call table₁ count text setting₁ ≡ true) (good₂ : good_tree_call table₂ count text setting₂ ≡ true)
      (one_text : first_records token_width count table₁ ≡ first_records token_width count table₂) (deeper : setting₁ ≤ setting₂) where
    -- a tree table nowhere smaller; the verdicts are those of the tokens' meaning
    pub larger_tree_call : capacity node_width tree₁ ≤ capacity node_width tree₂ →
        let list = first_records token_width count table₁ in
        (s : Sense) → Means E (map kind list) s →
        TreeKept text list (verdict setting₁ (capacity node_width tree₁) (map kind list) s)
        (verdict setting₂ (capacity node_width tree₂) (map kind list) s) r₁ r₂ tree₁' tree₂'
    larger_tree_call = tree_part.larger_tree_call (checked_of offered) count text a b good₁ good₂ one_text deeper

    -- a tree table of any size
    pub full_table : r₁.number ≡ 9 → Again r₁.records (capacity node_width tree₂) r₁ r₂
    full_table = tree_part.full_table (checked_of offered) count text a b good₁ good₂ one_text deeper

-- The starred sample texts, in edition 1: each row holds of every meaning of its text.

pub starred_samples : All Holds starred
starred_samples = starred_hold

-- Request A2, of edition 1. A word is compared in full in one place of the code, `Row::compare` of the crate words: it asks, and so it is proved at each
-- call, that the keyword is near the word and that fewer than three comparisons are counted, and counts one more. `words::search` is proved to answer
-- `sorted-among` and to end with the count `comparisons`, of the keywords near the word. That nothing else compares or sets the count is seen in
-- crates/words/src: in keywords.rt, where `Row::compare` is, and in lib.rt, which calls it.

module _ (w : List ℕ) where
  -- the keywords near a word are keywords, with its length and, case aside, its first letter;
  pub near_keyword : (j : ℕ) → j < length (near_keywords w) →
      let v = bytes (get_or (near_keywords w) j "") in
      (0 < keyword v) × ((length w ≡ length v) × (lower (at w 0) ≡ lower (at v 0)))
  near_keyword = words.near_keyword w

  -- they are never more than three,
  pub few_near : length (near_keywords w) ≤ most_near
  few_near = words.few w

  -- and they are enough: the answer is that of the definition, which goes through all keywords
  pub near_enough : sorted_among w (near_keywords w) ≡ sorted w (length w)
  near_enough = words.near_enough w

  -- so there are at most three comparisons, and none where no keyword has the word's length
  pub few_comparisons : comparisons w (near_keywords w) ≤ most_near
  few_comparisons = words.few_comparisons w

  pub no_comparison : ((k : ℕ) → k < length keywords → length w ≡ length (nth_keyword k) → ⊥) → comparisons w (near_keywords w) ≡ 0
  no_comparison = words.no_comparison w

-- Request A3, of the token part, which is proved to answer `token-reply`: reply 5 names the keyword, as in the whole reader.

pub token_keyword_named : (text table : List ℕ) → (token_reply text table).number ≡ 5 → KeywordNamed text (token_reply text table)
token_keyword_named = other_case.token_keyword_named

-- Request A7, of every text, and so of the whole reader and the token part.

module _ (text : List ℕ) where
  -- where it splits into lexemes, each byte of a character or string literal is from 32 to 126;
  pub literals_printable : (ts : List (List ℕ)) → tokens_of text ≡ tokens ts → (i : ℕ) → i < length ts → LiteralPrintable text (get_or ts i [])
  literals_printable = literals.literals_printable text

  -- where its first fault is at the start of a literal, and any other byte stands behind that in the same line, it is reply 4 there
  pub other_byte_bad : (f : Fault) → tokens_of text ≡ fault f → OtherByte text (row f).place → row f ≡ rows.bad_literal (row f).place
  other_byte_bad = literals.other_byte_bad text
