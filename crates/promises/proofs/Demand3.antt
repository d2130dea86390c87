-- Demand 3 of anything that answers as promised: how a second good call on a text follows from a first.
-- Both answer for the one meaning of the text; how the second verdict follows from the first is a law of verdicts.
use Prim.Native.Nat.{ℕ, ◌*◌, ◌≤◌, ◌<◌}
use mathlib.Core.Path.{◌≡◌, refl, ap, sym, ◌∙◌, subst}
use mathlib.Core.Logic.{◌⊎◌, inl, inr}
use mathlib.Core.Bool.{Bool, true, false, not, cond}
use mathlib.Core.List.{List}
use native.Mathlib.Omega.{arith}
use native.Mathlib.Nat.{mul-zero, mul-suc}
use lib.Dec.{T, ltb, ltb→lt, nltb→le}
use lib.ListN.{length, take, length-map, length-append}
use lib.Seq.{take_at}
use Rattle.grammar.specs.Rule.{Edition}
use Rattle.limits.specs.Limits.{good_call}
use Rattle.replies.specs.declared.Reply.{Reply}
use Rattle.tables.specs.Tables.{capacity, row, front, Records, none, more, token_width, node_width}
use Rattle.text.specs.Tokens.{tokens, tokens_of}
use Rattle.tokens.proofs.Order.{tokens_records}
use Rattle.meaning.specs.Sense.{kind}
use Rattle.meaning.specs.Verdict as verdict
use Rattle.meaning.specs.Verdict.{Verdict, fitted, TextVerdict, fault, full_tokens, judgement}
use Rattle.meaning.specs.Answer.{tree_reply, text_reply, tokens_kept, tree_after, text_tokens_after, text_tree_after}
use Rattle.meaning.specs.Calls.{Answered}
use Rattle.meaning.proofs.Laws.{fault_range, room_judged, room_accepted}
use Rattle.meaning.proofs.SecondCall.{Follows, TextFollows, text_verdict_follows}
use Rattle.prediction.specs.validator.Check.{Checked}
use Rattle.meaning.proofs.OneMeaning.{some_text_sense}
use Rattle.promises.specs.Demands.{Blames, Kept, Again}
use Rattle.promises.proofs.Places.{places_grow}
use Rattle.promises.proofs.Soundness.{SoundTree, Sound, tree_wide, found, found_sound, answers_found}

length_row : (width : ℕ) {rs : List (List ℕ)} → Records width rs → length (row rs) ≡ width * length rs
unfolding row
length_row width none = sym (mul-zero width)
length_row width (more {r} {rs} e q) =
    length-append r (row rs) ∙ omega (arith, e, length_row width q, mul-suc width (length rs))

-- the records at the front do not depend on what stood there before
pub same_front : (width : ℕ) {rs : List (List ℕ)} (a b : List ℕ) → Records width rs →
    take (width * length rs) (front width rs a) ≡ take (width * length rs) (front width rs b)
same_front width {rs} a b q =
    take_at (row rs) _ (width * length rs) (length_row width q) ∙ sym (take_at (row rs) _ (width * length rs) (length_row width q))

not_blamed : (n : ℕ) → (n ≡ 0) ⊎ ((n ≡ 6) ⊎ ((n ≡ 8) ⊎ (n ≡ 9))) → Blames n → ⊥
unfolding Blames
not_blamed n (inl e) (inl h) = omega (arith, h.0)
not_blamed n (inr (inl e)) (inl h) = omega (arith, h.1)
not_blamed n (inr (inr (inl e))) (inl h) = omega (arith, h.1)
not_blamed n (inr (inr (inr e))) (inl h) = omega (arith, h.1)
not_blamed n (inl e) (inr h) = omega arith
not_blamed n (inr (inl e)) (inr h) = omega arith
not_blamed n (inr (inr (inl e))) (inr h) = omega arith
not_blamed n (inr (inr (inr e))) (inr h) = omega arith

-- the tree part does not answer 6
tree_number : (text : ℕ) (ts : List (List ℕ)) (v : Verdict) → (tree_reply text ts v).number ≡ 6 → ⊥
unfolding tree_reply
tree_number text ts (verdict.grammar q) e = omega arith
tree_number text ts (verdict.deep q) e = omega arith
tree_number text ts (verdict.full r) e = omega arith
tree_number text ts (verdict.accepted rs) e = omega arith

-- a reply of the tree part that blames the text names the place of its token
tree_blames : (text : ℕ) (ts : List (List ℕ)) (v : Verdict) → Blames (tree_reply text ts v).number → (q : ℕ) × (v ≡ verdict.grammar q)
unfolding tree_reply
tree_blames text ts (verdict.grammar q) h = (q, refl)
tree_blames text ts (verdict.deep q) h = absurd (not_blamed 8 (inr (inr (inl refl))) h)
tree_blames text ts (verdict.full r) h = absurd (not_blamed 9 (inr (inr (inr refl))) h)
tree_blames text ts (verdict.accepted rs) h = absurd (not_blamed 0 (inl refl) h)

-- Depth and tables nowhere smaller.

module _ (text tokens₁ tokens₂ tree₁ tree₂ : List ℕ) where
  After : TextVerdict → TextVerdict → Type 0
  After v v' =
      Kept (text_reply (length text) v) (text_reply (length text) v') (text_tokens_after v tokens₁) (text_tokens_after v' tokens₂)
      (text_tree_after v tree₁) (text_tree_after v' tree₂)

  -- a fault, or a place of blame: the same verdict again
  same_blame : (v v' : TextVerdict) → v' ≡ v → Blames (text_reply (length text) v).number → After v v'
  unfolding After
  same_blame v v' e h = record {
    acceptance = λ z. absurd (not_blamed _ (inl z) h);
    blame = λ b. ap (text_reply (length text)) e;
    depth = λ z. absurd (not_blamed _ (inr (inr (inl z))) h);
  }

  -- a full table: nothing is kept
  full_after : (v v' : TextVerdict) → ((text_reply (length text) v).number ≡ 6) ⊎ ((text_reply (length text) v).number ≡ 9) → After v v'
  unfolding After
  full_after v v' (inl e) = record {
    acceptance = λ z. absurd (omega arith);
    blame = λ b. absurd (not_blamed _ (inr (inl e)) b);
    depth = λ z. absurd (omega arith);
  }
  full_after v v' (inr e) = record {
    acceptance = λ z. absurd (omega arith);
    blame = λ b. absurd (not_blamed _ (inr (inr (inr e))) b);
    depth = λ z. absurd (omega arith);
  }

  accepted_after : (ts rs : List (List ℕ)) (v' : TextVerdict) → tokens_of text ≡ tokens ts → Records node_width rs →
      v' ≡ judgement ts (verdict.accepted rs) → After (judgement ts (verdict.accepted rs)) v'
  unfolding After text_reply tree_reply text_tokens_after tokens_kept text_tree_after tree_after
  accepted_after ts rs v' t q e = rw e (record {
    acceptance = λ z. (refl, (same_front token_width tokens₂ tokens₁ (tokens_records text t), same_front node_width tree₂ tree₁ q));
    blame = λ b. refl;
    depth = λ z. absurd (omega arith);
  })

  -- a mark too deep: a token that is blamed later stands behind it, and so does its place
  deep_after : (ts : List (List ℕ)) (p : ℕ) (w : Verdict) (v' : TextVerdict) → tokens_of text ≡ tokens ts →
      ((q : ℕ) → w ≡ verdict.grammar q → q ≤ length ts) → v' ≡ judgement ts w →
      ((q : ℕ) → w ≡ verdict.grammar q → p < q) → After (judgement ts (verdict.deep p)) v'
  unfolding After text_reply tree_reply
  deep_after ts p w v' t inside e f = record {
    acceptance = λ z. absurd (omega arith);
    blame = λ b. absurd (not_blamed 8 (inr (inr (inl refl))) b);
    depth = λ z b.
        let x = tree_blames (length text) ts w (subst (λ (y : TextVerdict). Blames (text_reply (length text) y).number) e b) in
        rw (e ∙ ap (judgement ts) x.1) (omega (arith, places_grow text ts t p x.0 (f x.0 x.1) (inside x.0 x.1)));
  }

  module _ (E : Edition) (setting setting' : ℕ)
      (more_tokens : capacity token_width tokens₁ ≤ capacity token_width tokens₂) (more_tree : capacity node_width tree₁ ≤ capacity node_width tree₂) where
    kept : (v v' : TextVerdict) → Sound E text setting (capacity token_width tokens₁) (capacity node_width tree₁) v →
        Sound E text setting' (capacity token_width tokens₂) (capacity node_width tree₂) v' →
        TextFollows (capacity token_width tokens₂) (capacity node_width tree₂) v v' → After v v'
    unfolding Sound SoundTree TextFollows Follows text_reply tree_reply Blames
    kept (fault x) v' s s' f = same_blame (fault x) v' f (inl (fault_range x))
    kept (full_tokens t) v' s s' f = full_after (full_tokens t) v' (inl refl)
    kept (judgement ts (verdict.full r)) v' s s' f = full_after (judgement ts (verdict.full r)) v' (inr refl)
    kept (judgement ts (verdict.grammar q)) v' s s' (w, (e, f)) =
        same_blame (judgement ts (verdict.grammar q)) v' (e ∙ room_judged _ ts w (omega (arith, s.1.0)) ∙ ap (judgement ts) f) (inr refl)
    kept (judgement ts (verdict.accepted rs)) v' s s' (w, (e, f)) =
        let g = e ∙ room_judged _ ts w (omega (arith, s.1.0)) in
        accepted_after ts rs v' s.0 (tree_wide s.1.1)
        (g ∙ ap (judgement ts) (f ∙ room_accepted _ rs (omega (arith, s.1.1.fit))))
    kept (judgement ts (verdict.deep p)) v' s s' (w, (e, f)) =
        let g = e ∙ room_judged _ ts w (omega (arith, s.1.0)) in
        deep_after ts p w v' s.0 (λ q i. inside q (g ∙ ap (judgement ts) i)) g f
      where
        inside : (q : ℕ) → v' ≡ judgement ts (verdict.grammar q) → q ≤ length ts
        inside q i =
            let b = subst (λ (x : TextVerdict). Sound E text setting' (capacity token_width tokens₂) (capacity node_width tree₂) x) i s' in
            omega (arith, b.1.1.0.within, length-map ts kind)

-- Full tables: the refusal again exactly where the second table holds fewer records than the count named, larger or smaller.

-- the tree part's
module _ (text : ℕ) (ts : List (List ℕ)) (room' : ℕ) where
  fitted_again : (rs : List (List ℕ)) → (room' < length rs → fitted room' rs ≡ verdict.full (length rs))
      × ((tree_reply text ts (fitted room' rs)).number ≡ 9 → room' < length rs)
  unfolding tree_reply
  fitted_again rs = go (ltb room' (length rs)) (ltb→lt room' (length rs)) (nltb→le room' (length rs))
    where
      go : (x : Bool) → (T x → room' < length rs) → (T (not x) → length rs ≤ room') →
          (room' < length rs → cond x (verdict.full (length rs)) (verdict.accepted rs) ≡ verdict.full (length rs))
          × ((tree_reply text ts (cond x (verdict.full (length rs)) (verdict.accepted rs))).number ≡ 9 → room' < length rs)
      go true a b = (λ h. refl, λ z. a tt)
      go false a b = (λ h. absurd (omega (arith, b tt)), λ z. absurd (omega arith))

  pub records_again : (v w : Verdict) → Follows room' v w → (tree_reply text ts v).number ≡ 9 →
      Again (tree_reply text ts v).records room' (tree_reply text ts v) (tree_reply text ts w)
  unfolding Follows tree_reply
  records_again (verdict.grammar q) w f z = absurd (omega arith)
  records_again (verdict.deep p) w f z = absurd (omega arith)
  records_again (verdict.accepted rs) w f z = absurd (omega arith)
  records_again (verdict.full r) w (rs, (e, f)) z =
      let g = fitted_again rs in
      record {
        below = λ h. ap (tree_reply text ts) (f ∙ g.0 (omega arith) ∙ ap verdict.full e);
        only_below = λ y. let l = g.1 (sym (ap (λ (x : Verdict). (tree_reply text ts x).number) f) ∙ y) in omega arith;
      }

  -- and with the room named it is accepted
  pub records_enough : (v w : Verdict) → Follows room' v w → (tree_reply text ts v).number ≡ 9 → (tree_reply text ts v).records ≤ room' →
      (tree_reply text ts w).number ≡ 0
  unfolding Follows tree_reply
  records_enough (verdict.grammar q) w f z h = absurd (omega arith)
  records_enough (verdict.deep p) w f z h = absurd (omega arith)
  records_enough (verdict.accepted rs) w f z h = absurd (omega arith)
  records_enough (verdict.full r) w (rs, (e, f)) z h =
      ap (λ (x : Verdict). (tree_reply text ts x).number) (f ∙ room_accepted room' rs (omega arith))

-- the whole reader's token table
tokens_again : (text c' k' : ℕ) (v v' : TextVerdict) → TextFollows c' k' v v' → (text_reply text v).number ≡ 6 →
    Again (text_reply text v).tokens c' (text_reply text v) (text_reply text v')
unfolding TextFollows text_reply
tokens_again text c' k' (fault x) v' f z = absurd (omega (arith, (fault_range x).1))
tokens_again text c' k' (judgement ts v) v' f z = absurd (tree_number text ts v z)
tokens_again text c' k' (full_tokens t) v' (ts, w, (e, f)) z =
    go (ltb c' (length ts)) f (ltb→lt c' (length ts)) (nltb→le c' (length ts))
  where
    go : (x : Bool) → v' ≡ cond x (full_tokens (length ts)) (judgement ts w) → (T x → c' < length ts) → (T (not x) → length ts ≤ c') →
        Again t c' (text_reply text (full_tokens t)) (text_reply text v')
    go true g a b = record {
      below = λ h. ap (text_reply text) (g ∙ ap full_tokens e);
      only_below = λ y. omega (arith, a tt);
    }
    go false g a b = record {
      below = λ h. absurd (omega (arith, b tt));
      only_below = λ y. absurd (tree_number text ts w (sym (ap (λ (x : TextVerdict). (text_reply text x).number) g) ∙ y));
    }

-- the whole reader's tree table, where the tokens have room
module _ (E : Edition) (text : List ℕ) (setting c c' k k' : ℕ) (more_tokens : c ≤ c') where
  tree_again : (v v' : TextVerdict) → Sound E text setting c k v → TextFollows c' k' v v' → (text_reply (length text) v).number ≡ 9 →
      Again (text_reply (length text) v).records k' (text_reply (length text) v) (text_reply (length text) v')
  unfolding Sound TextFollows text_reply
  tree_again (fault x) v' s f z = absurd (omega (arith, (fault_range x).1))
  tree_again (full_tokens t) v' s f z = absurd (omega arith)
  tree_again (judgement ts v) v' s (w, (e, f)) z =
      rw (e ∙ room_judged c' ts w (omega (arith, s.1.0))) (records_again (length text) ts k' v w f z)

  tree_enough : (v v' : TextVerdict) → Sound E text setting c k v → TextFollows c' k' v v' → (text_reply (length text) v).number ≡ 9 →
      (text_reply (length text) v).records ≤ k' → (text_reply (length text) v').number ≡ 0
  unfolding Sound TextFollows text_reply
  tree_enough (fault x) v' s f z h = absurd (omega (arith, (fault_range x).1))
  tree_enough (full_tokens t) v' s f z h = absurd (omega arith)
  tree_enough (judgement ts v) v' s (w, (e, f)) z h =
      rw (e ∙ room_judged c' ts w (omega (arith, s.1.0))) (records_enough (length text) ts k' v w f z h)

-- Two good calls on one text, the second with a depth setting nowhere smaller.
module _ {E : Edition} (c : Checked E) (text : List ℕ) {tokens₁ tree₁ tokens₂ tree₂ : List ℕ} {setting₁ setting₂ : ℕ} {r₁ r₂ : Reply}
    {tokens₁' tree₁' tokens₂' tree₂' : List ℕ}
    (a : Answered E text tokens₁ tree₁ setting₁ r₁ tokens₁' tree₁') (b : Answered E text tokens₂ tree₂ setting₂ r₂ tokens₂' tree₂')
    (g : good_call (length text) setting₁ ≡ true) (h : good_call (length text) setting₂ ≡ true) (deeper : setting₁ ≤ setting₂) where
  follows : TextFollows (capacity token_width tokens₂) (capacity node_width tree₂) (found c text setting₁ tokens₁ tree₁) (found c text setting₂ tokens₂ tree₂)
  unfolding found
  follows =
      text_verdict_follows setting₁ setting₂ (capacity token_width tokens₁) (capacity token_width tokens₂) (capacity node_width tree₁)
      (capacity node_width tree₂) (some_text_sense c text).0 deeper

  numbered : (n : ℕ) → r₁.number ≡ n → (text_reply (length text) (found c text setting₁ tokens₁ tree₁)).number ≡ n
  numbered n z = sym (ap (λ (x : Reply). x.number) (answers_found c text setting₁ tokens₁ tree₁ a g).0) ∙ z

  -- the token table is full
  pub full_token_table : r₁.number ≡ 6 → Again r₁.tokens (capacity token_width tokens₂) r₁ r₂
  full_token_table z =
      let again = tokens_again (length text) (capacity token_width tokens₂) (capacity node_width tree₂) _ _ follows (numbered 6 z) in
      rw ((answers_found c text setting₁ tokens₁ tree₁ a g).0, (answers_found c text setting₂ tokens₂ tree₂ b h).0) again

  module _ (more_tokens : capacity token_width tokens₁ ≤ capacity token_width tokens₂) where
    -- the tree table is full
    pub full_tree_table : r₁.number ≡ 9 → Again r₁.records (capacity node_width tree₂) r₁ r₂
    full_tree_table z =
        let again =
        tree_again E text setting₁ (capacity token_width tokens₁) (capacity token_width tokens₂) (capacity node_width tree₁)
        (capacity node_width tree₂) more_tokens _ _ (found_sound c text setting₁ tokens₁ tree₁) follows (numbered 9 z) in
        rw ((answers_found c text setting₁ tokens₁ tree₁ a g).0, (answers_found c text setting₂ tokens₂ tree₂ b h).0) again

    -- and has room for the count named
    pub room_enough : r₁.number ≡ 9 → r₁.records ≤ capacity node_width tree₂ → r₂.number ≡ 0
    room_enough z =
        let enough =
        tree_enough E text setting₁ (capacity token_width tokens₁) (capacity token_width tokens₂) (capacity node_width tree₁)
        (capacity node_width tree₂) more_tokens _ _ (found_sound c text setting₁ tokens₁ tree₁) follows (numbered 9 z) in
        rw ((answers_found c text setting₁ tokens₁ tree₁ a g).0, (answers_found c text setting₂ tokens₂ tree₂ b h).0) enough

    -- tables nowhere smaller
    pub larger_call : capacity node_width tree₁ ≤ capacity node_width tree₂ → Kept r₁ r₂ tokens₁' tokens₂' tree₁' tree₂'
    unfolding After
    larger_call more_tree =
        let x = answers_found c text setting₁ tokens₁ tree₁ a g in
        let y = answers_found c text setting₂ tokens₂ tree₂ b h in
        rw (x.0, x.1.0, x.1.1, y.0, y.1.0, y.1.1)
        (kept text tokens₁ tokens₂ tree₁ tree₂ E setting₁ setting₂ more_tokens more_tree _ _ (found_sound c text setting₁ tokens₁ tree₁)
        (found_sound c text setting₂ tokens₂ tree₂) follows)
