-- What another call on the same text finds, its depth setting nowhere smaller and its tables of any size. Statements about verdicts alone.
-- Each goes by the cases of the meaning; a larger setting never brings the first mark that is too deep forward.
use Prim.Native.Nat.{ℕ, ◌≤◌, ◌<◌}
use mathlib.Core.Path.{◌≡◌, refl}
use mathlib.Core.Bool.{Bool, true, false, not, cond}
use mathlib.Core.List.{List, map}
use native.Mathlib.Omega.{arith}
use lib.Dec.{T, ltb, ltb→lt, nltb→le}
use lib.ListN.{length}
use Rattle.grammar.specs.Derivation.{kind_at}
use Rattle.meaning.specs.Deep.{first_too_deep}
use Rattle.meaning.specs.Sense.{Sense, blamed, derived, TextSense, faulty, read, kind}
use Rattle.meaning.specs.Verdict.{Verdict, grammar, deep, full, accepted, fitted, judged, verdict}
use Rattle.meaning.specs.Verdict.{TextVerdict, fault, full_tokens, judgement, tokens_fitted, text_verdict}
use Rattle.meaning.proofs.Deep.{first_grows}

-- how the second verdict v' follows from the first: blame stays; derived records are accepted or not by the room alone; a mark that was
-- too deep, and any before it, is not blamed
unfoldable pub Follows : (room' : ℕ) → Verdict → Verdict → Type 0
Follows room' (accepted rs) v' = v' ≡ fitted room' rs
Follows room' (full r) v' = (rs : List (List ℕ)) × ((length rs ≡ r) × (v' ≡ fitted room' rs))
Follows room' (grammar q) v' = v' ≡ grammar q
Follows room' (deep p) v' = (q : ℕ) → v' ≡ grammar q → p < q

-- records that are derived are not blamed
not_blamed : (room q : ℕ) (rs : List (List ℕ)) → fitted room rs ≡ grammar q → ⊥
not_blamed room q rs = go (ltb room (length rs))
  where
    go : (x : Bool) → cond x (full (length rs)) (accepted rs) ≡ grammar q → ⊥
    go true e = let z : ◌≡◌ {A = ℕ} 0 1 = cc in omega arith
    go false e = let z : ◌≡◌ {A = ℕ} 0 1 = cc in omega arith

judged_follows : (p p' t room room' : ℕ) (sense : Sense) → p ≤ p' → Follows room' (judged p t room sense) (judged p' t room' sense)
unfolding judged Follows
judged_follows p p' t room room' (blamed q) h = go (ltb p q) (ltb p' q) (ltb→lt p q) (ltb→lt p' q) (nltb→le p q)
  where
    go : (x y : Bool) → (T x → p < q) → (T y → p' < q) → (T (not x) → q ≤ p) →
        Follows room' (cond x (deep p) (grammar q)) (cond y (deep p') (grammar q))
    go true true a b c = λ n e. let z : ◌≡◌ {A = ℕ} 0 1 = cc in absurd (omega arith)
    go true false a b c = λ n e. let z : q ≡ n = cc in omega (arith, a tt)
    go false true a b c = absurd (omega (arith, b tt, c tt))
    go false false a b c = refl
judged_follows p p' t room room' (derived rs) h = go (ltb p t) (ltb p' t) (ltb room (length rs)) (ltb→lt p' t) (nltb→le p t)
  where
    go : (x y z : Bool) → (T y → p' < t) → (T (not x) → t ≤ p) →
        Follows room' (cond x (deep p) (cond z (full (length rs)) (accepted rs))) (cond y (deep p') (fitted room' rs))
    go true true z a b = λ n e. let o : ◌≡◌ {A = ℕ} 0 1 = cc in absurd (omega arith)
    go true false z a b = λ n e. absurd (not_blamed room' n rs e)
    go false true z a b = absurd (omega (arith, a tt, b tt))
    go false false true a b = (rs, (refl, refl))
    go false false false a b = refl

-- the tree part
pub verdict_follows : (setting setting' room room' : ℕ) (kinds : List ℕ) (sense : Sense) → setting ≤ setting' →
    Follows room' (verdict setting room kinds sense) (verdict setting' room' kinds sense)
unfolding verdict
verdict_follows setting setting' room room' kinds sense h =
    judged_follows (first_too_deep setting (kind_at kinds) (length kinds)) (first_too_deep setting' (kind_at kinds) (length kinds))
    (length kinds) room room' sense (first_grows setting setting' (kind_at kinds) (length kinds) h)

-- the whole reader: a fault stays, and tokens are judged or not by the room alone
unfoldable pub TextFollows : (token_room' tree_room' : ℕ) → TextVerdict → TextVerdict → Type 0
unfolding Follows
TextFollows token_room' tree_room' (fault f) v' = v' ≡ fault f
TextFollows token_room' tree_room' (full_tokens t) v' =
    (ts : List (List ℕ)) × (w : Verdict) × ((length ts ≡ t) × (v' ≡ tokens_fitted token_room' ts w))
TextFollows token_room' tree_room' (judgement ts v) v' = (w : Verdict) × ((v' ≡ tokens_fitted token_room' ts w) × Follows tree_room' v w)

pub text_verdict_follows : (setting setting' token_room token_room' tree_room tree_room' : ℕ) (sense : TextSense) → setting ≤ setting' →
    TextFollows token_room' tree_room' (text_verdict setting token_room tree_room sense) (text_verdict setting' token_room' tree_room' sense)
unfolding text_verdict TextFollows
text_verdict_follows setting setting' token_room token_room' tree_room tree_room' (faulty f) h = refl
text_verdict_follows setting setting' token_room token_room' tree_room tree_room' (read ts sense) h = go (ltb token_room (length ts))
  where
    v : Verdict
    v = verdict setting tree_room (map kind ts) sense

    v' : Verdict
    v' = verdict setting' tree_room' (map kind ts) sense

    go : (x : Bool) → TextFollows token_room' tree_room' (cond x (full_tokens (length ts)) (judgement ts v)) (tokens_fitted token_room' ts v')
    go true = (ts, v', (refl, refl))
    go false = (v', (refl, verdict_follows setting setting' tree_room tree_room' (map kind ts) sense h))
