-- A list filtered from a place on: empty where all fail, the same behind some that fail, one more where one passes. What all pass, the filtered pass.
-- By induction on the list. Assumes nothing.
use mathlib.Core.Path.{◌≡◌, refl}
use mathlib.Core.Bool.{Bool, true, false}
use mathlib.Core.List.{List, [], ◌∷◌}
use Prim.Native.Nat.{ℕ, zero, suc, ◌≤◌, ◌<◌}
use Prim.Native.String.{String}
use native.Mathlib.Omega.{arith}
use lib.ListN.{length, get_or, drop}
use lib.Seq.{drop-cons}
use Rattle.kinds.specs.Kinds.{bytes}
use Rattle.words.specs.Search.{filter}
use Rattle.words.proofs.Spellings.{either}

pub filter_none : (test : List ℕ → Bool) (vs : List String) →
    ((j : ℕ) → j < length vs → test (bytes (get_or vs j "")) ≡ false) → filter test vs ≡ []
unfolding filter
filter_none test [] none = refl
filter_none test (v ∷ vs) none = rw (none 0 (omega arith)) (filter_none test vs (λ j h. none (suc j) (omega arith)))

pub filter_behind : (test : List ℕ → Bool) (vs : List String) (i r : ℕ) → i ≤ r →
    ((j : ℕ) → i ≤ j → j < r → j < length vs → test (bytes (get_or vs j "")) ≡ false) → filter test (drop i vs) ≡ filter test (drop r vs)
unfolding filter
filter_behind test vs zero zero h none = refl
filter_behind test [] zero (suc r) h none = refl
filter_behind test (v ∷ vs) zero (suc r) h none =
    rw (none 0 (omega arith) (omega arith) (omega arith))
    (filter_behind test vs zero r (omega arith) (λ j l b m. none (suc j) (omega arith) (omega arith) (omega arith)))
filter_behind test vs (suc i) zero h none = absurd (omega arith)
filter_behind test [] (suc i) (suc r) h none = refl
filter_behind test (v ∷ vs) (suc i) (suc r) h none =
    filter_behind test vs i r (omega arith) (λ j l b m. none (suc j) (omega arith) (omega arith) (omega arith))

pub filter_from : (test : List ℕ → Bool) (vs : List String) (r : ℕ) → r < length vs → test (bytes (get_or vs r "")) ≡ true →
    filter test (drop r vs) ≡ get_or vs r "" ∷ filter test (drop (suc r) vs)
unfolding filter
filter_from test vs r h e = rw (drop-cons vs r "" h, e)

-- all of the spellings pass a test
abbrev pub Pass : (List ℕ → Bool) → List String → Type 0
Pass test us = (j : ℕ) → j < length us → test (bytes (get_or us j "")) ≡ true

one_more : (test : List ℕ → Bool) (v : String) (us : List String) → test (bytes v) ≡ true → Pass test us → Pass test (v ∷ us)
one_more test v us e pass zero h = e
one_more test v us e pass (suc j) h = pass j (omega arith)

-- the filtered pass the filter, and what all pass
pub filter_pass : (test : List ℕ → Bool) (vs : List String) → Pass test (filter test vs)
unfolding filter
filter_pass test [] = λ j h. absurd (omega arith)
filter_pass test (v ∷ vs) =
    either (test (bytes v)) (λ e. rw e (one_more test v (filter test vs) e (filter_pass test vs))) (λ e. rw e (filter_pass test vs))

pub filter_keep : (test other : List ℕ → Bool) (vs : List String) → Pass other vs → Pass other (filter test vs)
unfolding filter
filter_keep test other [] pass = pass
filter_keep test other (v ∷ vs) pass =
    let more = filter_keep test other vs (λ j h. pass (suc j) (omega arith)) in
    either (test (bytes v)) (λ e. rw e (one_more other v (filter test vs) (pass 0 (omega arith)) more)) (λ e. rw e more)
