-- The keywords stand in byte order of their spelling and have the kinds that the papers give them; the further ones are new.
-- Computed, each as one test over the list.
use mathlib.Core.Path.{◌≡◌, refl}
use mathlib.Core.Bool.{Bool, true, false, ◌&&◌, ◌||◌}
use mathlib.Core.List.{List, [], ◌∷◌}
use Prim.Native.Nat.{ℕ}
use Prim.Native.String.{String}
use lib.Dec.{T, eqb, ltb}
use lib.ListN.{length}
use Rattle.kinds.specs.Kinds.{bytes, keywords, component_keywords, data_only_keywords, keyword, kind_of}
use Rattle.kinds.specs.Kinds.{component_kind_of}

-- one spelling stands before another in byte order
unfoldable pub before : List ℕ → List ℕ → Bool
before [] [] = false
before [] (y ∷ ys) = true
before (x ∷ xs) [] = false
before (x ∷ xs) (y ∷ ys) = ltb x y || (eqb x y && before xs ys)

-- each spelling stands before the next
unfoldable pub ascending : List String → Bool
unfolding before
ascending [] = true
ascending (v ∷ []) = true
ascending (v ∷ (w ∷ ws)) = before (bytes v) (bytes w) && ascending (w ∷ ws)

pub in_byte_order : T (ascending keywords) × T (ascending component_keywords) × T (ascending data_only_keywords)
unfolding ascending component_keywords data_only_keywords
in_byte_order = (tt, tt, tt)

-- "the 48 alphabetic terminals of 000", "17 more keywords", and the 25 of 001
pub keywords_counted :
    (length keywords ≡ 48) × (length component_keywords ≡ 17) × (length data_only_keywords ≡ 25)
unfolding component_keywords data_only_keywords
keywords_counted = (refl, refl, refl)

-- a test of each spelling
unfoldable pub each : (String → Bool) → List String → Bool
each f [] = true
each f (w ∷ ws) = f w && each f ws

-- "which are plain words in the first edition"
pub further_words_new : T (each (λ w. eqb 0 (kind_of w)) component_keywords)
unfolding each component_keywords
further_words_new = tt

-- "with the kinds they have in the first edition"
pub data_only_words_old : T (each (λ w. ltb 0 (keyword (bytes w))) data_only_keywords)
unfolding each data_only_keywords keyword
data_only_words_old = tt

-- "FALSE is 16, const 26, long 40"; "17 more keywords, kinds 88 up"
pub kinds_as_published :
    (kind_of "FALSE" ≡ 16) × (kind_of "const" ≡ 26) × (kind_of "long" ≡ 40) × (kind_of "wstring" ≡ 63) ×
    (kind_of ";" ≡ 64) × (kind_of "~" ≡ 87) × (component_kind_of "component" ≡ 88) × (component_kind_of "uses" ≡ 104)
unfolding component_kind_of
kinds_as_published = (refl, refl, refl, refl, refl, refl, refl, refl)
