-- The search for a word among the keywords, and which of them it is compared with in full: request A2.
-- Assumes nothing: these are definitions.
use Rattle.std.specs.Prelude.{Bool, not, ◌&&◌, cond, List, [], ◌∷◌, ◌++◌, ℕ, suc, eqb, ltb, length, Result, Ok, Err}
use Prim.Native.String.{String}
use Rattle.kinds.specs.Kinds.{bytes, first_keyword, keywords, data_only_keywords, keyword, search_from, same, identifier}
use Rattle.text.specs.Bytes.{at}
use Rattle.text.specs.Words.{lower, same_but_case}
use Rattle.text.specs.declared.Lexeme.{Lexeme}
use Rattle.text.specs.declared.Lexeme.TheVariants.{Token}
use Rattle.text.specs.declared.Fault.{Fault}
use Rattle.text.specs.declared.Fault.TheVariants.{OtherCase}

-- the spellings that pass a test
unfoldable pub filter : (List ℕ → Bool) → List String → List String
filter test [] = []
filter test (v ∷ vs) = cond (test (bytes v)) (v ∷ filter test vs) (filter test vs)

-- a keyword of the data-only edition
unfoldable pub data_only : List ℕ → Bool
unfolding data_only_keywords
data_only w = ltb 0 (search_from first_keyword same w data_only_keywords)

-- the keywords in the order of the code's table: first those that the data-only edition has, too, then the others
unfoldable pub by_edition : List String
unfolding filter data_only
by_edition = filter data_only keywords ++ filter (λ w. not (data_only w)) keywords

-- a spelling of n bytes that starts, case aside, with this letter
unfoldable pub near : ℕ → ℕ → List ℕ → Bool
near letter n v = eqb n (length v) && eqb letter (lower (at v 0))

-- a spelling with the length and, case aside, the first letter of a word
abbrev pub near_to : List ℕ → List ℕ → Bool
near_to w = near (lower (at w 0)) (length w)

-- the keywords near a word
unfoldable pub near_keywords : List ℕ → List String
near_keywords w = filter (near_to w) by_edition

-- the most keywords that are near one word
abbrev pub most_near : ℕ
most_near = 3

-- a word sorted among some keywords: it is compared with each in turn, up to the first that it is, case aside
unfoldable pub sorted_among : List ℕ → List String → Result Lexeme Fault
sorted_among w [] = Ok (Token identifier (length w))
sorted_among w (v ∷ vs) =
    cond (same w (bytes v)) (Ok (Token (keyword (bytes v)) (length w)))
    (cond (same_but_case w (bytes v)) (Err (OtherCase (keyword (bytes v)))) (sorted_among w vs))

-- with how many of them it is compared
unfoldable pub comparisons : List ℕ → List String → ℕ
comparisons w [] = 0
comparisons w (v ∷ vs) = suc (cond (same_but_case w (bytes v)) 0 (comparisons w vs))
