-- Rules as the papers write them, with terminals and nonterminals by their spelling, and the edition that they make.
-- Assumes nothing: definitions. A rule's number is its place in the list, from 1.
use Rattle.std.specs.Prelude.{ℕ, zero, suc}
use Prim.Native.String.{String}
use mathlib.Core.List.{List, [], ◌∷◌}
use Rattle.kinds.specs.Kinds.{bytes, same, search_from}
use Rattle.grammar.specs.Rule.{RightSide, terminal, nonterminal, sequence, choice, nothing, repeat, Edition}

infix 60 `◌
infix 55 ◌+
infix 55 ◌*
infixr 40 ◌▸◌
infixr 30 ◌∣◌
infix 20 ◌::=◌
-- ` "word" is a terminal, < "name" > a nonterminal, ▸ puts one after the other, ∣ chooses, ⟦ ⟧ may be left out,
-- * is zero or more and + one or more
pub data Written : Type 0 where
  `◌ : String → Written
  <◌> : String → Written
  ◌▸◌ : Written → Written → Written
  ◌∣◌ : Written → Written → Written
  ⟦◌⟧ : Written → Written
  ◌* : Written → Written
  ◌+ : Written → Written

pub data Rule : Type 0 where
  ◌::=◌ : String → Written → Rule

-- "Identifiers and literals other than boolean count as tokens, not nonterminals": kinds 1 to 8, in this order
abbrev pub token_names : List String
token_names =
    "identifier" ∷ "integer_literal" ∷ "floating_pt_literal" ∷ "fixed_pt_literal" ∷ "character_literal" ∷
    "wide_character_literal" ∷ "string_literal" ∷ "wide_string_literal" ∷ []

-- the names on the left sides
unfoldable pub names : List Rule → List String
names [] = []
names ((name ::= e) ∷ rules) = name ∷ names rules

-- the place of a name, from 1; 0 where it is none of them
abbrev pub place : String → List String → ℕ
place w ws = search_from 1 same (bytes w) ws

-- a name is that of a token or that of a rule
unfoldable pub named : (token rule : ℕ) → RightSide
named zero r = nonterminal r
named (suc k) r = terminal (suc k)

-- the right side with its names resolved; kind gives the kind of a terminal
module _ (kind : String → ℕ) (rules : List String) where
  unfoldable pub resolve : Written → RightSide
  unfolding named
  resolve (` w) = terminal (kind w)
  resolve (< w >) = named (place w token_names) (place w rules)
  resolve (a ▸ b) = sequence (resolve a) (resolve b)
  resolve (a ∣ b) = choice (resolve a) (resolve b)
  resolve (⟦ a ⟧) = choice (resolve a) nothing
  resolve (a *) = repeat (resolve a)
  resolve (a +) = sequence (resolve a) (repeat (resolve a))

  unfoldable pub resolve_all : List Rule → List RightSide
  unfolding resolve
  resolve_all [] = []
  resolve_all ((name ::= e) ∷ rs) = resolve e ∷ resolve_all rs

abbrev pub places : List String → List String → List ℕ
places [] ws = []
places (v ∷ vs) ws = place v ws ∷ places vs ws

-- the edition of these rules, read by the rule `start`; those named in `always` are recorded always
unfoldable pub edition : (kind : String → ℕ) (start : String) (always : List String) → List Rule → Edition
unfolding names resolve_all
edition kind start always rs =
    record {
      rules = nothing ∷ resolve_all kind (names rs) rs;
      start = place start (names rs);
      always = places always (names rs);
    }
