-- Facts on the rules of an edition: they are spelled right, each has its use, strings join, other readers' errors are not in them.
-- Each is one test over the table of any edition; here they are computed for edition 1.
use Prim.Native.Nat.{ℕ, zero, suc, ◌-◌, pred}
use Prim.Native.String.{String}
use mathlib.Core.Path.{◌≡◌, refl}
use mathlib.Core.Bool.{Bool, true, false, not, ◌&&◌, ◌||◌, cond}
use mathlib.Core.List.{List, [], ◌∷◌, ◌++◌}
use lib.Dec.{T, eqb, ltb}
use lib.ListN.{length}
use Rattle.kinds.specs.Kinds.{keywords, marks, kind_of}
use Rattle.grammar.specs.Sets.{elem}
use Rattle.grammar.proofs.Sets.{subset}
use Rattle.grammar.specs.Forest.{Forest, end, leaf, node}
use Rattle.grammar.specs.Rule.{RightSide, terminal, nonterminal, sequence, choice, nothing, repeat, Edition}
use Rattle.grammar.specs.Rule.{right_side}
use Rattle.grammar.specs.Notation.{Written, `◌, <◌>, ◌▸◌, ◌∣◌, ⟦◌⟧, ◌*, ◌+, Rule, ◌::=◌, token_names, names}
use Rattle.grammar.specs.Notation.{place, places}
use Rattle.grammar.specs.Names.{rule_names}
use Rattle.grammar.specs.Idl.{published, idl}
use Rattle.grammar.specs.Derivation.{kind_at}
use Rattle.grammar.specs.Record.{tree_record, recorded, records}
use Rattle.grammar.specs.Depth.{depth}
use Rattle.grammar.proofs.Nesting.{nests}

-- each name is that of a token or a rule, and each terminal has a kind
module _ (kind : String → ℕ) (rules : List String) where
  unfoldable pub spelled : Written → Bool
  spelled (` w) = ltb 0 (kind w)
  spelled (< w >) = ltb 0 (place w token_names) || ltb 0 (place w rules)
  spelled (a ▸ b) = spelled a && spelled b
  spelled (a ∣ b) = spelled a && spelled b
  spelled (⟦ a ⟧) = spelled a
  spelled (a *) = spelled a
  spelled (a +) = spelled a

-- a test of the right side of each rule
unfoldable pub each_side : (Written → Bool) → List Rule → Bool
each_side f [] = true
each_side f ((name ::= e) ∷ rs) = f e && each_side f rs

unfoldable pub is_name : Written → Bool
is_name (` w) = false
is_name (< w >) = true
is_name (a ▸ b) = false
is_name (a ∣ b) = false
is_name (⟦ a ⟧) = false
is_name (a *) = false
is_name (a +) = false

-- request A1: a string stands nowhere but as one or more of its kind
unfoldable pub joined : Written → Bool
unfolding is_name
joined (` w) = true
joined (< w >) = eqb 0 (place w ("string_literal" ∷ "wide_string_literal" ∷ []))
joined (a ▸ b) = joined a && joined b
joined (a ∣ b) = joined a && joined b
joined (⟦ a ⟧) = joined a
joined (a *) = joined a
joined (a +) = is_name a || joined a

-- the kinds of the terminals of a right side, and the rules that it uses
unfoldable pub kinds_in : RightSide → List ℕ
kinds_in (terminal k) = k ∷ []
kinds_in (nonterminal r) = []
kinds_in (sequence a b) = kinds_in a ++ kinds_in b
kinds_in (choice a b) = kinds_in a ++ kinds_in b
kinds_in nothing = []
kinds_in (repeat a) = kinds_in a

unfoldable pub rules_in : RightSide → List ℕ
rules_in (terminal k) = []
rules_in (nonterminal r) = r ∷ []
rules_in (sequence a b) = rules_in a ++ rules_in b
rules_in (choice a b) = rules_in a ++ rules_in b
rules_in nothing = []
rules_in (repeat a) = rules_in a

unfoldable pub gathered : (RightSide → List ℕ) → List RightSide → List ℕ
gathered f [] = []
gathered f (e ∷ es) = f e ++ gathered f es

unfoldable pub kinds_of : (String → ℕ) → List String → List ℕ
kinds_of kind [] = []
kinds_of kind (w ∷ ws) = kind w ∷ kinds_of kind ws

-- the terminals are identifiers, the seven literals, these keywords and the 24 marks, and no others
unfoldable pub terminals_are : (String → ℕ) → List String → Edition → Bool
unfolding subset gathered kinds_in kinds_of
terminals_are kind ws E =
    let ks = places token_names token_names ++ kinds_of kind (ws ++ marks) in
    let used = gathered kinds_in E.rules in
    subset ks used && subset used ks

-- the number of the first rule, by which a text is read, and that of the last
unfoldable pub numbered : Edition → ℕ × ℕ
numbered E = (E.start, pred (length E.rules))

-- the n numbers from k on that pass a test; the rules that do
unfoldable pub chosen_from : (ℕ → Bool) → (k n : ℕ) → List ℕ
chosen_from f k zero = []
chosen_from f k (suc n) = cond (f k) (k ∷ chosen_from f (suc k) n) (chosen_from f (suc k) n)

unfoldable pub chosen : (ℕ → Bool) → Edition → List ℕ
unfolding chosen_from
chosen f E = chosen_from f E.start (length E.rules - E.start)

-- the rules that no rule uses
unfoldable pub unused_rules : Edition → List ℕ
unfolding chosen gathered rules_in elem
unused_rules E = let used = gathered rules_in E.rules in chosen (λ r. not (elem r used)) E

-- a right side may be empty, where the rules of r may be
unfoldable pub may_be_empty : (r : ℕ → Bool) → RightSide → Bool
may_be_empty r (terminal k) = false
may_be_empty r (nonterminal n) = r n
may_be_empty r (sequence a b) = may_be_empty r a && may_be_empty r b
may_be_empty r (choice a b) = may_be_empty r a || may_be_empty r b
may_be_empty r nothing = true
may_be_empty r (repeat a) = true

-- the rule n may be empty, in k uses of rules at most
unfoldable pub empty_within : Edition → ℕ → ℕ → Bool
unfolding may_be_empty right_side
empty_within E zero n = false
empty_within E (suc k) n = may_be_empty (empty_within E k) (right_side E n)

unfoldable pub empty_rules : Edition → List ℕ
unfolding chosen empty_within
empty_rules E = chosen (empty_within E 20) E

-- the rules that are recorded over exactly one nonterminal
unfoldable pub recorded_always : Edition → List ℕ
unfolding chosen recorded
recorded_always E = chosen (λ r. recorded E r 1) E

module _ (rules : List String) (E : Edition) where
  -- the rule of the first name uses that of the second
  unfoldable pub uses : (a b : String) → Bool
  unfolding elem rules_in right_side
  uses a b = elem (place b rules) (rules_in (right_side E (place a rules)))

  -- "Errors other readers have made": shift and addition in one rank, or shift above addition; sequences taken as
  -- parameter or result types; two signs; a forward interface with a base list
  unfoldable pub avoids_errors : Bool
  unfolding uses
  avoids_errors =
      (uses "shift_expr" "add_expr" && not (uses "add_expr" "shift_expr")) &&
      ((not (uses "param_type_spec" "sequence_type") && not (uses "param_type_spec" "template_type_spec")) &&
      ((not (uses "unary_expr" "unary_expr") && not (uses "primary_expr" "unary_expr")) &&
      not (uses "forward_dcl" "interface_inheritance_spec")))

-- what is computed of an edition: of its rules as written, with the names by rule number, and of the rules that they make
pub record Facts (kind : String → ℕ) (published : List Rule) (rules : List String) (E : Edition) : Type 0 where
  pub spelled_right : T (each_side (spelled kind rules) published)
  pub strings_joined : T (each_side joined published)
  pub errors_avoided : T (avoids_errors rules E)
  -- each rule but the first is used
  pub each_rule_used : unused_rules E ≡ E.start ∷ []
  -- the rules nest: each closes its own marks, and none holds itself but within marks or by left recursion
  pub rules_nest : T (nests E)

pub idl_facts : Facts kind_of published (names published) idl
unfolding each_side spelled joined avoids_errors unused_rules nests names published idl
idl_facts = record { spelled_right = tt; strings_joined = tt; errors_avoided = tt; each_rule_used = refl; rules_nest = tt }

-- the names that code and plans know the rules by are those of the published rules
pub rules_by_name : names published ≡ rule_names
unfolding names published
rules_by_name = refl

pub rules_numbered : numbered idl ≡ (1, 99)
unfolding numbered idl
rules_numbered = refl

-- "the 48 alphabetic terminals of 000"
pub each_kind_used : T (terminals_are kind_of keywords idl)
unfolding terminals_are idl
each_kind_used = tt

-- an interface body may be empty, and nothing else: neither a struct nor rule 19
pub one_empty_rule : empty_rules idl ≡ 8 ∷ []
unfolding empty_rules idl
one_empty_rule = refl

-- "rules 1 and 8 are recorded always", and no other over one nonterminal
pub always_recorded : recorded_always idl ≡ 1 ∷ 8 ∷ []
unfolding recorded_always idl
always_recorded = refl

-- the tree of a declaration with an empty body, alone in its text
unfoldable pub empty_declared : (keyword header body whole either : ℕ) → Forest
empty_declared keyword header body whole either =
    let head = leaf (leaf end keyword) 1 in
    let braced = leaf (node (leaf (node end header head) (kind_of "{")) body end) (kind_of "}") in
    let definition = leaf (node end either (node end whole braced)) (kind_of ";") in
    node end 1 (node end 2 definition)

-- `interface _factory { };`: the empty body is recorded at the token number of its "}"
pub empty_body_recorded : records idl 0 (empty_declared (kind_of "interface") 7 8 5 4) ≡
    tree_record 7 0 2 1 ∷ tree_record 8 3 3 1 ∷ tree_record 5 0 4 3 ∷ tree_record 2 0 5 4 ∷ tree_record 1 0 5 5 ∷ []
unfolding records empty_declared idl
empty_body_recorded = refl

-- each of the four marks opens a level, and its fellow closes it
pub marks_nest :
    (depth (kind_at (kinds_of kind_of ("(" ∷ "{" ∷ "[" ∷ "<" ∷ []))) 4 ≡ 4) ×
    (depth (kind_at (kinds_of kind_of ("(" ∷ "{" ∷ "[" ∷ "<" ∷ ">" ∷ "]" ∷ "}" ∷ ")" ∷ []))) 8 ≡ 0)
unfolding depth kinds_of
marks_nest = (refl, refl)
