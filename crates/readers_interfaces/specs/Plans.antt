-- The parts of plans that readers of interfaces follow, in the notation of the rules.
-- Assumes nothing: these are definitions.
use Rattle.std.specs.Prelude.{ℕ, ◌≡◌, List, [], ◌∷◌, ◌++◌, T}
use Rattle.kinds.specs.Kinds.{identifier}
use Rattle.kinds.specs.Lists.{kinds_of, only}
use Rattle.prediction.specs.plans.Plan.{Plan, wrap}
use Rattle.readers_core.specs.Notation.{`◌, <◌>, make, ◌▸◌, ◌∣◌, ⟦◌⟧, ◌⟨◌⟩◌, list_of}
use Rattle.readers_core.specs.Course.{one, table_in}
use Rattle.readers_core.specs.Reading.{State, Flat, none_recorded}

-- rule n is a scoped name alone: (11) interface_name, (20) value_name
pub record Names (n : ℕ) : Type 0 where
  pub plan_is : (table_in one).plan n ≡ < "scoped_name" > ▸ wrap n
  pub no_record : T (none_recorded one n (1 ∷ []))

-- a list of names, by any rule that is a scoped name alone
pub record ReadsNames (ks : List ℕ) (s s' : State) : Type 0 where
  pub by_rule : (n : ℕ) → Names n → Flat one ks (list_of n) s s'

-- the kinds that (42) type_dcl and (9) export may start with, those of identifiers and words before the rest
abbrev pub type_dcl_starts : List ℕ
type_dcl_starts = kinds_of ("enum" ∷ "native" ∷ "struct" ∷ "typedef" ∷ "union" ∷ [])

abbrev pub low_export_starts : List ℕ
low_export_starts =
    identifier ∷ kinds_of
    ("Object" ∷ "ValueBase" ∷ "any" ∷ "attribute" ∷ "boolean" ∷ "char" ∷ "const" ∷ "double" ∷ "enum" ∷ "exception" ∷
    "float" ∷ "long" ∷ "native" ∷ "octet" ∷ "oneway" ∷ "readonly" ∷ "short" ∷ "string" ∷ "struct" ∷ "typedef" ∷ "union" ∷
    "unsigned" ∷ "void" ∷ "wchar" ∷ "wstring" ∷ [])

abbrev pub export_starts : List ℕ
export_starts = low_export_starts ++ only "::"

-- bases, if any
abbrev pub optional_bases : Plan
optional_bases = ⟦ < "interface_inheritance_spec" > ⟧

-- (9) what an interface exports, with its ";"
abbrev pub exported : Plan
exported =
    < "type_dcl" > ▸ ` ";"
    ∣ < "const_dcl" > ▸ ` ";"
    ∣ < "except_dcl" > ▸ ` ";"
    ∣ < "attr_dcl" > ▸ ` ";"
    ∣ < "op_dcl" > ▸ ` ";"

-- behind the name of an interface that has a body
abbrev pub interface_body : Plan
interface_body = optional_bases ▸ make "interface_header" ▸ "{" ⟨ < "interface_body" > ⟩ "}" ▸ make "interface_dcl"

-- an interface from "interface" on, where a frame may have begun before it
abbrev pub interface_rest : Plan
interface_rest = ` "interface" ▸ < "identifier" > ▸ (interface_body ∣ make "forward_dcl") ▸ make "interface"
