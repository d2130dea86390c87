-- The kinds of token and their numbers: paper 01, "Kinds", and requests A6 and A13. Keywords and marks stand here by their spelling.
-- Assumes nothing: these are definitions.
use Rattle.std.specs.Prelude.{Bool, true, false, ◌&&◌, cond, List, [], ◌∷◌, ◌++◌, ℕ, suc, eqb, ltb, get_or}
use Prim.Native.Char.{code}
use Prim.Native.String.{String, [] as nil, ◌∷◌ as cons}

-- the bytes of a spelling
abbrev pub bytes : String → List ℕ
bytes nil = []
bytes (cons c s) = code c ∷ bytes s

-- kinds 1 to 8
abbrev pub identifier : ℕ
identifier = 1

abbrev pub integer : ℕ
integer = 2

abbrev pub floating : ℕ
floating = 3

abbrev pub fixed : ℕ
fixed = 4

abbrev pub character : ℕ
character = 5

abbrev pub wide_character : ℕ
wide_character = 6

abbrev pub string : ℕ
string = 7

abbrev pub wide_string : ℕ
wide_string = 8

-- keywords, kinds 16 to 63 in byte order of their spelling
abbrev pub first_keyword : ℕ
first_keyword = 16

abbrev pub keywords : List String
keywords =
    "FALSE" ∷ "Object" ∷ "TRUE" ∷ "ValueBase" ∷ "abstract" ∷ "any" ∷ "attribute" ∷ "boolean" ∷ "case" ∷ "char" ∷
    "const" ∷ "context" ∷ "custom" ∷ "default" ∷ "double" ∷ "enum" ∷ "exception" ∷ "factory" ∷ "fixed" ∷ "float" ∷
    "in" ∷ "inout" ∷ "interface" ∷ "local" ∷ "long" ∷ "module" ∷ "native" ∷ "octet" ∷ "oneway" ∷ "out" ∷ "private"
    ∷ "public" ∷ "raises" ∷ "readonly" ∷ "sequence" ∷ "short" ∷ "string" ∷ "struct" ∷ "supports" ∷ "switch" ∷
    "truncatable" ∷ "typedef" ∷ "union" ∷ "unsigned" ∷ "valuetype" ∷ "void" ∷ "wchar" ∷ "wstring" ∷ []

-- the keyword with this number in the list, from 0 on, as bytes
abbrev pub nth_keyword : ℕ → List ℕ
nth_keyword n = bytes (get_or keywords n "")

-- marks, kinds 64 to 87 in the order of the paper
abbrev pub first_mark : ℕ
first_mark = 64

abbrev pub marks : List String
marks =
    ";" ∷ "{" ∷ "}" ∷ ":" ∷ "," ∷ "::" ∷ "=" ∷ "(" ∷ ")" ∷ "<" ∷ ">" ∷ "[" ∷ "]" ∷ "|" ∷ "^" ∷ "&" ∷ ">>" ∷ "<<" ∷ "+"
    ∷ "-" ∷ "*" ∷ "/" ∷ "%" ∷ "~" ∷ []

-- two spellings are the same
abbrev pub same : List ℕ → List ℕ → Bool
same [] [] = true
same [] (y ∷ ys) = false
same (x ∷ xs) [] = false
same (x ∷ xs) (y ∷ ys) = eqb x y && same xs ys

-- the first of the spellings, numbered from k, that is like w in the sense of the test; 0 where none is
abbrev pub search_from : ℕ → (List ℕ → List ℕ → Bool) → List ℕ → List String → ℕ
search_from k like w [] = 0
search_from k like w (v ∷ vs) = cond (like w (bytes v)) k (search_from (suc k) like w vs)

-- the kind of the keyword spelled exactly w; 0 where w is none
unfoldable pub keyword : List ℕ → ℕ
keyword w = search_from first_keyword same w keywords

-- the kind of the mark spelled w; 0 where w is none
unfoldable pub mark : List ℕ → ℕ
mark w = search_from first_mark same w marks

-- the kind of a keyword or mark, by its spelling: marks are numbered on behind the keywords
abbrev pub kind_of : String → ℕ
kind_of w = search_from first_keyword same (bytes w) (keywords ++ marks)

-- the further keywords of the component edition, kinds 88 up in byte order of their spelling: request A6
abbrev pub first_component_keyword : ℕ
first_component_keyword = 88

unfoldable pub component_keywords : List String
component_keywords =
    "component" ∷ "consumes" ∷ "emits" ∷ "eventtype" ∷ "finder" ∷ "getraises" ∷ "home" ∷ "import" ∷ "manages" ∷
    "multiple" ∷ "primarykey" ∷ "provides" ∷ "publishes" ∷ "setraises" ∷ "typeid" ∷ "typeprefix" ∷ "uses" ∷ []

-- the kind of the further keyword spelled exactly w; 0 where w is none
unfoldable pub component_keyword : List ℕ → ℕ
unfolding component_keywords
component_keyword w = search_from first_component_keyword same w component_keywords

-- the kind of a terminal of the component edition, by its spelling
unfoldable pub component_kind_of : String → ℕ
unfolding component_keyword
component_kind_of w = cond (ltb 0 (kind_of w)) (kind_of w) (component_keyword (bytes w))

-- the keywords of the data-only edition, which have the kinds of the first edition: request A13
unfoldable pub data_only_keywords : List String
data_only_keywords =
    "FALSE" ∷ "TRUE" ∷ "boolean" ∷ "case" ∷ "char" ∷ "const" ∷ "default" ∷ "double" ∷ "enum" ∷ "fixed" ∷ "float" ∷
    "long" ∷ "module" ∷ "native" ∷ "octet" ∷ "sequence" ∷ "short" ∷ "string" ∷ "struct" ∷ "switch" ∷ "typedef" ∷
    "union" ∷ "unsigned" ∷ "wchar" ∷ "wstring" ∷ []
