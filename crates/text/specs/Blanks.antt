-- Comments: paper 01, "From bytes to tokens", second sentence. They may hold any byte.
-- Assumes nothing: these are definitions.
use Rattle.std.specs.Prelude.{◌&&◌, cond, List, [], ◌∷◌, ℕ, suc, ◌+◌, eqb, drop, Option, Some, None, Result, Ok, Err}
use Rattle.std.specs.Option.{option_map}
use Prim.Native.Char.{code}
use Rattle.text.specs.Bytes.{at, run, in_line}
use Rattle.text.specs.declared.Lexeme.{Lexeme}
use Rattle.text.specs.declared.Lexeme.TheVariants.{Blank}
use Rattle.text.specs.declared.Fault.{Fault}
use Rattle.text.specs.declared.Fault.TheVariants.{Open}

-- from // to byte 10, byte 13 or the end of the text
unfoldable pub line_comment : List ℕ → Result Lexeme Fault
unfolding in_line run
line_comment bs = Ok (Blank (2 + run in_line (drop 2 bs)))

-- how many bytes there are to the end of the next */, if there is one
unfoldable pub to_close : List ℕ → Option ℕ
to_close [] = None
to_close (b ∷ bs) = cond (eqb b (code "*") && eqb (at bs 0) (code "/")) (Some 2) (option_map suc (to_close bs))

-- a comment of n bytes after its /*, which is open where no */ follows
unfoldable pub closed : Option ℕ → Result Lexeme Fault
closed None = Err Open
closed (Some n) = Ok (Blank (2 + n))

-- from /* to the next */ (no nesting; "/*/" is still open)
unfoldable pub block_comment : List ℕ → Result Lexeme Fault
unfolding to_close closed
block_comment bs = closed (to_close (drop 2 bs))
