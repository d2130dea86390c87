-- What a good call is: paper 01, "A good call is one that reply 1 does not answer", and the ceilings that it names.
-- Assumes nothing: these are definitions.
use Rattle.std.specs.Prelude.{Bool, ◌&&◌, cond, ℕ, leb, Option, Some, None}
use Rattle.limits.specs.declared.Limits.{Limits}

-- "Text: at most 1,048,576 bytes."
abbrev pub text_ceiling : ℕ
text_ceiling = 1048576

-- "Depth setting: 1 to 64."; request A10: "Raise the ceiling of the depth setting from 64 to 200."
abbrev pub depth_ceiling : ℕ
depth_ceiling = 200

-- a text of n bytes is not too long
abbrev pub good_text : (n : ℕ) → Bool
good_text n = leb n text_ceiling

-- the depth setting d is not outside its range
abbrev pub good_depth : (d : ℕ) → Bool
good_depth d = leb 1 d && leb d depth_ceiling

-- a call with a text of n bytes and the depth setting d is good
abbrev pub good_call : (n d : ℕ) → Bool
good_call n d = good_text n && good_depth d

-- the limits of a good call
abbrev pub bounded : (n d : ℕ) → Option Limits
bounded n d = cond (good_call n d) (Some (record { text = n; depth = d })) None
