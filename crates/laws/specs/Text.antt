-- Text in the definitions: the codes of its characters. Assumes nothing.
use Rattle.std.specs.Prelude.{List, ℕ}
use Prim.Native.Char.{code}
use Prim.Native.String.{String, [], ◌∷◌}
use mathlib.Core.List as list

abbrev pub codes : String → List ℕ
codes [] = list.[]
codes (c ∷ s) = list.◌∷◌ (code c) (codes s)
