-- The line that a digit names is one. Assumes nothing.
use mathlib.Core.Path.{◌≡◌, refl, sym}
use mathlib.Core.Bool.{Bool, true, false, cond}
use Prim.Native.Nat.{ℕ, ◌-◌}
use Prim.Native.Char.{code}
use lib.Dec.{eqb}
use Rattle.laws.proofs.Truths.{clash}
use Rattle.forms.specs.Lines.{is_line}
use Rattle.pieces.specs.Line.{line_named}

pub line-named : (digit : ℕ) → eqb (line_named digit) 0 ≡ false → is_line (line_named digit) ≡ true
unfolding line_named
line-named digit h = go (is_line (digit - code "0")) refl h
  where
    go : (b : Bool) → is_line (digit - code "0") ≡ b → eqb (cond b (digit - code "0") 0) 0 ≡ false → is_line (cond b (digit - code "0") 0) ≡ true
    go true e q = e
    go false e q = clash (sym q)
