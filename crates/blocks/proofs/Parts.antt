-- Bytes that say a count or a truth, and lists of just a length. Assumes nothing.
use Rattle.std.specs.Prelude.{Result, Ok, Err, OkIff}
use Rattle.std.specs.Result.{result_unwrap_or}
use mathlib.Core.Path.{◌≡◌, refl, ap}
use mathlib.Core.Bool.{Bool, true, false}
use mathlib.Core.List.{List, [], ◌∷◌}
use Prim.Native.Nat.{ℕ, zero, suc, ◌≤◌, ◌<◌}
use native.Mathlib.Omega.{arith}
use lib.Dec.{eqb}
use lib.ListN.{length}
use borrow.Author.Tests.{lt-ltb, le-ltb}
use Rattle.laws.specs.Truth.{pad}
use Rattle.blocks.specs.Heads.{count_byte, flag_byte}

-- a count that a byte holds stands as it is
pub small : (n : ℕ) → n < 256 → count_byte n ≡ n
unfolding count_byte
small n h = rw (lt-ltb n 256 h)

pub large : (n : ℕ) → 256 ≤ n → 255 ≡ count_byte n
unfolding count_byte
large n h = rw (le-ltb n 256 h)

-- so a count is a byte, or else 255
pub in-byte : {E : Type 0} (n byte : ℕ) (r : Result ℕ E) → OkIff r (n < 256) n → byte ≡ result_unwrap_or r 255 → byte ≡ count_byte n
in-byte n byte (Ok m) h e = grind (arith, small)
in-byte n byte (Err x) h e = grind (arith, large)

-- a truth is read again
pub flag-back : (on : Bool) → eqb (flag_byte on) 1 ≡ on
flag-back true = refl
flag-back false = refl

-- as many bytes as are asked for are those
pub pad-whole : (k : ℕ) (s : List ℕ) → length s ≡ k → pad k s ≡ s
pad-whole zero [] h = refl
pad-whole zero (x ∷ s) h = let z : ⊥ = omega arith in absurd z
pad-whole (suc k) [] h = let z : ⊥ = omega arith in absurd z
pad-whole (suc k) (x ∷ s) h = ap (λ (l : List ℕ). x ∷ l) (pad-whole k s (omega arith))
