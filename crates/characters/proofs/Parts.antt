-- A part of a list that starts anywhere. Assumes nothing.
use mathlib.Core.Path.{◌≡◌, sym, ◌∙◌}
use mathlib.Core.List.{List}
use Prim.Native.Nat.{ℕ, ◌+◌, ◌-◌, ◌≤◌}
use native.Mathlib.Omega.{arith}
use native.Mathlib.Nat.{add-zero}
use lib.ListN.{length, take, drop, get_or, length-drop, drop_of_length-le}
use lib.Seq.{take_all, take-nil, drop-length, get_or-drop}

-- the first of a part is what stands where it starts
pub part-first : (s : List ℕ) (i : ℕ) → get_or (drop i s) 0 0 ≡ get_or s i 0
part-first s i = rw (get_or-drop i s 0 0, add-zero i)

-- a part that starts behind the end
pub beyond : (s : List ℕ) (from count : ℕ) → length s ≤ from → take (length s - length s) (drop (length s) s) ≡ take count (drop from s)
beyond s from count h = rw (drop-length, drop_of_length-le s {i = from} h, take-nil, take-nil)

-- one that would reach over the end
pub rest : (s : List ℕ) (from count : ℕ) → length s - from ≤ count → take (length s - from) (drop from s) ≡ take count (drop from s)
rest s from count h = take_all (length s - from) (drop from s) (omega (arith, length-drop from s)) ∙ sym (take_all count (drop from s) (omega (arith, length-drop from s)))

-- and one that ends before it
pub inside : (s : List ℕ) (from count : ℕ) → take (from + count - from) (drop from s) ≡ take count (drop from s)
inside s from count = let e : from + count - from ≡ count = omega arith in rw e
