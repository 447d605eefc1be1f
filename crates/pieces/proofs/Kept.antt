-- The bytes kept for the next piece stand in front of the buffer. Assumes nothing.
use mathlib.Core.Path.{◌≡◌, sym, ap, ◌∙◌}
use mathlib.Core.List.{List}
use Prim.Native.Nat.{ℕ, ◌+◌, ◌-◌, ◌≤◌}
use native.Mathlib.Omega.{arith}
use lib.ListN.{length, take, drop, length-append, length-drop}
use lib.Seq.{take_at, drop_at, take-add, length-take-le}
use Rattle.text.specs.Putting.{placed}
use Rattle.pieces.specs.Tails.{tail_of, tail_put}

module _ (k n : ℕ) (buf : List ℕ) (l : k ≤ n) (h : n ≤ length buf) where
  tail-length : length (tail_of k n buf) ≡ n - k
  tail-length = length-take-le (n - k) (drop k buf) (omega (arith, length-drop k buf))

  tail-is : tail_of k n buf ≡ drop k (take n buf)
  tail-is =
      let m : k + (n - k) ≡ n = omega arith in
      sym (ap (drop k) (ap (λ (i : ℕ). take i buf) (sym m) ∙ take-add k (n - k) buf) ∙ drop_at (take k buf) (tail_of k n buf) k (length-take-le k buf (omega arith)))

  pub kept-front : take (n - k) (tail_put k n buf).1 ≡ drop k (take n buf)
  unfolding tail_put placed
  kept-front = take_at (tail_of k n buf) _ (n - k) tail-length ∙ tail-is

  pub kept-within : n - k ≤ length (tail_put k n buf).1
  unfolding tail_put placed
  kept-within = omega (arith, tail-length, length-append (tail_of k n buf) (drop (0 + length (tail_of k n buf)) buf))
