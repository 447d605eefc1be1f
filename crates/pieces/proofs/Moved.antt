-- The bytes kept for the next piece, moved to the front. Assumes nothing.
use Rattle.std.proofs.Common.{◌≡◌, ℕ, ◌-◌, ◌≤◌, ◌<◌, List, [], length, take, drop, min, arith, length-take, length-drop, drop_of_length-le, zero-add}
use Rattle.std.specs.List.{copy_within}
use Rattle.text.specs.Putting.{placed}
use Rattle.text.proofs.Puts.{take-least}
use Rattle.pieces.specs.Tails.{tail_of, tail_put}

module _ (place end n : ℕ) (s : List ℕ) (e : n ≡ min end (length s)) where
  tail-length : length (tail_of place end s) ≡ n - place
  tail-length = omega (arith, length-take (end - place) (drop place s), length-drop place s)

  -- there are none
  pub none_kept : n ≤ place → (0, s) ≡ tail_put place end s
  unfolding tail_put placed
  none_kept h =
      let t : tail_of place end s ≡ [] = drop_of_length-le (tail_of place end s) {i = 0} (omega (arith, tail-length)) in
      rw t

  -- all are moved
  pub all_moved : place < n → (n - place, copy_within s place n 0) ≡ tail_put place end s
  unfolding tail_put placed
  all_moved h =
      let t : tail_of place end s ≡ take (n - place) (drop place s) = take-least (drop place s) (end - place) (n - place) (omega (arith, length-drop place s)) in
      rw (tail-length, t, zero-add (n - place))
