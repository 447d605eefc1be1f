-- What stands in front of what is left depends on where that is only by its places. Assumes nothing.
use Rattle.std.specs.Prelude.{Option, None, Some}
use mathlib.Core.Path.{◌≡◌, refl, ap, ap₂}
use mathlib.Core.Bool.{Bool, true, false, cond}
use mathlib.Core.List.{List}
use Prim.Native.Nat.{ℕ, ◌+◌, ◌-◌}
use native.Mathlib.Omega.{arith}
use lib.Dec.{ltb, eqb}
use lib.ListN.{length, take, drop, get_or}
use Rattle.records.specs.Refusals.{no}
use Rattle.text.specs.Fours.{four_said}
use Rattle.logs.specs.declared.marks.Mark.{Mark}
use Rattle.logs.specs.Marks.{mark_of, may_have}
use Rattle.logs.specs.Records.{head}
use Rattle.logs.specs.Reader.{Found, found, end, refused, known_in, marked_in, record_in}
use Rattle.logs.specs.Inside.{further, Further}

module _ (at : ℕ) (s : List ℕ) where
  refused-further : (n : ℕ) → refused (no n at) ≡ further at (refused (no n 0))
  refused-further n = let z : at ≡ at + 0 = omega arith in ap (λ (p : ℕ). refused (no n p)) z

  -- a test that both sides make
  on_both : (b : Bool) (x y z w : Found) → x ≡ further at z → y ≡ further at w → cond b x y ≡ further at (cond b z w)
  on_both true x y z w h g = h
  on_both false x y z w h g = g

  known-further : (mark : Mark) → known_in mark at s ≡ further at (known_in mark 0 s)
  unfolding known_in
  known-further mark =
      let n = get_or s 6 0 in
      let a : at + head ≡ at + (0 + head) = omega arith in
      let b : at + head + get_or s 6 0 ≡ at + (0 + head + get_or s 6 0) = omega arith in
      on_both (ltb (length s) head) _ _ (refused (no 20 0)) _ (refused-further 20)
      (on_both (may_have mark (get_or s 6 0)) _ _ _ (refused (no 19 0))
      (on_both (ltb (length s - head) (get_or s 6 0)) _ _ (refused (no 20 0)) (found mark (four_said (take 4 (drop 2 s))) (0 + head) (0 + head + get_or s 6 0)) (refused-further 20)
      (ap₂ (λ (i j : ℕ). found mark (four_said (take 4 (drop 2 s))) i j) a b))
      (refused-further 19))

  marked-further : (m : Option Mark) → marked_in m at s ≡ further at (marked_in m 0 s)
  marked-further None = refused-further 18
  marked-further (Some mark) = known-further mark

pub record-further : Further
unfolding record_in
record-further at s =
    on_both at s (eqb (length s) 0) end _ end _ refl
    (on_both at s (eqb (length s) 1) (refused (no 20 at)) _ (refused (no 20 0)) _ (refused-further at s 20) (marked-further at s (mark_of (get_or s 0 0) (get_or s 1 0))))
