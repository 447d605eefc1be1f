-- What the reader's tests say of the definition. Assumes nothing.
use Rattle.std.specs.Prelude.{Option}
use mathlib.Core.Path.{◌≡◌}
use mathlib.Core.Bool.{true}
use mathlib.Core.List.{List}
use Prim.Native.Nat.{ℕ, ◌+◌, ◌-◌, ◌≤◌}
use lib.ListN.{length, take, drop, get_or}
use borrow.Author.Tests.{le-ltb, ne_eqb}
use Rattle.text.specs.Fours.{four_said}
use Rattle.logs.specs.declared.marks.Mark.{Mark}
use Rattle.logs.specs.Marks.{mark_of, may_have}
use Rattle.logs.specs.Records.{head}
use Rattle.logs.specs.Reader.{Found, found, known_in, marked_in, record_in}

module _ (mark : Mark) (at : ℕ) (s : List ℕ) (n b : ℕ) (e : n ≡ b) (byte : b ≡ get_or s 6 0) (h : head ≤ length s) where
  pub whole : may_have mark n ≡ true → n ≤ length s - head → (time : ℕ) (four : List ℕ) → four ≡ take 4 (drop 2 s) → time ≡ four_said four
      → found mark time (at + head) (at + head + n) ≡ known_in mark at s
  unfolding known_in
  whole f l time four p q = rw (le-ltb (length s) head h, ← byte, ← e, f, le-ltb (length s - head) n l, q, p)

-- behind two bytes or more
pub behind-mark : (at : ℕ) (s : List ℕ) (left right : ℕ) (m : Option Mark) (x : Found) → (length s ≡ 0 → ⊥) → (length s ≡ 1 → ⊥) → left ≡ get_or s 0 0 → right ≡ get_or s 1 0 → m ≡ mark_of left right
    → x ≡ marked_in m at s → x ≡ record_in at s
unfolding record_in
behind-mark at s left right m x h g l r e f = rw (ne_eqb (length s) 0 h, ne_eqb (length s) 1 g, ← l, ← r, ← e) f
