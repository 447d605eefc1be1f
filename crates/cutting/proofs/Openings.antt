-- The bytes that begin a telegram. Assumes nothing.
use mathlib.Core.Path.{◌≡◌}
use mathlib.Core.Logic.{◌⊎◌, inl, inr}
use mathlib.Core.List.{List}
use Prim.Native.Nat.{ℕ, ◌+◌, ◌-◌, ◌≤◌, ◌<◌}
use native.Mathlib.Omega.{arith}
use lib.ListN.{length, get_or}
use Rattle.laws.proofs.Passes.{order}
use Rattle.characters.specs.Marks.{lf, cr, unfinished}
use Rattle.cutting.specs.Turns.{Plain}
use Rattle.cutting.specs.Telegrams.{Telegram}

-- the bytes from o up to i: LF, then at most 64 bytes that are neither LF nor CR
pub record Opening (s : List ℕ) (o i : ℕ) : Type 0 where
  pub begins : get_or s o 0 ≡ lf
  pub before : o < i
  pub short : i - o ≤ unfinished
  pub between : (k : ℕ) → o < k → k < i → Plain (get_or s k 0)

module _ (s : List ℕ) where
  -- a telegram but for its CR
  pub opening_of : (o e : ℕ) → Telegram s o e → Opening s o (e - 1)
  opening_of o e t = record { begins = t.begins; before = omega (arith, t.long); short = omega (arith, t.short, t.long); between = t.between }

  -- CR makes it a telegram
  pub telegram-of : (o i : ℕ) → Opening s o i → i < length s → get_or s i 0 ≡ cr → Telegram s o (i + 1)
  telegram-of o i p h c =
      let q : i + 1 - 1 ≡ i = omega arith in
      record { begins = p.begins; ends = rw q c; long = omega (arith, p.before); short = omega (arith, p.short); within = omega arith; between = rw q p.between }

  -- bytes end in one opening only: its LF is the last
  pub one-opening : (o o' i : ℕ) → Opening s o i → Opening s o' i → o ≡ o'
  one-opening o o' i p q =
      order o o' (λ l. absurd ((p.between o' l q.before).0 q.begins))
      (λ m. order o' o (λ l. absurd ((q.between o l p.before).0 p.begins)) (λ l. omega arith))

  -- LF begins one
  pub begun-at : (i : ℕ) → get_or s i 0 ≡ lf → Opening s i (i + 1)
  begun-at i l = record { begins = l; before = omega arith; short = omega arith; between = λ k a b. let z : ⊥ = omega arith in absurd z }

  -- a byte that is neither LF nor CR joins one of under 65 bytes
  pub longer : (o i : ℕ) → Opening s o i → Plain (get_or s i 0) → i - o < unfinished → Opening s o (i + 1)
  longer o i p b h = record { begins = p.begins; before = omega (arith, p.before); short = omega arith; between = inside }
    where
      inside : (k : ℕ) → o < k → k < i + 1 → Plain (get_or s k 0)
      inside k a l = order k i (p.between k a) (λ m. let q : k ≡ i = omega arith in rw q b)

  -- and an opening came about in one of these two ways
  pub came : (o i : ℕ) → Opening s o (i + 1) → (o ≡ i) ⊎ (Opening s o i × Plain (get_or s i 0) × (i - o < unfinished))
  came o i p =
      order o i
      (λ l. inr (record { begins = p.begins; before = l; short = omega (arith, p.short); between = λ k a b. p.between k a (omega arith) }, p.between i l (omega arith), omega (arith, p.short)))
      (λ m. inl (omega (arith, p.before)))
