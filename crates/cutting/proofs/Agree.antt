-- The step and the search cut the same telegrams (rule C8). Assumes nothing.
use mathlib.Core.Path.{◌≡◌, refl, ap, ap₂, ◌∙◌}
use mathlib.Core.List.{List, [], ◌∷◌, ◌++◌, map}
use Prim.Native.Nat.{ℕ, zero, suc, ◌+◌, ◌-◌, ◌≤◌, ◌<◌}
use native.Mathlib.Omega.{arith}
use native.Mathlib.Numerals.{add-one}
use lib.ListN.{length, take, drop, get_or, length-append, length-drop, drop_of_length-le}
use lib.Seq.{take-length, take-suc, get_or-drop, drop-cons}
use Rattle.laws.proofs.Passes.{order}
use Rattle.cutting.specs.declared.turns.Turn.{Turn}
use Rattle.cutting.specs.declared.gather.Item.TheVariants.{Byte}
use Rattle.cutting.specs.Turns.{turn_of}
use Rattle.cutting.specs.Gather.{at_start}
use Rattle.cutting.specs.Search.{cut_from, span_of}
use Rattle.cutting.proofs.Cases.{Case, begins, skips, ends, drops, joins, turn-case}
use Rattle.cutting.proofs.Steps.{none_left, on-ends, on-joins, on-drops}
use Rattle.cutting.specs.Same.{finding, searched, SameTelegrams}
use Rattle.cutting.proofs.Ranges.{start-range}
use Rattle.cutting.proofs.Held.{with, turning, gathered, by-held}

-- the bytes held are those of s before place i
record Behind (s : List ℕ) (i : ℕ) (h : List ℕ) : Type 0 where
  reach : length h ≤ i
  same : h ≡ take (length h) (drop (i - length h) s)

module _ (s : List ℕ) where
  -- the bytes from o on, and the one at i behind n of them
  one_more : (o n i : ℕ) → o + n ≡ i → i < length s → take n (drop o s) ++ (get_or s i 0 ∷ []) ≡ take (n + 1) (drop o s)
  one_more o n i e h =
      rw (add-one n, take-suc (drop o s) n 0 (omega (arith, length-drop o s)), get_or-drop o s n 0, e)

  -- behind LF and behind a byte that joins
  begun-behind : (i : ℕ) → i < length s → Behind s (i + 1) (get_or s i 0 ∷ [])
  begun-behind i h = record { reach = omega arith; same = let q : i + 1 - 1 ≡ i = omega arith in rw q (one_more i 0 i (omega arith) h) }

  -- the whole of what is held, and one byte more
  joined : (i : ℕ) (h : List ℕ) → Behind s i h → i < length s → with (length h) h (get_or s i 0) ≡ take (length h + 1) (drop (i - length h) s)
  joined i h b l = rw (take-length h) (ap (λ (t : List ℕ). t ++ (get_or s i 0 ∷ [])) b.same ∙ one_more (i - length h) (length h) i (omega (arith, b.reach)) l)

  joined_length : (h : List ℕ) (byte : ℕ) → length (with (length h) h byte) ≡ length h + 1
  joined_length h byte = rw (take-length h) (length-append h (byte ∷ []))

  joined-behind : (i : ℕ) (h : List ℕ) → Behind s i h → i < length s → Behind s (i + 1) (with (length h) h (get_or s i 0))
  joined-behind i h b l =
      let n = joined_length h (get_or s i 0) in
      let q : i + 1 - (length h + 1) ≡ i - length h = omega arith in
      record { reach = omega (arith, n, b.reach); same = rw (n, q) (joined i h b l) }

  none-behind : (i : ℕ) → Behind s i []
  none-behind i = record { reach = omega arith; same = refl }

  -- the telegrams of the step from place i on, with bytes held, are what the search finds there and n searches more from its end on
  abbrev Same : ℕ → ℕ → List ℕ → Type 0
  Same n i h = gathered h (map Byte (drop i s)) ≡ finding s (cut_from (drop i s) (length h) i) (searched n s)

  at-end : (n i : ℕ) (h : List ℕ) → length s ≤ i → Same n i h
  unfolding gathered
  at-end n i h l = rw (none_left s (length h) i l, drop_of_length-le s l)

  -- before the end the step's byte is that at place i
  heard-at : (i : ℕ) (h : List ℕ) → i < length s
      → gathered h (map Byte (drop i s)) ≡ turning (turn_of (length h) (get_or s i 0)) h (get_or s i 0) (λ h'. gathered h' (map Byte (drop (i + 1) s)))
  unfolding gathered
  heard-at i h l = rw (drop-cons s i 0 l) (simp add-one)

  -- behind a telegram the step goes on as the next search does
  go_on : (k n i : ℕ) → length s ≤ i + k → k ≤ n → ((m : ℕ) → k ≤ suc m → Same m i []) → gathered [] (map Byte (drop i s)) ≡ searched n s i
  unfolding gathered searched span_of
  go_on k zero i l m same = rw (drop_of_length-le s (let h : length s ≤ i = omega arith in h))
  go_on k (suc n) i l m same = same n m

  onwards : (k n i : ℕ) (h : List ℕ) → length s ≤ i + k → k ≤ suc n → Behind s i h → Same n i h
  onwards zero n i h l m b = at-end n i h (omega arith)
  onwards (suc k) n i h l m b =
      order i (length s)
      (λ u. heard-at i h u ∙ turn u (turn_of (length h) (get_or s i 0)) (turn-case (length h) (get_or s i 0)) refl (λ n' h' m' b'. onwards k n' (i + 1) h' (omega arith) m' b'))
      (at-end n i h)
    where
      turn : i < length s → (t : Turn) → Case (length h) (get_or s i 0) t → turn_of (length h) (get_or s i 0) ≡ t
          → ((n' : ℕ) (h' : List ℕ) → k ≤ suc n' → Behind s (i + 1) h' → Same n' (i + 1) h')
          → turning t h (get_or s i 0) (λ h'. gathered h' (map Byte (drop (i + 1) s))) ≡ finding s (cut_from (drop i s) (length h) i) (searched n s)
      turn u t (begins c) e same = rw (on-joins s (length h) i 0 u e) (same n (get_or s i 0 ∷ []) (omega arith) (begun-behind i u))
      turn u t (skips c z) e same = rw (on-drops s (length h) i u e) (same n [] (omega arith) (none-behind (i + 1)))
      turn u t (ends c z) e same =
          let q : i + 1 - (i - length h) ≡ length h + 1 = omega (arith, b.reach) in
          rw (on-ends s (length h) i (length h) u e, q)
          (ap₂ (λ (p : List ℕ) (ps : List (List ℕ)). p ∷ ps) (joined i h b u) (go_on k n (i + 1) (omega arith) (omega arith) (λ n' m'. same n' [] m' (none-behind (i + 1)))))
      turn u t (drops c d z) e same = rw (on-drops s (length h) i u e) (same n [] (omega arith) (none-behind (i + 1)))
      turn u t (joins c d z v) e same =
          rw (on-joins s (length h) i (length h) u e, ← (joined_length h (get_or s i 0))) (same n (with (length h) h (get_or s i 0)) (omega arith) (joined-behind i h b u))

-- step and search hand out the same telegrams
pub same-telegrams : SameTelegrams
unfolding gathered
same-telegrams s n h = by-held (map Byte s) at_start start-range ∙ go_on s (length s) n 0 (omega arith) h (λ m k. onwards s (length s) m 0 [] (omega arith) k (none-behind s 0))
