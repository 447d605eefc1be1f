-- A capture read in any pieces is listed as in one go (rule P5). Assumes nothing.
use Rattle.std.proofs.Common.{◌≡◌, ℕ, ◌+◌, List, [], ◌∷◌, ◌++◌, length, drop, sym, refl, ap, ◌∙◌, append_assoc, append-nil, arith, length-append, length-drop}
use Rattle.pieces.specs.Counts.{wrapped}
use Rattle.captures.specs.Part.{spans_on, spans_of, lines_in, lines_of}
use Rattle.captures.specs.Whole.{next_ordinal, kept_of, run_of, joined, FewKept, InPieces}
use Rattle.captures.proofs.Whole.{in_two}

pub few-kept : FewKept
few-kept s = omega (arith, length-drop (kept_of s) s)

-- nothing is behind what is the same without it
nothing-behind : (xs ys : List ℕ) → xs ≡ xs ++ ys → ys ≡ []
nothing-behind xs [] h = refl
nothing-behind xs (y ∷ ys) h = let z : ⊥ = omega (arith, ap length h, length-append xs (y ∷ ys)) in absurd z

module _ (line : ℕ) where
  -- the bytes kept hold no telegram
  kept-none : (ordinal base : ℕ) (s : List ℕ) → lines_of line (next_ordinal ordinal (spans_of s 0)) (wrapped (base + kept_of s)) (drop (kept_of s) s) 0 ≡ []
  kept-none ordinal base s =
      nothing-behind (lines_of line ordinal base s 0) _
      (rw (append-nil s, append-nil (drop (kept_of s) s)) at (in_two s [] line ordinal base 0 (omega arith)))

  onwards : (pieces : List (List ℕ)) (ordinal base : ℕ) (kept : List ℕ) → lines_of line ordinal base kept 0 ≡ []
      → run_of line ordinal base kept pieces ≡ lines_of line ordinal base (kept ++ joined pieces) 0
  unfolding run_of
  onwards [] ordinal base kept h = rw (append-nil kept) (sym h)
  onwards (piece ∷ pieces) ordinal base kept h =
      let s = kept ++ piece in
      let later =
      onwards pieces (next_ordinal ordinal (spans_of (kept ++ piece) 0)) (wrapped (base + kept_of (kept ++ piece)))
      (drop (kept_of (kept ++ piece)) (kept ++ piece)) (kept-none ordinal base (kept ++ piece)) in
      ap (λ (t : List ℕ). lines_of line ordinal base (kept ++ piece) 0 ++ t) later
      ∙ sym (in_two (kept ++ piece) (joined pieces) line ordinal base 0 (omega arith))
      ∙ ap (λ (t : List ℕ). lines_of line ordinal base t 0) (append_assoc kept piece (joined pieces))

pub in_pieces : InPieces
unfolding lines_of lines_in spans_of spans_on
in_pieces line pieces = onwards line pieces 1 0 [] refl
