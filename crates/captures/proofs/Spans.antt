-- The telegrams that repeated searching finds, one search after the other. Assumes nothing.
use Rattle.std.proofs.Common.{◌≡◌, ℕ, zero, suc, ◌+◌, ◌≤◌, List, ◌∷◌, length, refl, ap, arith}
use Rattle.cutting.specs.Search.{Span, Found, Nothing, span_of}
use Rattle.cutting.proofs.Steps.{none_left}
use Rattle.cutting.specs.Telegrams.{FirstTelegram}
use Rattle.cutting.proofs.First.{span-first}
use Rattle.captures.specs.Part.{spanning, spans_on, spans_of}

-- a telegram that is found lies behind the place and before the end
pub found_within : (s : List ℕ) (place start end : ℕ) → span_of s place ≡ Found start end → (place ≤ start) × (start + 2 ≤ end) × (end ≤ length s)
found_within s place start end h =
    let f : FirstTelegram s place (Found start end) = rw h at (span-first s place) in
    (f.0, f.1.long, f.1.within)

-- behind the end none is found
pub none-behind : (s : List ℕ) (place : ℕ) → length s ≤ place → span_of s place ≡ Nothing
unfolding span_of
none-behind s place h = none_left s 0 place h

-- as many searches as there are bytes left are enough
pub enough : (n m : ℕ) (s : List ℕ) (place : ℕ) → length s ≤ place + n → length s ≤ place + m → spans_on n s place ≡ spans_on m s place
unfolding spans_on
enough zero zero s place h g = refl
enough zero (suc m) s place h g = rw (none-behind s place (omega arith))
enough (suc n) zero s place h g = rw (none-behind s place (omega arith))
enough (suc n) (suc m) s place h g = go (span_of s place) refl (enough n m s)
  where
    go : (p : Span) → span_of s place ≡ p → ((q : ℕ) → length s ≤ q + n → length s ≤ q + m → spans_on n s q ≡ spans_on m s q)
        → spanning p (spans_on n s) ≡ spanning p (spans_on m s)
    go (Found start end) e same =
        let w = found_within s place start end e in
        ap (λ (ps : List (ℕ × ℕ)). (start, end) ∷ ps) (same end (omega arith) (omega arith))
    go Nothing e same = refl

-- the first telegram, and then those from its end on
pub spans_step : (s : List ℕ) (place : ℕ) → spans_of s place ≡ spanning (span_of s place) (spans_of s)
unfolding spans_of spans_on
spans_step s place = go (length s) (enough (length s) (suc (length s)) s place (omega arith) (omega arith))
  where
    go : (n : ℕ) → spans_on n s place ≡ spans_on (suc n) s place → spans_on n s place ≡ spanning (span_of s place) (spans_on n s)
    go n e = e
