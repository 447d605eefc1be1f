-- Checks 1 to 7, one after the other. Assumes nothing.
use mathlib.Core.Path.{◌≡◌, sym, ap, ◌∙◌}
use mathlib.Core.Bool.{Bool, true, false}
use mathlib.Core.List.{List, [], ◌∷◌}
use Prim.Native.Nat.{ℕ, ◌+◌, ◌-◌, ◌/◌, ◌%◌, ◌≤◌, ◌<◌}
use lib.ListN.{length, drop, get_or}
use borrow.Author.Tests.{lt-leb, le-leb, eq-eqb, ne_eqb}
use Rattle.records.specs.Refusals.{no}
use Rattle.laws.specs.Truth.{one_of}
use Rattle.laws.specs.Text.{codes}
use Rattle.laws.specs.Numerals.{numeral_on}
use Rattle.characters.specs.Checksum.{hex_of, check_text, checksum_of}
use Rattle.records.specs.Answers.{fails, first_fault}
use Rattle.reading.specs.Frame.{needs, is_two, count_text, frame_checks, summed_of}

-- the two characters of the byte count
pub count-two : (n high low : ℕ) → high ≡ 48 + (n - 2) / 10 % 10 → low ≡ 48 + (n - 2) % 10 → high ∷ low ∷ [] ≡ count_text n
unfolding count_text numeral_on
count-two n high low e f = rw (e, f)

-- the two characters of the checksum
pub sum-two : (sum high low : ℕ) → high ≡ hex_of (sum / 16) → low ≡ hex_of sum → high ∷ low ∷ [] ≡ check_text sum
unfolding check_text
sum-two sum high low e f = rw (e, f)

module _ (s : List ℕ) where
  pub short : length s < 10 → fails (no 1 0) ≡ first_fault 1 (frame_checks s)
  unfolding frame_checks
  short h = rw (lt-leb _ _ h)

  pub long : 10 ≤ length s → 66 < length s → fails (no 2 0) ≡ first_fault 1 (frame_checks s)
  unfolding frame_checks
  long a h = rw (le-leb _ _ a, lt-leb _ _ h)

  pub no_start : 10 ≤ length s → length s ≤ 66 → (get_or s 0 0 ≡ 10 → ⊥) → fails (no 3 0) ≡ first_fault 1 (frame_checks s)
  unfolding frame_checks
  no_start a b h = rw (le-leb _ _ a, le-leb _ _ b, ne_eqb _ _ h)

  pub bad-count : 10 ≤ length s → length s ≤ 66 → get_or s 0 0 ≡ 10 → is_two s 1 (count_text (length s)) ≡ false → fails (no 4 1) ≡ first_fault 1 (frame_checks s)
  unfolding frame_checks
  bad-count a b c h = rw (le-leb _ _ a, le-leb _ _ b, eq-eqb _ _ c, h)

  pub to_end : 10 ≤ length s → length s ≤ 66 → get_or s 0 0 ≡ 10 → is_two s 1 (count_text (length s)) ≡ true → first_fault 5 (drop 4 (frame_checks s)) ≡ first_fault 1 (frame_checks s)
  unfolding frame_checks
  to_end a b c h = rw (le-leb _ _ a, le-leb _ _ b, eq-eqb _ _ c, h)

  pub no_end : (get_or s (length s - 1) 0 ≡ 13 → ⊥) → fails (no 5 (length s - 1)) ≡ first_fault 5 (drop 4 (frame_checks s))
  unfolding frame_checks
  no_end h = rw (ne_eqb _ _ h)

  -- the last byte is CR; the checksum's two characters, as the code comes to them, stand before it or not
  module _ {last : ℕ} (a : last ≡ get_or s (length s - 1) 0) (r : last ≡ 13) {part : List ℕ} {sum high low : ℕ} {two : Bool} (p : part ≡ summed_of s)
      (e : sum ≡ checksum_of part) (h : high ≡ hex_of (sum / 16)) (l : low ≡ hex_of sum) (t : two ≡ is_two s (length s - 3) (high ∷ low ∷ [])) where
    sum-test : is_two s (length s - 3) (check_text (checksum_of (summed_of s))) ≡ two
    sum-test = sym (t ∙ ap (is_two s (length s - 3)) (sum-two sum high low h l ∙ ap check_text (e ∙ ap checksum_of p)))

    pub bad_sum : two ≡ false → fails (no 6 (length s - 3)) ≡ first_fault 5 (drop 4 (frame_checks s))
    unfolding frame_checks
    bad_sum b = rw (eq-eqb _ _ (sym a ∙ r), sum-test, b)

    -- the number's check is the last
    pub to_number : two ≡ true → (test : Bool) → one_of (codes "01") (get_or s 4 0) ≡ test → first_fault 7 (needs test 4 ∷ []) ≡ first_fault 5 (drop 4 (frame_checks s))
    unfolding frame_checks
    to_number b test n = rw (eq-eqb _ _ (sym a ∙ r), sum-test, b, n)
