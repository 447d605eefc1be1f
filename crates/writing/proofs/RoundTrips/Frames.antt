-- Both round trips of a frame: what was framed passes checks 1 to 7, and what passes them is the frame of its parts. Assumes nothing.
use mathlib.Core.Path.{◌≡◌, refl, sym, ap, ◌∙◌}
use mathlib.Core.Bool.{true}
use mathlib.Core.List.{List, [], ◌∷◌, ◌++◌}
use Prim.Native.Nat.{ℕ, zero, suc, ◌+◌, ◌-◌, ◌≤◌, ◌<◌}
use Prim.Native.Char.{code}
use native.Mathlib.Omega.{arith}
use lib.Dec.{eqb, ltb}
use lib.ListN.{length, get_or, take, drop, length-append, length-drop, take-append-drop, drop_of_length-le}
use lib.Seq.{take_at, get_or-append-add, drop-cons, drop-drop, length-take-le}
use borrow.Author.Tests.{eqb-true, eq-eqb, leb-true, le-leb, ltb-true}
use Rattle.laws.specs.Text.{codes}
use Rattle.laws.specs.Truth.{one_of}
use Rattle.laws.specs.Numerals.{numeral_on}
use Rattle.laws.proofs.Truths.{both_left, both_right, both_true}
use Rattle.laws.proofs.Passes.{one_of-passes}
use Rattle.characters.specs.Checksum.{checksum_of, check_text}
use Rattle.reading.specs.Frame.{lf, cr, count_text, body_of, frame_of, tail_text, summed_of, field_of, is_two, frame_checks}
use Rattle.writing.proofs.RoundTrips.Faults.{Faultless, needs-held}

-- the two characters at a place, as a test and as two equations
two-of : (s : List ℕ) (at : ℕ) (text : List ℕ) → get_or s at 0 ≡ get_or text 0 0 → get_or s (at + 1) 0 ≡ get_or text 1 0 → is_two s at text ≡ true
two-of s at text h k = both_true _ _ (eq-eqb _ _ h) (eq-eqb _ _ k)

pub two-are : (s : List ℕ) (at : ℕ) (text : List ℕ) → is_two s at text ≡ true → (get_or s at 0 ≡ get_or text 0 0) × (get_or s (at + 1) 0 ≡ get_or text 1 0)
two-are s at text h =
    (eqb-true (get_or s at 0) (get_or text 0 0) (both_left _ _ h), eqb-true (get_or s (at + 1) 0) (get_or text 1 0) (both_right (eqb (get_or s at 0) (get_or text 0 0)) _ h))

-- the digit of the number 0 or 1 is one that check 7 wants
digit-of : (n : ℕ) → n < 2 → one_of (codes "01") (code "0" + n) ≡ true
digit-of zero h = refl
digit-of (suc zero) h = refl
digit-of (suc (suc n)) h = absurd (omega arith)

-- what checks 1 to 7 ask
pub record Framed (s : List ℕ) : Type 0 where
  pub long : 10 ≤ length s
  pub short : length s ≤ 66
  pub starts : get_or s 0 0 ≡ lf
  pub count : is_two s 1 (count_text (length s)) ≡ true
  pub ends : get_or s (length s - 1) 0 ≡ cr
  pub sum : is_two s (length s - 3) (check_text (checksum_of (summed_of s))) ≡ true
  pub number : one_of (codes "01") (get_or s 4 0) ≡ true

-- they find no fault just where it holds
pub framed-faultless : (s : List ℕ) → Framed s → Faultless (frame_checks s)
unfolding frame_checks
framed-faultless s f =
    let long = le-leb 10 (length s) f.long in
    let short = le-leb (length s) 66 f.short in
    let starts = eq-eqb (get_or s 0 0) lf f.starts in
    let ends = eq-eqb (get_or s (length s - 1) 0) cr f.ends in
    (rw long, (rw short, (rw starts, (rw f.count, (rw ends, (rw f.sum, (rw f.number, tt)))))))

pub faultless-framed : (s : List ℕ) → Faultless (frame_checks s) → Framed s
unfolding frame_checks
faultless-framed s a =
    record {
      long = leb-true _ _ (needs-held _ _ a.0);
      short = leb-true _ _ (needs-held _ _ a.1.0);
      starts = eqb-true _ _ (needs-held _ _ a.1.1.0);
      count = needs-held _ _ a.1.1.1.0;
      ends = eqb-true _ _ (needs-held _ _ a.1.1.1.1.0);
      sum = needs-held _ _ a.1.1.1.1.1.0;
      number = needs-held _ _ a.1.1.1.1.1.1.0;
    }

module _ (kind number : ℕ) (d : List ℕ) where
  -- the checksum and CR
  abbrev tail : List ℕ
  tail = tail_text (checksum_of (body_of kind number d))

  -- count, type and number are four bytes
  body-length : length (body_of kind number d) ≡ length d + 4
  unfolding body_of count_text numeral_on
  body-length = omega arith

  -- a telegram has 8 bytes besides its data field
  pub frame-length : length (frame_of kind number d) ≡ length d + 8
  unfolding frame_of check_text
  frame-length = omega (arith, body-length, length-append (body_of kind number d) tail)

  -- the type, the number and the field are read back
  pub frame-kind : get_or (frame_of kind number d) 3 0 ≡ kind
  unfolding frame_of body_of count_text numeral_on
  frame-kind = refl

  pub frame-number : get_or (frame_of kind number d) 4 0 ≡ code "0" + number
  unfolding frame_of body_of count_text numeral_on
  frame-number = refl

  -- the first letter stands at index 5
  pub frame-letter : 0 < length d → get_or (frame_of kind number d) 5 0 ≡ get_or d 0 0
  unfolding frame_of body_of count_text numeral_on
  frame-letter h = go d h
    where
      go : (e : List ℕ) → 0 < length e → get_or (e ++ tail) 0 0 ≡ get_or e 0 0
      go [] z = absurd (omega arith)
      go (b ∷ e) z = refl

  pub frame-field : field_of (frame_of kind number d) ≡ d
  unfolding field_of frame_of body_of count_text numeral_on
  frame-field = take_at d tail (length (frame_of kind number d) - 8) (omega (arith, frame-length))

  -- so are the bytes that were summed
  frame-summed : summed_of (frame_of kind number d) ≡ body_of kind number d
  unfolding summed_of frame_of
  frame-summed = take_at (body_of kind number d) tail (length (frame_of kind number d) - 4) (omega (arith, frame-length, body-length))

  -- what stands j places behind the data field
  at-end : (i j : ℕ) → i ≡ length d + 5 + j → get_or (frame_of kind number d) i 0 ≡ get_or tail j 0
  unfolding frame_of
  at-end i j e =
      let k : i ≡ length (lf ∷ body_of kind number d) + j = omega (arith, body-length) in
      rw k (get_or-append-add (lf ∷ body_of kind number d) tail j 0)

  -- the count and the checksum stand where they should
  frame-count : is_two (frame_of kind number d) 1 (count_text (length d + 8)) ≡ true
  unfolding frame_of body_of count_text numeral_on
  frame-count = two-of (frame_of kind number d) 1 (count_text (length d + 8)) refl refl

  frame-sum : is_two (frame_of kind number d) (length (frame_of kind number d) - 3) (check_text (checksum_of (body_of kind number d))) ≡ true
  unfolding check_text
  frame-sum =
      let l = frame-length in
      let at = length (frame_of kind number d) - 3 in
      two-of (frame_of kind number d) at (check_text (checksum_of (body_of kind number d))) (at-end at 0 (omega arith)) (at-end (at + 1) 1 (omega arith))

  -- what was framed passes checks 1 to 7
  pub frame-framed : 2 ≤ length d → length d ≤ 58 → number < 2 → Framed (frame_of kind number d)
  frame-framed lo hi n =
      let l = frame-length in
      record {
        long = omega arith;
        short = omega arith;
        starts = unfold frame_of in refl;
        count = rw frame-length frame-count;
        ends = unfold check_text in (at-end (length (frame_of kind number d) - 1) 2 (omega arith));
        sum = rw frame-summed frame-sum;
        number = rw frame-number (digit-of number n);
      }

-- the last three of a list
last-three : (s : List ℕ) (i j k : ℕ) → j ≡ suc i → k ≡ suc j → suc k ≡ length s → drop i s ≡ get_or s i 0 ∷ get_or s j 0 ∷ get_or s k 0 ∷ []
last-three s i j k e f h =
    cc (e, f, drop-cons s i 0 (omega arith), drop-cons s j 0 (omega arith), drop-cons s k 0 (omega arith), drop_of_length-le s {i = suc k} (omega arith))

-- a list of 8 or more is five, the field of a telegram, and the last three
parts : (s : List ℕ) → 8 ≤ length s → s ≡ get_or s 0 0 ∷ get_or s 1 0 ∷ get_or s 2 0 ∷ get_or s 3 0 ∷ get_or s 4 0 ∷ (field_of s ++ drop (length s - 3) s)
unfolding field_of
parts s h =
    let e : 5 + (length s - 8) ≡ length s - 3 = omega arith in
    cc (
      drop-cons s 0 0 (omega arith),
      drop-cons s 1 0 (omega arith),
      drop-cons s 2 0 (omega arith),
      drop-cons s 3 0 (omega arith),
      drop-cons s 4 0 (omega arith),
      take-append-drop (length s - 8) (drop 5 s),
      drop-drop (length s - 8) 5 s,
    )

module _ (s : List ℕ) (f : Framed s) where
  -- the bytes that are summed, made again of the telegram's parts
  abbrev body : List ℕ
  body = body_of (get_or s 3 0) (get_or s 4 0 - code "0") (field_of s)

  -- the field is 8 shorter than the telegram
  field-length : length (field_of s) + 8 ≡ length s
  unfolding field_of
  field-length = omega (arith, f.long, length-take-le (length s - 8) (drop 5 s) (omega (arith, length-drop 5 s)))

  -- the digit 0 or 1 is the digit of its number, and that is below 2
  framed-digit : code "0" + (get_or s 4 0 - code "0") ≡ get_or s 4 0
  framed-digit = eqb-true _ _ (one_of-passes (λ (b : ℕ). eqb (code "0" + (b - code "0")) b) (codes "01") (get_or s 4 0) refl f.number)

  pub framed-number : get_or s 4 0 - code "0" < 2
  framed-number = ltb-true _ _ (one_of-passes (λ (b : ℕ). ltb (b - code "0") 2) (codes "01") (get_or s 4 0) refl f.number)

  -- by checks 3, 4 and 7 the telegram is LF, that body and three bytes
  framed-body : s ≡ lf ∷ (body ++ drop (length s - 3) s)
  unfolding body_of count_text numeral_on
  framed-body =
      let c = two-are s 1 (count_text (length s)) f.count in
      rw field-length (cc (parts s (omega (arith, f.long)), f.starts, c.0, c.1, framed-digit))

  -- so the body is what its checksum sums
  framed-summed : summed_of s ≡ body
  unfolding summed_of
  framed-summed =
      let l = body-length (get_or s 3 0) (get_or s 4 0 - code "0") (field_of s) in
      let k = field-length in
      ap (λ (t : List ℕ). take (length s - 4) (drop 1 t)) framed-body ∙ take_at body (drop (length s - 3) s) (length s - 4) (omega arith)

  -- and by checks 5 and 6 the three bytes are its checksum and CR
  framed-tail : drop (length s - 3) s ≡ tail_text (checksum_of body)
  unfolding check_text
  framed-tail =
      let c = two-are s (length s - 3) (check_text (checksum_of (summed_of s))) f.sum in
      let l = f.long in
      cc (framed-summed, c.0, c.1, f.ends, last-three s (length s - 3) (length s - 3 + 1) (length s - 1) (omega arith) (omega arith) (omega arith))

  -- what passes checks 1 to 7 is the frame of its type, number and field
  pub framed-frame : frame_of (get_or s 3 0) (get_or s 4 0 - code "0") (field_of s) ≡ s
  unfolding frame_of
  framed-frame = rw (← framed-tail) (sym framed-body)
