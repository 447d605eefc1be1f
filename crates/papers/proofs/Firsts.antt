-- The places of refusals 9, 10 and 11 are the first faults of their kinds. Assumes nothing.
use Rattle.std.specs.Prelude.{Option, None, Some}
use mathlib.Core.Path.{◌≡◌, refl, sym, ap, ◌∙◌}
use mathlib.Core.Bool.{Bool, true, false}
use mathlib.Core.List.{List, [], ◌∷◌}
use Prim.Native.Nat.{ℕ, zero, suc, ◌+◌, ◌-◌, ◌≤◌, ◌<◌}
use native.Mathlib.Numerals.{add-one}
use native.Mathlib.Omega.{arith}
use lib.Dec.{eqb}
use lib.ListN.{length, get_or, take, drop, length-drop}
use lib.Seq.{length-take-le, drop-length, get_or-take, get_or-drop, take-take, drop-drop}
use borrow.Author.Tests.{eqb-true, eqb-false}
use Rattle.records.specs.Refusals.{No, no}
use Rattle.laws.proofs.Truths.{clash}
use Rattle.laws.proofs.Passes.{on_test, order, every-all}
use Rattle.characters.specs.Characters.{in_set}
use Rattle.forms.specs.Lines.{is_line}
use Rattle.forms.specs.Forms.{forms, Slot, slots_in, count_of, slots_of, width_in, width_of}
use Rattle.forms.specs.declared.rows.Form.{Form}
use Rattle.forms.proofs.Found.{found-row}
use Rattle.forms.proofs.Slots.{slots_end, width-here}
use Rattle.records.specs.Answers.{Answer, refused}
use Rattle.reading.specs.Frame.{field_of, frame_checks}
use Rattle.reading.specs.Contents.{row_in, outside, wrong_letter, bad_value, misshapen, field_checks}
use Rattle.reading.specs.Reading.{checks, reading_of}
use Rattle.papers.proofs.Walk.{byte-in, byte-out, letter-right, letter-wrong, value-right, value-wrong}
use Rattle.writing.proofs.RoundTrips.Faults.{needs-held, no-fault}
use Rattle.papers.specs.Order.{FirstCheck}
use Rattle.papers.specs.Firsts.{AllInside, FirstOutside, NineFirst, filled_by, letter_place, length_right, letter_right, value_right, EachPacket, FirstPacket, OwnRow, TenFirst, Shaped, ElevenFirst, AcceptedSound}
use Rattle.papers.proofs.Order.{refused-first, accepted-clean, no-line}

-- a walk along n things: it goes on over one that passes the test, stops at one that fails, and finds nothing behind the last
record Walk (n : ℕ) (test : ℕ → Bool) (place : ℕ → ℕ) : Type 0 where
  find : ℕ → Option ℕ
  on : (j : ℕ) → j < n → test j ≡ true → find j ≡ find (suc j)
  stop : (j : ℕ) → j < n → test j ≡ false → find j ≡ Some (place j)
  end : find n ≡ None

module _ (n : ℕ) (test : ℕ → Bool) (place : ℕ → ℕ) (x : Walk n test place) where
  -- the first that fails, and its place
  record FirstFailing (p : ℕ) : Type 0 where
    index : ℕ
    within : index < n
    at_place : p ≡ place index
    fails : test index ≡ false
    before : (i : ℕ) → i < index → test i ≡ true

  -- what the walk from j on finds, with k things left, where all before j pass
  finds-from : (k j p : ℕ) → j + k ≡ n → ((i : ℕ) → i < j → test i ≡ true) → x.find j ≡ Some p → FirstFailing p
  finds-from zero j p e b h = let q : j ≡ n = omega arith in let z = sym x.end ∙ ap x.find (sym q) ∙ h in clash (cc)
  finds-from (suc k) j p e b h =
      let l : j < n = omega arith in
      on_test (test j)
      (λ t.
      finds-from k (suc j) p (omega arith)
      (λ i a. order i j (b i) (λ c. let q : i ≡ j = omega arith in rw q t))
      (sym (x.on j l t) ∙ h))
      (λ t. let z : Some (place j) ≡ Some p = sym (x.stop j l t) ∙ h in record { index = j; within = l; at_place = cc; fails = t; before = b })

  finds-first : (p : ℕ) → x.find 0 ≡ Some p → FirstFailing p
  finds-first p h = finds-from n 0 p (omega arith) (λ i a. let z : ⊥ = omega arith in absurd z) h

  -- where the walk finds nothing from j on, all from j on pass
  none_from : (k j : ℕ) → j + k ≡ n → x.find j ≡ None → (i : ℕ) → j ≤ i → i < n → test i ≡ true
  none_from zero j e h i a b = let z : ⊥ = omega arith in absurd z
  none_from (suc k) j e h i a b =
      let l : j < n = omega arith in
      on_test (test j)
      (λ t. order j i (λ c. none_from k (suc j) (omega arith) (sym (x.on j l t) ∙ h) i c b) (λ c. let q : i ≡ j = omega arith in rw q t))
      (λ t. let z : Some (place j) ≡ None = sym (x.stop j l t) ∙ h in clash (cc))

  finds-none : x.find 0 ≡ None → (i : ℕ) → i < n → test i ≡ true
  finds-none h i = none_from n 0 (omega arith) h i (omega arith)

-- the data field is the bytes from index 5 on, 8 fewer than all
module _ (s : List ℕ) where
  field-length : length (field_of s) ≡ length s - 8
  unfolding field_of
  field-length = length-take-le (length s - 8) (drop 5 s) (omega (arith, length-drop 5 s))

  field-byte : (i : ℕ) → i < length s - 8 → get_or (field_of s) i 0 ≡ get_or s (5 + i) 0
  unfolding field_of
  field-byte i h = get_or-take (length s - 8) (drop 5 s) i 0 h ∙ get_or-drop 5 s i 0

  field-part : (i w : ℕ) → i + w ≤ length s - 8 → take w (drop i (field_of s)) ≡ take w (drop (5 + i) s)
  unfolding field_of
  field-part i w h = drop-take-part (length s - 8) i w (drop 5 s) h ∙ ap (λ (l : List ℕ). take w l) (drop-drop i 5 s)
    where
      drop-take-part : (m i w : ℕ) (l : List ℕ) → i + w ≤ m → take w (drop i (take m l)) ≡ take w (drop i l)
      drop-take-part m zero w l h = take-take w m l (omega arith)
      drop-take-part zero (suc i) w l h = absurd (omega arith)
      drop-take-part (suc m) (suc i) w [] h = refl
      drop-take-part (suc m) (suc i) w (x ∷ l) h = drop-take-part m i w l (omega arith)

  -- the walk along the bytes for one outside the set
  outsides : Walk (length s - 8) (λ i. in_set (get_or s (5 + i) 0)) (λ i. 5 + i)
  unfolding outside
  outsides =
      record {
        find = λ i. outside (5 + i) (drop i (field_of s));
        on = λ i h t. rw (add-one i) at (byte-in (field_of s) i (rw field-length h) (rw (field-byte i h) t));
        stop = λ i h t. byte-out (field_of s) i (rw field-length h) (rw (field-byte i h) t);
        end = rw (← field-length, drop-length (field_of s));
      }

  -- what it finds first, and where it finds nothing
  outside-first : (place : ℕ) → outside 5 (field_of s) ≡ Some place → FirstOutside s place
  unfolding outsides outside
  outside-first place h =
      let r = finds-first _ _ _ outsides place h in
      record {
        in_field = (omega (arith, r.at_place), omega (arith, r.at_place, r.within));
        outside = rw r.at_place r.fails;
        before = λ i a b.
            let e : i ≡ 5 + (i - 5) = omega arith in
            ap (λ (k : ℕ). in_set (get_or s k 0)) e ∙ r.before (i - 5) (omega (arith, r.at_place));
      }

  outside-none : outside 5 (field_of s) ≡ None → AllInside s
  unfolding outsides outside
  outside-none h i a =
      let e : i ≡ 5 + (i - 5) = omega (arith, a.0) in
      ap (λ (k : ℕ). in_set (get_or s k 0)) e ∙ finds-none _ _ _ outsides h (i - 5) (omega (arith, a.0, a.1))

-- the walks along the packets of a form, in a data field of its length
module _ (line : ℕ) (s : List ℕ) (f : Form) (right : length_right f s ≡ true) where
  abbrev rest_of : ℕ → List Slot
  rest_of j = slots_in (count_of f - j) (drop j f.letters) (drop j f.lens)

  -- the packets before one and those from it on fill the field
  filled-rest : (j : ℕ) → j ≤ count_of f → filled_by f j + width_in (rest_of j) ≡ width_of f
  unfolding width_of slots_of
  filled-rest zero h = let z : count_of f - 0 ≡ count_of f = omega arith in rw z (omega arith)
  filled-rest (suc j) h = let w = rw (add-one j) at (width-here f.letters f.lens (count_of f) j h) in omega (arith, filled-rest j (omega arith))

  -- so a packet lies within the field
  packet-within : (j : ℕ) → j < count_of f → filled_by f j + (1 + get_or f.lens j 0) ≤ length s - 8
  packet-within j h = omega (arith, filled-rest (suc j) h, eqb-true (length s - 8) (width_of f) right)

  same-letter : (j : ℕ) → j < count_of f → get_or (field_of s) (filled_by f j) 0 ≡ get_or s (letter_place f j) 0
  same-letter j h = field-byte s (filled_by f j) (omega (arith, packet-within j h))

  same-value : (j : ℕ) → j < count_of f → take (get_or f.lens j 0) (drop (filled_by f j + 1) (field_of s)) ≡ take (get_or f.lens j 0) (drop (letter_place f j + 1) s)
  same-value j h =
      let e : 5 + (filled_by f j + 1) ≡ letter_place f j + 1 = omega arith in
      field-part s (filled_by f j + 1) (get_or f.lens j 0) (omega (arith, packet-within j h)) ∙ rw e

  no-packets : rest_of (count_of f) ≡ []
  no-packets = slots_end (drop (count_of f) f.letters) (drop (count_of f) f.lens) (count_of f) (count_of f) (omega arith)

  all-packets : rest_of 0 ≡ slots_of f
  unfolding slots_of
  all-packets = let z : count_of f - 0 ≡ count_of f = omega arith in rw z

  letters : Walk (count_of f) (letter_right f s) (letter_place f)
  unfolding wrong_letter
  letters =
      record {
        find = λ j. wrong_letter (letter_place f j) (rest_of j) (drop (filled_by f j) (field_of s));
        on = λ j h t.
            rw (add-one j) at
            (letter-right f.letters f.lens (field_of s) (count_of f) j (filled_by f j) h (get_or f.lens j 0) refl (same-letter j h ∙ eqb-true _ _ t));
        stop = λ j h t.
            letter-wrong f.letters f.lens (field_of s) (count_of f) j (filled_by f j) h (λ e. eqb-false _ _ t (sym (same-letter j h) ∙ e));
        end = rw no-packets;
      }

  values : Walk (count_of f) (value_right line f s) (letter_place f)
  unfolding bad_value
  values =
      record {
        find = λ j. bad_value line (get_or s 3 0) (letter_place f j) (rest_of j) (drop (filled_by f j) (field_of s));
        on = λ j h t.
            rw (add-one j) at
            (value-right f.letters f.lens (field_of s) (count_of f) j (filled_by f j) h line (get_or s 3 0) (get_or f.lens j 0) refl (rw (same-value j h) t));
        stop = λ j h t.
            value-wrong f.letters f.lens (field_of s) (count_of f) j (filled_by f j) h line (get_or s 3 0) (get_or f.lens j 0) refl (rw (same-value j h) t);
        end = rw no-packets;
      }

  -- the first packet that fails a test
  first-packet : (test : ℕ → Bool) (x : Walk (count_of f) test (letter_place f)) (place : ℕ) → x.find 0 ≡ Some place → FirstPacket f test place
  first-packet test x place h =
      let r = finds-first _ _ _ x place h in
      record { packet = r.index; of-form = r.within; at-letter = r.at_place; fails = r.fails; before = λ j a. r.before j (omega arith) }

  letters-first : (place : ℕ) → wrong_letter 5 (slots_of f) (field_of s) ≡ Some place → FirstPacket f (letter_right f s) place
  unfolding letters
  letters-first place h = first-packet (letter_right f s) letters place (rw all-packets h)

  values-first : (place : ℕ) → bad_value line (get_or s 3 0) 5 (slots_of f) (field_of s) ≡ Some place → FirstPacket f (value_right line f s) place
  unfolding values
  values-first place h = first-packet (value_right line f s) values place (rw all-packets h)

  letters-none : wrong_letter 5 (slots_of f) (field_of s) ≡ None → EachPacket f (letter_right f s)
  unfolding letters
  letters-none h = finds-none _ _ _ letters (rw all-packets h)

  values-none : bad_value line (get_or s 3 0) 5 (slots_of f) (field_of s) ≡ None → EachPacket f (value_right line f s)
  unfolding values
  values-none h = finds-none _ _ _ values (rw all-packets h)

-- a refusal below 15 is on a line, and so the first check that finds a fault
first : (line : ℕ) (s : List ℕ) (k place : ℕ) → k < 15 → reading_of line s ≡ refused (no k place) → FirstCheck line s k place
first line s k place l h =
    on_test (is_line line)
    (λ e. refused-first line s k place e h)
    (λ e.
    let q : Answer.refused (no 15 0) ≡ refused (no k place) = sym (no-line line s e) ∙ h in
    let r : no 15 0 ≡ no k place = cc in
    let z : 15 ≡ k = ap (λ (x : No). x.number) r in
    absurd (omega arith))

-- the row of a type that is found
own : (line : ℕ) (s : List ℕ) → (row_in line s).found ≡ true → OwnRow line s (row_in line s).form
own line s h =
    let r = found-row (λ (f : Form). Unit {0}) line (get_or s 3 0) (unfold forms in search) (get_or s 5 0) h in
    record {
      of-table = λ test e. (found-row (λ (f : Form). test f ≡ true) line (get_or s 3 0) (every-all test forms e) (get_or s 5 0) h).has;
      of-type = r.of-type;
      on_line = r.on_line;
    }

-- bytes in which checks 8 to 10 find no fault
shaped : (line : ℕ) (s : List ℕ) → (row_in line s).found ≡ true → outside 5 (field_of s) ≡ None → misshapen (row_in line s).form (field_of s) ≡ None
    → Shaped line s (row_in line s).form
unfolding misshapen
shaped line s h o m =
    let f = (row_in line s).form in
    let n = no-fault (eqb (length (field_of s)) (width_of f)) 5 (wrong_letter 5 (slots_of f) (field_of s)) m in
    let right = rw (field-length s) at n.0 in
    record { own_row = own line s h; inside = outside-none s o; length-right = right; letters-right = letters-none line s f right n.1 }

pub nine-first : NineFirst
unfolding checks frame_checks field_checks
nine-first line s place h = outside-first s place (first line s 9 place (omega arith) h).finds

pub ten-first : TenFirst
unfolding checks frame_checks field_checks misshapen
ten-first line s place h =
    let c = first line s 10 place (omega arith) h in
    let m = rw (field-length s) at c.finds in
    record {
      own_row = own line s (needs-held (row_in line s).found 3 (c.none_before 8 (omega arith) (omega arith)));
      inside = outside-none s (c.none_before 9 (omega arith) (omega arith));
      another-length = λ e. let z : Some 5 ≡ Some place = rw e at m in cc;
      another-letter = λ e. letters-first line s (row_in line s).form e place (rw e at m);
    }

pub eleven-first : ElevenFirst
unfolding checks frame_checks field_checks
eleven-first line s place h =
    let c = first line s 11 place (omega arith) h in
    let found = needs-held (row_in line s).found 3 (c.none_before 8 (omega arith) (omega arith)) in
    let p = shaped line s found (c.none_before 9 (omega arith) (omega arith)) (c.none_before 10 (omega arith) (omega arith)) in
    (p, values-first line s (row_in line s).form p.length-right place c.finds)

pub accepted-sound : AcceptedSound
unfolding checks frame_checks field_checks
accepted-sound line s rec n h =
    let c = accepted-clean line s rec n h in
    let p = shaped line s (needs-held (row_in line s).found 3 (c 8)) (c 9) (c 10) in
    (p, values-none line s (row_in line s).form p.length-right (c 11))
