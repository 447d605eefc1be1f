-- What bytes read as has numbers of 64 bits only, in a record at most ten, and telegrams have at most 66 bytes. Assumes nothing.
use Rattle.std.specs.Prelude.{Option, None, Some}
use Rattle.std.proofs.Common.{◌≡◌, ℕ, zero, suc, ◌+◌, ◌-◌, ◌^◌, ◌<◌, ◌≤◌, Bool, true, false, cond, eqb, leb, List, [], ◌∷◌, length, get_or, take, drop, refl, add-zero, arith, lit<, length-drop, length-take, leb-true}
use Prim.Native.Char.{code}
use native.Mathlib.Nat.{pow-le-pow_right}
use Rattle.laws.specs.Text.{codes}
use Rattle.laws.specs.Truth.{All, one_of}
use Rattle.laws.specs.Numerals.{base, number_on}
use Rattle.laws.proofs.Passes.{on_test, order, every-all, all_map}
use Rattle.characters.specs.Characters.{in_set}
use Rattle.characters.specs.Marks.{longest}
use Rattle.forms.specs.Lines.{is_line}
use Rattle.forms.specs.Forms.{Slot, none, of_type, of_letter, forms, look_in, type_row, form_of, slots_in, count_of, slots_of, width_in, width_of}
use Rattle.forms.specs.declared.rows.Form.{Form}
use Rattle.records.specs.Answers.{Answer, accepted, refused, unless, Fault, good, fails, first_fault}
use Rattle.records.specs.Records.{type_of, letter_of, fields_of, values_of, record_of}
use Rattle.records.specs.Refusals.{No, no}
use Rattle.records.specs.declared.records.Record.{Record}
use Rattle.values.specs.Values.{narrow, value_of, permitted, row_of}
use Rattle.values.specs.Packets.{lead_of, is_decimal}
use Rattle.values.proofs.Digits.{no_digit, digit_more}
use Rattle.values.proofs.Texts.{narrow-says}
use Rattle.characters.specs.Checksum.{checksum_of, check_text}
use Rattle.reading.specs.Frame.{lf, cr, count_text, summed_of, is_two, needs, field_of, frame_checks}
use Rattle.reading.proofs.Framing.{long}
use Rattle.reading.proofs.Contents.{frame-bad}
use Rattle.reading.specs.Contents.{data_of, behind, data_behind, packet_value, outside, wrong_letter, bad_value, values_in, misshapen, row_in, field_checks}
use Rattle.reading.specs.Reading.{record_in, checks, reading_of}
use Rattle.text.specs.Numbers.{decimal_text}
use Rattle.text.proofs.Counts.{decimal-length, at-most-twenty}
use Rattle.writing.specs.Writing.{telegram_of}
use Rattle.writing.proofs.RoundTrips.Frames.{frame-length}
use Rattle.writing.proofs.RoundTrips.Fields.{data-length}

-- a number of 64 bits, and how many digits it has
abbrev pub Small : ℕ → Type 0
Small n = n < 2 ^ 64

pub digits : (n : ℕ) → Small n → length (decimal_text n) ≤ 20
digits n h = omega (arith, decimal-length n, at-most-twenty n h)

-- a choice has what both of its cases have
pub chosen : {A : Type 0} (P : A → Type 0) (b : Bool) (x y : A) → P x → P y → P (cond b x y)
chosen P true x y p q = p
chosen P false x y p q = q

-- characters say a number below that power of the base
said-below : (decimal : Bool) (s : List ℕ) (i a : ℕ) → a < base decimal ^ i → number_on decimal a s < base decimal ^ (i + length s)
unfolding number_on
said-below decimal [] i a h = rw (add-zero i) h
said-below decimal (b ∷ s) i a h =
    let e : i + 1 + length s ≡ i + suc (length s) = omega arith in
    rw e at (said-below decimal s (i + 1) _ (digit_more decimal i a b h))

-- so few of them say a small one
few-small : (decimal : Bool) (s : List ℕ) → length s ≤ 6 → (decimal ≡ false → length s ≤ 3) → Small (number_on decimal 0 s)
few-small true s a b =
    let k = said-below true s 0 0 (no_digit true) in
    let p : 10 ^ (0 + length s) ≤ 10 ^ 6 = pow-le-pow_right {n = 10} (lit< tt) {j = 6} (omega arith) in
    omega arith
few-small false s a b =
    let k = said-below false s 0 0 (no_digit false) in
    let l = b refl in
    let p : 256 ^ (0 + length s) ≤ 256 ^ 3 = pow-le-pow_right {n = 256} (lit< tt) {j = 3} (omega arith) in
    omega arith

pub value-small : (letter : ℕ) (text : List ℕ) → Small (value_of letter text)
unfolding value_of
value-small letter text =
    on_test (narrow letter (length text))
    (λ e.
    let w = narrow-says letter (length text) e in
    rw e
    (chosen (λ (t : List ℕ). Small (number_on (is_decimal letter) 0 t)) (eqb (lead_of letter) 0) text (drop 1 text)
    (few-small (is_decimal letter) text w.0 w.1)
    (few-small (is_decimal letter) (drop 1 text) (omega (arith, length-drop 1 text)) (λ f. let k = w.1 f in omega (arith, length-drop 1 text)))))
    (λ e. rw e (omega arith))

-- the values of a data field
all_small : (n : ℕ) (ps : List Slot) (d : List ℕ) → All Small (values_in n ps d)
unfolding values_in
all_small zero ps d = tt
all_small (suc n) [] d = (omega arith, all_small n [] d)
all_small (suc n) (p ∷ ps) d = (value-small p.letter (packet_value p d), all_small n ps (data_behind p d))

at_small : (vs : List ℕ) → All Small vs → (i : ℕ) → Small (get_or vs i 0)
at_small [] a zero = omega arith
at_small [] a (suc i) = omega arith
at_small (v ∷ vs) a zero = a.0
at_small (v ∷ vs) a (suc i) = at_small vs a.1 i

-- at most ten values, each of 64 bits
pub record Short (rec : Record) : Type 0 where
  pub few : length (fields_of rec) ≤ 10
  pub each : All Small (fields_of rec)

record-short : (kind : ℕ) (vs : List ℕ) → All Small vs → Short (record_of kind vs)
unfolding record_of
record-short kind vs a =
    by (eqb kind (code "N")) (record { few = omega arith; each = (at 0, tt) })
    (by (eqb kind (code "r")) (record { few = omega arith; each = (at 0, tt) })
    (by (eqb kind (code "t")) (record { few = omega arith; each = (at 0, tt) })
    (by (eqb kind (code "c")) (record { few = omega arith; each = (at 0, tt) })
    (by (eqb kind (code "5")) (record { few = omega arith; each = (at 0, tt) })
    (by (eqb kind (code "o")) (record { few = omega arith; each = (at 0, tt) })
    (by (eqb kind (code "G")) (record { few = omega arith; each = (at 0, tt) })
    (by (eqb kind (code "F")) (record { few = omega arith; each = (at 0, tt) })
    (by (eqb kind (code "n")) (record { few = omega arith; each = (at 0, tt) })
    (by (eqb kind (code "B")) (record { few = omega arith; each = (at 0, (at 1, (at 2, (at 3, tt)))) })
    (by (eqb kind (code "K")) (record { few = omega arith; each = (at 0, (at 1, (at 2, (at 3, (at 4, (at 5, tt)))))) })
    (by (eqb kind (code "O")) (record { few = omega arith; each = (at 0, (at 1, (at 2, (at 3, (at 4, (at 5, (at 6, tt))))))) })
    (by (eqb kind (code "1")) (record { few = omega arith; each = (at 0, (at 1, (at 2, (at 3, (at 4, (at 5, (at 6, (at 7, (at 8, (at 9, tt)))))))))) })
    (record { few = omega arith; each = (at 0, tt) })))))))))))))
  where
    at : (i : ℕ) → Small (get_or vs i 0)
    at = at_small vs a

    by : (b : Bool) {x y : Record} → Short x → Short y → Short (cond b x y)
    by b {x} {y} = chosen Short b x y

-- where a check finds its fault
abbrev Near : Option ℕ → Type 0
Near None = Unit {0}
Near (Some place) = Small place

needs-near : (b : Bool) (place : ℕ) → Small place → Near (needs b place)
needs-near true place h = tt
needs-near false place h = h

outside-near : (at : ℕ) (d : List ℕ) → Small (at + length d) → Near (outside at d)
unfolding outside
outside-near at [] h = tt
outside-near at (b ∷ d) h = chosen Near (in_set b) (outside (at + 1) d) (Some at) (outside-near (at + 1) d (omega arith)) (omega arith)

letter-near : (at : ℕ) (ps : List Slot) (d : List ℕ) → Small (at + width_in ps) → Near (wrong_letter at ps d)
unfolding wrong_letter width_in
letter-near at [] d h = tt
letter-near at (p ∷ ps) d h =
    chosen Near (eqb (get_or d 0 0) p.letter) (wrong_letter (behind p at) ps (data_behind p d)) (Some at) (letter-near (behind p at) ps (data_behind p d) (omega arith)) (omega arith)

value-near : (line kind at : ℕ) (ps : List Slot) (d : List ℕ) → Small (at + width_in ps) → Near (bad_value line kind at ps d)
unfolding bad_value width_in
value-near line kind at [] d h = tt
value-near line kind at (p ∷ ps) d h =
    chosen Near (permitted line kind p.letter (packet_value p d)) (bad_value line kind (behind p at) ps (data_behind p d)) (Some at)
    (value-near line kind (behind p at) ps (data_behind p d) (omega arith)) (omega arith)

-- what each form and what stands for none have, what a search gives has
looked : (P : Form → Type 0) (test : Form → Bool) (fs : List Form) → P none → All P fs → P (look_in fs test).form
unfolding look_in
looked P test [] n a = n
looked P test (f ∷ fs) n a = on_test (test f) (λ e. rw e a.0) (λ e. rw e (looked P test fs n a.1))

-- packets fill at most 58 bytes
abbrev Narrow : Form → Type 0
Narrow f = width_of f ≤ 58

narrow-forms : All Narrow forms
unfolding forms slots_in count_of slots_of width_in width_of
narrow-forms = all_map (λ (f : Form). leb (width_of f) 58 ≡ true) Narrow (λ f. leb-true (width_of f) 58) forms (every-all (λ (f : Form). leb (width_of f) 58) forms refl)

narrow-none : Narrow none
unfolding slots_in count_of slots_of width_in width_of
narrow-none = omega arith

form-narrow : (line kind letter : ℕ) → width_of (form_of line kind letter).form ≤ 58
unfolding form_of type_row
form-narrow line kind letter =
    on_test (look_in forms (of_letter line kind letter)).found
    (λ e. rw e (looked Narrow (of_letter line kind letter) forms narrow-none narrow-forms))
    (λ e. rw e (looked Narrow (of_type line kind) forms narrow-none narrow-forms))

-- a refusal, by the first check that finds a fault
pub record SmallNo (x : No) : Type 0 where
  pub number : Small x.number
  pub place : Small x.place

abbrev SmallFault : Fault → Type 0
SmallFault good = Unit {0}
SmallFault (fails x) = SmallNo x

first_small : (k : ℕ) (spots : List (Option ℕ)) → k + length spots ≤ 100 → All Near spots → SmallFault (first_fault k spots)
first_small k [] h a = tt
first_small k (None ∷ spots) h a = first_small (k + 1) spots (omega arith) a.1
first_small k (Some place ∷ spots) h a = record { number = omega arith; place = a.0 }

-- what bytes read as
abbrev pub SmallAnswer : Answer → Type 0
SmallAnswer (accepted rec n) = Short rec
SmallAnswer (refused x) = SmallNo x

module _ (line : ℕ) (s : List ℕ) where
  checks-near : length s ≤ 66 → All Near (checks line s)
  unfolding checks frame_checks field_checks field_of misshapen width_of
  checks-near h =
      let f = form-narrow line (get_or s 3 0) (get_or s 5 0) in
      let d : length (take (length s - 8) (drop 5 s)) ≤ 66 = omega (arith, length-take (length s - 8) (drop 5 s), length-drop 5 s) in
      let w : Small (5 + width_in (slots_of (row_in line s).form)) = omega (arith, f) in (
        needs-near (leb 10 (length s)) 0 (omega arith),
        (
          needs-near (leb (length s) 66) 0 (omega arith),
          (
            needs-near (eqb (get_or s 0 0) lf) 0 (omega arith),
            (
              needs-near (is_two s 1 (count_text (length s))) 1 (omega arith),
              (
                needs-near (eqb (get_or s (length s - 1) 0) cr) (length s - 1) (omega arith),
                (
                  needs-near (is_two s (length s - 3) (check_text (checksum_of (summed_of s)))) (length s - 3) (omega arith),
                  (
                    needs-near (one_of (codes "01") (get_or s 4 0)) 4 (omega arith),
                    (
                      needs-near (row_in line s).found 3 (omega arith),
                      (
                        outside-near 5 (take (length s - 8) (drop 5 s)) (omega (arith, d)),
                        (
                          chosen Near (eqb (length (take (length s - 8) (drop 5 s))) (width_in (slots_of (row_in line s).form))) _ _
                              (letter-near 5 (slots_of (row_in line s).form) (take (length s - 8) (drop 5 s)) w) (omega arith),
                          (value-near line (get_or s 3 0) 5 (slots_of (row_in line s).form) (take (length s - 8) (drop 5 s)) w, tt),
                        ),
                      ),
                    ),
                  ),
                ),
              ),
            ),
          ),
        ),
      )

  read_small : length s ≤ 66 → SmallAnswer (unless (first_fault 1 (checks line s)) (accepted (record_in line s) (get_or s 4 0 - code "0")))
  unfolding record_in
  read_small h = go (first_fault 1 (checks line s)) (first_small 1 (checks line s) (unfold checks frame_checks field_checks in omega arith) (checks-near h))
    where
      go : (f : Fault) → SmallFault f → SmallAnswer (unless f (accepted (record_in line s) (get_or s 4 0 - code "0")))
      go good k = record-short (get_or s 3 0) _ (all_small 10 (slots_of (row_in line s).form) (field_of s))
      go (fails x) k = k

  pub reading_small : SmallAnswer (reading_of line s)
  unfolding reading_of
  reading_small =
      on_test (is_line line)
      (λ e. order 66 (length s) (λ l. rw (← (frame-bad line s e (no 2 0) (long s (omega arith) l))) (record { number = omega arith; place = omega arith })) (λ l. rw e (read_small l)))
      (λ e. rw e (record { number = omega arith; place = omega arith }))

-- a telegram has at most 66 bytes, whatever its record
pub telegram-most : (line : ℕ) (rec : Record) (number : ℕ) → length (telegram_of line rec number) ≤ longest
unfolding telegram_of width_of
telegram-most line rec number =
    omega (
      arith,
      frame-length (type_of rec) number (data_of (slots_of (row_of line rec).form) (values_of rec)),
      data-length (slots_of (row_of line rec).form) (values_of rec),
      form-narrow line (type_of rec) (letter_of rec),
    )
