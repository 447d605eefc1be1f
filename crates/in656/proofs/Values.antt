-- The values of a record's block: where they lie, that they are the record's, and what putting one leaves. Assumes nothing.
use mathlib.Core.Path.{◌≡◌, refl, sym, ap, ◌∙◌}
use mathlib.Core.Bool.{Bool, true}
use mathlib.Core.List.{List, [], ◌∷◌, ◌++◌, append_assoc}
use Prim.Native.Nat.{ℕ, zero, suc, ◌+◌, ◌*◌, ◌≤◌, ◌<◌, ◌^◌}
use native.Mathlib.Omega.{arith}
use lib.Dec.{eqb, ltb, lit<}
use lib.ListN.{length, take, drop, get_or, replicate, length-drop, take-append-drop}
use lib.Seq.{take_at, drop_at, drop-nil, drop-append-le, take-append-le, drop-append-add, length-take-le, get_or-take}
use borrow.Author.Tests.{eq-eqb, eqb-true, lt-ltb, ltb-true}
use Rattle.laws.specs.Truth.{both, every, All, pad}
use Rattle.laws.proofs.Passes.{on_test, order, every-all, all_map}
use Rattle.laws.proofs.Truths.{both_left, both_right}
use Rattle.records.specs.Refusals.{No, no}
use Rattle.records.specs.declared.records.Record.{Record}
use Rattle.records.specs.Records.{type_of, fields_of, values_of, record_of}
use Rattle.forms.specs.declared.rows.Form.{Form}
use Rattle.forms.specs.Lines.{is_line}
use Rattle.forms.specs.Forms.{Slot, forms, slots_in, slots_of, count_of}
use Rattle.forms.proofs.Found.{found-row}
use Rattle.forms.proofs.Slots.{count_small}
use Rattle.text.specs.Fours.{four_bytes}
use Rattle.text.specs.Putting.{puts, placed}
use Rattle.text.proofs.Puts.{with-room, put-length, put-drop}
use Rattle.text.proofs.FourBytes.{four-length, four-back}
use Rattle.blocks.specs.Layout.{joined, stretch}
use Rattle.blocks.specs.Record.{text_length, record_length, record_bytes, Narrow}
use Rattle.blocks.proofs.Found.{pad-length, record-back, record-block}
use Rattle.blocks.proofs.Laid.{one-here, joined_length}
use Rattle.in656.specs.Inputs.{byte_or, line_in}
use Rattle.in656.specs.Packets.{row_meant, packet_count, no_slot, record_call, letter_place, at, refused, lying_in, row_in, lying, put_call, CountSame, letter_at, EachLies, ValueHeld, PutBack, OthersStay, AroundStays, RecordEmpty}
use Rattle.in656.proofs.Places.{packet-count}
use Rattle.in656.proofs.Said.{every_from, at_place}

pub count_same : CountSame
count_same = packet-count

few : (f : Form) → packet_count f ≤ 10
few f = omega (arith, packet-count f, count_small f)

-- each packet of each form has a letter of its own, which is a byte
abbrev own_letter : Form → ℕ → Slot → Bool
own_letter f i p = both (eqb (letter_place (slots_of f) p.letter) i) (ltb p.letter 256)

abbrev own_letters : Form → Bool
own_letters f = every_from (own_letter f) 0 (slots_of f)

own-letters : All (λ (f : Form). own_letters f ≡ true) forms
unfolding forms slots_of slots_in count_of letter_place
own-letters = every-all own_letters forms refl

-- so the packet at place i is found by its letter
by-letter : (f : Form) (i : ℕ) → own_letters f ≡ true → i < packet_count f → lying_in f (byte_or 0 (letter_at f i)) ≡ at (1 + 4 * i)
unfolding lying_in byte_or
by-letter f i h l =
    let o = at_place (own_letter f) no_slot 0 (slots_of f) i h l in
    let a = eqb (letter_place (slots_of f) (letter_at f i)) (i + 0) in
    let e = eqb-true (letter_place (slots_of f) (letter_at f i)) (i + 0) (both_left a (ltb (letter_at f i) 256) o) in
    let k : letter_place (slots_of f) (letter_at f i) ≡ i = omega (arith, e) in
    rw (both_right a (ltb (letter_at f i) 256) o, k, lt-ltb i (packet_count f) l)

pub each-lies : EachLies
unfolding lying
each-lies line b i o l =
    rw (o.known, eq-eqb (length b) record_length o.whole, o.found)
    (by-letter (row_in line b).form i (found-row (λ (f : Form). own_letters f ≡ true) (line_in line) (get_or b 0 0) own-letters 0 o.found).has l)

-- the values from the i-th on
joined-drop : (i : ℕ) (xs : List ℕ) → drop (4 * i) (joined four_bytes xs) ≡ joined four_bytes (drop i xs)
unfolding joined
joined-drop zero xs = refl
joined-drop (suc i) [] = drop-nil (4 * suc i)
joined-drop (suc i) (x ∷ xs) =
    let e : 4 * suc i ≡ length (four_bytes x) + 4 * i = omega (arith, four-length x) in
    rw (e, drop-append-add (four_bytes x) (joined four_bytes xs) (4 * i)) (joined-drop i xs)

-- the i-th value's bytes in a record's block
value-bytes : (rec : Record) (i : ℕ) → i < 10 → stretch (1 + 4 * i) 4 (record_bytes rec) ≡ four_bytes (get_or (values_of rec) i 0)
unfolding record_bytes
value-bytes rec i h =
    let vs = values_of rec in
    let v = get_or vs i 0 in
    let l = joined_length four_bytes 4 four-length vs in
    let n = pad-length 10 (fields_of rec) in
    let s : 1 + 4 * i ≡ suc (4 * i) = omega arith in
    rw (
      s,
      drop-append-le (4 * i) (joined four_bytes vs) (replicate text_length 0) (omega (arith, l, n)),
      joined-drop i vs,
      one-here four_bytes 0 vs i (omega (arith, n)),
      append_assoc (four_bytes v) (joined four_bytes (drop (i + 1) vs)) (replicate text_length 0),
    )
    (take_at (four_bytes v) (joined four_bytes (drop (i + 1) vs) ++ replicate text_length 0) 4 (four-length v))

padded : (n : ℕ) (xs : List ℕ) (i : ℕ) → All (λ (x : ℕ). x < 2 ^ 32) xs → get_or (pad n xs) i 0 < 2 ^ 32
padded zero xs i a = lit< tt
padded (suc n) [] zero a = lit< tt
padded (suc n) [] (suc i) a = padded n [] i tt
padded (suc n) (x ∷ xs) zero a = a.0
padded (suc n) (x ∷ xs) (suc i) a = padded n xs i a.1

pub value-held : ValueHeld
value-held line b rec i o e narrow l =
    let v = get_or (values_of rec) i 0 in
    let bytes : stretch (1 + 4 * i) 4 b ≡ four_bytes v =
    ap (stretch (1 + 4 * i) 4) (record-block rec b e) ∙ value-bytes rec i (omega (arith, l, few (row_in line b).form)) in
    rw (each-lies line b i o l, bytes, four-back v (padded 10 (fields_of rec) i narrow))

-- a value lies in a whole block, at a place of a value
never : {A : Type 0} (x : No) (n : ℕ) → refused x ≡ at n → A
never x n h = let z : ◌≡◌ {A = ℕ} 0 1 = cc in let y : ⊥ = omega arith in absurd y

same_place : (n m : ℕ) → at n ≡ at m → n ≡ m
same_place n m h = cc

pub record Slotted (b : List ℕ) (n : ℕ) : Type 0 where
  pub place : ℕ
  pub small : place < 10
  pub there : n ≡ 1 + 4 * place
  pub whole : length b ≡ record_length

slotted : (line : ℕ) (b : List ℕ) (letter n : ℕ) → lying line b letter ≡ at n → Slotted b n
unfolding lying lying_in
slotted line b letter n h =
    let f = (row_in line b).form in
    let p = letter_place (slots_of f) (byte_or 0 letter) in
    on_test (is_line (line_in line))
    (λ k.
    on_test (eqb (length b) record_length)
    (λ w.
    on_test (row_in line b).found
    (λ q.
    on_test (ltb p (packet_count f))
    (λ t.
    let e = same_place (1 + 4 * p) n (rw (k, w, q, t) at h) in
    record { place = p; small = omega (arith, ltb-true p (packet_count f) t, few f); there = sym e; whole = eqb-true (length b) record_length w })
    (λ t. never (no 10 0) n (rw (k, w, q, t) at h)))
    (λ q. never (no 12 0) n (rw (k, w, q) at h)))
    (λ w. never (no 12 0) n (rw (k, w) at h)))
    (λ k. never (no 15 0) n (rw k at h))

-- where a value lies depends on the block's length and type
lying-same : (line : ℕ) (b b' : List ℕ) (letter : ℕ) → length b' ≡ length b → get_or b' 0 0 ≡ get_or b 0 0 → lying line b' letter ≡ lying line b letter
unfolding lying
lying-same line b b' letter l t = rw (l, t)

-- a value put into a block
module _ (b : List ℕ) (n value : ℕ) (s : Slotted b n) where
  after : List ℕ
  after = (placed (four_bytes value) n b).1

  inside : n + 4 ≤ length b
  inside = omega (arith, s.small, s.there, s.whole)

  put-placed : (puts (four_bytes value) n b).1 ≡ after
  unfolding after
  put-placed = ap (λ (y : ℕ × List ℕ). y.1) (with-room (four_bytes value) n b (omega (arith, inside, four-length value)))

  after-length : length after ≡ length b
  unfolding after
  after-length = omega (arith, put-length (four_bytes value) b n (omega (arith, inside)), inside, four-length value)

  after_front : take n after ≡ take n b
  unfolding after placed
  after_front = take_at (take n b) (four_bytes value ++ drop (n + length (four_bytes value)) b) n (length-take-le n b (omega (arith, inside)))

  after-behind : (m : ℕ) → n + 4 ≤ m → drop m after ≡ drop m b
  unfolding after
  after-behind m h = put-drop (four_bytes value) b n (omega (arith, inside)) m (omega (arith, h, four-length value))

  after-type : get_or after 0 0 ≡ get_or b 0 0
  after-type =
      let l : 0 < n = omega (arith, s.there) in
      sym (get_or-take n after 0 0 l) ∙ ap (λ (x : List ℕ). get_or x 0 0) after_front ∙ get_or-take n b 0 0 l

  after-here : stretch n 4 after ≡ four_bytes value
  unfolding after placed
  after-here =
      rw (drop_at (take n b) (four_bytes value ++ drop (n + length (four_bytes value)) b) n (length-take-le n b (omega (arith, inside))))
      (take_at (four_bytes value) (drop (n + length (four_bytes value)) b) 4 (four-length value))

-- what stands in front does not depend on what follows
front_same : (p x y : List ℕ) (m k : ℕ) → m + k ≤ length p → take k (drop m (p ++ x)) ≡ take k (drop m (p ++ y))
front_same p x y m k h =
    let l : k ≤ length (drop m p) = omega (arith, length-drop m p, h) in
    rw (drop-append-le m p x (omega (arith, h)), drop-append-le m p y (omega (arith, h)), take-append-le k (drop m p) x l, take-append-le k (drop m p) y l)

before_same : (a b : List ℕ) (n m k : ℕ) → take n a ≡ take n b → n ≤ length a → m + k ≤ n → stretch m k a ≡ stretch m k b
before_same a b n m k e l h =
    let t = length-take-le n a l in
    ap (stretch m k) (sym (take-append-drop n a)) ∙ ap (λ (x : List ℕ). stretch m k (x ++ drop n a)) e
    ∙ front_same (take n b) (drop n a) (drop n b) m k (omega (arith, ap length e, t, h)) ∙ ap (stretch m k) (take-append-drop n b)

-- another value is in front or behind
other-value : (b : List ℕ) (n m value : ℕ) (s : Slotted b n) → Slotted b m → (n ≡ m → ⊥) → stretch m 4 (after b n value s) ≡ stretch m 4 b
other-value b n m value s t d =
    order m n
    (λ l.
    before_same (after b n value s) b n m 4 (after_front b n value s)
    (omega (arith, after-length b n value s, inside b n value s)) (omega (arith, s.there, t.there, l)))
    (λ l.
    let g : n < m = omega (arith, l, d) in
    ap (take 4) (after-behind b n value s m (omega (arith, s.there, t.there, g))))

pub put_back : PutBack
put_back line b letter value n h v =
    let s = slotted line b letter n h in
    let e : (put_call line b letter value).1 ≡ after b n value s = rw h (put-placed b n value s) in
    rw (e, lying-same line b (after b n value s) letter (after-length b n value s) (after-type b n value s), h, after-here b n value s, four-back value v)

pub others-stay : OthersStay
others-stay line b letter value n other m h k d =
    let s = slotted line b letter n h in
    let e : (put_call line b letter value).1 ≡ after b n value s = rw h (put-placed b n value s) in
    rw (e, lying-same line b (after b n value s) other (after-length b n value s) (after-type b n value s), k, other-value b n m value s (slotted line b other m k) d)

pub around-stays : AroundStays
around-stays line b letter value n h =
    let s = slotted line b letter n h in
    let e : (put_call line b letter value).1 ≡ after b n value s = rw h (put-placed b n value s) in
    rw e (omega (arith, s.there), after-length b n value s, after_front b n value s, after-behind b n value s (n + 4) (omega arith))

-- a type's record whose values are 0
abbrev Empty : Form → Type 0
Empty f = (type_of (record_of f.kind (replicate 10 0)) ≡ f.kind) × (values_of (record_of f.kind (replicate 10 0)) ≡ replicate 10 0) × (every (λ (n : ℕ). eqb n 0) (fields_of (record_of f.kind (replicate 10 0))) ≡ true)

each-empty : All Empty forms
unfolding forms record_of
each-empty = (
  (refl, refl, refl),
  (
    (refl, refl, refl),
    (
      (refl, refl, refl),
      (
        (refl, refl, refl),
        (
          (refl, refl, refl),
          (
            (refl, refl, refl),
            (
              (refl, refl, refl),
              (
                (refl, refl, refl),
                (
                  (refl, refl, refl),
                  (
                    (refl, refl, refl),
                    (
                      (refl, refl, refl),
                      ((refl, refl, refl), ((refl, refl, refl), ((refl, refl, refl), tt))),
                    ),
                  ),
                ),
              ),
            ),
          ),
        ),
      ),
    ),
  ),
)

pub record-empty : RecordEmpty
unfolding record_call
record-empty line kind first b rec k l h e =
    let f = found-row Empty (line_in line) (byte_or 0 kind) each-empty (byte_or 0 first) h in
    let t = f.of-type in
    let q : rec ≡ record_of (row_meant line kind first).form.kind (replicate 10 0) = rw t e in
    let zero-small : (n : ℕ) → eqb n 0 ≡ true → n < 2 ^ 32 = λ n z. omega (arith, eqb-true n 0 z) in
    let fs = fields_of (record_of (row_meant line kind first).form.kind (replicate 10 0)) in
    let narrow : Narrow rec = rw q (all_map (λ (n : ℕ). eqb n 0 ≡ true) (λ (n : ℕ). n < 2 ^ 32) zero-small fs (every-all (λ (n : ℕ). eqb n 0) fs f.has.2)) in
    (rw (k, eq-eqb (length b) record_length l, h, ← q) (record-back rec b narrow l), rw q (f.has.0 ∙ t), rw q f.has.1)
