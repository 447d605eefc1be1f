-- A record is found where it stands whole. Assumes nothing.
use Rattle.std.specs.Prelude.{Option, None, Some}
use mathlib.Core.Path.{◌≡◌, refl, sym, ap, ◌∙◌}
use mathlib.Core.Bool.{Bool, true, false}
use mathlib.Core.List.{List, ◌++◌}
use Prim.Native.Nat.{ℕ, ◌+◌, ◌-◌, ◌≤◌, ◌<◌}
use native.Mathlib.Omega.{arith}
use lib.Dec.{ltb, eqb}
use lib.ListN.{length, take, drop, get_or, length-append, length-drop, get_or-append}
use lib.Seq.{drop-append-le, take-append-le}
use borrow.Author.Tests.{le-ltb, ne_eqb, ltb-true, ltb-false, leb-true, eqb-true, eqb-false}
use Rattle.records.specs.Refusals.{No}
use Rattle.laws.proofs.Passes.{on_test}
use Rattle.laws.proofs.Truths.{clash}
use Rattle.characters.specs.Marks.{longest}
use Rattle.text.specs.Fours.{four_said}
use Rattle.logs.specs.declared.marks.Mark.{Mark}
use Rattle.logs.specs.declared.marks.Mark.TheVariants.{Master, Slave, Hit}
use Rattle.logs.specs.Marks.{mark_of, may_have}
use Rattle.logs.specs.Records.{head}
use Rattle.logs.specs.Reader.{Found, found, end, refused, known_in, marked_in, record_in}
use Rattle.logs.specs.Inside.{Whole, FoundWhole, WholeFound, waits, Settled, FewWait}
use Rattle.logs.proofs.Found.{whole, behind-mark}

-- what is found, in its parts
abbrev is_found : Found → Bool
is_found (found mark time start behind) = true
is_found end = false
is_found (refused x) = false

abbrev mark_in : Found → Mark
mark_in (found mark time start behind) = mark
mark_in end = Master
mark_in (refused x) = Master

abbrev time_in : Found → ℕ
time_in (found mark time start behind) = time
time_in end = 0
time_in (refused x) = 0

abbrev start_in : Found → ℕ
start_in (found mark time start behind) = start
start_in end = 0
start_in (refused x) = 0

abbrev behind_in : Found → ℕ
behind_in (found mark time start behind) = behind
behind_in end = 0
behind_in (refused x) = 0

module _ (at : ℕ) (s : List ℕ) (mark : Mark) (time start behind : ℕ) where
  not-refused : (x : No) → refused x ≡ found mark time start behind → Whole at s mark time start behind
  not-refused x h = clash (ap is_found h)

  not_end : end ≡ found mark time start behind → Whole at s mark time start behind
  not_end h = clash (ap is_found h)

  -- behind a known mark
  known-whole : (m : Mark) → mark_of (get_or s 0 0) (get_or s 1 0) ≡ Some m → known_in m at s ≡ found mark time start behind → Whole at s mark time start behind
  unfolding known_in
  known-whole m e h =
      on_test (ltb (length s) head)
      (λ l. not-refused _ (rw l at h))
      (λ l.
      on_test (may_have m (get_or s 6 0))
      (λ p.
      on_test (ltb (length s - head) (get_or s 6 0))
      (λ k. not-refused _ (rw (l, p, k) at h))
      (λ k.
      let g : found m (four_said (take 4 (drop 2 s))) (at + head) (at + head + get_or s 6 0) ≡ found mark time start behind = rw (l, p, k) at h in
      record {
        mark-known = e ∙ ap Some (ap mark_in g);
        permitted = ap (λ (y : Mark). may_have y (get_or s 6 0)) (sym (ap mark_in g)) ∙ p;
        all_there = omega (arith, ltb-false (length s) head l, ltb-false (length s - head) (get_or s 6 0) k);
        time-said = ap time_in g;
        start-at = ap start_in g;
        behind-at = ap behind_in g;
      }))
      (λ p. not-refused _ (rw (l, p) at h)))

  marked-whole : (m : Option Mark) → mark_of (get_or s 0 0) (get_or s 1 0) ≡ m → marked_in m at s ≡ found mark time start behind → Whole at s mark time start behind
  marked-whole None e h = not-refused _ h
  marked-whole (Some m) e h = known-whole m e h

pub found-whole : FoundWhole
unfolding record_in
found-whole at s mark time start behind h =
    on_test (eqb (length s) 0)
    (λ e. not_end at s mark time start behind (rw e at h))
    (λ e.
    on_test (eqb (length s) 1)
    (λ f. not-refused at s mark time start behind _ (rw (e, f) at h))
    (λ f. marked-whole at s mark time start behind (mark_of (get_or s 0 0) (get_or s 1 0)) refl (rw (e, f) at h)))

pub whole-found : WholeFound
whole-found at s mark time start behind w =
    let k : known_in mark at s ≡ found mark (four_said (take 4 (drop 2 s))) (at + head) (at + head + get_or s 6 0) =
    sym (whole mark at s (get_or s 6 0) (get_or s 6 0) refl refl (omega (arith, w.all_there)) w.permitted (omega (arith, w.all_there)) (four_said (take 4 (drop 2 s))) (take 4 (drop 2 s)) refl refl) in
    let m : marked_in (mark_of (get_or s 0 0) (get_or s 1 0)) at s ≡ known_in mark at s = ap (λ (m : Option Mark). marked_in m at s) w.mark-known in
    sym (behind-mark at s (get_or s 0 0) (get_or s 1 0) (mark_of (get_or s 0 0) (get_or s 1 0)) (marked_in (mark_of (get_or s 0 0) (get_or s 1 0)) at s)
    (λ e. absurd (omega (arith, w.all_there, e))) (λ e. absurd (omega (arith, w.all_there, e))) refl refl refl refl)
    ∙ (m ∙ (k ∙ rw (w.time-said, w.behind-at, w.start-at)))

module _ (at : ℕ) (s more : List ℕ) where
  within : (k : ℕ) → k < length s → get_or (s ++ more) k 0 ≡ get_or s k 0
  within k h = get_or-append s more 0 k h

  time-still : head ≤ length s → take 4 (drop 2 (s ++ more)) ≡ take 4 (drop 2 s)
  time-still h = ap (take 4) (drop-append-le 2 s more (omega (arith, h))) ∙ take-append-le 4 (drop 2 s) more (omega (arith, h, length-drop 2 s))

  known-settled : (m : Mark) → waits (known_in m at s) ≡ false → known_in m at (s ++ more) ≡ known_in m at s
  unfolding known_in
  known-settled m h =
      on_test (ltb (length s) head)
      (λ l. clash (sym (rw l at h)))
      (λ l.
      let long = ltb-false (length s) head l in
      let more-long : ltb (length (s ++ more)) head ≡ false = le-ltb (length (s ++ more)) head (omega (arith, long, length-append s more)) in
      let n = within 6 (omega (arith, long)) in
      on_test (may_have m (get_or s 6 0))
      (λ p.
      on_test (ltb (length s - head) (get_or s 6 0))
      (λ k. clash (sym (rw (l, p, k) at h)))
      (λ k.
      let room : ltb (length (s ++ more) - head) (get_or s 6 0) ≡ false =
      le-ltb (length (s ++ more) - head) (get_or s 6 0) (omega (arith, ltb-false (length s - head) (get_or s 6 0) k, length-append s more)) in
      rw (more-long, n, time-still long, l, p, k, room)))
      (λ p. rw (more-long, n, l, p)))

  marked-settled : (m : Option Mark) → waits (marked_in m at s) ≡ false → marked_in m at (s ++ more) ≡ marked_in m at s
  marked-settled None h = refl
  marked-settled (Some m) h = known-settled m h

pub settled : Settled
unfolding record_in
settled at s more h =
    on_test (eqb (length s) 0)
    (λ e. clash (sym (rw e at h)))
    (λ e.
    on_test (eqb (length s) 1)
    (λ f. clash (sym (rw (e, f) at h)))
    (λ f.
    let not_None = eqb-false (length s) 0 e in
    let not-one = eqb-false (length s) 1 f in
    let a : eqb (length (s ++ more)) 0 ≡ false = ne_eqb (length (s ++ more)) 0 (λ z. absurd (omega (arith, not_None, z, length-append s more))) in
    let b : eqb (length (s ++ more)) 1 ≡ false = ne_eqb (length (s ++ more)) 1 (λ z. absurd (omega (arith, not_None, not-one, z, length-append s more))) in
    rw (a, b, within at s more 0 (omega (arith, not_None)), within at s more 1 (omega (arith, not_None, not-one)), e, f)
    (marked-settled at s more (mark_of (get_or s 0 0) (get_or s 1 0)) (rw (e, f) at h))))

-- a length that a record may have is at most 66
pub most_bytes : (mark : Mark) (n : ℕ) → may_have mark n ≡ true → n ≤ longest
most_bytes Master n h = leb-true n longest h
most_bytes Slave n h = leb-true n longest h
most_bytes Hit n h = omega (arith, eqb-true n 0 h)

module _ (at : ℕ) (s : List ℕ) where
  known-few : (m : Mark) → waits (known_in m at s) ≡ true → length s < head + longest
  unfolding known_in
  known-few m h =
      on_test (ltb (length s) head)
      (λ l. omega (arith, ltb-true (length s) head l))
      (λ l.
      on_test (may_have m (get_or s 6 0))
      (λ p.
      on_test (ltb (length s - head) (get_or s 6 0))
      (λ k. omega (arith, ltb-true (length s - head) (get_or s 6 0) k, most_bytes m (get_or s 6 0) p))
      (λ k. clash (rw (l, p, k) at h)))
      (λ p. clash (rw (l, p) at h)))

  marked-few : (m : Option Mark) → waits (marked_in m at s) ≡ true → length s < head + longest
  marked-few None h = clash h
  marked-few (Some m) h = known-few m h

pub few-wait : FewWait
unfolding record_in
few-wait at s h =
    on_test (eqb (length s) 0)
    (λ e. omega (arith, eqb-true (length s) 0 e))
    (λ e.
    on_test (eqb (length s) 1)
    (λ f. omega (arith, eqb-true (length s) 1 f))
    (λ f. marked-few at s (mark_of (get_or s 0 0) (get_or s 1 0)) (rw (e, f) at h)))
