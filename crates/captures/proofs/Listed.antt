-- One turn of the listing: a line is put, has no room, or none is left. Assumes nothing.
use Rattle.std.proofs.Common.{◌≡◌, ℕ, ◌+◌, ◌-◌, ◌<◌, ◌≤◌, Bool, true, false, cond, leb, List, [], ◌++◌}
use Rattle.std.proofs.Common.{length, drop, sym, refl, ap, ◌∙◌, append-nil, add-zero, arith, length-append, length-drop, take-append-drop, drop_of_length-le, take_all, drop-drop}
use borrow.Rule.Slice.PartMut.{put_mid, mid_of}
use Rattle.records.specs.Refusals.{no}
use Rattle.records.specs.Answers.{Outcome, written, refused, answer_of, outcome_of, Write}
use Rattle.std.specs.Prelude.{Result}
use Rattle.records.specs.declared.answers.Numbered.{Numbered}
use Rattle.records.specs.declared.refusals.Refusal.{Refusal}
use Rattle.reading.specs.Reading.{reading_of}
use Rattle.cutting.specs.Search.{Span, Found, Nothing, span_of, part_of}
use Rattle.text.specs.Putting.{placed}
use Rattle.pieces.specs.Counts.{wrapped}
use Rattle.captures.specs.Listing.{line_room, putting, line_put}
use Rattle.captures.specs.Part.{spans_of, line_at, NextLine, put, full, none_left, next_for, next_at, next_line_of, stopped, listed_in}
use Rattle.captures.proofs.Spans.{found_within, spans_step}

-- what putting a telegram's line does
module _ (line ordinal base : ℕ) (s : List ℕ) (place : ℕ) (out : List ℕ) where
  pub one-put : (start end offset : ℕ) (part : List ℕ) (reading : Result Numbered Refusal) (done : Result ℕ Refusal) (x : List ℕ) (outcome : Outcome)
      → span_of s place ≡ Found start end → offset ≡ wrapped (base + start) → part ≡ part_of s (Found start end) → answer_of reading ≡ reading_of line part
      → (outcome_of done, x) ≡ line_put ordinal offset (answer_of reading) out → outcome_of done ≡ outcome
      → (next_for end outcome, x) ≡ next_line_of line ordinal base s place out
  unfolding next_line_of line_at
  one-put start end offset part reading done x outcome f o p a e g =
      let r : answer_of reading ≡ reading_of line (part_of s (Found start end)) = a ∙ ap (reading_of line) p in
      let w : (outcome, x) ≡ putting (line_at line ordinal base s (start, end)) out = ap {B = Write} (λ (y : Outcome). (y, x)) (sym g) ∙ e ∙ rw (o, r) in
      rw f (ap {B = NextLine × List ℕ} (λ (y : Write). (next_for end y.0, y.1)) w)

-- the first of the lines, where there is room for it
first-line : (line ordinal base : ℕ) (s : List ℕ) (place : ℕ) (out : List ℕ) (filled start end : ℕ) → span_of s place ≡ Found start end
    → listed_in line base s (spans_of s place) place ordinal filled out
    ≡ cond (leb line_room (length out - filled))
    (listed_in line base s (spans_of s end) end (wrapped (ordinal + 1)) (filled + length (line_at line ordinal base s (start, end))) (placed (line_at line ordinal base s (start, end)) filled out).1)
    (stopped place ordinal filled false, out)
unfolding listed_in
first-line line ordinal base s place out filled start end h = rw (spans_step s place, h)

-- how the lines go on in an output that is filled so far
module _ (line ordinal base : ℕ) (s : List ℕ) (place : ℕ) (out : List ℕ) (filled : ℕ) (l : filled ≤ length out) where
  -- what is left of the output behind what is filled
  abbrev pub left : List ℕ
  left = mid_of filled (length out - filled) out

  left_is : left ≡ drop filled out
  left_is = take_all (length out - filled) (drop filled out) (omega (arith, length-drop filled out))

  pub left-length : length left ≡ length out - filled
  left-length = ap length left_is ∙ length-drop filled out

  -- a text in front of what is left
  put-left : (t x : List ℕ) → x ≡ t ++ drop (length t) left → put_mid filled (length out - filled) out x ≡ (placed t filled out).1
  unfolding placed
  put-left t x e =
      let g : length (drop filled out) ≤ length out - filled = omega (arith, length-drop filled out) in
      let n : drop (length out - filled) (drop filled out) ≡ [] = drop_of_length-le (drop filled out) g in
      rw (n, append-nil x, e, left_is, drop-drop (length t) filled out)

  -- what a step says of how the lines go on
  abbrev pub Told : NextLine → List ℕ → Type 0
  Told (put end n) x =
      (place < end) × (end ≤ length s) × (length x ≡ length left → filled + n ≤ length out)
      × (listed_in line base s (spans_of s end) end (wrapped (ordinal + 1)) (filled + n) (put_mid filled (length out - filled) out x) ≡ listed_in line base s (spans_of s place) place ordinal filled out)
  Told full x = (stopped place ordinal filled false, put_mid filled (length out - filled) out x) ≡ listed_in line base s (spans_of s place) place ordinal filled out
  Told none_left x = (stopped place ordinal filled true, put_mid filled (length out - filled) out x) ≡ listed_in line base s (spans_of s place) place ordinal filled out

  same_left : put_mid filled (length out - filled) out left ≡ out
  unfolding placed
  same_left = put-left [] left refl ∙ rw (add-zero filled) (take-append-drop filled out)

  found : (start end : ℕ) → span_of s place ≡ Found start end → Told (next_at line ordinal base s (Found start end) left).0 (next_at line ordinal base s (Found start end) left).1
  unfolding putting
  found start end h = go (leb line_room (length left)) refl
    where
      t : List ℕ
      t = line_at line ordinal base s (start, end)

      room : (b : Bool) → leb line_room (length left) ≡ b → listed_in line base s (spans_of s place) place ordinal filled out
          ≡ cond b (listed_in line base s (spans_of s end) end (wrapped (ordinal + 1)) (filled + length t) (placed t filled out).1) (stopped place ordinal filled false, out)
      room b q = first-line line ordinal base s place out filled start end h ∙ rw (← left-length, q)

      go : (b : Bool) → leb line_room (length left) ≡ b
          → Told (next_for end (cond {A = Write} b (written (length t), t ++ drop (length t) left) (refused (no 14 0), left)).0)
          (cond {A = Write} b (written (length t), t ++ drop (length t) left) (refused (no 14 0), left)).1
      go true q =
          let w = found_within s place start end h in (
            omega arith,
            w.2,
            λ k. omega (arith, length-append t (drop (length t) left), length-drop (length t) left, left-length),
            rw (put-left t (t ++ drop (length t) left) refl) (sym (room true q)),
          )
      go false q = rw same_left (sym (room false q))

  none : span_of s place ≡ Nothing → Told none_left left
  unfolding listed_in
  none h = rw (same_left, spans_step s place, h)

  told_at : (p : Span) → span_of s place ≡ p → Told (next_at line ordinal base s p left).0 (next_at line ordinal base s p left).1
  told_at (Found start end) h = found start end h
  told_at Nothing h = none h

  pub told : (r q : NextLine) (x : List ℕ) → (r, x) ≡ next_line_of line ordinal base s place left → r ≡ q → Told q x
  unfolding next_line_of
  told r q x e h = go (q, x) (ap {B = NextLine × List ℕ} (λ (y : NextLine). (y, x)) (sym h) ∙ e)
    where
      go : (y : NextLine × List ℕ) → y ≡ next_at line ordinal base s (span_of s place) left → Told y.0 y.1
      go y f = rw f (told_at (span_of s place) refl)
