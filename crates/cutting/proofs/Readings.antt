-- The three answers of cutting and reading. Assumes nothing.
use Rattle.std.specs.Prelude.{Result}
use mathlib.Core.Path.{◌≡◌, ap}
use mathlib.Core.Bool.{true, false}
use mathlib.Core.List.{List}
use Prim.Native.Nat.{ℕ}
use Rattle.records.specs.Refusals.{no}
use Rattle.forms.specs.Lines.{is_line}
use Rattle.records.specs.declared.answers.Numbered.{Numbered}
use Rattle.records.specs.declared.refusals.Refusal.{Refusal}
use Rattle.records.specs.Answers.{answer_of}
use Rattle.reading.specs.Reading.{reading_of}
use Rattle.cutting.specs.Search.{Found, Nothing, span_of, part_of}
use Rattle.cutting.specs.Cutting.{nothing, read, refused, next_of}

module _ (line : ℕ) (s : List ℕ) (from : ℕ) where
  pub bad-line : is_line line ≡ false → refused (no 15 0) ≡ next_of line s from
  unfolding next_of
  bad-line l = rw l

  pub nothing_left : is_line line ≡ true → span_of s from ≡ Nothing → nothing ≡ next_of line s from
  unfolding next_of
  nothing_left l e = rw (l, e)

  pub cut-and-read : (start end : ℕ) (part : List ℕ) (reading : Result Numbered Refusal) → is_line line ≡ true → span_of s from ≡ Found start end
      → part ≡ part_of s (Found start end) → answer_of reading ≡ reading_of line part → read start end (answer_of reading) ≡ next_of line s from
  unfolding next_of
  cut-and-read start end part reading l e p r = rw (l, e, ← p) (ap (read start end) r)
