-- The next telegram in bytes, cut and then read (rule C9). Assumes nothing.
use Rattle.std.specs.Prelude.{ℕ, ◌≡◌, cond, List, Option, None, Some, Result, Ok, Err}
use Rattle.records.specs.Refusals.{No, no, refusal_of}
use Rattle.forms.specs.Lines.{is_line}
use Rattle.records.specs.Answers.{Answer, answer_of}
use Rattle.reading.specs.Reading.{reading_of}
use Rattle.cutting.specs.Search.{Span, Found, Nothing, span_of, part_of}
use Rattle.cutting.specs.declared.cutting.Cut.{Cut}
use Rattle.records.specs.declared.refusals.Refusal.{Refusal}

-- what cutting and reading finds: nothing, a telegram from start to end with what it reads as, or a refusal's number and place
pub data Next : Type 0 where
  nothing : Next
  read : ℕ → ℕ → Answer → Next
  refused : No → Next

abbrev pub cutting_of : Result (Option Cut) Refusal → Next
cutting_of (Ok (Some cut)) = read cut.start cut.end (answer_of cut.reading)
cutting_of (Ok None) = nothing
cutting_of (Err x) = refused (refusal_of x)

-- a cut telegram is then read
abbrev pub read_at : ℕ → List ℕ → Span → Next
read_at line s (Found start end) = read start end (reading_of line (part_of s (Found start end)))
read_at line s Nothing = nothing

-- 15 comes before all
unfoldable pub next_of : ℕ → List ℕ → ℕ → Next
next_of line s from = cond (is_line line) (read_at line s (span_of s from)) (refused (no 15 0))

-- a promise through these definitions allows one answer only
abbrev pub OneCutting : Type 0
OneCutting = (a b : Result (Option Cut) Refusal) → cutting_of a ≡ cutting_of b → a ≡ b
