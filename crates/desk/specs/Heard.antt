-- What a hearing of the desk answers, in the paper's numbers and values (rules D4 to D12). Assumes nothing.
use Rattle.std.specs.Prelude.{ℕ, Bool, Result, Ok, Err}
use Prim.Native.Char.{code}
use Rattle.records.specs.Refusals.{No, refusal_of}
use Rattle.desk.specs.Replying.{Origin, origin_of}
use Rattle.records.specs.declared.refusals.Refusal.{Refusal}
use Rattle.desk.specs.declared.heard.Heard as h

-- what a hearing answers: a refusal; or, with whether the line was noted lost, that it is silent on a reading's refusal, sends N with what
-- it carries, or handles; or that it repeats. A sending ends with the number of its bytes
pub data Told : Type 0 where
  refused : No → Told
  silent : Bool → No → Told
  fault : Bool → ℕ → ℕ → Told
  repeat : ℕ → Told
  handled : Bool → Origin → ℕ → Told

abbrev pub hearing_of : h.Heard → Told
hearing_of (h.TheVariants.Silent noted x) = silent noted (refusal_of x)
hearing_of (h.TheVariants.Fault noted n) = fault noted (code "1") n
hearing_of (h.TheVariants.Repeat n) = repeat n
hearing_of (h.TheVariants.Handled noted source n) = handled noted (origin_of source) n

abbrev pub told_of : Result h.Heard Refusal → Told
told_of (Ok heard) = hearing_of heard
told_of (Err x) = refused (refusal_of x)
