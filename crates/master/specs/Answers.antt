-- What the master's calls answer, in the paper's numbers and values (rules M8, M10 to M16). Assumes nothing.
use Rattle.std.specs.Prelude.{ℕ, Result, Ok, Err}
use Rattle.records.specs.Refusals.{No, refusal_of}
use Rattle.records.specs.declared.records.Record.{Record}
use Rattle.records.specs.Answers.{Answer, answer_of}
use Rattle.master.specs.declared.answers.Sending as s
use Rattle.master.specs.declared.answers.Cause as c
use Rattle.master.specs.declared.answers.Reason as r
use Rattle.records.specs.declared.refusals.Refusal.{Refusal}
use Rattle.master.specs.declared.answers.Answer as a

-- which sending of a telegram it is: the first of an offered record, one again, or the first of a poll
pub data Which : Type 0 where
  offered : Which
  again : Which
  poll : Which

abbrev pub which_of : s.Sending → Which
which_of s.TheVariants.Offered = offered
which_of s.TheVariants.Again = again
which_of s.TheVariants.Poll = poll

-- on which ground a telegram was given up: T2 ran out behind the third sending, or N with 1 or 2 answered it
pub data Ground : Type 0 where
  silence : Ground
  rejected : Ground

abbrev pub ground_of : c.Cause → Ground
ground_of c.TheVariants.Silence = silence
ground_of c.TheVariants.Rejected = rejected

-- why a hearing was ignored: while free, when T2 has run out, when refused 1 to 7, or when the number is another
pub data Why : Type 0 where
  free : Why
  run_out : Why
  refused : No → Why
  other_number : Why

abbrev pub why_of : r.Reason → Why
why_of r.TheVariants.Free = free
why_of r.TheVariants.RunOut = run_out
why_of (r.TheVariants.Refused x) = refused (refusal_of x)
why_of r.TheVariants.OtherNumber = other_number

-- what a call did
pub data Told : Type 0 where
  refused : No → Told
  nothing : Told
  -- which sending, the sending count, and how many bytes
  sent : Which → ℕ → ℕ → Told
  -- a permitted answer with its record, and the sending count
  answered : Record → ℕ → Told
  -- an answer of another kind as it was read, and the sending count
  other_kind : Answer → ℕ → Told
  -- on which ground, and the sending count
  given_up : Ground → ℕ → Told
  ignored : Why → Told

abbrev pub did_of : a.Answer → Told
did_of a.TheVariants.Nothing = nothing
did_of (a.TheVariants.Sent sending count bytes) = sent (which_of sending) count bytes
did_of (a.TheVariants.Answered rec count) = answered rec count
did_of (a.TheVariants.OtherKind reading count) = other_kind (answer_of reading) count
did_of (a.TheVariants.GivenUp cause count) = given_up (ground_of cause) count
did_of (a.TheVariants.Ignored why) = ignored (why_of why)

abbrev pub told_of : Result a.Answer Refusal → Told
told_of (Ok answer) = did_of answer
told_of (Err x) = refused (refusal_of x)
