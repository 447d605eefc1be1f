-- The paper's numbers and values tell the master's answers apart, so that a promise through them allows one answer only
-- (rule G3). Assumes nothing.
use Rattle.std.specs.Prelude.{◌≡◌, Result}
use Rattle.master.specs.Answering.{judged_of}
use Rattle.master.specs.Answers.{told_of}
use Rattle.master.specs.declared.answering.Verdict.{Verdict}
use Rattle.records.specs.declared.refusals.Refusal.{Refusal}
use Rattle.master.specs.declared.answers.Answer.{Answer}

-- of what a heard frame is
abbrev pub OneVerdict : Type 0
OneVerdict = (x y : Verdict) → judged_of x ≡ judged_of y → x ≡ y

-- of a call
abbrev pub OneAnswer : Type 0
OneAnswer = (x y : Result Answer Refusal) → told_of x ≡ told_of y → x ≡ y
