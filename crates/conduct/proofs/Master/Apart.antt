-- The paper's numbers and values tell the master's answers apart (rule G3). Assumes nothing.
use Rattle.std.specs.Prelude.{Result, Ok, Err}
use mathlib.Core.Path.{◌≡◌, refl, sym, ap, ◌∙◌}
use Rattle.records.specs.declared.refusals.Refusal.{Refusal}
use Rattle.records.specs.Answers.{Answer, accepted, answer_of}
use Rattle.records.specs.Answers as w
use Rattle.records.specs.declared.answers.Numbered.{Numbered}
use Rattle.master.specs.Answering.{Judged, failed, judged_of}
use Rattle.master.specs.Answering as j
use Rattle.master.specs.declared.answering.Verdict as v
use Rattle.master.specs.Answers.{Which, offered, again, poll, which_of, Ground, silence, rejected, ground_of, Why, free, run_out, other_number, why_of, Told, nothing, sent, answered, other_kind, given_up, ignored, told_of}
use Rattle.master.specs.declared.answers.Sending as s
use Rattle.master.specs.declared.answers.Cause as c
use Rattle.master.specs.declared.answers.Reason as r
use Rattle.master.specs.declared.answers.Answer as a
use Rattle.master.specs.Answers as t
use Rattle.conduct.specs.Master.Apart.{OneVerdict, OneAnswer}
use Rattle.records.proofs.Apart.{back_of, refusal-back}

-- the answer of what is told: of a reading
abbrev reading_back : Answer → Result Numbered Refusal
reading_back (accepted rec number) = Ok (record { rec = rec; number = number })
reading_back (w.refused x) = Err (back_of x)

reading-back : (x : Result Numbered Refusal) → reading_back (answer_of x) ≡ x
reading-back (Ok read) = refl
reading-back (Err x) = ap Err (refusal-back x)

-- of what a heard frame is
abbrev verdict_back : Judged → v.Verdict
verdict_back (j.refused x) = v.TheVariants.Refused (back_of x)
verdict_back j.other_number = v.TheVariants.OtherNumber
verdict_back failed = v.TheVariants.Failed
verdict_back (j.answered rec) = v.TheVariants.Answered rec
verdict_back (j.other_kind answer) = v.TheVariants.OtherKind (reading_back answer)

verdict-back : (x : v.Verdict) → verdict_back (judged_of x) ≡ x
verdict-back (v.TheVariants.Refused x) = ap v.TheVariants.Refused (refusal-back x)
verdict-back v.TheVariants.OtherNumber = refl
verdict-back v.TheVariants.Failed = refl
verdict-back (v.TheVariants.Answered rec) = refl
verdict-back (v.TheVariants.OtherKind reading) = ap v.TheVariants.OtherKind (reading-back reading)

-- of a sending
abbrev sending_back : Which → s.Sending
sending_back offered = s.TheVariants.Offered
sending_back again = s.TheVariants.Again
sending_back poll = s.TheVariants.Poll

sending-back : (x : s.Sending) → sending_back (which_of x) ≡ x
sending-back s.TheVariants.Offered = refl
sending-back s.TheVariants.Again = refl
sending-back s.TheVariants.Poll = refl

-- of a giving up
abbrev cause_back : Ground → c.Cause
cause_back silence = c.TheVariants.Silence
cause_back rejected = c.TheVariants.Rejected

cause-back : (x : c.Cause) → cause_back (ground_of x) ≡ x
cause-back c.TheVariants.Silence = refl
cause-back c.TheVariants.Rejected = refl

-- of a hearing that is ignored
abbrev reason_back : Why → r.Reason
reason_back free = r.TheVariants.Free
reason_back run_out = r.TheVariants.RunOut
reason_back (t.refused x) = r.TheVariants.Refused (back_of x)
reason_back other_number = r.TheVariants.OtherNumber

reason-back : (x : r.Reason) → reason_back (why_of x) ≡ x
reason-back r.TheVariants.Free = refl
reason-back r.TheVariants.RunOut = refl
reason-back (r.TheVariants.Refused x) = ap r.TheVariants.Refused (refusal-back x)
reason-back r.TheVariants.OtherNumber = refl

-- of a call
abbrev answer_back : Told → Result a.Answer Refusal
answer_back (t.refused x) = Err (back_of x)
answer_back nothing = Ok a.TheVariants.Nothing
answer_back (sent which count bytes) = Ok (a.TheVariants.Sent (sending_back which) count bytes)
answer_back (answered rec count) = Ok (a.TheVariants.Answered rec count)
answer_back (other_kind reading count) = Ok (a.TheVariants.OtherKind (reading_back reading) count)
answer_back (given_up ground count) = Ok (a.TheVariants.GivenUp (cause_back ground) count)
answer_back (ignored why) = Ok (a.TheVariants.Ignored (reason_back why))

answer-back : (x : Result a.Answer Refusal) → answer_back (told_of x) ≡ x
answer-back (Err x) = ap Err (refusal-back x)
answer-back (Ok a.TheVariants.Nothing) = refl
answer-back (Ok (a.TheVariants.Sent sending count bytes)) = rw (sending-back sending)
answer-back (Ok (a.TheVariants.Answered rec count)) = refl
answer-back (Ok (a.TheVariants.OtherKind reading count)) = rw (reading-back reading)
answer-back (Ok (a.TheVariants.GivenUp cause count)) = rw (cause-back cause)
answer-back (Ok (a.TheVariants.Ignored why)) = rw (reason-back why)

pub one-verdict : OneVerdict
one-verdict x y e = sym (verdict-back x) ∙ ap verdict_back e ∙ verdict-back y

pub one-answer : OneAnswer
one-answer x y e = sym (answer-back x) ∙ ap answer_back e ∙ answer-back y
