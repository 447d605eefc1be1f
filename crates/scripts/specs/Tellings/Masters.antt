-- The master's answers as rows say them (docs/SCENES.md). Assumes nothing.
use Rattle.std.specs.Prelude.{List, ◌++◌, ℕ}
use Rattle.laws.specs.Text.{codes}
use Rattle.records.specs.declared.records.Record.{Record}
use Rattle.records.specs.Answers.{Answer}
use Rattle.records.specs.Answers as r
use Rattle.master.specs.Answers.{Which, Ground, Why, Told}
use Rattle.master.specs.Answers as t
use Rattle.text.specs.Items.{refusal_text, record_text}
use Rattle.text.specs.Amounts.{bytes_text, count_said}

-- which sending it is, its count and its bytes
abbrev pub which_text : Which → List ℕ
which_text t.offered = codes "sent"
which_text t.again = codes "sent again"
which_text t.poll = codes "polled"

unfoldable pub sent_text : Which → ℕ → ℕ → List ℕ
sent_text which count n = which_text which ++ (count_said count ++ (codes ", " ++ bytes_text n))

-- a permitted answer, and one of another kind with what it reads as
unfoldable pub answered_text : Record → ℕ → List ℕ
answered_text rec count = codes "answered" ++ (count_said count ++ (codes ", " ++ record_text rec))

abbrev pub answer_text : Answer → List ℕ
answer_text (r.accepted rec n) = record_text rec
answer_text (r.Answer.refused x) = refusal_text x

unfoldable pub other_kind_text : Answer → ℕ → List ℕ
other_kind_text x count = codes "another kind" ++ (count_said count ++ (codes ", " ++ answer_text x))

-- given up, on either ground
abbrev pub ground_text : Ground → List ℕ
ground_text t.silence = codes "silence"
ground_text t.rejected = codes "rejected"

unfoldable pub given_up_text : Ground → ℕ → List ℕ
given_up_text x count = codes "given up, " ++ (ground_text x ++ count_said count)

-- why a hearing was ignored
abbrev pub why_text : Why → List ℕ
why_text t.free = codes "free"
why_text t.run_out = codes "T2 run out"
why_text (t.Why.refused x) = refusal_text x
why_text t.other_number = codes "other number"

unfoldable pub ignored_text : Why → List ℕ
ignored_text x = codes "ignored, " ++ why_text x

-- what a call did
abbrev pub told_text : Told → List ℕ
told_text (t.Told.refused x) = refusal_text x
told_text t.nothing = codes "nothing"
told_text (t.sent which count n) = sent_text which count n
told_text (t.answered rec count) = answered_text rec count
told_text (t.other_kind x count) = other_kind_text x count
told_text (t.given_up x count) = given_up_text x count
told_text (t.ignored x) = ignored_text x
