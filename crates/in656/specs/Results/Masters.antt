-- The results of the master's calls, as the header's tables say them (include/in656.h). Assumes nothing.
use Rattle.std.specs.Prelude.{ℕ}
use Rattle.records.specs.Answers.{Answer, accepted}
use Rattle.records.specs.Answers as a
use Rattle.master.specs.Answers.{Which, offered, again, poll, Ground, silence, rejected, Why, free, run_out, other_number, Told, nothing, sent, answered, other_kind, given_up, ignored}
use Rattle.master.specs.Answers as m
use Rattle.in656.specs.declared.results.result.In656Result.{In656Result}
use Rattle.in656.specs.Results.Result.{saying, refusing, with_contents, with_written, with_count, with_record}

-- outcome
abbrev pub master_nothing : ℕ
master_nothing = 1

abbrev pub master_sent : ℕ
master_sent = 2

abbrev pub master_answered : ℕ
master_answered = 3

abbrev pub master_other_kind : ℕ
master_other_kind = 4

abbrev pub master_given_up : ℕ
master_given_up = 5

abbrev pub master_ignored : ℕ
master_ignored = 6

-- detail of a sending
abbrev pub sending_detail : Which → ℕ
sending_detail offered = 1
sending_detail again = 2
sending_detail poll = 3

-- detail of a giving up
abbrev pub cause_detail : Ground → ℕ
cause_detail silence = 1
cause_detail rejected = 2

-- detail of an ignored frame
abbrev pub ignored_free : ℕ
ignored_free = 1

abbrev pub ignored_run_out : ℕ
ignored_run_out = 2

abbrev pub ignored_contents : ℕ
ignored_contents = 3

abbrev pub ignored_other_number : ℕ
ignored_other_number = 4

-- an ignored frame, with why
abbrev pub ignored_result : Why → In656Result
ignored_result free = saying master_ignored ignored_free
ignored_result run_out = saying master_ignored ignored_run_out
ignored_result (m.Why.refused x) = with_contents (saying master_ignored ignored_contents) x
ignored_result other_number = saying master_ignored ignored_other_number

-- an answer of another kind: its record fills the block, or the refusal of its contents
abbrev pub other_result : Answer → In656Result
other_result (accepted rec number) = with_record (saying master_other_kind 0)
other_result (a.Answer.refused x) = with_contents (saying master_other_kind 0) x

-- what a call did
abbrev pub told_result : Told → In656Result
told_result (m.Told.refused x) = refusing x
told_result nothing = saying master_nothing 0
told_result (sent sending count n) = with_count (with_written (saying master_sent (sending_detail sending)) n) count
told_result (answered rec count) = with_count (with_record (saying master_answered 0)) count
told_result (other_kind answer count) = with_count (other_result answer) count
told_result (given_up cause count) = with_count (saying master_given_up (cause_detail cause)) count
told_result (ignored why) = ignored_result why
