-- The results of reading, writing, gathering and searching, as the header's tables say them (include/in656.h). Assumes nothing.
use Rattle.std.specs.Prelude.{ℕ, ◌-◌}
use Rattle.cutting.specs.Search.{Span, Found, Nothing}
use Rattle.records.specs.Answers.{Answer, accepted, Outcome, written}
use Rattle.records.specs.Answers as a
use Rattle.cutting.specs.Gather.{Cut, nothing, telegram}
use Rattle.cutting.specs.Gather as g
use Rattle.in656.specs.declared.results.result.In656Result.{In656Result}
use Rattle.in656.specs.Results.Result.{zeros, saying, refusing, with_place, with_written, with_number, with_record}

-- outcome of a gathered item and of a search: there is a telegram
abbrev pub is_telegram : ℕ
is_telegram = 1

-- reading answers number, and its record fills the block
abbrev pub read_result : Answer → In656Result
read_result (accepted rec number) = with_record (with_number zeros number)
read_result (a.Answer.refused x) = refusing x

-- writing answers written
abbrev pub write_result : Outcome → In656Result
write_result (written n) = with_written zeros n
write_result (a.Outcome.refused x) = refusing x

-- a gathered item: outcome 1 where it ends a telegram of so many bytes
abbrev pub cut_result : Cut → In656Result
cut_result nothing = zeros
cut_result (telegram n) = with_written (saying is_telegram 0) n
cut_result (g.Cut.refused x) = refusing x

-- a search: outcome 1, where the telegram begins, and how many bytes it has
abbrev pub span_result : Span → In656Result
span_result (Found start end) = with_place (with_written (saying is_telegram 0) (end - start)) start
span_result Nothing = zeros
