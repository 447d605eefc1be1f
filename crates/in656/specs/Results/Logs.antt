-- The results of reading a log, as the header's tables say them (include/in656.h; rules F4, Q15). Assumes nothing.
use Rattle.std.specs.Prelude.{ℕ, ◌-◌}
use Rattle.logs.specs.declared.marks.Mark.{Mark}
use Rattle.logs.specs.declared.marks.Mark.TheVariants.{Master, Slave, Hit}
use Rattle.logs.specs.Reader.{Found, found, end, refused}
use Rattle.in656.specs.declared.results.result.In656Result.{In656Result}
use Rattle.in656.specs.Results.Result.{zeros, saying, refusing, with_place, with_written}

-- the numbers of the marks
abbrev pub mark_number : Mark → ℕ
mark_number Master = 1
mark_number Slave = 2
mark_number Hit = 3

-- what stands at a place of a log: its mark, its time, where its bytes begin and how many they are; all 0 at the end
abbrev pub found_result : Found → In656Result
found_result (found mark time start behind) = with_place (with_written (saying (mark_number mark) time) (behind - start)) start
found_result end = zeros
found_result (refused x) = refusing x
