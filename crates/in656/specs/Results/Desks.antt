-- The results of the desk's calls, as the header's tables say them (include/in656.h). Assumes nothing.
use Rattle.std.specs.Prelude.{ℕ, true}
use Rattle.desk.specs.Replying.{Origin, requested, queue, key, panel, contents, not_master, nothing_set}
use Rattle.desk.specs.Answers.{Done, done, lost}
use Rattle.desk.specs.Heard.{Told, silent, fault, repeat, handled}
use Rattle.desk.specs.Answers as d
use Rattle.desk.specs.Heard as h
use Rattle.in656.specs.declared.results.result.In656Result.{In656Result}
use Rattle.in656.specs.Results.Result.{saying, refusing, with_contents, with_written, with_lost, with_record}

-- outcome
abbrev pub desk_done : ℕ
desk_done = 1

abbrev pub desk_silent : ℕ
desk_silent = 2

abbrev pub desk_fault : ℕ
desk_fault = 3

abbrev pub desk_repeat : ℕ
desk_repeat = 4

abbrev pub desk_handled : ℕ
desk_handled = 5

-- detail of a handled telegram
abbrev pub from_request : ℕ
from_request = 1

abbrev pub from_queue : ℕ
from_queue = 2

abbrev pub from_key : ℕ
from_key = 3

abbrev pub from_panel : ℕ
from_panel = 4

abbrev pub from_contents : ℕ
from_contents = 5

abbrev pub from_direction : ℕ
from_direction = 6

abbrev pub from_nothing : ℕ
from_nothing = 7

-- calls that hear nothing
abbrev pub done_result : Done → In656Result
done_result done = saying desk_done 0
done_result lost = with_lost (saying desk_done 0) true
done_result (d.Done.refused x) = refusing x

-- a handled telegram: where its answer comes from; the record for the panel fills the block
abbrev pub handled_result : Origin → In656Result
handled_result requested = saying desk_handled from_request
handled_result queue = saying desk_handled from_queue
handled_result (key position) = saying desk_handled from_key
handled_result (panel value rec) = with_record (saying desk_handled from_panel)
handled_result (contents value x) = with_contents (saying desk_handled from_contents) x
handled_result (not_master value) = saying desk_handled from_direction
handled_result (nothing_set value) = saying desk_handled from_nothing

-- a hearing
abbrev pub heard_result : Told → In656Result
heard_result (h.Told.refused x) = refusing x
heard_result (silent noted x) = with_lost (with_contents (saying desk_silent 0) x) noted
heard_result (fault noted value n) = with_lost (with_written (saying desk_fault 0) n) noted
heard_result (repeat n) = with_written (saying desk_repeat 0) n
heard_result (handled noted origin n) = with_lost (with_written (handled_result origin) n) noted
