-- What a result says of the frame that was heard (include/in656.h; rule F12). Assumes nothing.
use Rattle.std.specs.Prelude.{◌≡◌, List, ℕ, get_or}
use Rattle.records.specs.Refusals.{No, no}
use Rattle.records.specs.Answers.{Answer, accepted, refused}
use Rattle.reading.specs.Reading.{reading_of}
use Rattle.clock.specs.Counters.{number_in}
use Rattle.desk.specs.Heard as d
use Rattle.master.specs.Answers as m
use Rattle.in656.specs.declared.results.result.In656Result.{In656Result}
use Rattle.in656.specs.Results.Result.{with_contents, with_number}

-- with the refusal that a frame reads as; as it was where it reads
abbrev pub with_reading : In656Result → Answer → In656Result
with_reading r (accepted rec number) = r
with_reading r (refused x) = with_contents r x

-- with a frame's number
abbrev pub with_number_of : In656Result → List ℕ → In656Result
with_number_of r frame = with_number r (number_in (get_or frame 4 0))

-- a hearing of the desk: the number of a fault, a repeat and a handled telegram, and the refusal of a fault and of a repeat, which the desk does not tell
abbrev pub desk_frame : d.Told → ℕ → List ℕ → In656Result → In656Result
desk_frame (d.refused x) line frame r = r
desk_frame (d.silent noted x) line frame r = r
desk_frame (d.fault noted value n) line frame r = with_number_of (with_reading r (reading_of line frame)) frame
desk_frame (d.repeat n) line frame r = with_number_of (with_reading r (reading_of line frame)) frame
desk_frame (d.handled noted origin n) line frame r = with_number_of r frame

-- a frame that the master ignores: the refusal where it did not look at the frame's contents
abbrev pub ignored_frame : m.Why → ℕ → List ℕ → In656Result → In656Result
ignored_frame m.free line frame r = with_reading r (reading_of line frame)
ignored_frame m.run_out line frame r = with_reading r (reading_of line frame)
ignored_frame (m.Why.refused x) line frame r = r
ignored_frame m.other_number line frame r = with_reading r (reading_of line frame)

-- a hearing of the master
abbrev pub master_frame : m.Told → ℕ → List ℕ → In656Result → In656Result
master_frame (m.Told.refused x) line frame r = r
master_frame m.nothing line frame r = r
master_frame (m.sent sending count n) line frame r = r
master_frame (m.answered rec count) line frame r = r
master_frame (m.other_kind answer count) line frame r = r
master_frame (m.given_up cause count) line frame r = r
master_frame (m.ignored why) line frame r = ignored_frame why line frame r

-- the refusal that a frame reads as, number and place 0 where it reads
abbrev pub refusal_in : Answer → No
refusal_in (accepted rec number) = no 0 0
refusal_in (refused x) = x

-- contents and place say it
abbrev pub Tells : In656Result → Answer → Type 0
Tells r answer = (r.contents ≡ (refusal_in answer).number) × (r.place ≡ (refusal_in answer).place)
