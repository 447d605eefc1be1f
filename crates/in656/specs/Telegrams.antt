-- Reading, writing and searching through the C face (include/in656.h; rules F1, F5, F7). Assumes nothing.
use Rattle.std.specs.Prelude.{ℕ, cond, List, eqb, length}
use Rattle.records.specs.Refusals.{no}
use Rattle.forms.specs.Lines.{is_line}
use Rattle.records.specs.Answers.{Answer, accepted, refused, Write}
use Rattle.reading.specs.Reading.{reading_of}
use Rattle.writing.specs.Writing.{writing_of}
use Rattle.cutting.specs.Search.{span_of}
use Rattle.blocks.specs.Layout.{filled}
use Rattle.blocks.specs.Record.{record_length, record_bytes, record_in}
use Rattle.in656.specs.declared.results.result.In656Result.{In656Result}
use Rattle.in656.specs.Results.Result.{Call, refusing}
use Rattle.in656.specs.Results.Telegrams.{read_result, write_result, span_result}
use Rattle.in656.specs.Inputs.{line_in, number_in, typed, record_meant}

-- the record block behind a reading: filled by its record, or as it was
abbrev pub filled_by : Answer → List ℕ → List ℕ
filled_by (accepted rec number) block = filled record_length (record_bytes rec) block
filled_by (refused x) block = block

-- 15, then 14 where the block has another length, then the reading
unfoldable pub read_call : ℕ → List ℕ → List ℕ → Call
read_call line frame block =
    cond (is_line (line_in line))
    (cond (eqb (length block) record_length)
    (read_result (reading_of (line_in line) frame), filled_by (reading_of (line_in line) frame) block)
    (refusing (no 14 0), block))
    (refusing (no 15 0), block)

abbrev pub wrote : Write → Call
wrote w = (write_result w.0, w.1)

-- 15, then 12 where the block is of no record's type, then the writing
unfoldable pub write_call : ℕ → List ℕ → ℕ → List ℕ → Call
write_call line block number out =
    cond (is_line (line_in line))
    (cond (typed (record_in block))
    (wrote (writing_of (line_in line) (record_meant block) (number_in number) out))
    (refusing (no 12 0), out))
    (refusing (no 15 0), out)

-- the next telegram of a slice
abbrev pub next_call : List ℕ → ℕ → In656Result
next_call s from = span_result (span_of s from)
