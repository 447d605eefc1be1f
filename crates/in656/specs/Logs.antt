-- Reading and writing a log record through the C face (include/in656.h; rules F1, F6, Q15). Assumes nothing.
use Rattle.std.specs.Prelude.{ℕ, cond, List, eqb, Option, None, Some}
use Rattle.logs.specs.declared.marks.Mark.{Mark}
use Rattle.records.specs.Refusals.{no}
use Rattle.logs.specs.declared.marks.Mark.TheVariants.{Master, Slave, Hit}
use Rattle.logs.specs.Records.{log_record}
use Rattle.logs.specs.Reader.{record_at}
use Rattle.logs.specs.Writer.{write_of}
use Rattle.in656.specs.declared.results.result.In656Result.{In656Result}
use Rattle.in656.specs.Results.Result.{Call, refusing}
use Rattle.in656.specs.Results.Logs.{mark_number, found_result}
use Rattle.in656.specs.Telegrams.{wrote}

-- the mark of a number; a number of no mark is unknown
unfoldable pub mark_in : ℕ → Option Mark
mark_in n =
    cond (eqb n (mark_number Master)) (Some Master)
    (cond (eqb n (mark_number Slave)) (Some Slave)
    (cond (eqb n (mark_number Hit)) (Some Hit) None))

-- the record that begins at an index of a log
abbrev pub log_read_call : List ℕ → ℕ → In656Result
log_read_call log from = found_result (record_at log from)

-- 18 for an unknown mark, then the writing
abbrev pub write_marked : Option Mark → ℕ → List ℕ → List ℕ → Call
write_marked None time bytes out = (refusing (no 18 0), out)
write_marked (Some mark) time bytes out = wrote (write_of (log_record mark time bytes) out)

abbrev pub log_write_call : ℕ → ℕ → List ℕ → List ℕ → Call
log_write_call mark time bytes out = write_marked (mark_in mark) time bytes out
