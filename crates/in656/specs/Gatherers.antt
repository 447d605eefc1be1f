-- Gathering through the C face, on a state of bytes (include/in656.h; rules F1, F7). Assumes nothing.
use Rattle.std.specs.Prelude.{ℕ, cond, List, eqb, length}
use Rattle.records.specs.Refusals.{no}
use Rattle.cutting.specs.Gather.{Cut, at_start}
use Rattle.cutting.specs.declared.gather.Item.TheVariants.{Byte, Hit}
use Rattle.blocks.specs.Gatherers.{gatherer_length, save_of, gather_in}
use Rattle.in656.specs.Results.Result.{zeros, refusing, Call}
use Rattle.in656.specs.Results.Telegrams.{cut_result}

-- 15 where the state has another length
unfoldable pub gatherer_start : List ℕ → Call
gatherer_start b = cond (eqb (length b) gatherer_length) (zeros, save_of at_start b) (refusing (no 15 0), b)

-- the result of a step, and the bytes of the state behind it
abbrev pub gathered : Cut × List ℕ → Call
gathered s = (cut_result s.0, s.1)

abbrev pub gatherer_byte : List ℕ → ℕ → Call
gatherer_byte b byte = gathered (gather_in b (Byte byte))

abbrev pub gatherer_hit : List ℕ → Call
gatherer_hit b = gathered (gather_in b Hit)
