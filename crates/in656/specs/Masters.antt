-- The master through the C face, on a state of bytes (include/in656.h; rules F3, F7). Assumes nothing.
use Rattle.std.specs.Prelude.{◌≡◌, ℕ, cond, List, [], eqb, length}
use Rattle.reading.specs.Reading.{reading_of}
use Rattle.master.specs.declared.state.Master.{Master}
use Rattle.master.specs.Answers.{Told, refused, nothing, sent, answered, other_kind, given_up, ignored}
use Rattle.master.specs.State.{start_of}
use Rattle.master.specs.Sending.{Behind, offer_of, tick_of}
use Rattle.master.specs.Hearing.{hear_of}
use Rattle.blocks.specs.Layout.{filled}
use Rattle.blocks.specs.Record.{record_length, record_bytes}
use Rattle.blocks.specs.Masters.{master_length, load_of, save_of}
use Rattle.in656.specs.declared.results.result.In656Result.{In656Result}
use Rattle.in656.specs.Results.Result.{Call}
use Rattle.in656.specs.Results.Masters.{told_result}
use Rattle.in656.specs.Results.Frames.{master_frame, Tells}
use Rattle.in656.specs.Inputs.{line_for, record_meant}
use Rattle.in656.specs.Telegrams.{filled_by}

-- the bytes of a state behind a call: those of the new state, or as they were where it is refused
unfoldable pub master_after : In656Result → Master → List ℕ → List ℕ
master_after r m b = cond (eqb r.refusal 0) (save_of m b) b

-- the result and the bytes behind a call
unfoldable pub stepped : Master × Told → List ℕ → Call
stepped s b = (told_result s.1, master_after (told_result s.1) s.0 b)

-- a start; 15 also where the state has another length
abbrev pub master_start : List ℕ → ℕ → ℕ → Call
master_start b line time = stepped (start_of (line_for master_length b line) time) b

-- the result, the state and the output behind a call that may send
abbrev pub SendCall : Type 0
SendCall = In656Result × (List ℕ × List ℕ)

abbrev pub sends : Behind → List ℕ → SendCall
sends s b = (told_result s.1.0, (master_after (told_result s.1.0) s.0 b, s.1.1))

abbrev pub master_offer : List ℕ → ℕ → List ℕ → List ℕ → SendCall
master_offer b time block out = sends (offer_of (load_of b) time (record_meant block) out) b

abbrev pub master_tick : List ℕ → ℕ → List ℕ → SendCall
master_tick b time out = sends (tick_of (load_of b) time out) b

-- the record block behind a hearing: filled by the answer's record, or as it was
abbrev pub answer_block : Told → List ℕ → List ℕ
answer_block (refused x) block = block
answer_block nothing block = block
answer_block (sent sending count n) block = block
answer_block (answered rec count) block = filled record_length (record_bytes rec) block
answer_block (other_kind answer count) block = filled_by answer block
answer_block (given_up cause count) block = block
answer_block (ignored why) block = block

-- the result, the state, the record block and the output behind a hearing
abbrev pub HearCall : Type 0
HearCall = In656Result × (List ℕ × (List ℕ × List ℕ))

unfoldable pub heard : ℕ → List ℕ → Behind → List ℕ → List ℕ → HearCall
heard line frame h b block =
    (master_frame h.1.0 line frame (told_result h.1.0), (master_after (told_result h.1.0) h.0 b, (answer_block h.1.0 block, h.1.1)))

-- a record block of another length is no room: 15, or else 14
unfoldable pub master_hear : List ℕ → ℕ → List ℕ → List ℕ → List ℕ → HearCall
master_hear b time frame block out =
    cond (eqb (length block) record_length)
    (heard (load_of b).line frame (hear_of (load_of b) time frame out) b block)
    (told_result (hear_of (load_of b) time frame []).1.0, (b, (block, out)))

-- wherever a hearing is not refused, its result tells what the frame reads as on the state's line
abbrev pub MasterTells : Type 0
MasterTells = (b : List ℕ) (time : ℕ) (frame block out : List ℕ) → (master_hear b time frame block out).0.refusal ≡ 0 → Tells (master_hear b time frame block out).0 (reading_of (load_of b).line frame)
