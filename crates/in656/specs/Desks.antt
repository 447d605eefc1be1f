-- The desk through the C face, on a state of bytes (include/in656.h; rules F2, F7). Assumes nothing.
use Rattle.std.specs.Prelude.{◌≡◌, ℕ, cond, List, [], eqb, length}
use Rattle.reading.specs.Reading.{reading_of}
use Rattle.desk.specs.Replying.{Origin, requested, queue, key, panel, contents, not_master, nothing_set}
use Rattle.desk.specs.declared.state.Desk.{Desk}
use Rattle.desk.specs.Answers.{Done}
use Rattle.desk.specs.Heard.{Told, refused, silent, fault, repeat, handled}
use Rattle.desk.specs.State.{start_of}
use Rattle.desk.specs.Panel.{tick_of, queue_of, set_of, key_of}
use Rattle.desk.specs.Clearing.{clear_queue_of, clear_set_of}
use Rattle.desk.specs.Hearing.{Hearing, hear_of}
use Rattle.blocks.specs.Layout.{filled}
use Rattle.blocks.specs.Record.{record_length, record_bytes}
use Rattle.blocks.specs.Desks.{desk_length, load_of, save_of}
use Rattle.in656.specs.declared.results.result.In656Result.{In656Result}
use Rattle.in656.specs.Results.Desks.{done_result, heard_result}
use Rattle.in656.specs.Results.Frames.{desk_frame, Tells}
use Rattle.in656.specs.Inputs.{key_in, line_for, record_meant}
use Rattle.in656.specs.Results.Result.{Call}

-- the bytes of a state behind a call: those of the new state, or as they were where it is refused
unfoldable pub desk_after : In656Result → Desk → List ℕ → List ℕ
desk_after r d b = cond (eqb r.refusal 0) (save_of d b) b

-- the result and the bytes behind a call that hears nothing
unfoldable pub stepped : Desk × Done → List ℕ → Call
stepped s b = (done_result s.1, desk_after (done_result s.1) s.0 b)

-- a start; 15 also where the state has another length
abbrev pub desk_start : List ℕ → ℕ → Call
desk_start b line = stepped (start_of (line_for desk_length b line)) b

abbrev pub desk_tick : List ℕ → ℕ → Call
desk_tick b time = stepped (tick_of (load_of b) time) b

-- the result, the state and the record block, which stays as it is
abbrev pub QueueCall : Type 0
QueueCall = In656Result × (List ℕ × List ℕ)

abbrev pub besides : Call → List ℕ → QueueCall
besides c block = (c.0, (c.1, block))

abbrev pub desk_queue : List ℕ → List ℕ → QueueCall
desk_queue b block = besides (stepped (queue_of (load_of b) (record_meant block)) b) block

abbrev pub desk_set : List ℕ → List ℕ → Call
desk_set b block = stepped (set_of (load_of b) (record_meant block)) b

abbrev pub desk_key : List ℕ → ℕ → Call
desk_key b position = stepped (key_of (load_of b) (key_in position)) b

abbrev pub desk_clear_queue : List ℕ → Call
desk_clear_queue b = stepped (clear_queue_of (load_of b)) b

abbrev pub desk_clear_set : List ℕ → Call
desk_clear_set b = stepped (clear_set_of (load_of b)) b

-- the record block behind a handled telegram: filled by the record that goes to the panel, or as it was
abbrev pub panel_block : Origin → List ℕ → List ℕ
panel_block requested block = block
panel_block queue block = block
panel_block (key position) block = block
panel_block (panel value rec) block = filled record_length (record_bytes rec) block
panel_block (contents value x) block = block
panel_block (not_master value) block = block
panel_block (nothing_set value) block = block

-- the record block behind a hearing
abbrev pub told_block : Told → List ℕ → List ℕ
told_block (refused x) block = block
told_block (silent noted x) block = block
told_block (fault noted value n) block = block
told_block (repeat n) block = block
told_block (handled noted origin n) block = panel_block origin block

-- the result, the state and the record block behind a hearing
unfoldable pub heard_parts : Desk → Told → List ℕ → List ℕ → In656Result × (List ℕ × List ℕ)
heard_parts d told b block = (heard_result told, (desk_after (heard_result told) d b, told_block told block))

-- and with the output
abbrev pub HearCall : Type 0
HearCall = In656Result × (List ℕ × (List ℕ × List ℕ))

unfoldable pub heard : ℕ → List ℕ → Hearing → List ℕ → List ℕ → HearCall
heard line frame h b block =
    (desk_frame h.1 line frame (heard_result h.1), (desk_after (heard_result h.1) h.0 b, (told_block h.1 block, h.2)))

-- a record block of another length is no room: 15, or else 14
unfoldable pub desk_hear : List ℕ → ℕ → List ℕ → List ℕ → List ℕ → HearCall
desk_hear b time frame block out =
    cond (eqb (length block) record_length)
    (heard (load_of b).line frame (hear_of (load_of b) time frame out) b block)
    (heard_result (hear_of (load_of b) time frame []).1, (b, (block, out)))

-- wherever a hearing is not refused, its result tells what the frame reads as on the state's line
abbrev pub DeskTells : Type 0
DeskTells = (b : List ℕ) (time : ℕ) (frame block out : List ℕ) → (desk_hear b time frame block out).0.refusal ≡ 0 → Tells (desk_hear b time frame block out).0 (reading_of (load_of b).line frame)
