-- A turn of a replay (rules Q9 to Q14). Assumes nothing.
use Rattle.std.specs.Prelude.{ℕ, ◌+◌, ◌-◌, cond, List, length, take, ◌==◌, nat_lt, slice_index}
use Rattle.characters.specs.Marks.{longest}
use Rattle.records.specs.Answers.{Outcome, written, refused}
use Rattle.records.specs.Refusals.{no}
use Rattle.text.specs.Putting.{placed}
use Rattle.desk.specs.State.{in_ranges}
use Rattle.pieces.specs.Counts.{wrapped}
use Rattle.pieces.specs.Tails.{tail_put}
use Rattle.pieces.specs.Line.{bad_line, line_named}
use Rattle.pieces.specs.Turns.{Turned, beside, Work, turn_by}
use Rattle.pieces.specs.declared.wants.Wants.{Wants}
use Rattle.pieces.specs.declared.wants.Wants.TheVariants.{Read, Again, End}
use Rattle.recordings.specs.declared.replay.part.Replayed.{Replayed}
use Rattle.logs.specs.Records.{head}
use Rattle.recordings.specs.Replay.Texts.{row_room, refused_text}
use Rattle.recordings.specs.Replay.Part.{part_of}
use Rattle.recordings.specs.declared.replay.state.Replayer.{Replayer}
use Rattle.recordings.specs.Replay.State.{begun_on, wants_for}

-- all is said
abbrev pub ended : Replayer → Replayer
ended m = record { desk = m.desk; ordinal = m.ordinal; base = m.base; held = m.held; wants = End }

-- 14 where there is no room for a row: the state has the blank desk of line 0. Then the input's first byte names the line; where it names none, or there is no
-- byte, `no 15 0` is all that is said
unfoldable pub opened_on : ℕ → List ℕ → Replayer × (Outcome × List ℕ)
opened_on line out =
    cond (nat_lt (length out) row_room) (begun_on 0, (refused (no 14 0), out))
    (cond (line == 0) (ended (begun_on line), (written (length bad_line), (placed bad_line 0 out).1)) (begun_on line, (written 0, out)))

abbrev pub opened_of : List ℕ → List ℕ → Replayer × (Outcome × List ℕ)
opened_of first out = opened_on (line_named (slice_index first 0)) out

-- the input is at its end: bytes that are still held are a record cut off
unfoldable pub last_of : Replayer → List ℕ → Replayer × (Outcome × List ℕ)
last_of m out =
    cond (m.held == 0) (ended m, (written 0, out)) (ended m, (written (length (refused_text 20 m.base)), (placed (refused_text 20 m.base) 0 out).1))

-- behind a part of n bytes those behind its records are kept in front, and ordinal and offset are moved on
abbrev pub behind : Replayer → ℕ → Replayed → Replayer
behind m n p = record { desk = p.desk; ordinal = p.ordinal; base = wrapped (m.base + p.next); held = n - p.next; wants = wants_for p.stop }

unfoldable pub carried : Replayer → List ℕ → ℕ → Replayed × List ℕ → Turned Replayer
carried m buf n (p, out) = (behind m n p, (written p.filled, ((tail_put p.next n buf).1, out)))

unfoldable pub carried_on : Replayer → List ℕ → ℕ → List ℕ → Turned Replayer
carried_on m buf n out = carried m buf n (part_of m.desk m.ordinal m.base (take n buf) out)

-- what a turn does with the bytes held and those got, by what was wanted; a read of nothing is the input's end
abbrev pub wanted_of : Wants → Replayer → List ℕ → ℕ → List ℕ → Turned Replayer
wanted_of Read m buf got out = cond (got == 0) (beside buf (last_of m out)) (carried_on m buf (m.held + got) out)
wanted_of Again m buf got out = carried_on m buf (m.held + got) out
wanted_of End m buf got out = (ended m, (written 0, (buf, out)))

-- a replay is work in pieces: a turn wants a desk in its ranges, a buffer of 73 bytes or more and an output of 1,024 or more
abbrev pub replaying : Work Replayer
replaying = record { fits = λ m. in_ranges m.desk; held = λ m. m.held; wants = λ m. m.wants; does = λ m. wanted_of m.wants m; buffer = head + longest; output = row_room }

abbrev pub turn_of : Replayer → List ℕ → ℕ → List ℕ → Turned Replayer
turn_of m buf got out = turn_by replaying m buf got out
