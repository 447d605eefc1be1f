-- The rows of a slice's records, as many as there is room for (rules Q9 to Q14). Assumes nothing.
use Rattle.std.specs.Prelude.{ℕ, ◌+◌, ◌-◌, Bool, true, false, cond, List, [], ◌∷◌, length, take, drop, ◌==◌, nat_lt}
use Rattle.text.specs.Putting.{placed}
use Rattle.pieces.specs.Counts.{wrapped}
use Rattle.desk.specs.declared.state.Desk.{Desk}
use Rattle.logs.specs.Records.{LogRecord}
use Rattle.logs.specs.Reader.{Found, found, end, refused, record_at}
use Rattle.logs.specs.Whole.{Ending, over, refusal, Log, size_of, log_of}
use Rattle.recordings.specs.Replay.Rows.{Row, row_of}
use Rattle.recordings.specs.declared.replay.part.Stop.{Stop}
use Rattle.recordings.specs.declared.replay.part.Stop.TheVariants.{Goes, Full, Waits, Over}
use Rattle.recordings.specs.declared.replay.part.Put.{Put}
use Rattle.recordings.specs.declared.replay.part.Replayed.{Replayed}
use Rattle.recordings.specs.Replay.Texts.{row_room, row_at, refused_text}

-- whether a row was put
abbrev pub goes_on : Stop → Bool
goes_on Goes = true
goes_on Full = false
goes_on Waits = false
goes_on Over = false

-- one record: the desk behind it, where the next begins, how many bytes its row has, and how it goes on
abbrev pub put : Desk → ℕ → ℕ → Stop → Put
put d behind n stop = record { desk = d; end = behind; length = n; stop = stop }

-- a text, from the front of an output
abbrev pub text_put : Desk → ℕ → Stop → List ℕ → List ℕ → Put × List ℕ
text_put d behind stop text out = (put d behind (length text) stop, (placed text 0 out).1)

unfoldable pub row_put : Row → ℕ → List ℕ → Put × List ℕ
row_put r behind out = text_put r.0 behind Goes r.1 out

-- 20 waits for bytes that may follow; any other refusal ends the replay
unfoldable pub refused_put : Desk → ℕ → ℕ → ℕ → List ℕ → Put × List ℕ
refused_put d number offset place out = cond (number == 20) (put d place 0 Waits, out) (text_put d place Over (refused_text number offset) out)

abbrev pub found_put : Found → Desk → ℕ → ℕ → List ℕ → ℕ → List ℕ → Put × List ℕ
found_put (found mark time start behind) d ordinal offset s place out = row_put (row_of mark d ordinal offset time (take (behind - start) (drop start s))) behind out
found_put end d ordinal offset s place out = (put d place 0 Waits, out)
found_put (refused x) d ordinal offset s place out = refused_put d x.number offset place out

-- the record at a place of s, with an offset of its own
unfoldable pub next_put : Desk → ℕ → ℕ → List ℕ → ℕ → List ℕ → Put × List ℕ
next_put d ordinal offset s place out = found_put (record_at s place) d ordinal offset s place out

-- how far a replay got
abbrev pub stopped : Desk → ℕ → ℕ → ℕ → Stop → Replayed
stopped d ordinal place filled stop = record { desk = d; ordinal = ordinal; next = place; filled = filled; stop = stop }

abbrev pub end_in : Ending → ℕ → Desk → ℕ → ℕ → ℕ → List ℕ → Replayed × List ℕ
end_in over base d ordinal place filled out = (stopped d ordinal place filled Waits, out)
end_in (refusal number) base d ordinal place filled out =
    cond (number == 20) (stopped d ordinal place filled Waits, out)
    (stopped d ordinal place (filled + length (refused_text number (wrapped (base + place)))) Over, (placed (refused_text number (wrapped (base + place))) filled out).1)

-- the rows of records, put into an output behind so many bytes of rows, while it has room for any row
unfoldable pub part_in : ℕ → List LogRecord → Ending → Desk → ℕ → ℕ → ℕ → List ℕ → Replayed × List ℕ
part_in base [] ending d ordinal place filled out =
    cond (nat_lt (length out - filled) row_room) (stopped d ordinal place filled Full, out) (end_in ending base d ordinal place filled out)
part_in base (r ∷ rs) ending d ordinal place filled out =
    cond (nat_lt (length out - filled) row_room) (stopped d ordinal place filled Full, out)
    (part_in base rs ending (row_at d ordinal (wrapped (base + place)) r).0 (wrapped (ordinal + 1)) (place + size_of r)
    (filled + length (row_at d ordinal (wrapped (base + place)) r).1) (placed (row_at d ordinal (wrapped (base + place)) r).1 filled out).1)

-- the log from a place of s on
abbrev pub log_from : List ℕ → ℕ → Log
log_from s place = log_of (drop place s)

unfoldable pub part_of : Desk → ℕ → ℕ → List ℕ → List ℕ → Replayed × List ℕ
part_of d ordinal base s out = part_in base (log_from s 0).0 (log_from s 0).1 d ordinal 0 0 out
