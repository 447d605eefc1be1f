-- A turn of a listing (rules P2, P3, P5, P10). Assumes nothing.
use Rattle.std.specs.Prelude.{ℕ, ◌+◌, ◌-◌, cond, List, take}
use Rattle.characters.specs.Marks.{longest}
use Rattle.records.specs.Answers.{Outcome, written}
use Rattle.text.specs.Putting.{puts}
use Rattle.captures.specs.declared.part.Listed.{Listed}
use Rattle.pieces.specs.Counts.{wrapped}
use Rattle.captures.specs.Listing.{line_room}
use Rattle.captures.specs.Part.{list_part, kept_from}
use Rattle.pieces.specs.Tails.{tail_put}
use Rattle.pieces.specs.Turns.{Turned, beside, Work, turn_by}
use Rattle.captures.specs.declared.lister.Lister.{Lister}
use Rattle.captures.specs.declared.lister.Task.{Task}
use Rattle.captures.specs.declared.lister.Task.TheVariants.{Lists, Unnamed, Over}
use Rattle.pieces.specs.declared.wants.Wants.TheVariants.{Read, Again}
use Rattle.captures.specs.Lister.{place_fits, task_for, ended}
use Rattle.pieces.specs.Line.{bad_line}

-- the output is full: the n bytes stay, and the listing goes on among them
abbrev pub again : Lister → ℕ → Listed → ℕ → Lister
again m line listed n = record { line = line; held = n; next = listed.next; ordinal = listed.ordinal; base = m.base; wants = Again }

-- behind the telegrams of n bytes, of which those from a place on are kept: ordinal and offset are moved on
abbrev pub behind : Lister → ℕ → ℕ → ℕ → ℕ → Lister
behind m line ordinal place n = record { line = line; held = n - place; next = 0; ordinal = ordinal; base = wrapped (m.base + place); wants = Read }

-- no input, or another first byte: `no 15 0`, and nothing else
unfoldable pub unnamed : Lister → List ℕ → Lister × (Outcome × List ℕ)
unnamed m out = (ended m, (written (puts bad_line 0 out).0, (puts bad_line 0 out).1))

-- behind a listing of n bytes: those from behind the last telegram on are kept in front, at most 65 of them; or there was no room for all lines
unfoldable pub carried : Lister → ℕ → List ℕ → ℕ → Listed × List ℕ → Turned Lister
carried m line buf n (listed, out) =
    cond listed.done
    (behind m line listed.ordinal (kept_from listed.next n) n, (written listed.filled, ((tail_put (kept_from listed.next n) n buf).1, out)))
    (again m line listed n, (written listed.filled, (buf, out)))

-- the lines of the first n bytes from the state's place on
unfoldable pub carried_on : Lister → ℕ → List ℕ → ℕ → List ℕ → Turned Lister
carried_on m line buf n out = carried m line buf n (list_part line m.ordinal m.base (take n buf) m.next out)

-- what a turn does with the first n bytes
abbrev pub done_by : Task → Lister → List ℕ → ℕ → List ℕ → Turned Lister
done_by (Lists line) m buf n out = carried_on m line buf n out
done_by Unnamed m buf n out = beside buf (unnamed m out)
done_by Over m buf n out = (ended m, (written 0, (buf, out)))

-- the bytes at hand are those held and those got
abbrev pub wanted_of : Lister → List ℕ → ℕ → List ℕ → Turned Lister
wanted_of m buf got out = done_by (task_for m.wants m got (take (m.held + got) buf)) m buf (m.held + got) out

-- a listing is work in pieces: a turn wants a buffer of 66 bytes or more and an output of 87 or more
abbrev pub listing : Work Lister
listing = record { fits = place_fits; held = λ m. m.held; wants = λ m. m.wants; does = wanted_of; buffer = longest; output = line_room }

-- a turn: got bytes were read behind those held, and lines are put from the front of the output
abbrev pub list_of : Lister → List ℕ → ℕ → List ℕ → Turned Lister
list_of m buf got out = turn_by listing m buf got out
