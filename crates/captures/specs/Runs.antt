-- A run of the listing, turn after turn, whatever each read brings (rule P5). Assumes nothing.
use Rattle.std.specs.Prelude.{ℕ, List}
use Rattle.pieces.specs.Runs.{Stand, beginning, Whole, Turns, Room}
use Rattle.captures.specs.declared.lister.Lister.{Lister}
use Rattle.captures.specs.Captures.{listing_of}
use Rattle.captures.specs.Lister.{at_first}
use Rattle.captures.specs.Turn.{listing}

-- a run begins with any buffer
abbrev pub begun : List ℕ → Stand Lister
begun buf = beginning at_first buf

-- at the end, what was written is the listing of all that was read
abbrev pub WholeListing : Type 0
WholeListing = (buf : List ℕ) → Whole listing listing_of (begun buf)

-- of each turn: it is not refused; it is to be made again only where it wrote something; a read of nothing ends the run; else it ends only where the listing
-- would be the same whatever was read behind
abbrev pub EachTurn : Type 0
EachTurn = (buf : List ℕ) → Turns listing listing_of (begun buf)

-- where bytes are to be read, at most 65 are held, and a buffer has more
abbrev pub RoomToRead : Type 0
RoomToRead = (buf : List ℕ) → Room listing (begun buf)
