-- A desk as a block (rules F7, F8). Assumes nothing.
use Rattle.std.specs.Prelude.{◌≡◌, cond, List, [], ◌∷◌, ◌++◌, ℕ, ◌+◌, ◌*◌, ◌<◌, ◌^◌, eqb, length, get_or, replicate, Option, None, Some}
use Rattle.laws.specs.Truth.{All, pad}
use Rattle.characters.specs.Marks.{longest}
use Rattle.records.specs.declared.records.Record.{Record}
use Rattle.desk.specs.declared.waiting.Waiting.{Waiting}
use Rattle.desk.specs.State.{fresh, in_ranges}
use Rattle.desk.specs.declared.state.Desk.{Desk}
use Rattle.blocks.specs.Layout.{joined, each, stretch, filled}
use Rattle.blocks.specs.Heads.{count_byte, head_bytes}
use Rattle.text.specs.Fours.{four_bytes, four_said}
use Rattle.blocks.specs.Record.{record_length, record_bytes, record_at, Narrow}
use Rattle.blocks.specs.States.{loaded, Back, OtherBlocks, OneBlock}

-- the places of the queue
abbrev pub places : ℕ
places = 8

-- where the stored bytes, the record set for r and the queue begin, what they have together, and all bytes of a desk's block
abbrev pub stored_place : ℕ
stored_place = 11

abbrev pub wanted_place : ℕ
wanted_place = stored_place + longest

abbrev pub queue_place : ℕ
queue_place = wanted_place + record_length

abbrev pub kept_length : ℕ
kept_length = longest + (record_length + places * record_length)

abbrev pub desk_length : ℕ
desk_length = stored_place + kept_length

-- a place of the queue
abbrev pub waiting_bytes : Waiting → List ℕ
waiting_bytes w = record_bytes w.rec

abbrev pub waiting_of : Record → Waiting
waiting_of rec = record { rec = rec }

abbrev pub waiting_at : List ℕ → Waiting
waiting_at b = waiting_of (record_at b)

-- whether a record is set, and its block, or 0 where none is set
abbrev pub set_byte : Option Record → ℕ
set_byte None = 0
set_byte (Some rec) = 1

abbrev pub wanted_bytes : Option Record → List ℕ
wanted_bytes None = replicate record_length 0
wanted_bytes (Some rec) = record_bytes rec

unfoldable pub wanted_at : ℕ → List ℕ → Option Record
wanted_at set b = cond (eqb set 0) None (Some (record_at b))

-- T1's start, the stored answer's length, the queue's count, and whether a record is set
unfoldable pub count_bytes : ℕ → ℕ → ℕ → ℕ → List ℕ
count_bytes t1 kept queued set = four_bytes t1 ++ (count_byte kept ∷ count_byte queued ∷ set ∷ [])

-- the stored bytes, the record set for r, and the queue
unfoldable pub kept_bytes : List ℕ → Option Record → List Waiting → List ℕ
kept_bytes stored wanted queue = stored ++ (wanted_bytes wanted ++ joined waiting_bytes queue)

-- line, good, last number and key, and then those
unfoldable pub desk_bytes : Desk → List ℕ
desk_bytes d =
    head_bytes d.line d.good d.last.0 d.key
    ++ (count_bytes d.t1 d.kept d.queued (set_byte d.requested) ++ kept_bytes d.stored d.requested d.queue)

-- the desk that a block's bytes make
unfoldable pub desk_at : List ℕ → Desk
desk_at b =
    record {
      line = get_or b 0 0;
      good = eqb (get_or b 1 0) 1;
      last = record { 0 = get_or b 2 0 };
      t1 = four_said (stretch 4 4 b);
      kept = get_or b 8 0;
      stored = pad longest (stretch stored_place longest b);
      requested = wanted_at (get_or b 10 0) (stretch wanted_place record_length b);
      queued = get_or b 9 0;
      queue = each record_length waiting_at places (stretch queue_place (places * record_length) b);
      key = get_or b 3 0;
    }

abbrev pub load_of : List ℕ → Desk
load_of b = loaded desk_bytes desk_at (fresh 0) b

abbrev pub save_of : Desk → List ℕ → List ℕ
save_of d b = filled desk_length (desk_bytes d) b

-- the values of a record that is set are numbers of 32 bits
abbrev pub NarrowWanted : Option Record → Type 0
NarrowWanted None = Unit {0}
NarrowWanted (Some rec) = Narrow rec

-- what the types of its fields say: T1's start and the values of its records are numbers of 32 bits; as many stored bytes as a telegram
-- may have; eight places
pub record Typed (d : Desk) : Type 0 where
  pub t1 : d.t1 < 2 ^ 32
  pub stored : length d.stored ≡ longest
  pub requested : NarrowWanted d.requested
  pub places-eight : length d.queue ≡ places
  pub queue : All (λ (w : Waiting). Narrow w.rec) d.queue

abbrev pub DeskBack : Type 0
DeskBack = Back Typed in_ranges desk_length save_of load_of

abbrev pub OtherDesks : Type 0
OtherDesks = OtherBlocks in_ranges desk_bytes load_of

abbrev pub OneDesk : Type 0
OneDesk = OneBlock in_ranges load_of
