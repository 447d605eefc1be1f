-- Gathering a telegram item by item (rules C1 to C6, E12). Assumes nothing.
use Rattle.std.specs.Prelude.{ℕ, ◌+◌, ◌≡◌, cond, leb, set, replicate, Option, None, Some, Result, Ok, Err}
use Rattle.characters.specs.Marks.{longest}
use Rattle.records.specs.Refusals.{No, no, refusal_of}
use Rattle.cutting.specs.declared.turns.Turn.{Turn}
use Rattle.cutting.specs.declared.turns.Turn.TheVariants.{Joins, Ends, Drops}
use Rattle.cutting.specs.declared.gather.Item.{Item}
use Rattle.cutting.specs.declared.gather.Item.TheVariants.{Byte, Hit}
use Rattle.cutting.specs.declared.gather.Gatherer.{Gatherer}
use Rattle.cutting.specs.Turns.{turn_of}
use Rattle.records.specs.declared.refusals.Refusal.{Refusal}

-- what a step hands out: nothing, a telegram of so many bytes, or a refusal's number and place
pub data Cut : Type 0 where
  nothing : Cut
  telegram : ℕ → Cut
  refused : No → Cut

abbrev pub gathered_of : Result (Option ℕ) Refusal → Cut
gathered_of (Ok None) = nothing
gathered_of (Ok (Some n)) = telegram n
gathered_of (Err x) = refused (refusal_of x)

-- the state at the start, outside a telegram
abbrev pub at_start : Gatherer
at_start = record { bytes = replicate longest 0; len = 0 }

-- a byte put at an index, with so many bytes gathered
abbrev pub holding : Gatherer → ℕ → ℕ → ℕ → Gatherer
holding g at byte n = record { bytes = set g.bytes at byte; len = n }

-- outside a telegram, the bytes as they are
abbrev pub shut : Gatherer → Gatherer
shut g = record { bytes = g.bytes; len = 0 }

-- what a byte's turn makes of the state: a telegram that ends lies at its front
abbrev pub turned : Gatherer → ℕ → Turn → Gatherer × Cut
turned g byte (Joins at) = (holding g at byte (at + 1), nothing)
turned g byte (Ends at) = (holding g at byte 0, telegram (at + 1))
turned g byte Drops = (shut g, nothing)

-- a heard item is a byte or a hit; a hit drops what was begun
abbrev pub on_item : Gatherer → Item → Gatherer × Cut
on_item g (Byte byte) = turned g byte (turn_of g.len byte)
on_item g Hit = (shut g, nothing)

-- 15 where the state is out of its ranges, which stays as it was
unfoldable pub gather_of : Gatherer → Item → Gatherer × Cut
gather_of g item = cond (leb longest g.len) (g, refused (no 15 0)) (on_item g item)

-- a promise through these definitions allows one answer only
abbrev pub OneGathered : Type 0
OneGathered = (a b : Result (Option ℕ) Refusal) → gathered_of a ≡ gathered_of b → a ≡ b
