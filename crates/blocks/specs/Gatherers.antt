-- A gatherer as a block (rules F7, F8, F11). Assumes nothing.
use Rattle.std.specs.Prelude.{◌≡◌, Bool, not, cond, List, [], ◌∷◌, ◌++◌, ℕ, ◌+◌, ◌<◌, leb, eqb, length, take, get_or, set, replicate}
use Rattle.laws.specs.Truth.{both, pad}
use Rattle.characters.specs.Marks.{longest}
use Rattle.records.specs.Refusals.{no}
use Rattle.cutting.specs.declared.gather.Gatherer.{Gatherer}
use Rattle.cutting.specs.declared.gather.Item.{Item}
use Rattle.cutting.specs.Gather.{Cut, nothing, telegram, refused, gather_of}
use Rattle.blocks.specs.Layout.{stretch, filled}
use Rattle.blocks.specs.Heads.{count_byte}
use Rattle.blocks.specs.States.{loaded, Back, OtherBlocks, OneBlock}

-- what the block of a started gatherer begins with: 656G
abbrev pub mark : List ℕ
mark = 54 ∷ 53 ∷ 54 ∷ 71 ∷ []

-- the mark, the number of bytes gathered, and the bytes
unfoldable pub gatherer_bytes : Gatherer → List ℕ
gatherer_bytes g = mark ++ count_byte g.len ∷ g.bytes

abbrev pub gatherer_length : ℕ
gatherer_length = 5 + longest

-- the gatherer that a block's bytes make
unfoldable pub gatherer_at : List ℕ → Gatherer
gatherer_at b = record { bytes = pad longest (stretch 5 longest b); len = get_or b 4 0 }

-- a gatherer that every step refuses 15
abbrev pub blank : Gatherer
blank = record { bytes = replicate longest 0; len = longest }

abbrev pub load_of : List ℕ → Gatherer
load_of b = loaded gatherer_bytes gatherer_at blank b

abbrev pub save_of : Gatherer → List ℕ → List ℕ
save_of g b = filled gatherer_length (gatherer_bytes g) b

-- what a step makes of a block, beside its answer: the block of the gatherer behind it, as it was where the step is refused
abbrev pub stepped : Gatherer × Cut → List ℕ → Cut × List ℕ
stepped (g, nothing) b = (nothing, save_of g b)
stepped (g, telegram n) b = (telegram n, save_of g b)
stepped (g, refused x) b = (refused x, b)

-- a step on a block is the step of the gatherer that is loaded from it
unfoldable pub gather_in : List ℕ → Item → Cut × List ℕ
gather_in b item = stepped (gather_of (load_of b) item) b

-- a block has its length and begins with the mark
unfoldable pub started : List ℕ → Bool
started b =
    both (eqb (length b) gatherer_length)
    (both (eqb (get_or b 0 0) 54) (both (eqb (get_or b 1 0) 53) (both (eqb (get_or b 2 0) 54) (eqb (get_or b 3 0) 71))))

-- the number of bytes gathered; 66, which no gatherer in its ranges has, where the block was never started
unfoldable pub count_in : List ℕ → ℕ
count_in b = cond (started b) (get_or b 4 0) longest

-- a block with this number of bytes gathered, and a byte of the telegram at its index
abbrev pub holding_in : List ℕ → ℕ → ℕ → ℕ → List ℕ
holding_in b count at byte = set (set b 4 count) (at + 5) byte

-- a state in its ranges, which no step refuses 15
abbrev pub in_ranges : Gatherer → Bool
in_ranges g = not (leb longest g.len)

-- what the types of its fields say: as many bytes as a telegram may have
abbrev pub Typed : Gatherer → Type 0
Typed g = length g.bytes ≡ longest

abbrev pub GathererBack : Type 0
GathererBack = Back Typed in_ranges gatherer_length save_of load_of

abbrev pub OtherGatherers : Type 0
OtherGatherers = OtherBlocks in_ranges gatherer_bytes load_of

abbrev pub OneGatherer : Type 0
OneGatherer = OneBlock in_ranges load_of

-- a gatherer that holds these bytes, so many of them gathered
abbrev pub gatherer_of : ℕ → List ℕ → Gatherer
gatherer_of n bytes = record { bytes = bytes; len = n }

-- any bytes behind the mark are the block of the gatherer that they say
abbrev pub EveryBlock : Type 0
EveryBlock = (n : ℕ) (bytes : List ℕ) → n < 256 → length bytes ≡ longest → load_of (mark ++ n ∷ bytes) ≡ gatherer_of n bytes

-- every step on a block refuses it 15, and leaves it as it was
abbrev pub Never : List ℕ → Type 0
Never b = (item : Item) → gather_in b item ≡ (refused (no 15 0), b)

-- so it is with a block that does not begin with the mark, and with a zeroed one of any length
abbrev pub Unmarked : Type 0
Unmarked = (b : List ℕ) → (take 4 b ≡ mark → ⊥) → Never b

abbrev pub Zeroed : Type 0
Zeroed = (n : ℕ) → Never (replicate n 0)
