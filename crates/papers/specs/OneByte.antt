-- A telegram with one byte replaced by another is refused by checks 1 to 7 (rule B9; 001 section 4.4). Assumes nothing.
use Rattle.std.specs.Prelude.{◌≡◌, List, ℕ, ◌<◌, length, get_or, set}
use Rattle.records.specs.Answers.{good, first_fault}
use Rattle.reading.specs.Frame.{frame_checks}

-- checks 1 to 7 find no fault in these bytes
abbrev pub Passes : List ℕ → Type 0
Passes s = first_fault 1 (frame_checks s) ≡ good

-- at any place, any other byte is found
abbrev pub OneByteFound : Type 0
OneByteFound = (s : List ℕ) → Passes s → (i b : ℕ) → i < length s → get_or s i 0 < 256 → b < 256 → (get_or s i 0 ≡ b → ⊥) → Passes (set s i b) → ⊥
