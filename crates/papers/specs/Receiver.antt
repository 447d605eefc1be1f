-- The receiver sums all bytes and the checksum, and gets zero (001 section 4.4; rule B6). Assumes nothing.
use Rattle.std.specs.Prelude.{◌≡◌, true, cond, List, ℕ, ◌+◌, ◌-◌, ◌*◌, ◌%◌, ◌≤◌, ltb, length, get_or}
use Prim.Native.Char.{code}
use Rattle.characters.specs.Checksum.{total, checksum_of, check_text}
use Rattle.records.specs.declared.records.Record.{Record}
use Rattle.records.specs.Answers.{accepted}
use Rattle.reading.specs.Frame.{summed_of, is_two}
use Rattle.reading.specs.Reading.{reading_of}

-- the sum of any bytes with their checksum is 0 modulo 256
abbrev pub SumsToZero : Type 0
SumsToZero = (s : List ℕ) → (total s + checksum_of s) % 256 ≡ 0

-- the digit of base 16 that a character 0-9 A-F says
abbrev pub unhex : ℕ → ℕ
unhex c = cond (ltb c (code "A")) (c - code "0") (c - (code "A" - 10))

-- the number that a telegram's two checksum characters say, high digit first
abbrev pub received_sum : List ℕ → ℕ
received_sum s = unhex (get_or s (length s - 3) 0) * 16 + unhex (get_or s (length s - 2) 0)

-- it is 0 for a telegram that passes check 6, with the checksum that its two characters say
abbrev pub TelegramSumsToZero : Type 0
TelegramSumsToZero =
    (s : List ℕ) → 10 ≤ length s → is_two s (length s - 3) (check_text (checksum_of (summed_of s))) ≡ true
    → (total (summed_of s) + received_sum s) % 256 ≡ 0

-- so it is for every telegram that is accepted
abbrev pub AcceptedSumsToZero : Type 0
AcceptedSumsToZero =
    (line : ℕ) (s : List ℕ) (rec : Record) (n : ℕ) → reading_of line s ≡ accepted rec n → (total (summed_of s) + received_sum s) % 256 ≡ 0
