-- A whole log (rules Q3 to Q6): its records in their order, and its end or the refusal behind them. Assumes nothing.
use Rattle.std.specs.Prelude.{◌≡◌, Bool, true, false, List, [], ◌∷◌, ◌++◌, ℕ, zero, suc, ◌+◌, ◌-◌, ◌<◌, ◌≤◌, eqb, length, take, drop}
use Rattle.laws.specs.Truth.{All}
use Rattle.characters.specs.Marks.{longest}
use Rattle.logs.specs.Records.{LogRecord, log_record, head, record_bytes}
use Rattle.logs.specs.Reader.{Found, found, end, refused, record_in}

-- a log ends behind its last record, or with the number of a refusal
pub data Ending : Type 0 where
  over : Ending
  refusal : ℕ → Ending

abbrev pub Log : Type 0
Log = List LogRecord × Ending

-- what stands in front of what is left, before what the bytes behind it are read as
abbrev pub onward : List ℕ → Found → (List ℕ → Log) → Log
onward s (found mark time start behind) later = (log_record mark time (take (behind - start) (drop start s)) ∷ (later (drop behind s)).0, (later (drop behind s)).1)
onward s end later = ([], over)
onward s (refused x) later = ([], refusal x.number)

-- at most n readings, each from the end of the last
unfoldable pub log_on : ℕ → List ℕ → Log
log_on zero s = ([], over)
log_on (suc n) s = onward s (record_in 0 s) (log_on n)

-- as many readings as there are bytes, and one for the end, are enough
unfoldable pub log_of : List ℕ → Log
log_of s = log_on (suc (length s)) s

-- how many bytes a log record has, and some of them
abbrev pub size_of : LogRecord → ℕ
size_of r = head + length r.bytes

abbrev pub sizes_of : List LogRecord → ℕ
sizes_of [] = 0
sizes_of (r ∷ rs) = size_of r + sizes_of rs

abbrev pub joined : List LogRecord → List ℕ
joined [] = []
joined (r ∷ rs) = record_bytes r ++ joined rs

-- the records, written one behind the other, are the log's bytes without a gap: all of them, or those before the refused record
pub record Covered (s : List ℕ) : Type 0 where
  pub front : joined (log_of s).0 ≡ take (sizes_of (log_of s).0) s
  pub within : sizes_of (log_of s).0 ≤ length s
  pub all : (log_of s).1 ≡ over → joined (log_of s).0 ≡ s

abbrev pub NoGap : Type 0
NoGap = (s : List ℕ) → All (λ (b : ℕ). b < 256) s → Covered s

-- whether bytes that follow may change the ending
abbrev pub waits_at : Ending → Bool
waits_at over = true
waits_at (refusal number) = eqb number 20

-- what is left behind the records
abbrev pub left_of : List ℕ → List ℕ
left_of s = drop (sizes_of (log_of s).0) s

-- a log in two pieces: behind the records of the first, what is left of it is read with the second; or the first's refusal stands
abbrev pub InTwo : Type 0
InTwo = (a b : List ℕ) → waits_at (log_of a).1 ≡ true → log_of (a ++ b) ≡ ((log_of a).0 ++ (log_of (left_of a ++ b)).0, (log_of (left_of a ++ b)).1)

abbrev pub Stands : Type 0
Stands = (a b : List ℕ) → waits_at (log_of a).1 ≡ false → log_of (a ++ b) ≡ log_of a

-- behind a log's first record is the rest of the log, whatever follows
pub record FirstOf (s : List ℕ) (r : LogRecord) (rs : List LogRecord) (ending : Ending) : Type 0 where
  pub rest : log_of (drop (size_of r) s) ≡ (rs, ending)
  pub with : (b : List ℕ) → log_of (s ++ b) ≡ (r ∷ (log_of (drop (size_of r) s ++ b)).0, (log_of (drop (size_of r) s ++ b)).1)
  pub within : size_of r ≤ length s

abbrev pub First : Type 0
First = (s : List ℕ) (r : LogRecord) (rs : List LogRecord) (ending : Ending) → log_of s ≡ (r ∷ rs, ending) → FirstOf s r rs ending

-- where no record stands in what is left and bytes may follow, there are 72 at most: none, or a record cut off
pub record Left (s : List ℕ) : Type 0 where
  pub few : length s < head + longest
  pub none : length s ≡ 0 → log_of s ≡ ([], over)
  pub cut_off : 0 < length s → log_of s ≡ ([], refusal 20)

abbrev pub WhatIsLeft : Type 0
WhatIsLeft = (s : List ℕ) → (log_of s).0 ≡ [] → waits_at (log_of s).1 ≡ true → Left s
