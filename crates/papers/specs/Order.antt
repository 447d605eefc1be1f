-- A refusal of reading is the first check that finds a fault, and each of 1 to 11 occurs (rules W2, R1 to R11). Assumes nothing.
use Rattle.std.specs.Prelude.{◌≡◌, true, false, cond, List, [], ◌∷◌, ◌++◌, map, ℕ, ◌-◌, ◌≤◌, ◌<◌, length, get_or, replicate, Option, None, Some}
use Prim.Native.Char.{code}
use Rattle.records.specs.Refusals.{no}
use Rattle.laws.specs.Truth.{either, one_of, every, All}
use Rattle.laws.specs.Text.{codes}
use Rattle.forms.specs.Lines.{is_line}
use Rattle.records.specs.declared.records.Record.{Record}
use Rattle.records.specs.Answers.{accepted, refused}
use Rattle.characters.specs.Marks.{lf, cr}
use Rattle.reading.specs.Reading.{checks, reading_of}
use Rattle.papers.specs.Cases.{framed}
use Rattle.papers.specs.Lines.{Senders, paper}

-- bytes on a line, the number of their refusal and its place
pub record Refused : Type 0 where
  pub line : ℕ
  pub bytes : List ℕ
  pub number : ℕ
  pub place : ℕ

abbrev pub gives : ℕ → List ℕ → ℕ → ℕ → Refused
gives line bytes number place = record { line = line; bytes = bytes; number = number; place = place }

-- for each cause that the paper's table names, bytes that have it and no earlier one
abbrev pub refusals : List Refused
refusals =
    -- under 10 bytes: LF CR
    gives 1 (lf ∷ cr ∷ []) 1 0 ∷
    -- over 66 bytes: 67, LF-led
    gives 1 (lf ∷ replicate 66 (code "0")) 2 0 ∷
    -- index 0 is not LF
    gives 3 (codes "X08A0AAA5" ++ (cr ∷ [])) 3 0 ∷
    -- count is not two digits: a colon is the character behind 9
    gives 3 (framed "0:A0AAA3") 4 1 ∷
    -- count is not length less 2
    gives 3 (framed "09A0AAA4") 4 1 ∷
    -- last byte is not CR
    gives 3 (lf ∷ codes "08A0AAA5X") 5 9 ∷
    -- checksum wrong
    gives 3 (framed "08A0AAA4") 6 7 ∷
    -- checksum not 0-9 A-F: lower-case digits are not taken
    gives 3 (framed "08A0AAa5") 6 7 ∷
    -- number is not '0' or '1'
    gives 3 (framed "08A2AAA3") 7 4 ∷
    -- type is not on this line: c on line 3
    gives 3 (framed "08c0mS45") 8 3 ∷
    -- data byte outside the set: ^
    gives 1 (framed "08A0A^88") 9 6 ∷
    -- data field of another length: 66 bytes with count 64, type A, a good frame and set characters
    gives 1 (lf ∷ (codes "64A0" ++ (replicate 58 (code "A") ++ (codes "6B" ++ (cr ∷ []))))) 10 5 ∷
    -- a packet letter wrong: the second, X for %
    gives 1 (framed "21B0L125X090H120R88B9") 10 9 ∷
    -- a value not permitted: P8000
    gives 1 (framed "11F0P800010") 11 5 ∷
    -- and in the fourth packet: R80
    gives 1 (framed "21B0L125%090H120R80F4") 11 17 ∷
    []

abbrev pub Refuses : Refused → Type 0
Refuses r = reading_of r.line r.bytes ≡ refused (no r.number r.place)

abbrev pub EveryRefusal : Type 0
EveryRefusal = All Refuses refusals

-- each of 1 to 11 is there
abbrev pub EachOccurs : Type 0
EachOccurs = every (one_of (map (λ (r : Refused). r.number) refusals)) (1 ∷ 2 ∷ 3 ∷ 4 ∷ 5 ∷ 6 ∷ 7 ∷ 8 ∷ 9 ∷ 10 ∷ 11 ∷ []) ≡ true

-- reading checks 1 to 11: there are eleven
abbrev pub Eleven : Type 0
Eleven = (line : ℕ) (s : List ℕ) → length (checks line s) ≡ 11

-- the check of a number, counted from 1
abbrev pub check_at : ℕ → List ℕ → ℕ → Option ℕ
check_at line s k = get_or (checks line s) (k - 1) None

-- check k, of the eleven, finds a fault at a place, and no check before it finds one
pub record FirstCheck (line : ℕ) (s : List ℕ) (k place : ℕ) : Type 0 where
  pub from_one : 1 ≤ k
  pub to-eleven : k ≤ 11
  pub finds : check_at line s k ≡ Some place
  pub none_before : (i : ℕ) → 1 ≤ i → i < k → check_at line s i ≡ None

-- a refusal on a line is the first check that finds a fault, with its place
abbrev pub RefusedFirst : Type 0
RefusedFirst = (line : ℕ) (s : List ℕ) (k place : ℕ) → is_line line ≡ true → reading_of line s ≡ refused (no k place) → FirstCheck line s k place

-- check 8 finds a fault, at the type, just where the paper lists the type for neither end of the line
abbrev pub EightOn : Senders → Type 0
EightOn l = (s : List ℕ) → check_at l.line s 8 ≡ cond (either (one_of l.masters (get_or s 3 0)) (one_of l.slaves (get_or s 3 0))) None (Some 3)

abbrev pub EightListed : Type 0
EightListed = All EightOn paper

-- what is accepted passes every check
abbrev pub AcceptedClean : Type 0
AcceptedClean = (line : ℕ) (s : List ℕ) (rec : Record) (n : ℕ) → reading_of line s ≡ accepted rec n → (k : ℕ) → check_at line s k ≡ None

-- 15 comes before all where there is no such line, whatever the bytes are
abbrev pub NoLine : Type 0
NoLine = (line : ℕ) (s : List ℕ) → is_line line ≡ false → reading_of line s ≡ refused (no 15 0)
