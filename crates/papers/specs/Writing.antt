-- What writing refuses first, and what it leaves in the output (rules W4, W6). Assumes nothing.
use Rattle.std.specs.Prelude.{◌≡◌, List, [], ◌∷◌, map, ℕ, ◌≤◌, length, get_or, replicate}
use Prim.Native.Char.{code}
use Rattle.records.specs.Refusals.{no}
use Rattle.records.specs.declared.records.Record.{Record}
use Rattle.records.specs.declared.records.Record.TheVariants.{Approved, Test, Fault, Position}
use Rattle.records.specs.Answers.{written, refused, Write}
use Rattle.writing.specs.Writing.{writing_of}

-- a record with its number on a line, an output, and the number of the refusal
pub record Attempt : Type 0 where
  pub line : ℕ
  pub rec : Record
  pub number : ℕ
  pub out : List ℕ
  pub refusal : ℕ

-- an output of so many bytes
abbrev pub tries : ℕ → Record → ℕ → ℕ → ℕ → Attempt
tries line rec number room refusal = record { line = line; rec = rec; number = number; out = replicate room (code "x"); refusal = refusal }

-- for each two refusals an input with the faults of both, and behind it the same without the first
abbrev pub attempts : List Attempt
attempts =
    -- 15 before 12: there is no line 0, and so no end sends A on it
    tries 0 (Approved (code "A")) 0 66 15 ∷
    -- 15 before 13, by the value and by the number
    tries 4 (Position 8000) 0 66 15 ∷
    tries 1 (Position 8000) 0 66 13 ∷
    tries 4 (Position 7999) 2 66 15 ∷
    tries 1 (Position 7999) 2 66 13 ∷
    -- 15 before 14: the telegram of P has 13 bytes
    tries 4 (Position 7999) 0 12 15 ∷
    tries 1 (Position 7999) 0 12 14 ∷
    -- 12 before 13, by the value and by the number: c is not on line 3
    tries 3 (Test (code "M")) 0 66 12 ∷
    tries 1 (Test (code "M")) 0 66 13 ∷
    tries 3 (Test (code "S")) 2 66 12 ∷
    tries 1 (Test (code "S")) 2 66 13 ∷
    -- 12 before 14
    tries 3 (Test (code "S")) 0 9 12 ∷
    tries 1 (Test (code "S")) 0 9 14 ∷
    -- 13 before 14, by the value and by the number
    tries 1 (Fault 1000) 0 11 13 ∷
    tries 1 (Fault 999) 0 11 14 ∷
    tries 1 (Fault 999) 2 11 13 ∷
    -- 12 alone
    tries 3 (Test (code "S")) 0 66 12 ∷
    []

-- each is refused so, and leaves its output
abbrev pub RefusedInOrder : Type 0
RefusedInOrder =
    map (λ (a : Attempt). writing_of a.line a.rec a.number a.out) attempts
    ≡ map (λ (a : Attempt). (refused (no a.refusal 0), a.out)) attempts

-- the bytes that a call leaves: a refused one all of them, one that wrote n bytes each from index n on
abbrev pub OldBytes : List ℕ → Write → Type 0
OldBytes out (written n, left) = (length left ≡ length out) × ((i : ℕ) → n ≤ i → get_or left i 0 ≡ get_or out i 0)
OldBytes out (refused x, left) = left ≡ out

-- what lies behind the telegram keeps its old bytes, whatever is written on whatever line
abbrev pub KeepsBehind : Type 0
KeepsBehind = (line : ℕ) (rec : Record) (number : ℕ) (out : List ℕ) → OldBytes out (writing_of line rec number out)
