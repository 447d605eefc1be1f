-- Cases a to j (rules W9 and W10), as rows of one table under one theorem. Assumes nothing.
use Rattle.std.specs.Prelude.{◌≡◌, List, [], ◌∷◌, ◌++◌, ℕ}
use Prim.Native.Char.{code}
use Prim.Native.String.{String}
use Rattle.records.specs.Refusals.{no}
use Rattle.laws.specs.Truth.{All}
use Rattle.laws.specs.Text.{codes}
use Rattle.characters.specs.Checksum.{checksum_of}
use Rattle.records.specs.declared.records.Record.TheVariants.{Approved, Rejected, Request, Idling, Stop, Train, TrainData}
use Rattle.records.specs.Answers.{Answer, accepted, refused}
use Rattle.characters.specs.Marks.{lf, cr}
use Rattle.reading.specs.Reading.{reading_of}

-- a case: bytes on a line and what they read as, or bytes and their checksum
pub data Case : Type 0 where
  reads : ℕ → String → Answer → Case
  sums : List ℕ → ℕ → Case

-- LF and CR are left out in the paper
abbrev pub framed : String → List ℕ
framed text = lf ∷ (codes text ++ (cr ∷ []))

abbrev pub Holds : Case → Type 0
Holds (reads line text answer) = reading_of line (framed text) ≡ answer
Holds (sums bytes sum) = checksum_of bytes ≡ sum

abbrev pub cases : List Case
cases =
    -- a: reads on line 3 as A, number 0, key A
    reads 3 "08A0AAA5" (accepted (Approved (code "A")) 0) ∷
    -- b: number 1
    reads 3 "08A1AAA4" (accepted (Approved (code "A")) 1) ∷
    -- c
    reads 3 "08r0BK69" (accepted (Request (code "K")) 0) ∷
    -- d: train 123456
    reads 3 "13n1T12345674" (accepted (Train 123456) 1) ∷
    -- e
    reads 2 "0850U-B1" (accepted (Stop (code "-")) 0) ∷
    -- f
    reads 1 "08N0N19B" (accepted (Rejected (code "1")) 0) ∷
    -- g
    reads 1 "08t0Bt3E" (accepted (Idling (code "t")) 0) ∷
    -- h
    reads 1 "21B0L125%090H120R88EC" (accepted (TrainData 125 90 120 88) 0) ∷
    -- i: refusal 6, place 7
    reads 3 "08A0AAA6" (refused (no 6 7)) ∷
    -- j (001 section 4.4)
    sums (0x01 ∷ 0x10 ∷ 0xA0 ∷ 0x00 ∷ 0xC9 ∷ []) 0x86 ∷
    []

abbrev pub EveryCase : Type 0
EveryCase = All Holds cases
