-- An accepted telegram of each form on each of its lines, made by hand from rules B1 to B5, L6 to L19 and V1 to V17. Assumes nothing.
use Rattle.std.specs.Prelude.{◌≡◌, Option, Bool, true, not, List, [], ◌∷◌, map, ℕ, ◌+◌, ◌*◌, eqb, get_or}
use Prim.Native.Char.{Char, code}
use Prim.Native.String.{String}
use Rattle.laws.specs.Truth.{both, every, implies}
use Rattle.records.specs.declared.records.Radio.{Radio}
use Rattle.records.specs.declared.records.Record.{Record}
use Rattle.records.specs.declared.records.Record.TheVariants.{Approved, Rejected, Request, Idling, Test, Stop, RadioFault, Fault, Position, Train, TrainData, RadioData, RadioUpdate, Transponder}
use Rattle.forms.specs.Lines.{line_numbers}
use Rattle.forms.specs.Forms.{forms, on_line, looked_of}
use Rattle.forms.specs.declared.rows.Form.{Form}
use Rattle.records.specs.Answers.{Answer, accepted}
use Rattle.reading.specs.Reading.{reading_of}
use Rattle.papers.specs.Cases.{framed}

-- a telegram on a line, and what it reads as
pub record Sample : Type 0 where
  pub line : ℕ
  pub bytes : List ℕ
  pub answer : Answer

-- LF and CR are left out
abbrev pub sample : ℕ → String → Record → ℕ → Sample
sample line text rec number = record { line = line; bytes = framed text; answer = accepted rec number }

-- the values of F D C M V P
abbrev pub radio : ℕ → ℕ → ℕ → Char → Char → Char → ℕ → Radio
radio fc d c mode left right position =
    record { fc = fc; d = d; c = c; mode = code mode; watch = code left * 256 + code right; position = position }

abbrev pub samples : List Sample
samples =
    sample 1 "08A0A-B9" (Approved (code "-")) 0 ∷
    sample 2 "08A1A{6A" (Approved (code "{")) 1 ∷
    sample 3 "08A0AY8D" (Approved (code "Y")) 0 ∷
    sample 1 "08N1N299" (Rejected (code "2")) 1 ∷
    sample 2 "08N0NA8B" (Rejected (code "A")) 0 ∷
    sample 3 "08N1N19A" (Rejected (code "1")) 1 ∷
    sample 1 "08r0BB72" (Request (code "B")) 0 ∷
    sample 2 "08r1B57E" (Request (code "5")) 1 ∷
    sample 3 "08r1BK68" (Request (code "K")) 1 ∷
    sample 1 "08t1B 91" (Idling (code " ")) 1 ∷
    sample 2 "08t0Bt3E" (Idling (code "t")) 0 ∷
    sample 3 "08t1Bz37" (Idling (code "z")) 1 ∷
    sample 1 "08c0mT44" (Test (code "T")) 0 ∷
    sample 2 "0851U+B2" (Stop (code "+")) 1 ∷
    sample 3 "09o0S073E" (RadioFault 7) 0 ∷
    sample 1 "10G1E99937" (Fault 999) 1 ∷
    sample 1 "11F0P000018" (Position 0) 0 ∷
    sample 2 "11F1P7999F5" (Position 7999) 1 ∷
    sample 3 "13n0T00004284" (Train 42) 0 ∷
    sample 1 "21B1L999%010H200R00F1" (TrainData 999 10 200 0) 1 ∷
    sample 3 "28K0FC12D34C56M:AV:B P123402" (RadioData (radio 12 34 56 "A" "B" " " 1234)) 0 ∷
    sample 3 "35O1FC99D00C01M:DV: CP7000T98765465" (RadioUpdate (radio 99 0 1 "D" " " "C" 7000) 987654) 1 ∷
    sample 2 "3610FC05D67C89M:FV:FAP0815WFX6YVZ776" (Transponder (radio 5 67 89 "F" "F" "A" 815) (code "F") (code "6") (code "V") (code "7")) 0 ∷
    []

-- each reads as the record and number beside it
abbrev pub SamplesRead : Type 0
SamplesRead = map (λ (t : Sample). reading_of t.line t.bytes) samples ≡ map (λ (t : Sample). t.answer) samples

-- a sample is on a line and of a form's type
abbrev pub is_of : ℕ → Form → Sample → Bool
is_of line f t = both (eqb t.line line) (eqb (get_or t.bytes 3 0) f.kind)

-- each form has one on each of its lines
abbrev pub EachSampled : Type 0
EachSampled =
    every (λ (line : ℕ). every (λ (f : Form). implies (on_line f line) (not (every (λ (t : Sample). not (is_of line f t)) samples))) forms) line_numbers ≡ true

-- a promise through `looked_of` allows one row only
abbrev pub OneLooked : Type 0
OneLooked = (a b : Option Form) → looked_of a ≡ looked_of b → a ≡ b
