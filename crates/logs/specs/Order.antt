-- The order of refusals: the reader's by the first of a list of tests that holds (rule Q4), the writer's by attempts (rule Q7). Assumes nothing.
use Rattle.std.specs.Prelude.{◌≡◌, Bool, true, false, cond, List, [], ◌∷◌, map, ℕ, ◌+◌, ◌<◌, ltb, eqb, length, get_or, replicate}
use Prim.Native.Char.{code}
use Rattle.laws.specs.Truth.{both, either}
use Rattle.characters.specs.Marks.{longest}
use Rattle.records.specs.Refusals.{No, no}
use Rattle.records.specs.Answers.{Fault, good, fails}
use Rattle.records.specs.Answers as w
use Rattle.logs.specs.declared.marks.Mark.{Mark}
use Rattle.logs.specs.declared.marks.Mark.TheVariants.{Master, Slave, Hit}
use Rattle.logs.specs.Records.{LogRecord, log_record}
use Rattle.logs.specs.Reader.{Found, found, end, refused, record_in}
use Rattle.logs.specs.Writer.{write_of}

-- the first two bytes are these
abbrev pub begins : ℕ → ℕ → List ℕ → Bool
begins x y s = both (eqb (get_or s 0 0) x) (eqb (get_or s 1 0) y)

-- they are no mark
abbrev pub unmarked : List ℕ → Bool
unmarked s = cond (either (begins (code "M") (code ">") s) (either (begins (code "S") (code ">") s) (begins (code "H") (code "!") s))) false true

-- a length over 66, or a hit with any length
abbrev pub bad_length : List ℕ → Bool
bad_length s = either (ltb longest (get_or s 6 0)) (both (begins (code "H") (code "!") s) (ltb 0 (get_or s 6 0)))

-- the tests in their order, each with its refusal
abbrev pub in_order : ℕ → List ℕ → List (Bool × No)
in_order at s =
    (eqb (length s) 1, no 20 at)
    ∷ (unmarked s, no 18 at)
    ∷ (ltb (length s) 7, no 20 at)
    ∷ (bad_length s, no 19 at)
    ∷ (ltb (length s) (7 + get_or s 6 0), no 20 at)
    ∷ []

-- the first that holds
abbrev pub first_of : List (Bool × No) → Fault
first_of [] = good
first_of ((holds, x) ∷ tests) = cond holds (fails x) (first_of tests)

abbrev pub refusal_in : Found → Fault
refusal_in (found mark time start behind) = good
refusal_in end = good
refusal_in (refused x) = fails x

abbrev pub FirstThatHolds : Type 0
FirstThatHolds = (at : ℕ) (s : List ℕ) → 0 < length s → refusal_in (record_in at s) ≡ first_of (in_order at s)

-- a record to write, an output, and the number of the refusal
pub record Attempt : Type 0 where
  pub rec : LogRecord
  pub out : List ℕ
  pub refusal : ℕ

-- a record of a mark with so many bytes, and an output of so many
abbrev pub tries : Mark → ℕ → ℕ → ℕ → Attempt
tries mark bytes room refusal = record { rec = log_record mark 0 (replicate bytes (code "x")); out = replicate room (code "o"); refusal = refusal }

-- of each kind of bad length: with too little room, and then with room enough; and too little room alone
abbrev pub attempts : List Attempt
attempts =
    -- 19 before 14: a hit with a byte, and a sending of 67 bytes
    tries Hit 1 7 19 ∷
    tries Hit 1 8 19 ∷
    tries Master 67 73 19 ∷
    tries Master 67 74 19 ∷
    tries Slave 67 73 19 ∷
    tries Slave 67 74 19 ∷
    -- 14 alone
    tries Hit 0 6 14 ∷
    tries Master 66 72 14 ∷
    tries Slave 1 7 14 ∷
    []

-- each is refused so, and leaves its output
abbrev pub WrittenInOrder : Type 0
WrittenInOrder = map (λ (a : Attempt). write_of a.rec a.out) attempts ≡ map (λ (a : Attempt). (w.Outcome.refused (no a.refusal 0), a.out)) attempts
