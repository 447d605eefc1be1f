-- Reading a log (rules Q3 to Q5, G3). Assumes nothing.
use Rattle.std.specs.Prelude.{◌≡◌, ℕ, ◌+◌, ◌-◌, cond, List, [], ltb, eqb, length, take, drop, get_or, Option, None, Some, Result, Ok, Err}
use Rattle.records.specs.Refusals.{No, no, refusal_of}
use Rattle.text.specs.Fours.{four_said}
use Rattle.logs.specs.declared.marks.Mark.{Mark}
use Rattle.logs.specs.declared.reader.Entry.{Entry}
use Rattle.records.specs.declared.refusals.Refusal.{Refusal}
use Rattle.logs.specs.Marks.{mark_of, may_have}
use Rattle.logs.specs.Records.{head}

-- what stands at a place: a record with its time, the place of its bytes and the place of the next record; the end; or a refusal
pub data Found : Type 0 where
  found : Mark → ℕ → ℕ → ℕ → Found
  end : Found
  refused : No → Found

abbrev pub next_of : Result (Option Entry) Refusal → Found
next_of (Ok (Some e)) = found e.mark e.time e.start e.end
next_of (Ok None) = end
next_of (Err x) = refused (refusal_of x)

-- a promise through this definition allows one answer only
abbrev pub OneNext : Type 0
OneNext = (a b : Result (Option Entry) Refusal) → next_of a ≡ next_of b → a ≡ b

-- behind a known mark: under seven bytes is 20, a bad length 19, missing bytes 20
unfoldable pub known_in : Mark → ℕ → List ℕ → Found
known_in mark at s =
    cond (ltb (length s) head) (refused (no 20 at))
    (cond (may_have mark (get_or s 6 0))
    (cond (ltb (length s - head) (get_or s 6 0)) (refused (no 20 at)) (found mark (four_said (take 4 (drop 2 s))) (at + head) (at + head + get_or s 6 0)))
    (refused (no 19 at)))

abbrev pub marked_in : Option Mark → ℕ → List ℕ → Found
marked_in None at s = refused (no 18 at)
marked_in (Some mark) at s = known_in mark at s

-- of what is left from a place on: nothing is the end, one byte 20, a wrong mark 18
unfoldable pub record_in : ℕ → List ℕ → Found
record_in at s = cond (eqb (length s) 0) end (cond (eqb (length s) 1) (refused (no 20 at)) (marked_in (mark_of (get_or s 0 0) (get_or s 1 0)) at s))

abbrev pub record_at : List ℕ → ℕ → Found
record_at log at = record_in at (drop at log)

-- a record's bytes, a part of the log
abbrev pub bytes_of : Found → List ℕ → List ℕ
bytes_of (found mark time start behind) log = take (behind - start) (drop start log)
bytes_of end log = []
bytes_of (refused x) log = []
