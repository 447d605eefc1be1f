-- A record that was found, said without the reader's order (rules Q2 to Q4). Assumes nothing.
use Rattle.std.specs.Prelude.{◌≡◌, Bool, true, false, List, ◌++◌, ℕ, ◌+◌, ◌≤◌, ◌<◌, eqb, length, take, drop, get_or, Some}
use Rattle.records.specs.Refusals.{no}
use Rattle.characters.specs.Marks.{longest}
use Rattle.text.specs.Fours.{four_said}
use Rattle.logs.specs.declared.marks.Mark.{Mark}
use Rattle.logs.specs.Marks.{mark_of, may_have}
use Rattle.logs.specs.Records.{head}
use Rattle.logs.specs.Reader.{Found, found, end, refused, record_in}

-- the record stands whole in front of what is left: a mark, a time, a length that it may have, and that many bytes
pub record Whole (at : ℕ) (s : List ℕ) (mark : Mark) (time start behind : ℕ) : Type 0 where
  pub mark-known : mark_of (get_or s 0 0) (get_or s 1 0) ≡ Some mark
  pub permitted : may_have mark (get_or s 6 0) ≡ true
  pub all_there : head + get_or s 6 0 ≤ length s
  pub time-said : four_said (take 4 (drop 2 s)) ≡ time
  pub start-at : at + head ≡ start
  pub behind-at : at + head + get_or s 6 0 ≡ behind

-- found is what stands whole
abbrev pub FoundWhole : Type 0
FoundWhole = (at : ℕ) (s : List ℕ) (mark : Mark) (time start behind : ℕ) → record_in at s ≡ found mark time start behind → Whole at s mark time start behind

-- what stands whole is found
abbrev pub WholeFound : Type 0
WholeFound = (at : ℕ) (s : List ℕ) (mark : Mark) (time start behind : ℕ) → Whole at s mark time start behind → record_in at s ≡ found mark time start behind

-- whether bytes that follow may change what stands in front: at the end, and where bytes are missing
abbrev pub waits : Found → Bool
waits (found mark time start behind) = false
waits end = true
waits (refused x) = eqb x.number 20

-- nothing else waits for bytes that follow
abbrev pub Settled : Type 0
Settled = (at : ℕ) (s more : List ℕ) → waits (record_in at s) ≡ false → record_in at (s ++ more) ≡ record_in at s

-- and 72 bytes at most wait
abbrev pub FewWait : Type 0
FewWait = (at : ℕ) (s : List ℕ) → waits (record_in at s) ≡ true → length s < head + longest

-- the same, found further on
abbrev pub further : ℕ → Found → Found
further at (found mark time start behind) = found mark time (at + start) (at + behind)
further at end = end
further at (refused x) = refused (no x.number (at + x.place))

-- what stands in front depends on where only by its places
abbrev pub Further : Type 0
Further = (at : ℕ) (s : List ℕ) → record_in at s ≡ further at (record_in 0 s)
