-- What the desk keeps for later answers: its queue, and the length of its stored answer (rules D11, E10). Assumes nothing.
use Rattle.std.specs.Prelude.{ℕ, Bool, cond, not, List, [], ◌∷◌, eqb, get_or}
use Rattle.laws.specs.Truth.{from}
use Rattle.characters.specs.Marks.{shortest, longest}
use Rattle.records.specs.declared.records.Record.TheVariants.{Approved}
use Rattle.desk.specs.Fitting.{may_reply}
use Rattle.desk.specs.declared.waiting.Waiting.{Waiting}

-- a stored answer has 10 to 66 bytes; there is none only while the line is lost
unfoldable pub kept_fits : Bool → ℕ → Bool
kept_fits good kept = cond (eqb kept 0) (not good) (from shortest longest kept)

-- a record that waits may reply on a line
abbrev pub waiting_fits : ℕ → Waiting → Bool
waiting_fits line w = may_reply line w.rec

-- what stands in a place of the queue before any record does
abbrev pub blank : Waiting
blank = record { rec = Approved 0 }

-- the places of a queue without the oldest, each one nearer; the last stands twice
abbrev pub shifted : List Waiting → List Waiting
shifted q = at 1 ∷ at 2 ∷ at 3 ∷ at 4 ∷ at 5 ∷ at 6 ∷ at 7 ∷ at 7 ∷ []
  where
    at : ℕ → Waiting
    at i = get_or q i blank
