-- The sending count that the master reports equals the sendings made since the first of that telegram (rule M16). Assumes nothing.
use Rattle.std.specs.Prelude.{◌≡◌, true, List, [], ◌∷◌, ℕ, ◌+◌, ◌≤◌}
use Rattle.forms.specs.Lines.{is_line}
use Rattle.master.specs.declared.state.Master.{Master}
use Rattle.master.specs.Answers.{Which, offered, again, poll, Told, nothing, sent, answered, other_kind, given_up, ignored}
use Rattle.master.specs.Answers as t
use Rattle.master.specs.State.{started}
use Rattle.conduct.specs.Master.Calls.{Call, after}

-- how many sendings are made behind one more, of n made so far: a first sending counts anew
abbrev pub one_more : ℕ → Which → ℕ
one_more n offered = 1
one_more n again = n + 1
one_more n poll = 1

-- the sendings made since the first of the telegram, behind one more answer
abbrev pub tally : ℕ → Told → ℕ
tally n (t.refused x) = n
tally n nothing = n
tally n (sent which count bytes) = one_more n which
tally n (answered rec count) = n
tally n (other_kind answer count) = n
tally n (given_up cause count) = n
tally n (ignored why) = n

-- a count that is reported equals a number, which is 1 to 3
abbrev pub Equals : ℕ → ℕ → Type 0
Equals count n = (count ≡ n) × ((1 ≤ count) × (count ≤ 3))

-- the count that an answer reports, where it reports one, is this number
abbrev pub Reports : Told → ℕ → Type 0
Reports (t.refused x) n = Unit {0}
Reports nothing n = Unit {0}
Reports (sent which count bytes) n = Equals count n
Reports (answered rec count) n = Equals count n
Reports (other_kind answer count) n = Equals count n
Reports (given_up cause count) n = Equals count n
Reports (ignored why) n = Unit {0}

-- each answer of a run of calls reports the sendings made, of which n were made before it
abbrev pub Counted : ℕ → Master → List Call → Type 0
Counted n m [] = Unit {0}
Counted n m (call ∷ calls) = Reports (after m call).1.0 (tally n (after m call).1.0) × Counted (tally n (after m call).1.0) (after m call).0 calls

-- whatever calls are made from the start, each count that is reported is the sendings made since the first of its telegram, and is 1 to 3
abbrev pub CountMade : Type 0
CountMade = (line at : ℕ) → is_line line ≡ true → (calls : List Call) → Counted 0 (started line at) calls
