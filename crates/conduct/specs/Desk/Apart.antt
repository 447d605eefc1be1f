-- The paper's numbers and values tell the desk's answers apart, so that a promise through them allows one answer only (rule G3). Assumes nothing.
use Rattle.std.specs.Prelude.{◌≡◌, Result, Bool}
use Rattle.desk.specs.Deciding.{ruling_of}
use Rattle.desk.specs.Replying.{origin_of}
use Rattle.desk.specs.Answers.{done_of}
use Rattle.desk.specs.Heard.{told_of}
use Rattle.desk.specs.declared.deciding.Rule.{Rule}
use Rattle.desk.specs.declared.replying.Source.{Source}
use Rattle.records.specs.declared.refusals.Refusal.{Refusal}
use Rattle.desk.specs.declared.heard.Heard.{Heard}

-- of the rule that settles a hearing
abbrev pub OneRule : Type 0
OneRule = (a b : Rule) → ruling_of a ≡ ruling_of b → a ≡ b

-- of where an answer comes from
abbrev pub OneSource : Type 0
OneSource = (a b : Source) → origin_of a ≡ origin_of b → a ≡ b

-- of a call that hears nothing
abbrev pub OneOutcome : Type 0
OneOutcome = (a b : Result Bool Refusal) → done_of a ≡ done_of b → a ≡ b

-- of a hearing
abbrev pub OneHeard : Type 0
OneHeard = (a b : Result Heard Refusal) → told_of a ≡ told_of b → a ≡ b
