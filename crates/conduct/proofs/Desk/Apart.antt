-- The paper's numbers and values tell the desk's answers apart (rule G3). Assumes nothing.
use Rattle.std.specs.Prelude.{Bool, true, false, Result, Ok, Err}
use mathlib.Core.Path.{◌≡◌, refl, sym, ap, ◌∙◌}
use Rattle.records.specs.declared.refusals.Refusal.{Refusal}
use Rattle.desk.specs.Deciding.{What, request, poll, other, matter_of, Ruling, handle, ruling_of}
use Rattle.desk.specs.Deciding as w
use Rattle.desk.specs.declared.deciding.Matter as m
use Rattle.desk.specs.declared.deciding.Rule as r
use Rattle.desk.specs.Replying.{Origin, requested, queue, key, panel, contents, not_master, nothing_set, origin_of}
use Rattle.desk.specs.declared.replying.Source as s
use Rattle.desk.specs.Answers.{Done, done, lost, done_of}
use Rattle.desk.specs.Heard.{Told, silent, fault, repeat, handled, told_of}
use Rattle.desk.specs.Answers as d
use Rattle.desk.specs.Heard as t
use Rattle.desk.specs.declared.heard.Heard as h
use Rattle.conduct.specs.Desk.Apart.{OneRule, OneSource, OneOutcome, OneHeard}
use Rattle.records.proofs.Apart.{back_of, refusal-back}

-- the answer of what is told: of what a telegram in a good frame is
abbrev matter_back : What → m.Matter
matter_back (w.contents x) = m.TheVariants.Contents (back_of x)
matter_back w.not_master = m.TheVariants.NotMaster
matter_back request = m.TheVariants.Request
matter_back poll = m.TheVariants.Poll
matter_back (other rec) = m.TheVariants.Other rec

matter-back : (x : m.Matter) → matter_back (matter_of x) ≡ x
matter-back (m.TheVariants.Contents x) = ap m.TheVariants.Contents (refusal-back x)
matter-back m.TheVariants.NotMaster = refl
matter-back m.TheVariants.Request = refl
matter-back m.TheVariants.Poll = refl
matter-back (m.TheVariants.Other rec) = refl

-- of the rule that settles a hearing
abbrev rule_back : Ruling → r.Rule
rule_back (w.silent x) = r.TheVariants.Silent (back_of x)
rule_back (w.fault x n) = r.TheVariants.Fault (back_of x) n
rule_back (w.repeat n what) = r.TheVariants.Repeat n (matter_back what)
rule_back (handle n what) = r.TheVariants.Handle n (matter_back what)

rule-back : (x : r.Rule) → rule_back (ruling_of x) ≡ x
rule-back (r.TheVariants.Silent x) = ap r.TheVariants.Silent (refusal-back x)
rule-back (r.TheVariants.Fault x n) = rw (refusal-back x)
rule-back (r.TheVariants.Repeat n matter) = rw (matter-back matter)
rule-back (r.TheVariants.Handle n matter) = rw (matter-back matter)

-- of a call that hears nothing
abbrev outcome_back : Done → Result Bool Refusal
outcome_back done = Ok false
outcome_back lost = Ok true
outcome_back (d.refused x) = Err (back_of x)

outcome-back : (x : Result Bool Refusal) → outcome_back (done_of x) ≡ x
outcome-back (Ok false) = refl
outcome-back (Ok true) = refl
outcome-back (Err x) = ap Err (refusal-back x)

-- of where an answer comes from
abbrev source_back : Origin → s.Source
source_back requested = s.TheVariants.Requested
source_back queue = s.TheVariants.Queue
source_back (key b) = s.TheVariants.Key b
source_back (panel value rec) = s.TheVariants.Panel rec
source_back (contents value x) = s.TheVariants.Contents (back_of x)
source_back (not_master value) = s.TheVariants.NotMaster
source_back (nothing_set value) = s.TheVariants.NothingSet

source-back : (x : s.Source) → source_back (origin_of x) ≡ x
source-back s.TheVariants.Requested = refl
source-back s.TheVariants.Queue = refl
source-back (s.TheVariants.Key b) = refl
source-back (s.TheVariants.Panel rec) = refl
source-back (s.TheVariants.Contents x) = ap s.TheVariants.Contents (refusal-back x)
source-back s.TheVariants.NotMaster = refl
source-back s.TheVariants.NothingSet = refl

-- of a hearing
abbrev heard_back : Told → Result h.Heard Refusal
heard_back (t.refused x) = Err (back_of x)
heard_back (silent noted x) = Ok (h.TheVariants.Silent noted (back_of x))
heard_back (fault noted value n) = Ok (h.TheVariants.Fault noted n)
heard_back (repeat n) = Ok (h.TheVariants.Repeat n)
heard_back (handled noted origin n) = Ok (h.TheVariants.Handled noted (source_back origin) n)

heard-back : (x : Result h.Heard Refusal) → heard_back (told_of x) ≡ x
heard-back (Err x) = ap Err (refusal-back x)
heard-back (Ok (h.TheVariants.Silent noted x)) = rw (refusal-back x)
heard-back (Ok (h.TheVariants.Fault noted n)) = refl
heard-back (Ok (h.TheVariants.Repeat n)) = refl
heard-back (Ok (h.TheVariants.Handled noted source n)) = rw (source-back source)

pub one-rule : OneRule
one-rule a b e = sym (rule-back a) ∙ ap rule_back e ∙ rule-back b

pub one-source : OneSource
one-source a b e = sym (source-back a) ∙ ap source_back e ∙ source-back b

pub one-outcome : OneOutcome
one-outcome a b e = sym (outcome-back a) ∙ ap outcome_back e ∙ outcome-back b

pub one-heard : OneHeard
one-heard a b e = sym (heard-back a) ∙ ap heard_back e ∙ heard-back b
