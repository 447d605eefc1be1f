-- The answers of the master's hearing, one after the other. Assumes nothing.
use Rattle.std.specs.Prelude.{Ok}
use mathlib.Core.Path.{◌≡◌, ◌∙◌}
use mathlib.Core.Bool.{true, false}
use mathlib.Core.List.{List}
use Prim.Native.Nat.{ℕ, ◌≤◌}
use lib.ListN.{length}
use borrow.Author.Tests.{eq-eqb, ne_eqb}
use Rattle.records.specs.Records.{type_of}
use Rattle.records.specs.Answers.{good}
use Rattle.clock.specs.Clock.{run_out}
use Rattle.characters.specs.Marks.{longest}
use Rattle.master.specs.Answering.{Judged, judged_of, judge_of}
use Rattle.master.specs.declared.answering.Verdict.{Verdict}
use Rattle.master.specs.declared.answering.Verdict.TheVariants as j
use Rattle.master.specs.declared.state.Master.{Master}
use Rattle.master.specs.declared.state.Step.{Step}
use Rattle.master.specs.declared.answers.Reason.{Reason}
use Rattle.master.specs.Answers.{rejected}
use Rattle.master.specs.State.{is_free, in_ranges, call_fault, with_line}
use Rattle.master.specs.Sending.{t2_limit, fail_of}
use Rattle.master.specs.Hearing.{settled_of, hear_of}
use Rattle.master.proofs.Sends.{stepped, fail-passed}
use Rattle.master.specs.declared.answers.Reason as r
use Rattle.master.specs.declared.answers.Answer as a

-- an ignored hearing's step
abbrev pub ignoring : Master → Reason → Step
ignoring m why = record { master = m; answer = Ok (a.TheVariants.Ignored why) }

-- a failed sending with the line good
module _ (m : Master) (at : ℕ) (out : List ℕ) (v : Verdict) where
  module _ (n : Master) (e : n ≡ with_line m true) where
    pub settle-failed : v ≡ j.Failed → in_ranges n ≡ true → is_free n ≡ false → longest ≤ length out → fail_of rejected true n at out ≡ settled_of m at (judged_of v) out
    settle-failed h r b room = fail-passed rejected true n at out r b room ∙ rw (h, e)

module _ (m : Master) (at : ℕ) (frame out : List ℕ) where
  module _ (g : good ≡ call_fault m (length out)) where
    pub hear-free : m.count ≡ 0 → (s : Step) → s ≡ ignoring m r.TheVariants.Free → stepped s out ≡ hear_of m at frame out
    unfolding hear_of
    hear-free h s e = rw (e, ← g, eq-eqb m.count 0 h)

    module _ (b : ¬ (m.count ≡ 0)) where
      pub hear-late : run_out at m.t2 t2_limit ≡ true → (s : Step) → s ≡ ignoring m r.TheVariants.RunOut → stepped s out ≡ hear_of m at frame out
      unfolding hear_of
      hear-late h s e = rw (e, ← g, ne_eqb m.count 0 b, h)

      pub hear-heard : run_out at m.t2 t2_limit ≡ false → (kind : ℕ) → kind ≡ type_of m.rec → (v : Judged) → v ≡ judge_of m.line m.number.0 kind frame
          → settled_of m at v out ≡ hear_of m at frame out
      unfolding hear_of
      hear-heard h kind q v e = rw (e, q, ← g, ne_eqb m.count 0 b, h)
