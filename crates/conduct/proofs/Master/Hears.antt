-- What a frame does that the master hears before T2 has run out (rules M8 to M14). Assumes nothing.
use mathlib.Core.Path.{◌≡◌, refl, sym, ◌∙◌}
use mathlib.Core.Bool.{true}
use mathlib.Core.List.{List}
use Prim.Native.Nat.{ℕ}
use native.Mathlib.Omega.{arith}
use lib.ListN.{length, get_or}
use borrow.Author.Tests.{eq-eqb, ne_eqb, eqb-true, eqb-false}
use Rattle.records.specs.Records.{type_of}
use Rattle.records.specs.declared.records.Record.{Record}
use Rattle.records.specs.Answers.{first_fault, good, Answer, accepted}
use Rattle.records.specs.Answers as w
use Rattle.reading.specs.Frame.{frame_checks}
use Rattle.reading.specs.Reading.{reading_of}
use Rattle.writing.proofs.RoundTrips.Checks.{accepted-only}
use Rattle.writing.proofs.RoundTrips.Faults.{faultless-good}
use Rattle.writing.proofs.RoundTrips.Frames.{framed-faultless}
use Rattle.clock.specs.Counters.{number_in}
use Rattle.desk.proofs.Numbers.{good-checked}
use Rattle.master.specs.Rules.{is_failure}
use Rattle.master.specs.Answering.{Judged, taken_of}
use Rattle.master.specs.Answering as j
use Rattle.master.proofs.Verdicts.{by-failure, by-permitted, by-other, when-bad, when-other, when-taken}
use Rattle.master.specs.declared.state.Master.{Master}
use Rattle.master.specs.declared.answers.Reason as r
use Rattle.master.specs.State.{with_line, given_up_state}
use Rattle.master.specs.Sending.{t2_limit}
use Rattle.master.specs.Hearing.{settled_of, judged}
use Rattle.master.specs.Answers as t
use Rattle.master.proofs.Ranges.{passes}
use Rattle.master.proofs.Sends.{gave-up, sent-again}
use Rattle.master.proofs.Hears.{ignoring, hear-free, hear-heard}
use Rattle.conduct.specs.Master.Hears.{HeardInTime, HearsFailure, HearsThirdFailure, HearsAnswer, HearsOtherKind, HearsContents, IgnoresBad, IgnoresOtherNumber, IgnoresWhileFree}
use Rattle.conduct.proofs.Times.{still-runs}

module _ (m : Master) (frame out : List ℕ) where
  -- a frame that is judged so is settled so
  settles : (v : Judged) → v ≡ judged m frame → HeardInTime m frame out (λ at. settled_of m at v out)
  settles v e b room ms l =
      sym (hear-heard m _ frame out (passes m (length out) b.ranged room) (eqb-false m.count 0 b.busy) (still-runs m.t2 ms t2_limit b.start (omega arith) l)
      (type_of m.rec) refl v e)

  -- a good frame with the number that was sent is judged by its reading
  taken : (a : Answer) → reading_of m.line frame ≡ a → first_fault 1 (frame_checks frame) ≡ good → m.number.0 ≡ number_in (get_or frame 4 0)
      → taken_of m.line (type_of m.rec) a ≡ judged m frame
  taken a q g n =
      when-taken m.line m.number.0 (type_of m.rec) frame (sym g) (get_or frame 4 0) (number_in (get_or frame 4 0)) refl refl (eq-eqb m.number.0 _ n) a (sym q)

  module _ (rec : Record) (q : reading_of m.line frame ≡ accepted rec m.number.0) where
    read : taken_of m.line (type_of m.rec) (accepted rec m.number.0) ≡ judged m frame
    read =
        let a = accepted-only m.line frame rec m.number.0 q in
        taken (accepted rec m.number.0) q (faultless-good 1 (frame_checks frame) (framed-faultless frame a.framed)) (sym a.numbered)

    failing : is_failure rec ≡ true → j.failed ≡ judged m frame
    failing h = by-failure m.line (type_of m.rec) rec m.number.0 h ∙ read

pub hears-failure : HearsFailure
hears-failure m frame out rec q h c b room ms l =
    settles m frame out j.failed (failing m frame out rec q h) b room ms l
    ∙ sym (sent-again t.rejected true (with_line m true) _ out (λ e. omega arith))

pub hears-third-failure : HearsThirdFailure
hears-third-failure m frame out rec q h c b room ms l =
    settles m frame out j.failed (failing m frame out rec q h) b room ms l
    ∙ sym (gave-up t.rejected true (with_line m true) _ out c (given_up_state (with_line m true)) refl) ∙ rw c

pub hears-answer : HearsAnswer
hears-answer m frame out rec q h p =
    settles m frame out (j.answered rec) (by-permitted m.line (type_of m.rec) rec m.number.0 h (type_of rec) refl p ∙ read m frame out rec q)

pub hears-other-kind : HearsOtherKind
hears-other-kind m frame out rec q h p =
    settles m frame out (j.other_kind (accepted rec m.number.0)) (by-other m.line (type_of m.rec) rec m.number.0 h (type_of rec) refl p ∙ read m frame out rec q)

pub hears-contents : HearsContents
hears-contents m frame out x q a b n =
    settles m frame out (j.other_kind (w.refused x)) (taken m frame out (w.refused x) q (good-checked m.line frame x q a (omega arith)) (sym n))

pub ignores-bad : IgnoresBad
ignores-bad m frame out x f = settles m frame out (j.refused x) (when-bad m.line m.number.0 (type_of m.rec) frame x (sym f))

pub ignores-other-number : IgnoresOtherNumber
ignores-other-number m frame out g n =
    settles m frame out j.other_number
    (when-other m.line m.number.0 (type_of m.rec) frame (sym g) (get_or frame 4 0) (number_in (get_or frame 4 0)) refl refl (ne_eqb m.number.0 _ n))

pub ignores-while-free : IgnoresWhileFree
ignores-while-free m h f at frame out room =
    sym (hear-free m at frame out (passes m (length out) h room) (eqb-true m.count 0 f) (ignoring m r.TheVariants.Free) refl)
