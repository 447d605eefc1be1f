-- `refused` waits at 20 and ends at any other refusal. Assumes nothing.
use Rattle.std.proofs.Common.{◌≡◌, sym, ◌∙◌, arith, rules}
use Rattle.std.specs.Prelude.{false, ◌==◌}
use Rattle.records.specs.Refusals.{refusal_of}
use Rattle.recordings.specs.Replay.Part.{refused_put}
use Rattle.recordings.specs.Replay.Texts.{refused_text}
use Rattle.recordings.proofs.Bounds.{last_fits}
use Rattle.recordings.proofs.Placed.{put_whole}
use Rattle.recordings.proofs.replay.part.refused.Goals as goal

pub returns-then-is_cut_off : goal.returns-then-is_cut_off
unfolding refused_put
returns-then-is_cut_off c = (rw (sym c.is_cut_off.ensures ∙ c.if-is_cut_off.true), omega arith)

pub returns : goal.returns
unfolding refused_put
returns c =
    let a = c.args in
    let m = c.number_of.result in
    let fits = last_fits m a.offset (search rules) (search rules) in
    let w = put_whole (refused_text m a.offset) a.out.now _ _ (omega (arith, fits)) c.put_refused-length.ensures in
    let e : (refusal_of a.refusal).number == 20 ≡ false = sym c.is_cut_off.ensures ∙ c.if-is_cut_off.false in
    (rw (e, ← c.number_of.ensures, w.0, w.1), omega (arith, w.0, fits))
