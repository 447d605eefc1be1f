-- N with 1 is permitted on each line, so it is sent whole.
use Rattle.desk.proofs.Ranges.{ranges-parts}
use Rattle.desk.proofs.Permitted.{fault-permitted}
use Rattle.desk.proofs.Sendings.{as-sent, fault-sent}
use Rattle.desk.proofs.applying.fault.Goals as goal

pub returns : goal.returns
returns c =
    let a = c.args in
    let d = a.sound.desk in
    let p = fault-permitted d.line (ranges-parts d a.sound.fits).lined in
    let e = as-sent d.line _ a.number a.out.now p c.requires.0 c.requires.1 _ _ c.send-sent.ensures in
    fault-sent d a.lost a.number a.out.now _ _ e
