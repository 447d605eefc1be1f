-- A failed sending with the line good keeps the state in its ranges, and not free.
use Rattle.std.proofs.Common.{◌∙◌}
use Rattle.master.proofs.Ranges.{line-noted, line-noted-busy}
use Rattle.master.proofs.Hears.{settle-failed}
use Rattle.master.proofs.hearing.settle.Goals as goal

pub returns-in-Failed : goal.returns-in-Failed
returns-in-Failed c =
    let b = c.args.busy in
    let e = c.with_line-heard.ensures in
    c.fail.ensures
    ∙ settle-failed b.master c.args.at c.args.out.now c.args.verdict _ e c.in-Failed.is (line-noted b.master _ _ e b.fits)
    (line-noted-busy b.master _ _ e b.waits) c.requires
