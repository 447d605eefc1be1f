-- The state passed the checks, and the record may be offered.
use Rattle.master.proofs.Ranges.{passed, numbered}
use Rattle.master.proofs.Sends.{offer_passed}
use Rattle.master.proofs.state.Master.offer.Goals as goal

pub send-requires : goal.send-requires
send-requires c =
    let g = passed c.args.self _ c.in_default.ensures in
    let o = offer_passed c.args.self c.args.rec c.in_default-offer_check.ensures in
    (o.1.1, (numbered c.args.self g.0, g.1))
