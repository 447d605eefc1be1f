-- The bytes are the whole telegram, since there is room.
use Rattle.master.specs.Answers.{which_of}
use Rattle.master.proofs.Sends.{sent_off}
use Rattle.master.proofs.state.Master.send.Goals as goal

pub returns : goal.returns
returns c =
    let a = c.args in
    sent_off (which_of a.sending) a.self _ a.rec a.count a.at _ _ a.out.now _ c.requires.0 c.requires.1.0 c.requires.1.1
    c.after_sending.ensures c.value.ensures c.send-bytes.ensures
