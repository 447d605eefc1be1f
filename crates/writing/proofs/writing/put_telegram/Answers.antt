-- `writing::writing::put_telegram` meets its contract.
use Rattle.std.proofs.Common.{◌≡◌, ◌+◌, [], ◌++◌, length, drop, ap, ◌∙◌, arith}
use Rattle.characters.specs.Checksum.{checksum_of}
use Rattle.forms.specs.Forms.{slots_of, width_of}
use Rattle.reading.specs.Contents.{data_of}
use Rattle.reading.specs.Frame.{frame_of, tail_text}
use Rattle.writing.proofs.Put.{summed, telegram-put, head-length}
use Rattle.writing.proofs.writing.put_telegram.Goals as goal

pub returns : goal.returns
returns c =
    let a = c.args in
    let w = c.width_of-n.result in
    let h = c.put_head.new.part in
    let d = c.put_packets.new.field in
    let he = c.put_head.ensures in
    let lh : length h ≡ 5 = ap length he ∙ head-length (8 + w) a.kind a.number in
    let ld : length d ≡ w = omega (arith, c.put_packets.auto.field) in
    let sum = c.checksum-sum.ensures ∙ ap checksum_of (summed a.kind a.number w a.out.now h d [] lh ld he) in
    let e : frame_of a.kind a.number d ++ drop (8 + w) a.out.now
    ≡ frame_of a.kind a.number (data_of (slots_of a.form) a.values) ++ drop (8 + width_of a.form) a.out.now =
    rw (c.put_packets.ensures, c.width_of-n.ensures.0) in
    telegram-put a.kind a.number w a.out.now h d c.put_tail.new.part lh ld he (c.put_tail.ensures ∙ ap tail_text sum) ∙ e
