-- `put_record` puts mark, time, length and bytes one behind the other. Assumes nothing.
use Rattle.std.proofs.Common.{List, ℕ, ap, ◌∙◌}
use Rattle.text.specs.Putting.{puts}
use Rattle.text.proofs.Puts.{then}
use Rattle.logs.specs.Records.{record_bytes}
use Rattle.logs.proofs.writer.put_record.Goals as goal

pub returns : goal.returns
unfolding record_bytes
returns c =
    let mark = c.put_text-a.ensures ∙ ap (λ (t : List ℕ). puts t 0 c.args.out.now) c.mark_bytes.ensures in
    then _ _ _ _ _ _ _ _ mark (then _ _ _ _ _ _ _ _ c.put_four-b.ensures (then _ _ _ _ _ _ _ _ c.put_byte-c.ensures c.put_text.ensures))
