-- `put_handled` names the telegram where its source does not. Assumes nothing.
use Rattle.std.proofs.Common.{◌≡◌, true, false, sym, ◌∙◌}
use Rattle.desk.specs.Replying.{origin_of}
use Rattle.text.proofs.Puts.{then}
use Rattle.recordings.specs.Replay.Rows.{names, handled_named}
use Rattle.recordings.proofs.replay.printing.put_handled.Goals as goal

pub returns-then-names : goal.returns-then-names
unfolding handled_named
returns-then-names c =
    let e : names (origin_of c.args.source) ≡ true = sym c.names.ensures ∙ c.if-names.true in
    rw e (then _ _ _ _ _ _ _ _ c.put_handling-a.ensures c.put_answering.ensures)

pub returns : goal.returns
unfolding handled_named
returns c =
    let e : names (origin_of c.args.source) ≡ false = sym c.names.ensures ∙ c.if-names.false in
    rw e (then _ _ _ _ _ _ _ _ c.put_handling-a.ensures (then _ _ _ _ _ _ _ _ c.put_read-b.ensures c.put_answering-2.ensures))
