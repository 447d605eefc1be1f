-- `reading::reading::read` meets its contract.
use Rattle.std.proofs.Common.{sym, ◌∙◌}
use Rattle.std.proofs.lemmas.Result.{err_from_is_err_and}
use Rattle.reading.proofs.Contents.{no_line, frame-bad, frame-good}
use Rattle.reading.proofs.reading.read.Goals as goal

pub returns-then-not-is_line : goal.returns-then-not-is_line
returns-then-not-is_line c = no_line c.args.line c.args.s.now (sym c.is_line.ensures ∙ c.if-not-is_line.true)

pub returns-in_err-frame_check : goal.returns-in_err-frame_check
returns-in_err-frame_check c =
    let p = err_from_is_err_and c.from_residual.result c.from_residual.ensures.1 in
    rw (p.1, p.2) (frame-bad c.args.line c.args.s.now (sym c.is_line.ensures ∙ c.if-not-is_line.false) _ c.in_err-frame_check.ensures)

pub returns : goal.returns
returns c =
    c.contents.ensures ∙ frame-good c.args.line c.args.s.now (sym c.is_line.ensures ∙ c.if-not-is_line.false) c.in_ok-frame_check.ensures
