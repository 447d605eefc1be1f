-- `replay` checks 15 and 14, and does what was wanted. Assumes nothing.
use Rattle.std.proofs.Common.{sym, ap, ◌∙◌, arith}
use Rattle.records.specs.Answers.{fault_of}
use Rattle.pieces.specs.declared.wants.Wants.TheVariants.{Read, Again, End}
use Rattle.pieces.proofs.Checks.{passing}
use Rattle.pieces.proofs.Runs.{refused-turn}
use Rattle.recordings.specs.Replay.Turn.{replaying}
use Rattle.recordings.proofs.Turning.{wanted, some_read, none_read, none-wanted}
use Rattle.recordings.proofs.replay.turn.replay.Goals as goal

pub returns-in-Err : goal.returns-in-Err
returns-in-Err c =
    let a = c.args in
    refused-turn replaying a.replayer a.buf.now a.got a.out.now _ (sym (ap fault_of c.in-Err.is) ∙ c.turn_check.ensures)

pub overflow_add-n : goal.overflow_add-n
overflow_add-n c =
    omega (arith, (passing _ c.args.replayer.held _ _ _ c.args.got _ (sym (ap fault_of c.in_default.is) ∙ c.turn_check.ensures)).bytes)

pub last-requires : goal.last-requires
last-requires c = (passing _ c.args.replayer.held _ _ _ c.args.got _ (sym (ap fault_of c.in_default.is) ∙ c.turn_check.ensures)).space

pub returns-then-got-eq0 : goal.returns-then-got-eq0
returns-then-got-eq0 c =
    let a = c.args in
    wanted a.replayer a.buf.now a.got a.out.now Read _ (sym (ap fault_of c.in_default.is) ∙ c.turn_check.ensures)
    c.in-Read.is (none_read a.replayer a.buf.now a.got a.out.now _ c.if-got-eq0.true c.last.ensures)

pub returns-else-got-eq0 : goal.returns-else-got-eq0
returns-else-got-eq0 c =
    let a = c.args in
    wanted a.replayer a.buf.now a.got a.out.now Read _ (sym (ap fault_of c.in_default.is) ∙ c.turn_check.ensures)
    c.in-Read.is (some_read a.replayer a.buf.now a.got a.out.now _ c.if-got-eq0.false c.carry_on.ensures)

pub returns-in-Again : goal.returns-in-Again
returns-in-Again c =
    let a = c.args in
    wanted a.replayer a.buf.now a.got a.out.now Again _ (sym (ap fault_of c.in_default.is) ∙ c.turn_check.ensures)
    c.in-Again.is c.carry_on-in-Again.ensures

pub returns-in-End : goal.returns-in-End
returns-in-End c =
    let a = c.args in
    wanted a.replayer a.buf.now a.got a.out.now End _ (sym (ap fault_of c.in_default.is) ∙ c.turn_check.ensures)
    c.in-End.is (none-wanted a.replayer a.buf.now a.got a.out.now _ c.ended.ensures)
