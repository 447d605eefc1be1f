-- `list` checks 15 and 14, and does its task. Assumes nothing.
use Rattle.std.proofs.Common.{sym, ap, ◌∙◌, arith}
use Rattle.records.specs.Answers.{fault_of, written}
use Rattle.captures.specs.declared.lister.Lister.{Lister}
use Rattle.pieces.specs.Turns.{Turned, beside}
use Rattle.pieces.proofs.Checks.{passing}
use Rattle.pieces.proofs.Runs.{refused-turn}
use Rattle.captures.specs.Turn.{listing}
use Rattle.captures.proofs.Turning.{tasked}
use Rattle.captures.proofs.turn.list.Goals as goal

pub returns-in-Err : goal.returns-in-Err
returns-in-Err c =
    let a = c.args in
    refused-turn listing a.lister a.buf.now a.got a.out.now _ (sym (ap fault_of c.in-Err.is) ∙ c.list_check.ensures)

pub overflow_add-n : goal.overflow_add-n
overflow_add-n c =
    let a = c.args in
    omega (arith, (passing _ a.lister.held _ _ _ a.got _ (sym (ap fault_of c.in_default.is) ∙ c.list_check.ensures)).bytes)

pub returns-in-Lists : goal.returns-in-Lists
returns-in-Lists c =
    let a = c.args in
    tasked a.lister a.buf.now a.got a.out.now _ _ _ _ (sym (ap fault_of c.in_default.is) ∙ c.list_check.ensures) c.part.ensures c.task.ensures
    c.in-Lists.is c.carry_on.ensures

pub returns-in-Unnamed : goal.returns-in-Unnamed
returns-in-Unnamed c =
    let a = c.args in
    tasked a.lister a.buf.now a.got a.out.now _ _ _ _ (sym (ap fault_of c.in_default.is) ∙ c.list_check.ensures) c.part.ensures c.task.ensures
    c.in-Unnamed.is (ap (beside a.buf.now) c.unnamed.ensures)

pub returns-in-Over : goal.returns-in-Over
returns-in-Over c =
    let a = c.args in
    tasked a.lister a.buf.now a.got a.out.now _ _ _ _ (sym (ap fault_of c.in_default.is) ∙ c.list_check.ensures) c.part.ensures c.task.ensures
    c.in-Over.is (ap {B = Turned Lister} (λ (l : Lister). (l, (written 0, (a.buf.now, a.out.now)))) c.ended.ensures)
