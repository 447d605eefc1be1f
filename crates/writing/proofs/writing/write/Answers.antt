-- `writing::writing::write` meets its contract.
use Rattle.std.proofs.Common.{ℕ, List, sym, ap, ◌∙◌, arith}
use Rattle.records.specs.Answers.{Outcome}
use Rattle.writing.proofs.Writes.{no_line, not-sent, not-permitted, no_number, no_room, in-full}
use Rattle.writing.proofs.writing.write.Goals as goal

pub returns-then-not-is_line : goal.returns-then-not-is_line
returns-then-not-is_line c =
    no_line c.args.line c.args.rec c.args.number c.args.out.now (sym c.is_line.ensures ∙ c.if-not-is_line.true)

pub returns-in_default : goal.returns-in_default
returns-in_default c = not-sent _ _ _ _ c.is_line.ensures c.if-not-is_line.false c.type_of-kind.ensures c.letter_of.ensures c.in_default.ensures

pub returns-then-not-permits_values : goal.returns-then-not-permits_values
returns-then-not-permits_values c =
    not-permitted _ _ _ _ c.is_line.ensures c.if-not-is_line.false c.type_of-kind.ensures c.letter_of.ensures c.in-Some.ensures c.values_of-values.ensures
    c.permits_values.ensures c.if-not-permits_values.true

pub returns-then-number-gt1 : goal.returns-then-number-gt1
returns-then-number-gt1 c =
    no_number _ _ _ _ c.is_line.ensures c.if-not-is_line.false c.type_of-kind.ensures c.letter_of.ensures c.in-Some.ensures c.values_of-values.ensures
    c.permits_values.ensures c.if-not-permits_values.false c.if-number-gt1.true

pub returns-then-out-n : goal.returns-then-out-n
returns-then-out-n c =
    no_room _ _ _ _ c.is_line.ensures c.if-not-is_line.false c.type_of-kind.ensures c.letter_of.ensures c.in-Some.ensures c.values_of-values.ensures
    c.permits_values.ensures c.if-not-permits_values.false c.if-number-gt1.false (omega (arith, c.width_of-n.ensures.0))

pub returns : goal.returns
returns c =
    ap (λ (p : Outcome × List ℕ). p)
    (rw (c.width_of-n.ensures.0, c.put_telegram.ensures)
    (in-full _ _ _ _ c.is_line.ensures c.if-not-is_line.false c.type_of-kind.ensures c.letter_of.ensures c.in-Some.ensures c.values_of-values.ensures
    c.permits_values.ensures c.if-not-permits_values.false c.if-number-gt1.false (omega arith)))
