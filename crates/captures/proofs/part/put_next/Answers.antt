-- `put_next` cuts, reads and puts as its definition does. Assumes nothing.
use Rattle.std.proofs.Common.{sym, ap, ◌∙◌}
use Rattle.std.proofs.lemmas.Result.{err_from_is_err_and}
use Rattle.records.specs.Answers.{outcome_of}
use Rattle.cutting.specs.Search.{found_of}
use Rattle.captures.proofs.Listed.{one-put}
use Rattle.captures.proofs.part.put_next.Goals as goal

pub returns-in_err-len : goal.returns-in_err-len
returns-in_err-len c =
    let a = c.args in
    let p = err_from_is_err_and c.from_residual.result c.from_residual.ensures.1 in
    rw p.1 (one-put a.lister.line a.lister.ordinal a.lister.base a.s.now a.lister.next a.out.now _ _ _ _ c.read.result c.put_line.result _ _
    (sym c.span_of-found.ensures ∙ ap found_of c.in-Some.is) c.wrapping_add_u64-offset.ensures.value c.part_of.ensures c.read.ensures c.put_line.ensures
    (ap outcome_of c.in_err-len.was))

pub returns : goal.returns
returns c =
    let a = c.args in
    one-put a.lister.line a.lister.ordinal a.lister.base a.s.now a.lister.next a.out.now _ _ _ _ c.read.result c.put_line.result _ _
    (sym c.span_of-found.ensures ∙ ap found_of c.in-Some.is) c.wrapping_add_u64-offset.ensures.value c.part_of.ensures c.read.ensures c.put_line.ensures
    (ap outcome_of c.in_ok-len.was)
