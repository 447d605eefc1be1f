-- `behind_first` passes the separator where there is one. Assumes nothing.
use Rattle.std.proofs.Common.{ℕ, ◌+◌, drop, sym, ap, ◌∙◌, arith, length-drop, take_all, drop_of_length-le}
use Rattle.text.proofs.Rows.{behind_first_is}
use Rattle.text.proofs.fields.behind_first.Goals as goal

pub returns-then-end-s : goal.returns-then-end-s
returns-then-end-s c =
    let s = c.args.s.now in
    take_all _ _ (omega (arith, length-drop {A = ℕ})) ∙ ap (λ (i : ℕ). drop (i + 1) s) c.end_of-end.ensures ∙ sym (behind_first_is c.args.separator s)

pub returns-else-end-s : goal.returns-else-end-s
returns-else-end-s c =
    let s = c.args.s.now in
    sym (behind_first_is c.args.separator s ∙ drop_of_length-le s (omega (arith, c.end_of-end.ensures)))
