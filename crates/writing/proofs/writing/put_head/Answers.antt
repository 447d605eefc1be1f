-- `writing::writing::put_head` meets its contract.
use Rattle.std.proofs.Common.{ℕ, ◌+◌, List, [], ◌∷◌, ◌++◌, ap, ◌∙◌}
use Rattle.reading.proofs.Framing.{count-two}
use Rattle.writing.proofs.writing.put_head.Goals as goal

pub returns : goal.returns
returns c =
    let a = c.args in
    c.copy_from_slice.ensures.after
    ∙ ap (λ (l : List ℕ). 10 ∷ (l ++ (a.kind ∷ (48 + a.number) ∷ []))) (count-two a.n _ _ c.count_high.ensures c.count_low.ensures)
