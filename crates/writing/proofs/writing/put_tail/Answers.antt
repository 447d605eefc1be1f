-- `writing::writing::put_tail` meets its contract.
use Rattle.std.proofs.Common.{ℕ, List, [], ◌∷◌, ◌++◌, ap, ◌∙◌}
use Rattle.reading.proofs.Framing.{sum-two}
use Rattle.writing.proofs.writing.put_tail.Goals as goal

pub returns : goal.returns
returns c = c.copy_from_slice.ensures.after ∙ ap (λ (l : List ℕ). l ++ (13 ∷ [])) (sum-two c.args.sum _ _ c.hex.ensures c.hex-2.ensures)
