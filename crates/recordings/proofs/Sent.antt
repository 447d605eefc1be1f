-- The bytes that a hearing sent, by their count. Assumes nothing.
use Rattle.std.proofs.Common.{◌≡◌, ℕ, List, ap, ◌∙◌}
use Rattle.text.specs.Putting.{puts}
use Rattle.scripts.specs.Printing.{first_text}

pub by_count : (n m at : ℕ) (word sent out : List ℕ) (r : ℕ) (x : List ℕ) → n ≡ m → (r, x) ≡ puts (first_text word sent n) at out → (r, x) ≡ puts (first_text word sent m) at out
by_count n m at word sent out r x e h = h ∙ ap (λ (k : ℕ). puts (first_text word sent k) at out) e
