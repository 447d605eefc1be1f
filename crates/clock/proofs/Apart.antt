-- The paper's numbers tell the answers of what is due apart (rule G3). Assumes nothing.
use Rattle.std.proofs.Common.{◌≡◌, sym, refl, ap, ◌∙◌, ℕ, Option, None, Some, Result, Ok, Err}
use Rattle.records.proofs.Apart.{back_of, refusal-back}
use Rattle.records.specs.declared.refusals.Refusal.{Refusal}
use Rattle.clock.specs.Due.{When, refused, never, after, when_of, OneDue}

abbrev due_back : When → Result (Option ℕ) Refusal
due_back (refused x) = Err (back_of x)
due_back never = Ok None
due_back (after n) = Ok (Some n)

due-back : (x : Result (Option ℕ) Refusal) → due_back (when_of x) ≡ x
due-back (Err x) = ap Err (refusal-back x)
due-back (Ok None) = refl
due-back (Ok (Some n)) = refl

pub one-due : OneDue
one-due a b h = sym (due-back a) ∙ ap due_back h ∙ due-back b
