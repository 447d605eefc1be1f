-- How many bytes a writing put, by its answer. Assumes nothing.
use Rattle.std.specs.Prelude.{Result, Ok, Err}
use Rattle.std.specs.Result.{result_unwrap_or}
use mathlib.Core.Path.{◌≡◌}
use mathlib.Core.List.{List}
use Prim.Native.Nat.{ℕ}
use Rattle.records.specs.declared.refusals.Refusal.{Refusal}
use Rattle.records.specs.Answers.{outcome_of, Write}
use Rattle.writing.specs.Writing.{put_by}

pub put : (answer : Result ℕ Refusal) (out : List ℕ) (w : Write) → (outcome_of answer, out) ≡ w → (result_unwrap_or answer 0, out) ≡ put_by w
put (Ok n) out w h = rw (← h)
put (Err x) out w h = rw (← h)
