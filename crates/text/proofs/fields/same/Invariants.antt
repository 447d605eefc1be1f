-- The texts are the same if all bytes were so far and the rest is. Assumes nothing.
use Rattle.std.proofs.Common.{◌≡◌, ◌≤◌, length, drop}
use Rattle.laws.specs.Truth.{both}
use Rattle.text.specs.Fields.{same_text}
use Rattle.text.proofs.fields.same.Given as goal

abbrev pub invariant-loop-x : goal.invariant-loop-x
invariant-loop-x l = (length l.a ≡ length l.b) × (length l.yielded ≤ length l.a) × (both l.all (same_text (drop (length l.yielded) l.a) (drop (length l.yielded) l.b)) ≡ same_text l.a l.b)
