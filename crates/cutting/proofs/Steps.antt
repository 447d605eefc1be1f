-- One step of the search at a place: none is left, the byte joins, ends or drops. Assumes nothing.
use mathlib.Core.Path.{◌≡◌, ◌∙◌}
use mathlib.Core.List.{List}
use Prim.Native.Nat.{ℕ, ◌≤◌, ◌<◌, ◌+◌, ◌-◌}
use native.Mathlib.Numerals.{add-one}
use lib.ListN.{length, drop, get_or, drop_of_length-le}
use lib.Seq.{drop-cons}
use Rattle.cutting.specs.declared.turns.Turn.TheVariants.{Joins, Ends, Drops}
use Rattle.cutting.specs.Turns.{turn_of}
use Rattle.cutting.specs.Search.{Found, Nothing, on_turn, cut_from}

-- behind the end none is left
pub none_left : (s : List ℕ) (len i : ℕ) → length s ≤ i → cut_from (drop i s) len i ≡ Nothing
unfolding cut_from
none_left s len i h = rw (drop_of_length-le s h)

-- before it the turn of the byte there decides
pub at_place : (s : List ℕ) (len i : ℕ) → i < length s → cut_from (drop i s) len i ≡ on_turn (turn_of len (get_or s i 0)) i (λ n. cut_from (drop (i + 1) s) n (i + 1))
unfolding cut_from
at_place s len i h = rw (drop-cons s i 0 h) (simp add-one)

pub on-ends : (s : List ℕ) (len i at : ℕ) → i < length s → turn_of len (get_or s i 0) ≡ Ends at → cut_from (drop i s) len i ≡ Found (i - at) (i + 1)
on-ends s len i at h e = at_place s len i h ∙ rw e

pub on-joins : (s : List ℕ) (len i at : ℕ) → i < length s → turn_of len (get_or s i 0) ≡ Joins at → cut_from (drop i s) len i ≡ cut_from (drop (i + 1) s) (at + 1) (i + 1)
on-joins s len i at h e = at_place s len i h ∙ rw e

pub on-drops : (s : List ℕ) (len i : ℕ) → i < length s → turn_of len (get_or s i 0) ≡ Drops → cut_from (drop i s) len i ≡ cut_from (drop (i + 1) s) 0 (i + 1)
on-drops s len i h e = at_place s len i h ∙ rw e
