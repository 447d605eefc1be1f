-- What one byte does to the telegram that is being gathered (rules C2 to C6). Assumes nothing.
use Rattle.std.specs.Prelude.{ℕ, ◌≡◌, Bool, true, false, leb, eqb}
use Rattle.characters.specs.Marks.{lf, cr, unfinished}
use Rattle.cutting.specs.declared.turns.Turn.{Turn}
use Rattle.cutting.specs.declared.turns.Turn.TheVariants.{Joins, Ends, Drops}

-- a byte that is neither LF nor CR
abbrev pub Plain : ℕ → Type 0
Plain byte = ¬ (byte ≡ lf) × ¬ (byte ≡ cr)

abbrev pub pick_turn : Bool → Turn → Turn → Turn
pick_turn true a b = a
pick_turn false a b = b

-- LF begins a telegram, also inside another, which is dropped; bytes outside are skipped; CR ends it; a 66th byte that is neither drops it
unfoldable pub turn_of : ℕ → ℕ → Turn
turn_of len byte =
    pick_turn (eqb byte lf) (Joins 0)
    (pick_turn (eqb len 0) Drops
    (pick_turn (eqb byte cr) (Ends len)
    (pick_turn (leb unfinished len) Drops
    (Joins len))))
