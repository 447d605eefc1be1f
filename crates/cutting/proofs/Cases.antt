-- The five cases of a byte's turn, and what they say of the index that it names. Assumes nothing.
use mathlib.Core.Path.{◌≡◌, refl}
use mathlib.Core.Bool.{Bool, true, false}
use Prim.Native.Nat.{ℕ, ◌≤◌, ◌<◌}
use native.Mathlib.Omega.{arith}
use lib.Dec.{eqb, leb}
use borrow.Author.Tests.{eqb-true, eqb-false, leb-true, leb-false}
use Rattle.characters.specs.Marks.{lf, cr, unfinished}
use Rattle.cutting.specs.declared.turns.Turn.{Turn}
use Rattle.cutting.specs.declared.turns.Turn.TheVariants.{Joins, Ends, Drops}
use Rattle.cutting.specs.Turns.{turn_of, pick_turn}

-- LF is not CR
pub apart : {A : Type 0} {byte : ℕ} → byte ≡ lf → byte ≡ cr → A
apart l c = let z : ⊥ = omega arith in absurd z

pub data Case (len byte : ℕ) : Turn → Type 0 where
  -- LF begins a telegram, also inside another
  begins : byte ≡ lf → Case len byte (Joins 0)
  -- bytes outside a telegram are skipped
  skips : ¬ (byte ≡ lf) → len ≡ 0 → Case len byte Drops
  -- CR ends it
  ends : byte ≡ cr → 0 < len → Case len byte (Ends len)
  -- a 66th byte that is neither LF nor CR drops it
  drops : ¬ (byte ≡ lf) → ¬ (byte ≡ cr) → unfinished ≤ len → Case len byte Drops
  -- any other byte inside joins it
  joins : ¬ (byte ≡ lf) → ¬ (byte ≡ cr) → 0 < len → len < unfinished → Case len byte (Joins len)

pub turn-case : (len byte : ℕ) → Case len byte (turn_of len byte)
unfolding turn_of
turn-case len byte = at-lf (eqb byte lf) (eqb-true byte lf) (eqb-false byte lf)
  where
    at-limit : (t : Bool) → (t ≡ true → unfinished ≤ len) → (t ≡ false → len < unfinished) → ¬ (byte ≡ lf) → ¬ (len ≡ 0) → ¬ (byte ≡ cr) → Case len byte (pick_turn t Drops (Joins len))
    at-limit true y n l z c = drops l c (y refl)
    at-limit false y n l z c = joins l c (omega arith) (n refl)

    at-cr : (t : Bool) → (t ≡ true → byte ≡ cr) → (t ≡ false → ¬ (byte ≡ cr)) → ¬ (byte ≡ lf) → ¬ (len ≡ 0) → Case len byte (pick_turn t (Ends len) (pick_turn (leb unfinished len) Drops (Joins len)))
    at-cr true y n l z = ends (y refl) (omega arith)
    at-cr false y n l z = at-limit (leb unfinished len) (leb-true unfinished len) (leb-false unfinished len) l z (n refl)

    outside : (t : Bool) → (t ≡ true → len ≡ 0) → (t ≡ false → ¬ (len ≡ 0)) → ¬ (byte ≡ lf)
        → Case len byte (pick_turn t Drops (pick_turn (eqb byte cr) (Ends len) (pick_turn (leb unfinished len) Drops (Joins len))))
    outside true y n l = skips l (y refl)
    outside false y n l = at-cr (eqb byte cr) (eqb-true byte cr) (eqb-false byte cr) l (n refl)

    at-lf : (t : Bool) → (t ≡ true → byte ≡ lf) → (t ≡ false → ¬ (byte ≡ lf))
        → Case len byte
        (pick_turn t (Joins 0) (pick_turn (eqb len 0) Drops (pick_turn (eqb byte cr) (Ends len) (pick_turn (leb unfinished len) Drops (Joins len)))))
    at-lf true y n = begins (y refl)
    at-lf false y n = outside (eqb len 0) (eqb-true len 0) (eqb-false len 0) (n refl)

-- a byte joins at an index under 65, and behind no more than the bytes gathered
pub joins_at : (len byte at : ℕ) → turn_of len byte ≡ Joins at → (at ≤ len) × (at < unfinished)
joins_at len byte at e = go (turn_of len byte) (turn-case len byte) e
  where
    go : (t : Turn) → Case len byte t → t ≡ Joins at → (at ≤ len) × (at < unfinished)
    go t (begins l) q = let x : 0 ≡ at = cc in (omega arith, omega arith)
    go t (joins l c z m) q = let x : len ≡ at = cc in (omega arith, omega arith)
    go t (skips l z) q = let z : ◌≡◌ {A = ℕ} 0 1 = cc in let y : ⊥ = omega arith in absurd y
    go t (ends c z) q = let z : ◌≡◌ {A = ℕ} 0 1 = cc in let y : ⊥ = omega arith in absurd y
    go t (drops l c m) q = let z : ◌≡◌ {A = ℕ} 0 1 = cc in let y : ⊥ = omega arith in absurd y

-- CR stands at the index behind the bytes gathered
pub ends_at : (len byte at : ℕ) → turn_of len byte ≡ Ends at → at ≡ len
ends_at len byte at e = go (turn_of len byte) (turn-case len byte) e
  where
    go : (t : Turn) → Case len byte t → t ≡ Ends at → at ≡ len
    go t (begins l) q = cc
    go t (joins l c z m) q = cc
    go t (skips l z) q = cc
    go t (ends c z) q = cc
    go t (drops l c m) q = cc
