-- The gatherer told by the bytes that it holds, without what lies behind them. Assumes nothing.
use mathlib.Core.Path.{◌≡◌, refl, ap, ap₂, ◌∙◌}
use mathlib.Core.List.{List, [], ◌∷◌, ◌++◌}
use Prim.Native.Nat.{ℕ, ◌+◌, ◌≤◌}
use native.Mathlib.Omega.{arith}
use native.Mathlib.Numerals.{add-one}
use lib.ListN.{length, take, set}
use lib.Seq.{length-take-le, take-take, take-suc-set}
use Rattle.cutting.specs.declared.turns.Turn.{Turn}
use Rattle.cutting.specs.declared.turns.Turn.TheVariants.{Joins, Ends, Drops}
use Rattle.cutting.specs.declared.gather.Item.{Item}
use Rattle.cutting.specs.declared.gather.Item.TheVariants.{Byte, Hit}
use Rattle.cutting.specs.declared.gather.Gatherer.{Gatherer}
use Rattle.cutting.specs.Turns.{turn_of}
use Rattle.cutting.specs.Gather.{holding, shut, turned}
use Rattle.cutting.proofs.Cases.{joins_at, ends_at}
use Rattle.cutting.specs.Streams.{InRange, handing, handed}
use Rattle.cutting.proofs.Ranges.{hears, turn-range}

-- the bytes gathered so far
abbrev pub held : Gatherer → List ℕ
held g = take g.len g.bytes

-- bytes with one more at an index
abbrev pub with : ℕ → List ℕ → ℕ → List ℕ
with at h byte = take at h ++ (byte ∷ [])

-- what a byte's turn hands out, and the bytes held behind it
abbrev pub turning : Turn → List ℕ → ℕ → (List ℕ → List (List ℕ)) → List (List ℕ)
turning (Joins at) h byte later = later (with at h byte)
turning (Ends at) h byte later = with at h byte ∷ later []
turning Drops h byte later = later []

-- the telegrams that items hand out where bytes are held
unfoldable pub gathered : List ℕ → List Item → List (List ℕ)
gathered h [] = []
gathered h (Byte byte ∷ items) = turning (turn_of (length h) byte) h byte (λ h'. gathered h' items)
gathered h (Hit ∷ items) = gathered [] items

held-length : (g : Gatherer) → InRange g → length (held g) ≡ g.len
held-length g r = length-take-le g.len g.bytes (omega (arith, r.few, r.room))

-- a byte put at an index stands behind the bytes before it
put_front : (g : Gatherer) (at byte : ℕ) → InRange g → at ≤ g.len → take (at + 1) (set g.bytes at byte) ≡ with at (held g) byte
put_front g at byte r h =
    rw (add-one at, take-take at g.len g.bytes h) (take-suc-set g.bytes at byte (omega (arith, r.few, r.room)))

-- so only the bytes held decide what is handed out
pub by-held : (items : List Item) (g : Gatherer) → InRange g → handed g items ≡ gathered (held g) items
unfolding handed gathered
by-held [] g r = refl
by-held (Hit ∷ items) g r = rw (hears g Hit r) (by-held items (shut g) record { few = omega arith; room = r.room })
by-held (Byte byte ∷ items) g r = rw (hears g (Byte byte) r, held-length g r) (turn (turn_of g.len byte) refl (λ g'. by-held items g'))
  where
    turn : (t : Turn) → turn_of g.len byte ≡ t → ((g' : Gatherer) → InRange g' → handed g' items ≡ gathered (held g') items)
        → handing (turned g byte t) (handed (turned g byte t).0 items) ≡ turning t (held g) byte (λ h'. gathered h' items)
    turn (Joins at) e same =
        same (holding g at byte (at + 1)) (turn-range g byte (Joins at) r e) ∙ ap (λ (h : List ℕ). gathered h items) (put_front g at byte r (joins_at g.len byte at e).0)
    turn (Ends at) e same =
        ap₂ (λ (t : List ℕ) (ts : List (List ℕ)). t ∷ ts) (put_front g at byte r (omega (arith, ends_at g.len byte at e))) (same (holding g at byte 0) (turn-range g byte (Ends at) r e))
    turn Drops e same = same (shut g) (turn-range g byte Drops r e)
