-- A hit, and a whole telegram heard from any state (rule C4). Assumes nothing.
use mathlib.Core.Path.{◌≡◌, refl, sym, ap, ◌∙◌}
use mathlib.Core.List.{List, [], ◌∷◌, ◌++◌, map, append_assoc}
use Prim.Native.Nat.{ℕ, ◌+◌, ◌≤◌, ◌<◌}
use native.Mathlib.Omega.{arith}
use lib.ListN.{length, length-append}
use lib.Seq.{take-length}
use Rattle.characters.specs.Marks.{lf, cr, longest, unfinished}
use Rattle.cutting.specs.declared.turns.Turn.{Turn}
use Rattle.cutting.specs.declared.turns.Turn.TheVariants.{Joins, Ends, Drops}
use Rattle.cutting.specs.declared.gather.Item.{Item}
use Rattle.cutting.specs.declared.gather.Item.TheVariants.{Byte, Hit}
use Rattle.cutting.specs.Turns.{Plain, turn_of}
use Rattle.cutting.specs.Gather.{at_start}
use Rattle.cutting.proofs.Cases.{apart, Case, begins, skips, ends, drops, joins, turn-case}
use Rattle.cutting.specs.Streams.{AllPlain, whole, handed, TelegramOut, HitStep, HitDrops, AfterHit}
use Rattle.cutting.proofs.Ranges.{hears, start-range}
use Rattle.cutting.proofs.Held.{held, with, turning, gathered, by-held}

-- what each byte does, by its kind
lf-joins : (len : ℕ) → turn_of len lf ≡ Joins 0
lf-joins len = go (turn_of len lf) (turn-case len lf)
  where
    go : (t : Turn) → Case len lf t → t ≡ Joins 0
    go t (begins l) = refl
    go t (skips l z) = absurd (l refl)
    go t (ends c z) = apart refl c
    go t (drops l c m) = absurd (l refl)
    go t (joins l c z m) = absurd (l refl)

cr-ends : (len : ℕ) → 0 < len → turn_of len cr ≡ Ends len
cr-ends len h = go (turn_of len cr) (turn-case len cr)
  where
    go : (t : Turn) → Case len cr t → t ≡ Ends len
    go t (begins l) = apart l refl
    go t (skips l z) = let y : ⊥ = omega arith in absurd y
    go t (ends c z) = refl
    go t (drops l c m) = absurd (c refl)
    go t (joins l c z m) = absurd (c refl)

plain-joins : (len byte : ℕ) → 0 < len → len < unfinished → Plain byte → turn_of len byte ≡ Joins len
plain-joins len byte h k p = go (turn_of len byte) (turn-case len byte)
  where
    go : (t : Turn) → Case len byte t → t ≡ Joins len
    go t (begins l) = absurd (p.0 l)
    go t (skips l z) = let y : ⊥ = omega arith in absurd y
    go t (ends c z) = absurd (p.1 c)
    go t (drops l c m) = let y : ⊥ = omega arith in absurd y
    go t (joins l c z m) = refl

-- behind bytes that are held, others that are neither LF nor CR join them, and CR ends the telegram
held_out : (xs h : List ℕ) (items : List Item) → 0 < length h → length h + length xs ≤ unfinished → AllPlain xs
    → gathered h (map Byte (xs ++ (cr ∷ [])) ++ items) ≡ (h ++ (xs ++ (cr ∷ []))) ∷ gathered [] items
unfolding gathered
held_out [] h items z m p = rw (cr-ends (length h) z, take-length h)
held_out (x ∷ xs) h items z m p =
    rw (plain-joins (length h) x z (omega arith) p.0, take-length h)
    (held_out xs (h ++ (x ∷ [])) items (simp length-append (omega arith)) (simp length-append (omega arith)) p.1
    ∙ ap (λ (t : List ℕ). t ∷ gathered [] items) (append_assoc h (x ∷ []) (xs ++ (cr ∷ []))))

-- LF begins anew, whatever is held
anew : (h xs : List ℕ) (items : List Item) → length (whole xs) ≤ longest → AllPlain xs → gathered h (map Byte (whole xs) ++ items) ≡ whole xs ∷ gathered [] items
unfolding gathered
anew h xs items m p = rw (lf-joins (length h)) (held_out xs (lf ∷ []) items (omega arith) (omega (arith, length-append xs (cr ∷ []))) p)

-- so from every state in its ranges a whole telegram is handed out
pub telegram-out : TelegramOut
telegram-out g xs items r m p =
    by-held (map Byte (whole xs) ++ items) g r ∙ anew (held g) xs items m p ∙ ap (λ (ts : List (List ℕ)). whole xs ∷ ts) (sym (by-held items at_start start-range))

-- a hit leaves no telegram begun and hands out nothing; the bytes stay
pub hit-step : HitStep
hit-step g r = hears g Hit r

hit-held : (xs ys : List Item) (h : List ℕ) → gathered h (xs ++ (Hit ∷ ys)) ≡ gathered h xs ++ gathered [] ys
unfolding gathered
hit-held [] ys h = refl
hit-held (Hit ∷ xs) ys h = hit-held xs ys []
hit-held (Byte byte ∷ xs) ys h = turn (turn_of (length h) byte) (λ h'. hit-held xs ys h')
  where
    turn : (t : Turn) → ((h' : List ℕ) → gathered h' (xs ++ (Hit ∷ ys)) ≡ gathered h' xs ++ gathered [] ys)
        → turning t h byte (λ h'. gathered h' (xs ++ (Hit ∷ ys))) ≡ turning t h byte (λ h'. gathered h' xs) ++ gathered [] ys
    turn (Joins at) same = same (with at h byte)
    turn (Ends at) same = ap (λ (ts : List (List ℕ)). with at h byte ∷ ts) (same [])
    turn Drops same = same []

-- a hit drops what was begun and nothing else
pub hit-drops : HitDrops
hit-drops g before later r =
    by-held (before ++ (Hit ∷ later)) g r ∙ hit-held before later (held g) ∙ sym (rw (by-held before g r, by-held later at_start start-range))

-- after it the next LF begins a telegram
pub after-hit : AfterHit
after-hit g before xs items r m p =
    hit-drops g before (map Byte (whole xs) ++ items) r ∙ ap (λ (ts : List (List ℕ)). handed g before ++ ts) (telegram-out at_start xs items start-range m p)
