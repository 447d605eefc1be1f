-- A step on a block is the step of the gatherer that is loaded from it. Assumes nothing.
use mathlib.Core.Path.{◌≡◌, refl, sym, ap, subst, ◌∙◌}
use mathlib.Core.Bool.{true}
use mathlib.Core.List.{List, ◌∷◌, ◌++◌}
use Prim.Native.Nat.{ℕ, zero, suc, ◌+◌, ◌≤◌, ◌<◌}
use native.Mathlib.Omega.{arith}
use lib.Dec.{eqb}
use lib.ListN.{length, take, drop, get_or, set, replicate, length-drop}
use lib.Seq.{take_all, drop-cons}
use borrow.Author.Tests.{eq-eqb, eqb-true, le-leb, lt-leb}
use Rattle.laws.proofs.Passes.{on_test}
use Rattle.laws.proofs.Truths.{both_left, both_right}
use Rattle.text.specs.Fields.{same_text}
use Rattle.text.proofs.Rows.{same-is-equal, equal-is-same}
use Rattle.characters.specs.Marks.{longest}
use Rattle.records.specs.Refusals.{no}
use Rattle.cutting.specs.Turns.{turn_of}
use Rattle.cutting.specs.declared.turns.Turn.TheVariants.{Joins, Ends, Drops}
use Rattle.cutting.proofs.Cases.{joins_at}
use Rattle.cutting.specs.Gather.{nothing, telegram, refused, on_item, gather_of}
use Rattle.cutting.specs.declared.gather.Item.{Item}
use Rattle.cutting.specs.declared.gather.Item.TheVariants.{Byte, Hit}
use Rattle.cutting.specs.declared.gather.Gatherer.{Gatherer}
use Rattle.blocks.specs.Layout.{stretch}
use Rattle.blocks.specs.Heads.{count_byte}
use Rattle.blocks.proofs.Laid.{filled-with}
use Rattle.blocks.proofs.Found.{pad-length}
use Rattle.blocks.specs.States.{loaded}
use Rattle.blocks.specs.Gatherers.{mark, gatherer_bytes, gatherer_length, gatherer_at, blank, load_of, save_of, gatherer_of, stepped, gather_in, started, count_in, holding_in, EveryBlock, Unmarked, Zeroed}
use Rattle.blocks.proofs.Parts.{small, pad-whole}
use Rattle.blocks.proofs.Loads.{loads}
use Rattle.blocks.proofs.GathererBlock.{gatherer-length}

-- what stands behind the mark is read, and is written again
read_behind : (n : ℕ) (bytes : List ℕ) → length bytes ≡ longest → gatherer_of n bytes ≡ gatherer_at (mark ++ n ∷ bytes)
unfolding gatherer_at
read_behind n bytes l = rw (take_all longest bytes (omega arith), pad-whole longest bytes l)

same-behind : (n : ℕ) (bytes : List ℕ) → n < 256 → true ≡ same_text (gatherer_bytes (gatherer_of n bytes)) (mark ++ n ∷ bytes)
unfolding gatherer_bytes
same-behind n bytes h = rw (small n h) (sym (equal-is-same (mark ++ n ∷ bytes)))

pub every-block : EveryBlock
every-block n bytes h l = sym (loads gatherer_bytes gatherer_at blank (mark ++ n ∷ bytes) (gatherer_of n bytes) (read_behind n bytes l) (same-behind n bytes h))

-- a block that was started is the mark, the count, and as many bytes as a telegram may have
five-first : (b : List ℕ) → 5 ≤ length b → b ≡ get_or b 0 0 ∷ get_or b 1 0 ∷ get_or b 2 0 ∷ get_or b 3 0 ∷ get_or b 4 0 ∷ drop 5 b
five-first b h =
    drop-cons b 0 0 (omega arith)
    ∙ rw (drop-cons b 1 0 (omega arith), drop-cons b 2 0 (omega arith), drop-cons b 3 0 (omega arith), drop-cons b 4 0 (omega arith))

started-block : (b : List ℕ) → started b ≡ true → (length b ≡ gatherer_length) × (b ≡ mark ++ get_or b 4 0 ∷ drop 5 b)
unfolding started
started-block b h =
    let r = both_right (eqb (length b) gatherer_length) _ h in
    let l = eqb-true (length b) gatherer_length (both_left (eqb (length b) gatherer_length) _ h) in
    let r1 = both_right (eqb (get_or b 0 0) 54) _ r in
    let r2 = both_right (eqb (get_or b 1 0) 53) _ r1 in
    let e0 = eqb-true (get_or b 0 0) 54 (both_left (eqb (get_or b 0 0) 54) _ r) in
    let e1 = eqb-true (get_or b 1 0) 53 (both_left (eqb (get_or b 1 0) 53) _ r1) in
    let e2 = eqb-true (get_or b 2 0) 54 (both_left (eqb (get_or b 2 0) 54) _ r2) in
    let e3 = eqb-true (get_or b 3 0) 71 (both_right (eqb (get_or b 2 0) 54) _ r2) in
    (l, five-first b (omega (arith, l)) ∙ rw (e0, e1, e2, e3))

-- so it is where the count is in its range
on-block : (P : List ℕ → Type 0) (b : List ℕ) (len : ℕ) → len ≡ count_in b → len < longest → ((bytes : List ℕ) → length bytes ≡ longest → P (mark ++ len ∷ bytes)) → P b
unfolding count_in
on-block P b len e h f =
    on_test (started b)
    (λ q.
    let k : len ≡ get_or b 4 0 = rw q at e in
    let s = started-block b q in
    let l : length (drop 5 b) ≡ longest = rw length-drop (omega (arith, s.0)) in
    let x : mark ++ len ∷ drop 5 b ≡ b = ap (λ (n : ℕ). mark ++ n ∷ drop 5 b) k ∙ sym s.1 in
    subst P x (f (drop 5 b) l))
    (λ q. let k : len ≡ longest = rw q at e in let z : ⊥ = omega (arith, k, h) in absurd z)

pub whole : (b : List ℕ) (len : ℕ) → len ≡ count_in b → len < longest → length b ≡ gatherer_length
whole b len e h = on-block (λ (x : List ℕ). length x ≡ gatherer_length) b len e h (λ bytes l. omega arith)

-- such a step is the byte's or the hit's, and is saved
in-ranges : (n : ℕ) (bytes : List ℕ) (item : Item) → n < longest → length bytes ≡ longest → gather_in (mark ++ n ∷ bytes) item ≡ stepped (on_item (gatherer_of n bytes) item) (mark ++ n ∷ bytes)
unfolding gather_in gather_of
in-ranges n bytes item h l = rw (every-block n bytes (omega arith) l, lt-leb longest n h)

saved : (n k : ℕ) (bytes s : List ℕ) → length bytes ≡ longest → k < 256 → save_of (gatherer_of k s) (mark ++ n ∷ bytes) ≡ mark ++ k ∷ s
saved n k bytes s l h =
    filled-with gatherer_length (gatherer_bytes (gatherer_of k s)) (mark ++ n ∷ bytes) (omega arith) ∙ (unfold gatherer_bytes in rw (small k h))

behind-count : (k at byte : ℕ) (bytes : List ℕ) → set (mark ++ k ∷ bytes) (at + 5) byte ≡ mark ++ k ∷ set bytes at byte
behind-count k at byte bytes = let e : at + 5 ≡ suc (suc (suc (suc (suc at)))) = omega arith in rw e

module _ (b new : List ℕ) (len : ℕ) (e : len ≡ count_in b) (h : len < longest) where
  -- the byte joins the telegram, ends it, or is of none
  pub joins-in : (byte at : ℕ) → turn_of len byte ≡ Joins at → new ≡ holding_in b (at + 1) at byte → (nothing, new) ≡ gather_in b (Byte byte)
  joins-in byte at t =
      on-block (λ (x : List ℕ). new ≡ holding_in x (at + 1) at byte → (nothing, new) ≡ gather_in x (Byte byte)) b len e h
      (λ bytes l q.
      let few = (joins_at len byte at t).1 in
      ap (λ (x : List ℕ). (nothing, x)) (q ∙ behind-count (at + 1) at byte bytes ∙ sym (saved len (at + 1) bytes (set bytes at byte) l (omega (arith, few))))
      ∙ sym (in-ranges len bytes (Byte byte) h l ∙ rw t))

  pub ends-in : (byte at : ℕ) → turn_of len byte ≡ Ends at → new ≡ holding_in b 0 at byte → (telegram (at + 1), new) ≡ gather_in b (Byte byte)
  ends-in byte at t =
      on-block (λ (x : List ℕ). new ≡ holding_in x 0 at byte → (telegram (at + 1), new) ≡ gather_in x (Byte byte)) b len e h
      (λ bytes l q.
      ap (λ (x : List ℕ). (telegram (at + 1), x)) (q ∙ behind-count 0 at byte bytes ∙ sym (saved len 0 bytes (set bytes at byte) l (omega arith)))
      ∙ sym (in-ranges len bytes (Byte byte) h l ∙ rw t))

  pub drops-in : (byte : ℕ) → turn_of len byte ≡ Drops → new ≡ set b 4 0 → (nothing, new) ≡ gather_in b (Byte byte)
  drops-in byte t =
      on-block (λ (x : List ℕ). new ≡ set x 4 0 → (nothing, new) ≡ gather_in x (Byte byte)) b len e h
      (λ bytes l q. ap (λ (x : List ℕ). (nothing, x)) (q ∙ sym (saved len 0 bytes bytes l (omega arith))) ∙ sym (in-ranges len bytes (Byte byte) h l ∙ rw t))

  -- a hit
  pub hit-in : new ≡ set b 4 0 → (nothing, new) ≡ gather_in b Hit
  hit-in =
      on-block (λ (x : List ℕ). new ≡ set x 4 0 → (nothing, new) ≡ gather_in x Hit) b len e h
      (λ bytes l q. ap (λ (x : List ℕ). (nothing, x)) (q ∙ sym (saved len 0 bytes bytes l (omega arith))) ∙ sym (in-ranges len bytes Hit h l))

-- any other block is that of a gatherer out of its ranges, or of none
bytes-started : (g : Gatherer) → length g.bytes ≡ longest → started (gatherer_bytes g) ≡ true
unfolding started gatherer_bytes
bytes-started g h = rw (eq-eqb (length (mark ++ count_byte g.len ∷ g.bytes)) gatherer_length (gatherer-length g h))

no-fewer : (b : List ℕ) → longest ≤ count_in b → longest ≤ (load_of b).len
unfolding loaded count_in gatherer_at
no-fewer b h =
    on_test (same_text (gatherer_bytes (gatherer_at b)) b)
    (λ e.
    let q : started b ≡ true = ap started (sym (same-is-equal (gatherer_bytes (gatherer_at b)) b e)) ∙ bytes-started (gatherer_at b) (pad-length longest (stretch 5 longest b)) in
    rw e (rw q at h))
    (λ e. rw e (omega arith))

pub refused-in : (b : List ℕ) (len : ℕ) (item : Item) → len ≡ count_in b → longest ≤ len → (refused (no 15 0), b) ≡ gather_in b item
unfolding gather_in gather_of
refused-in b len item e h = rw (le-leb longest (load_of b).len (no-fewer b (omega (arith, e))))

-- so is every block without the mark
pub unmarked : Unmarked
unmarked b h item =
    on_test (started b)
    (λ e. absurd (h (ap (λ (x : List ℕ). take 4 x) (started-block b e).1)))
    (λ e. sym (refused-in b (count_in b) item refl (unfold count_in in rw e (omega arith))))

zeros-marked : (n : ℕ) → take 4 (replicate n 0) ≡ mark → ⊥
zeros-marked zero e = omega (arith, ap length e)
zeros-marked (suc n) e = omega (arith, ap (λ (x : List ℕ). get_or x 0 0) e)

pub zeroed : Zeroed
zeroed n = unmarked (replicate n 0) (zeros-marked n)
