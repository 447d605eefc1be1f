-- What a turn's checks say. Assumes nothing.
use mathlib.Core.Path.{◌≡◌, refl, sym, ap}
use mathlib.Core.Bool.{Bool, true, false, cond}
use Prim.Native.Nat.{ℕ, ◌+◌, ◌-◌, ◌≤◌}
use native.Mathlib.Omega.{arith}
use lib.Dec.{ltb, leb}
use borrow.Author.Tests.{le-ltb, le-leb, leb-true, ltb-false}
use Rattle.laws.specs.Truth.{both, either}
use Rattle.laws.proofs.Truths.{clash}
use Rattle.records.specs.Refusals.{no}
use Rattle.records.specs.Answers.{Fault, good, fails}
use Rattle.pieces.specs.Turns.{room_fault}

abbrev passed : Fault → Bool
passed good = true
passed (fails x) = false

module _ (fits : Bool) (held buffer output len got room : ℕ) where
  -- the state is in its ranges, the bytes held and got are in the buffer, and there is room
  pub record Passes : Type 0 where
    pub state : fits ≡ true
    pub bytes : held + got ≤ len
    pub space : output ≤ room
    pub whole : buffer ≤ len

  pub passing : good ≡ room_fault fits held buffer output len got room → Passes
  unfolding room_fault
  passing h = go fits (leb held len) (leb got (len - held)) (ltb room output) (ltb len buffer) h refl refl refl refl refl
    where
      go : (a b c d e : Bool) → good ≡ cond (both a (both b c)) (cond (either d e) (fails (no 14 0)) good) (fails (no 15 0))
          → fits ≡ a → leb held len ≡ b → leb got (len - held) ≡ c → ltb room output ≡ d → ltb len buffer ≡ e → Passes
      go true true true false false h i j k l m =
          record { state = i; bytes = omega (arith, leb-true held len j, leb-true got (len - held) k); space = ltb-false room output l; whole = ltb-false len buffer m }
      go true true true false true h i j k l m = clash (sym (ap passed h))
      go true true true true e h i j k l m = clash (sym (ap passed h))
      go true true false d e h i j k l m = clash (sym (ap passed h))
      go true false c d e h i j k l m = clash (sym (ap passed h))
      go false b c d e h i j k l m = clash (sym (ap passed h))

  pub passes : Passes → good ≡ room_fault fits held buffer output len got room
  unfolding room_fault
  passes p =
      rw (p.state, le-leb held len (omega (arith, p.bytes)), le-leb got (len - held) (omega (arith, p.bytes)), le-ltb room output p.space, le-ltb len buffer p.whole)
