-- What an answer makes of the flag 'in position Operation'. Assumes nothing.
use mathlib.Core.Path.{◌≡◌, refl}
use mathlib.Core.Bool.{Bool, true, false, cond}
use Prim.Native.Nat.{ℕ}
use Prim.Native.Char.{code}
use lib.Dec.{eqb}
use lib.ListN.{get_or}
use Rattle.laws.specs.Truth.{implies}
use Rattle.records.specs.Records.{type_of, values_of}
use Rattle.records.specs.declared.records.Record.{Record}
use Rattle.master.specs.Times.{reduces, operation_fits, operation_after}

module _ (line sent : ℕ) (rec : Record) (before : Bool) where
  -- the flag behind an answer is one that the line allows
  pub after-fits : operation_fits line before ≡ true → operation_fits line (operation_after line sent rec before) ≡ true
  unfolding operation_fits operation_after
  after-fits h = go (eqb sent (code "t")) (eqb (type_of rec) (code "A")) (eqb (get_or (values_of rec) 0 0) (code "X"))
    where
      itself : (b : Bool) → implies b b ≡ true
      itself true = refl
      itself false = refl

      go : (a b x : Bool) → implies (cond a (cond b (cond x (reduces line) false) before) before) (reduces line) ≡ true
      go true true true = itself (reduces line)
      go true true false = refl
      go true false x = h
      go false b x = h
