-- A look through what its parts promise. Assumes nothing.
use mathlib.Core.Path.{◌≡◌}
use mathlib.Core.Bool.{Bool, true}
use mathlib.Core.List.{List}
use Prim.Native.Nat.{ℕ}
use lib.Dec.{eqb}
use lib.ListN.{length}
use Rattle.laws.proofs.Passes.{on_test}
use Rattle.records.specs.Refusals.{No}
use Rattle.records.specs.Answers.{good, fails}
use Rattle.blocks.specs.Record.{record_length}
use Rattle.in656.specs.declared.results.result.In656Result.{In656Result}
use Rattle.in656.specs.Results.Result.{Call, refusing}
use Rattle.in656.specs.Looks.{look_fault, looked}

module _ (fits asked : Bool) (a : asked ≡ fits) (block : List ℕ) where
  -- it is refused
  pub not_seen : (x : No) (seen : Call) (r : In656Result) → fails x ≡ look_fault asked block → r ≡ refusing x → (r, block) ≡ looked fits seen block
  unfolding look_fault looked
  not_seen x seen r h p =
      on_test asked
      (λ e. on_test (eqb (length block) record_length) (λ l. let z = rw (e, l) at h in cc) (λ l. let z = rw (e, l) at h in rw (← a, e, l) (cc)))
      (λ e. let z = rw e at h in rw (← a, e) (cc))

  -- it is seen, and the state is in its ranges
  pub all_seen : (r seen : Call) → good ≡ look_fault asked block → r ≡ seen → r ≡ looked fits seen block
  unfolding look_fault looked
  all_seen r seen h q =
      on_test asked
      (λ e. on_test (eqb (length block) record_length) (λ l. rw (← a, e, l) q) (λ l. let z = rw (e, l) at h in cc))
      (λ e. let z = rw e at h in cc)

  pub it_fits : good ≡ look_fault asked block → fits ≡ true
  unfolding look_fault
  it_fits h = on_test asked (λ e. cc) (λ e. let z = rw e at h in cc)
