-- The paper's numbers and places tell a step's answers apart (rule G3). Assumes nothing.
use Rattle.std.specs.Prelude.{None, Some, Ok, Err}
use mathlib.Core.Path.{◌≡◌, refl}
use Rattle.records.proofs.Apart.{one-refusal}
use Rattle.cutting.specs.Gather.{OneGathered}

-- a promise through these definitions allows one answer only
pub one-gathered : OneGathered
one-gathered (Ok None) (Ok None) h = refl
one-gathered (Ok None) (Ok (Some n)) h = cc
one-gathered (Ok None) (Err y) h = cc
one-gathered (Ok (Some m)) (Ok None) h = cc
one-gathered (Ok (Some m)) (Ok (Some n)) h = cc
one-gathered (Ok (Some m)) (Err y) h = cc
one-gathered (Err x) (Ok None) h = cc
one-gathered (Err x) (Ok (Some n)) h = cc
one-gathered (Err x) (Err y) h = let e : x ≡ y = one-refusal x y (cc) in cc
