-- The laws that make demand 3 true of two ends: each call, as it is seen, is one case of the rules. Assumes nothing.
use mathlib.Core.Path.{◌≡◌}
use mathlib.Core.Bool.{Bool, true, false}
use Prim.Native.Nat.{ℕ}
use Rattle.protocol.specs.Ends.{Ends}
use Rattle.protocol.specs.Rules.{Reading, MView, DView, First, MActs, MHears, DHears, bad, free, view}

pub record Laws (E : Ends) : Type 1 where
  -- readings, and N with 1 or 2
  pub read : E.F → Reading
  pub nak : E.F → Bool
  pub refuses : (f : E.F) → E.refused f ≡ true → read f ≡ bad
  -- what the master sends, and what the desk makes
  pub Sends : E.F → Type 0
  pub Makes : E.F → Type 0
  -- what is seen of the states
  pub mview : E.M → MView E.F
  pub dview : E.D → DView E.F
  -- what holds of the states at every time
  pub mfine : E.M → Type 0
  pub dfine : E.D → Type 0
  pub mstarts : (t : ℕ) → mfine (E.mstart t) × (mview (E.mstart t) ≡ free false)
  pub dstarts : dfine E.dstart × ((l : Bool) × (a : E.F) × (dview E.dstart ≡ view false l a))
  pub offers : (m : E.M) (t : ℕ) (o : E.Offer) (r : E.Room) → mfine m →
      mfine (E.offer m t o r).m × MActs read Sends (mview m) (E.offer m t o r).did (mview (E.offer m t o r).m)
  pub mticks : (m : E.M) (t : ℕ) (r : E.Room) → mfine m →
      mfine (E.mtick m t r).m × MActs read Sends (mview m) (E.mtick m t r).did (mview (E.mtick m t r).m)
  pub mhears : (m : E.M) (t : ℕ) (g : E.F) (r : E.Room) → mfine m →
      mfine (E.mhear m t g r).m × MHears nak g (read g) (mview m) (E.mhear m t g r).did (mview (E.mhear m t g r).m)
  pub dticks : (d : E.D) (t : ℕ) → dfine d → dfine (E.dtick d t).d × First (dview d) (E.dtick d t).noted (dview (E.dtick d t).d)
  pub dhears : (d : E.D) (t : ℕ) (g : E.F) (r : E.Room) → dfine d →
      dfine (E.dhear d t g r).d ×
      ((v : DView E.F) × First (dview d) (E.dhear d t g r).noted v × DHears nak Makes g (read g) v (E.dhear d t g r).said (dview (E.dhear d t g r).d))
  pub acts : (d : E.D) (a : E.Act) → dfine d → dfine (E.act d a) × (dview (E.act d a) ≡ dview d)
