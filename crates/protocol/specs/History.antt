-- What happened on a line, newest first, and what is read off it (rules J4 to J16). Assumes nothing.
use Rattle.std.specs.Prelude.{Bool, true, false, cond, List, [], ◌∷◌, ℕ, suc, eqb}

-- a telegram: its ordinal among the telegrams first sent, and its contents, so that equal bytes sent twice are two telegrams
abbrev pub Tel : Type 0 → Type 0
Tel T = ℕ × T

pub data Item (T A : Type 0) : Type 0 where
  -- the master first sends it
  sent : Tel T → Item T A
  -- the master sends it again
  again : Tel T → Item T A
  -- the desk notes a lost line
  noted : Item T A
  -- the desk handles it, and makes this answer
  handled : Tel T → A → Item T A
  -- a sending of it was lost, or the desk is done hearing it
  over : Tel T → Item T A
  -- the master reports it answered, with this answer and sending count
  answered : Tel T → A → ℕ → Item T A
  -- the master reports it given up, with this sending count
  gave_up : Tel T → ℕ → Item T A

abbrev pub Hist : Type 0 → Type 0 → Type 0
Hist T A = List (Item T A)

module _ {T A : Type 0} where
  -- the telegrams sent
  abbrev pub sents : Hist T A → List (Tel T)
  sents [] = []
  sents (sent x ∷ h) = x ∷ sents h
  sents (again x ∷ h) = sents h
  sents (noted ∷ h) = sents h
  sents (handled x a ∷ h) = sents h
  sents (over x ∷ h) = sents h
  sents (answered x a k ∷ h) = sents h
  sents (gave_up x k ∷ h) = sents h

  -- the telegrams handled, each with the answer made for it
  abbrev pub mades : Hist T A → List (Tel T × A)
  mades [] = []
  mades (sent x ∷ h) = mades h
  mades (again x ∷ h) = mades h
  mades (noted ∷ h) = mades h
  mades (handled x a ∷ h) = (x, a) ∷ mades h
  mades (over x ∷ h) = mades h
  mades (answered x a k ∷ h) = mades h
  mades (gave_up x k ∷ h) = mades h

  -- the telegrams reported answered, each with the answer it got
  abbrev pub gots : Hist T A → List (Tel T × A)
  gots [] = []
  gots (sent x ∷ h) = gots h
  gots (again x ∷ h) = gots h
  gots (noted ∷ h) = gots h
  gots (handled x a ∷ h) = gots h
  gots (over x ∷ h) = gots h
  gots (answered x a k ∷ h) = (x, a) ∷ gots h
  gots (gave_up x k ∷ h) = gots h

  -- none was given up since one was answered last
  abbrev pub calm : Hist T A → Bool
  calm [] = true
  calm (sent x ∷ h) = calm h
  calm (again x ∷ h) = calm h
  calm (noted ∷ h) = calm h
  calm (handled x a ∷ h) = calm h
  calm (over x ∷ h) = calm h
  calm (answered x a k ∷ h) = true
  calm (gave_up x k ∷ h) = false

  -- none was given up
  abbrev pub never : Hist T A → Bool
  never [] = true
  never (sent x ∷ h) = never h
  never (again x ∷ h) = never h
  never (noted ∷ h) = never h
  never (handled x a ∷ h) = never h
  never (over x ∷ h) = never h
  never (answered x a k ∷ h) = never h
  never (gave_up x k ∷ h) = false

  -- how many sendings of the telegram with this ordinal were made
  abbrev pub sendings : ℕ → Hist T A → ℕ
  sendings i [] = 0
  sendings i (sent x ∷ h) = cond (eqb x.0 i) (suc (sendings i h)) (sendings i h)
  sendings i (again x ∷ h) = cond (eqb x.0 i) (suc (sendings i h)) (sendings i h)
  sendings i (noted ∷ h) = sendings i h
  sendings i (handled x a ∷ h) = sendings i h
  sendings i (over x ∷ h) = sendings i h
  sendings i (answered x a k ∷ h) = sendings i h
  sendings i (gave_up x k ∷ h) = sendings i h

  -- how many sendings were made, of all telegrams together
  abbrev pub all_sendings : Hist T A → ℕ
  all_sendings [] = 0
  all_sendings (sent x ∷ h) = suc (all_sendings h)
  all_sendings (again x ∷ h) = suc (all_sendings h)
  all_sendings (noted ∷ h) = all_sendings h
  all_sendings (handled x a ∷ h) = all_sendings h
  all_sendings (over x ∷ h) = all_sendings h
  all_sendings (answered x a k ∷ h) = all_sendings h
  all_sendings (gave_up x k ∷ h) = all_sendings h

  -- a telegram was sent, and the newest one has not ended: it was neither answered nor given up
  abbrev pub unended : Hist T A → Bool
  unended [] = false
  unended (sent x ∷ h) = true
  unended (again x ∷ h) = true
  unended (noted ∷ h) = unended h
  unended (handled x a ∷ h) = unended h
  unended (over x ∷ h) = unended h
  unended (answered x a k ∷ h) = false
  unended (gave_up x k ∷ h) = false

module _ {X Y : Type 0} where
  abbrev pub firsts : List (X × Y) → List X
  firsts [] = []
  firsts (p ∷ l) = p.0 ∷ firsts l
