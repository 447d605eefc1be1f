-- Demand 3 of a history: what it supposes and what it concludes, each sentence above the part that states it. Assumes nothing.
use Rattle.std.specs.Prelude.{◌≡◌, ◌⊎◌, ℕ, ◌<◌, T as So, length}
use mathlib.Core.List.{List, [], ◌∷◌, ◌++◌, Memᴰ}
use Rattle.protocol.specs.History.{Tel, Item, Hist, sent, again, noted, handled, over, answered, gave_up, sents, mades, gots, calm, never, sendings, firsts}

module _ {T A : Type 0} where
  -- x was handled
  abbrev pub Was : Tel T → Hist T A → Type 0
  Was x [] = ⊥
  Was x (sent y ∷ h) = Was x h
  Was x (again y ∷ h) = Was x h
  Was x (noted ∷ h) = Was x h
  Was x (handled y a ∷ h) = (x ≡ y) ⊎ Was x h
  Was x (over y ∷ h) = Was x h
  Was x (answered y a k ∷ h) = Was x h
  Was x (gave_up y k ∷ h) = Was x h

  -- a sending of x was lost, or the desk was done hearing it
  pub data Over (x : Tel T) : Hist T A → Type 0 where
    now : {h : Hist T A} → Over x (over x ∷ h)
    before : {e : Item T A} {h : Hist T A} → Over x h → Over x (e ∷ h)

  -- "Suppose neither end restarts, and the desk notes no lost line from handling a telegram until the last sending of it was lost or
  -- the desk is done hearing it."
  -- A run has no restart. Where the desk notes a lost line, no telegram that it has handled has a sending that is over only later.
  abbrev pub NoLostInside : Hist T A → Type 0
  NoLostInside h = (newer older : Hist T A) (x : Tel T) → h ≡ newer ++ (noted ∷ older) → Was x older → Over x newer → ⊥

module _ {X : Type 0} where
  -- the first list is the second with some entries left out
  pub data Sub : List X → List X → Type 0 where
    none : Sub [] []
    skip : {x : X} {k l : List X} → Sub k l → Sub k (x ∷ l)
    take : {x : X} {k l : List X} → Sub k l → Sub (x ∷ k) (x ∷ l)

  -- the two lists are equal, but for perhaps one newest entry of the second
  pub data UpToLast : List X → List X → Type 0 where
    all : {l : List X} → UpToLast l l
    but_last : {x : X} {l : List X} → UpToLast l (x ∷ l)

module _ {T : Type 0} where
  -- the ordinals count up from 0
  abbrev pub Counted : List (Tel T) → Type 0
  Counted [] = Unit {0}
  Counted (x ∷ l) = (x.0 ≡ length l) × Counted l

  -- newest first, the ordinals fall and are below b
  abbrev pub Falling : ℕ → List (Tel T) → Type 0
  Falling b [] = Unit {0}
  Falling b (x ∷ l) = (x.0 < b) × Falling x.0 l

module _ {T A : Type 0} where
  -- the telegrams handled are those sent, in the same order, with some left out
  abbrev pub InOrder : Hist T A → Type 0
  InOrder h = Sub (firsts (mades h)) (sents h)

  -- their ordinals rise
  abbrev pub NoneTwice : Hist T A → Type 0
  NoneTwice h = Falling (length (sents h)) (firsts (mades h))

  -- each answered telegram was handled before, and got the answer made for it, unless it is the first answered since one was given up
  abbrev pub Kept : Hist T A → Type 0
  Kept [] = Unit {0}
  Kept (sent x ∷ h) = Kept h
  Kept (again x ∷ h) = Kept h
  Kept (noted ∷ h) = Kept h
  Kept (handled x a ∷ h) = Kept h
  Kept (over x ∷ h) = Kept h
  Kept (answered x a k ∷ h) = (So (calm h) → Memᴰ (x, a) (mades h)) × Kept h
  Kept (gave_up x k ∷ h) = Kept h

  -- the sending count of each report is the number of sendings made of that telegram
  abbrev pub Reported : Hist T A → Type 0
  Reported [] = Unit {0}
  Reported (sent x ∷ h) = Reported h
  Reported (again x ∷ h) = Reported h
  Reported (noted ∷ h) = Reported h
  Reported (handled x a ∷ h) = Reported h
  Reported (over x ∷ h) = Reported h
  Reported (answered x a k ∷ h) = (k ≡ sendings x.0 h) × Reported h
  Reported (gave_up x k ∷ h) = (k ≡ sendings x.0 h) × Reported h

  -- P holds of each telegram sent, and Q of each answer made or got
  abbrev pub Spoken : (T → Type 0) → (A → Type 0) → Hist T A → Type 0
  Spoken P Q [] = Unit {0}
  Spoken P Q (sent x ∷ h) = P x.1 × Spoken P Q h
  Spoken P Q (again x ∷ h) = Spoken P Q h
  Spoken P Q (noted ∷ h) = Spoken P Q h
  Spoken P Q (handled x a ∷ h) = Q a × Spoken P Q h
  Spoken P Q (over x ∷ h) = Spoken P Q h
  Spoken P Q (answered x a k ∷ h) = Q a × Spoken P Q h
  Spoken P Q (gave_up x k ∷ h) = Spoken P Q h

-- what demand 3 concludes
pub record Promise {T A : Type 0} (h : Hist T A) : Type 0 where
  -- the ordinal of a telegram tells it from all others sent
  pub counted : Counted (sents h)
  -- "Then the desk handles telegrams in the order first sent, .. none that was not sent."
  pub in_order : InOrder h
  -- "none twice"
  pub none_twice : NoneTwice h
  -- "A telegram the master reports answered was handled, unless it is the first answered since the master gave one up."
  pub kept : Kept h
  -- "If none was given up, each answered telegram got the answer made for it, and all handled ones are answered but perhaps the last."
  pub all_answered : So (never h) → UpToLast (gots h) (mades h)
