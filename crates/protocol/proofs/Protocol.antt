-- What the two ends and the line may do, whatever the times and contents, and the invariant of it. Assumes nothing.
use mathlib.Core.Path.{◌≡◌, refl, sym, ◌∙◌, ap}
use mathlib.Core.Bool.{Bool, true, false, not, true≢false, false≢true}
use mathlib.Core.List.Memᴰ
use mathlib.Core.List.{List, [], ◌∷◌}
use Prim.Native.Nat.{ℕ}
use mathlib.Core.Logic.{inl}
use lib.Dec.{T as So}
use lib.ListN.{length}
use Rattle.protocol.specs.History.{Tel, Hist, sent, again, noted, handled, over, answered, gave_up, sents, mades, gots, calm, never, firsts}
use Rattle.protocol.specs.Demand.{Was, Sub, UpToLast, Counted, Kept, Promise, none, skip, take, all, but_last}
use Rattle.protocol.specs.Rules.{answered_number, given_up_number, MayRepeat, MayHandle, repeated_answer, stored_behind}
use Rattle.protocol.proofs.Stepwise.{LostSince, Held, falling}

-- what is on the line while the master is busy: nothing that matters, the newest sending, or the desk's answer to it
pub data Way (A : Type 0) : Type 0 where
  quiet going : Way A
  coming : A → Way A

-- the master: free with the number to send, or busy with a number and a telegram
pub data Phase (T A : Type 0) : Type 0 where
  idle : Bool → Phase T A
  busy : Bool → Tel T → Way A → Phase T A

-- the master's phase, the desk's line flag, last number and stored answer, and the history
pub data St (T A : Type 0) : Type 0 where
  st : Phase T A → Bool → Bool → A → Hist T A → St T A

not-not : (n l : Bool) → l ≡ n → l ≡ not (not n)
not-not true l e = e
not-not false l e = e

not_same : (n : Bool) → n ≡ not n → ⊥
not_same true e = true≢false e
not_same false e = false≢true e

-- P of the answer that is on the line, if one is
abbrev OnLine : {A : Type 0} → Way A → (A → Type 0) → Type 0
OnLine quiet P = Unit {0}
OnLine going P = Unit {0}
OnLine (coming b) P = P b

never-calm : {T A : Type 0} (h : Hist T A) → So (never h) → So (calm h)
never-calm [] e = tt
never-calm (sent x ∷ h) e = never-calm h e
never-calm (again x ∷ h) e = never-calm h e
never-calm (noted ∷ h) e = never-calm h e
never-calm (handled x a ∷ h) e = never-calm h e
never-calm (over x ∷ h) e = never-calm h e
never-calm (answered x a k ∷ h) e = tt
never-calm (gave_up x k ∷ h) e = e

module _ {T A : Type 0} where
  abbrev pub hist_of : St T A → Hist T A
  hist_of (st p g l a h) = h

  pub data Step : St T A → St T A → Type 0 where
    send : {n g l : Bool} {a : A} {h : Hist T A} (t : T) →
        Step (st (idle n) g l a h) (st (busy n (length (sents h), t) going) g l a (sent (length (sents h), t) ∷ h))
    resend : {n g l : Bool} {x : Tel T} {w : Way A} {a : A} {h : Hist T A} →
        Step (st (busy n x w) g l a h) (st (busy n x going) g l a (again x ∷ h))
    give_up : {n g l : Bool} {x : Tel T} {w : Way A} {a : A} {h : Hist T A} (k : ℕ) →
        Step (st (busy n x w) g l a h) (st (idle (given_up_number n)) g l a (gave_up x k ∷ h))
    -- a sending is lost, or not heeded
    lose : {n g l : Bool} {x : Tel T} {a : A} {h : Hist T A} →
        Step (st (busy n x going) g l a h) (st (busy n x quiet) g l a (over x ∷ h))
    -- a sending comes spoiled, and the desk answers N with 1
    fault : {n g l : Bool} {x : Tel T} {a : A} {h : Hist T A} (b : A) →
        Step (st (busy n x going) g l a h) (st (busy n x quiet) g l (stored_behind a b) (over x ∷ h))
    -- an answer is lost, or not heeded
    drop : {n g l : Bool} {x : Tel T} {w : Way A} {a : A} {h : Hist T A} →
        Step (st (busy n x w) g l a h) (st (busy n x quiet) g l a h)
    note : {p : Phase T A} {l : Bool} {a : A} {h : Hist T A} → Step (st p true l a h) (st p false l a (noted ∷ h))
    repeat : {n g : Bool} {x : Tel T} {a : A} {h : Hist T A} (z : A) → MayRepeat g →
        Step (st (busy n x going) g n a h) (st (busy n x (coming (repeated_answer a z))) g n a (over x ∷ h))
    handle : {n g l : Bool} {x : Tel T} {a : A} {h : Hist T A} (b : A) → MayHandle g l n →
        Step (st (busy n x going) g l a h) (st (busy n x (coming b)) true n b (over x ∷ (handled x b ∷ h)))
    answer : {n g l : Bool} {x : Tel T} {a b : A} {h : Hist T A} (k : ℕ) →
        Step (st (busy n x (coming b)) g l a h) (st (idle (answered_number n)) g l a (answered x b k ∷ h))

  pub data Steps : St T A → St T A → Type 0 where
    stop : {s : St T A} → Steps s s
    then : {s s₁ s₂ : St T A} → Step s s₁ → Steps s₁ s₂ → Steps s s₂

  -- the invariant while the master is free
  abbrev Idle : Bool → Bool → Bool → Hist T A → Type 0
  Idle n g l h = record {
    counted : Counted (sents h);
    kept : Kept h;
    order : Sub (firsts (mades h)) (sents h);
    sync : So (calm h) → So g → l ≡ not n;
    done : So (never h) → gots h ≡ mades h;
  }

  -- while it is busy with a telegram that the desk has not handled
  abbrev Fresh : Bool → Tel T → Bool → Bool → Hist T A → Type 0
  Fresh n x g l h = record {
    counted : Counted (sents h);
    kept : Kept h;
    older : List (Tel T);
    newest : sents h ≡ x ∷ older;
    order : Sub (firsts (mades h)) older;
    sync : So (calm h) → So g → l ≡ not n;
    done : So (never h) → gots h ≡ mades h;
  }

  -- while it is busy with one that the desk has handled
  abbrev Taken : Bool → Tel T → Bool → Bool → A → A → Hist T A → Type 0
  Taken n x g l a made h = record {
    counted : Counted (sents h);
    kept : Kept h;
    older : List (Tel T);
    newest : sents h ≡ x ∷ older;
    makes : List (Tel T × A);
    newest_made : mades h ≡ (x, made) ∷ makes;
    order : Sub (firsts makes) older;
    was : Was x h;
    last : l ≡ n;
    good : So g → a ≡ made;
    lost : (So g → ⊥) → LostSince x h;
    done : So (never h) → gots h ≡ makes;
  }

  data Busy (n : Bool) (x : Tel T) (w : Way A) (g l : Bool) (a : A) (h : Hist T A) : Type 0 where
    fresh : Fresh n x g l h → OnLine w (λ b. (So (calm h) → ⊥) × (l ≡ n)) → Busy n x w g l a h
    taken : (made : A) → Taken n x g l a made h → OnLine w (λ b. b ≡ made) → Busy n x w g l a h

  abbrev Inv : St T A → Type 0
  Inv (st (idle n) g l a h) = Idle n g l h
  Inv (st (busy n x w) g l a h) = Busy n x w g l a h

  keep : {s s' : St T A} → Step s s' → Held (hist_of s') → Inv s → Inv s'
  keep (send {h = h} t) k i =
      fresh (record { counted = (refl, i.counted); kept = i.kept; older = sents h; newest = refl; order = i.order; sync = i.sync; done = i.done }) tt
  keep resend k (fresh c o) = fresh c tt
  keep resend k (taken m c o) = taken m c tt
  keep (give_up j) k (fresh c o) =
      record { counted = c.counted; kept = c.kept; order = rw c.newest (skip c.order); sync = λ q. absurd q; done = λ q. absurd q }
  keep (give_up j) k (taken m c o) =
      record { counted = c.counted; kept = c.kept; order = rw (c.newest, c.newest_made) (take c.order); sync = λ q. absurd q; done = λ q. absurd q }
  keep lose k (fresh c o) = fresh c tt
  keep lose k (taken m c o) = taken m c tt
  keep (fault b) k (fresh c o) = fresh c tt
  keep (fault b) k (taken m c o) = taken m c tt
  keep drop k (fresh c o) = fresh c tt
  keep drop k (taken m c o) = taken m c tt
  keep (note {p = idle n}) k i =
      record { counted = i.counted; kept = i.kept; order = i.order; sync = λ q r. absurd r; done = i.done }
  keep (note {p = busy n x w}) k (fresh c o) =
      fresh (record { counted = c.counted; kept = c.kept; older = c.older; newest = c.newest; order = c.order; sync = λ q r. absurd r; done = c.done }) o
  keep (note {p = busy n x w}) k (taken m c o) =
      taken m (record {
        counted = c.counted;
        kept = c.kept;
        older = c.older;
        newest = c.newest;
        makes = c.makes;
        newest_made = c.newest_made;
        order = c.order;
        was = c.was;
        last = c.last;
        good = λ r. absurd r;
        lost = λ q. inl c.was;
        done = c.done;
      }) o
  keep (repeat z r) k (fresh c o) = fresh c (λ q. not_same _ (c.sync q r), refl)
  keep (repeat z r) k (taken m c o) = taken m c (c.good r)
  keep (handle {h = h} b f) k (fresh c o) =
      taken b (record {
        counted = c.counted;
        kept = c.kept;
        older = c.older;
        newest = c.newest;
        makes = mades h;
        newest_made = refl;
        order = c.order;
        was = inl refl;
        last = refl;
        good = λ q. refl;
        lost = λ q. absurd (q tt);
        done = c.done;
      }) refl
  keep (handle b f) k (taken m c o) = absurd (k.0 (c.lost (λ q. not_same _ (sym c.last ∙ f q))))
  keep (answer {h = h} j) k (fresh c o) =
      record {
        counted = c.counted;
        kept = (λ q. absurd (o.0 q), c.kept);
        order = rw c.newest (skip c.order);
        sync = λ q r. not-not _ _ o.1;
        done = λ q. absurd (o.0 (never-calm h q));
      }
  keep (answer {x = x} {h = h} j) k (taken m c o) =
      record {
        counted = c.counted;
        kept = (λ q. rw c.newest_made (Memᴰ.head (ap (λ z. (x, z)) o)), c.kept);
        order = rw (c.newest, c.newest_made) (take c.order);
        sync = λ q r. not-not _ _ c.last;
        done = λ q. rw (c.newest_made, o, c.done q) refl;
      }

  held-before : {s s' : St T A} → Step s s' → Held (hist_of s') → Held (hist_of s)
  held-before (send t) k = k
  held-before resend k = k
  held-before (give_up j) k = k
  held-before lose k = k.1
  held-before (fault b) k = k.1
  held-before drop k = k
  held-before note k = k
  held-before (repeat z r) k = k.1
  held-before (handle b f) k = k.1
  held-before (answer j) k = k

  -- the invariant holds as long as the supposition does
  pub Safe : St T A → Type 0
  Safe s = Held (hist_of s) → Inv s

  pub safe-steps : {s s' : St T A} → Steps s s' → Safe s → Safe s'
  unfolding Safe
  safe-steps stop i = i
  safe-steps (then p q) i = safe-steps q (λ k. keep p k (i (held-before p k)))

  start-inv : (l : Bool) (a : A) → Inv (st (idle false) false l a [])
  start-inv l a = record { counted = tt; kept = tt; order = none; sync = λ q r. absurd r; done = λ q. refl }

  pub safe-start : (s : St T A) (l : Bool) (a : A) → s ≡ st (idle false) false l a [] → Safe s
  unfolding Safe
  safe-start s l a e k = rw e (start-inv l a)

  promise : {h : Hist T A} → Counted (sents h) → Sub (firsts (mades h)) (sents h) → Kept h → (So (never h) → UpToLast (gots h) (mades h)) → Promise h
  promise c o k a = record { counted = c; in_order = o; none_twice = falling o c; kept = k; all_answered = a }

  -- the promise follows from the invariant
  pub promised : (s : St T A) → Safe s → Held (hist_of s) → Promise (hist_of s)
  unfolding Safe
  promised (st (idle n) g l a h) i k =
      let j : Idle n g l h = i k in
      promise j.counted j.order j.kept (λ q. rw (j.done q) all)
  promised (st (busy n x w) g l a h) i k = busy-promised (i k)
    where
      busy-promised : Busy n x w g l a h → Promise h
      busy-promised (fresh c o) =
          promise c.counted (rw c.newest (skip c.order)) c.kept (λ q. rw (c.done q) all)
      busy-promised (taken m c o) =
          promise c.counted (rw (c.newest, c.newest_made) (take c.order)) c.kept (λ q. rw (c.done q, c.newest_made) but_last)
