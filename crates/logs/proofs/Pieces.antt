-- A log in two pieces is read as in one. Assumes nothing.
use mathlib.Core.Path.{◌≡◌, refl, sym, ap, ◌∙◌}
use mathlib.Core.Bool.{true, false}
use mathlib.Core.List.{List, [], ◌∷◌, ◌++◌}
use Prim.Native.Nat.{ℕ, zero, suc, ◌+◌, ◌-◌, ◌<◌}
use native.Mathlib.Omega.{arith}
use lib.ListN.{length, take, drop, length-drop}
use lib.Seq.{drop-drop, drop-append-le, take-append-le, length-take-le}
use Rattle.laws.proofs.Truths.{clash}
use Rattle.records.specs.Refusals.{No}
use Rattle.logs.specs.declared.marks.Mark.{Mark}
use Rattle.logs.specs.Records.{LogRecord, log_record}
use Rattle.logs.specs.Reader.{Found, found, end, refused, record_in}
use Rattle.logs.specs.Inside.{waits}
use Rattle.logs.specs.Whole.{Log, Ending, over, refusal, onward, log_of, size_of, sizes_of, waits_at, left_of, InTwo, Stands, FirstOf, First}
use Rattle.logs.proofs.Inside.{settled}
use Rattle.logs.proofs.Steps.{ends, log-step}

module _ (s : List ℕ) where
  -- what the log is where a record, the end or a refusal stands in front
  pub on-found : (mark : Mark) (time start behind : ℕ) → record_in 0 s ≡ found mark time start behind
      → log_of s ≡ (log_record mark time (take (behind - start) (drop start s)) ∷ (log_of (drop behind s)).0, (log_of (drop behind s)).1)
  on-found mark time start behind e = log-step s ∙ ap (λ (f : Found). onward s f log_of) e

  pub on-end : record_in 0 s ≡ end → log_of s ≡ ([], over)
  on-end e = log-step s ∙ ap (λ (f : Found). onward s f log_of) e

  pub on-refused : (x : No) → record_in 0 s ≡ refused x → log_of s ≡ ([], refusal x.number)
  on-refused x e = log-step s ∙ ap (λ (f : Found). onward s f log_of) e

-- a record in front is as long as it ends
pub size_is : (s : List ℕ) (mark : Mark) (time start behind : ℕ) → record_in 0 s ≡ found mark time start behind → size_of (log_record mark time (take (behind - start) (drop start s))) ≡ behind
size_is s mark time start behind e =
    let k = ends s mark time start behind e in
    omega (arith, k.0, k.1, k.2, length-take-le (behind - start) (drop start s) (omega (arith, length-drop start s, k.0, k.1, k.2)))

-- one piece, whose first record is found
module _ (a b : List ℕ) (mark : Mark) (time start behind : ℕ) (e : record_in 0 a ≡ found mark time start behind) where
  abbrev first : LogRecord
  first = log_record mark time (take (behind - start) (drop start a))

  still-found : record_in 0 (a ++ b) ≡ found mark time start behind
  still-found = settled 0 a b (ap waits e) ∙ e

  same_first : take (behind - start) (drop start (a ++ b)) ≡ take (behind - start) (drop start a)
  same_first =
      let k = ends a mark time start behind e in
      ap (take (behind - start)) (drop-append-le start a b (omega (arith, k.0, k.1, k.2)))
      ∙ take-append-le (behind - start) (drop start a) b (omega (arith, length-drop start a, k.2))

  same_rest : drop behind (a ++ b) ≡ drop behind a ++ b
  same_rest = drop-append-le behind a b (ends a mark time start behind e).2

  pub both_found : log_of (a ++ b) ≡ (first ∷ (log_of (drop behind a ++ b)).0, (log_of (drop behind a ++ b)).1)
  both_found = on-found (a ++ b) mark time start behind still-found ∙ rw (same_first, same_rest)

  left_is : left_of a ≡ left_of (drop behind a)
  left_is =
      let l : sizes_of (log_of a).0 ≡ behind + sizes_of (log_of (drop behind a)).0 =
      ap (λ (y : Log). sizes_of y.0) (on-found a mark time start behind e) ∙ ap (λ (n : ℕ). n + sizes_of (log_of (drop behind a)).0) (size_is a mark time start behind e) in
      ap (λ (n : ℕ). drop n a) l ∙ sym (drop-drop (sizes_of (log_of (drop behind a)).0) behind a)

-- one piece, whose first record is not found
module _ (a b : List ℕ) (x : Ending) (e : log_of a ≡ ([], x)) where
  left-all : left_of a ≡ a
  left-all = ap (λ (y : Log). drop (sizes_of y.0) a) e

  pub none_first : log_of (a ++ b) ≡ ((log_of a).0 ++ (log_of (left_of a ++ b)).0, (log_of (left_of a ++ b)).1)
  none_first = rw (left-all, e)

two-on : (n : ℕ) (a b : List ℕ) → length a < n → waits_at (log_of a).1 ≡ true → log_of (a ++ b) ≡ ((log_of a).0 ++ (log_of (left_of a ++ b)).0, (log_of (left_of a ++ b)).1)
two-on zero a b h w = absurd (omega arith)
two-on (suc n) a b h w = go (record_in 0 a) refl (two-on n)
  where
    go : (f : Found) → record_in 0 a ≡ f
        → ((c d : List ℕ) → length c < n → waits_at (log_of c).1 ≡ true → log_of (c ++ d) ≡ ((log_of c).0 ++ (log_of (left_of c ++ d)).0, (log_of (left_of c ++ d)).1))
        → log_of (a ++ b) ≡ ((log_of a).0 ++ (log_of (left_of a ++ b)).0, (log_of (left_of a ++ b)).1)
    go (found mark time start behind) e later =
        let k = ends a mark time start behind e in
        let o = on-found a mark time start behind e in
        let q = later (drop behind a) b (omega (arith, length-drop behind a, k.1, k.2)) (sym (ap (λ (y : Log). waits_at y.1) o) ∙ w) in
        both_found a b mark time start behind e
        ∙ (ap {B = Log} (λ (y : Log). (first a b mark time start behind e ∷ y.0, y.1)) q
        ∙ rw (left_is a b mark time start behind e, o))
    go end e later = none_first a b over (on-end a e)
    go (refused x) e later = none_first a b (refusal x.number) (on-refused a x e)

pub in_two : InTwo
in_two a b w = two-on (suc (length a)) a b (omega arith) w

stands_on : (n : ℕ) (a b : List ℕ) → length a < n → waits_at (log_of a).1 ≡ false → log_of (a ++ b) ≡ log_of a
stands_on zero a b h w = absurd (omega arith)
stands_on (suc n) a b h w = go (record_in 0 a) refl (stands_on n)
  where
    go : (f : Found) → record_in 0 a ≡ f → ((c d : List ℕ) → length c < n → waits_at (log_of c).1 ≡ false → log_of (c ++ d) ≡ log_of c) → log_of (a ++ b) ≡ log_of a
    go (found mark time start behind) e later =
        let k = ends a mark time start behind e in
        let o = on-found a mark time start behind e in
        let q = later (drop behind a) b (omega (arith, length-drop behind a, k.1, k.2)) (sym (ap (λ (y : Log). waits_at y.1) o) ∙ w) in
        both_found a b mark time start behind e ∙ (ap {B = Log} (λ (y : Log). (first a b mark time start behind e ∷ y.0, y.1)) q ∙ sym o)
    go end e later = clash (sym (sym (ap (λ (y : Log). waits_at y.1) (on-end a e)) ∙ w))
    go (refused x) e later =
        let o = on-refused a x e in
        let k : waits (record_in 0 a) ≡ false = ap waits e ∙ (sym (ap (λ (y : Log). waits_at y.1) o) ∙ w) in
        on-refused (a ++ b) x (settled 0 a b k ∙ e) ∙ sym o

pub stands : Stands
stands a b w = stands_on (suc (length a)) a b (omega arith) w

-- the first record of a list, and those behind it
abbrev head_of : LogRecord → List LogRecord → LogRecord
head_of r [] = r
head_of r (x ∷ xs) = x

abbrev rest_of : List LogRecord → List LogRecord
rest_of [] = []
rest_of (x ∷ xs) = xs

pub first_of : First
first_of s r rs ending h = go (record_in 0 s) refl
  where
    none : (x : Ending) → log_of s ≡ ([], x) → FirstOf s r rs ending
    none x e =
        let z : ◌≡◌ {A =
        ℕ} 0 1 = let q : length (log_of s).0 ≡ suc (length rs) = ap (λ (y : Log). length y.0) h in let p : length (log_of s).0 ≡ 0 = ap (λ (y : Log).
        length y.0) e in absurd (omega (arith, p, q)) in
        let y : ⊥ = omega arith in
        absurd y

    go : (f : Found) → record_in 0 s ≡ f → FirstOf s r rs ending
    go (found mark time start behind) e =
        let o = on-found s mark time start behind e in
        let q = sym o ∙ h in
        let x = log_record mark time (take (behind - start) (drop start s)) in
        let i : log_record mark time (take (behind - start) (drop start s)) ≡ r = ap (λ (y : Log). head_of r y.0) q in
        let n : size_of r ≡ behind = ap size_of (sym i) ∙ size_is s mark time start behind e in
        record {
          rest = rw n (ap {B = Log} (λ (y : Log). (rest_of y.0, y.1)) q);
          with = λ b. rw (n, ← i) (both_found s b mark time start behind e);
          within = omega (arith, n, (ends s mark time start behind e).2);
        }
    go end e = none over (on-end s e)
    go (refused x) e = none (refusal x.number) (on-refused s x e)
