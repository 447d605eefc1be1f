-- The two round trips of a log record, and a log without gaps. Assumes nothing.
use Rattle.std.specs.Prelude.{Option, None, Some}
use mathlib.Core.Path.{◌≡◌, refl, sym, ap, ap₂, ◌∙◌}
use mathlib.Core.List.{List, [], ◌∷◌, ◌++◌}
use Prim.Native.Nat.{ℕ, zero, suc, ◌+◌, ◌-◌, ◌*◌, ◌/◌, ◌%◌, ◌<◌}
use Prim.Native.Char.{code}
use native.Mathlib.Omega.{arith}
use lib.Dec.{eqb}
use lib.ListN.{length, take, drop, take-append-drop, length-append, length-drop}
use lib.Seq.{take-append_seam, drop-append_seam, drop-drop, take-add, length-take-le}
use borrow.Author.Tests.{eqb-true}
use Rattle.laws.specs.Truth.{All}
use Rattle.laws.proofs.Passes.{on_test}
use Rattle.text.specs.Fours.{four_bytes, four_said}
use Rattle.text.proofs.FourBytes.{spelt, four-back}
use Rattle.logs.specs.declared.marks.Mark.{Mark}
use Rattle.logs.specs.declared.marks.Mark.TheVariants.{Master, Slave, Hit}
use Rattle.logs.specs.Marks.{mark_of, mark_bytes}
use Rattle.logs.specs.Records.{log_record, record_bytes}
use Rattle.logs.specs.Reader.{Found, found, end, refused, record_in}
use Rattle.logs.specs.Inside.{Whole}
use Rattle.logs.specs.Whole.{Log, Ending, over, refusal, log_of, sizes_of, joined, Covered, NoGap}
use Rattle.logs.specs.Again.{WrittenReads, ReadWritten}
use Rattle.logs.proofs.Inside.{found-whole, whole-found}
use Rattle.logs.proofs.Steps.{ends}
use Rattle.logs.proofs.Pieces.{on-found, on-end, on-refused, size_is}
use Rattle.logs.proofs.Left.{end_none}

-- the two bytes of a mark
abbrev left : Mark → ℕ
left Master = code "M"
left Slave = code "S"
left Hit = code "H"

abbrev right : Mark → ℕ
right Master = code ">"
right Slave = code ">"
right Hit = code "!"

mark-known : (m : Mark) → mark_of (left m) (right m) ≡ Some m
unfolding mark_of
mark-known Master = refl
mark-known Slave = refl
mark-known Hit = refl

-- the bytes of a record one by one
module _ (time : ℕ) (bytes rest : List ℕ) where
  abbrev shaped : Mark → List ℕ
  shaped m = left m ∷ right m ∷ time / 16777216 % 256 ∷ time / 65536 % 256 ∷ time / 256 % 256 ∷ time % 256 ∷ length bytes ∷ (bytes ++ rest)

  shape : (m : Mark) → record_bytes (log_record m time bytes) ++ rest ≡ shaped m
  unfolding record_bytes
  shape Master = rw (← (spelt time))
  shape Slave = rw (← (spelt time))
  shape Hit = rw (← (spelt time))

pub written-reads : WrittenReads
written-reads r rest p =
    let s = record_bytes r ++ rest in
    let n = length r.bytes in
    let e : record_bytes r ++ rest ≡ shaped r.time r.bytes rest r.mark = shape r.time r.bytes rest r.mark in
    let t : four_said (r.time / 16777216 % 256 ∷ r.time / 65536 % 256 ∷ r.time / 256 % 256 ∷ r.time % 256 ∷ []) ≡ r.time = ap four_said (spelt r.time) ∙ four-back r.time p.time in
    let f : record_in 0 (shaped r.time r.bytes rest r.mark) ≡ found r.mark r.time 7 (7 + length r.bytes) =
    whole-found 0 (shaped r.time r.bytes rest r.mark) r.mark r.time 7 (7 + length r.bytes)
    (record {
      mark-known = mark-known r.mark;
      permitted = p.bytes;
      all_there = omega (arith, length-append r.bytes rest);
      time-said = t;
      start-at = refl;
      behind-at = refl;
    }) in
    let k : 7 + length r.bytes - 7 ≡ length r.bytes = omega arith in
    let d : drop (7 + length r.bytes) (shaped r.time r.bytes rest r.mark) ≡ rest =
    sym (drop-drop (length r.bytes) 7 (shaped r.time r.bytes rest r.mark)) ∙ drop-append_seam r.bytes rest in
    let b : take (7 + length r.bytes - 7) (r.bytes ++ rest) ≡ r.bytes = ap (λ (i : ℕ). take i (r.bytes ++ rest)) k ∙ take-append_seam r.bytes rest in
    ap log_of e
    ∙ (on-found (shaped r.time r.bytes rest r.mark) r.mark r.time 7 (7 + length r.bytes) f
    ∙ ap₂ (λ (u v : List ℕ). (log_record r.mark r.time u ∷ (log_of v).0, (log_of v).1)) b d)

abbrev mark_in : Option Mark → Mark
mark_in (Some m) = m
mark_in None = Master

abbrev is_mark : Option Mark → ℕ
is_mark (Some m) = 1
is_mark None = 0

no-mark : {A : Type 0} (m : Mark) → None ≡ Some m → A
no-mark m h = let z : ⊥ = omega (arith, ap is_mark h) in absurd z

-- the bytes that are a mark are its bytes
mark-back : (x y : ℕ) (m : Mark) → mark_of x y ≡ Some m → mark_bytes m ≡ x ∷ y ∷ []
unfolding mark_of
mark-back x y m h =
    on_test (eqb y (code ">"))
    (λ a.
    on_test (eqb x (code "M"))
    (λ b. is Master (rw (a, b) at h) (eqb-true x (code "M") b) (eqb-true y (code ">") a))
    (λ b.
    on_test (eqb x (code "S"))
    (λ c. is Slave (rw (a, b, c) at h) (eqb-true x (code "S") c) (eqb-true y (code ">") a))
    (λ c. no-mark m (rw (a, b, c) at h))))
    (λ a.
    on_test (eqb y (code "!"))
    (λ b.
    on_test (eqb x (code "H"))
    (λ c. is Hit (rw (a, b, c) at h) (eqb-true x (code "H") c) (eqb-true y (code "!") b))
    (λ c. no-mark m (rw (a, b, c) at h)))
    (λ b. no-mark m (rw (a, b) at h)))
  where
    is : (q : Mark) → Some q ≡ Some m → x ≡ left q → y ≡ right q → mark_bytes m ≡ x ∷ y ∷ []
    is q e u v = ap mark_bytes (sym (ap mark_in e)) ∙ (bytes q ∙ ap₂ (λ (i j : ℕ). i ∷ j ∷ []) (sym u) (sym v))
      where
        bytes : (q : Mark) → mark_bytes q ≡ left q ∷ right q ∷ []
        bytes Master = refl
        bytes Slave = refl
        bytes Hit = refl

four-again : (a b c d : ℕ) → a < 256 → b < 256 → c < 256 → d < 256 → four_bytes (four_said (a ∷ b ∷ c ∷ d ∷ [])) ≡ a ∷ b ∷ c ∷ d ∷ []
unfolding four_said
four-again a b c d p q r s =
    let n = a * 16777216 + b * 65536 + c * 256 + d in
    let w : (a * 16777216 + b * 65536 + c * 256 + d) / 16777216 % 256 ≡ a = omega arith in
    let x : (a * 16777216 + b * 65536 + c * 256 + d) / 65536 % 256 ≡ b = omega arith in
    let y : (a * 16777216 + b * 65536 + c * 256 + d) / 256 % 256 ≡ c = omega arith in
    let z : (a * 16777216 + b * 65536 + c * 256 + d) % 256 ≡ d = omega arith in
    sym (spelt (a * 16777216 + b * 65536 + c * 256 + d)) ∙ rw (w, x, y, z)

-- what stands whole, its seven bytes before its bytes
seven : (s : List ℕ) (m : Mark) (time start behind : ℕ) → All (λ (b : ℕ). b < 256) s → Whole 0 s m time start behind
    → record_bytes (log_record m time (take (behind - start) (drop start s))) ≡ take behind s
unfolding record_bytes
seven (x ∷ y ∷ a ∷ b ∷ c ∷ d ∷ n ∷ u) m time start behind (_, (_, (p, (q, (r, (t, _)))))) w =
    let i : start ≡ 7 = omega (arith, w.start-at) in
    let j : behind ≡ 7 + n = omega (arith, w.behind-at) in
    let k : 7 + n - 7 ≡ n = omega arith in
    let l : length (take n u) ≡ n = length-take-le n u (omega (arith, w.all_there)) in
    let e : time ≡ four_said (a ∷ b ∷ c ∷ d ∷ []) = sym w.time-said in
    rw (i, j, k, e, mark-back x y m w.mark-known, four-again a b c d p q r t, l, take-add 7 n (x ∷ y ∷ a ∷ b ∷ c ∷ d ∷ n ∷ u))
seven [] m time start behind h w = absurd (omega (arith, w.all_there))
seven (x ∷ []) m time start behind h w = absurd (omega (arith, w.all_there))
seven (x ∷ y ∷ []) m time start behind h w = absurd (omega (arith, w.all_there))
seven (x ∷ y ∷ a ∷ []) m time start behind h w = absurd (omega (arith, w.all_there))
seven (x ∷ y ∷ a ∷ b ∷ []) m time start behind h w = absurd (omega (arith, w.all_there))
seven (x ∷ y ∷ a ∷ b ∷ c ∷ []) m time start behind h w = absurd (omega (arith, w.all_there))
seven (x ∷ y ∷ a ∷ b ∷ c ∷ d ∷ []) m time start behind h w = absurd (omega (arith, w.all_there))

pub read-written : ReadWritten
read-written s mark time start behind h e = seven s mark time start behind h (found-whole 0 s mark time start behind e)

all-behind : (n : ℕ) (s : List ℕ) → All (λ (b : ℕ). b < 256) s → All (λ (b : ℕ). b < 256) (drop n s)
all-behind zero s h = h
all-behind (suc n) [] h = tt
all-behind (suc n) (x ∷ s) h = all-behind n s h.1

abbrev is_over : Ending → ℕ
is_over over = 1
is_over (refusal n) = 0

nothing : (s : List ℕ) → length s ≡ 0 → [] ≡ s
nothing [] h = refl
nothing (x ∷ s) h = let z : ⊥ = omega (arith, h) in absurd z

none-covered : (s : List ℕ) (x : Ending) → log_of s ≡ ([], x) → (x ≡ over → length s ≡ 0) → Covered s
none-covered s x e k =
    record {
      front = rw e;
      within = let z : sizes_of (log_of s).0 ≡ 0 = ap (λ (y : Log). sizes_of y.0) e in omega (arith, z);
      all = λ q. ap (λ (y : Log). joined y.0) e ∙ nothing s (k (sym (ap (λ (y : Log). y.1) e) ∙ q));
    }

cover : (n : ℕ) (s : List ℕ) → length s < n → All (λ (b : ℕ). b < 256) s → Covered s
cover zero s h a = absurd (omega arith)
cover (suc n) s h a = go (record_in 0 s) refl (cover n)
  where
    go : (f : Found) → record_in 0 s ≡ f → ((t : List ℕ) → length t < n → All (λ (b : ℕ). b < 256) t → Covered t) → Covered s
    go (found mark time start behind) e later =
        let w = ends s mark time start behind e in
        let o = on-found s mark time start behind e in
        let c = later (drop behind s) (omega (arith, length-drop behind s, w.1, w.2)) (all-behind behind s a) in
        let r = read-written s mark time start behind a e in
        let j : joined (log_of s).0 ≡ take behind s ++ joined (log_of (drop behind s)).0 = ap (λ (y : Log). joined y.0) o ∙ ap (λ (t : List ℕ). t ++ joined (log_of (drop behind s)).0) r in
        let z : sizes_of (log_of s).0 ≡ behind + sizes_of (log_of (drop behind s)).0 =
        ap (λ (y : Log). sizes_of y.0) o ∙ ap (λ (i : ℕ). i + sizes_of (log_of (drop behind s)).0) (size_is s mark time start behind e) in
        record {
          front = j ∙ (ap (λ (t : List ℕ). take behind s ++ t) c.front ∙ (sym (take-add behind (sizes_of (log_of (drop behind s)).0) s) ∙ ap (λ (i : ℕ). take i s) (sym z)));
          within = omega (arith, z, c.within, length-drop behind s, w.2);
          all = λ q. j ∙ (ap (λ (t : List ℕ). take behind s ++ t) (c.all (sym (ap (λ (y : Log). y.1) o) ∙ q)) ∙ take-append-drop behind s);
        }
    go end e later = none-covered s over (on-end s e) (λ q. end_none 0 s e)
    go (refused x) e later = none-covered s (refusal x.number) (on-refused s x e) (λ q. let y : ⊥ = omega (arith, ap is_over q) in absurd y)

pub no_gap : NoGap
no_gap s h = cover (suc (length s)) s (omega arith) h
