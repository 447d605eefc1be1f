-- What is said in words: each refusal and each answer has words of its own, and they have room. Assumes nothing.
use Rattle.std.specs.Prelude.{Result, Ok, Err}
use mathlib.Core.Path.{◌≡◌, refl, sym, ap, ◌∙◌}
use mathlib.Core.Bool.{Bool, true, false, cond}
use mathlib.Core.List.{List, [], ◌∷◌}
use Prim.Native.Nat.{ℕ, zero, suc, ◌+◌, ◌<◌}
use native.Mathlib.Omega.{arith}
use native.Mathlib.Nat.{add-zero, zero-add, add-suc, suc-add}
use lib.Dec.{eqb, ltb, lit<}
use lib.ListN.{length, get_or, get_or-eq_default}
use borrow.Author.Tests.{ltb-true, eqb-true, lt-ltb}
use Rattle.laws.specs.Truth.{both, implies, from}
use Rattle.laws.proofs.Passes.{order, from-bounds}
use Rattle.laws.proofs.Truths.{both_left, both_right}
use Rattle.text.specs.Fields.{same_text}
use Rattle.records.specs.Refusals.{refusal_of}
use Rattle.records.specs.declared.refusals.Refusal as r
use Rattle.desk.specs.declared.replying.Source as s
use Rattle.desk.specs.declared.heard.Heard as h
use Rattle.master.specs.declared.answers.Answer as a
use Rattle.master.specs.declared.answers.Sending as g
use Rattle.master.specs.declared.answers.Cause as c
use Rattle.master.specs.declared.answers.Reason as y
use Rattle.records.specs.Answers as n
use Rattle.reading.specs.Reading.{reading_of}
use Rattle.desk.specs.Heard as d
use Rattle.master.specs.Answers as m
use Rattle.in656.specs.declared.results.result.In656Result.{In656Result}
use Rattle.in656.specs.Results.Desks.{heard_result}
use Rattle.in656.specs.Results.Masters.{told_result}
use Rattle.in656.specs.Results.Frames.{with_reading, desk_frame, master_frame}
use Rattle.in656.specs.Words.{Table, words_of, refusal_table, desk_table, master_table, words_length, Said, Room, Apart, EachRefusal, EachNumber, SaidOf, EachDone, EachHeard, EachTold, EachFrame}

-- the test holds of each element, with its place from i on
abbrev pub every_from : {A : Type 0} → (ℕ → A → Bool) → ℕ → List A → Bool
every_from t i [] = true
every_from t i (x ∷ xs) = both (t i x) (every_from t (suc i) xs)

pub at_place : {A : Type 0} (t : ℕ → A → Bool) (d : A) (i : ℕ) (xs : List A) (n : ℕ) → every_from t i xs ≡ true → n < length xs → t (n + i) (get_or xs n d) ≡ true
at_place t d i [] n f l = let z : ⊥ = omega arith in absurd z
at_place t d i (x ∷ xs) zero f l = rw (zero-add i) (both_left (t i x) (every_from t (suc i) xs) f)
at_place t d i (x ∷ xs) (suc n) f l = rw (suc-add n i, ← (add-suc n i)) (at_place t d (suc i) xs n (both_right (t i x) (every_from t (suc i) xs) f) (omega arith))

-- and of all words of a table, with outcome and detail
abbrev every_words : (ℕ → ℕ → List ℕ → Bool) → Table → Bool
every_words t table = every_from (λ (o : ℕ) (row : List (List ℕ)). every_from (t o) 0 row) 0 table

of_words : (t : ℕ → ℕ → List ℕ → Bool) (table : Table) → every_words t table ≡ true → (o d : ℕ) → Said table o d → t o d (words_of table o d) ≡ true
of_words t table f o d said =
    order o (length table)
    (λ l.
    order d (length (get_or table o []))
    (λ k.
    let row = at_place (λ (n : ℕ) (xs : List (List ℕ)). every_from (t n) 0 xs) [] 0 table o f l in
    rw (add-zero d) at (at_place (t o) [] 0 (get_or table o []) d (rw (add-zero o) at row) k))
    (λ k. let e = get_or-eq_default (get_or table o []) [] {n = d} k in let z : ⊥ = omega (arith, said, ap length e) in absurd z))
    (λ l.
    let e : words_of table o d ≡ [] = rw (get_or-eq_default table [] {n = o} l) refl in
    let z : ⊥ = omega (arith, said, ap length e) in absurd z)

-- words have room where all of a table's have
room_by : (table : Table) → every_words (λ (o d : ℕ) (words : List ℕ). ltb (length words) words_length) table ≡ true → Room table
room_by table f o d =
    order 0 (length (words_of table o d))
    (λ said. ltb-true (length (words_of table o d)) words_length (of_words (λ (o d : ℕ) (words : List ℕ). ltb (length words) words_length) table f o d said))
    (λ none. omega arith)

-- where words stand first in a row, and in a table
place_in : List (List ℕ) → List ℕ → ℕ
place_in [] words = 0
place_in (x ∷ xs) words = cond (same_text x words) 0 (suc (place_in xs words))

row_of : Table → List ℕ → ℕ
row_of [] words = 0
row_of (row ∷ rows) words = cond (ltb (place_in row words) (length row)) 0 (suc (row_of rows words))

abbrev detail_of : Table → List ℕ → ℕ
detail_of table words = place_in (get_or table (row_of table words) []) words

-- words differ where all of a table stand first in their own places
abbrev own : Table → ℕ → ℕ → List ℕ → Bool
own table o d words = implies (ltb 0 (length words)) (both (eqb (row_of table words) o) (eqb (detail_of table words) d))

owned : (table : Table) → every_words (own table) table ≡ true → (o d : ℕ) → Said table o d → (row_of table (words_of table o d) ≡ o) × (detail_of table (words_of table o d) ≡ d)
owned table f o d said =
    let w = words_of table o d in
    let a = eqb (row_of table w) o in
    let b = eqb (detail_of table w) d in
    let q : both a b ≡ true = rw (lt-ltb 0 (length w) said) at (of_words (own table) table f o d said) in
    (eqb-true (row_of table w) o (both_left a b q), eqb-true (detail_of table w) d (both_right a b q))

apart_by : (table : Table) → every_words (own table) table ≡ true → Apart table
apart_by table f o d p e said q =
    let a = owned table f o d said in
    let b = owned table f p e (rw (← q) said) in
    (sym a.0 ∙ ap (row_of table) q ∙ b.0, sym a.1 ∙ ap (detail_of table) q ∙ b.1)

pub refusal-room : Room refusal_table
refusal-room = room_by refusal_table refl

pub desk-room : Room desk_table
desk-room = room_by desk_table refl

pub master-room : Room master_table
master-room = room_by master_table refl

pub refusals-apart : Apart refusal_table
unfolding same_text place_in row_of
refusals-apart = apart_by refusal_table refl

pub desk-apart : Apart desk_table
unfolding same_text place_in row_of
desk-apart = apart_by desk_table refl

pub master-apart : Apart master_table
unfolding same_text place_in row_of
master-apart = apart_by master_table refl

-- each number of a refusal
pub each_number : EachNumber
each_number n l =
    ltb-true 0 (length (words_of refusal_table n 0))
    (at_place (λ (n : ℕ) (row : List (List ℕ)). ltb 0 (length (get_or row 0 []))) [] 0 refusal_table n refl (omega arith))

numbered : (x : r.Refusal) → from 1 20 (refusal_of x).number ≡ true
numbered r.TheVariants.Short = refl
numbered r.TheVariants.Long = refl
numbered r.TheVariants.NoStart = refl
numbered r.TheVariants.Count = refl
numbered (r.TheVariants.NoEnd place) = refl
numbered (r.TheVariants.Checksum place) = refl
numbered r.TheVariants.Number = refl
numbered r.TheVariants.Kind = refl
numbered (r.TheVariants.Character place) = refl
numbered (r.TheVariants.Form place) = refl
numbered (r.TheVariants.Value place) = refl
numbered r.TheVariants.NotSent = refl
numbered r.TheVariants.Range = refl
numbered r.TheVariants.NoRoom = refl
numbered r.TheVariants.State = refl
numbered r.TheVariants.Busy = refl
numbered r.TheVariants.Full = refl
numbered (r.TheVariants.Mark place) = refl
numbered (r.TheVariants.Length place) = refl
numbered (r.TheVariants.CutOff place) = refl

pub each-refusal : EachRefusal
each-refusal x = each_number (refusal_of x).number (from-bounds 1 20 (refusal_of x).number (numbered x)).1

-- a refused call has another number than 0
refused : {A : Type 0} (x : r.Refusal) → (refusal_of x).number ≡ 0 → A
refused x q = let l = (from-bounds 1 20 (refusal_of x).number (numbered x)).0 in let z : ⊥ = omega (arith, l, q) in absurd z

pub each-done : EachDone
each-done (Ok false) q = lit< tt
each-done (Ok true) q = lit< tt
each-done (Err x) q = refused x q

-- what a hearing says of the frame leaves outcome and detail as they are
with-reading : (table : Table) (x : In656Result) (z : n.Answer) → SaidOf table x → SaidOf table (with_reading x z)
with-reading table x (n.accepted rec number) f = f
with-reading table x (n.Answer.refused y) f = f

desk-frame : (t : d.Told) (line : ℕ) (frame : List ℕ) (x : In656Result) → SaidOf desk_table x → SaidOf desk_table (desk_frame t line frame x)
desk-frame (d.refused y) line frame x f = f
desk-frame (d.silent noted y) line frame x f = f
desk-frame (d.fault noted value k) line frame x f = with-reading desk_table x (reading_of line frame) f
desk-frame (d.repeat k) line frame x f = with-reading desk_table x (reading_of line frame) f
desk-frame (d.handled noted origin k) line frame x f = f

master-frame : (t : m.Told) (line : ℕ) (frame : List ℕ) (x : In656Result) → SaidOf master_table x → SaidOf master_table (master_frame t line frame x)
master-frame (m.Told.refused y) line frame x f = f
master-frame m.nothing line frame x f = f
master-frame (m.sent sending count k) line frame x f = f
master-frame (m.answered rec count) line frame x f = f
master-frame (m.other_kind answer count) line frame x f = f
master-frame (m.given_up cause count) line frame x f = f
master-frame (m.ignored m.free) line frame x f = with-reading master_table x (reading_of line frame) f
master-frame (m.ignored m.run_out) line frame x f = with-reading master_table x (reading_of line frame) f
master-frame (m.ignored (m.Why.refused y)) line frame x f = f
master-frame (m.ignored m.other_number) line frame x f = with-reading master_table x (reading_of line frame) f

heard : (answer : Result h.Heard r.Refusal) → SaidOf desk_table (heard_result (d.told_of answer))
heard (Err x) q = refused x q
heard (Ok (h.TheVariants.Silent lost x)) q = lit< tt
heard (Ok (h.TheVariants.Fault lost n)) q = lit< tt
heard (Ok (h.TheVariants.Repeat n)) q = lit< tt
heard (Ok (h.TheVariants.Handled lost s.TheVariants.Requested n)) q = lit< tt
heard (Ok (h.TheVariants.Handled lost s.TheVariants.Queue n)) q = lit< tt
heard (Ok (h.TheVariants.Handled lost (s.TheVariants.Key b) n)) q = lit< tt
heard (Ok (h.TheVariants.Handled lost (s.TheVariants.Panel rec) n)) q = lit< tt
heard (Ok (h.TheVariants.Handled lost (s.TheVariants.Contents x) n)) q = lit< tt
heard (Ok (h.TheVariants.Handled lost s.TheVariants.NotMaster n)) q = lit< tt
heard (Ok (h.TheVariants.Handled lost s.TheVariants.NothingSet n)) q = lit< tt

pub each-heard : EachHeard
each-heard answer line frame = desk-frame (d.told_of answer) line frame (heard_result (d.told_of answer)) (heard answer)

pub each-told : EachTold
each-told (Err x) q = refused x q
each-told (Ok a.TheVariants.Nothing) q = lit< tt
each-told (Ok (a.TheVariants.Sent g.TheVariants.Offered count n)) q = lit< tt
each-told (Ok (a.TheVariants.Sent g.TheVariants.Again count n)) q = lit< tt
each-told (Ok (a.TheVariants.Sent g.TheVariants.Poll count n)) q = lit< tt
each-told (Ok (a.TheVariants.Answered rec count)) q = lit< tt
each-told (Ok (a.TheVariants.OtherKind (Ok numbered) count)) q = lit< tt
each-told (Ok (a.TheVariants.OtherKind (Err x) count)) q = lit< tt
each-told (Ok (a.TheVariants.GivenUp c.TheVariants.Silence count)) q = lit< tt
each-told (Ok (a.TheVariants.GivenUp c.TheVariants.Rejected count)) q = lit< tt
each-told (Ok (a.TheVariants.Ignored y.TheVariants.Free)) q = lit< tt
each-told (Ok (a.TheVariants.Ignored y.TheVariants.RunOut)) q = lit< tt
each-told (Ok (a.TheVariants.Ignored (y.TheVariants.Refused x))) q = lit< tt
each-told (Ok (a.TheVariants.Ignored y.TheVariants.OtherNumber)) q = lit< tt

pub each-frame : EachFrame
each-frame answer line frame = master-frame (m.told_of answer) line frame (told_result (m.told_of answer)) (each-told answer)
