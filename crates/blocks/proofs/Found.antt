-- A record's block, put and read. Assumes nothing.
use Rattle.std.specs.Prelude.{Ok, Err}
use mathlib.Core.Path.{◌≡◌, refl, sym, ap, ◌∙◌}
use mathlib.Core.Bool.{Bool, true, cond}
use mathlib.Core.List.{List, [], ◌∷◌}
use Prim.Native.Nat.{ℕ, zero, suc, ◌<◌, ◌^◌}
use native.Mathlib.Omega.{arith}
use lib.Dec.{eqb, lit<}
use lib.ListN.{length, get_or, replicate, length-append}
use lib.Seq.{take_at}
use borrow.Author.Tests.{eq-eqb, ne_eqb}
use Rattle.laws.specs.Truth.{All, pad}
use Rattle.laws.proofs.Passes.{on_test}
use Rattle.records.specs.Records.{type_of, fields_of, values_of}
use Rattle.records.specs.Refusals.{No, no}
use Rattle.records.specs.declared.records.Record.{Record}
use Rattle.records.proofs.Again.{record-again}
use Rattle.records.proofs.Apart.{one-refusal}
use Rattle.text.specs.Fields.{same_text}
use Rattle.text.proofs.Rows.{same-is-equal, equal-is-same}
use Rattle.blocks.specs.Layout.{joined}
use Rattle.text.specs.Fours.{four_bytes, four_said}
use Rattle.blocks.specs.Record.{values_length, text_length, record_length, record_bytes, record_at, is, refused, record_in, OneFound, Narrow, RecordBack, RecordBlock}
use Rattle.blocks.proofs.Laid.{filled-with, joined_length, each_back}
use Rattle.text.proofs.FourBytes.{four-length, four-back}

pub pad-length : (n : ℕ) (xs : List ℕ) → length (pad n xs) ≡ n
pad-length zero xs = refl
pad-length (suc n) [] = ap suc (pad-length n [])
pad-length (suc n) (x ∷ xs) = ap suc (pad-length n xs)

pad-all : (P : ℕ → Type 0) → P 0 → (n : ℕ) (xs : List ℕ) → All P xs → All P (pad n xs)
pad-all P z zero xs p = tt
pad-all P z (suc n) [] p = (z, pad-all P z n [] tt)
pad-all P z (suc n) (x ∷ xs) (q, p) = (q, pad-all P z n xs p)

-- the bytes of the values
its-values-length : (rec : Record) → length (joined four_bytes (values_of rec)) ≡ values_length
its-values-length rec = omega (arith, joined_length four_bytes 4 four-length (values_of rec), pad-length 10 (fields_of rec))

pub record-length : (rec : Record) → length (record_bytes rec) ≡ record_length
unfolding record_bytes
record-length rec = let h = its-values-length rec in simp length-append (omega arith)

-- what is read where a test fails, and where none does
pub other_length : (b : List ℕ) → (length b ≡ record_length → ⊥) → refused (no 12 0) ≡ record_in b
unfolding record_in
other_length b h = rw (ne_eqb (length b) record_length h)

module _ (b : List ℕ) (rec : Record) (kind byte : ℕ) (l : length b ≡ record_length) (e : rec ≡ record_at b) (k : kind ≡ type_of rec) (f : byte ≡ get_or b 0 0) where
  pub other-type : (kind ≡ byte → ⊥) → refused (no 12 0) ≡ record_in b
  unfolding record_in
  other-type h = rw (eq-eqb (length b) record_length l, ne_eqb (type_of (record_at b)) (get_or b 0 0) (λ q. h (k ∙ ap type_of e ∙ q ∙ sym f)))

  pub other-bytes : (same : Bool) → kind ≡ byte → same ≡ same_text (record_bytes rec) b → cond same (is rec) (refused (no 13 0)) ≡ record_in b
  unfolding record_in
  other-bytes same h g =
      rw (eq-eqb (length b) record_length l, eq-eqb (type_of (record_at b)) (get_or b 0 0) (sym (k ∙ ap type_of e) ∙ h ∙ f), g, e)

-- a record is made again of its block
pub made_again : (rec : Record) → Narrow rec → record_at (record_bytes rec) ≡ rec
unfolding record_at record_bytes
made_again rec h =
    rw (
      take_at (joined four_bytes (values_of rec)) (replicate text_length 0) values_length (its-values-length rec),
      rw (pad-length 10 (fields_of rec)) at
          (each_back 4 four_said four_bytes four-length (λ (n : ℕ). n < 2 ^ 32) four-back (values_of rec) (pad-all (λ (n : ℕ). n < 2 ^ 32) (lit< tt) 10 (fields_of rec) h)),
    )
    (record-again rec)

first_byte : (rec : Record) → get_or (record_bytes rec) 0 0 ≡ type_of rec
unfolding record_bytes
first_byte rec = refl

pub record-back : RecordBack
record-back rec b h l =
    rw (filled-with record_length (record_bytes rec) b l)
    (sym (other-bytes (record_bytes rec) rec (type_of rec) (type_of rec) (record-length rec) (sym (made_again rec h)) refl (sym (first_byte rec)) true refl (sym (equal-is-same (record_bytes rec)))))

-- a refusal is no record
never : {A : Type 0} (x : No) (rec : Record) → refused x ≡ is rec → A
never x rec h = let z : ◌≡◌ {A = ℕ} 0 1 = cc in let y : ⊥ = omega arith in absurd y

same-record : (x y : Record) → is x ≡ is y → x ≡ y
same-record x y h = cc

pub record-block : RecordBlock
unfolding record_in
record-block rec b h =
    on_test (eqb (length b) record_length)
    (λ l.
    on_test (eqb (type_of (record_at b)) (get_or b 0 0))
    (λ t.
    on_test (same_text (record_bytes (record_at b)) b)
    (λ e. sym (same-is-equal (record_bytes (record_at b)) b e) ∙ ap record_bytes (same-record (record_at b) rec (rw (l, t, e) at h)))
    (λ e. never (no 13 0) rec (rw (l, t, e) at h)))
    (λ t. never (no 12 0) rec (rw (l, t) at h)))
    (λ l. never (no 12 0) rec (rw l at h))

pub one_found : OneFound
one_found (Ok x) (Ok y) h = let e : x ≡ y = same-record x y h in cc
one_found (Ok x) (Err y) h = cc
one_found (Err x) (Ok y) h = cc
one_found (Err x) (Err y) h = let e : x ≡ y = one-refusal x y (cc) in cc
