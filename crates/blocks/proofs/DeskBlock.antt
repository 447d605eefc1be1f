-- A desk's block: its length, and what is loaded of it. Assumes nothing.
use Rattle.std.specs.Prelude.{Option, None, Some}
use mathlib.Core.Path.{◌≡◌, refl, sym, ap, ◌∙◌}
use mathlib.Core.Bool.{true}
use mathlib.Core.List.{List, ◌++◌}
use Prim.Native.Nat.{ℕ, ◌+◌, ◌*◌}
use native.Mathlib.Omega.{arith}
use lib.ListN.{length, drop, length-append, length-replicate}
use lib.Seq.{take_all, take_at, drop_at, drop-drop}
use Rattle.laws.specs.Truth.{All}
use Rattle.laws.specs.Numerals.{numeral_on}
use Rattle.characters.specs.Marks.{longest}
use Rattle.records.specs.declared.records.Record.{Record}
use Rattle.desk.specs.declared.waiting.Waiting.{Waiting}
use Rattle.desk.specs.State.{fresh, numbers_fit, in_ranges}
use Rattle.desk.specs.declared.state.Desk.{Desk}
use Rattle.desk.proofs.Ranges.{ranges-parts, kept-most}
use Rattle.blocks.specs.Layout.{joined, each}
use Rattle.text.specs.Fours.{four_bytes}
use Rattle.blocks.specs.Record.{record_length, Narrow}
use Rattle.blocks.proofs.Laid.{joined_length, each_back}
use Rattle.text.proofs.FourBytes.{four-length, four-back}
use Rattle.blocks.proofs.Found.{record-length, made_again}
use Rattle.blocks.specs.Desks.{places, waiting_bytes, waiting_of, waiting_at, set_byte, wanted_bytes, wanted_at, count_bytes, kept_bytes, kept_length, desk_bytes, desk_length, desk_at, NarrowWanted, Typed, DeskBack, OtherDesks, OneDesk}
use Rattle.blocks.proofs.Parts.{small, flag-back, pad-whole}
use Rattle.blocks.proofs.Loads.{loads-saved, other, one}

-- a record that is set, or none
wanted-length : (wanted : Option Record) → length (wanted_bytes wanted) ≡ record_length
wanted-length None = length-replicate {A = ℕ} record_length 0
wanted-length (Some rec) = record-length rec

wanted-back : (wanted : Option Record) → NarrowWanted wanted → wanted_at (set_byte wanted) (wanted_bytes wanted) ≡ wanted
unfolding wanted_at
wanted-back None h = refl
wanted-back (Some rec) h = ap (λ (r : Record). Some r) (made_again rec h)

-- the places of the queue
queue-length : (queue : List Waiting) → length queue ≡ places → length (joined waiting_bytes queue) ≡ places * record_length
queue-length queue h = omega (arith, joined_length waiting_bytes record_length (λ (w : Waiting). record-length w.rec) queue)

queue-back : (queue : List Waiting) → length queue ≡ places → All (λ (w : Waiting). Narrow w.rec) queue → each record_length waiting_at places (joined waiting_bytes queue) ≡ queue
queue-back queue h t =
    rw h at
    (each_back record_length waiting_at waiting_bytes (λ (w : Waiting). record-length w.rec) (λ (w : Waiting). Narrow w.rec) (λ (w : Waiting) p. ap waiting_of (made_again w.rec p)) queue t)

-- what stands behind two lists
behind-two : (p q r : List ℕ) (a b : ℕ) → length p ≡ a → length q ≡ b → drop (a + b) (p ++ (q ++ r)) ≡ r
behind-two p q r a b h k = sym (drop-drop b a (p ++ (q ++ r))) ∙ rw (drop_at p (q ++ r) a h, drop_at q r b k)

pub kept-length : (stored : List ℕ) (wanted : Option Record) (queue : List Waiting) → length stored ≡ longest → length queue ≡ places → length (kept_bytes stored wanted queue) ≡ kept_length
unfolding kept_bytes
kept-length stored wanted queue h k =
    let b = wanted-length wanted in
    let c = queue-length queue k in
    simp length-append (omega arith)

pub desk-length : (d : Desk) → length (kept_bytes d.stored d.requested d.queue) ≡ kept_length → length (desk_bytes d) ≡ desk_length
unfolding desk_bytes count_bytes
desk-length d h = let a = four-length d.t1 in simp length-append (omega arith)

desk-again : (d : Desk) → Typed d → in_ranges d ≡ true → desk_at (desk_bytes d) ≡ d
unfolding desk_at desk_bytes count_bytes kept_bytes four_bytes numeral_on
desk-again d t h =
    let f = ranges-parts d h in
    let k = kept-most d.good d.kept f.stocked in
    rw (
      flag-back d.good,
      four-back d.t1 t.t1,
      small d.kept (omega arith),
      small d.queued (omega (arith, f.few)),
      take_at d.stored (wanted_bytes d.requested ++ joined waiting_bytes d.queue) longest t.stored,
      pad-whole longest d.stored t.stored,
      drop_at d.stored (wanted_bytes d.requested ++ joined waiting_bytes d.queue) longest t.stored,
      take_at (wanted_bytes d.requested) (joined waiting_bytes d.queue) record_length (wanted-length d.requested),
      wanted-back d.requested t.requested,
      behind-two d.stored (wanted_bytes d.requested) (joined waiting_bytes d.queue) longest record_length t.stored (wanted-length d.requested),
      take_all (places * record_length) (joined waiting_bytes d.queue) (omega (arith, queue-length d.queue t.places-eight)),
      queue-back d.queue t.places-eight t.queue,
    )

pub desk-back : DeskBack
desk-back d b t h l = loads-saved desk_bytes desk_at (fresh 0) desk_length d b (desk-again d t h) l

pub other-desks : OtherDesks
other-desks b h = other desk_bytes desk_at (fresh 0) in_ranges (unfold in_ranges numbers_fit in refl) b h

pub one-desk : OneDesk
one-desk a b h e = one desk_bytes desk_at (fresh 0) in_ranges (unfold in_ranges numbers_fit in refl) a b h e
