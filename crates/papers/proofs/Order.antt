-- A refusal of reading is the first check that finds a fault. Assumes nothing.
use Rattle.std.specs.Prelude.{Option, None, Some}
use mathlib.Core.Path.{◌≡◌, refl, sym, ap, ◌∙◌}
use mathlib.Core.Bool.{Bool, true, false, cond, not}
use mathlib.Core.List.{List, [], ◌∷◌}
use Prim.Native.Nat.{ℕ, zero, suc, ◌+◌, ◌-◌, ◌<◌}
use native.Mathlib.Omega.{arith}
use lib.ListN.{length, get_or}
use Rattle.records.specs.Refusals.{No, no}
use Rattle.laws.specs.Numerals.{numeral_on, number_on}
use Rattle.laws.specs.Truth.{both, either, one_of}
use Rattle.laws.proofs.Truths.{clash}
use Rattle.laws.proofs.Passes.{all_map}
use Rattle.characters.specs.Characters.{in_set}
use Rattle.characters.specs.Checksum.{total, checksum_of, check_text}
use Rattle.forms.specs.Lines.{line_of}
use Rattle.forms.specs.Forms.{forms, on_line, look_in, form_of, slots_in, count_of, slots_of, width_in, width_of, type_row}
use Rattle.forms.proofs.Found.{found-any}
use Rattle.values.specs.Packets.{lead_of, is_decimal, permits, ruled, permits_number}
use Rattle.values.specs.Values.{value_of, permitted_from, permitted, narrow, number_fits}
use Rattle.records.specs.declared.records.Record.{Record}
use Rattle.records.specs.Answers.{Fault, good, fails, first_fault, accepted, refused, unless}
use Rattle.reading.specs.Frame.{needs, count_text, summed_of, field_of, frame_checks}
use Rattle.reading.specs.Contents.{row_in, outside, wrong_letter, bad_value, misshapen, field_checks}
use Rattle.reading.specs.Reading.{checks, reading_of}
use Rattle.writing.proofs.RoundTrips.Faults.{faultless-at}
use Rattle.writing.proofs.RoundTrips.Checks.{accepted-only}
use Rattle.reading.proofs.Contents as contents
use Rattle.papers.specs.Lines.{Senders, paper, Exact}
use Rattle.papers.specs.Order.{EveryRefusal, EachOccurs, Eleven, RefusedFirst, EightOn, EightListed, AcceptedClean, NoLine}
use Rattle.papers.proofs.Lines.{exact-lines}

pub every-refusal : EveryRefusal
unfolding numeral_on in_set total checksum_of check_text forms on_line look_in form_of type_row slots_in count_of slots_of width_in width_of
    line_of lead_of is_decimal permits ruled permits_number narrow number_fits value_of number_on permitted_from
    permitted count_text summed_of field_of frame_checks outside wrong_letter bad_value misshapen field_checks checks reading_of
every-refusal = (refl, (refl, (refl, (refl, (refl, (refl, (refl, (refl, (refl, (refl, (refl, (refl, (refl, (refl, (refl, tt)))))))))))))))

pub each-occurs : EachOccurs
each-occurs = refl

-- the first fault of a list whose first check has number j, by its index
record FirstIn (spots : List (Option ℕ)) (j k place : ℕ) : Type 0 where
  index : ℕ
  counted : k ≡ j + index
  within : index < length spots
  finds : get_or spots index None ≡ Some place
  none_before : (i : ℕ) → i < index → get_or spots i None ≡ None

-- what the first fault of a list says of the list
first-in : (spots : List (Option ℕ)) (j k place : ℕ) → first_fault j spots ≡ fails (no k place) → FirstIn spots j k place
first-in [] j k place h = clash (cc)
first-in (None ∷ spots) j k place h =
    let r : FirstIn spots (j + 1) k place = first-in spots (j + 1) k place h in
    record {
      index = suc r.index;
      counted = omega arith;
      within = omega arith;
      finds = r.finds;
      none_before = elim [ zero ↦ λ _. refl | suc i ↦ λ l. r.none_before i (omega arith) ];
    }
first-in (Some p ∷ spots) j k place h =
    let q : no j p ≡ no k place = cc in
    let e : j ≡ k = ap (λ (x : No). x.number) q in
    let f : p ≡ place = ap (λ (x : No). x.place) q in
    record { index = 0; counted = omega arith; within = omega arith; finds = cc; none_before = λ i l. let z : ⊥ = omega arith in absurd z }

-- an answer that refuses has a fault
refused-by : (f : Fault) (rec : Record) (n k place : ℕ) → unless f (accepted rec n) ≡ refused (no k place) → f ≡ fails (no k place)
refused-by good rec n k place h = clash (cc)
refused-by (fails x) rec n k place h = cc

pub eleven : Eleven
unfolding checks frame_checks field_checks
eleven line s = refl

pub refused-first : RefusedFirst
unfolding reading_of
refused-first line s k place l h =
    let r : FirstIn (checks line s) 1 k place = first-in (checks line s) 1 k place (refused-by (first_fault 1 (checks line s)) _ _ k place (rw l at h)) in
    let n = eleven line s in
    let e : k - 1 ≡ r.index = omega arith in
    record {
      from_one = omega arith;
      to-eleven = omega arith;
      finds = rw e r.finds;
      none_before = λ i a b. r.none_before (i - 1) (omega arith);
    }

-- a type that is found is sent by the master or by the slave
by-an-end : (found master : Bool) → found ≡ either (both found master) (both found (not master))
by-an-end true true = refl
by-an-end true false = refl
by-an-end false master = refl

needed : (b : Bool) (place : ℕ) → needs b place ≡ cond b None (Some place)
needed true place = refl
needed false place = refl

-- on a line whose types are those of the paper
module _ (l : Senders) (x : Exact l) where
  listed : (kind letter : ℕ) → (form_of l.line kind letter).found ≡ either (one_of l.masters kind) (one_of l.slaves kind)
  listed kind letter =
      rw (← (x.by-master kind), ← (x.by-slave kind)) (found-any l.line kind letter ∙ by-an-end (type_row l.line kind).found (type_row l.line kind).form.master)

  eight : EightOn l
  unfolding checks frame_checks field_checks
  eight s = needed (row_in l.line s).found 3 ∙ ap (λ (b : Bool). cond b None (Some 3)) (listed (get_or s 3 0) (get_or s 5 0))

pub eight-listed : EightListed
eight-listed = all_map Exact EightOn eight paper exact-lines

pub accepted-clean : AcceptedClean
accepted-clean line s rec n h k = faultless-at (checks line s) (k - 1) (accepted-only line s rec n h).faultless

pub no-line : NoLine
no-line line s l = sym (contents.no_line line s l)
