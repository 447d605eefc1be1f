-- A master's block: its length, and what is loaded of it. Assumes nothing.
use mathlib.Core.Path.{◌≡◌, refl}
use native.Mathlib.Omega.{arith}
use lib.ListN.{length, length-append}
use lib.Seq.{take_all}
use Rattle.laws.specs.Numerals.{numeral_on}
use Rattle.master.specs.State.{unstarted, fits_free, in_ranges}
use Rattle.master.specs.declared.state.Master.{Master}
use Rattle.text.specs.Fours.{four_bytes}
use Rattle.blocks.specs.Record.{record_length, record_bytes}
use Rattle.text.proofs.FourBytes.{four-length, four-back}
use Rattle.blocks.proofs.Found.{record-length, made_again}
use Rattle.blocks.specs.Masters.{master_bytes, master_length, master_at, Typed, MasterBack, OtherMasters, OneMaster}
use Rattle.blocks.proofs.Parts.{flag-back}
use Rattle.blocks.proofs.Loads.{loads-saved, other, one}

pub master-length : (m : Master) → length (master_bytes m) ≡ master_length
unfolding master_bytes
master-length m =
    let a = four-length m.t0 in
    let b = four-length m.t2 in
    let c = record-length m.rec in
    simp length-append (omega arith)

-- the four bytes of a start are there one by one
master-again : (m : Master) → Typed m → master_at (master_bytes m) ≡ m
unfolding master_at master_bytes four_bytes numeral_on
master-again m t =
    rw (
      flag-back m.good,
      four-back m.t0 t.t0,
      four-back m.t2 t.t2,
      flag-back m.operation,
      take_all record_length (record_bytes m.rec) (omega (arith, record-length m.rec)),
      made_again m.rec t.rec,
    )

pub master-back : MasterBack
master-back m b t h l = loads-saved master_bytes master_at unstarted master_length m b (master-again m t) l

pub other-masters : OtherMasters
other-masters b h = other master_bytes master_at unstarted in_ranges (unfold fits_free in_ranges in refl) b h

pub one-master : OneMaster
one-master a b h e = one master_bytes master_at unstarted in_ranges (unfold fits_free in_ranges in refl) a b h e
