-- Demand 3 of our two ends, on each line. Assumes nothing.
use mathlib.Core.Path.{◌≡◌}
use mathlib.Core.Bool.{true}
use mathlib.Core.List.{List, []}
use Prim.Native.Nat.{ℕ}
use Rattle.forms.specs.Lines.{is_line}
use Rattle.protocol.specs.Demand.{NoLostInside}
use Rattle.demand3.specs.Theorems.{Demand3, Reports}
use Rattle.protocol.specs.Ends.{Ev, ran}
use Rattle.demand3.specs.Ours.{ours, FromMaster, FromSlave}
use Rattle.protocol.proofs.Stepwise.{Held, held_of, of-held}
use Rattle.protocol.proofs.Laws.{Laws}
use Rattle.protocol.proofs.Sim.{kept-stepwise, kept-always}
use Rattle.demand3.proofs.Numbers.{read, refused-bad}
use Rattle.demand3.proofs.MasterKeeps as m
use Rattle.demand3.proofs.DeskKeeps as d

module _ (line : ℕ) (h : is_line line ≡ true) where
  our-laws : Laws (ours line)
  our-laws =
      record {
        read = read;
        nak = m.nak line;
        refuses = refused-bad;
        Sends = FromMaster line;
        Makes = FromSlave line;
        mview = m.mview;
        dview = d.dview;
        mfine = m.Fine line;
        dfine = d.Fine line;
        mstarts = λ at. m.start-lawful line at h;
        dstarts = d.start-lawful line h;
        offers = λ s at rec out i. m.offer-lawful line s i at rec out;
        mticks = λ s at out i. m.tick-lawful line s i at out;
        mhears = λ s at bytes out i. m.hear-lawful line s i at bytes out;
        dticks = λ s at i. d.tick-lawful line s i at;
        dhears = λ s at bytes out i. d.hear-lawful line s i at bytes out;
        acts = λ s a i. d.panel-lawful line s i a;
      }

  module _ (at : ℕ) (events : List (Ev (ours line))) where
    -- The demand's supposition gives the one that the proof carries from step to step, and the other way.
    pub stepwise : (NoLostInside (ran (ours line) at [] events) → Held (ran (ours line) at [] events)) × (Held (ran (ours line) at [] events) → NoLostInside (ran (ours line) at [] events))
    stepwise = (held_of (ran (ours line) at [] events), of-held (ran (ours line) at [] events))

pub demand3 : Demand3
demand3 line h at events k = kept-stepwise (ours line) (our-laws line h) at [] events ((stepwise line h at events).0 k)

pub reports : Reports
unfolding our-laws
reports line h at events = kept-always (ours line) (our-laws line h) at [] events
