-- A gatherer's block: its length, and what is loaded of it. Assumes nothing.
use mathlib.Core.Path.{◌≡◌, refl}
use mathlib.Core.Bool.{true}
use native.Mathlib.Omega.{arith}
use lib.ListN.{length}
use lib.Seq.{take_all}
use borrow.Author.Tests.{leb-false}
use Rattle.laws.proofs.Truths.{not-true}
use Rattle.characters.specs.Marks.{longest}
use Rattle.cutting.specs.declared.gather.Gatherer.{Gatherer}
use Rattle.blocks.specs.Gatherers.{gatherer_bytes, gatherer_length, gatherer_at, blank, in_ranges, Typed, GathererBack, OtherGatherers, OneGatherer}
use Rattle.blocks.proofs.Parts.{small, pad-whole}
use Rattle.blocks.proofs.Loads.{loads-saved, other, one}

pub gatherer-length : (g : Gatherer) → length g.bytes ≡ longest → length (gatherer_bytes g) ≡ gatherer_length
unfolding gatherer_bytes
gatherer-length g h = omega arith

made_again : (g : Gatherer) → Typed g → in_ranges g ≡ true → gatherer_at (gatherer_bytes g) ≡ g
unfolding gatherer_at gatherer_bytes
made_again g t h =
    let few = leb-false longest g.len (not-true _ h) in
    rw (small g.len (omega arith), take_all longest g.bytes (omega arith), pad-whole longest g.bytes t)

pub gatherer-back : GathererBack
gatherer-back g b t h l = loads-saved gatherer_bytes gatherer_at blank gatherer_length g b (made_again g t h) l

pub other-gatherers : OtherGatherers
other-gatherers b h = other gatherer_bytes gatherer_at blank in_ranges refl b h

pub one-gatherer : OneGatherer
one-gatherer a b h e = one gatherer_bytes gatherer_at blank in_ranges refl a b h e
