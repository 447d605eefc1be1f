-- The set listed and counted, and what a packet permits in it. Assumes nothing.
use mathlib.Core.Path.{refl, sym, ◌∙◌}
use mathlib.Core.Bool.{false}
use native.Mathlib.Omega.{arith}
use Rattle.laws.specs.Truth.{one_of}
use Rattle.laws.proofs.Listed.{listed_at}
use Rattle.laws.proofs.Passes.{on_test, same_test, one_of-passes}
use Rattle.characters.specs.Characters.{in_set}
use Rattle.forms.specs.Forms.{forms, slots_in, count_of, slots_of}
use Rattle.characters.proofs.Codes.{low}
use Rattle.writing.proofs.RoundTrips.Bytes.{permits-set}
use Rattle.papers.specs.Set.{codes_listed, AsListed, SeventyFive, ListedOnce, NoneFrom128, NoCaret, LettersInSet, PermittedInSet}

-- a code of the set is below 128, where set and list are computed; a code of the list passes a range
pub as-listed : AsListed
unfolding in_set
as-listed b =
    same_test (in_set b) (one_of codes_listed b)
    (λ h. let l = low b h in sym (listed_at false (one_of codes_listed) 128 b l) ∙ listed_at false in_set 128 b l ∙ h)
    (one_of-passes in_set codes_listed b refl)

pub seventy-five : SeventyFive
unfolding in_set
seventy-five = refl

pub listed-once : ListedOnce
listed-once = (refl, refl)

pub none-from-128 : NoneFrom128
none-from-128 b h = on_test (in_set b) (λ k. absurd (omega (arith, low b k))) (λ e. e)

pub no-caret : NoCaret
unfolding in_set
no-caret = refl

pub letters-in-set : LettersInSet
unfolding in_set forms slots_in count_of slots_of
letters-in-set = refl

pub permitted-in-set : PermittedInSet
permitted-in-set = permits-set
