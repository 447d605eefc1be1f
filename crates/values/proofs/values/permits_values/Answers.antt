-- The library's test of each letter, length and value is the definition's. Assumes nothing.
use Rattle.std.proofs.Common.{rules, ◌∙◌, ℕ, sym, arith, take, length-take-le}
use Rattle.std.proofs.lemmas.Iterator.{YieldsList-from_slice, YieldsList-from_zip}
use Rattle.std.proofs.lemmas.Iterator.Search.{all_from_yields_List}
use Rattle.forms.specs.Forms.{slots_of}
use Rattle.forms.proofs.Slots.{count_small}
use Rattle.values.specs.Values.{permits_value}
use Rattle.values.proofs.Texts.{each-value}
use Rattle.values.proofs.values.permits_values.Goals as goal

pub slice_bounds-iter-end : goal.slice_bounds-iter-end
slice_bounds-iter-end c = sym (length-take-le _ c.args.form.letters (omega (arith, c.count_of.ensures, count_small c.args.form)))

pub returns : goal.returns
unfolding slots_of
returns c =
    let a = c.args in
    let n = c.count_of.result in
    let few = count_small a.form in
    let test = λ (p : (ℕ × ℕ) × ℕ). permits_value a.line a.kind p.0.0 p.0.1 p.1 in
    all_from_yields_List test c.all.new.self _ _ c.all.ensures.ran
    (YieldsList-from_zip (YieldsList-from_zip (YieldsList-from_slice (take n a.form.letters) cc) (YieldsList-from_slice a.form.lens cc)) (YieldsList-from_slice a.values cc))
    (λ x b q k. search rules)
    ∙ each-value a.line a.kind n a.form.letters a.form.lens a.values (omega arith) (omega arith) (omega arith)
    ∙ rw c.count_of.ensures
