-- What the library's search finds is the table's row. Assumes nothing.
use Rattle.std.proofs.Common.{rules, ◌∙◌, sym, ap}
use Rattle.std.proofs.lemmas.Iterator.{YieldsList-from_slice}
use Rattle.std.proofs.lemmas.Iterator.Search.{find_from_yields_List}
use Rattle.forms.specs.Forms.{is_data, looked_of}
use Rattle.forms.proofs.RowsOf.{look_find}
use Rattle.forms.proofs.table.of_data.Goals as goal

pub returns : goal.returns
returns c =
    let test = is_data c.args.line in
    let e = find_from_yields_List test _ _ c.find.result c.find.ensures.ran (YieldsList-from_slice c.args.table.now cc) (λ x b q k. search rules) in
    ap looked_of e ∙ sym (look_find c.args.table.now test)
