-- A search along the rows of the table is the library's. Assumes nothing.
use Rattle.std.proofs.Common.{◌≡◌, refl, Bool, List, [], ◌∷◌, find}
use Rattle.laws.proofs.Passes.{on_test}
use Rattle.forms.specs.Forms.{looked_of, look_in}
use Rattle.forms.specs.declared.rows.Form.{Form}

pub look_find : (fs : List Form) (test : Form → Bool) → look_in fs test ≡ looked_of (find test fs)
unfolding look_in
look_find [] test = refl
look_find (f ∷ fs) test = on_test (test f) (λ e. rw e refl) (λ e. rw e (look_find fs test))
