-- `in656_master_words` puts the words that its table holds. Assumes nothing.
use Rattle.std.proofs.Common.{refl}
use Rattle.in656.specs.Words.{master_table, master_words}
use Rattle.in656.proofs.Tables.{between, behind, worded-by}
use Rattle.in656.proofs.words.in656_master_words.Goals as goal

pub returns : goal.returns
unfolding master_words between behind
returns c = worded-by master_table _ _ _ _ _ _ refl c.put_words.ensures c.words_in.ensures
