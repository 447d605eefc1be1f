-- `put_number` calls itself for a tenth of the number. Assumes nothing.
use Rattle.text.proofs.numbers.+put_number.Given as goal

abbrev pub decreases-put_number : goal.decreases-put_number
decreases-put_number l = l.n
