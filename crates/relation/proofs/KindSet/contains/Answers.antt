-- `KindSet::contains` meets its contract: what it reads of the word is the word's bit. Assumes nothing.
use Rattle.std.proofs.Common.{ℕ, ap, eqb, ◌%◌, ◌/◌, ◌^◌}
use Rattle.relation.specs.Bit.{holds, on}
use Rattle.relation.proofs.BitLaws.{and_one}
use Rattle.relation.proofs.KindSet.contains.Goals as goal

pub returns : goal.returns
unfolding holds on
returns c = simp and_one (ap (λ (w : ℕ). eqb (w / 2 ^ (c.args.kind % 64) % 2) 1) c.word.ensures)
