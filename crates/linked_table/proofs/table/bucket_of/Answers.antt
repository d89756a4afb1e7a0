use Rattle.std.proofs.Common.{refl, arith}
use Rattle.linked_table.specs.working.SoundTable.{bucket_number}
use Rattle.linked_table.proofs.Nodes.{bucket_below}
use Rattle.linked_table.proofs.table.bucket_of.Goals as goal

pub returns-clause-number : goal.returns-clause-number
unfolding bucket_number
returns-clause-number g c = rw c.hash_under-hash.ensures refl

pub returns-clause-inside : goal.returns-clause-inside
unfolding bucket_number
returns-clause-inside g c = omega (arith, bucket_below c.hash_under-hash.result c.args.buckets (omega arith))
