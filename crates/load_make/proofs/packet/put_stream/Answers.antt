use Rattle.std.proofs.Common.{◌+◌, arith}
use Rattle.std.proofs.lemmas.List.FromFn.{fill_by_all}
use Rattle.load_make.specs.Packets.{octet_at, octets_from}
use Rattle.load_make.proofs.packet.put_stream.Goals as goal

pub returns : goal.returns
unfolding octets_from
returns c = fill_by_all (λ k. octet_at c.args.flow (c.args.offset + k)) c.loop-index.octets 512 0 c.loop-index.invariant.0 (λ k h. c.loop-index.invariant.1 k (omega arith))
