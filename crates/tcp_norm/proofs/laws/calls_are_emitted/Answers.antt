use Rattle.tcp_norm.proofs.EmittedCalls.{calls_are_emitted}
use Rattle.tcp_norm.proofs.laws.calls_are_emitted.Goals as goal

pub returns : goal.returns
returns c =
    calls_are_emitted (record {
      joins = c.emitted_joins.ensures;
      remains = c.written_remains.ensures;
      reads = c.offsets_are_read.ensures;
      back = c.segments_are_read_back.ensures;
      same = c.mended_say_the_same.ensures;
      cleans = c.options_are_cleaned.ensures.octets;
    })
