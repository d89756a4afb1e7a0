use Rattle.tcp_norm.proofs.BroughtOctets.{new_is_brought, nothing_is_invented}
use Rattle.tcp_norm.proofs.laws.octets_are_brought.Goals as goal

pub returns-clause-new : goal.returns-clause-new
returns-clause-new c =
    new_is_brought (record {
      below = record {
        joins = c.emitted_joins.ensures;
        remains = c.written_remains.ensures;
        reads = c.offsets_are_read.ensures;
        back = c.segments_are_read_back.ensures;
        same = c.mended_say_the_same.ensures;
        cleans = c.options_are_cleaned.ensures.octets;
      };
      fits = c.intervals_fit.ensures;
      emitted = c.calls_are_emitted.ensures;
    })

pub returns-clause-all : goal.returns-clause-all
returns-clause-all c =
    nothing_is_invented (record {
      below = record {
        joins = c.emitted_joins.ensures;
        remains = c.written_remains.ensures;
        reads = c.offsets_are_read.ensures;
        back = c.segments_are_read_back.ensures;
        same = c.mended_say_the_same.ensures;
        cleans = c.options_are_cleaned.ensures.octets;
      };
      fits = c.intervals_fit.ensures;
      emitted = c.calls_are_emitted.ensures;
    })
