use Rattle.tcp_norm.proofs.Quotas.{held_bounded}
use Rattle.tcp_norm.proofs.laws.held_is_bounded.Goals as goal

pub returns : goal.returns
returns c =
    held_bounded (record {
      reads = c.offsets_are_read.ensures;
      places = c.places_are_read.ensures;
      back = c.segments_are_read_back.ensures;
      cleans = c.options_are_cleaned.ensures.octets;
      fits = c.intervals_fit.ensures;
      first = c.first_stays.ensures;
      rises = c.acked_never_falls.ensures;
      unbased = c.unbased_has_no_octet.ensures;
      joins = c.emitted_joins.ensures;
    }) c.calls_are_emitted.ensures
