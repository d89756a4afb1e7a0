use Rattle.norm_engine.proofs.WrittenFrames.{plain_written, short_written, clean_written, each_goes, none_long}
use Rattle.norm_engine.proofs.WrittenReceivers.{StreamLaws, agree_as_written, always_misses, reads_as_written}
use Rattle.norm_engine.proofs.laws.lawful_is_written_soundly.Goals as goal

pub returns : goal.returns
returns c settings link trace range sound octets =
    let plain = c.plain_packets_go_out.ensures in
    let each = each_goes c.items_go_out.ensures settings link trace sound in
    let streams : StreamLaws = record {
      agree = c.lawful_agrees.ensures;
      tells = c.lawful_tells_streams.ensures;
      near = c.lawful_stays_near_acks.ensures;
      alike = plain.alike;
      cut = c.cut_packets_tell_one_stream.ensures.stream;
      cut_acks = c.cut_packets_tell_one_stream.ensures.acks;
      members = c.members_agree.ensures;
      of = c.lawful_reads_one_stream.ensures.frames;
      cut_of = c.cut_packets_are_of_the_stream.ensures;
      parts = c.members_read_parts.ensures;
      monitors = c.monitors_miss_nothing.ensures;
    } in
    record {
      clean_kept = clean_written c.segments_carry_the_payload.ensures plain.whole settings link trace range.mtu each octets (c.lawful_keeps_clean.ensures settings link trace sound);
      within = c.lawful_is_within.ensures settings link trace sound;
      agree = agree_as_written streams settings link trace range.mtu sound each octets;
      reads = reads_as_written streams settings link trace range.mtu sound each octets;
      monitor = always_misses streams settings link trace range.mtu sound each octets;
      none_long = none_long c.segments_fit.ensures.all plain.whole settings.mtu link trace range.mtu each octets;
      plain = plain_written c.segments_are_plain.ensures plain.whole settings.mtu settings.hops link trace range.mtu each octets (c.lawful_is_plain_inwards.ensures settings link trace sound);
      short = short_written c.segments_fit.ensures.fit plain.whole settings.mtu link trace range.mtu each octets (c.lawful_is_short.ensures settings link trace sound);
    }
