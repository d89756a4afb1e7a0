use Rattle.norm_engine.proofs.Traces.{rows_are_of_eras}
use Rattle.norm_engine.proofs.ItemEntries.{rules_are_few}
use Rattle.norm_engine.proofs.ItemFrames.{frames_go_out}
use Rattle.norm_engine.proofs.laws.items_go_out.Goals as goal

pub returns : goal.returns
returns c settings link history r hops older octets =
    let clean = c.options_are_cleaned.ensures in
    let frames = frames_go_out rows_are_of_eras c.datagrams_are_known.ensures c.anew_is_packet.ensures (record {
      back = c.segments_are_read_back.ensures;
      octets = clean.octets;
      once = clean.once;
      formed = clean.formed;
      mends = c.mended_say_the_same.ensures;
      own = c.packets_are_its_own.ensures;
    }) settings link history r hops older octets in
    record { each = frames.each; of_era = frames.of_era; behind = frames.behind; few = rules_are_few rows_are_of_eras settings link history r }
