use Rattle.run_laws.proofs.Views.{runs_viewed_whole}
use Rattle.run_laws.proofs.laws.runs_are_viewed_whole.Goals as goal

pub returns : goal.returns
returns c =
    runs_viewed_whole (record {
      read_back = c.runs_are_read_back.ensures;
      clean = c.lawful_keeps_clean.ensures;
      counted = c.items_are_counted.ensures;
      outgoing = c.items_go_out.ensures;
      fit = c.entries_fit.ensures;
      whole = c.plain_packets_go_out.ensures.whole;
      few = c.segments_fit.ensures.few;
      mirror = c.two_put_their_mirror.ensures;
      viewed = c.runs_are_viewed.ensures;
    })
