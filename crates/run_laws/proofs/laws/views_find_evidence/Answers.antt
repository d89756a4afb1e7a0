use Rattle.run_laws.proofs.Evidence.{views_find_evidence}
use Rattle.run_laws.proofs.laws.views_find_evidence.Goals as goal

pub returns : goal.returns
returns c =
    views_find_evidence (record {
      views = record {
        read_back = c.runs_are_read_back.ensures;
        clean = c.lawful_keeps_clean.ensures;
        counted = c.items_are_counted.ensures;
        outgoing = c.items_go_out.ensures;
        fit = c.entries_fit.ensures;
        whole = c.plain_packets_go_out.ensures.whole;
        few = c.segments_fit.ensures.few;
        mirror = c.two_put_their_mirror.ensures;
        viewed = c.runs_are_viewed.ensures;
      };
      one = c.items_are_one.ensures;
      choose = c.conditions_choose.ensures;
      read = c.unchanged_captures_were_read_so.ensures;
    })
