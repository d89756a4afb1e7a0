use Rattle.std.proofs.Common.{List}
use Rattle.norm_engine.specs.Fragments.{piece_calls}
use Rattle.norm_engine.specs.Items.{Item}
use Rattle.norm_engine.specs.Calls.{flow_calls}
use Rattle.norm_engine.specs.TraceLaws.{IsSound, IsWithin}
use Rattle.norm_engine.proofs.Traces.{always_within, pieces_answered}
use Rattle.norm_engine.proofs.laws.lawful_is_within.Goals as goal

pub returns : goal.returns
returns c settings link = always_within settings link within
  where
    within : (history : List Item) → IsSound settings link history → IsWithin settings link history
    within history sound =
        let made = c.lawful_calls_are_made.ensures settings link history sound in
        record {
          flows = c.flows_are_bounded.ensures settings (flow_calls settings link history) made.made;
          held = c.held_is_bounded.ensures settings (flow_calls settings link history) made;
          fragments = c.answered_is_within.ensures settings (piece_calls settings link history) (pieces_answered settings link history);
        }
