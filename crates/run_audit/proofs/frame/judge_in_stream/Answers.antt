use Rattle.std.proofs.Common.{refl, rules}
use Rattle.run_audit.proofs.Ledgers.{era_has_room}
use Rattle.run_audit.proofs.FrameFaults.{judged_inward, behind_place}
use Rattle.run_audit.proofs.frame.judge_in_stream.Goals as goal

pub take_inward-requires-clause-room : goal.take_inward-requires-clause-room
take_inward-requires-clause-room c = era_has_room c.acked_grows_near.ensures c.args.eras.now c.args.era c.requires.few

pub returns : goal.returns
returns c =
    judged_inward c.take_inward.result c.args.hops c.args.eras.now c.take_inward.new.eras c.args.era c.args.packet.now c.read_plain-fields.result _ c.requires.plain (search rules) c.read_plain-fields.ensures.fields refl refl (behind_place c.args.packet.now c.read_plain-fields.result.start) c.take_inward.ensures
