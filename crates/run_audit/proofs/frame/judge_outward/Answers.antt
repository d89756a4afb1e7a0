use Rattle.run_audit.proofs.Ledgers.{era_has_room}
use Rattle.run_audit.proofs.FrameFaults.{noted_outward}
use Rattle.run_audit.proofs.frame.judge_outward.Goals as goal

pub take_outward-requires-clause-room : goal.take_outward-requires-clause-room
take_outward-requires-clause-room c = era_has_room c.acked_grows_near.ensures c.args.eras.now c.args.era c.requires.few

pub returns : goal.returns
returns c hops before stand = noted_outward hops c.args.eras.now c.take_outward.new.eras c.args.era c.args.packet.now c.in-Some.head before c.in-Some.ensures.some stand c.take_outward.ensures
