use Rattle.norm_engine.proofs.Traces.{rows_are_of_eras}
use Rattle.norm_engine.proofs.Payloads.{clean_is_kept}
use Rattle.norm_engine.proofs.laws.lawful_keeps_clean.Goals as goal

pub returns : goal.returns
returns c = clean_is_kept c.datagrams_are_known.ensures c.anew_is_packet.ensures c.packets_are_its_own.ensures c.clean_keeps_payload.ensures rows_are_of_eras
