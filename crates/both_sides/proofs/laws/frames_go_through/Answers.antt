use Rattle.both_sides.specs.Traces.{mirrored}
use Rattle.both_sides.proofs.FirstEngine.{FrameLaws, frames_relay, goes_through}
use Rattle.both_sides.proofs.laws.frames_go_through.Goals as goal

pub returns : goal.returns
returns c = λ settings link trace mirror sound.
    let laws : FrameLaws = record {
      known = c.datagrams_are_known.ensures;
      fresh = c.anew_is_packet.ensures;
      own = c.packets_are_its_own.ensures;
      plain = c.packets_are_plain.ensures;
    } in
    let clean = c.lawful_keeps_clean.ensures (mirrored settings) link mirror (record { hops = sound.hops; octets = sound.frames; lawful = sound.lawful.second }) in
    goes_through settings link trace mirror sound.upright (frames_relay laws settings link trace sound.hops sound.octets sound.sideless sound.lawful.first)
    sound.lawful.second clean sound.lawful.handed
