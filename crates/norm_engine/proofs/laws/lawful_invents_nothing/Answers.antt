use Rattle.norm_engine.proofs.BroughtOctets.{invents_nothing}
use Rattle.norm_engine.proofs.Traces.{rows_are_of_eras}
use Rattle.norm_engine.proofs.laws.lawful_invents_nothing.Goals as goal

pub returns : goal.returns
returns c =
    invents_nothing (record {
      packets = record {
        rows = rows_are_of_eras;
        known = c.datagrams_are_known.ensures;
        own = c.packets_are_its_own.ensures;
        plain = c.packets_are_plain.ensures;
        silent = c.probes_are_silent.ensures;
      };
      made = c.lawful_calls_are_made.ensures;
      remains = c.written_remains.ensures;
      brought = c.octets_are_brought.ensures.new;
      real = c.clashes_are_real.ensures;
    })
