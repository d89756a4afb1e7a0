use Rattle.std.proofs.Common.{◌∙◌}
use Rattle.reassembly.proofs.Entries.{lengths}
use Rattle.reassembly.proofs.assembly.Assembly.datagrams.Goals as goal

pub returns-clause-number : goal.returns-clause-number
returns-clause-number c settings calls st = c.len.ensures.number ∙ lengths _ _ _ st.keeps.holds.each
