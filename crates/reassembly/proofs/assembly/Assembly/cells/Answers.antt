use Rattle.std.proofs.Common.{◌∙◌, sym, arith}
use Rattle.reassembly.proofs.Entries.{held_is}
use Rattle.reassembly.proofs.assembly.Assembly.cells.Goals as goal

pub returns-clause-number : goal.returns-clause-number
returns-clause-number c settings calls st =
    let total = held_is _ _ _ _ st.keeps.holds (st.keeps.opened.chains ∙ sym st.keeps.opened.datagrams) c.len-count.ensures.slots_below c.len-count.ensures.slots_apart in
    omega (arith, total, c.free.ensures.total, c.free.ensures.value, c.saturating_sub.ensures, st.keeps.opened.cells, st.keeps.opened.store)
