use Rattle.std.proofs.Common.{◌+◌, ◌∙◌, ap₂, sym, nat_lt}
use Rattle.reassembly.proofs.Order.{first_old}
use Rattle.reassembly.proofs.assembly.Assembly.begins_old.Goals as goal

pub returns : goal.returns
returns c gs h =
    ap₂ nat_lt (ap₂ (λ a b. a + b) c.from.ensures c.from-2.ensures) c.from-3.ensures
    ∙ first_old c.args.self.now.time c.args.now gs c.args.self.now.table.entries c.args.self.now.store c.in-Some.slot c.at.result.now h (sym c.in-Some.ensures.first) c.at.ensures
