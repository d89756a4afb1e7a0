use Rattle.std.proofs.Common.{◌≡◌, ◌∙◌, ◌∷◌, length, Some, sym, subst, arith, ap}
use Rattle.std.specs.List.{AllByRecursion}
use Rattle.std.proofs.lemmas.List.Elements.{recursion_from_All}
use Rattle.linked_table.specs.EntryTable as table
use Rattle.tcp_norm.specs.declared.key.Flow.{Flow}
use Rattle.tcp_norm.specs.declared.key.EraKey.{EraKey}
use Rattle.rule_book.specs.declared.entry.Reason.TheVariants as reasons
use Rattle.linked_table.proofs.Lists.{all_after}
use Rattle.tcp_norm.proofs.SpareEras.{ended_at, found, first_is}
use Rattle.tcp_norm.proofs.EraTable.{at_slot}
use Rattle.tcp_norm.proofs.Lists.{none_left, shorter}
use Rattle.tcp_norm.proofs.state.TcpNorm.evict.Goals as goal

pub flow_at-flow-requires : goal.flow_at-flow-requires
flow_at-flow-requires c = (found c.args.self.now.store c.args.self.now.table.entries _ c.args.self.now.spare_listed (Some c.args.slot) c.requires).inside

pub end-requires : goal.end-requires
end-requires c = (found c.args.self.now.store c.args.self.now.table.entries _ c.args.self.now.spare_listed (Some c.args.slot) c.requires).inside

pub returns-clause-evicts : goal.returns-clause-evicts
returns-clause-evicts c lives segments h =
    let self = c.args.self.now in
    let flow = c.flow_at-flow.result.now in
    let valued = c.flow_at-flow.ensures.value in
    let first = found self.store self.table.entries _ self.spare_listed (Some c.args.slot) c.requires in
    let P : table.Entry EraKey Flow → Type 0 = λ e. e.slot ≡ c.args.slot → e.value ≡ flow in
    let is : first.entry.value ≡ flow =
    (all_after P first.before (first.entry ∷ first.after) (subst (AllByRecursion P) first.splits (recursion_from_All P self.table.entries valued))).0 first.named in
    let at = at_slot lives segments _ self.table.entries self.store c.args.slot flow h first.inside c.entries_are_apart.ensures.slots_apart c.entries_are_apart.ensures.keys_apart valued in
    let told = c.octets-octets.ensures.list (segments flow.number) at.era in
    record {
      answer = sym (first_is lives segments _ self.table.entries self.store first.before first.entry first.after h first.splits first.earlier first.passes
          ∙ (ap (λ (f : Flow). Some (ended_at segments f.number)) is ∙ ap (λ n. Some (record { era = flow.number; reason = reasons.Evicted; octets = Some n })) (sym told)));
      given = at.given;
      left = c.end.ensures.holds lives segments flow h valued;
    }

pub returns-clause-absent : goal.returns-clause-absent
returns-clause-absent c key none = rw c.end.ensures.left (none_left c.args.self.now.table.entries _ key none)

pub returns-clause-room : goal.returns-clause-room
returns-clause-room c =
    let first = found c.args.self.now.store c.args.self.now.table.entries _ c.args.self.now.spare_listed (Some c.args.slot) c.requires in
    let less = shorter c.args.self.now.table.entries _ first.inside c.entries_are_apart.ensures.slots_apart c.entries_are_apart.ensures.keys_apart in
    omega (arith, less, ap length c.end.ensures.left, c.entries_are_apart.ensures.bounded, c.end.ensures.max)
