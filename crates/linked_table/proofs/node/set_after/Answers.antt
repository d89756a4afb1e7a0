use Rattle.std.proofs.Common.{◌-◌, refl, arith, length-set}
use Rattle.linked_table.proofs.Nodes.{after_in_node, after_in_hub, chain_kept}
use Rattle.linked_table.proofs.node.set_after.Goals as goal

pub returns-then-at-len : goal.returns-then-at-len
returns-then-at-len g c = record {
  number = refl;
  kept = chain_kept c.args.nodes.now.items c.args.hubs.now.items c.args.at _ c.index_mut.ensures.value (omega (arith, c.if-at-len.true)) _;
  links_are = after_in_node c.args.nodes.now.items c.args.hubs.now.items c.args.at _ c.index_mut.ensures.value (omega (arith, c.if-at-len.true)) _;
}

pub returns-else-at-len : goal.returns-else-at-len
returns-else-at-len g c = record {
  number = length-set c.args.hubs.now.items _ _;
  kept = refl;
  links_are = after_in_hub c.args.nodes.now.items c.args.hubs.now.items c.args.at (c.args.at - c.len-else-at-len.result) (omega (arith, c.if-at-len.false)) (omega arith) c.requires _ c.index_mut-else-at-len.ensures.value c.args.after;
}
