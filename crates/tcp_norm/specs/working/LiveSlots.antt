-- A live era, as the table has it in a slot (this project's profile).
use Rattle.wire_base.specs.declared.address.FlowKey.{FlowKey}
use Rattle.linked_table.specs.declared.table.Slot.{Slot}
use Rattle.tcp_norm.specs.declared.key.Flow.{Flow}

-- the live era of the connection of this key: its slot, and its value there
pub record Live : Type 0 where
  pub key : FlowKey
  pub slot : Slot
  pub flow : Flow
