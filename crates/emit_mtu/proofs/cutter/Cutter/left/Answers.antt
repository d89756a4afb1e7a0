use Rattle.std.proofs.Common.{◌+◌, ◌-◌, ◌/◌, ◌%◌, min, length, sym, ap, ap₂, ◌∙◌}
use Rattle.emit_mtu.proofs.Segments.{count-left}
use Rattle.emit_mtu.proofs.cutter.Cutter.left.Goals as goal

pub returns : goal.returns
returns c =
    let room = c.self.inside.room in
    let count = c.div_ceil.ensures ∙ ap (λ n. n / room + min 1 (n % room)) c.payload_size.ensures in
    ap₂ (λ a b. a - b) count c.from.ensures ∙ sym (count-left room c.self.inside.index c.self.inside.parts) ∙ ap length c.self.view_is
