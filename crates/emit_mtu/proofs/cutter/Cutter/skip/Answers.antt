use Rattle.std.proofs.Common.{◌≡◌, ℕ, ◌+◌, ◌≤◌, List, drop, length, sym, ap, ◌∙◌, arith}
use Rattle.emit_mtu.specs.FrameParts.{Parts}
use Rattle.emit_mtu.specs.Segments.{count_of, segments_from}
use Rattle.emit_mtu.proofs.Segments.{count-left, few_parts, skip-left}
use Rattle.emit_mtu.proofs.cutter.Cutter.skip.Goals as goal

reached : (room index count : ℕ) (parts : Parts) (left : List (List ℕ)) → segments_from index room parts ≡ left → count ≤ length left → index ≤ count_of room parts
    → index + count ≤ count_of room parts
reached room index count parts left is within before =
    let size = ap length is in
    let all = count-left room index parts in
    omega (arith, size, all, within, before)

pub overflow_add-self : goal.overflow_add-self
overflow_add-self c =
    let room = c.self.inside.room in
    let parts = c.self.inside.parts in
    let sized = c.self.invariant.sized in
    let few = few_parts room parts c.self.invariant.some (omega (arith, sized.packet)) in
    let most = reached room c.self.inside.index c.args.count parts c.args.self.now c.self.view_is c.requires c.self.invariant.reached in
    omega (arith, few, most)

pub invariant_of-self : goal.invariant_of-self
invariant_of-self c =
    let most = reached c.self.inside.room c.self.inside.index c.args.count c.self.inside.parts c.args.self.now c.self.view_is c.requires c.self.invariant.reached in
    record { sized = c.self.invariant.sized; some = c.self.invariant.some; reached = most }

pub returns : goal.returns
returns c = sym (skip-left c.self.inside.room c.self.inside.index c.args.count c.self.inside.parts) ∙ ap (drop c.args.count) c.self.view_is
