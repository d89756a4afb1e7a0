use Rattle.std.proofs.Common.{◌≡◌, ◌+◌, ◌*◌, ◌∷◌, take, drop, sym, ap, ◌∙◌, arith, take_at}
use Rattle.emit_mtu.specs.Segments.{segment_of, segments_from}
use Rattle.emit_mtu.proofs.Segments.{next-left, none-left, within}
use Rattle.emit_mtu.proofs.cutter.Cutter.next.Goals as goal

pub returns-then-payload_size-self-clause-last : goal.returns-then-payload_size-self-clause-last
returns-then-payload_size-self-clause-last c =
    sym c.self.view_is
    ∙ none-left c.self.inside.room c.self.inside.index c.self.inside.parts c.self.invariant.some
    (omega (arith, c.payload_size.ensures, ap (λ n. c.self.inside.room * n) c.from.ensures, c.if-payload_size-self.true))

pub returns-then-payload_size-self-clause-stays : goal.returns-then-payload_size-self-clause-stays
returns-then-payload_size-self-clause-stays c =
    sym c.self.view_is
    ∙ none-left c.self.inside.room c.self.inside.index c.self.inside.parts c.self.invariant.some
    (omega (arith, c.payload_size.ensures, ap (λ n. c.self.inside.room * n) c.from.ensures, c.if-payload_size-self.true))

pub invariant_of-self : goal.invariant_of-self
invariant_of-self c =
    let reached = within c.self.inside.room c.self.inside.index c.self.inside.parts c.self.invariant.some (omega (arith, c.payload_size.ensures, ap (λ n. c.self.inside.room * n) c.from.ensures, c.if-payload_size-self.false)) in
    record { sized = c.self.invariant.sized; some = c.self.invariant.some; reached = omega (arith, reached) }

pub returns-clause-next : goal.returns-clause-next
returns-clause-next c =
    let segment = segment_of c.self.inside.room c.self.inside.parts c.self.inside.index in
    let front : take c.write_segment-size.result c.write_segment-size.new.buf ≡ segment = ap (take c.write_segment-size.result) c.write_segment-size.ensures.exact ∙ take_at segment (drop c.write_segment-size.result c.args.buf.now) c.write_segment-size.result (sym c.write_segment-size.ensures.size) in
    sym c.self.view_is
    ∙ next-left c.self.inside.room c.self.inside.index c.self.inside.parts c.self.invariant.some
    (omega (arith, c.payload_size.ensures, ap (λ n. c.self.inside.room * n) c.from.ensures, c.if-payload_size-self.false))
    ∙ ap (λ frame. frame ∷ segments_from (c.self.inside.index + 1) c.self.inside.room c.self.inside.parts) (sym front)
