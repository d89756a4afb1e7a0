use Rattle.std.proofs.Common.{◌≡◌, ◌∙◌, ◌++◌, ℕ, List, [], ◌∷◌, length, take, drop, ap}
use Rattle.std.proofs.Math.Seq.{take-append_seam}
use Rattle.ipv4_codec.specs.WrittenHeader.{plain_header}
use Rattle.tcp_codec.specs.WrittenSegment.{segment_octets}
use Rattle.tcp_norm.specs.working.RewrittenSegments.{rewritten}
use Rattle.tcp_norm.proofs.emit.put_rewritten.Goals as goal

pub returns : goal.returns
returns c =
    let s = rewritten c.args.arrival.now c.args.ip.now c.args.passage.now c.args.octets.now in
    let m : take c.write_rewritten-size.result c.write_rewritten-size.new.buf ≡ segment_octets s =
    (λ k. take (c.write_rewritten-size.ensures.size k) (c.write_rewritten-size.ensures.exact k)) ∙ take-append_seam (segment_octets s) (drop c.write_rewritten-size.result c.args.page.now) in
    c.put_anew.ensures ∙ ap (λ (l : List ℕ). (c.args.arrival.now.link.now ++ plain_header c.args.ip.now (length l) ++ l) ∷ []) m
