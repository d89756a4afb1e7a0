use Rattle.std.proofs.Common.{◌≡◌, ◌+◌, ◌++◌, length, drop, ap, ◌∙◌, arith}
use Rattle.wire_base.specs.Numbers.{with_u16}
use Rattle.wire_base.specs.Checksums.{checksum_for, pseudo_sum, word_sum}
use Rattle.tcp_codec.specs.WrittenSegment.{octets_with, pseudo_of, segment_of}
use Rattle.tcp_codec.proofs.write.write_segment.Goals as goal

pub returns-clause-exact : goal.returns-clause-exact
returns-clause-exact c =
    let parts = c.args.parts.now in
    let payload = c.args.payload.now in
    let s = segment_of parts payload in
    let size : 20 + c.len.result + length payload ≡ 20 + length parts.options.items + length payload = omega arith in
    let before : c.pseudo_sum.result ≡ pseudo_of s = c.pseudo_sum.ensures ∙ ap (pseudo_sum parts.src.0 parts.dst.0 6) size in
    let sum : c.sum_for-sum.result ≡ checksum_for (pseudo_of s + word_sum (octets_with s 0)) = c.sum_for-sum.ensures ∙ (λ i. checksum_for (before i + word_sum (c.put_parts.ensures i))) in
    let segment = c.put_u16.ensures ∙ ap (λ octets. with_u16 octets 16 c.sum_for-sum.result) c.put_parts.ensures ∙ ap (octets_with s) sum in
    ap (λ octets. octets ++ drop (20 + c.len.result + length payload) c.args.buf.now) segment
