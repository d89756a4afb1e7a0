use Rattle.std.proofs.Common.{◌≡◌, ◌+◌, ap, ap₂, ◌∙◌}
use Rattle.wire_base.specs.Numbers.{with_u16}
use Rattle.wire_base.specs.Checksums.{word_sum, checksum_for, sum_is_right}
use Rattle.tcp_codec.specs.MendedSegment.{mended}
use Rattle.tcp_codec.proofs.Segments.{sum_is_right-mended, written_once}
use Rattle.tcp_codec.proofs.write.mend.Goals as goal

pub returns-clause-exact : goal.returns-clause-exact
returns-clause-exact c =
    let sum = c.sum_for-sum.ensures ∙ ap (λ l. checksum_for (c.args.pseudo + word_sum l)) c.put_u16.ensures in
    c.put_u16-2.ensures ∙ (ap₂ (λ l n. with_u16 l 16 n) c.put_u16.ensures sum ∙ written_once c.args.bytes.now 0 (checksum_for (c.args.pseudo + word_sum (with_u16 c.args.bytes.now 16 0))) c.requires)

pub returns-clause-right : goal.returns-clause-right
returns-clause-right c =
    let sum = c.sum_for-sum.ensures ∙ ap (λ l. checksum_for (c.args.pseudo + word_sum l)) c.put_u16.ensures in
    let exact : c.put_u16-2.new.bytes ≡ mended c.args.pseudo c.args.bytes.now =
    c.put_u16-2.ensures ∙ (ap₂ (λ l n. with_u16 l 16 n) c.put_u16.ensures sum ∙ written_once c.args.bytes.now 0 (checksum_for (c.args.pseudo + word_sum (with_u16 c.args.bytes.now 16 0))) c.requires) in
    ap (λ l. sum_is_right l c.args.pseudo) exact ∙ sum_is_right-mended c.args.pseudo c.args.bytes.now c.requires
