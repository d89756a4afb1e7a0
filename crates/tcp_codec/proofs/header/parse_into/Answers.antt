use Rattle.std.proofs.Common.{◌≡◌, ◌-◌, ◌*◌, ◌&&◌, not, true, false, take, drop, Ok, refl, ap, sym, ◌∙◌, arith}
use Rattle.wire_base.specs.Tcp as tcp
use Rattle.wire_base.specs.Checksums.{sum_is_right}
use Rattle.wire_base.specs.Options.{are_well_formed}
use Rattle.tcp_codec.specs.HeaderFields.{fields_of, is_judged}
use Rattle.tcp_codec.proofs.Segments.{area_is, parsed-options}
use Rattle.tcp_codec.proofs.header.parse_into.Goals as goal

pub returns-then-not-are_well_formed-clause-exact : goal.returns-then-not-are_well_formed-clause-exact
returns-then-not-are_well_formed-clause-exact c =
    let m = c.args.bytes.now in
    let header : tcp.header_length m ≡ 4 * c.from-header.result = ap (λ n. 4 * n) (sym c.from-header.ensures) in
    let judged : (is_judged c.args.rule && not (sum_is_right m c.args.pseudo)) ≡ false =
    ap (λ right. is_judged c.args.rule && not right) (sym c.sum_right-right.ensures) ∙ sym c.refuses.ensures ∙ c.if-refuses.false in
    sym (parsed-options c.args.rule c.args.pseudo m (fields_of c.args.pseudo m) false refl (omega arith) (omega arith) (omega arith) judged
    (sym c.are_legal.ensures ∙ c.if-not-are_legal.false)
    (ap (λ h. are_well_formed (take (h - 20) (drop 20 m))) header ∙ sym c.are_well_formed.ensures ∙ c.if-not-are_well_formed.true))

pub returns-clause-exact : goal.returns-clause-exact
returns-clause-exact c =
    let m = c.args.bytes.now in
    let header : tcp.header_length m ≡ 4 * c.from-header.result = ap (λ n. 4 * n) (sym c.from-header.ensures) in
    let judged : (is_judged c.args.rule && not (sum_is_right m c.args.pseudo)) ≡ false =
    ap (λ right. is_judged c.args.rule && not right) (sym c.sum_right-right.ensures) ∙ sym c.refuses.ensures ∙ c.if-refuses.false in
    ap Ok (c.store_fields.ensures c.args.pseudo c.sum_right-right.ensures) ∙
    sym (parsed-options c.args.rule c.args.pseudo m (fields_of c.args.pseudo m) true refl (omega arith) (omega arith) (omega arith) judged
    (sym c.are_legal.ensures ∙ c.if-not-are_legal.false)
    (ap (λ h. are_well_formed (take (h - 20) (drop 20 m))) header ∙ sym c.are_well_formed.ensures ∙ c.if-not-are_well_formed.false))

pub returns-clause-options : goal.returns-clause-options
returns-clause-options c =
    let header : 4 * c.from-header.result ≡ tcp.header_length c.args.bytes.now = ap (λ n. 4 * n) c.from-header.ensures in
    ap are_well_formed (sym (area_is c.args.bytes.now _ header c.if-header-lt-HEADER.false)) ∙ sym c.are_well_formed.ensures ∙ c.if-not-are_well_formed.false

pub returns-clause-area : goal.returns-clause-area
returns-clause-area c =
    let header : c.store_fields.new.head.header ≡ tcp.header_length c.args.bytes.now = ap (λ h. h.header) (c.store_fields.ensures c.args.pseudo c.sum_right-right.ensures) in
    area_is c.args.bytes.now _ header (omega arith)
