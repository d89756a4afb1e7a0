use Rattle.std.proofs.Common.{◌≡◌, ◌-◌, length, take, drop, is_ok, ap, sym, ◌∙◌, rules}
use Rattle.std.proofs.lemmas.List.{take_rest}
use Rattle.wire_base.specs.Ipv4 as ip
use Rattle.ipv4_codec.specs.declared.header.Ipv4.{Ipv4}
use Rattle.receiver_model.proofs.PlainPackets.{payload_is, icmp-decides, icmp-message, tcp-message, udp-decides, udp-message, pseudo_is}
use Rattle.receiver_model.proofs.plain_packet.is_plain_message.Goals as goal

pub returns-in-1 : goal.returns-in-1
returns-in-1 c =
    let p = c.args.bytes.now in
    let e : ip.payload p ≡ take (length p - 20) (drop 20 p) = payload_is p c.requires.header ∙ sym (take_rest p 20) in
    icmp-message p (ap (λ (h : Ipv4). h.protocol) (sym c.requires.fields) ∙ search rules) (icmp-decides p _ _ e (c.is_ok.ensures.value ∙ ap is_ok c.parse.ensures.exact))

pub returns-in-6 : goal.returns-in-6
returns-in-6 c =
    let p = c.args.bytes.now in
    let e : ip.payload p ≡ take (length p - 20) (drop 20 p) = payload_is p c.requires.header ∙ sym (take_rest p 20) in
    tcp-message p (ap (λ (h : Ipv4). h.protocol) (sym c.requires.fields) ∙ search rules) (c.is_plain_tcp.ensures p e (pseudo_is p _ c.args.head.now e c.requires.fields ∙ sym c.pseudo_sum-pseudo.ensures))

pub returns-in-17 : goal.returns-in-17
returns-in-17 c =
    let p = c.args.bytes.now in
    let e : ip.payload p ≡ take (length p - 20) (drop 20 p) = payload_is p c.requires.header ∙ sym (take_rest p 20) in
    udp-message p (ap (λ (h : Ipv4). h.protocol) (sym c.requires.fields) ∙ search rules) (udp-decides p _ _ _ e (pseudo_is p _ c.args.head.now e c.requires.fields ∙ sym c.pseudo_sum-pseudo.ensures) (c.is_ok-in-17.ensures.value ∙ ap is_ok c.parse-in-17.ensures.exact))
