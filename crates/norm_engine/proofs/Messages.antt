-- A UDP or ICMP message that no rule drops: length, kind and checksum; a packet with it is plain.
use Rattle.std.proofs.Common.{◌≡◌, ◌⊎◌, inl, inr, ℕ, ◌≤◌, Bool, true, false, ◌&&◌, ◌||◌, ◌==◌, not, ◌++◌, length, None, refl, sym, ap, ◌∙◌, subst, arith, cond}
use Rattle.std.specs.List.{AllByRecursion}
use Rattle.std.proofs.lemmas.Bool.{and_right, eqb-true, ltb-false, not-false}
use Rattle.wire_base.specs.Ipv4 as ip
use Rattle.wire_base.specs.Icmp as kinds
use Rattle.wire_base.specs.Udp as udp
use Rattle.wire_base.specs.Checksums.{sum_is_right, pseudo_sum}
use Rattle.wire_base.specs.Plain.{Plain, IsPlainUdp, IsPlainIcmp}
use Rattle.udp_codec.specs.WrittenChecksum.{mended}
use Rattle.rule_book.specs.Rules.{datagram_rows}
use Rattle.norm_settings.specs.SettingValues.{PlainSettings}
use Rattle.ip_rules.specs.Datagrams.{Datagram, Packet, IsPacketOf, IsKnown, goes_in}
use Rattle.ip_rules.proofs.Lists.{none_found}
use Rattle.dgram_rules.specs.RuleRows as dgram
use Rattle.dgram_rules.specs.RuleRows.{holds_dgram, dgram_dropped_by, is_error, is_query}
use Rattle.norm_engine.specs.MessageFrames.{octets_sent}
use Rattle.norm_engine.proofs.Frames.{carried_fails}

-- UDP and ICMP

-- a message of one of them, whose datagram no rule drops
pub record IsMessage (d : Datagram) : Type 0 where
  pub protocol : (d.head.protocol ≡ 1) ⊎ (d.head.protocol ≡ 17)
  pub icmp : d.head.protocol ≡ 1 → (8 ≤ length d.octets) × (sum_is_right d.octets 0 ≡ true)
  pub kind : d.head.protocol ≡ 1 → (is_error (kinds.kind d.octets) || is_query (kinds.kind d.octets)) ≡ true
  pub udp : d.head.protocol ≡ 17 → (8 ≤ length d.octets) × (udp.length_field d.octets ≡ length d.octets) × ((udp.checksum d.octets ≡ 0) ⊎ (sum_is_right d.octets (dgram.pseudo_of d) ≡ true))

pub plain_message : (settings : PlainSettings) (d : Datagram) (p : Packet) → IsPacketOf settings d p → goes_in d.side ≡ true → p.octets ≡ d.octets → IsMessage d → Plain settings.hops (p.header ++ p.octets)
plain_message settings d p i side same m = record {
  header = i.header;
  passes = i.passes side;
  message = record { protocol = which m.protocol; icmp = icmp; tcp = λ f. absurd (no_tcp m.protocol f); udp = udp_part };
}
  where
    forth : ip.payload (p.header ++ p.octets) ≡ d.octets
    forth = i.carries ∙ same

    back : d.octets ≡ ip.payload (p.header ++ p.octets)
    back = sym forth

    which : (d.head.protocol ≡ 1) ⊎ (d.head.protocol ≡ 17) → (ip.protocol (p.header ++ p.octets) ≡ 1) ⊎ (ip.protocol (p.header ++ p.octets) ≡ 6) ⊎ (ip.protocol (p.header ++ p.octets) ≡ 17)
    which (inl e) = inl (i.protocol ∙ e)
    which (inr e) = inr (inr (i.protocol ∙ e))

    no_tcp : (d.head.protocol ≡ 1) ⊎ (d.head.protocol ≡ 17) → ip.protocol (p.header ++ p.octets) ≡ 6 → ⊥
    no_tcp (inl e) f = let g = sym e ∙ (sym i.protocol ∙ f) in omega (arith, g)
    no_tcp (inr e) f = let g = sym e ∙ (sym i.protocol ∙ f) in omega (arith, g)

    icmp : ip.protocol (p.header ++ p.octets) ≡ 1 → IsPlainIcmp (p.header ++ p.octets)
    icmp f =
        let parts = m.icmp (sym i.protocol ∙ f) in
        record { whole_header = subst (λ xs. 8 ≤ length xs) back parts.0; sum = subst (λ xs. sum_is_right xs 0 ≡ true) back parts.1 }

    udp_part : ip.protocol (p.header ++ p.octets) ≡ 17 → IsPlainUdp (p.header ++ p.octets)
    udp_part f =
        let parts = m.udp (sym i.protocol ∙ f) in
        record {
          whole_header = subst (λ xs. 8 ≤ length xs) back parts.0;
          size = subst (λ xs. udp.length_field xs ≡ length xs) back parts.1;
          sum = summed parts.2;
        }
      where
        summed : (udp.checksum d.octets ≡ 0) ⊎ (sum_is_right d.octets (dgram.pseudo_of d) ≡ true)
            → (udp.checksum (ip.payload (p.header ++ p.octets)) ≡ 0)
            ⊎ (sum_is_right (ip.payload (p.header ++ p.octets)) (pseudo_sum (ip.source (p.header ++ p.octets)) (ip.destination (p.header ++ p.octets)) (ip.protocol (p.header ++ p.octets)) (length (ip.payload (p.header ++ p.octets)))) ≡ true)
        summed (inl e) = inl (ap udp.checksum forth ∙ e)
        summed (inr e) = inr ((λ k. sum_is_right (forth k) (pseudo_sum (i.source k) (i.destination k) (i.protocol k) (length (forth k)))) ∙ e)

is_number : (n m : ℕ) → n ≡ m → (n == m) ≡ true
is_number n m e = subst (λ k. (n == k) ≡ true) e (same n)
  where
    same : (n : ℕ) → (n == n) ≡ true
    same n = grind (arith)

-- a checksum that no rule drops inwards
sum_right : (checked right in_side offload : Bool) → in_side ≡ true → ((not checked && not right) && not (not in_side && offload)) ≡ false → (checked ≡ true) ⊎ (right ≡ true)
sum_right true right in_side offload side h = inl refl
sum_right false true in_side offload side h = inr refl
sum_right false false true offload side h = absurd (cc)
sum_right false false false offload side h = absurd (cc)

of_protocol : (one six seventeen : Bool) → (one || six || seventeen) ≡ true → six ≡ false → (one ≡ true) ⊎ (seventeen ≡ true)
of_protocol true six seventeen h other = inl refl
of_protocol false false true h other = inr refl
of_protocol false false false h other = absurd (cc)
of_protocol false true seventeen h other = absurd (cc)

pub message_of : (settings : PlainSettings) (live : Bool) (d : Datagram) → IsKnown settings d → goes_in d.side ≡ true → (d.head.protocol == 6) ≡ false → dgram_dropped_by settings live d ≡ None → IsMessage d
unfolding dgram_dropped_by
message_of settings live d known side other none = record {
  protocol = which (of_protocol (d.head.protocol == 1) (d.head.protocol == 6) (d.head.protocol == 17) known.known other);
  icmp = λ e.
      let is = is_number d.head.protocol 1 e in
      (ltb-false (length d.octets) 8 (carried_fails (d.head.protocol == 1) _ rows.1.1.1.0 is), not-false _ (carried_fails (d.head.protocol == 1) _ rows.1.1.1.1.0 is));
  kind = λ e. not-false _ (carried_fails (d.head.protocol == 1) _ rows.1.1.1.1.1.0 (is_number d.head.protocol 1 e));
  udp = λ e.
      let is = is_number d.head.protocol 17 e in (
        ltb-false (length d.octets) 8 (carried_fails (d.head.protocol == 17) _ rows.0 is),
        eqb-true (udp.length_field d.octets) (length d.octets) (not-false _ (carried_fails (d.head.protocol == 17) _ rows.1.0 is)),
        summed (sum_right (udp.checksum d.octets == 0) (sum_is_right d.octets (dgram.pseudo_of d)) (goes_in d.side) settings.offload side (carried_fails (d.head.protocol == 17) _ rows.1.1.0 is)),
      );
}
  where
    rows : AllByRecursion (λ rule. holds_dgram settings live d rule ≡ false) datagram_rows
    rows = none_found (holds_dgram settings live d) datagram_rows none

    which : ((d.head.protocol == 1) ≡ true) ⊎ ((d.head.protocol == 17) ≡ true) → (d.head.protocol ≡ 1) ⊎ (d.head.protocol ≡ 17)
    which (inl e) = inl (eqb-true d.head.protocol 1 e)
    which (inr e) = inr (eqb-true d.head.protocol 17 e)

    summed : ((udp.checksum d.octets == 0) ≡ true) ⊎ (sum_is_right d.octets (dgram.pseudo_of d) ≡ true) → (udp.checksum d.octets ≡ 0) ⊎ (sum_is_right d.octets (dgram.pseudo_of d) ≡ true)
    summed (inl e) = inl (eqb-true (udp.checksum d.octets) 0 e)
    summed (inr e) = inr e

-- what is written inwards of such a datagram is what was read
pub sent_is_read : (settings : PlainSettings) (d : Datagram) → goes_in d.side ≡ true → octets_sent settings d ≡ d.octets
sent_is_read settings d side =
    ap (λ b. cond ((d.head.protocol == 17) && ((not b && settings.offload) && dgram.has_wrong_sum d)) (mended (dgram.pseudo_of d) d.octets) d.octets) side
    ∙ ap (λ b. cond b (mended (dgram.pseudo_of d) d.octets) d.octets) (and_right (d.head.protocol == 17) false refl)
