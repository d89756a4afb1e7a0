-- No rule of the second engine drops or changes a plain packet that the first passed inwards, or a
-- frame of ARP.
use Rattle.std.proofs.Common.{◌≡◌, ℕ, ◌&&◌, ◌||◌, ◌==◌, not, Bool, true, false, cond, List, [], ◌∷◌, Option, Some, None, find, filter, refl, sym, ap, ◌∙◌, ◌⊎◌, inl, inr, nat_lt, nat_le, ◌++◌, length, take, drop, is_none, ap₂, subst, eq-eqb, le-ltb, eqb-true, option_map}
use Rattle.std.specs.List.{AllByRecursion}
use Rattle.std.specs.Option.{option_or}
use Rattle.std.proofs.Math.Nat.{le_refl}
use Rattle.std.proofs.lemmas.List.{drop-take}
use Rattle.std.proofs.lemmas.Bool.{and_right, or_from}
use Rattle.wire_base.specs.declared.address.Link.{Link}
use Rattle.wire_base.specs.declared.address.Side.TheVariants.{Inward, Outward}
use Rattle.wire_base.specs.Ipv4 as ip
use Rattle.wire_base.specs.Udp as udp
use Rattle.wire_base.specs.Icmp as icmp
use Rattle.wire_base.specs.Tcp as tcp
use Rattle.wire_base.specs.Options.{are_well_formed, has_route}
use Rattle.wire_base.specs.Checksums.{sum_is_right, pseudo_sum}
use Rattle.wire_base.specs.Plain.{Plain}
use Rattle.wire_base.specs.Frames.{packet_in}
use Rattle.ipv4_codec.specs.declared.header.Ipv4.{Ipv4}
use Rattle.icmp_codec.specs.QuotedPacket.{quoted_in}
use Rattle.pcap_file.specs.Records.{Packet}
use Rattle.rule_book.specs.declared.rule.Rule.{Rule}
use Rattle.rule_book.specs.declared.rule.Rule.TheVariants as rules
use Rattle.rule_book.specs.Rules.{datagram_rows, segment_rows}
use Rattle.norm_settings.specs.SettingValues.{PlainSettings}
use Rattle.norm_settings.specs.Side.{is_listed, side_by}
use Rattle.ip_rules.specs.RuleRows.{carries_ip, carries_arp, i_dst, i_src, side_in, is_inward, holds_ip, holds_in, packet_drop_rows, ip_drop_rows, whole_fix_rows, piece_fix_rows, ip_dropped_by, ip_fixes, l_short, l_type}
use Rattle.ip_rules.specs.Datagrams.{Datagram, datagram_of, datagram_in}
use Rattle.dgram_rules.specs.RuleRows.{pseudo_of, has_wrong_sum, is_offloaded, is_error, is_query, holds_dgram, dgram_dropped_by, u_sum_out}
use Rattle.tcp_norm.specs.Calls.{Call}
use Rattle.tcp_norm.specs.RuleViews.{View, view_of}
use Rattle.tcp_norm.specs.RuleRows as era
use Rattle.norm_engine.specs.Items.{Item}
use Rattle.norm_engine.specs.RuleRows.{is_tcp, is_segment, holds_tcp}
use Rattle.norm_engine.specs.Fragments.{offering_of, pieces_before, joined_in, holds_offered}
use Rattle.norm_engine.specs.Calls.{past_of, where_passes}
use Rattle.norm_engine.specs.Trace.{Read, read_after, is_held, dropped_by, named_rows, is_quoted_live}
use Rattle.norm_engine.proofs.Datagrams.{row_of_piece, row_of_datagram, row_of_header, row_of_era, mends_of_life, named_of_piece, mends_of_datagram, mends_of_era, carried_in, no_fragment}
use Rattle.norm_engine.proofs.Layers.{dropped_by_layers, named_by_layers}
use Rattle.norm_engine.proofs.Judgments.{arp_passes}
use Rattle.both_sides.specs.Traces.{mirrored, record_of}

-- Consequences of tests, and lists whose elements all fail one.

-- a rule for one number, which fails if the number is this one
pub row_of : (n k : ℕ) (row : Bool) → (n ≡ k → row ≡ false) → ((n == k) && row) ≡ false
row_of n k row fails = by (n == k) refl
  where
    by : (same : Bool) → (n == k) ≡ same → (same && row) ≡ false
    by true is = fails (eqb-true n k is)
    by false is = refl

-- none is found, and none is named, if all fail
pub not_found : {X : Type 0} (test : X → Bool) (xs : List X) → AllByRecursion (λ x. test x ≡ false) xs → find test xs ≡ None
not_found test [] all = refl
not_found test (x ∷ xs) all = ap (λ b. cond b (Some x) (find test xs)) all.0 ∙ not_found test xs all.1

pub not_named : {X : Type 0} (test : X → Bool) (xs : List X) → AllByRecursion (λ x. test x ≡ false) xs → filter test xs ≡ []
not_named test [] all = refl
not_named test (x ∷ xs) all = ap (λ b. cond b (x ∷ filter test xs) (filter test xs)) all.0 ∙ not_named test xs all.1

-- No rule of the second engine drops or changes a plain packet that the first passed inwards, or a
-- frame of ARP.

-- a frame that the first engine writes inwards: a plain packet, whose addresses and kind of message
-- no rule drops
pub record IsRelayed (settings : PlainSettings) (link : Link) (frame : List ℕ) : Type 0 where
  pub long : l_short link frame ≡ false
  pub carries : carries_ip link frame ≡ true
  pub plain : Plain settings.hops (packet_in link frame)
  pub source : i_src (packet_in link frame) ≡ false
  pub destination : i_dst (packet_in link frame) ≡ false
  pub told : side_in settings None (packet_in link frame) ≡ Some Inward
  pub kind : ip.protocol (packet_in link frame) ≡ 1
      → (is_error (icmp.kind (ip.payload (packet_in link frame))) || is_query (icmp.kind (ip.payload (packet_in link frame)))) ≡ true

-- a frame of ARP that no rule drops
pub record IsAddressed (link : Link) (frame : List ℕ) : Type 0 where
  pub long : l_short link frame ≡ false
  pub type : l_type link frame ≡ false
  pub carries : carries_arp link frame ≡ true
  pub no_ip : carries_ip link frame ≡ false

-- the sides are exchanged
turned : (source destination : Bool) → side_by source destination ≡ Some Inward → side_by (not source) (not destination) ≡ Some Outward
turned true true h = absurd (cc)
turned true false h = absurd (cc)
turned false true h = refl
turned false false h = absurd (cc)

pub exchanged : (settings : PlainSettings) (p : List ℕ) → settings.mirror ≡ false → side_in settings None p ≡ Some Inward → side_in (mirrored settings) None p ≡ Some Outward
exchanged settings p upright told =
    let source = is_listed settings.prefixes (ip.source p) in
    let destination = is_listed settings.prefixes (ip.destination p) in
    turned source destination (ap (λ m. side_by (cond m (not source) source) (cond m (not destination) destination)) (sym upright) ∙ told)

-- one of the three protocols
one_of_three : (n : ℕ) → (n ≡ 1) ⊎ (n ≡ 6) ⊎ (n ≡ 17) → not ((n == 1) || (n == 6) || (n == 17)) ≡ false
one_of_three n (inl e) = ap (λ k. not ((k == 1) || (k == 6) || (k == 17))) e
one_of_three n (inr (inl e)) = ap (λ k. not ((k == 1) || (k == 6) || (k == 17))) e
one_of_three n (inr (inr e)) = ap (λ k. not ((k == 1) || (k == 6) || (k == 17))) e

-- no rule on connections rewrites an outbound segment except for its checksum
outward_mends : (settings : PlainSettings) (v : View) (live : Option ℕ) (head : Ipv4) (header octets : List ℕ) (fixes : List Rule)
    → let d : Datagram = record { side = Outward; head = head; header = header; octets = octets; fixes = fixes } in
    filter (era.holds_era settings (record v { era = live }) d) era.mends ≡ cond (era.t_sum_out settings d) (rules.TSumOut ∷ []) []
outward_mends settings v None head header octets fixes = refl
outward_mends settings v (Some era) head header octets fixes = refl

module _ (settings : PlainSettings) (link : Link) (seconds fraction : ℕ) (frame : List ℕ) (upright : settings.mirror ≡ false) (is : IsRelayed settings link frame) where
  abbrev s : PlainSettings
  s = mirrored settings

  abbrev r : Packet
  r = record_of seconds fraction frame

  abbrev p : List ℕ
  p = packet_in link frame

  abbrev d : Datagram
  d = datagram_of p [] Outward

  told : side_in s None p ≡ Some Outward
  told = exchanged settings p upright is.told

  short : nat_lt (length p) 20 ≡ false
  short = le-ltb (length p) 20 is.plain.header.whole_header

  total : nat_lt (ip.total_length p) (length p) ≡ false
  total = ap (λ n. nat_lt n (length p)) is.plain.header.total_length ∙ le-ltb (length p) (length p) (le_refl (length p))

  options : ip.options p ≡ []
  options = ap (λ n. drop 20 (take n p)) is.plain.header.header_length ∙ drop-take 20 0 p

  part : ip.is_fragment p ≡ false
  part = or_from (ip.has_more_fragments p) (nat_lt 0 (ip.fragment_offset p)) is.plain.header.more_fragments (ap (nat_lt 0) is.plain.header.fragment_offset)

  -- no rule on the link, the header and the protocol holds
  ip_rows : AllByRecursion (λ rule. holds_ip s link r rule ≡ false) ip_drop_rows
  ip_rows =
      let h = is.plain.header in
      let on : (row : Bool) → row ≡ false → (carries_ip link frame && row) ≡ false = and_right (carries_ip link frame) in
      let header = or_from (nat_lt (ip.header_length p) 20) (nat_lt (length p) (ip.header_length p)) (ap (λ n. nat_lt n 20) h.header_length) (ap (nat_lt (length p)) h.header_length ∙ short) in
      let length_row = or_from (nat_lt (ip.total_length p) (ip.header_length p)) (nat_lt (length p) (ip.total_length p))
      (ap₂ nat_lt h.total_length h.header_length ∙ short) (ap (nat_lt (length p)) h.total_length ∙ le-ltb (length p) (length p) (le_refl (length p))) in (
        le-ltb (length frame) (length frame) (le_refl (length frame)),
        (
          is.long,
          (
            ap (λ b. not (b || (carries_arp link frame && nat_le (length frame) 65549))) is.carries,
            (
              on _ short,
              (
                on _ (ap (λ n. not (n == 4)) h.version),
                (
                  on _ header,
                  (
                    on _ length_row,
                    (
                      on _ (ap not h.sum),
                      (
                        on _ is.source,
                        (
                          on _ is.destination,
                          (
                            on _ (ap is_none told),
                            (
                              on _ (ap (λ o. not (are_well_formed o)) options),
                              (
                                on _ (ap has_route options),
                                (
                                  on _ (one_of_three (ip.protocol p) is.plain.message.protocol),
                                  tt,
                                ),
                              ),
                            ),
                          ),
                        ),
                      ),
                    ),
                  ),
                ),
              ),
            ),
          ),
        ),
      )

  undropped : ip_dropped_by s link r ≡ None
  unfolding ip_dropped_by
  undropped = not_found (holds_ip s link r) ip_drop_rows ip_rows

  -- none rewrites the packet
  fix_rows : AllByRecursion (λ rule. holds_ip s link r rule ≡ false) whole_fix_rows
  fix_rows =
      let h = is.plain.header in
      let on : (row : Bool) → row ≡ false → (carries_ip link frame && row) ≡ false = and_right (carries_ip link frame) in (
        on _ total,
        (
          on _ (ap (nat_lt 20) h.header_length),
          (
            on _ h.reserved,
            (
              on _ (ap (λ side. is_inward side && nat_le (ip.time_to_live p) settings.hops) told),
              tt,
            ),
          ),
        ),
      )

  unmended : ip_fixes s link r whole_fix_rows ≡ []
  unfolding ip_fixes
  unmended = not_named (holds_ip s link r) whole_fix_rows fix_rows

  unmended_piece : ip_fixes s link r piece_fix_rows ≡ []
  unfolding ip_fixes
  unmended_piece = not_named (holds_ip s link r) piece_fix_rows (fix_rows.0, (fix_rows.1.0, (fix_rows.1.1.0, tt)))

  -- the record carries its packet, as one that goes outwards
  carries : datagram_in s link r ≡ Some d
  carries = λ i. cond (is_none (undropped i) && (is.carries i && not (part i))) (option_map (datagram_of p (unmended i)) (told i)) None

  -- no rule on UDP, ICMP and the header of a segment holds for it
  udp_sum : ip.protocol p ≡ 17 → has_wrong_sum d ≡ false
  udp_sum seventeen = by (is.plain.message.udp seventeen).sum
    where
      by : (udp.checksum (ip.payload p) ≡ 0) ⊎ (sum_is_right (ip.payload p) (pseudo_of d) ≡ true) → has_wrong_sum d ≡ false
      by (inl e) = ap (λ n. not (n == 0) && not (sum_is_right (ip.payload p) (pseudo_of d))) e
      by (inr e) = and_right (not (udp.checksum (ip.payload p) == 0)) (not (sum_is_right (ip.payload p) (pseudo_of d))) (ap not e)

  dgram_rows : (live : Bool) → AllByRecursion (λ rule. holds_dgram s live d rule ≡ false) datagram_rows
  dgram_rows live =
      let of_udp : (row : Bool) → (ip.protocol p ≡ 17 → row ≡ false) → ((ip.protocol p == 17) && row) ≡ false = row_of (ip.protocol p) 17 in
      let of_icmp : (row : Bool) → (ip.protocol p ≡ 1 → row ≡ false) → ((ip.protocol p == 1) && row) ≡ false = row_of (ip.protocol p) 1 in
      let size = length (ip.payload p) in (
        of_udp _ (λ e. le-ltb size 8 (is.plain.message.udp e).whole_header),
        (
          of_udp _ (λ e. ap not (eq-eqb _ _ (is.plain.message.udp e).size)),
          (
            of_udp _ (λ e. ap (λ b. b && not (is_offloaded s d)) (udp_sum e)),
            (
              of_icmp _ (λ e. le-ltb size 8 (is.plain.message.icmp e).whole_header),
              (
                of_icmp _ (λ e. ap not (is.plain.message.icmp e).sum),
                (
                  of_icmp _ (λ e. ap not (is.kind e)),
                  (
                    of_icmp _ (λ e. refl),
                    tt,
                  ),
                ),
              ),
            ),
          ),
        ),
      )

  passed : (live : Bool) → dgram_dropped_by s live d ≡ None
  unfolding dgram_dropped_by
  passed live = not_found (holds_dgram s live d) datagram_rows (dgram_rows live)

  summed : holds_dgram s false d rules.USumOut ≡ false
  summed = row_of (ip.protocol p) 17 (u_sum_out s d) (λ e. and_right (is_offloaded s d) (has_wrong_sum d) (udp_sum e))

  header_rows : AllByRecursion (λ rule. holds_tcp s d rule ≡ false) segment_rows
  header_rows =
      let on : (row : Bool) → (ip.protocol p ≡ 6 → row ≡ false) → ((ip.protocol p == 6) && row) ≡ false = row_of (ip.protocol p) 6 in
      let m = ip.payload p in
      let size = length m in (
        on _ (λ e. le-ltb size 20 (is.plain.message.tcp e).whole_header),
        (
          on _ (λ e. or_from _ _ (le-ltb (tcp.header_length m) 20 (is.plain.message.tcp e).data_offset) (le-ltb size (tcp.header_length m) (is.plain.message.tcp e).inside)),
          (
            on _ (λ e. ap (λ b. not b && not (is_offloaded s d)) (is.plain.message.tcp e).sum),
            (
              on _ (λ e. ap not (is.plain.message.tcp e).flags),
              (
                on _ (λ e. ap not (is.plain.message.tcp e).options),
                tt,
              ),
            ),
          ),
        ),
      )

  headed : find (holds_tcp s d) segment_rows ≡ None
  headed = not_found (holds_tcp s d) segment_rows header_rows

  -- nor one on connections
  era_rows : (calls : List Call) (segment : Bool) → is_segment s d ≡ segment → row_of_era s calls (cond segment (Some d) None) ≡ None
  era_rows calls true h = refl
  era_rows calls false h = refl

  is_six : (tcp none : Bool) → (tcp && none) ≡ true → tcp ≡ true
  is_six true none h = refl
  is_six false none h = absurd (cc)

  segment_sum : is_segment s d ≡ true → era.t_sum_out s d ≡ false
  segment_sum h =
      let six : ip.protocol p ≡ 6 = eqb-true (ip.protocol p) 6 (is_six (is_tcp d) (is_none (find (holds_tcp s d) segment_rows)) h) in
      let right : sum_is_right (ip.payload p) (era.pseudo_of d) ≡ true =
      ap (λ n. sum_is_right (ip.payload p) (pseudo_sum (ip.source p) (ip.destination p) n (length (ip.payload p)))) (sym six) ∙ (is.plain.message.tcp six).sum in
      and_right settings.offload _ (ap not right)

  era_mends : (calls : List Call) (segment : Bool) → is_segment s d ≡ segment → mends_of_era s calls (cond segment (Some d) None) ≡ []
  era_mends calls true h =
      let v = view_of s calls d in
      outward_mends s v v.era d.head d.header d.octets d.fixes ∙ ap (λ b. cond b (rules.TSumOut ∷ []) []) (segment_sum h)
  era_mends calls false h = refl

  module _ (history : List Item) where
    abbrev read : Read
    read = read_after s link history r

    whole : read.datagram ≡ Some d
    whole = ap (λ x. option_or x (joined_in s link r read.piece)) carries

    bare : read.piece ≡ None
    bare = ap (option_map (offering_of s (pieces_before s link history r))) (no_fragment s link r d (carried_in s link r d carries))

    segment : read.segment ≡ cond (is_segment s d) (Some d) None
    segment = ap (where_passes (is_segment s)) whole

    pub relayed_undropped : dropped_by s link read r ≡ None
    relayed_undropped =
        let calls = read.past.calls in
        dropped_by_layers s link r read
        ∙ ((λ i. option_or (undropped i) (option_or (row_of_piece (bare i)) (option_or (row_of_datagram s calls (whole i)) (option_or (row_of_header s (whole i)) (row_of_era s calls (segment i))))))
        ∙ (λ i. option_or (passed (is_quoted_live calls (quoted_in d.octets)) i) (option_or (headed i) (era_rows calls (is_segment s d) refl i))))

    pub relayed_unmended : named_rows s link read r ≡ []
    relayed_unmended =
        let calls = read.past.calls in
        named_by_layers s link r read
        ∙ ((λ i. unmended_piece i ++ (mends_of_life s (whole i) ++ (named_of_piece (bare i) ++ (mends_of_datagram s (whole i) ++ mends_of_era s calls (segment i)))))
        ∙ (λ i. cond (summed i) (rules.USumOut ∷ []) [] ++ era_mends calls (is_segment s d) refl i))

    pub relayed_unheld : is_held read ≡ false
    relayed_unheld = ap (λ o. holds_offered o rules.FHeld) bare

-- a frame of ARP

abbrev not_carried : PlainSettings → List ℕ → Bool → Type 0
not_carried settings p carried = AllByRecursion (λ rule. (carried && holds_in settings None p rule) ≡ false) packet_drop_rows

arp_rows : (settings : PlainSettings) (link : Link) (seconds fraction : ℕ) (frame : List ℕ) → IsAddressed link frame
    → AllByRecursion (λ rule. holds_ip settings link (record_of seconds fraction frame) rule ≡ false) ip_drop_rows
arp_rows settings link seconds fraction frame is =
    let others : not_carried settings (packet_in link frame) false =
    (refl, (refl, (refl, (refl, (refl, (refl, (refl, (refl, (refl, (refl, (refl, tt))))))))))) in
    (le-ltb (length frame) (length frame) (le_refl (length frame)), (is.long, (is.type, subst (not_carried settings (packet_in link frame)) (sym is.no_ip) others)))

arp_undropped : (settings : PlainSettings) (link : Link) (seconds fraction : ℕ) (frame : List ℕ) → IsAddressed link frame
    → ip_dropped_by settings link (record_of seconds fraction frame) ≡ None
unfolding ip_dropped_by
arp_undropped settings link seconds fraction frame is = not_found (holds_ip settings link (record_of seconds fraction frame)) ip_drop_rows (arp_rows settings link seconds fraction frame is)

-- no rule drops the record, none rewrites it, and it is not held
pub record IsUntouched (settings : PlainSettings) (link : Link) (history : List Item) (r : Packet) : Type 0 where
  pub undropped : dropped_by settings link (read_after settings link history r) r ≡ None
  pub unmended : named_rows settings link (read_after settings link history r) r ≡ []
  pub unheld : is_held (read_after settings link history r) ≡ false

-- a frame that passes: one that goes inwards, or one of ARP
abbrev pub Relays : PlainSettings → Link → (frame : List ℕ) → Type 0
Relays settings link frame = IsRelayed settings link frame ⊎ IsAddressed link frame

pub untouched : (settings : PlainSettings) (link : Link) (seconds fraction : ℕ) (frame : List ℕ) → settings.mirror ≡ false → Relays settings link frame → (history : List Item)
    → IsUntouched (mirrored settings) link history (record_of seconds fraction frame)
untouched settings link seconds fraction frame upright (inl is) history = record {
  undropped = relayed_undropped settings link seconds fraction frame upright is history;
  unmended = relayed_unmended settings link seconds fraction frame upright is history;
  unheld = relayed_unheld settings link seconds fraction frame upright is history;
}
untouched settings link seconds fraction frame upright (inr is) history =
    let s = mirrored settings in
    let r = record_of seconds fraction frame in
    let arp = arp_passes s link (past_of s link history r) r (arp_undropped s link seconds fraction frame is) is.carries in
    record { undropped = arp.undropped; unmended = arp.named; unheld = arp.held }
