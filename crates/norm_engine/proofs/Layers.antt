-- The rules of all layers, joined: which drops a record, which are noted, and which rewrite it.
use Rattle.std.proofs.Common.{◌≡◌, ℕ, false, cond, List, ◌∷◌, ◌++◌, Option, Some, None, find, filter, refl, sym, ap, ap₂, ◌∙◌, ◌≢◌, ◌==◌, Bool, true, ◌&&◌, ◌||◌, subst, if◌then◌else◌, is_none, eqb-true, ne_eqb, append-nil, append_assoc, []}
use Rattle.std.specs.Option.{option_or}
use Rattle.std.proofs.lemmas.List.Folds.{find-append}
use Rattle.std.proofs.lemmas.List.Elements.{filter-append}
use Rattle.era_state.proofs.Quantities.{or_none}
use Rattle.wire_base.specs.declared.address.Link.{Link}
use Rattle.wire_base.specs.declared.address.Side.{Side}
use Rattle.wire_base.specs.declared.address.Side.TheVariants.{Outward, Inward}
use Rattle.icmp_codec.specs.QuotedPacket.{quoted_in}
use Rattle.ipv4_codec.specs.declared.header.Ipv4.{Ipv4}
use Rattle.pcap_file.specs.Records.{Packet}
use Rattle.rule_book.specs.declared.rule.Rule.{Rule}
use Rattle.rule_book.specs.declared.rule.Rule.TheVariants as rules
use Rattle.rule_book.specs.Rules.{datagram_rows, drop_rows, era_rows, fragment_rows, segment_rows, step_rows}
use Rattle.norm_settings.specs.SettingValues.{PlainSettings}
use Rattle.ip_rules.specs.Datagrams.{Datagram}
use Rattle.ip_rules.specs.RuleRows.{ip_drop_rows, piece_fix_rows, ip_dropped_by, ip_fixes}
use Rattle.ip_rules.specs.JudgedRecord.{where_holds}
use Rattle.dgram_rules.specs.RuleRows.{holds_dgram, dgram_dropped_by}
use Rattle.tcp_norm.specs.RuleViews.{View, view_of}
use Rattle.tcp_norm.specs.RuleRows as era
use Rattle.reassembly.proofs.Rules.{first_row_drops}
use Rattle.dgram_rules.specs.declared.judged.DgramJudged.{DgramJudged}
use Rattle.dgram_rules.specs.declared.judged.DgramJudged.TheVariants as dgram
use Rattle.dgram_rules.specs.JudgedDatagram.{dgram_judged, icmp_judged, udp_judged}
use Rattle.dgram_rules.specs.RuleLaws.{Tells}
use Rattle.norm_engine.specs.RuleRows.{holds_tcp, is_segment, is_tcp, holds_header}
use Rattle.norm_engine.specs.working.FirstRow.{segment_row}
use Rattle.norm_engine.specs.Fragments.{Offering, i_ttl}
use Rattle.norm_engine.specs.Calls.{Past, where_passes, datagram_by}
use Rattle.norm_engine.specs.Trace.{Read, is_quoted_live, holds, dropped_by, noted_rows, named_rows, drops}
use Rattle.norm_engine.specs.working.EngineAnswers.{datagram_row, read_with, of_rows, IsReadSegment, HeadIsRead, Follows}
use Rattle.norm_engine.specs.working.DatagramJudgment.{Judged}
use Rattle.norm_engine.specs.working.DatagramJudgment as judged
use Rattle.norm_engine.proofs.Items.{AreOfEra}
use Rattle.norm_engine.proofs.Datagrams.{IsMade, made_of, mends_of_datagram, mends_of_era, mends_of_life, named_of_piece, no_row_on_tcp, notes_of_era, passes, row_of_datagram, row_of_era, row_of_header, row_of_piece, segment_tests}

-- The rules of all layers, joined: which drops a record, which are noted, and which rewrite it.

-- the drop rules, layer by layer
drop_layers : drop_rows ≡ ip_drop_rows ++ fragment_rows ++ datagram_rows ++ segment_rows ++ era_rows
drop_layers = refl

-- no rule on connections that drops applies to an outbound segment
outward_by : (settings : PlainSettings) (v : View) (live : Option ℕ) (head : Ipv4) (header octets : List ℕ) (fixes : List Rule)
    → let d : Datagram = record { side = Outward; head = head; header = header; octets = octets; fixes = fixes } in
    find (λ rule. era.holds_era settings (record v { era = live }) d rule) (rules.TCold ∷ rules.TState ∷ rules.TSyn ∷ rules.TRst ∷ rules.TQuota ∷ rules.TRoom ∷ []) ≡ None
outward_by settings v None head header octets fixes = refl
outward_by settings v (Some era) head header octets fixes = refl

module _ (settings : PlainSettings) (link : Link) (r : Packet) where
  ip_layer : (read : Read) → find (drops settings link read r) ip_drop_rows ≡ ip_dropped_by settings link r
  unfolding ip_dropped_by
  ip_layer read = refl

  fragment_layer : (read : Read) → find (drops settings link read r) fragment_rows ≡ row_of_piece read.piece
  fragment_layer read = by read.piece
    where
      by : (piece : Option Offering) → find (drops settings link (record read { piece = piece }) r) fragment_rows ≡ row_of_piece piece
      by None = refl
      by (Some o) = sym (first_row_drops o.view o.piece)

  datagram_layer : (read : Read) → find (drops settings link read r) datagram_rows ≡ row_of_datagram settings read.past.calls read.datagram
  unfolding dgram_dropped_by
  datagram_layer read = by read.datagram
    where
      by : (datagram : Option Datagram) → find (drops settings link (record read { datagram = datagram }) r) datagram_rows ≡ row_of_datagram settings read.past.calls datagram
      by None = refl
      by (Some d) = refl

  header_layer : (read : Read) → find (drops settings link read r) segment_rows ≡ row_of_header settings read.datagram
  header_layer read = by read.datagram
    where
      by : (datagram : Option Datagram) → find (drops settings link (record read { datagram = datagram }) r) segment_rows ≡ row_of_header settings datagram
      by None = refl
      by (Some d) = refl

  era_layer : (read : Read) → find (drops settings link read r) era_rows ≡ row_of_era settings read.past.calls read.segment
  era_layer read = by read.segment
    where
      of : (d : Datagram) (side : Side) → let e : Datagram = record d { side = side } in
          find (drops settings link (record read { segment = Some e }) r) era_rows ≡ era.dropped_by settings (view_of settings read.past.calls e) e
      of d Inward = refl
      of d Outward =
          let v = view_of settings read.past.calls (record d { side = Outward }) in
          outward_by settings v v.era d.head d.header d.octets d.fixes

      by : (segment : Option Datagram) → find (drops settings link (record read { segment = segment }) r) era_rows ≡ row_of_era settings read.past.calls segment
      by None = refl
      by (Some d) = of d d.side

  -- the rule that drops a record is the first of these
  pub dropped_by_layers : (read : Read) → dropped_by settings link read r
      ≡ option_or (ip_dropped_by settings link r) (option_or (row_of_piece read.piece) (option_or (row_of_datagram settings read.past.calls read.datagram)
      (option_or (row_of_header settings read.datagram) (row_of_era settings read.past.calls read.segment))))
  unfolding dropped_by
  dropped_by_layers read =
      let F = drops settings link read r in
      ap (find F) drop_layers
      ∙ (find-append F ip_drop_rows (fragment_rows ++ datagram_rows ++ segment_rows ++ era_rows)
      ∙ ap₂ option_or (ip_layer read) (find-append F fragment_rows (datagram_rows ++ segment_rows ++ era_rows)
      ∙ ap₂ option_or (fragment_layer read) (find-append F datagram_rows (segment_rows ++ era_rows)
      ∙ ap₂ option_or (datagram_layer read) (find-append F segment_rows era_rows
      ∙ ap₂ option_or (header_layer read) (era_layer read)))))

  -- the note on it
  pub noted_by_layers : (read : Read) → noted_rows settings link read r ≡ notes_of_era settings read.past.calls read.segment
  unfolding noted_rows
  noted_by_layers read = by read.segment
    where
      by : (segment : Option Datagram) → noted_rows settings link (record read { segment = segment }) r ≡ notes_of_era settings read.past.calls segment
      by None = refl
      by (Some d) = refl

  ip_named : (read : Read) → filter (holds settings link read r) piece_fix_rows ≡ ip_fixes settings link r piece_fix_rows
  unfolding ip_fixes
  ip_named read = refl

  life_named : (read : Read) → filter (holds settings link read r) (rules.ITtl ∷ []) ≡ mends_of_life settings read.datagram
  life_named read = by read.datagram
    where
      by : (datagram : Option Datagram) → filter (holds settings link (record read { datagram = datagram }) r) (rules.ITtl ∷ []) ≡ mends_of_life settings datagram
      by None = refl
      by (Some d) = refl

  piece_named : (read : Read) → filter (holds settings link read r) (rules.FHeld ∷ rules.FDone ∷ []) ≡ named_of_piece read.piece
  piece_named read = by read.piece
    where
      by : (piece : Option Offering) → filter (holds settings link (record read { piece = piece }) r) (rules.FHeld ∷ rules.FDone ∷ []) ≡ named_of_piece piece
      by None = refl
      by (Some o) = refl

  datagram_named : (read : Read) → filter (holds settings link read r) (rules.USumOut ∷ []) ≡ mends_of_datagram settings read.datagram
  datagram_named read = by read.datagram
    where
      by : (datagram : Option Datagram) → filter (holds settings link (record read { datagram = datagram }) r) (rules.USumOut ∷ []) ≡ mends_of_datagram settings datagram
      by None = refl
      by (Some d) = refl

  era_named : (read : Read) → filter (holds settings link read r) step_rows ≡ mends_of_era settings read.past.calls read.segment
  era_named read = by read.segment
    where
      by : (segment : Option Datagram) → filter (holds settings link (record read { segment = segment }) r) step_rows ≡ mends_of_era settings read.past.calls segment
      by None = refl
      by (Some d) = refl

  -- the rules that hold or rewrite it
  pub named_by_layers : (read : Read)
      → named_rows settings link read r
      ≡ ip_fixes settings link r piece_fix_rows ++ (mends_of_life settings read.datagram ++ (named_of_piece read.piece ++ (mends_of_datagram settings read.datagram ++ mends_of_era settings read.past.calls read.segment)))
  unfolding named_rows
  named_by_layers read =
      let F = holds settings link read r in
      let life = rules.ITtl ∷ [] in
      let piece = rules.FHeld ∷ rules.FDone ∷ [] in
      let sum = rules.USumOut ∷ [] in
      filter-append F piece_fix_rows (life ++ piece ++ sum ++ step_rows)
      ∙ ap₂ (λ xs ys. xs ++ ys) (ip_named read) (filter-append F life (piece ++ sum ++ step_rows)
      ∙ ap₂ (λ xs ys. xs ++ ys) (life_named read) (filter-append F piece (sum ++ step_rows)
      ∙ ap₂ (λ xs ys. xs ++ ys) (piece_named read) (filter-append F sum step_rows
      ∙ ap₂ (λ xs ys. xs ++ ys) (datagram_named read) (era_named read))))

module _ (settings : PlainSettings) (link : Link) (past : Past) (r : Packet) where
  abbrev read : Read
  read = read_with settings link past r

  -- a record without datagram
  pub bare_row : datagram_by settings link past.pieces r ≡ None → dropped_by settings link read r ≡ option_or (ip_dropped_by settings link r) (row_of_piece read.piece)
  bare_row none =
      dropped_by_layers settings link r read
      ∙ ((λ i. option_or (ip_dropped_by settings link r) (option_or (row_of_piece read.piece) (option_or (row_of_datagram settings past.calls (none i))
      (option_or (row_of_header settings (none i)) (row_of_era settings past.calls (where_passes (is_segment settings) (none i)))))))
      ∙ ap (option_or (ip_dropped_by settings link r)) (or_none (row_of_piece read.piece)))

  pub bare_named : datagram_by settings link past.pieces r ≡ None → named_rows settings link read r ≡ ip_fixes settings link r piece_fix_rows ++ named_of_piece read.piece
  bare_named none =
      named_by_layers settings link r read
      ∙ ((λ i. ip_fixes settings link r piece_fix_rows ++ (mends_of_life settings (none i) ++ (named_of_piece read.piece
      ++ (mends_of_datagram settings (none i) ++ mends_of_era settings past.calls (where_passes (is_segment settings) (none i))))))
      ∙ ap (λ xs. ip_fixes settings link r piece_fix_rows ++ xs) (append-nil (named_of_piece read.piece)))

  -- the rules that rewrite a datagram before those after them
  fixes_first : (d : Datagram) (rest : List Rule) → IsMade settings link read r d
      → ip_fixes settings link r piece_fix_rows ++ (mends_of_life settings (Some d) ++ (named_of_piece read.piece ++ rest)) ≡ d.fixes ++ rest
  fixes_first d rest m =
      let fixes = ip_fixes settings link r piece_fix_rows in
      let life = where_holds (i_ttl settings d) rules.ITtl in
      sym (ap (λ xs. fixes ++ xs) (append_assoc life (named_of_piece read.piece) rest)) ∙ (sym (append_assoc fixes (life ++ named_of_piece read.piece) rest) ∙ ap (λ xs. xs ++ rest) m.fixes)

  -- a datagram that is not a segment: its rule is the first on the datagram and its header
  no_segment : (d : Datagram) → IsMade settings link read r d → is_segment settings d ≡ false → read.segment ≡ None
  no_segment d m other = ap (where_passes (is_segment settings)) m.datagram ∙ ap (λ b. cond b (Some d) None) other

  pub datagram_row_is : (d : Datagram) → IsMade settings link read r d → is_segment settings d ≡ false
      → dropped_by settings link read r ≡ datagram_row settings (is_quoted_live past.calls (quoted_in d.octets)) d
  datagram_row_is d m other =
      let none = no_segment d m other in
      let header = find (holds_tcp settings d) segment_rows in
      dropped_by_layers settings link r read
      ∙ ((λ i. option_or (m.undropped i) (option_or (m.stays i) (option_or (row_of_datagram settings past.calls (m.datagram i))
      (option_or (row_of_header settings (m.datagram i)) (row_of_era settings past.calls (none i))))))
      ∙ ap (option_or (row_of_datagram settings past.calls (Some d))) (or_none header))

  pub datagram_named_is : (d : Datagram) → IsMade settings link read r d → is_segment settings d ≡ false
      → named_rows settings link read r ≡ d.fixes ++ where_holds (holds_dgram settings false d rules.USumOut) rules.USumOut
  datagram_named_is d m other =
      let none = no_segment d m other in
      let sum = mends_of_datagram settings (Some d) in
      named_by_layers settings link r read
      ∙ ((λ i. ip_fixes settings link r piece_fix_rows ++ (mends_of_life settings (m.datagram i) ++ (named_of_piece read.piece
      ++ (mends_of_datagram settings (m.datagram i) ++ mends_of_era settings past.calls (none i)))))
      ∙ (fixes_first d (sum ++ []) m ∙ ap (λ xs. d.fixes ++ xs) (append-nil sum)))

  -- a segment: its rules are those of its connection
  pub segment_rows_are : (d : Datagram) → read.segment ≡ Some d → AreOfEra settings link read r d
  segment_rows_are d segment =
      let p = passes (is_segment settings) (datagram_by settings link past.pieces r) d segment in
      let m = made_of settings link past r d p.0 in
      let tests = segment_tests settings d p.1 in
      let six = eqb-true d.head.protocol 6 tests.0 in
      let row = (no_row_on_tcp settings (is_quoted_live past.calls (quoted_in d.octets)) d six).0 in
      let sum = (no_row_on_tcp settings false d six).1 in
      let era_row = row_of_era settings past.calls (Some d) in
      let mends = mends_of_era settings past.calls (Some d) in
      record {
        segment = segment;
        held = m.held;
        dropped = dropped_by_layers settings link r read
            ∙ ((λ i. option_or (m.undropped i) (option_or (m.stays i) (option_or (row_of_datagram settings past.calls (m.datagram i))
            (option_or (row_of_header settings (m.datagram i)) (row_of_era settings past.calls (segment i))))))
            ∙ (λ i. option_or (row i) (option_or (tests.1 i) era_row)));
        noted = noted_by_layers settings link r read ∙ ap (notes_of_era settings past.calls) segment;
        named = named_by_layers settings link r read
            ∙ ((λ i. ip_fixes settings link r piece_fix_rows ++ (mends_of_life settings (m.datagram i) ++ (named_of_piece read.piece
            ++ (mends_of_datagram settings (m.datagram i) ++ mends_of_era settings past.calls (segment i)))))
            ∙ (fixes_first d (mends_of_datagram settings (Some d) ++ mends) m
            ∙ ap (λ b. d.fixes ++ (where_holds b rules.USumOut ++ mends)) sum));
      }

-- The judgment of a datagram by its protocol, and the rules on the header of its segment.

-- the rules on the header apply to TCP alone

pub header_row : (settings : PlainSettings) (d : Datagram) → is_tcp d ≡ true → find (holds_tcp settings d) segment_rows ≡ segment_row settings d
header_row settings d six = ap (λ b. find (λ rule. b && holds_header settings d rule) segment_rows) six

no_header_row : (settings : PlainSettings) (d : Datagram) → is_tcp d ≡ false → find (holds_tcp settings d) segment_rows ≡ None
no_header_row settings d other = ap (λ b. find (λ rule. b && holds_header settings d rule) segment_rows) other

-- only TCP remains besides UDP and ICMP
pub six_is_left : (p : ℕ) → ((p == 1) || (p == 6) || (p == 17)) ≡ true → p ≢ 17 → p ≢ 1 → (p == 6) ≡ true
six_is_left p known udp icmp = by (p == 1) (p == 6) (p == 17) known (ne_eqb p 1 icmp) (ne_eqb p 17 udp)
  where
    by : (one six seventeen : Bool) → (one || six || seventeen) ≡ true → one ≡ false → seventeen ≡ false → six ≡ true
    by true six seventeen known a b = absurd (cc)
    by false true seventeen known a b = refl
    by false false seventeen known a b = absurd (cc)

-- the judgment on a datagram of this protocol determines the rules
pub tells_of : (settings : PlainSettings) (live : Bool) (d : Datagram) (number : ℕ) → d.head.protocol ≡ number
    → Tells (dgram_dropped_by settings live d) (holds_dgram settings live d rules.USumOut) (dgram_judged settings live d)
    → Tells (dgram_dropped_by settings live d) (holds_dgram settings live d rules.USumOut) (if number == 17 then udp_judged settings d else if number == 1 then icmp_judged settings live d else dgram.Pass)
tells_of settings live d number is =
    subst (Tells (dgram_dropped_by settings live d) (holds_dgram settings live d rules.USumOut)) (ap (λ n. if n == 17 then udp_judged settings d else if n == 1 then icmp_judged settings live d else dgram.Pass) is)

-- a datagram that is not TCP is not a segment, and follows the rules on UDP and ICMP
pub by_tells : (settings : PlainSettings) (live : Bool) (d : Datagram) (answer : DgramJudged) → is_tcp d ≡ false
    → Tells (dgram_dropped_by settings live d) (holds_dgram settings live d rules.USumOut) answer → Follows settings live d (of_rows answer)
by_tells settings live d answer other tells = by answer tells
  where
    no_segment : is_segment settings d ≡ false
    no_segment = ap (λ b. b && is_none (find (holds_tcp settings d) segment_rows)) other

    row : (told : Option Rule) → dgram_dropped_by settings live d ≡ told → datagram_row settings live d ≡ option_or told None
    row told is = λ i. option_or (is i) (no_header_row settings d other i)

    by : (answer : DgramJudged) → Tells (dgram_dropped_by settings live d) (holds_dgram settings live d rules.USumOut) answer → Follows settings live d (of_rows answer)
    by (dgram.Drop rule) t = (no_segment, row (Some rule) t.drops)
    by dgram.Mend t = (no_segment, row None t.drops, t.mends t.drops)
    by dgram.Pass t = (no_segment, row None t.drops, t.mends t.drops)

-- a datagram that is TCP follows the rules on its header
pub by_header : (settings : PlainSettings) (live : Bool) (d : Datagram) (answer : Judged) → is_tcp d ≡ true → dgram_dropped_by settings live d ≡ None
    → IsReadSegment settings d answer → Follows settings live d answer
by_header settings live d answer six none says = by answer says
  where
    row : find (holds_tcp settings d) segment_rows ≡ segment_row settings d
    row = header_row settings d six

    first : datagram_row settings live d ≡ segment_row settings d
    first = λ i. option_or (none i) (row i)

    kind : (told : Option Rule) → segment_row settings d ≡ told → is_segment settings d ≡ is_none told
    kind told is = λ i. six i && is_none ((row ∙ is) i)

    by : (answer : Judged) → IsReadSegment settings d answer → Follows settings live d answer
    by judged.Pass says = absurd says
    by judged.Mend says = absurd says
    by (judged.Drop rule) says = (kind (Some rule) says, first ∙ says)
    by (judged.Segment head) says = (kind None says.0, first ∙ says.0)

-- the header of a datagram judged a segment was read, by the protocol

pub no_head : (d : Datagram) (answer : DgramJudged) → HeadIsRead d (of_rows answer)
no_head d dgram.Pass = tt
no_head d dgram.Mend = tt
no_head d (dgram.Drop rule) = tt

pub read_head : (settings : PlainSettings) (d : Datagram) (answer : Judged) → IsReadSegment settings d answer → HeadIsRead d answer
read_head settings d judged.Pass says = tt
read_head settings d judged.Mend says = tt
read_head settings d (judged.Drop rule) says = tt
read_head settings d (judged.Segment head) says = says.1
