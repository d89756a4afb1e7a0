-- The results of judging a datagram, rule by rule.
use Rattle.std.specs.Prelude.{◌==◌, Bool, if◌then◌else◌}
use Rattle.rule_book.specs.declared.rule.Rule.TheVariants as rules
use Rattle.norm_settings.specs.SettingValues.{PlainSettings}
use Rattle.dgram_rules.specs.declared.judged.DgramJudged.{DgramJudged}
use Rattle.dgram_rules.specs.declared.judged.DgramJudged.TheVariants.{Pass, Mend, Drop}
use Rattle.ip_rules.specs.Datagrams.{Datagram}
use Rattle.dgram_rules.specs.RuleRows.{u_short, u_len, u_sum, u_sum_out, m_short, m_sum, m_type, m_quote}

-- the result for UDP: the first drop rule that holds drops the datagram, else U_SUM_OUT rewrites
-- its checksum if it holds, else the datagram passes
abbrev pub udp_judged : PlainSettings → Datagram → DgramJudged
udp_judged settings d =
    if u_short d then Drop rules.UShort
    else if u_len d then Drop rules.ULen
    else if u_sum settings d then Drop rules.USum
    else if u_sum_out settings d then Mend
    else Pass

-- the result for ICMP: the first drop rule that holds drops the datagram, else it passes
abbrev pub icmp_judged : PlainSettings → (live : Bool) → Datagram → DgramJudged
icmp_judged settings live d =
    if m_short d then Drop rules.MShort
    else if m_sum d then Drop rules.MSum
    else if m_type d then Drop rules.MType
    else if m_quote settings live d then Drop rules.MQuote
    else Pass

-- the result for a datagram: by the rules of UDP (17) or ICMP (1); another protocol passes
abbrev pub dgram_judged : PlainSettings → (live : Bool) → Datagram → DgramJudged
dgram_judged settings live d =
    if d.head.protocol == 17 then udp_judged settings d else if d.head.protocol == 1 then icmp_judged settings live d else Pass
