-- The rules on a datagram, and the result for its protocol.
use Rattle.std.proofs.Common.{◌≡◌, Bool, true, false, ◌&&◌, ◌==◌, not, List, [], ◌∷◌, Option, Some, None, refl, sym, ap, ◌∙◌, subst, find, cond, if◌then◌else◌}
use Rattle.std.proofs.lemmas.Bool.{and_parts, and_right, eqb-true, ne_eqb, both_ways}
use Rattle.rule_book.specs.declared.rule.Rule.{Rule}
use Rattle.rule_book.specs.declared.rule.Rule.TheVariants as rules
use Rattle.norm_settings.specs.SettingValues.{PlainSettings}
use Rattle.dgram_rules.specs.declared.judged.DgramJudged.{DgramJudged}
use Rattle.dgram_rules.specs.declared.judged.DgramJudged.TheVariants.{Pass, Mend, Drop}
use Rattle.rule_book.specs.Rules.{datagram_rows}
use Rattle.ip_rules.specs.Datagrams.{Datagram, goes_in}
use Rattle.dgram_rules.specs.RuleRows.{has_wrong_sum, u_short, u_len, u_sum, u_sum_out, m_short, m_sum, m_type, m_quote, holds_dgram, dgram_dropped_by}
use Rattle.dgram_rules.specs.JudgedDatagram.{dgram_judged, icmp_judged, udp_judged}
use Rattle.dgram_rules.specs.RuleLaws.{Tells, DatagramsTellTheRows, OthersHaveNoRow, OffloadKeepsWrongSums}

-- the three results are those of their rules
drop_tells : (rule : Rule) (mended : Bool) → Tells (Some rule) mended (Drop rule)
drop_tells rule mended = record { drops = refl; mends = λ none. absurd (cc) }

mend_tells : Tells None true Mend
mend_tells = record { drops = refl; mends = λ none. refl }

pass_tells : Tells None false Pass
pass_tells = record { drops = refl; mends = λ none. refl }

-- the first drop rule that holds, by the tests of the protocol and those of the rules
abbrev first_row : (udp icmp : Bool) (u_short u_len u_sum m_short m_sum m_type m_quote : Bool) → Option Rule
first_row udp icmp a b c d e f g =
    if udp && a then Some rules.UShort else if udp && b then Some rules.ULen else if udp && c then Some rules.USum
    else if icmp && d then Some rules.MShort else if icmp && e then Some rules.MSum else if icmp && f then Some rules.MType
    else if icmp && g then Some rules.MQuote else None

abbrev row_of : (udp icmp : Bool) → PlainSettings → Bool → Datagram → Option Rule
row_of udp icmp settings live d =
    first_row udp icmp (u_short d) (u_len d) (u_sum settings d) (m_short d) (m_sum d) (m_type d) (m_quote settings live d)

by_tests : (settings : PlainSettings) (live : Bool) (d : Datagram) → dgram_dropped_by settings live d ≡ row_of (d.head.protocol == 17) (d.head.protocol == 1) settings live d
unfolding dgram_dropped_by
by_tests settings live d = refl

udp_by : (a b c d e f g mended : Bool)
    → Tells (first_row true false a b c d e f g) mended
    (if a then Drop rules.UShort else if b then Drop rules.ULen else if c then Drop rules.USum else if mended then Mend else Pass)
udp_by true b c d e f g mended = drop_tells rules.UShort mended
udp_by false true c d e f g mended = drop_tells rules.ULen mended
udp_by false false true d e f g mended = drop_tells rules.USum mended
udp_by false false false d e f g true = mend_tells
udp_by false false false d e f g false = pass_tells

udp_tells : (settings : PlainSettings) (live : Bool) (d : Datagram) → d.head.protocol ≡ 17
    → Tells (dgram_dropped_by settings live d) (holds_dgram settings live d rules.USumOut) (udp_judged settings d)
udp_tells settings live d h =
    let row : dgram_dropped_by settings live d ≡ row_of true false settings live d =
    by_tests settings live d ∙ ap (λ p. row_of (p == 17) (p == 1) settings live d) h in
    let mended : holds_dgram settings live d rules.USumOut ≡ u_sum_out settings d = ap (λ p. (p == 17) && u_sum_out settings d) h in
    let P : Option Rule → Bool → Type 0 = λ dropped mended. Tells dropped mended (udp_judged settings d) in
    subst (λ dropped. P dropped (holds_dgram settings live d rules.USumOut)) (sym row)
    (subst (P (row_of true false settings live d)) (sym mended) (udp_by (u_short d) (u_len d) (u_sum settings d) (m_short d) (m_sum d) (m_type d) (m_quote settings live d) (u_sum_out settings d)))

icmp_by : (a b c d e f g : Bool)
    → Tells (first_row false true a b c d e f g) false
    (if d then Drop rules.MShort else if e then Drop rules.MSum else if f then Drop rules.MType else if g then Drop rules.MQuote else Pass)
icmp_by a b c true e f g = drop_tells rules.MShort false
icmp_by a b c false true f g = drop_tells rules.MSum false
icmp_by a b c false false true g = drop_tells rules.MType false
icmp_by a b c false false false true = drop_tells rules.MQuote false
icmp_by a b c false false false false = pass_tells

icmp_tells : (settings : PlainSettings) (live : Bool) (d : Datagram) → d.head.protocol ≡ 1
    → Tells (dgram_dropped_by settings live d) (holds_dgram settings live d rules.USumOut) (icmp_judged settings live d)
icmp_tells settings live d h =
    let row : dgram_dropped_by settings live d ≡ row_of false true settings live d =
    by_tests settings live d ∙ ap (λ p. row_of (p == 17) (p == 1) settings live d) h in
    let mended : holds_dgram settings live d rules.USumOut ≡ false = ap (λ p. (p == 17) && u_sum_out settings d) h in
    let P : Option Rule → Bool → Type 0 = λ dropped mended. Tells dropped mended (icmp_judged settings live d) in
    subst (λ dropped. P dropped (holds_dgram settings live d rules.USumOut)) (sym row)
    (subst (P (row_of false true settings live d)) (sym mended) (icmp_by (u_short d) (u_len d) (u_sum settings d) (m_short d) (m_sum d) (m_type d) (m_quote settings live d)))

-- no rule holds if both tests of the protocol fail
none_holds : (settings : PlainSettings) (live : Bool) (d : Datagram) → (d.head.protocol == 17) ≡ false → (d.head.protocol == 1) ≡ false → (rule : Rule) → holds_dgram settings live d rule ≡ false
none_holds settings live d a b rules.UShort = ap (λ t. t && u_short d) a
none_holds settings live d a b rules.ULen = ap (λ t. t && u_len d) a
none_holds settings live d a b rules.USum = ap (λ t. t && u_sum settings d) a
none_holds settings live d a b rules.MShort = ap (λ t. t && m_short d) b
none_holds settings live d a b rules.MSum = ap (λ t. t && m_sum d) b
none_holds settings live d a b rules.MType = ap (λ t. t && m_type d) b
none_holds settings live d a b rules.MQuote = ap (λ t. t && m_quote settings live d) b
none_holds settings live d a b rules.USumOut = ap (λ t. t && u_sum_out settings d) a
none_holds settings live d a b _ = refl

pub others_have_none : OthersHaveNoRow
others_have_none settings live d a b =
    let udp : (d.head.protocol == 17) ≡ false = ne_eqb d.head.protocol 17 a in
    let icmp : (d.head.protocol == 1) ≡ false = ne_eqb d.head.protocol 1 b in
    (by_tests settings live d ∙ (λ i. row_of (udp i) (icmp i) settings live d), none_holds settings live d udp icmp)

-- the result, by the tests of the protocol
abbrev answer_by : (udp icmp : Bool) → PlainSettings → Bool → Datagram → DgramJudged
answer_by udp icmp settings live d = if udp then udp_judged settings d else if icmp then icmp_judged settings live d else Pass

-- this result is that of the rules
abbrev told : PlainSettings → Bool → Datagram → DgramJudged → Type 0
told settings live d = Tells (dgram_dropped_by settings live d) (holds_dgram settings live d rules.USumOut)

pub datagrams_tell : DatagramsTellTheRows
datagrams_tell settings live d = by (d.head.protocol == 17) (d.head.protocol == 1) refl refl
  where
    by : (udp icmp : Bool) → (d.head.protocol == 17) ≡ udp → (d.head.protocol == 1) ≡ icmp → told settings live d (dgram_judged settings live d)
    by true icmp u m = subst (told settings live d) (sym (ap (λ b. answer_by b (d.head.protocol == 1) settings live d) u)) (udp_tells settings live d (eqb-true _ _ u))
    by false true u m = subst (told settings live d) (sym (λ i. answer_by (u i) (m i) settings live d)) (icmp_tells settings live d (eqb-true _ _ m))
    by false false u m =
        let row : dgram_dropped_by settings live d ≡ None = by_tests settings live d ∙ (λ i. row_of (u i) (m i) settings live d) in
        subst (told settings live d) (sym (λ i. answer_by (u i) (m i) settings live d))
        (subst (λ dropped. Tells dropped (holds_dgram settings live d rules.USumOut) Pass) (sym row)
        (subst (λ mended. Tells None mended Pass) (sym (none_holds settings live d u m rules.USumOut)) pass_tells))

-- the rule that is found passes the test
first_passes : (p : Rule → Bool) (told : Bool) (y x : Rule) (rest : Option Rule) → p y ≡ told → (rest ≡ Some x → p x ≡ true) → cond told (Some y) rest ≡ Some x → p x ≡ true
first_passes p true y x rest e later h = let same : y ≡ x = cc in ap p (sym same) ∙ e
first_passes p false y x rest e later h = later h

found_passes : (p : Rule → Bool) (xs : List Rule) (x : Rule) → find p xs ≡ Some x → p x ≡ true
found_passes p [] x h = absurd (cc)
found_passes p (y ∷ ys) x h = first_passes p (p y) y x (find p ys) refl (found_passes p ys x) h

pub offload_keeps : OffloadKeepsWrongSums
unfolding dgram_dropped_by
offload_keeps settings live d offload side h =
    let spared : u_sum settings d ≡ false =
    (λ i. has_wrong_sum d && not (not (goes_in (side i)) && offload i)) ∙ and_right (has_wrong_sum d) false refl in
    let holds = and_parts (d.head.protocol == 17) (u_sum settings d) (found_passes (holds_dgram settings live d) datagram_rows rules.USum h) in
    both_ways (u_sum settings d) spared holds.1
