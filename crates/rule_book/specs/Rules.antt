-- The table of rules: a line for each rule, and the order in which they are tested and named (this
-- project's profile).
use Prim.Native.String.{String}
use Rattle.std.specs.Prelude.{◌≡◌, ℕ, ◌==◌, ◌&&◌, not, Bool, true, false, List, [], ◌∷◌, ◌++◌, map, filter, find, Option, Some, codes}
use Rattle.std.specs.List.Sorted.{IsStrictlyIncreasing}
use Rattle.std.specs.Str.{bytes_eq}
use Rattle.rule_book.specs.declared.rule.Rule.{Rule}
use Rattle.rule_book.specs.declared.rule.Rule.TheVariants as rules

-- The subject of a rule: the link, the IPv4 header, its protocol, a fragment, the time to live of a
-- datagram, or UDP or ICMP. Or it is the header of a TCP segment, the era of a segment, or a frame
-- that is too long for the link.
pub data Layer : Type 0 where
  link : Layer
  header : Layer
  protocol : Layer
  fragment : Layer
  lifetime : Layer
  datagram : Layer
  segment : Layer
  era : Layer
  cut : Layer

-- what a rule does: it drops; it drops what is inbound, and is a note on what is outbound; it holds
-- a fragment; or it rewrites what is written
pub data Kind : Type 0 where
  drops : Kind
  drops_inbound : Kind
  holds : Kind
  rewrites : Kind

-- A line of the table: the number of a rule, its name in the report, its layer and kind, and what
-- the rule says in one sentence. Also whether it holds a payload, reassembles it from fragments,
-- changes it, or writes a probe instead of it or after it.
pub record Line : Type 0 where
  pub number : ℕ
  pub name : List ℕ
  pub layer : Layer
  pub kind : Kind
  pub touches : Bool
  pub sentence : List ℕ

-- the line with these values, in this order
abbrev pub line : (number : ℕ) → (name : String) → Layer → Kind → (touches : Bool) → (sentence : String) → Line
line number name layer kind touches sentence =
    record { number = number; name = codes name; layer = layer; kind = kind; touches = touches; sentence = codes sentence }

-- the line of a rule
abbrev pub line_of : Rule → Line
line_of rules.LSnap = line 1 "L_SNAP" link drops false "fewer octets were captured than the packet had"
line_of rules.LShort = line 2 "L_SHORT" link drops false "an Ethernet frame has fewer than 14 octets"
line_of rules.LType = line 3 "L_TYPE" link drops false "the EtherType is neither IPv4 nor ARP, or an ARP frame has more than 65549 octets"
line_of rules.IShort = line 4 "I_SHORT" header drops false "the packet has fewer than 20 octets"
line_of rules.IVersion = line 5 "I_VERSION" header drops false "the IP version is not 4"
line_of rules.IHlen = line 6 "I_HLEN" header drops false "the header length is below 5 words or longer than the packet"
line_of rules.ILen = line 7 "I_LEN" header drops false "the total length is below the header length or longer than the packet"
line_of rules.ISum = line 8 "I_SUM" header drops false "the checksum of the IP header is wrong"
line_of rules.ISrc = line 9 "I_SRC" header drops false "the source begins with 0, 127, or 224 and above, or equals the destination"
line_of rules.IDst = line 10 "I_DST" header drops false "the destination begins with 0, 127, or 240 and above"
line_of rules.ISide = line 11 "I_SIDE" header drops false "source and destination are both trusted, or neither is"
line_of rules.IOptBad = line 12 "I_OPT_BAD" header drops false "an IP option is malformed"
line_of rules.IRoute = line 13 "I_ROUTE" header drops false "the packet has a source route"
line_of rules.PProto = line 14 "P_PROTO" protocol drops false "the protocol is not ICMP, TCP or UDP"
line_of rules.FDf = line 15 "F_DF" fragment drops false "a fragment with an offset above 0 has DF set"
line_of rules.FEmpty = line 16 "F_EMPTY" fragment drops false "a fragment has no payload"
line_of rules.FAlign = line 17 "F_ALIGN" fragment drops false "a fragment with MF has a payload that is no multiple of 8 octets"
line_of rules.FBig = line 18 "F_BIG" fragment drops false "a fragment ends after octet 65515 of its datagram"
line_of rules.FEnd = line 19 "F_END" fragment drops false "a fragment contradicts the end of its datagram, which is forgotten"
line_of rules.FClash = line 20 "F_CLASH" fragment drops false "an octet differs from the held one at its offset, and the datagram is forgotten"
line_of rules.FMany = line 21 "F_MANY" fragment drops false "as many datagrams as --frags allows are held already"
line_of rules.FRoom = line 22 "F_ROOM" fragment drops false "the fragment needs more cells than --frag-cells leaves free"
line_of rules.UShort = line 23 "U_SHORT" datagram drops false "a UDP message has fewer than 8 octets"
line_of rules.ULen = line 24 "U_LEN" datagram drops false "the UDP length is not the length of the message"
line_of rules.USum = line 25 "U_SUM" datagram drops false "the UDP checksum is wrong"
line_of rules.MShort = line 26 "M_SHORT" datagram drops false "an ICMP message has fewer than 8 octets"
line_of rules.MSum = line 27 "M_SUM" datagram drops false "the ICMP checksum is wrong"
line_of rules.MType = line 28 "M_TYPE" datagram drops false "the ICMP type is not 0, 3, 8, 11, 12, 13 or 14"
line_of rules.MQuote = line 29 "M_QUOTE" datagram drops false "an inbound ICMP error quotes no packet from a trusted to an untrusted address, or a segment without a live era"
line_of rules.TShort = line 30 "T_SHORT" segment drops false "a segment has fewer than 20 octets"
line_of rules.THlen = line 31 "T_HLEN" segment drops false "the data offset is below 5 words or longer than the segment"
line_of rules.TSum = line 32 "T_SUM" segment drops false "the TCP checksum is wrong"
line_of rules.TFlags = line 33 "T_FLAGS" segment drops false "the combination of SYN, FIN, RST and ACK is not allowed"
line_of rules.TOptBad = line 34 "T_OPT_BAD" segment drops false "a TCP option is malformed"
line_of rules.TCold = line 35 "T_COLD" era drops false "an inbound RST, or SYN with ACK, belongs to no live era"
line_of rules.TState = line 36 "T_STATE" era drops false "an inbound segment does not fit an era that is not open yet"
line_of rules.TSyn = line 37 "T_SYN" era drops false "an inbound SYN has another sequence number than the one before its era's first octet"
line_of rules.TRst = line 38 "T_RST" era drops false "an inbound RST is outside of what its era takes"
line_of rules.TFull = line 39 "T_FULL" era drops_inbound false "an era would begin while the table is full and none can be evicted"
line_of rules.TQuota = line 60 "T_QUOTA" era drops false "the connection would hold more cells than --quota allows"
line_of rules.TRoom = line 40 "T_ROOM" era drops false "the octets of the segment need more cells than --cells leaves free"
line_of rules.ITrail = line 41 "I_TRAIL" header rewrites false "octets after the total length are cut off"
line_of rules.IOpt = line 42 "I_OPT" header rewrites false "the IP options are removed"
line_of rules.IRes = line 43 "I_RES" header rewrites false "the reserved flag of the IP header is cleared"
line_of rules.ITtl = line 44 "I_TTL" lifetime rewrites false "a time to live that is too low for the routers behind norm is raised"
line_of rules.FHeld = line 45 "F_HELD" fragment holds true "the fragment is held until its datagram is complete"
line_of rules.FDone = line 46 "F_DONE" fragment rewrites true "the fragment completes its datagram, which is judged as one packet"
line_of rules.USumOut = line 47 "U_SUM_OUT" datagram rewrites false "the checksum of an outbound UDP message is computed again"
line_of rules.TSumOut = line 48 "T_SUM_OUT" era rewrites false "the checksum of an outbound TCP segment is computed again"
line_of rules.TRes = line 49 "T_RES" era rewrites false "reserved bits of the TCP header are cleared"
line_of rules.TUrg = line 50 "T_URG" era rewrites false "URG and the urgent pointer are cleared"
line_of rules.TOpt = line 51 "T_OPT" era rewrites false "TCP options are replaced by no-operations, or octets after their end are cleared"
line_of rules.TStrip = line 52 "T_STRIP" era rewrites true "the payload of a SYN or RST is cut off"
line_of rules.CProbe = line 53 "C_PROBE" era rewrites true "a keep-alive is sent, in place of the segment or after a RST"
line_of rules.TOld = line 54 "T_OLD" era rewrites true "octets that the receiver has acknowledged are cut off"
line_of rules.TWindow = line 55 "T_WINDOW" era rewrites true "octets more than one past the window of the receiver are cut off"
line_of rules.TTurn = line 56 "T_TURN" era rewrites true "not used any more, older reports may have it"
line_of rules.TEnd = line 57 "T_END" era rewrites true "octets after the end of the stream are cut off, or a FIN that cannot be the end is cleared"
line_of rules.TClash = line 58 "T_CLASH" era rewrites true "octets that differ from those first sent at their offsets are replaced"
line_of rules.ECut = line 61 "E_CUT" cut rewrites false "the segment is too long for --mtu and is cut into segments that fit"
line_of rules.EMtu = line 62 "E_MTU" cut drops false "the packet is too long for --mtu and cannot be cut, it is not written"

-- the number of a rule
abbrev pub rule_number : Rule → ℕ
rule_number rule = (line_of rule).number

-- the name of a rule in the report
abbrev pub rule_name : Rule → List ℕ
rule_name rule = (line_of rule).name

-- what a rule says
abbrev pub sentence : Rule → List ℕ
sentence rule = (line_of rule).sentence

-- the layer of a rule
abbrev pub layer_of : Rule → Layer
layer_of rule = (line_of rule).layer

-- the rules that hold a payload, reassemble it from fragments, change it, or write a probe instead
-- of it or after it
abbrev pub touches_payload : Rule → Bool
touches_payload rule = (line_of rule).touches

-- a rule of this kind is a note on what is outbound
abbrev pub is_noted : Kind → Bool
is_noted drops_inbound = true
is_noted _ = false

-- a rule is a note on an outbound packet, which it does not drop
abbrev pub notes_outbound : Rule → Bool
notes_outbound rule = is_noted (line_of rule).kind

-- The rules that drop a packet are in one list per layer, each in the order of testing. E_MTU,
-- which drops a frame when it would be written, is in `cut_rows`.

-- the drop rules on the link
abbrev pub link_rows : List Rule
link_rows = rules.LSnap ∷ rules.LShort ∷ rules.LType ∷ []

-- the drop rules on the IPv4 header
abbrev pub header_rows : List Rule
header_rows =
    rules.IShort ∷ rules.IVersion ∷ rules.IHlen ∷ rules.ILen ∷ rules.ISum ∷ rules.ISrc ∷ rules.IDst ∷ rules.ISide ∷ rules.IOptBad ∷ rules.IRoute ∷ []

-- the drop rule on the protocol
abbrev pub protocol_rows : List Rule
protocol_rows = rules.PProto ∷ []

-- the drop rules on fragments
abbrev pub fragment_rows : List Rule
fragment_rows = rules.FDf ∷ rules.FEmpty ∷ rules.FAlign ∷ rules.FBig ∷ rules.FEnd ∷ rules.FClash ∷ rules.FMany ∷ rules.FRoom ∷ []

-- the drop rules on UDP and ICMP
abbrev pub datagram_rows : List Rule
datagram_rows = rules.UShort ∷ rules.ULen ∷ rules.USum ∷ rules.MShort ∷ rules.MSum ∷ rules.MType ∷ rules.MQuote ∷ []

-- the drop rules on the header of a TCP segment
abbrev pub segment_rows : List Rule
segment_rows = rules.TShort ∷ rules.THlen ∷ rules.TSum ∷ rules.TFlags ∷ rules.TOptBad ∷ []

-- the drop rules on eras; on an outbound packet T_FULL is a note, and drops nothing
abbrev pub era_rows : List Rule
era_rows = rules.TCold ∷ rules.TState ∷ rules.TSyn ∷ rules.TRst ∷ rules.TFull ∷ rules.TQuota ∷ rules.TRoom ∷ []

-- the rules that drop a packet before its frames are written, in the order of testing; E_MTU is not
-- among them
abbrev pub drop_rows : List Rule
drop_rows = link_rows ++ header_rows ++ protocol_rows ++ fragment_rows ++ datagram_rows ++ segment_rows ++ era_rows

-- the rules that rewrite the IPv4 header of a packet, a fragment or not
abbrev pub header_fix_rows : List Rule
header_fix_rows = rules.ITrail ∷ rules.IOpt ∷ rules.IRes ∷ []

-- the rules of a packet that is not dropped, before those of its TCP segment, in the order of the
-- line
abbrev pub fix_rows : List Rule
fix_rows = header_fix_rows ++ rules.ITtl ∷ rules.FHeld ∷ rules.FDone ∷ rules.USumOut ∷ []

-- the rules of a TCP segment that is not dropped, in the order of the line
abbrev pub step_rows : List Rule
step_rows =
    rules.TSumOut ∷ rules.TRes ∷ rules.TUrg ∷ rules.TOpt ∷ rules.TStrip ∷ rules.CProbe ∷ rules.TOld ∷ rules.TWindow ∷ rules.TTurn ∷ rules.TEnd ∷
    rules.TClash ∷ []

-- the rules of a frame that is too long for the link, which are named after all others; E_MTU drops
-- it
abbrev pub cut_rows : List Rule
cut_rows = rules.ECut ∷ rules.EMtu ∷ []

-- all rules, in the order of testing and naming
abbrev pub all_rules : List Rule
all_rules = drop_rows ++ fix_rows ++ step_rows ++ cut_rows

-- the layers, by numbers that differ
abbrev pub number_of : Layer → ℕ
number_of link = 1
number_of header = 2
number_of protocol = 3
number_of fragment = 4
number_of lifetime = 5
number_of datagram = 6
number_of segment = 7
number_of era = 8
number_of cut = 9

-- a rule is of this layer
abbrev pub is_of : Layer → Rule → Bool
is_of layer rule = number_of (layer_of rule) == number_of layer

-- a rule of this kind drops a packet, at least an inbound one
abbrev pub is_drop : Kind → Bool
is_drop drops = true
is_drop kind = is_noted kind

-- the drop rules of a layer by the table, in the order of testing
abbrev pub drops_of : Layer → List Rule
drops_of layer = filter (λ rule. is_of layer rule && is_drop (line_of rule).kind) all_rules

-- the other rules of a layer by the table, in the order of the line
abbrev pub fixes_of : Layer → List Rule
fixes_of layer = filter (λ rule. is_of layer rule && not (is_drop (line_of rule).kind)) all_rules

-- each list has the rules of its layer and kind in the table
pub record ListsAreTheTable : Type 0 where
  pub on_link : link_rows ≡ drops_of link
  pub on_header : header_rows ≡ drops_of header
  pub on_protocol : protocol_rows ≡ drops_of protocol
  pub on_fragments : fragment_rows ≡ drops_of fragment
  pub on_datagrams : datagram_rows ≡ drops_of datagram
  pub on_segments : segment_rows ≡ drops_of segment
  pub on_eras : era_rows ≡ drops_of era
  pub header_fixes : header_fix_rows ≡ fixes_of header
  pub fixes : fix_rows ≡ fixes_of header ++ fixes_of lifetime ++ fixes_of fragment ++ fixes_of datagram
  pub steps : step_rows ≡ fixes_of era
  pub cuts : cut_rows ≡ filter (is_of cut) all_rules

-- the rule of this number; None if no rule has it
abbrev pub rule_numbered : ℕ → Option Rule
rule_numbered number = find (λ rule. rule_number rule == number) all_rules

-- the rule of this name; None if no rule has it
abbrev pub rule_named : List ℕ → Option Rule
rule_named name = find (λ rule. bytes_eq (rule_name rule) name) all_rules

-- each rule is in the lists, and is found by its number
abbrev pub FoundByNumber : Type 0
FoundByNumber = (rule : Rule) → rule_numbered (rule_number rule) ≡ Some rule

-- each rule is in the lists, and is found by its name
abbrev pub FoundByName : Type 0
FoundByName = (rule : Rule) → rule_named (rule_name rule) ≡ Some rule

-- no two rules have the same number
abbrev pub NumbersDiffer : Type 0
NumbersDiffer = (one other : Rule) → rule_number one ≡ rule_number other → one ≡ other

-- no two rules have the same name
abbrev pub NamesDiffer : Type 0
NamesDiffer = (one other : Rule) → rule_name one ≡ rule_name other → one ≡ other

-- the numbers of the rules rise along the list
abbrev pub Rises : List Rule → Type 0
Rises rules = IsStrictlyIncreasing (map rule_number rules)

-- the numbers of the drop rules rise but for T_QUOTA (60), which is tested between T_FULL and
-- T_ROOM
pub record RisesButForQuota (rows : List Rule) : Type 0 where
  pub before : List Rule
  pub behind : List Rule
  pub whole : rows ≡ before ++ rules.TFull ∷ rules.TQuota ∷ rules.TRoom ∷ behind
  pub rises : Rises (before ++ rules.TFull ∷ rules.TRoom ∷ behind)
