-- What is parsed of a segment: of one that was written, of one with its checksum rewritten, and
-- where the options decide.
use Rattle.std.proofs.Common.{◌≡◌, ℕ, ◌-◌, ◌+◌, ◌≤◌, ◌&&◌, ◌||◌, nat_lt, not, Bool, true, false, List, length, take, drop, Some, None, Ok, Err, if◌then◌else◌, refl, sym, ap, ◌∙◌, arith, zero, suc, ◌*◌, ◌/◌, ◌<◌, [], ◌∷◌, ◌++◌, ap₂, length-take-le, length-drop, append_assoc, ◌%◌, slice_index}
use Rattle.std.proofs.lemmas.List.{drop-take, drop-drop, drop_at, take_at, length-append}
use Rattle.std.proofs.lemmas.Bool.Decides.{nat_tests}
use Rattle.wire_base.specs.Tcp as tcp
use Rattle.wire_base.specs.Options.{are_well_formed}
use Rattle.wire_base.specs.ParseResults.{value_or_fault}
use Rattle.wire_base.specs.Numbers.{with_u16, u16_octets}
use Rattle.wire_base.specs.Checksums.{word_sum, checksum_for, is_right, sum_is_right}
use Rattle.wire_base.proofs.Octets.{word_sum-with_u16, checksum_for-below, is_right-checked, two-octets, four-octets}
use Rattle.wire_base.specs.Segments.{Segment}
use Rattle.tcp_codec.specs.declared.header.Tcp.{Tcp}
use Rattle.tcp_codec.specs.declared.header.SumRule.{SumRule}
use Rattle.tcp_codec.specs.declared.header.TcpFault.TheVariants.{Options}
use Rattle.tcp_codec.specs.HeaderFields.{fields_of, fault_of, is_judged, parsed}
use Rattle.tcp_codec.specs.MendedSegment.{mended, SaysTheSame}
use Rattle.tcp_codec.specs.declared.header.SumRule.TheVariants.{Must, Skip}
use Rattle.tcp_codec.specs.WrittenSegment.{AreReadBack, Fits, checksum_of, header_of, octets_with, pseudo_of, segment_octets}

-- The result of parsing where the first faults do not hold.

-- the option area is the octets from offset 20 to the header length
pub area_is : (m : List ℕ) (header : ℕ) → header ≡ tcp.header_length m → 20 ≤ header → take (header - 20) (drop 20 m) ≡ tcp.options m
area_is m header e some =
    let sum : 20 + (header - 20) ≡ tcp.header_length m = omega arith in
    sym (drop-take 20 (header - 20) m) ∙ ap (λ n. drop 20 (take n m)) sum

-- with a whole header, an accepted checksum and legal flags, the options decide
pub fault_of-options : (rule : SumRule) (pseudo : ℕ) (m : List ℕ) (formed : Bool) → 20 ≤ length m → 20 ≤ tcp.header_length m → tcp.header_length m ≤ length m → (is_judged rule && tcp.has_wrong_sum pseudo m) ≡ false → tcp.are_legal (tcp.flags m) ≡ true → are_well_formed (tcp.options m) ≡ formed → fault_of rule pseudo m ≡ (if not formed then Some Options else None)
fault_of-options rule pseudo m formed whole some inside judged legal e =
    let short : nat_lt (length m) 20 ≡ false = grind (arith, nat_tests) in
    let header : (nat_lt (tcp.header_length m) 20 || nat_lt (length m) (tcp.header_length m)) ≡ false = grind (arith, nat_tests) in
    let flags : not (tcp.are_legal (tcp.flags m)) ≡ false = ap not legal in
    rw (short, header, judged, flags, e) refl

-- the same with the parsed fields
pub parsed-options : (rule : SumRule) (pseudo : ℕ) (m : List ℕ) (head : Tcp) (formed : Bool) → head ≡ fields_of pseudo m → 20 ≤ length m → 20 ≤ head.header → head.header ≤ length m → (is_judged rule && not head.sum_right) ≡ false → tcp.are_legal head.flags.0 ≡ true → are_well_formed (take (head.header - 20) (drop 20 m)) ≡ formed → parsed rule pseudo m ≡ (if formed then Ok head else Err Options)
parsed-options rule pseudo m head formed e whole some inside judged legal area =
    let header : head.header ≡ tcp.header_length m = ap (λ h. h.header) e in
    let sum = ap (λ (h : Tcp). is_judged rule && not h.sum_right) (sym e) ∙ judged in
    let flags = ap (λ (h : Tcp). tcp.are_legal h.flags.0) (sym e) ∙ legal in
    let options = ap are_well_formed (sym (area_is m head.header header some)) ∙ area in
    let fault = fault_of-options rule pseudo m formed whole (omega arith) (omega arith) sum flags options in
    ap (value_or_fault (fields_of pseudo m)) fault ∙ ap (λ h. value_or_fault h (if not formed then Some Options else None)) (sym e) ∙ by_area head formed
  where
    by_area : (head : Tcp) (formed : Bool) → value_or_fault head (if not formed then Some Options else None) ≡ (if formed then Ok head else Err Options)
    by_area head true = refl
    by_area head false = refl

-- Parsing a segment with its checksum rewritten.

-- octets before the offset `n`
pub front : (xs ys : List ℕ) (n i : ℕ) → n ≤ length xs → i < n → slice_index (take n xs ++ ys) i ≡ slice_index xs i
front xs ys zero i le lt = absurd (omega arith)
front [] ys (suc n) i le lt = absurd (omega arith)
front (x ∷ xs) ys (suc n) zero le lt = refl
front (x ∷ xs) ys (suc n) (suc i) le lt = front xs ys n i (omega arith) (omega arith)

shape : (m : List ℕ) (n : ℕ) → with_u16 m 16 n ≡ take 16 m ++ (u16_octets n ++ drop 18 m)
shape m n = append_assoc (take 16 m) (u16_octets n) (drop 18 m)

-- octets after the checksum
behind : (m : List ℕ) (n : ℕ) → 18 ≤ length m → drop 18 (with_u16 m 16 n) ≡ drop 18 m
behind m n le =
    ap (drop 18) (shape m n) ∙ (sym (drop-drop 2 16 (take 16 m ++ (u16_octets n ++ drop 18 m))) ∙ ap (drop 2) (drop_at (take 16 m) (u16_octets n ++ drop 18 m) 16 (length-take-le 16 m (omega arith))))

behind_more : (m : List ℕ) (n k : ℕ) → 18 ≤ length m → drop (18 + k) (with_u16 m 16 n) ≡ drop (18 + k) m
behind_more m n k le = sym (drop-drop k 18 (with_u16 m 16 n)) ∙ (ap (drop k) (behind m n le) ∙ drop-drop k 18 m)

pub says_the_same : (n : ℕ) (m : List ℕ) → 20 ≤ length m → 20 ≤ tcp.header_length m → SaysTheSame (with_u16 m 16 n) m
says_the_same n m long words =
    let at : (i : ℕ) → i < 16 → slice_index (with_u16 m 16 n) i ≡ slice_index m i = λ i lt. ap (λ l. slice_index l i) (shape m n) ∙ front m (u16_octets n ++ drop 18 m) 16 i (omega arith) lt in
    let two : (i : ℕ) → i < 15 → 256 * slice_index (with_u16 m 16 n) i + slice_index (with_u16 m 16 n) (i + 1) ≡ 256 * slice_index m i + slice_index m (i + 1) =
    λ i lt. ap₂ (λ a b. 256 * a + b) (at i (omega arith)) (at (i + 1) (omega arith)) in
    let header : tcp.header_length (with_u16 m 16 n) ≡ tcp.header_length m = ap (λ x. 4 * (x / 16)) (at 12 (omega arith)) in
    let k = tcp.header_length m - 20 in
    let h : tcp.header_length m ≡ 20 + k = omega arith in
    let h_more : tcp.header_length m ≡ 18 + (k + 2) = omega arith in
    record {
      source_port = two 0 (omega arith);
      destination_port = two 2 (omega arith);
      sequence = ap₂ (λ a b. 65536 * a + b) (two 4 (omega arith)) (two 6 (omega arith));
      acknowledgment = ap₂ (λ a b. 65536 * a + b) (two 8 (omega arith)) (two 10 (omega arith));
      flags = at 13 (omega arith);
      window = two 14 (omega arith);
      options = ap (λ l. drop 20 (take l (with_u16 m 16 n))) (header ∙ h) ∙ (drop-take 20 k (with_u16 m 16 n)
          ∙ (ap (take k) (behind_more m n 2 (omega arith)) ∙ (sym (drop-take 20 k m) ∙ ap (λ l. drop 20 (take l m)) (sym h))));
      payload = ap (λ l. drop l (with_u16 m 16 n)) (header ∙ h_more) ∙ (behind_more m n (k + 2) (omega arith) ∙ ap (λ l. drop l m) (sym h_more));
      size = size_is;
    }
  where
    size_is : length (with_u16 m 16 n) ≡ length m
    size_is =
        let a = length-append (take 16 m) (u16_octets n ++ drop 18 m) in
        let b = length-append (u16_octets n) (drop 18 m) in
        let c = length-take-le 16 m (omega arith) in
        let d : length (drop 18 m) ≡ length m - 18 = length-drop 18 m in
        let e = ap length (shape m n) in
        omega (arith, a, b, c, d, e)

-- a second write of the checksum replaces the first
pub written_once : (m : List ℕ) (a b : ℕ) → 18 ≤ length m → with_u16 (with_u16 m 16 a) 16 b ≡ with_u16 m 16 b
written_once m a b le =
    ap₂ (λ x y. x ++ u16_octets b ++ y) (ap (take 16) (shape m a) ∙ take_at (take 16 m) (u16_octets a ++ drop 18 m) 16 (length-take-le 16 m (omega arith))) (behind m a le)

-- a segment with its checksum rewritten has a right checksum
pub sum_is_right-mended : (pseudo : ℕ) (m : List ℕ) → 18 ≤ length m → sum_is_right (mended pseudo m) pseudo ≡ true
sum_is_right-mended pseudo m whole =
    let rest = pseudo + word_sum (with_u16 m 16 0) in
    let sum : word_sum (mended pseudo m) ≡ word_sum (with_u16 m 16 0) + checksum_for rest = word_sum-with_u16 8 m (checksum_for rest) (omega arith) (checksum_for-below rest) in
    let total : pseudo + word_sum (mended pseudo m) ≡ rest + checksum_for rest = omega (arith, sum) in
    ap is_right total ∙ is_right-checked rest

-- Parsing a written segment.

-- the header length from the data offset of four bits
header-words : (n : ℕ) → n % 4 ≡ 0 → n ≤ 40 → 4 * (16 * ((20 + n) / 4) / 16) ≡ 20 + n
header-words n words room = omega arith

reserved-words : (n : ℕ) → 16 * n % 16 ≡ 0
reserved-words n = omega arith

-- the parts of a written segment
pub length-octets_with : (s : Segment) (checksum : ℕ) → length (octets_with s checksum) ≡ 20 + length s.options + length s.octets
length-octets_with s checksum =
    let parts = length-append s.options s.octets in
    omega (arith, parts)

pub options-written : (s : Segment) (checksum : ℕ) → Fits s → tcp.options (octets_with s checksum) ≡ s.options
options-written s checksum fits =
    let m = octets_with s checksum in
    ap (λ n. drop 20 (take n m)) (header-words (length s.options) fits.words fits.room) ∙ drop-take 20 (length s.options) m ∙ take_at s.options s.octets _ refl

pub payload-written : (s : Segment) (checksum : ℕ) → Fits s → tcp.payload (octets_with s checksum) ≡ s.octets
payload-written s checksum fits =
    let m = octets_with s checksum in
    ap (λ n. drop n m) (header-words (length s.options) fits.words fits.room) ∙ sym (drop-drop (length s.options) 20 m) ∙ drop_at s.options s.octets _ refl

-- its checksum is right
pub sum-written : (s : Segment) → sum_is_right (segment_octets s) (pseudo_of s) ≡ true
sum-written s =
    let m = octets_with s 0 in
    let rest = pseudo_of s + word_sum m in
    let whole : 2 * 8 + 2 ≤ length m = let count = length-octets_with s 0 in omega arith in
    let sum : word_sum (segment_octets s) ≡ word_sum m + checksum_for rest = word_sum-with_u16 8 m (checksum_for rest) whole (checksum_for-below rest) in
    let total : pseudo_of s + word_sum (segment_octets s) ≡ rest + checksum_for rest = omega (arith, sum) in
    ap is_right total ∙ is_right-checked rest

pub fields-written : (s : Segment) → Fits s → fields_of (pseudo_of s) (segment_octets s) ≡ header_of s
fields-written s fits =
    λ i.
    record {
      sport = two-octets s.source_port fits.source_port i;
      dport = two-octets s.destination_port fits.destination_port i;
      seq = four-octets s.sequence fits.sequence i;
      ack = four-octets s.acknowledgment fits.acknowledgment i;
      header = header-words (length s.options) fits.words fits.room i;
      reserved = reserved-words ((20 + length s.options) / 4) i;
      flags = record { 0 = s.flags };
      window = two-octets s.window fits.window i;
      sum_right = sum-written s i;
      urgent = 0;
    }

pub read_back : AreReadBack
read_back s fits = record {
  header = fields-written s fits;
  options = options-written s (checksum_of s) fits;
  octets = payload-written s (checksum_of s) fits;
  parsed = λ legal formed rule.
      let m = segment_octets s in
      let header : tcp.header_length m ≡ 20 + length s.options = header-words (length s.options) fits.words fits.room in
      let count : length m ≡ 20 + length s.options + length s.octets = length-octets_with s (checksum_of s) in
      let none = fault_of-options rule (pseudo_of s) m true (omega arith) (omega arith) (omega arith) (let_through rule (ap not (sum-written s))) legal (ap are_well_formed (options-written s (checksum_of s) fits) ∙ formed) in
      (λ i. value_or_fault (fields-written s fits i) (none i));
}
  where
    let_through : (rule : SumRule) {wrong : Bool} → wrong ≡ false → (is_judged rule && wrong) ≡ false
    let_through Must e = e
    let_through Skip e = refl
