-- What octets begin with, a file's head or a record: they are found in what was read, and read back
-- from what was written.
use Rattle.std.proofs.Common.{◌≡◌, ◌≢◌, ℕ, ◌+◌, ◌*◌, ◌<◌, ◌≤◌, List, [], ◌++◌, length, take, drop, slice_index, Some, None, Ok, Err, sym, ap, ◌∙◌, subst, arith, append_assoc, add-zero, Bool, refl, ◌^◌, true, false, Option, Result}
use Rattle.std.proofs.lemmas.List.{take_all, take_at, drop_at, length-append, length-take-le, get_or_append_left, drop_all}
use Rattle.std.proofs.lemmas.Bool.Decides.{nat_tests}
use Rattle.std.proofs.KnownBytes.{Consumes-trans}
use Rattle.std.specs.Io.KnownBytes.{Consumes, IsAtEnd}
use Rattle.std.proofs.lemmas.Nat.{from_le_bytes-to_le_bytes_4, from_be_bytes-to_be_bytes_4}
use Rattle.edge_io.specs.KnownOctets.{TakesFewer}
use Rattle.wire_base.specs.declared.address.Link.{Link}
use Rattle.wire_base.specs.declared.address.Link.TheVariants.{Ethernet, Raw}
use Rattle.pcap_file.specs.declared.record.Order.{Order}
use Rattle.pcap_file.specs.declared.record.Order.TheVariants.{Little, Big}
use Rattle.pcap_file.specs.FileNumbers.{u16_at, u32_at}
use Rattle.pcap_file.specs.Flaws.{cut_short, too_long, too_many, Flaw}
use Rattle.pcap_file.specs.Records.{Packet, front_of, sized_at, packet_of, captured, record_head}
use Rattle.pcap_file.specs.RecordReading.{Leaves, HasFlaw, TakesAtMost, TakesPart, StopsAt}
use Rattle.pcap_file.specs.declared.head.Head.{Head}
use Rattle.pcap_file.specs.declared.head.HeadFault.{HeadFault}
use Rattle.pcap_file.specs.declared.head.HeadFault.TheVariants as faults
use Rattle.pcap_file.specs.FileHead.{head_of, head_by, form_of, head_octets}
use Rattle.pcap_file.specs.HeadReading.{Begins, ReadsHead}
use Rattle.pcap_file.specs.working.HeadParsing.{Judges}
use Rattle.pcap_file.specs.FileLaws.{HeadIsReadBack, RecordIsReadBack}

-- What octets of two reads begin with: a record's head of 16 octets, and its captured octets.

-- a number in the first octets
pub u16_at_front : (order : Order) (h y : List ℕ) (k : ℕ) → k + 2 ≤ length h → u16_at order (h ++ y) k ≡ u16_at order h k
u16_at_front Little h y k fits =
    let low : slice_index (h ++ y) k ≡ slice_index h k = get_or_append_left h y 0 k (omega arith) in
    let high : slice_index (h ++ y) (k + 1) ≡ slice_index h (k + 1) = get_or_append_left h y 0 (k + 1) (omega arith) in
    omega arith
u16_at_front Big h y k fits =
    let high : slice_index (h ++ y) k ≡ slice_index h k = get_or_append_left h y 0 k (omega arith) in
    let low : slice_index (h ++ y) (k + 1) ≡ slice_index h (k + 1) = get_or_append_left h y 0 (k + 1) (omega arith) in
    omega arith

pub u32_at_front : (order : Order) (h y : List ℕ) (k : ℕ) → k + 4 ≤ length h → u32_at order (h ++ y) k ≡ u32_at order h k
u32_at_front Little h y k fits =
    let low = u16_at_front Little h y k (omega arith) in
    let high = u16_at_front Little h y (k + 2) (omega arith) in
    ap (λ n. n + 65536 * u16_at Little (h ++ y) (k + 2)) low ∙ ap (λ n. u16_at Little h k + 65536 * n) high
u32_at_front Big h y k fits =
    let high = u16_at_front Big h y k (omega arith) in
    let low = u16_at_front Big h y (k + 2) (omega arith) in
    ap (λ n. 65536 * n + u16_at Big (h ++ y) (k + 2)) high ∙ ap (λ n. 65536 * u16_at Big h k + n) low

-- all of a buffer, if at least its length was read
pub whole : (a b : Option (List ℕ)) (h : List ℕ) (n : ℕ) → length h ≤ n → Consumes a b (take n h) → Consumes a b h
whole a b h n enough p = subst (Consumes a b) (take_all n h enough) p

-- all octets left, if the end is after the first n
pub length_to_end : (x y h : List ℕ) (n : ℕ) → n ≤ length h → x ≡ take n h ++ y → y ≡ [] → length x ≡ n
length_to_end x y h n fits split end =
    ap length split ∙ length-append (take n h) y ∙ ap (λ k. k + length y) (length-take-le n h fits) ∙ ap (λ l. n + length l) end ∙ add-zero n

pub front_short : (order : Order) (count : ℕ) (x : List ℕ) → 0 < length x → length x < 16 → front_of order count x ≡ Err cut_short
unfolding front_of
front_short order count x a b = grind (arith, nat_tests)

pub front_sized : (order : Order) (count : ℕ) (x : List ℕ) → 16 ≤ length x → front_of order count x ≡ sized_at order count x (captured order x)
unfolding front_of
front_sized order count x a = grind (arith, nat_tests)

pub sized_long : (order : Order) (count : ℕ) (x : List ℕ) (size : ℕ) → 262144 < size → sized_at order count x size ≡ Err too_long
sized_long order count x size a = grind (arith, nat_tests)

pub sized_many : (order : Order) (count : ℕ) (x : List ℕ) (size : ℕ) → size ≤ 262144 → count ≡ 4294967295 → sized_at order count x size ≡ Err too_many
sized_many order count x size a b = grind (arith, nat_tests)

pub sized_cut : (order : Order) (count : ℕ) (x : List ℕ) (size : ℕ) → size ≤ 262144 → count ≢ 4294967295 → length x < 16 + size → sized_at order count x size ≡ Err cut_short
sized_cut order count x size a b d = grind (arith, nat_tests)

pub sized_record : (order : Order) (count : ℕ) (x : List ℕ) (size : ℕ) → size ≤ 262144 → count ≢ 4294967295 → 16 + size ≤ length x
    → sized_at order count x size ≡ Ok (Some (packet_of order x size, drop (16 + size) x))
sized_record order count x size a b d = grind (arith, nat_tests)

-- fewer octets than a head are left
pub short_stop : (order : Order) (count : ℕ) (a b : Option (List ℕ)) (h : List ℕ) (n : ℕ) → n ≢ 0 → n < 16 → n ≤ length h → Consumes a b (take n h) → IsAtEnd b → StopsAt order count a b cut_short
short_stop order count a b h n some few fits p end =
    record { flawed = flawed a b p end; part = record { octets = take n h; taken = p; within = omega (arith, length-take-le n h fits) } } where
      flawed : (a b : Option (List ℕ)) → Consumes a b (take n h) → IsAtEnd b → HasFlaw order count a cut_short
      flawed None b p end = tt
      flawed (Some x) None p end = absurd p
      flawed (Some x) (Some y) p end = let size = length_to_end x y h n fits p end in front_short order count x (omega arith) (omega arith)

-- what follows from a head of 16 octets for the octets that begin with it
module _ (order : Order) (h : List ℕ) (size : ℕ) (sixteen : length h ≡ 16) (says : size ≡ u32_at order h 8) where
  at_head : (count : ℕ) (y : List ℕ) → front_of order count (h ++ y) ≡ sized_at order count (h ++ y) size
  at_head count y =
      front_sized order count (h ++ y) (omega (arith, length-append h y)) ∙ ap (sized_at order count (h ++ y)) (u32_at_front order h y 8 (omega arith) ∙ sym says)

  only_head : (a b : Option (List ℕ)) → Consumes a b h → TakesAtMost order a b
  only_head a b p = record { octets = h; taken = p; within = omega arith }

  pub long_stop : (count : ℕ) (a b : Option (List ℕ)) → Consumes a b h → 262144 < size → StopsAt order count a b too_long
  long_stop count a b p long = record { flawed = flawed a b p; part = only_head a b p } where
    flawed : (a b : Option (List ℕ)) → Consumes a b h → HasFlaw order count a too_long
    flawed None b p = tt
    flawed (Some x) None p = absurd p
    flawed (Some x) (Some y) p = ap (front_of order count) p ∙ at_head count y ∙ sized_long order count (h ++ y) size long

  pub many_stop : (count : ℕ) (a b : Option (List ℕ)) → Consumes a b h → size ≤ 262144 → count ≡ 4294967295 → StopsAt order count a b too_many
  many_stop count a b p small all = record { flawed = flawed a b p; part = only_head a b p } where
    flawed : (a b : Option (List ℕ)) → Consumes a b h → HasFlaw order count a too_many
    flawed None b p = tt
    flawed (Some x) None p = absurd p
    flawed (Some x) (Some y) p = ap (front_of order count) p ∙ at_head count y ∙ sized_many order count (h ++ y) size small all

  -- the head and fewer octets than its captured length are left
  pub cut_stop : (count : ℕ) (a b d : Option (List ℕ)) (body : List ℕ) (got : ℕ) → Consumes a b h → size ≤ 262144 → count ≢ 4294967295
      → Consumes b d (take got body) → got ≤ length body → got < size → IsAtEnd d → StopsAt order count a d cut_short
  cut_stop count a b d body got p small room q fits short end =
      record {
        flawed = flawed a b d p q end;
        part = record {
          octets = h ++ take got body;
          taken = Consumes-trans a b d h (take got body) p q;
          within = omega (arith, u32_at_front order h (take got body) 8 (omega arith), length-append h (take got body), length-take-le got body fits);
        };
      } where
        flawed : (a b d : Option (List ℕ)) → Consumes a b h → Consumes b d (take got body) → IsAtEnd d → HasFlaw order count a cut_short
        flawed None b d p q end = tt
        flawed (Some x) None d p q end = absurd p
        flawed (Some x) (Some y) None p q end = absurd q
        flawed (Some x) (Some y) (Some z) p q end =
            let left = length_to_end y z body got fits q end in
            ap (front_of order count) p ∙ at_head count y ∙ sized_cut order count (h ++ y) size small room (omega (arith, length-append h y))

  -- the head and octets of its captured length are left
  pub leaves_record : (count : ℕ) (a b d : Option (List ℕ)) (body : List ℕ) (packet : Packet) → Consumes a b h → size ≤ 262144 → count ≢ 4294967295
      → Consumes b d body → length body ≡ size
      → packet ≡ record { seconds = u32_at order h 0; fraction = u32_at order h 4; original = u32_at order h 12; side = None; octets = body } → Leaves order count a d packet
  leaves_record count None b d body packet p small room q sized is = tt
  leaves_record count (Some x) None d body packet p small room q sized is = absurd p
  leaves_record count (Some x) (Some y) None body packet p small room q sized is = absurd q
  leaves_record count (Some x) (Some y) (Some z) body packet p small room q sized is =
      let enough : 16 + size ≤ length (h ++ y) = omega (arith, length-append h y, ap length q, length-append body z) in
      let mine : take size (drop 16 (h ++ y)) ≡ body = ap (take size) (drop_at h y 16 sixteen ∙ q) ∙ take_at body z size sized in
      let rest : drop (16 + size) (h ++ y) ≡ z =
      ap (drop (16 + size)) (ap (λ l. h ++ l) q ∙ sym (append_assoc h body z)) ∙ drop_at (h ++ body) z (16 + size) (length-append h body ∙ omega arith) in
      let same : packet_of order (h ++ y) size ≡ packet =
      rw (u32_at_front order h y 0 (omega arith), u32_at_front order h y 4 (omega arith), u32_at_front order h y 12 (omega arith), mine) (sym is) in
      ap (front_of order count) p ∙ at_head count y ∙ sized_record order count (h ++ y) size small room enough
      ∙ ap (λ u. Ok (Some (u, drop (16 + size) (h ++ y)))) same ∙ ap (λ u. Ok (Some (packet, u))) rest

  pub part_behind_head : (a b d : Option (List ℕ)) → Consumes a b h → TakesFewer b d size → TakesPart order a d
  part_behind_head a b d p q = record {
    octets = h ++ q.0;
    taken = Consumes-trans a b d h q.0 p q.1;
    fewer = omega (arith, u32_at_front order h q.0 8 (omega arith), length-append h q.0, q.2);
  }

-- What the octets left begin with, if one read returns their first 24.

head_short : (x : List ℕ) → length x < 24 → head_of x ≡ Err cut_short
unfolding head_of
head_short x a = grind (arith, nat_tests)

pub head_whole : (x : List ℕ) → 24 ≤ length x → head_of x ≡ head_by (form_of x) x
unfolding head_of
head_whole x a = grind (arith, nat_tests)

-- the head is in the first 24 octets
head_by_front : (form : Option (Order × Bool)) (h y : List ℕ) → length h ≡ 24 → head_by form (h ++ y) ≡ head_by form h
head_by_front None h y size = refl
head_by_front (Some form) h y size =
    rw (u16_at_front form.0 h y 4 (omega arith), u16_at_front form.0 h y 6 (omega arith), u32_at_front form.0 h y 20 (omega arith)) refl

head_front : (h y : List ℕ) → length h ≡ 24 → head_of (h ++ y) ≡ head_of h
head_front h y size =
    let form : form_of (h ++ y) ≡ form_of h = rw (u32_at_front Little h y 0 (omega arith), u32_at_front Big h y 0 (omega arith)) refl in
    head_whole (h ++ y) (omega (arith, length-append h y)) ∙ head_by_front (form_of (h ++ y)) h y size
    ∙ ap (λ form. head_by form h) form ∙ sym (head_whole h (omega arith))

pub begins_short : (a b : Option (List ℕ)) (h : List ℕ) (n : ℕ) → n < 24 → n ≤ length h → Consumes a b (take n h) → IsAtEnd b → Begins a b (Err cut_short)
begins_short None b h n few fits p end = tt
begins_short (Some x) None h n few fits p end = absurd p
begins_short (Some x) (Some y) h n few fits p end =
    let size = length_to_end x y h n fits p end in
    (head_short x (omega arith), end ∙ sym (drop_all 24 x (omega arith)))

begins : (a b : Option (List ℕ)) (h : List ℕ) (verdict : Result Head Flaw) → length h ≡ 24 → Consumes a b h → head_of h ≡ verdict → Begins a b verdict
begins None b h verdict size p is = tt
begins (Some x) None h verdict size p is = absurd p
begins (Some x) (Some y) h verdict size p is =
    (ap head_of p ∙ head_front h y size ∙ is, sym (ap (drop 24) p ∙ drop_at h y 24 size))

-- the result of the first 24 octets is the result of all octets
pub judged : (a b : Option (List ℕ)) (h : List ℕ) (result : Result Head HeadFault) → length h ≡ 24 → Consumes a b h → Judges h result → ReadsHead a b result
judged a b h (Ok head) size p says = begins a b h _ size p says
judged a b h (Err faults.Cut) size p says = begins a b h _ size p says
judged a b h (Err faults.Magic) size p says = begins a b h _ size p says
judged a b h (Err faults.Version) size p says = begins a b h _ size p says
judged a b h (Err faults.Link) size p says = begins a b h _ size p says
judged a b h (Err faults.ReadFault) size p says = absurd says

-- A written record is read back.

pub head_size : (order : Order) (nano : Bool) (link : Link) → length (head_octets (record { order = order; nano = nano; link = link })) ≡ 24
unfolding head_octets
head_size Little nano link = refl
head_size Big nano link = refl

-- a head of each order, unit and link
head_says : (order : Order) (nano : Bool) (link : Link) (rest : List ℕ)
    → (let x = head_octets (record { order = order; nano = nano; link = link }) ++ rest in head_by (form_of x) x) ≡ Ok (record { order = order; nano = nano; link = link })
unfolding head_octets
head_says Little false Raw rest = refl
head_says Little false Ethernet rest = refl
head_says Little true Raw rest = refl
head_says Little true Ethernet rest = refl
head_says Big false Raw rest = refl
head_says Big false Ethernet rest = refl
head_says Big true Raw rest = refl
head_says Big true Ethernet rest = refl

pub head_read_back : HeadIsReadBack
head_read_back head rest =
    head_whole (head_octets head ++ rest) (omega (arith, length-append (head_octets head) rest, head_size head.order head.nano head.link))
    ∙ head_says head.order head.nano head.link rest

-- the numbers of a record's head, each at its offset
seconds_at : (order : Order) (seconds fraction size : ℕ) → seconds < 2 ^ 32 → seconds ≡ u32_at order (record_head order seconds fraction size) 0
unfolding record_head
seconds_at Little seconds fraction size fits = omega (arith, from_le_bytes-to_le_bytes_4 seconds fits)
seconds_at Big seconds fraction size fits = omega (arith, from_be_bytes-to_be_bytes_4 seconds fits)

fraction_at : (order : Order) (seconds fraction size : ℕ) → fraction < 2 ^ 32 → fraction ≡ u32_at order (record_head order seconds fraction size) 4
unfolding record_head
fraction_at Little seconds fraction size fits = omega (arith, from_le_bytes-to_le_bytes_4 fraction fits)
fraction_at Big seconds fraction size fits = omega (arith, from_be_bytes-to_be_bytes_4 fraction fits)

captured_at : (order : Order) (seconds fraction size : ℕ) → size < 2 ^ 32 → size ≡ u32_at order (record_head order seconds fraction size) 8
unfolding record_head
captured_at Little seconds fraction size fits = omega (arith, from_le_bytes-to_le_bytes_4 size fits)
captured_at Big seconds fraction size fits = omega (arith, from_be_bytes-to_be_bytes_4 size fits)

original_at : (order : Order) (seconds fraction size : ℕ) → size < 2 ^ 32 → size ≡ u32_at order (record_head order seconds fraction size) 12
unfolding record_head
original_at Little seconds fraction size fits = omega (arith, from_le_bytes-to_le_bytes_4 size fits)
original_at Big seconds fraction size fits = omega (arith, from_be_bytes-to_be_bytes_4 size fits)

pub record_head_size : (order : Order) (seconds fraction size : ℕ) → length (record_head order seconds fraction size) ≡ 16
unfolding record_head
record_head_size Little seconds fraction size = refl
record_head_size Big seconds fraction size = refl

pub record_read_back : RecordIsReadBack
record_read_back order count seconds fraction octets rest few s f small =
    let size = length octets in
    let h = record_head order seconds fraction size in
    ap (front_of order count) (append_assoc h octets rest)
    ∙ leaves_record order h size (record_head_size order seconds fraction size) (captured_at order seconds fraction size (omega arith)) count
    (Some (h ++ (octets ++ rest))) (Some (octets ++ rest)) (Some rest) octets _ refl small (omega arith) refl refl
    (rw (← seconds_at order seconds fraction size s, ← fraction_at order seconds fraction size f, ← original_at order seconds fraction size (omega arith)) refl)
