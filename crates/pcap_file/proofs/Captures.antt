-- All octets are a capture or have a first flaw, never both, and their records are the only ones.
use Rattle.std.proofs.Common.{◌≡◌, ℕ, ◌<◌, List, [], ◌∷◌, length, drop, Some, None, Ok, Err, refl, sym, ap, ◌∙◌, subst, arith, inl, inr, zero, suc, ◌+◌, ◌≤◌, ◌⊎◌, Result}
use Rattle.std.proofs.lemmas.Bool.{cases_lt}
use Rattle.std.proofs.lemmas.Bool.Decides.{eqb_tells}
use Rattle.std.proofs.lemmas.List.{length-take-le, length-drop, nil_from_length}
use Rattle.pcap_file.specs.declared.record.Order.{Order}
use Rattle.pcap_file.specs.declared.head.Head.{Head}
use Rattle.pcap_file.specs.Flaws.{Flaw, cut_short, too_long, too_many}
use Rattle.pcap_file.specs.FileHead.{head_of}
use Rattle.pcap_file.specs.Records.{Packet, front_of, sized_at, packet_of, captured}
use Rattle.pcap_file.specs.Capture.{ReadsTo, FailsBehindHead, offset_of, EndsWell, EndsBadly}
use Rattle.pcap_file.specs.FileLaws.{CaptureIsOne, FlawIsOne, FlawExcludesEnd, EachFileEnds}
use Rattle.pcap_file.proofs.Records.{front_short, front_sized, sized_long, sized_many, sized_cut, sized_record}

-- Octets have at most one head, one list of records and one end, which is that of a capture or a
-- first flaw.

-- two lists of equally many records are the same, and leave the same octets
pub same_records : (order : Order) (all : List ℕ) (ps qs : List Packet) (r s : List ℕ) → ReadsTo order all ps r → ReadsTo order all qs s → length ps ≡ length qs → (ps ≡ qs) × (r ≡ s)
same_records order all [] [] r s p q e = (refl, sym p ∙ q)
same_records order all [] (y ∷ qs) r s p q e = absurd (omega arith)
same_records order all (x ∷ ps) [] r s p q e = absurd (omega arith)
same_records order all (x ∷ ps) (y ∷ qs) r s p q e =
    let few : length ps ≡ length qs = omega arith in
    let before = same_records order all ps qs p.0 q.0 p.1 q.1 few in
    let left : p.0 ≡ q.0 = before.1 in
    let one : front_of order (length ps) p.0 ≡ Ok (Some (x, r)) = p.2 in
    let two : front_of order (length qs) q.0 ≡ Ok (Some (y, s)) = q.2 in
    let mine : Packet × List ℕ = (x, r) in
    let yours : Packet × List ℕ = (y, s) in
    let pairs : mine ≡ yours = cc in
    let newest : x ≡ y = ap (λ (p : Packet × List ℕ). p.0) pairs in
    let older : ps ≡ qs = before.0 in
    (cc, ap (λ (p : Packet × List ℕ). p.1) pairs)

-- the octets do not begin with a record
abbrev pub HasNoRecord : Order → ℕ → List ℕ → Type 0
HasNoRecord order count rest = (packet : Packet) (left : List ℕ) → front_of order count rest ≡ Ok (Some (packet, left)) → ⊥

-- another record follows the shorter list of records
pub goes_on : (order : Order) (all : List ℕ) (ps qs : List Packet) (r s : List ℕ) → ReadsTo order all ps r → ReadsTo order all qs s → length ps < length qs → HasNoRecord order (length ps) r → ⊥
goes_on order all ps [] r s p q h last = absurd (omega arith)
goes_on order all ps (y ∷ qs) r s p q h last =
    elim (cases_lt (length ps) (length qs)) [
      | inl less ↦ goes_on order all ps qs r q.0 p q.1 less last
      | inr more ↦
          let same : length ps ≡ length qs = omega arith in
          let left : r ≡ q.0 = (same_records order all ps qs r q.0 p q.1 same).1 in
          let two : front_of order (length qs) q.0 ≡ Ok (Some (y, s)) = q.2 in
          last y s cc
    ]

-- if no record follows either list, the lists are the same, and so are the octets left
pub one_end : (order : Order) (all : List ℕ) (ps qs : List Packet) (r s : List ℕ) → ReadsTo order all ps r → ReadsTo order all qs s
    → HasNoRecord order (length ps) r → HasNoRecord order (length qs) s → (ps ≡ qs) × (r ≡ s)
one_end order all ps qs r s p q last final =
    elim (cases_lt (length ps) (length qs)) [
      | inl less ↦ absurd (goes_on order all ps qs r s p q less last)
      | inr more ↦ elim (cases_lt (length qs) (length ps)) [
        | inl less ↦ absurd (goes_on order all qs ps s r q p less final)
        | inr other ↦ same_records order all ps qs r s p q (omega arith)
      ]
    ]

pub front_of_nothing : (order : Order) (count : ℕ) → front_of order count [] ≡ Ok None
unfolding front_of
front_of_nothing order count = refl

pub none_at_end : (order : Order) (count : ℕ) → HasNoRecord order count []
none_at_end order count = λ packet left is. let nothing = front_of_nothing order count in cc

pub none_at_flaw : (order : Order) (count : ℕ) (rest : List ℕ) (flaw : Flaw) → front_of order count rest ≡ Err flaw → HasNoRecord order count rest
none_at_flaw order count rest flaw flawed = λ packet left is. cc

pub capture_one : CaptureIsOne
capture_one octets head other ps qs p q =
    let one : head_of octets ≡ Ok head = p.accepted in
    let two : head_of octets ≡ Ok other = q.accepted in
    let same : head ≡ other = cc in
    let mine : ReadsTo head.order (drop 24 octets) qs [] = subst (λ (h : Head). ReadsTo h.order (drop 24 octets) qs []) (sym same) q.whole in
    (same, (one_end head.order (drop 24 octets) ps qs [] [] p.whole mine (none_at_end head.order (length ps)) (none_at_end head.order (length qs))).0)

behind_head : (octets : List ℕ) (flaw other : Flaw) (offset place : ℕ) → FailsBehindHead octets flaw offset → FailsBehindHead octets other place → (flaw ≡ other) × (offset ≡ place)
behind_head octets flaw other offset place p q =
    let one : head_of octets ≡ Ok p.head = p.accepted in
    let two : head_of octets ≡ Ok q.head = q.accepted in
    let same : p.head ≡ q.head = cc in
    let reads : ReadsTo p.head.order (drop 24 octets) q.packets q.rest = subst (λ (h : Head). ReadsTo h.order (drop 24 octets) q.packets q.rest) (sym same) q.reads in
    let flawed : front_of p.head.order (length q.packets) q.rest ≡ Err other = subst (λ (h : Head). front_of h.order (length q.packets) q.rest ≡ Err other) (sym same) q.flawed in
    let here : front_of p.head.order (length p.packets) p.rest ≡ Err flaw = p.flawed in
    let end = one_end p.head.order (drop 24 octets) p.packets q.packets p.rest q.rest p.reads reads (none_at_flaw _ _ _ flaw here) (none_at_flaw _ _ _ other flawed) in
    let packets : p.packets ≡ q.packets = end.0 in
    let rest : p.rest ≡ q.rest = end.1 in
    (cc, p.place ∙ ap offset_of packets ∙ sym q.place)

pub flaw_one : FlawIsOne
flaw_one octets flaw other offset place (inl p) (inl q) =
    let one : head_of octets ≡ Err flaw = p.0 in
    let two : head_of octets ≡ Err other = q.0 in
    (cc, p.1 ∙ sym q.1)
flaw_one octets flaw other offset place (inl p) (inr q) =
    let one : head_of octets ≡ Err flaw = p.0 in
    let two : head_of octets ≡ Ok q.head = q.accepted in
    absurd cc
flaw_one octets flaw other offset place (inr p) (inl q) =
    let one : head_of octets ≡ Ok p.head = p.accepted in
    let two : head_of octets ≡ Err other = q.0 in
    absurd cc
flaw_one octets flaw other offset place (inr p) (inr q) = behind_head octets flaw other offset place p q

pub flaw_no_end : FlawExcludesEnd
flaw_no_end octets head ps flaw offset p (inl q) =
    let one : head_of octets ≡ Ok head = p.accepted in
    let two : head_of octets ≡ Err flaw = q.0 in
    cc
flaw_no_end octets head ps flaw offset p (inr q) =
    let one : head_of octets ≡ Ok head = p.accepted in
    let two : head_of octets ≡ Ok q.head = q.accepted in
    let same : q.head ≡ head = cc in
    let whole : ReadsTo q.head.order (drop 24 octets) ps [] = subst (λ (h : Head). ReadsTo h.order (drop 24 octets) ps []) (sym same) p.whole in
    let end = one_end q.head.order (drop 24 octets) ps q.packets [] q.rest whole q.reads (none_at_end q.head.order (length ps)) (none_at_flaw _ _ _ flaw q.flawed) in
    let packets : ps ≡ q.packets = end.0 in
    let rest : [] ≡ q.rest = end.1 in
    let nothing = front_of_nothing q.head.order (length q.packets) in
    let flawed : front_of q.head.order (length q.packets) q.rest ≡ Err flaw = q.flawed in
    cc

-- Each list of octets is a capture or has a first flaw.

-- the octets begin with a flaw
record HasFlawHere (order : Order) (count : ℕ) (x : List ℕ) : Type 0 where
  flaw : Flaw
  flawed : front_of order count x ≡ Err flaw

-- the octets begin with a record, which takes its captured octets and 16 more
record HasRecordHere (order : Order) (count : ℕ) (x : List ℕ) : Type 0 where
  packet : Packet
  rest : List ℕ
  stands : front_of order count x ≡ Ok (Some (packet, rest))
  size : length x ≡ 16 + length packet.octets + length rest

sized_cases : (order : Order) (count : ℕ) (x : List ℕ) (size : ℕ) → front_of order count x ≡ sized_at order count x size → HasFlawHere order count x ⊎ HasRecordHere order count x
sized_cases order count x size e =
    elim (cases_lt 262144 size) [
      | inl long ↦ inl (record { flaw = too_long; flawed = e ∙ sized_long order count x size long })
      | inr small ↦ elim (eqb_tells count 4294967295) [
        | inl all ↦ inl (record { flaw = too_many; flawed = e ∙ sized_many order count x size small all.1 })
        | inr few ↦ elim (cases_lt (length x) (16 + size)) [
          | inl cut ↦ inl (record { flaw = cut_short; flawed = e ∙ sized_cut order count x size small few.1 cut })
          | inr enough ↦ inr (record {
            packet = packet_of order x size;
            rest = drop (16 + size) x;
            stands = e ∙ sized_record order count x size small few.1 enough;
            size = omega (arith, length-drop (16 + size) x, length-take-le size (drop 16 x) (omega (arith, length-drop 16 x)));
          })
        ]
      ]
    ]

-- nothing is left, or the octets begin with a flaw or a record
front_cases : (order : Order) (count : ℕ) (x : List ℕ) → (x ≡ []) ⊎ (HasFlawHere order count x ⊎ HasRecordHere order count x)
front_cases order count x =
    elim (cases_lt 0 (length x)) [
      | inr nothing ↦ inl (nil_from_length x (omega arith))
      | inl some ↦ elim (cases_lt (length x) 16) [
        | inl short ↦ inr (inl (record { flaw = cut_short; flawed = front_short order count x some short }))
        | inr whole ↦ inr (sized_cases order count x (captured order x) (front_sized order count x whole))
      ]
    ]

-- after these records the octets end without a flaw or with one; each further record takes some of
-- them, so the fuel suffices
ends_from : (fuel : ℕ) (octets : List ℕ) (head : Head) (packets : List Packet) (rest : List ℕ) → head_of octets ≡ Ok head
    → ReadsTo head.order (drop 24 octets) packets rest → length rest ≤ fuel → EndsWell octets ⊎ EndsBadly octets
ends_from zero octets head packets rest accepted reads enough =
    let nothing : rest ≡ [] = nil_from_length rest (omega arith) in
    inl (record { head = head; packets = packets; is = record { accepted = accepted; whole = subst (ReadsTo head.order (drop 24 octets) packets) nothing reads } })
ends_from (suc fuel) octets head packets rest accepted reads enough =
    elim (front_cases head.order (length packets) rest) [
      | inl nothing ↦ inl (record { head = head; packets = packets; is = record { accepted = accepted; whole = subst (ReadsTo head.order (drop 24 octets) packets) nothing reads } })
      | inr (inl here) ↦ inr (record {
        flaw = here.flaw;
        offset = offset_of packets;
        is = inr (record { head = head; packets = packets; rest = rest; accepted = accepted; reads = reads; flawed = here.flawed; place = refl });
      })
      | inr (inr here) ↦ ends_from fuel octets head (here.packet ∷ packets) here.rest accepted (rest, reads, here.stands) (omega (arith, here.size))
    ]

ends_by : (octets : List ℕ) (verdict : Result Head Flaw) → head_of octets ≡ verdict → EndsWell octets ⊎ EndsBadly octets
ends_by octets (Ok head) is = ends_from (length (drop 24 octets)) octets head [] (drop 24 octets) is refl (omega arith)
ends_by octets (Err flaw) is = inr (record { flaw = flaw; offset = 0; is = inl (is, refl) })

pub each_ends : EachFileEnds
each_ends octets = ends_by octets (head_of octets) refl
