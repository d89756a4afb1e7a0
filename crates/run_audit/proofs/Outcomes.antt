-- By the entries of a report an audit finds one outcome in a capture: all frames sound, or one
-- first fault, or one first flaw.
use Rattle.std.proofs.Common.{◌≡◌, ◌⊎◌, ℕ, ◌+◌, ◌<◌, ◌≤◌, List, [], ◌∷◌, length, drop, Option, Some, None, Ok, Err, refl, sym, ap, ap₂, ◌∙◌, subst, arith, inl, inr, ⊎_elim, slice_get, option_map}
use Rattle.std.proofs.lemmas.Bool.{cases_order}
use Rattle.std.proofs.lemmas.Option.{slice_get_past, slice_get_cases}
use Rattle.pcap_file.specs.declared.head.Head.{Head}
use Rattle.pcap_file.specs.Flaws as found
use Rattle.pcap_file.specs.FileHead.{head_of}
use Rattle.pcap_file.specs.Records.{Packet, front_of}
use Rattle.pcap_file.specs.Capture.{ReadsTo, offset_of}
use Rattle.pcap_file.proofs.Captures.{same_records, front_of_nothing}
use Rattle.rule_book.specs.Entries.{PlainEntry}
use Rattle.era_agreement.specs.SentPackets.{Sent}
use Rattle.run_audit.specs.declared.answer.Reason.{Reason}
use Rattle.run_audit.specs.declared.answer.Reason.TheVariants as reasons
use Rattle.run_audit.specs.CaptureFindings.{frames_of, SoundFrames, FaultyFrame, FlawedFrame, IsSound, IsFaulty, IsFlawed}
use Rattle.run_audit.specs.FrameFaults.{Holds, IsFirstReason, IsFaultless}
use Rattle.run_audit.specs.FirstFault.{AreFaultless, FailsNext}
use Rattle.run_audit.specs.OwnedFrames.{Frame, frame_of, owners, owned, sent}
use Rattle.run_audit.proofs.Frames.{frames_long, owner_at, owned_more}

-- this number of sound frames, a fault with the number of its frame, or a flaw with its offset
pub data Outcome : Type 0 where
  all_sound : (frames : ℕ) → Outcome
  first_fault : (number : ℕ) (reason : Reason) → Outcome
  first_flaw : (flaw : found.Flaw) (offset : ℕ) → Outcome

-- a frame has at most one first reason, and a frame without a fault has none
first_one : (hops : ℕ) (older : List Sent) (f : Frame) (r s : Reason) → IsFirstReason hops older f r → IsFirstReason hops older f s → r ≡ s
first_one hops older f reasons.Count s a b = absurd a.holds
first_one hops older f reasons.Plain reasons.Count a b = absurd b.holds
first_one hops older f reasons.Plain reasons.Plain a b = refl
first_one hops older f reasons.Plain reasons.Base a b = absurd (b.none_before.1.0 a.holds)
first_one hops older f reasons.Plain reasons.Syn a b = absurd (b.none_before.1.0 a.holds)
first_one hops older f reasons.Plain reasons.Octet a b = absurd (b.none_before.1.0 a.holds)
first_one hops older f reasons.Plain reasons.Fin a b = absurd (b.none_before.1.0 a.holds)
first_one hops older f reasons.Base reasons.Count a b = absurd b.holds
first_one hops older f reasons.Base reasons.Plain a b = absurd (a.none_before.1.0 b.holds)
first_one hops older f reasons.Base reasons.Base a b = refl
first_one hops older f reasons.Base reasons.Syn a b = absurd (b.none_before.1.1.0 a.holds)
first_one hops older f reasons.Base reasons.Octet a b = absurd (b.none_before.1.1.0 a.holds)
first_one hops older f reasons.Base reasons.Fin a b = absurd (b.none_before.1.1.0 a.holds)
first_one hops older f reasons.Syn reasons.Count a b = absurd b.holds
first_one hops older f reasons.Syn reasons.Plain a b = absurd (a.none_before.1.0 b.holds)
first_one hops older f reasons.Syn reasons.Base a b = absurd (a.none_before.1.1.0 b.holds)
first_one hops older f reasons.Syn reasons.Syn a b = refl
first_one hops older f reasons.Syn reasons.Octet a b = absurd (b.none_before.1.1.1.0 a.holds)
first_one hops older f reasons.Syn reasons.Fin a b = absurd (b.none_before.1.1.1.0 a.holds)
first_one hops older f reasons.Octet reasons.Count a b = absurd b.holds
first_one hops older f reasons.Octet reasons.Plain a b = absurd (a.none_before.1.0 b.holds)
first_one hops older f reasons.Octet reasons.Base a b = absurd (a.none_before.1.1.0 b.holds)
first_one hops older f reasons.Octet reasons.Syn a b = absurd (a.none_before.1.1.1.0 b.holds)
first_one hops older f reasons.Octet reasons.Octet a b = refl
first_one hops older f reasons.Octet reasons.Fin a b = absurd (b.none_before.1.1.1.1.0 a.holds)
first_one hops older f reasons.Fin reasons.Count a b = absurd b.holds
first_one hops older f reasons.Fin reasons.Plain a b = absurd (a.none_before.1.0 b.holds)
first_one hops older f reasons.Fin reasons.Base a b = absurd (a.none_before.1.1.0 b.holds)
first_one hops older f reasons.Fin reasons.Syn a b = absurd (a.none_before.1.1.1.0 b.holds)
first_one hops older f reasons.Fin reasons.Octet a b = absurd (a.none_before.1.1.1.1.0 b.holds)
first_one hops older f reasons.Fin reasons.Fin a b = refl

none_holds : (hops : ℕ) (older : List Sent) (f : Frame) (r : Reason) → Holds hops older f r → IsFaultless hops older f → ⊥
none_holds hops older f reasons.Count h right = h
none_holds hops older f reasons.Plain h right = h right.read
none_holds hops older f reasons.Base h right = absurd (cc (h, right.base))
none_holds hops older f reasons.Syn h right = absurd (cc (h, right.syn))
none_holds hops older f reasons.Octet h right = absurd (cc (h, right.octet))
none_holds hops older f reasons.Fin h right = absurd (cc (h, right.fin))

module _ (hops : ℕ) (head : Head) (entries : List PlainEntry) (all : List ℕ) where
  -- the octets after some frames, each of which belongs to an entry and has no fault
  record Behind (packets : List Packet) (left : List ℕ) : Type 0 where
    reads : ReadsTo head.order all packets left
    each_owned : length packets ≤ length (owners entries)
    faultless : AreFaultless hops (owned head.link (owners entries) (frames_of packets))

  -- one more frame, which belongs to an entry and has no fault
  record More (packets : List Packet) (left : List ℕ) : Type 0 where
    packet : Packet
    rest : List ℕ
    entry : PlainEntry
    stands : front_of head.order (length packets) left ≡ Ok (Some (packet, rest))
    owner : slice_get (owners entries) (length packets) ≡ Some entry
    right : IsFaultless hops (sent (owned head.link (owners entries) (frames_of packets))) (frame_of head.link packet.octets entry)

  has_owner : (n : ℕ) → n < length (owners entries) → (e : PlainEntry) × (slice_get (owners entries) n ≡ Some e)
  has_owner n less = ⊎_elim (λ h. (h.0, h.2)) (λ h. let k = h.0 in absurd (omega (arith, less, k))) (slice_get_cases (owners entries) n).1

  -- the shorter of two such lists of frames is followed by one more
  goes : (ps qs : List Packet) (l m : List ℕ) → Behind qs m → ReadsTo head.order all ps l → length ps < length qs → More ps l
  goes ps [] l m b reads less = absurd (omega (arith, less))
  goes ps (q ∷ qs) l m b reads less = by (cases_order (length ps) (length qs)) (λ older less. goes ps qs l b.reads.0 older reads less)
    where
      owner : (e : PlainEntry) × (slice_get (owners entries) (length qs) ≡ Some e)
      owner = has_owner (length qs) (let h = b.each_owned in omega (arith, h))

      both : AreFaultless hops (frame_of head.link q.octets owner.0 ∷ owned head.link (owners entries) (frames_of qs))
      both = subst (AreFaultless hops) (owned_more head.link (owners entries) qs q.octets owner.0 owner.1) b.faultless

      older : Behind qs b.reads.0
      older = record { reads = b.reads.1; each_owned = (let h = b.each_owned in omega (arith, h)); faultless = both.0 }

      here : More qs b.reads.0
      here = record { packet = q; rest = m; entry = owner.0; stands = b.reads.2; owner = owner.1; right = both.1 }

      by : (length ps ≡ length qs) ⊎ ((length ps < length qs) ⊎ (length qs < length ps)) → (Behind qs b.reads.0 → length ps < length qs → More ps l) → More ps l
      by (inl same) go =
          let one = same_records head.order all ps qs l b.reads.0 reads b.reads.1 same in
          let P : List Packet → Type 0 = λ xs. More xs l in
          let Q : List ℕ → Type 0 = λ xs. More qs xs in
          subst P (sym one.0) (subst Q (sym one.1) here)
      by (inr (inl fewer)) go = go older fewer
      by (inr (inr more)) go = absurd (omega (arith, less, more))

  -- such frames, after which this is found
  abbrev Fails : List Packet → (next : Option (Packet × List ℕ)) → (owner : Option PlainEntry) → Reason → Type 0
  Fails packets next owner reason =
      FailsNext hops head.link (sent (owned head.link (owners entries) (frames_of packets))) (option_map (λ (n : Packet × List ℕ). n.0.octets) next) owner reason

  abbrev owner_behind : List Packet → Option PlainEntry
  owner_behind packets = slice_get (owners entries) (length (frames_of packets))

  abbrev Found : List Packet → List ℕ → Outcome → Type 0
  Found packets left (all_sound frames) = (left ≡ []) × (owner_behind packets ≡ None) × (frames ≡ length packets)
  Found packets left (first_fault number reason) =
      (next : Option (Packet × List ℕ)) × (front_of head.order (length packets) left ≡ Ok next) × Fails packets next (owner_behind packets) reason
      × (number ≡ length packets + 1)
  Found packets left (first_flaw what offset) = (front_of head.order (length packets) left ≡ Err what) × (offset ≡ offset_of packets)

  pub record Finds (outcome : Outcome) : Type 0 where
    packets : List Packet
    left : List ℕ
    behind : Behind packets left
    found : Found packets left outcome

  pub sound_finds : (n : ℕ) → SoundFrames hops head entries all n → Finds (all_sound n)
  sound_finds n s =
      let many = s.none.as_many in
      let long = frames_long s.packets in
      record {
        packets = s.packets;
        left = [];
        behind = record { reads = s.reads; each_owned = omega (arith, many, long); faultless = s.none.faultless };
        found = (refl, slice_get_past (owners entries) (length (frames_of s.packets)) (omega (arith, many)), s.count);
      }

  pub fault_finds : (n : ℕ) (r : Reason) → FaultyFrame hops head entries all n r → Finds (first_fault n r)
  fault_finds n r s =
      let owned = s.first.each_owned in
      let long = frames_long s.packets in
      let number = s.first.number_is in
      record {
        packets = s.packets;
        left = s.left;
        behind = record { reads = s.reads; each_owned = omega (arith, owned, long); faultless = s.first.faultless };
        found = (s.next, s.stands, s.first.fails, omega (arith, number, long));
      }

  pub flaw_finds : (f : found.Flaw) (o : ℕ) → FlawedFrame hops head entries all f o → Finds (first_flaw f o)
  flaw_finds f o s =
      record {
        packets = s.packets;
        left = s.left;
        behind = record { reads = s.reads; each_owned = s.each_owned; faultless = s.faultless };
        found = (s.stands, s.place);
      }

  -- no further frame without a fault follows
  no_more : (packets : List Packet) (left : List ℕ) (o : Outcome) → Found packets left o → More packets left → ⊥
  no_more packets left (all_sound n) f m =
      let none = ap (front_of head.order (length packets)) f.0 ∙ front_of_nothing head.order (length packets) in
      let some = m.stands in
      absurd (cc (none, some))
  no_more packets left (first_fault n r) f m =
      let next : f.0 ≡ Some (m.packet, m.rest) = (let e = sym f.1 ∙ m.stands in cc e) in
      let P : Option (Packet × List ℕ) → Type 0 = λ o. Fails packets o (Some m.entry) r in
      let Q : Option PlainEntry → Type 0 = λ o. Fails packets f.0 o r in
      none_holds hops (sent (owned head.link (owners entries) (frames_of packets))) (frame_of head.link m.packet.octets m.entry) r
      (subst P next (subst Q (owner_at (owners entries) packets (Some m.entry) m.owner) f.2)).holds m.right
  no_more packets left (first_flaw what o) f m = let none = f.0 in let some = m.stands in absurd (cc (none, some))

  -- there is at most one next fault
  next_one : (packets : List Packet) (next : Option (Packet × List ℕ)) (owner : Option PlainEntry) (r s : Reason) → Fails packets next owner r
      → Fails packets next owner s → r ≡ s
  next_one packets None None r s a b = absurd a
  next_one packets None (Some e) r s a b = a ∙ sym b
  next_one packets (Some n) None r s a b = a ∙ sym b
  next_one packets (Some n) (Some e) r s a b =
      first_one hops (sent (owned head.link (owners entries) (frames_of packets))) (frame_of head.link n.0.octets e) r s a b

  sound_no_fault : (packets : List Packet) (left : List ℕ) (n m : ℕ) (r : Reason) → Found packets left (all_sound n) → Found packets left (first_fault m r) → ⊥
  sound_no_fault packets left n m r a b =
      let none = ap (front_of head.order (length packets)) a.0 ∙ front_of_nothing head.order (length packets) in
      let next : b.0 ≡ None = (let e = sym b.1 ∙ none in cc e) in
      let P : Option (Packet × List ℕ) → Type 0 = λ o. Fails packets o None r in
      let Q : Option PlainEntry → Type 0 = λ o. Fails packets b.0 o r in
      subst P next (subst Q a.1 b.2)

  sound_no_flaw : (packets : List Packet) (left : List ℕ) (n o : ℕ) (f : found.Flaw) → Found packets left (all_sound n) → Found packets left (first_flaw f o) → ⊥
  sound_no_flaw packets left n o f a b =
      let none = ap (front_of head.order (length packets)) a.0 ∙ front_of_nothing head.order (length packets) in
      let other = b.0 in
      absurd (cc (none, other))

  fault_no_flaw : (packets : List Packet) (left : List ℕ) (n o : ℕ) (r : Reason) (f : found.Flaw) → Found packets left (first_fault n r)
      → Found packets left (first_flaw f o) → ⊥
  fault_no_flaw packets left n o r f a b = let e = a.1 in let g = b.0 in absurd (cc (e, g))

  found_one : (packets : List Packet) (left : List ℕ) (x y : Outcome) → Found packets left x → Found packets left y → x ≡ y
  found_one packets left (all_sound n) (all_sound m) a b = ap all_sound (a.2 ∙ sym b.2)
  found_one packets left (all_sound n) (first_fault m r) a b = absurd (sound_no_fault packets left n m r a b)
  found_one packets left (all_sound n) (first_flaw f o) a b = absurd (sound_no_flaw packets left n o f a b)
  found_one packets left (first_fault n r) (all_sound m) a b = absurd (sound_no_fault packets left m n r b a)
  found_one packets left (first_fault n r) (first_fault m s) a b =
      let next : b.0 ≡ a.0 = (let e = sym b.1 ∙ a.1 in cc e) in
      let P : Option (Packet × List ℕ) → Type 0 = λ o. Fails packets o (owner_behind packets) s in
      ap₂ first_fault (a.3 ∙ sym b.3) (next_one packets a.0 (owner_behind packets) r s a.2 (subst P next b.2))
  found_one packets left (first_fault n r) (first_flaw f o) a b = absurd (fault_no_flaw packets left n o r f a b)
  found_one packets left (first_flaw f o) (all_sound m) a b = absurd (sound_no_flaw packets left m o f b a)
  found_one packets left (first_flaw f o) (first_fault m s) a b = absurd (fault_no_flaw packets left m o s f b a)
  found_one packets left (first_flaw f o) (first_flaw g p) a b = ap₂ first_flaw (let e = sym a.0 ∙ b.0 in cc e) (a.1 ∙ sym b.1)

  pub finds_one : (x y : Outcome) → Finds x → Finds y → x ≡ y
  finds_one x y a b = by (cases_order (length a.packets) (length b.packets))
    where
      same : length a.packets ≡ length b.packets → x ≡ y
      same long =
          let one = same_records head.order all a.packets b.packets a.left b.left a.behind.reads b.behind.reads long in
          let P : List Packet → Type 0 = λ ps. Found ps a.left x in
          let Q : List ℕ → Type 0 = λ l. Found b.packets l x in
          found_one b.packets b.left x y (subst Q one.1 (subst P one.0 a.found)) b.found

      by : (length a.packets ≡ length b.packets) ⊎ ((length a.packets < length b.packets) ⊎ (length b.packets < length a.packets)) → x ≡ y
      by (inl long) = same long
      by (inr (inl fewer)) = absurd (no_more a.packets a.left x a.found (goes a.packets b.packets a.left b.left b.behind a.behind.reads fewer))
      by (inr (inr more)) = absurd (no_more b.packets b.left y b.found (goes b.packets a.packets b.left a.left a.behind b.behind.reads more))

-- an audit of this capture has this outcome
abbrev pub HasOutcome : (hops : ℕ) → List PlainEntry → (capture : List ℕ) → Outcome → Type 0
HasOutcome hops entries capture (all_sound frames) = IsSound hops entries capture frames
HasOutcome hops entries capture (first_fault number reason) = IsFaulty hops entries capture number reason
HasOutcome hops entries capture (first_flaw what offset) = IsFlawed hops entries capture what offset

-- its head is refused, or this is found after it
abbrev Begins : (hops : ℕ) → List PlainEntry → (capture : List ℕ) → Outcome → Type 0
Begins hops entries capture outcome =
    ((what : found.Flaw) × (head_of capture ≡ Err what) × (outcome ≡ first_flaw what 0))
    ⊎ ((head : Head) × (head_of capture ≡ Ok head) × Finds hops head entries (drop 24 capture) outcome)

begins : (hops : ℕ) (entries : List PlainEntry) (c : List ℕ) (x : Outcome) → HasOutcome hops entries c x → Begins hops entries c x
begins hops entries c (all_sound n) a = inr (a.head, a.accepted, sound_finds hops a.head entries (drop 24 c) n a.behind)
begins hops entries c (first_fault n r) a = inr (a.head, a.accepted, fault_finds hops a.head entries (drop 24 c) n r a.behind)
begins hops entries c (first_flaw f o) (inl a) = inl (f, a.0, ap (first_flaw f) a.1)
begins hops entries c (first_flaw f o) (inr a) = inr (a.head, a.accepted, flaw_finds hops a.head entries (drop 24 c) f o a.behind)

pub outcome_one : (hops : ℕ) (entries : List PlainEntry) (c : List ℕ) (x y : Outcome) → HasOutcome hops entries c x → HasOutcome hops entries c y
    → x ≡ y
outcome_one hops entries c x y a b = by (begins hops entries c x a) (begins hops entries c y b)
  where
    by : Begins hops entries c x → Begins hops entries c y → x ≡ y
    by (inl s) (inl t) = let same : s.0 ≡ t.0 = (let e = sym s.1 ∙ t.1 in cc e) in s.2 ∙ ap (λ f. first_flaw f 0) same ∙ sym t.2
    by (inl s) (inr t) = let e = s.1 in let f = t.1 in absurd (cc (e, f))
    by (inr s) (inl t) = let e = s.1 in let f = t.1 in absurd (cc (e, f))
    by (inr s) (inr t) =
        let same : s.0 ≡ t.0 = (let e = sym s.1 ∙ t.1 in cc e) in
        let P : Head → Type 0 = λ h. Finds hops h entries (drop 24 c) x in
        finds_one hops t.0 entries (drop 24 c) x y (subst P same s.2) t.2
