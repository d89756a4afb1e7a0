-- From frame to frame of a capture: the owner of each, the eras named so far, and how an audit
-- ends.
use Rattle.std.proofs.Common.{◌≡◌, ℕ, zero, suc, ◌+◌, ◌<◌, ◌≤◌, ◌^◌, List, [], ◌∷◌, length, drop, Option, Some, None, refl, sym, ap, ap₂, subst, ◌∙◌, arith, ◌==◌, ◌||◌, ◌++◌, map, drop-cons, get_or, add-one, Bool, true, false, nat_eq, if◌then◌else◌, option_to_list, eq-eqb, IfSome, IsSome, slice_get, is_some, replicate}
use Rattle.std.specs.List.{AllByRecursion, list_any, flat_map}
use Rattle.std.proofs.lemmas.Option.{slice_get_past}
use Rattle.std.proofs.lemmas.List.Folds.{list_any-append}
use Rattle.std.specs.Map.{keys_of, lookup}
use Rattle.wire_base.specs.declared.address.Link.{Link}
use Rattle.wire_base.specs.Frames.{packet_in}
use Rattle.pcap_file.specs.declared.head.Head.{Head}
use Rattle.pcap_file.specs.declared.record.Order.{Order}
use Rattle.pcap_file.specs.Records.{Packet, front_of}
use Rattle.pcap_file.specs.Capture.{ReadsTo, offset_of}
use Rattle.pcap_file.specs.RecordReading.{Leaves, HasEnd, Advances}
use Rattle.pcap_file.specs.ReaderState.{Reading}
use Rattle.rule_book.specs.Entries.{PlainEntry, plain}
use Rattle.indexmap.specs.IndexMap.{get}
use Rattle.pcap_file.proofs.Captures.{front_of_nothing}
use Rattle.rule_book.specs.declared.entry.Entry.{Entry}
use Rattle.run_audit.specs.declared.answer.Reason.{Reason}
use Rattle.run_audit.specs.declared.answer.Reason.TheVariants as reasons
use Rattle.run_audit.specs.declared.owners.Owners.{Owners}
use Rattle.run_audit.specs.CaptureFindings.{frames_of, SoundFrames, FaultyFrame}
use Rattle.run_audit.specs.working.CaptureCauses.{HasEra}
use Rattle.run_audit.specs.working.EraTable.{Eras, AllStandFor, AreThere, IsJudged, IsNoted, StandsForFew}
use Rattle.run_audit.specs.FrameFaults.{IsFirstReason}
use Rattle.run_audit.specs.FirstFault.{AreFaultless, FailsNext, FirstFault}
use Rattle.run_audit.specs.OwnedFrames.{Frame, frame_of, owners, with_frame, owned, sent}
use Rattle.run_audit.specs.working.OwnedEntries.{left_of}
use Rattle.run_audit.specs.NamedEras.{noted, all_noted, numbers_of, named_in, eras_named}

-- How an audit proceeds from frame to frame, and how it ends.

-- If a source has known octets, these records, the newest first, were taken from those after the
-- head.
abbrev pub Took : Order → (old new : Option (List ℕ)) → List Packet → Type 0
Took order None new packets = Unit {0}
Took order (Some all) None packets = ⊥
Took order (Some all) (Some rest) packets = ReadsTo order all packets rest

-- The frames that were judged have no fault: the states of the eras, the entries that are left, and
-- the position of the reader.
pub record GoesOn (hops : ℕ) (head : Head) (entries : List PlainEntry) (old now : Option (List ℕ)) (eras : Eras) (left : Owners) (reader : Reading) (frames : ℕ) : Type 0 where
  pub packets : List Packet
  pub took : Took head.order old now packets
  pub each_owned : length packets ≤ length (owners entries)
  pub faultless : AreFaultless hops (owned head.link (owners entries) (frames_of packets))
  pub left_is : left_of left ≡ drop (length packets) (owners entries)
  pub stand : AllStandFor eras (sent (owned head.link (owners entries) (frames_of packets)))
  pub named : AllByRecursion (HasEra eras) (left_of left)
  pub frames_are : frames ≡ length packets
  pub given_is : reader.given ≡ length packets
  pub few : reader.given < 2 ^ 32
  pub place_is : reader.place ≡ offset_of packets
  pub head_is : reader.head ≡ head

-- if nothing is left after n owners, there is no owner after n others
left_none : (os : List PlainEntry) (n : ℕ) → drop n os ≡ [] → (slice_get os n ≡ None) × (length os ≤ n)
left_none [] n e = (slice_get_past [] n (omega arith), omega arith)
left_none (o ∷ os) zero e = absurd (cc e)
left_none (o ∷ os) (suc n) e = let h = left_none os n e in (h.0, let k = h.1 in omega (arith, k))

left_some : (os rest : List PlainEntry) (n : ℕ) (x : PlainEntry) → drop n os ≡ x ∷ rest → (slice_get os n ≡ Some x) × (rest ≡ drop (suc n) os) × (suc n ≤ length os)
left_some [] rest zero x e = absurd (cc e)
left_some [] rest (suc n) x e = absurd (cc e)
left_some (o ∷ os) rest zero x e = (cc e, cc e, omega arith)
left_some (o ∷ os) rest (suc n) x e = let h = left_some os rest n x e in (h.0, h.1, let k = h.2 in omega (arith, k))

pub frames_long : (packets : List Packet) → length (frames_of packets) ≡ length packets
frames_long [] = refl
frames_long (p ∷ packets) = ap suc (frames_long packets)

-- the owner of the frame after these
pub owner_at : (os : List PlainEntry) (packets : List Packet) (o : Option PlainEntry) → slice_get os (length packets) ≡ o → slice_get os (length (frames_of packets)) ≡ o
owner_at os packets o e = ap (slice_get os) (frames_long packets) ∙ e

pub owned_more : (link : Link) (os : List PlainEntry) (packets : List Packet) (octets : List ℕ) (e : PlainEntry) → slice_get os (length packets) ≡ Some e → owned link os (octets ∷ frames_of packets) ≡ frame_of link octets e ∷ owned link os (frames_of packets)
owned_more link os packets octets e h = ap (λ o. with_frame link octets o (owned link os (frames_of packets))) (owner_at os packets (Some e) h)

-- one more record was taken
took_more : (order other : Order) (given : ℕ) (old mid new : Option (List ℕ)) (packets : List Packet) (p : Packet) → other ≡ order → given ≡ length packets → Took order old mid packets → Leaves other given mid new p → Took order old new (p ∷ packets)
took_more order other given None mid new packets p same count took left = tt
took_more order other given (Some all) None new packets p same count took left = absurd took
took_more order other given (Some all) (Some xs) None packets p same count took left = absurd left
took_more order other given (Some all) (Some xs) (Some ys) packets p same count took left = (xs, took, ap₂ (λ k n. front_of k n xs) (sym same) (sym count) ∙ left)

still_named : (old new : Eras) (entries : List PlainEntry) → AreThere old new → AllByRecursion (HasEra old) entries → AllByRecursion (HasEra new) entries
still_named old new [] there h = h
still_named old new (e ∷ entries) there h = (by e.era h.0, still_named old new entries there h.1)
  where
    by : (o : Option ℕ) → IfSome o (λ era. IsSome (get nat_eq old era)) → IfSome o (λ era. IsSome (get nat_eq new era))
    by None k = k
    by (Some era) k = there era k

pub goes_on : (hops : ℕ) (head : Head) (entries : List PlainEntry) (old mid new : Option (List ℕ)) (eras eras' : Eras) (left left' : Owners) (reader reader' : Reading) (frames : ℕ) (p : Packet) (e : PlainEntry)
    → GoesOn hops head entries old mid eras left reader frames
    → Leaves reader.head.order reader.given mid new p → Advances reader reader' (length p.octets) → reader'.head ≡ reader.head
    → left_of left ≡ e ∷ left_of left'
    → ((before : List Frame) → AllStandFor eras (sent before) → IsNoted hops before (frame_of head.link p.octets e) eras eras')
    → GoesOn hops head entries old new eras' left' reader' (frames + 1)
goes_on hops head entries old mid new eras eras' left left' reader reader' frames p e g leaves ahead same_head owner noted = record {
  packets = p ∷ g.packets;
  took = took_more head.order reader.head.order reader.given old mid new g.packets p (ap (λ (h : Head). h.order) g.head_is) g.given_is g.took leaves;
  each_owned = at.2;
  faultless = subst (AreFaultless hops) (sym more) (g.faultless, now.faultless);
  left_is = at.1;
  stand = subst (λ fs. AllStandFor eras' (sent fs)) (sym more) now.stand;
  named = still_named eras eras' (left_of left') now.there (tail (subst (AllByRecursion (HasEra eras)) owner g.named));
  frames_are = let h = g.frames_are in omega (arith, h);
  given_is = let h = g.given_is in let k = ahead.given in omega (arith, h, k);
  few = ahead.few;
  place_is = let h = g.place_is in let k = ahead.place in omega (arith, h, k);
  head_is = same_head ∙ g.head_is;
}
  where
    os : List PlainEntry
    os = owners entries

    at : (slice_get os (length g.packets) ≡ Some e) × (left_of left' ≡ drop (suc (length g.packets)) os) × (suc (length g.packets) ≤ length os)
    at = left_some os (left_of left') (length g.packets) e (sym g.left_is ∙ owner)

    more : owned head.link os (p.octets ∷ frames_of g.packets) ≡ frame_of head.link p.octets e ∷ owned head.link os (frames_of g.packets)
    more = owned_more head.link os g.packets p.octets e at.0

    now : IsNoted hops (owned head.link os (frames_of g.packets)) (frame_of head.link p.octets e) eras eras'
    now = noted (owned head.link os (frames_of g.packets)) g.stand

    tail : AllByRecursion (HasEra eras) (e ∷ left_of left') → AllByRecursion (HasEra eras) (left_of left')
    tail h = h.1

-- the fault of the frame after these
first_fault : (hops : ℕ) (head : Head) (entries : List PlainEntry) (old now : Option (List ℕ)) (eras : Eras) (left : Owners) (reader : Reading) (frames : ℕ) (next : Option (List ℕ)) (owner : Option PlainEntry) (reason : Reason) (g : GoesOn hops head entries old now eras left reader frames)
    → slice_get (owners entries) (length g.packets) ≡ owner
    → FailsNext hops head.link (sent (owned head.link (owners entries) (frames_of g.packets))) next owner reason
    → FirstFault hops head.link entries (frames_of g.packets) next (frames + 1) reason
first_fault hops head entries old now eras left reader frames next owner reason g at fails = record {
  each_owned = let h = g.each_owned in let k = frames_long g.packets in omega (arith, h, k);
  faultless = g.faultless;
  number_is = let h = g.frames_are in let k = frames_long g.packets in omega (arith, h, k);
  fails =
      let P : Option PlainEntry → Type 0 = λ o. FailsNext hops head.link (sent (owned head.link (owners entries) (frames_of g.packets))) next o reason in
      subst P (sym (owner_at (owners entries) g.packets owner at)) fails;
}

-- a frame with a fault was read
at_frame : (hops : ℕ) (head : Head) (entries : List PlainEntry) (old mid new : Option (List ℕ)) (eras : Eras) (left : Owners) (reader : Reading) (frames : ℕ) (p : Packet) (owner : Option PlainEntry) (reason : Reason) (g : GoesOn hops head entries old mid eras left reader frames)
    → Leaves reader.head.order reader.given mid new p → slice_get (owners entries) (length g.packets) ≡ owner
    → FailsNext hops head.link (sent (owned head.link (owners entries) (frames_of g.packets))) (Some p.octets) owner reason
    → IfSome old (λ all. FaultyFrame hops head entries all (frames + 1) reason)
at_frame hops head entries old mid new eras left reader frames p owner reason g leaves at fails = by old mid new g.took leaves
  where
    first : FirstFault hops head.link entries (frames_of g.packets) (Some p.octets) (frames + 1) reason
    first = first_fault hops head entries old mid eras left reader frames (Some p.octets) owner reason g at fails

    by : (a b c : Option (List ℕ)) → Took head.order a b g.packets → Leaves reader.head.order reader.given b c p → IfSome a (λ all. FaultyFrame hops head entries all (frames + 1) reason)
    by None b c took l = tt
    by (Some all) None c took l = absurd took
    by (Some all) (Some xs) None took l = absurd l
    by (Some all) (Some xs) (Some ys) took l = record { packets = g.packets; left = xs; reads = took; next = Some (p, ys); stands = ap₂ (λ (h : Head) n. front_of h.order n xs) (sym g.head_is) (sym g.given_is) ∙ l; first = first }

pub unowned : (hops : ℕ) (head : Head) (entries : List PlainEntry) (old mid new : Option (List ℕ)) (eras : Eras) (left : Owners) (reader : Reading) (frames : ℕ) (p : Packet) → GoesOn hops head entries old mid eras left reader frames
    → Leaves reader.head.order reader.given mid new p → left_of left ≡ [] → IfSome old (λ all. FaultyFrame hops head entries all (frames + 1) reasons.Count)
unowned hops head entries old mid new eras left reader frames p g leaves none =
    at_frame hops head entries old mid new eras left reader frames p None reasons.Count g leaves (left_none (owners entries) (length g.packets) (sym g.left_is ∙ none)).0 refl

pub faulty : (hops : ℕ) (head : Head) (entries : List PlainEntry) (old mid new : Option (List ℕ)) (eras : Eras) (left left' : Owners) (reader : Reading) (frames : ℕ) (p : Packet) (e : PlainEntry) (reason : Reason) → GoesOn hops head entries old mid eras left reader frames
    → Leaves reader.head.order reader.given mid new p → left_of left ≡ e ∷ left_of left'
    → ((before : List Frame) → AllStandFor eras (sent before) → IsFirstReason hops (sent before) (frame_of head.link p.octets e) reason)
    → IfSome old (λ all. FaultyFrame hops head entries all (frames + 1) reason)
faulty hops head entries old mid new eras left left' reader frames p e reason g leaves owner first =
    at_frame hops head entries old mid new eras left reader frames p (Some e) reason g leaves (left_some (owners entries) (left_of left') (length g.packets) e (sym g.left_is ∙ owner)).0
    (first (owned head.link (owners entries) (frames_of g.packets)) g.stand)

-- the capture ends, and an entry names another frame
pub unwritten : (hops : ℕ) (head : Head) (entries : List PlainEntry) (old mid new : Option (List ℕ)) (eras : Eras) (left left' : Owners) (reader : Reading) (frames : ℕ) (e : PlainEntry) → GoesOn hops head entries old mid eras left reader frames
    → HasEnd mid new → left_of left ≡ e ∷ left_of left' → IfSome old (λ all. FaultyFrame hops head entries all (frames + 1) reasons.Count)
unwritten hops head entries old mid new eras left left' reader frames e g end owner = by old mid new g.took end
  where
    first : FirstFault hops head.link entries (frames_of g.packets) None (frames + 1) reasons.Count
    first = first_fault hops head entries old mid eras left reader frames None (Some e) reasons.Count g (left_some (owners entries) (left_of left') (length g.packets) e (sym g.left_is ∙ owner)).0 refl

    by : (a b c : Option (List ℕ)) → Took head.order a b g.packets → HasEnd b c → IfSome a (λ all. FaultyFrame hops head entries all (frames + 1) reasons.Count)
    by None b c took l = tt
    by (Some all) None c took l = absurd took
    by (Some all) (Some xs) None took l = absurd l
    by (Some all) (Some xs) (Some ys) took l = record { packets = g.packets; left = xs; reads = took; next = None; stands = ap (front_of head.order (length g.packets)) l.0 ∙ front_of_nothing head.order (length g.packets); first = first }

-- the capture ends, and no entry names another frame
pub sound : (hops : ℕ) (head : Head) (entries : List PlainEntry) (old mid new : Option (List ℕ)) (eras : Eras) (left : Owners) (reader : Reading) (frames : ℕ) → GoesOn hops head entries old mid eras left reader frames
    → HasEnd mid new → left_of left ≡ [] → IfSome old (λ all. SoundFrames hops head entries all frames)
sound hops head entries old mid new eras left reader frames g end none = by old mid new g.took end
  where
    by : (a b c : Option (List ℕ)) → Took head.order a b g.packets → HasEnd b c → IfSome a (λ all. SoundFrames hops head entries all frames)
    by None b c took l = tt
    by (Some all) None c took l = absurd took
    by (Some all) (Some xs) None took l = absurd l
    by (Some all) (Some xs) (Some ys) took l = record {
      packets = g.packets;
      reads = subst (ReadsTo head.order all g.packets) l.0 took;
      none = record {
        as_many = let h = (left_none (owners entries) (length g.packets) (sym g.left_is ∙ none)).1 in let k = g.each_owned in let n = frames_long g.packets in omega (arith, h, k, n);
        faultless = g.faultless;
      };
      count = g.frames_are;
    }

-- there are fewer than 2^32 frames
pub few_frames : (hops : ℕ) (head : Head) (entries : List PlainEntry) (old now : Option (List ℕ)) (eras : Eras) (left : Owners) (reader : Reading) (frames : ℕ) → GoesOn hops head entries old now eras left reader frames → StandsForFew eras
few_frames hops head entries old now eras left reader frames g = record {
  frames = owned head.link (owners entries) (frames_of g.packets);
  stand = g.stand;
  few = let h = shorter (frames_of g.packets) in let k = frames_long g.packets in let n = g.given_is in let m = g.few in omega (arith, h, k, n, m);
}
  where
    with_one : (octets : List ℕ) (o : Option PlainEntry) (older : List Frame) → length (with_frame head.link octets o older) ≤ suc (length older)
    with_one octets None older = omega arith
    with_one octets (Some e) older = omega arith

    shorter : (fs : List (List ℕ)) → length (owned head.link (owners entries) fs) ≤ length fs
    shorter [] = omega arith
    shorter (f ∷ fs) = let h = shorter fs in let k = with_one f (slice_get (owners entries) (length fs)) (owned head.link (owners entries) fs) in omega (arith, h, k)

-- the verdict on a packet is the verdict on its frame
pub noted_by : (hops : ℕ) (old new : Eras) (link : Link) (packet octets : List ℕ) (e : PlainEntry) (verdict : Option Reason) → verdict ≡ None → packet ≡ packet_in link octets
    → ((before : List Frame) → AllStandFor old (sent before) → IsJudged hops before (record { packet = packet; side = e.side; era = e.era }) old new verdict)
    → (before : List Frame) → AllStandFor old (sent before) → IsNoted hops before (frame_of link octets e) old new
noted_by hops old new link packet octets e verdict none is judged before stand =
    let P : Option Reason → Type 0 = λ v. IsJudged hops before (record { packet = packet; side = e.side; era = e.era }) old new v in
    let Q : List ℕ → Type 0 = λ p. IsNoted hops before (record { packet = p; side = e.side; era = e.era }) old new in
    subst Q is (subst P none (judged before stand))

pub faulty_by : (hops : ℕ) (old new : Eras) (link : Link) (packet octets : List ℕ) (e : PlainEntry) (verdict : Option Reason) (reason : Reason) → verdict ≡ Some reason → packet ≡ packet_in link octets
    → ((before : List Frame) → AllStandFor old (sent before) → IsJudged hops before (record { packet = packet; side = e.side; era = e.era }) old new verdict)
    → (before : List Frame) → AllStandFor old (sent before) → IsFirstReason hops (sent before) (frame_of link octets e) reason
faulty_by hops old new link packet octets e verdict reason some is judged before stand =
    let P : Option Reason → Type 0 = λ v. IsJudged hops before (record { packet = packet; side = e.side; era = e.era }) old new v in
    let Q : List ℕ → Type 0 = λ p. IsFirstReason hops (sent before) (record { packet = p; side = e.side; era = e.era }) reason in
    subst Q is (subst P some (judged before stand))

-- Eras that are named one after another.

-- a key is among the keys exactly if it is found
keys_found : {X : Type 0} (test : ℕ → Bool) (es : List (ℕ × X)) → list_any test (keys_of es) ≡ is_some (lookup test es)
keys_found test [] = refl
keys_found test (e ∷ es) = by (keys_found test es) (test e.0) refl
  where
    by : list_any test (keys_of es) ≡ is_some (lookup test es) → (b : Bool) → test e.0 ≡ b → (test e.0 || list_any test (keys_of es)) ≡ is_some (if test e.0 then Some e.1 else lookup test es)
    by rest true is = ap (λ b. b || list_any test (keys_of es)) is ∙ sym (ap (λ (b : Bool). is_some (if b then Some e.1 else lookup test es)) is)
    by rest false is = ap (λ b. b || list_any test (keys_of es)) is ∙ rest ∙ sym (ap (λ (b : Bool). is_some (if b then Some e.1 else lookup test es)) is)

pub noted_there : {X : Type 0} (es : List (ℕ × X)) (era : ℕ) → is_some (lookup (nat_eq era) es) ≡ true → keys_of es ≡ noted (keys_of es) era
noted_there es era there = sym (ap (λ (b : Bool). if b then keys_of es else keys_of es ++ era ∷ []) (keys_found (nat_eq era) es ∙ there))

keys_pushed : {X : Type 0} (es : List (ℕ × X)) (era : ℕ) (x : X) → keys_of (es ++ (era, x) ∷ []) ≡ keys_of es ++ era ∷ []
keys_pushed [] era x = refl
keys_pushed (e ∷ es) era x = ap (λ ks. e.0 ∷ ks) (keys_pushed es era x)

pub noted_new : {X : Type 0} (es new : List (ℕ × X)) (era : ℕ) (x : X) → is_some (lookup (nat_eq era) es) ≡ false → new ≡ es ++ (era, x) ∷ [] → keys_of new ≡ noted (keys_of es) era
noted_new es new era x apart is = ap keys_of is ∙ keys_pushed es era x ∙ sym (ap (λ (b : Bool). if b then keys_of es else keys_of es ++ era ∷ []) (keys_found (nat_eq era) es ∙ apart))

pub all_noted-append : (ns xs ys : List ℕ) → all_noted ns (xs ++ ys) ≡ all_noted (all_noted ns xs) ys
all_noted-append ns [] ys = refl
all_noted-append ns (x ∷ xs) ys = all_noted-append (noted ns x) xs ys

-- the eras of one more entry are named
pub entry_on : (ns more : List ℕ) (entries : List Entry) (i : ℕ) (entry : Entry) (whole : List ℕ) → i < length entries → entry ≡ get_or entries i entry → more ≡ all_noted ns (named_in (plain entry)) → all_noted ns (flat_map named_in (map plain (drop i entries))) ≡ whole → all_noted more (flat_map named_in (map plain (drop (i + 1) entries))) ≡ whole
entry_on ns more entries i entry whole less is named so_far =
    ap₂ (λ ks n. all_noted ks (flat_map named_in (map plain (drop n entries)))) named (add-one i)
    ∙ sym (all_noted-append ns (named_in (plain entry)) (flat_map named_in (map plain (drop (suc i) entries))))
    ∙ ap (λ (e : Entry). all_noted ns (named_in (plain e) ++ flat_map named_in (map plain (drop (suc i) entries)))) is
    ∙ sym (ap (λ es. all_noted ns (flat_map named_in (map plain es))) (drop-cons entries i entry less))
    ∙ so_far

pub none_of : {X : Type 0} (o : Option X) → is_some o ≡ false → o ≡ None
none_of None e = refl
none_of (Some x) e = absurd (cc e)

-- an era that is named remains named
noted_keeps : (n : ℕ) (ns : List ℕ) (x : ℕ) → list_any (λ other. n == other) ns ≡ true → list_any (λ other. n == other) (noted ns x) ≡ true
noted_keeps n ns x h = by (list_any (λ other. x == other) ns)
  where
    by : (b : Bool) → list_any (λ other. n == other) (if b then ns else ns ++ x ∷ []) ≡ true
    by true = h
    by false = list_any-append (λ other. n == other) ns (x ∷ []) ∙ ap (λ b. b || list_any (λ other. n == other) (x ∷ [])) h

noted_has : (n : ℕ) (ns : List ℕ) → list_any (λ other. n == other) (noted ns n) ≡ true
noted_has n ns = by (list_any (λ other. n == other) ns) refl
  where
    self : (n == n) ≡ true
    self = eq-eqb n n refl

    last : (b : Bool) → (b || true) ≡ true
    last true = refl
    last false = refl

    by : (b : Bool) → list_any (λ other. n == other) ns ≡ b → list_any (λ other. n == other) (if b then ns else ns ++ n ∷ []) ≡ true
    by true e = e
    by false e = list_any-append (λ other. n == other) ns (n ∷ []) ∙ ap (λ b. list_any (λ other. n == other) ns || (b || false)) self ∙ last (list_any (λ other. n == other) ns)

all_keeps : (n : ℕ) (ns xs : List ℕ) → list_any (λ other. n == other) ns ≡ true → list_any (λ other. n == other) (all_noted ns xs) ≡ true
all_keeps n ns [] h = h
all_keeps n ns (x ∷ xs) h = all_keeps n (noted ns x) xs (noted_keeps n ns x h)

-- the era of an entry is among the named ones
abbrev Names : List ℕ → PlainEntry → Type 0
Names ns e = IfSome e.era (λ n. list_any (λ other. n == other) ns ≡ true)

all_named : (ns : List ℕ) (entries : List PlainEntry) → AllByRecursion (Names (all_noted ns (flat_map named_in entries))) entries
all_named ns [] = tt
all_named ns (e ∷ entries) = (by e.era refl, subst (λ ms. AllByRecursion (Names ms) entries) (sym parts) (all_named (all_noted ns (named_in e)) entries))
  where
    parts : all_noted ns (named_in e ++ flat_map named_in entries) ≡ all_noted (all_noted ns (named_in e)) (flat_map named_in entries)
    parts = all_noted-append ns (named_in e) (flat_map named_in entries)

    rest : List ℕ
    rest = option_to_list e.begun

    by : (o : Option ℕ) → e.era ≡ o → IfSome o (λ n. list_any (λ other. n == other) (all_noted ns (named_in e ++ flat_map named_in entries)) ≡ true)
    by None is = tt
    by (Some n) is =
        let here : all_noted ns (named_in e) ≡ all_noted (noted ns n) (rest ++ numbers_of e.ended) =
        ap (λ o. all_noted ns ((option_to_list o ++ rest) ++ numbers_of e.ended)) is in
        ap (list_any (λ other. n == other)) (parts ∙ ap (λ ms. all_noted ms (flat_map named_in entries)) here)
        ∙ all_keeps n (all_noted (noted ns n) (rest ++ numbers_of e.ended)) (flat_map named_in entries) (all_keeps n (noted ns n) (rest ++ numbers_of e.ended) (noted_has n ns))

-- so it is for the owner of each frame
each_has : (eras : Eras) (ns : List ℕ) (e : PlainEntry) → keys_of eras.entries ≡ ns → Names ns e → HasEra eras e
each_has eras ns e keys named = by e.era named
  where
    by : (o : Option ℕ) → IfSome o (λ n. list_any (λ other. n == other) ns ≡ true) → IfSome o (λ n. IsSome (get nat_eq eras n))
    by None h = h
    by (Some n) h = sym (keys_found (nat_eq n) eras.entries) ∙ ap (list_any (λ other. n == other)) keys ∙ h

all_same : (P : PlainEntry → Type 0) (n : ℕ) (e : PlainEntry) (rest : List PlainEntry) → P e → AllByRecursion P rest → AllByRecursion P (replicate n e ++ rest)
all_same P zero e rest h k = k
all_same P (suc n) e rest h k = (h, all_same P n e rest h k)

pub owners_named : (eras : Eras) (ns : List ℕ) (entries : List PlainEntry) → keys_of eras.entries ≡ ns → AllByRecursion (Names ns) entries → AllByRecursion (HasEra eras) (owners entries)
owners_named eras ns [] keys h = tt
owners_named eras ns (e ∷ entries) keys h = all_same (HasEra eras) e.packets e (owners entries) (each_has eras ns e keys h.0) (owners_named eras ns entries keys h.1)

pub all_owners_named : (eras : Eras) (entries : List PlainEntry) → keys_of eras.entries ≡ eras_named entries → AllByRecursion (HasEra eras) (owners entries)
all_owners_named eras entries keys = owners_named eras (eras_named entries) entries keys (all_named [] entries)
