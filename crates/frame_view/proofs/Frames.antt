-- Two frames that say the same in each field are the same, and then nothing differs between them.
use Rattle.std.proofs.Common.{◌≡◌, ℕ, zero, suc, ◌<◌, ◌&&◌, ◌⊎◌, true, false, Option, Some, None, List, [], ◌∷◌, ◌++◌, length, get_or, refl, sym, ap, ◌∙◌, inl, inr, lit<, arith}
use Rattle.std.specs.List.{flat_map}
use Rattle.std.specs.Str.{bytes_eq}
use Rattle.std.proofs.lemmas.Bool.{and_parts, cases_Bool}
use Rattle.std.proofs.lemmas.List.{take-append-drop}
use Rattle.std.proofs.lemmas.Slice.Eq.{bytes_eq-Decides}
use Rattle.wire_base.specs.Frames.{kind_of, link_octets, packet_in}
use Rattle.wire_base.specs.declared.address.Link.{Link}
use Rattle.wire_base.specs.declared.address.Link.TheVariants.{Ethernet, Raw}
use Rattle.frame_view.specs.Changes.{PlainChange, changes_in, changes_of}
use Rattle.frame_view.specs.ReadingLaws.{AreOctets, SayTheSame, SayTheSameIfEqual, NothingDiffersIfEqual}
use Rattle.frame_view.specs.FrameParts.{IsReadable, has_ip_header, is_ip, packet_of, payload_in, payload_of, payload_or}
use Rattle.frame_view.specs.Readings.{fields, octets, packet_reading, reading}
use Rattle.frame_view.specs.declared.field.Field.{Field}
use Rattle.frame_view.specs.declared.field.Field.TheVariants.{LinkHeader, Version, HeaderLength, TypeOfService, TotalLength, Identification, ReservedBit, DontFragment, MoreFragments, FragmentOffset, Ttl, Protocol, HeaderChecksum, Source, Destination, IpOptions, SourcePort, DestinationPort, Sequence, Acknowledgment, DataOffset, Reserved, Flags, Window, Checksum, UrgentPointer, TcpOptions, UdpLength, Payload, Trailer}
use Rattle.frame_view.proofs.Packets.{SayAlike, octets-drop, packets_same}

-- what is said in a field, by the link header, the payload and the packet
abbrev reading_of : (head load : List ℕ) → Option (List ℕ) → Field → List ℕ
reading_of head load packet LinkHeader = head
reading_of head load packet Payload = load
reading_of head load packet field = octets (packet_reading field) packet

as-read : (link : Link) (f : List ℕ) (field : Field) → reading link field f ≡ reading_of (link_octets link f) (payload_of link f) (packet_of link f) field
as-read link f LinkHeader = refl
as-read link f Payload = refl
as-read link f field = refl

-- a packet is these octets, and its header can be read
abbrev IsPacket : Option (List ℕ) → List ℕ → Type 0
IsPacket None q = Unit {0}
IsPacket (Some p) q = (p ≡ q) × IsReadable p × AreOctets p

packet-is : (link : Link) (f : List ℕ) → AreOctets (packet_in link f) → IsPacket (packet_of link f) (packet_in link f)
packet-is link f h = by_cases (cases_Bool (is_ip (kind_of link f) && has_ip_header (packet_in link f)))
  where
    by_cases : (((is_ip (kind_of link f) && has_ip_header (packet_in link f)) ≡ true) ⊎ ((is_ip (kind_of link f) && has_ip_header (packet_in link f)) ≡ false)) → IsPacket (packet_of link f) (packet_in link f)
    by_cases (inl e) = rw e (refl, (and_parts _ _ e).1, h)
    by_cases (inr e) = rw e tt

-- what is said of two packets
say-alike : (ha hb p q : List ℕ) → ((field : Field) → reading_of ha (payload_in p) (Some p) field ≡ reading_of hb (payload_in q) (Some q) field) → SayAlike p q
say-alike ha hb p q say LinkHeader = refl
say-alike ha hb p q say Payload = say Payload
say-alike ha hb p q say field = say field

no_number : {n : ℕ} → n ∷ [] ≡ [] → ⊥
no_number {n} e = cc

behind-same : (ha hb qa qb : List ℕ) (pa pb : Option (List ℕ)) → IsPacket pa qa → IsPacket pb qb →
    ((field : Field) → reading_of ha (payload_or qa pa) pa field ≡ reading_of hb (payload_or qb pb) pb field) → qa ≡ qb
behind-same ha hb qa qb None None ia ib say = say Payload
behind-same ha hb qa qb (Some p) None ia ib say = absurd (no_number (say Version))
behind-same ha hb qa qb None (Some q) ia ib say = absurd (no_number (sym (say Version)))
behind-same ha hb qa qb (Some p) (Some q) ia ib say = sym ia.0 ∙ packets_same p q ia.2 ib.2 ia.1 ib.1 (say-alike ha hb p q say) ∙ ib.0

-- a frame is its link octets and its packet
frame-parts : (link : Link) (f : List ℕ) → link_octets link f ++ packet_in link f ≡ f
frame-parts Ethernet f = take-append-drop 14 f
frame-parts Raw f = refl

octets-packet : (link : Link) (f : List ℕ) → AreOctets f → AreOctets (packet_in link f)
octets-packet Ethernet f h = octets-drop 14 f h
octets-packet Raw f h = h

frames-same : (link : Link) (a b : List ℕ) → AreOctets a → AreOctets b → SayTheSame link a b → a ≡ b
frames-same link a b ha hb say =
    let said : (field : Field) → reading_of (link_octets link a) (payload_of link a) (packet_of link a) field ≡ reading_of (link_octets link b) (payload_of link b) (packet_of link b) field = λ field. sym (as-read link a field) ∙ say field ∙ as-read link b field in
    let packets : packet_in link a ≡ packet_in link b = behind-same (link_octets link a) (link_octets link b) (packet_in link a) (packet_in link b) (packet_of link a) (packet_of link b) (packet-is link a (octets-packet link a ha)) (packet-is link b (octets-packet link b hb)) said in
    sym (frame-parts link a) ∙ (λ i. say LinkHeader i ++ packets i) ∙ frame-parts link b

pub say_the_same : SayTheSameIfEqual
say_the_same link a b ha hb = (frames-same link a b ha hb, λ e field. ap (reading link field) e)

nil_left : {T : Type 0} (xs ys : List T) → xs ++ ys ≡ [] → xs ≡ []
nil_left [] ys e = refl
nil_left (x ∷ xs) ys e = absurd (let h = ap length e in omega arith)

nil_right : {T : Type 0} (xs ys : List T) → xs ++ ys ≡ [] → ys ≡ []
nil_right [] ys e = e
nil_right (x ∷ xs) ys e = absurd (let h = ap length e in omega arith)

nil-at : {T : Type 0} (f : Field → List T) (list : List Field) (k : ℕ) → k < length list → flat_map f list ≡ [] → f (get_or list k LinkHeader) ≡ []
nil-at f [] k h e = absurd (omega arith)
nil-at f (x ∷ list) zero h e = nil_left (f x) (flat_map f list) e
nil-at f (x ∷ list) (suc k) h e = nil-at f list k (omega arith) (nil_right (f x) (flat_map f list) e)

-- each field is in the list
field-nil : {T : Type 0} (f : Field → List T) → flat_map f fields ≡ [] → (field : Field) → f field ≡ []
field-nil f e LinkHeader = nil-at f fields 0 (lit< tt) e
field-nil f e Version = nil-at f fields 1 (lit< tt) e
field-nil f e HeaderLength = nil-at f fields 2 (lit< tt) e
field-nil f e TypeOfService = nil-at f fields 3 (lit< tt) e
field-nil f e TotalLength = nil-at f fields 4 (lit< tt) e
field-nil f e Identification = nil-at f fields 5 (lit< tt) e
field-nil f e ReservedBit = nil-at f fields 6 (lit< tt) e
field-nil f e DontFragment = nil-at f fields 7 (lit< tt) e
field-nil f e MoreFragments = nil-at f fields 8 (lit< tt) e
field-nil f e FragmentOffset = nil-at f fields 9 (lit< tt) e
field-nil f e Ttl = nil-at f fields 10 (lit< tt) e
field-nil f e Protocol = nil-at f fields 11 (lit< tt) e
field-nil f e HeaderChecksum = nil-at f fields 12 (lit< tt) e
field-nil f e Source = nil-at f fields 13 (lit< tt) e
field-nil f e Destination = nil-at f fields 14 (lit< tt) e
field-nil f e IpOptions = nil-at f fields 15 (lit< tt) e
field-nil f e SourcePort = nil-at f fields 16 (lit< tt) e
field-nil f e DestinationPort = nil-at f fields 17 (lit< tt) e
field-nil f e Sequence = nil-at f fields 18 (lit< tt) e
field-nil f e Acknowledgment = nil-at f fields 19 (lit< tt) e
field-nil f e DataOffset = nil-at f fields 20 (lit< tt) e
field-nil f e Reserved = nil-at f fields 21 (lit< tt) e
field-nil f e Flags = nil-at f fields 22 (lit< tt) e
field-nil f e Window = nil-at f fields 23 (lit< tt) e
field-nil f e Checksum = nil-at f fields 24 (lit< tt) e
field-nil f e UrgentPointer = nil-at f fields 25 (lit< tt) e
field-nil f e TcpOptions = nil-at f fields 26 (lit< tt) e
field-nil f e UdpLength = nil-at f fields 27 (lit< tt) e
field-nil f e Payload = nil-at f fields 28 (lit< tt) e
field-nil f e Trailer = nil-at f fields 29 (lit< tt) e

no_change : (change : PlainChange) → change ∷ [] ≡ [] → ⊥
no_change change e = cc

-- a field in which nothing differs
same-in : (link : Link) (number : ℕ) (a b : List ℕ) (field : Field) → changes_in link number a b field ≡ [] → reading link field a ≡ reading link field b
same-in link number a b field e = by_cases (cases_Bool (bytes_eq (reading link field a) (reading link field b)))
  where
    by_cases : ((bytes_eq (reading link field a) (reading link field b) ≡ true) ⊎ (bytes_eq (reading link field a) (reading link field b) ≡ false)) → reading link field a ≡ reading link field b
    by_cases (inl t) = (bytes_eq-Decides (reading link field a) (reading link field b)).0 t
    by_cases (inr t) = absurd (no_change _ (rw t at e))

nothing-itself : (link : Link) (number : ℕ) (a : List ℕ) (list : List Field) → flat_map (changes_in link number a a) list ≡ []
nothing-itself link number a [] = refl
nothing-itself link number a (field ∷ list) = rw ((bytes_eq-Decides (reading link field a) (reading link field a)).1 refl) (nothing-itself link number a list)

pub nothing_differs : NothingDiffersIfEqual
nothing_differs link number a b ha hb = (
  λ e. frames-same link a b ha hb (λ field. same-in link number a b field (field-nil (changes_in link number a b) e field)),
  λ e. ap (λ f. changes_of link number a f) (sym e) ∙ nothing-itself link number a fields,
)
