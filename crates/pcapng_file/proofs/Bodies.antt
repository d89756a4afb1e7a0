-- A whole block: the content that its body gives, and its last four octets.
use Rattle.std.proofs.Common.{◌≡◌, ◌≢◌, ℕ, ◌+◌, ◌-◌, ◌<◌, ◌≤◌, ◌==◌, Bool, true, false, List, [], ◌++◌, length, take, drop, Some, None, Ok, Err, sym, ap, ap₂, ◌∙◌, subst, arith, inl, inr, append_assoc, append-nil, if◌then◌else◌, Option}
use Rattle.std.proofs.lemmas.Bool.{cases_lt, eq-eqb}
use Rattle.std.proofs.lemmas.List.{length-append, length-take-le, nil_from_length, take_at, drop_at, drop_all, take-append-le}
use borrow.Rule.Slice.PartMut.{put_mid}
use Rattle.std.proofs.KnownBytes.{Consumes-trans, Consumes-nil}
use Rattle.std.specs.Io.KnownBytes.{Consumes, IsAtEnd}
use Rattle.wire_base.specs.declared.address.Link.{Link}
use Rattle.pcap_file.specs.declared.record.Order.{Order}
use Rattle.pcap_file.specs.FileNumbers.{u32_at}
use Rattle.pcap_file.proofs.Records.{u32_at_front}
use Rattle.pcapng_file.specs.declared.fault.NgFault.{NgFault}
use Rattle.pcapng_file.specs.declared.fault.NgFault.TheVariants as faults
use Rattle.pcapng_file.specs.declared.front.Front.{Front}
use Rattle.pcapng_file.specs.declared.interface.Interface.{Interface}
use Rattle.pcapng_file.specs.declared.content.Content.{Content}
use Rattle.pcapng_file.specs.declared.content.Content.TheVariants as says
use Rattle.pcapng_file.specs.declared.content.Found.{Found}
use Rattle.pcapng_file.specs.declared.content.Found.TheVariants as is
use Rattle.pcapng_file.specs.SectionState.{Sections, counted}
use Rattle.pcapng_file.specs.InterfaceOptions.{options_of, described}
use Rattle.pcapng_file.specs.BlockContents.{section_type, interface_type, enhanced_type, simple_type, old_packet_type, content_of, found_of, interface_found}
use Rattle.pcapng_file.specs.working.ContentFaults.{more_of, IsSound, IsTold}
use Rattle.pcapng_file.specs.Blocks.{is_size, order_at, sized_at, block_at, end_by, told, before, step_of}
use Rattle.pcapng_file.specs.working.BlockFronts.{front_in, bare, IsFront, IsInterface, IsPacket}
use Rattle.pcapng_file.specs.working.PartReading.{Short, TakesSize}
use Rattle.pcapng_file.specs.ReadFaults.{is_read_fault}
use Rattle.pcapng_file.specs.working.BlockReading.{IsBody, HasRoom, IsKept, TakesBody, TakesRest, TakesBlock}
use Rattle.pcapng_file.specs.RecordReading.{EndsHere, IsCut, Stops}
use Rattle.pcapng_file.proofs.Contents.{content_front, content_placed, bare_found, IsPlaced}
use Rattle.pcapng_file.proofs.Fronts.{at_front, at_nothing, at_short, front_is, is_big, most_is, sized_closed, sized_cut, sized_open, u32_behind}

-- a block with all its octets
module _ (inside : Option (List ℕ)) (sections : Sections) (order : Order) (size : ℕ) (block rest : List ℕ) (sized : is_size size ≡ true) (whole : length block ≡ size) where
  enough : size ≤ length (block ++ rest)
  enough = omega (arith, length-append block rest)

  last_is : u32_at order (block ++ rest) (size - 4) ≡ u32_at order block (size - 4)
  last_is = let big = is_big size sized in u32_at_front order block rest (size - 4) (omega arith)

  block_open : (u32_at order block (size - 4) == size) ≡ false → sized_at inside sections order (block ++ rest) size ≡ Err faults.Block
  block_open e = sized_open inside sections order (block ++ rest) size sized enough (ap (λ n. n == size) last_is ∙ e)

  block_closed : (u32_at order block (size - 4) == size) ≡ true → sized_at inside sections order (block ++ rest) size ≡ before rest (told inside sections order size block)
  block_closed e =
      sized_closed inside sections order (block ++ rest) size sized enough (ap (λ n. n == size) last_is ∙ e)
      ∙ ap (λ l. before l (told inside sections order size (take size (block ++ rest)))) (drop_at block rest size whole)
      ∙ ap (λ l. before rest (told inside sections order size l)) (take_at block rest size whole)

-- the content of the block with its body
module _ (inside : Option (List ℕ)) (sections : Sections) (order : Order) (kind size : ℕ) (fixed b t buf : List ℕ)
    (length_is : length fixed ≡ 12 + more_of kind size) (four : length t ≡ 4) (whole : length fixed + length b + 4 ≡ size) where
  body_found : (content : Content) (found : Found) → IsPlaced content sections kind size → IsBody inside order content b buf found → found_of inside order size (fixed ++ (b ++ t)) content ≡ found
  body_found (says.Fails fault) found placed body = sym body
  body_found says.Passed found placed body = sym body
  body_found says.Section found placed body = sym body
  body_found (says.Interface link snap) found placed body =
      let sixteen : length fixed ≡ 16 = omega (arith, placed.more) in
      let area : take (size - 20) (drop 16 (fixed ++ (b ++ t))) ≡ b =
      ap (take (size - 20)) (drop_at fixed (b ++ t) 16 sixteen) ∙ take_at b t (size - 20) (omega arith) in
      ap (λ l. interface_found link (described inside snap (options_of order l))) area ∙ sym body
  body_found (says.Packet stamp) found placed body = sym body.0

  body_kept : (content : Content) (found : Found) → IsPlaced content sections kind size → IsBody inside order content b buf found → IsKept found (fixed ++ (b ++ t)) buf
  body_kept (says.Fails fault) found placed body = subst (λ (f : Found). IsKept f (fixed ++ (b ++ t)) buf) (sym body) tt
  body_kept says.Passed found placed body = subst (λ (f : Found). IsKept f (fixed ++ (b ++ t)) buf) (sym body) tt
  body_kept says.Section found placed body = subst (λ (f : Found). IsKept f (fixed ++ (b ++ t)) buf) (sym body) tt
  body_kept (says.Interface link snap) found placed body =
      subst (λ (f : Found). IsKept f (fixed ++ (b ++ t)) buf) (sym body) (no_packet (described inside snap (options_of order b))) where
        no_packet : (o : Option Interface) → IsKept (interface_found link o) (fixed ++ (b ++ t)) buf
        no_packet None = tt
        no_packet (Some i) = tt
  body_kept (says.Packet stamp) found placed body =
      let at : drop stamp.place (fixed ++ (b ++ t)) ≡ b ++ t = drop_at fixed (b ++ t) stamp.place (omega (arith, placed.place)) in
      let mine : take stamp.size (drop stamp.place (fixed ++ (b ++ t))) ≡ take stamp.size buf =
      ap (take stamp.size) at ∙ take-append-le stamp.size b t (omega (arith, placed.within, placed.place)) ∙ body.1 in
      subst (λ (f : Found). IsKept f (fixed ++ (b ++ t)) buf) (sym body.0) mine

  body_some : (content : Content) (found : Found) → IsPlaced content sections kind size → IsBody inside order content b buf found → IsPacket found → 0 < length sections.interfaces
  body_some (says.Fails fault) found placed body = λ i. absurd (subst IsPacket body i)
  body_some says.Passed found placed body = λ i. absurd (subst IsPacket body i)
  body_some says.Section found placed body = λ i. absurd (subst IsPacket body i)
  body_some (says.Interface link snap) found placed body = λ i. absurd (no_packet (described inside snap (options_of order b)) (subst IsPacket body i)) where
    no_packet : (o : Option Interface) → IsPacket (interface_found link o) → ⊥
    no_packet None = λ i. i
    no_packet (Some x) = λ i. i
  body_some (says.Packet stamp) found placed body = λ i. placed.some

  body_sound : (content : Content) (found : Found) → IsPlaced content sections kind size → IsBody inside order content b buf found → IsSound found
  body_sound (says.Fails fault) found placed body = subst (λ (f : Found). IsSound f) (sym body) placed
  body_sound says.Passed found placed body = subst (λ (f : Found). IsSound f) (sym body) tt
  body_sound says.Section found placed body = subst (λ (f : Found). IsSound f) (sym body) tt
  body_sound (says.Interface link snap) found placed body = subst (λ (f : Found). IsSound f) (sym body) (either_way (described inside snap (options_of order b))) where
    either_way : (o : Option Interface) → IsSound (interface_found link o)
    either_way None = tt
    either_way (Some i) = tt
  body_sound (says.Packet stamp) found placed body = subst (λ (f : Found). IsSound f) (sym body.0) placed.small

  body_room : (content : Content) (found : Found) → IsPlaced content sections kind size → IsBody inside order content b buf found → IsInterface found → length sections.interfaces < 64
  body_room (says.Fails fault) found placed body = λ i. absurd (subst IsInterface body i)
  body_room says.Passed found placed body = λ i. absurd (subst IsInterface body i)
  body_room says.Section found placed body = λ i. absurd (subst IsInterface body i)
  body_room (says.Interface link snap) found placed body = λ i. placed.room
  body_room (says.Packet stamp) found placed body = λ i. absurd (subst IsInterface body.0 i)

-- a fact of a block of twelve octets
choose_found : (P : Found → Type 0) (kind : ℕ) → P (is.Fails faults.Block) → P is.Passed → P (bare kind)
choose_found P kind p q = choose (kind == section_type) (is.Fails faults.Block) _ p (choose (kind == interface_type) (is.Fails faults.Block) _ p
    (choose (kind == enhanced_type) (is.Fails faults.Block) _ p (choose (kind == simple_type) (is.Fails faults.Block) _ p (choose (kind == old_packet_type) (is.Fails faults.Block) _ p q)))) where
      choose : (b : Bool) (x y : Found) → P x → P y → P (if b then x else y)
      choose true x y p q = p
      choose false x y p q = q

-- a whole block after its first twelve octets
module _ (inside : Option (List ℕ)) (sections : Sections) (front : Front) (h : List ℕ) (begins : IsFront h front) (twelve : length h ≡ 12) where
  says_open : (octets rest : List ℕ) → 12 + length octets ≡ front.size → (u32_at front.order (h ++ octets) (front.size - 4) == front.size) ≡ false
      → sized_at inside sections front.order (h ++ octets ++ rest) front.size ≡ before rest (step_of (counted sections) front.order front.size (h ++ octets) (is.Fails faults.Block))
  says_open octets rest whole e = block_open inside sections front.order front.size (h ++ octets) rest begins.sized (omega (arith, length-append h octets)) e

  says_closed : (octets rest : List ℕ) (found : Found) → 12 + length octets ≡ front.size → (u32_at front.order (h ++ octets) (front.size - 4) == front.size) ≡ true
      → found_of inside front.order front.size (h ++ octets) (content_of inside sections front.order front.kind front.size (h ++ octets)) ≡ found
      → sized_at inside sections front.order (h ++ octets ++ rest) front.size ≡ before rest (step_of (counted sections) front.order front.size (h ++ octets) found)
  says_closed octets rest found whole e is_found =
      let block = h ++ octets in
      let kind : u32_at front.order block 0 ≡ front.kind = u32_at_front front.order h octets 0 (omega arith) ∙ sym begins.kind in
      block_closed inside sections front.order front.size block rest begins.sized (omega (arith, length-append h octets)) e
      ∙ ap (λ k. before rest (step_of (counted sections) front.order front.size block (found_of inside front.order front.size block (content_of inside sections front.order k front.size block)))) kind
      ∙ ap (λ f. before rest (step_of (counted sections) front.order front.size block f)) is_found

  pub rest_open : (a b : Option (List ℕ)) (octets buf : List ℕ) → Consumes a b octets → 12 + length octets ≡ front.size → (u32_at front.order (h ++ octets) (front.size - 4) == front.size) ≡ false
      → TakesRest inside sections a b front h buf (is.Fails faults.Block)
  rest_open a b octets buf p whole e = record {
    octets = octets;
    taken = p;
    size = whole;
    says = λ rest. says_open octets rest whole e;
    kept = tt;
    room = λ i. absurd i;
    some = λ i. absurd i;
    sound = tt;
  }

  -- a block of twelve octets ends with its third word
  pub rest_bare : (a : Option (List ℕ)) (last : ℕ) (buf : List ℕ) → front.size ≡ 12 → last ≡ u32_at front.order h 8 → last ≡ 12 → TakesRest inside sections a a front h buf (bare front.kind)
  rest_bare a last buf size e same =
      let place : front.size - 4 ≡ 8 = omega arith in
      let word : u32_at front.order (h ++ []) (front.size - 4) ≡ front.size = u32_at_front front.order h [] (front.size - 4) (omega arith) ∙ ap (u32_at front.order h) place ∙ sym e ∙ same ∙ sym size in
      record {
        octets = [];
        taken = Consumes-nil a;
        size = omega arith;
        says = λ rest. says_closed [] rest (bare front.kind) (omega arith) (eq-eqb _ _ word)
            (ap (λ n. found_of inside front.order n (h ++ []) (content_of inside sections front.order front.kind n (h ++ []))) size ∙ bare_found inside sections front.order front.kind (h ++ []));
        kept = nothing_kept front.kind;
        room = nothing_new front.kind;
        some = nothing_given front.kind;
        sound = choose_found IsSound front.kind tt tt;
      } where
        nothing_kept : (kind : ℕ) → IsKept (bare kind) (h ++ []) buf
        nothing_kept kind = choose_found (λ f. IsKept f (h ++ []) buf) kind tt tt

        nothing_given : (kind : ℕ) → IsPacket (bare kind) → 0 < length sections.interfaces
        nothing_given kind = choose_found (λ f. IsPacket f → 0 < length sections.interfaces) kind (λ i. absurd i) (λ i. absurd i)

        nothing_new : (kind : ℕ) → IsInterface (bare kind) → length sections.interfaces < 64
        nothing_new kind = choose_found (λ f. IsInterface f → length sections.interfaces < 64) kind (λ i. absurd i) (λ i. absurd i)

  -- the fixed fields, the octets between, and the size again
  module _ (a b c d : Option (List ℕ)) (e buf : List ℕ) (content : Content) (room : ℕ) (found : Found) (same : Bool) (p : Consumes a b e) (long : length e ≡ more_of front.kind front.size)
      (content_is : content ≡ content_of inside sections front.order front.kind front.size (h ++ e)) (whole : 16 + length e + room ≡ front.size)
      (q : TakesBody inside b c front.order content room buf found) (r : TakesSize c d front.order front.size same) where
    abbrev octets : List ℕ
    octets = e ++ (q.octets ++ r.octets)

    joined : (h ++ e) ++ (q.octets ++ r.octets) ≡ h ++ octets
    joined = append_assoc h e (q.octets ++ r.octets)

    size_is : 12 + length octets ≡ front.size
    size_is = omega (arith, length-append e (q.octets ++ r.octets), length-append q.octets r.octets, q.size, r.four)

    taken_is : Consumes a d octets
    taken_is = Consumes-trans a b d e (q.octets ++ r.octets) p (Consumes-trans b c d q.octets r.octets q.taken r.taken)

    word_is : u32_at front.order (h ++ octets) (front.size - 4) ≡ u32_at front.order r.octets 0
    word_is =
        ap (λ l. u32_at front.order l (front.size - 4)) (sym joined ∙ sym (append_assoc (h ++ e) q.octets r.octets))
        ∙ u32_behind front.order ((h ++ e) ++ q.octets) r.octets (front.size - 4) (omega (arith, length-append (h ++ e) q.octets, length-append h e, q.size))

    placed : IsPlaced content sections front.kind front.size
    placed = subst (λ (k : Content). IsPlaced k sections front.kind front.size) (sym content_is) (content_placed sections front.kind front.size inside front.order (h ++ e))

    fixed_is : length (h ++ e) ≡ 12 + more_of front.kind front.size
    fixed_is = omega (arith, length-append h e)

    all_is : length (h ++ e) + length q.octets + 4 ≡ front.size
    all_is = omega (arith, length-append h e, q.size)

    content_whole : content_of inside sections front.order front.kind front.size (h ++ octets) ≡ content
    content_whole =
        ap (content_of inside sections front.order front.kind front.size) (sym joined)
        ∙ content_front front.order front.size (h ++ e) (q.octets ++ r.octets) inside sections front.kind fixed_is ∙ sym content_is

    found_is : found_of inside front.order front.size (h ++ octets) (content_of inside sections front.order front.kind front.size (h ++ octets)) ≡ found
    found_is =
        ap (found_of inside front.order front.size (h ++ octets)) content_whole
        ∙ ap (λ l. found_of inside front.order front.size l content) (sym joined)
        ∙ body_found inside sections front.order front.kind front.size (h ++ e) q.octets r.octets buf fixed_is r.four all_is content found placed q.says

    pub rest_closed : same ≡ true → TakesRest inside sections a d front h buf found
    rest_closed t = record {
      octets = octets;
      taken = taken_is;
      size = size_is;
      says = λ rest. says_closed octets rest found size_is (ap (λ n. n == front.size) word_is ∙ sym r.says ∙ t) found_is;
      kept = subst (λ l. IsKept found l buf) joined (body_kept inside sections front.order front.kind front.size (h ++ e) q.octets r.octets buf fixed_is r.four all_is content found placed q.says);
      room = body_room inside sections front.order front.kind front.size (h ++ e) q.octets r.octets buf fixed_is r.four all_is content found placed q.says;
      some = body_some inside sections front.order front.kind front.size (h ++ e) q.octets r.octets buf fixed_is r.four all_is content found placed q.says;
      sound = body_sound inside sections front.order front.kind front.size (h ++ e) q.octets r.octets buf fixed_is r.four all_is content found placed q.says;
    }

    pub rest_unclosed : same ≡ false → TakesRest inside sections a d front h buf (is.Fails faults.Block)
    rest_unclosed t = rest_open a d octets buf taken_is size_is (ap (λ n. n == front.size) word_is ∙ sym r.says ∙ t)

-- the octets read of a block, with its first twelve octets before them
module _ (inside : Option (List ℕ)) (sections : Sections) (front : Front) (h : List ℕ) (twelve : length h ≡ 12) (few : sections.blocks ≢ 4294967295)
    (begins : front_in (order_at sections.order h) h ≡ Ok front) where
  pub block_taken : (a b c : Option (List ℕ)) (buf : List ℕ) (found : Found) → Consumes a b h → sections.blocks ≤ 4294967295 → TakesRest inside sections b c front h buf found
      → TakesBlock inside sections a c front.order front.size buf found
  block_taken a b c buf found p bound q = record {
    octets = h ++ q.octets;
    taken = Consumes-trans a b c h q.octets p q.taken;
    whole = omega (arith, length-append h q.octets, q.size);
    says = λ rest.
        ap (block_at inside sections) (append_assoc h q.octets rest) ∙ at_front inside sections h twelve front (q.octets ++ rest) few begins
        ∙ ap (λ l. sized_at inside sections front.order l front.size) (sym (append_assoc h q.octets rest)) ∙ q.says rest;
    within = omega (arith, most_is inside sections h twelve front q.octets begins, length-append h q.octets, q.size);
    kept = q.kept;
    few = omega arith;
    room = q.room;
    some = q.some;
    sound = q.sound;
  }

  pub block_short : (a b c : Option (List ℕ)) (fault : NgFault) → Consumes a b h → Short b c (front.size - 12) fault → Stops inside sections a c fault
  block_short a b c faults.Cut p q = record {
    octets = h ++ q.octets;
    taken = Consumes-trans a b c h q.octets p q.taken;
    end = q.end;
    flawed = at_front inside sections h twelve front q.octets few begins
        ∙ sized_cut inside sections front.order (h ++ q.octets) front.size (front_is (order_at sections.order h) h front begins).sized (omega (arith, length-append h q.octets, q.fewer));
  }
  block_short a b c faults.ReadFault p q = record {
    octets = h ++ q.0;
    taken = Consumes-trans a b c h q.0 p q.1;
    fewer = omega (arith, most_is inside sections h twelve front q.0 begins, length-append h q.0, q.2);
  }
  block_short a b c faults.Magic p q = absurd q
  block_short a b c faults.Version p q = absurd q
  block_short a b c faults.Link p q = absurd q
  block_short a b c faults.Block p q = absurd q
  block_short a b c faults.Long p q = absurd q
  block_short a b c faults.Many p q = absurd q

-- fewer than twelve octets were left
pub head_short : (inside : Option (List ℕ)) (sections : Sections) (a b : Option (List ℕ)) (h : List ℕ) (n : ℕ) → Consumes a b (take n h) → n ≤ length h → IsAtEnd b → n < 12
    → (n ≡ 0 → sections.link ≡ None) → IsCut inside sections a b
head_short inside sections a b h n p fits end few unlinked = record {
  octets = take n h;
  taken = p;
  end = end;
  flawed = elim (cases_lt 0 n) [
    | inl some ↦ at_short inside sections (take n h) (omega (arith, length-take-le n h fits)) (omega (arith, length-take-le n h fits))
    | inr none ↦
        let nothing : take n h ≡ [] = nil_from_length (take n h) (omega (arith, length-take-le n h fits)) in
        ap (block_at inside sections) nothing ∙ at_nothing inside sections ∙ ap end_by (unlinked (omega arith))
  ];
}

-- no octet was left after an interface
pub ends_here : (inside : Option (List ℕ)) (sections : Sections) (a b : Option (List ℕ)) (h : List ℕ) (n : ℕ) → Consumes a b (take n h) → IsAtEnd b → n ≡ 0 → (link : Link) → sections.link ≡ Some link
    → EndsHere inside sections a b
ends_here inside sections a b h n p end none link linked = record {
  taken = subst (λ (k : ℕ). Consumes a b (take k h)) none p;
  end = end;
  ends = at_nothing inside sections ∙ ap end_by linked;
}

-- the first octets of an array after twelve others
pub fields_front : (h e post : List ℕ) (n : ℕ) → length h ≡ 12 → length e ≡ n → take (12 + n) (h ++ (e ++ post)) ≡ h ++ e
fields_front h e post n twelve size =
    ap (take (12 + n)) (sym (append_assoc h e post)) ∙ take_at (h ++ e) post (12 + n) (omega (arith, length-append h e))

pub joined_is : (h z b : List ℕ) → length h ≡ 12 → length z ≡ 16 → put_mid 12 16 (h ++ z) b ≡ h ++ b
joined_is h z b twelve sixteen =
    ap₂ (λ x y. x ++ (b ++ y)) (take_at h z 12 twelve) (ap (drop 16) (drop_at h z 12 twelve) ∙ drop_all 16 z (omega arith)) ∙ ap (λ l. h ++ l) (append-nil b)

-- the captured octets of a packet block fit into the rest of the block
pub room_is : (content : Content) (sections : Sections) (kind size length_is room : ℕ) → IsPlaced content sections kind size → 16 + more_of kind size + room ≡ size
    → (0 < length sections.interfaces → 262144 ≤ length_is) → HasRoom content room length_is
room_is (says.Fails fault) sections kind size length_is room placed e fits = tt
room_is says.Passed sections kind size length_is room placed e fits = tt
room_is says.Section sections kind size length_is room placed e fits = tt
room_is (says.Interface link snap) sections kind size length_is room placed e fits = tt
room_is (says.Packet stamp) sections kind size length_is room placed e fits =
    let enough = fits placed.some in (omega (arith, placed.within, placed.place), omega (arith, placed.small))

-- the content by the fixed fields
pub content_read : (inside : Option (List ℕ)) (sections : Sections) (order : Order) (kind size : ℕ) (content : Content) (fixed h e post : List ℕ) (n : ℕ)
    → content ≡ content_of inside sections order kind size (take (12 + n) fixed) → fixed ≡ h ++ (e ++ post) → length h ≡ 12 → length e ≡ n
    → content ≡ content_of inside sections order kind size (h ++ e)
content_read inside sections order kind size content fixed h e post n is whole twelve long =
    is ∙ ap (content_of inside sections order kind size) (ap (take (12 + n)) whole ∙ fields_front h e post n twelve long)

-- a block was taken that has a fault in its content
pub stops_told : (inside : Option (List ℕ)) (sections : Sections) (a b : Option (List ℕ)) (order : Order) (size : ℕ) (buf : List ℕ) (fault : NgFault)
    → TakesBlock inside sections a b order size buf (is.Fails fault) → Stops inside sections a b fault
stops_told inside sections a b order size buf faults.Version p = record { octets = p.octets; taken = p.taken; within = p.within; flawed = p.says }
stops_told inside sections a b order size buf faults.Link p = record { octets = p.octets; taken = p.taken; within = p.within; flawed = p.says }
stops_told inside sections a b order size buf faults.Block p = record { octets = p.octets; taken = p.taken; within = p.within; flawed = p.says }
stops_told inside sections a b order size buf faults.Long p = record { octets = p.octets; taken = p.taken; within = p.within; flawed = p.says }
stops_told inside sections a b order size buf faults.Cut p = absurd p.sound
stops_told inside sections a b order size buf faults.Magic p = absurd p.sound
stops_told inside sections a b order size buf faults.Many p = absurd p.sound
stops_told inside sections a b order size buf faults.ReadFault p = absurd p.sound

-- the source itself did not fail
pub told_not_read : (T : Type 0) (fault : NgFault) → IsTold fault → is_read_fault {T = T} (Err fault) ≡ true → ⊥
told_not_read T faults.Version p e = cc
told_not_read T faults.Link p e = cc
told_not_read T faults.Block p e = cc
told_not_read T faults.Long p e = cc
told_not_read T faults.Cut p e = p
told_not_read T faults.Magic p e = p
told_not_read T faults.Many p e = p
told_not_read T faults.ReadFault p e = p
