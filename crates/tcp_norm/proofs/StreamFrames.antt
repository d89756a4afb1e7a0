-- The frame of a stream's segment: the octets of its interval, those that went in first, and its
-- FIN.
use Rattle.std.proofs.Common.{◌≡◌, ℕ, ◌+◌, ◌<◌, Bool, true, false, cond, List, length, None, arith, pos, ◌-◌, ◌≤◌, ◌==◌, not, ◌∷◌, ◌++◌, map, take, drop, ℤ, ◌+ℤ◌, ◌-ℤ◌, refl, sym, ap, ap₂, ◌∙◌, add-one, length-append, zero, suc, ◌%◌, ◌^◌, ◌&&◌, ◌||◌, Option, Some, negsuc, ◌*ℤ◌, subst, [], unwrap_or, nat_lt, slice_index, ◌↔◌, int_lt}
use Rattle.std.specs.List.{range_with_len, list_any, AllByRecursion}
use Rattle.std.proofs.lemmas.Grind.{common_steps}
use Rattle.std.proofs.lemmas.Int.{ints}
use Rattle.std.proofs.lemmas.Bool.Decides.{nat_tests}
use Rattle.std.proofs.lemmas.Bool.{and_parts, or_parts}
use Rattle.wire_base.specs.Segments.{Written}
use Rattle.era_state.specs.Quantities.{base_at, acked, first, end_of}
use Rattle.retain_store.specs.Maps.{Block, Settles, octet_at as stored_octet}
use Rattle.era_state.specs.declared.offset.Interval.{Interval}
use Rattle.era_state.specs.declared.warm.Warm.{Warm as WarmEra}
use Rattle.era_state.specs.Offsets.{off, nat_of, number_in, whole, OffsetsAreRead}
use Rattle.era_state.specs.EraFields.{WarmFor}
use Rattle.era_state.specs.KeptIntervals.{KeptOf}
use Rattle.era_state.specs.ForwardedOctets.{offset_of, Bounds, bounds_of, low, high, reach, up_to_end, is_kept_fin, keeps_fin, begins_below, passes_window, passes_end, ends_below, frame_sequence}
use Rattle.rule_book.specs.declared.rule.Rule.{Rule}
use Rattle.rule_book.specs.declared.rule.Rule.TheVariants as rules
use Rattle.ip_rules.specs.JudgedRecord.{where_holds}
use Rattle.wire_base.specs.Tcp as tcp
use Rattle.era_state.specs.Rules as era
use Rattle.era_state.specs.WrittenFrames.{IsFrame}
use Rattle.tcp_codec.specs.WrittenSegment.{Fits, AreReadBack, segment_octets}
use Rattle.norm_settings.specs.SettingValues.{PlainSettings}
use Rattle.ip_rules.specs.Datagrams.{Datagram}
use Rattle.tcp_norm.specs.HeldOctets.{kept_at}
use Rattle.tcp_norm.specs.KeptChains.{Keeps}
use Rattle.tcp_norm.specs.RuleRows.{low_of, high_of, octet_sent, own_octet, clashes, kept_offsets}
use Rattle.tcp_norm.specs.EmittedPackets.{octets_sent, packet_by, segment_sent, segment_anew, stream_segment, bare_segment, sum_mended}
use Rattle.tcp_norm.specs.working.RewriteTests.{stream_rows, and_those, stream_tests}
use Rattle.tcp_norm.specs.Calls.{read, segment_in}
use Rattle.tcp_norm.specs.CallLaws.{WritesFrame}
use Rattle.tcp_norm.proofs.SegmentRules.{OfStream, anew_is_frame}
use Rattle.tcp_norm.proofs.Lists.{same_step, tests_agree}

-- The octets of a segment of the stream that go out: the chain's where it has some, else the
-- segment's own.

-- The octets that go inwards, by the octets of the chain and the segment's own.

pub own_at : (xs : List ℕ) (s n i lo : ℕ) (o : ℤ) → (o +ℤ pos s) ≡ pos lo → i < n → s + n ≤ length xs
    → slice_index (take (s + n - s) (drop s xs)) i ≡ slice_index xs (nat_of (pos (lo + i) -ℤ o))
own_at xs s n i lo o is lt fits =
    let place : (pos (lo + i) -ℤ o) ≡ pos (s + i) = omega (arith, ints) in
    let whole : s + n - s ≡ n = omega arith in
    ap (λ m. slice_index (take m (drop s xs)) i) whole ∙ (grind (arith, common_steps) ∙ sym (ap (λ z. slice_index xs (nat_of z)) place))

-- a list by its elements
pub list_is : (xs : List ℕ) (f : ℕ → ℕ) (a n : ℕ) → length xs ≡ n → ((i : ℕ) → i < n → slice_index xs i ≡ f (a + i)) → xs ≡ map f (range_with_len a n)
list_is [] f a zero long each = refl
list_is [] f a (suc n) long each = absurd (omega arith)
list_is (x ∷ xs) f a zero long each = absurd (omega arith)
list_is (x ∷ xs) f a (suc n) long each =
    let here : x ≡ f a = each 0 (omega arith) ∙ ap f (omega arith) in
    let rest = list_is xs f (a + 1) n (omega arith) (λ i lt. rw (sym (add-one i)) at (each (suc i) (omega arith)) ∙ ap f (omega arith)) in
    ap₂ (λ y l. y ∷ l) here rest

-- offsets are read in the list as the era reads them
offset_is : (e : WarmEra) (ws : List Written) (sequence : ℕ) → WarmFor e ws → off e.base e.acked sequence ≡ offset_of ws sequence
offset_is e ws sequence h =
    let base : e.base ≡ base_at ws = sym (ap number_in h.base_is) in
    ap₂ (λ b a. off b a sequence) base (h.acked_is ∙ ap (λ b. acked b ws) base)

above_acked : (ws : List Written) (lo i : ℕ) → acked (base_at ws) ws ≤ lo → kept_at ws (lo + i) ≡ first (base_at ws) ws (pos (lo + i))
above_acked ws lo i above =
    let test : nat_lt (lo + i) (acked (base_at ws) ws) ≡ false = grind (arith, nat_tests, above) in
    ap (λ t. cond t None (first (base_at ws) ws (pos (lo + i)))) test

-- the octet that goes out at an offset is the one of the chain, and where it has none the segment's
-- own
sent_at : (e : WarmEra) (ws : List Written) (w : Written) (kept : Interval) (blocks : List Block) (own : List ℕ)
    → WarmFor e ws → KeptOf ws w kept → Keeps blocks ws
    → ((i : ℕ) → i < kept.hi - kept.lo → slice_index own i ≡ slice_index w.octets (nat_of (pos (kept.lo + i) -ℤ off e.base e.acked w.seq)))
    → (i : ℕ) → i < kept.hi - kept.lo → unwrap_or (stored_octet blocks (kept.lo + i)) (slice_index own i) ≡ octet_sent ws w (kept.lo + i)
sent_at e ws w kept blocks own was is keeps owns i lt =
    let above : acked (base_at ws) ws ≤ kept.lo = omega (arith, is.spans.lo_is) in
    ap₂ unwrap_or (keeps (kept.lo + i) ∙ above_acked ws kept.lo i above) (owns i lt ∙ ap (λ z. slice_index w.octets (nat_of (pos (kept.lo + i) -ℤ z))) (offset_is e ws w.seq was))

pub settled_is : (e : WarmEra) (ws : List Written) (w : Written) (kept : Interval) (blocks : List Block) (own new : List ℕ)
    → WarmFor e ws → KeptOf ws w kept → Keeps blocks ws
    → length own ≡ kept.hi - kept.lo → length new ≡ length own
    → ((i : ℕ) → i < kept.hi - kept.lo → slice_index own i ≡ slice_index w.octets (nat_of (pos (kept.lo + i) -ℤ off e.base e.acked w.seq)))
    → Settles blocks kept.lo own new → new ≡ octets_sent ws w
settled_is e ws w kept blocks own new was is keeps long same owns settles =
    let low : kept.lo ≡ low_of ws w = is.spans.lo_is in
    list_is new (octet_sent ws w) kept.lo (kept.hi - kept.lo) (same ∙ long) (λ i lt. settles i (omega (arith, long)) ∙ sent_at e ws w kept blocks own was is keeps owns i lt)
    ∙ ap₂ (λ a n. map (octet_sent ws w) (range_with_len a n)) low (ap₂ (λ h l. h - l) is.spans.hi_is low)

own_is : (e : WarmEra) (ws : List Written) (w : Written) (kept : Interval) (own : List ℕ)
    → WarmFor e ws → KeptOf ws w kept → length own ≡ kept.hi - kept.lo
    → ((i : ℕ) → i < kept.hi - kept.lo → slice_index own i ≡ slice_index w.octets (nat_of (pos (kept.lo + i) -ℤ off e.base e.acked w.seq)))
    → own ≡ map (own_octet ws w) (range_with_len (low_of ws w) (high_of ws w - low_of ws w))
own_is e ws w kept own was is long owns =
    list_is own (own_octet ws w) kept.lo (kept.hi - kept.lo) long (λ i lt. owns i lt ∙ ap (λ z. slice_index w.octets (nat_of (pos (kept.lo + i) -ℤ z))) (offset_is e ws w.seq was))
    ∙ ap₂ (λ a n. map (own_octet ws w) (range_with_len a n)) is.spans.lo_is (ap₂ (λ h l. h - l) is.spans.hi_is is.spans.lo_is)

-- two maps are the same exactly where they differ nowhere
same_maps : (f g : ℕ → ℕ) (xs : List ℕ) → map f xs ≡ map g xs → list_any (λ x. not (f x == g x)) xs ≡ false
same_maps f g [] same = refl
same_maps f g (x ∷ xs) same =
    let here : f x ≡ g x = cc in
    let rest : map f xs ≡ map g xs = cc in
    let test : (f x == g x) ≡ true = grind arith in
    rw test (same_maps f g xs rest)

pub differ_nowhere : (f g : ℕ → ℕ) (xs : List ℕ) → list_any (λ x. not (f x == g x)) xs ≡ false → map f xs ≡ map g xs
differ_nowhere f g [] none = refl
differ_nowhere f g (x ∷ xs) none = same_step (f x) (g x) (map f xs) (map g xs) (f x == g x) (list_any (λ y. not (f y == g y)) xs) refl none (differ_nowhere f g xs)

-- an element of a list of values at offsets
mapped_at : (f : ℕ → ℕ) (a n i : ℕ) → i < n → slice_index (map f (range_with_len a n)) i ≡ f (a + i)
mapped_at f a zero i lt = absurd (omega arith)
mapped_at f a (suc n) zero lt = ap f (omega arith)
mapped_at f a (suc n) (suc i) lt = let next : a + 1 + i ≡ a + suc i = omega arith in mapped_at f (a + 1) n i (omega arith) ∙ ap f next

-- an octet clashes exactly where the segment's own are not those that go out
pub clash_is : (e : WarmEra) (ws : List Written) (w : Written) (kept : Interval) (blocks : List Block) (own : List ℕ) (clash : Bool)
    → WarmFor e ws → KeptOf ws w kept → Keeps blocks ws → length own ≡ kept.hi - kept.lo
    → ((i : ℕ) → i < kept.hi - kept.lo → slice_index own i ≡ slice_index w.octets (nat_of (pos (kept.lo + i) -ℤ off e.base e.acked w.seq)))
    → ((clash ≡ false) ↔ Settles blocks kept.lo own own) → clash ≡ clashes ws w
clash_is e ws w kept blocks own clash was is keeps long owns same =
    let low : kept.lo ≡ low_of ws w = is.spans.lo_is in
    let size : kept.hi - kept.lo ≡ high_of ws w - low_of ws w = ap₂ (λ h l. h - l) is.spans.hi_is low in
    let offsets = range_with_len (low_of ws w) (high_of ws w - low_of ws w) in
    let owned = own_is e ws w kept own was is long owns in
    tests_agree clash (clashes ws w)
    (λ none. same_maps (octet_sent ws w) (own_octet ws w) offsets (sym (settled_is e ws w kept blocks own own was is keeps long refl owns (same.0 none)) ∙ owned))
    (λ none. same.1 (λ i lt.
    ap (λ l. slice_index l i) (owned ∙ sym (differ_nowhere (octet_sent ws w) (own_octet ws w) offsets none))
    ∙ (mapped_at (octet_sent ws w) (low_of ws w) (high_of ws w - low_of ws w) i (omega (arith, long, size))
    ∙ (ap (λ l. octet_sent ws w (l + i)) (sym low) ∙ sym (sent_at e ws w kept blocks own was is keeps owns i (omega (arith, long)))))))

-- the octets of a segment that is sent as it was read, or those that were settled
pub either_are : (as_read : Bool) (own filled sent : List ℕ) → (as_read ≡ true → own ≡ sent) → (as_read ≡ false → filled ≡ sent) → cond as_read own filled ≡ sent
either_are true own filled sent plain settled = plain refl
either_are false own filled sent plain settled = settled refl

-- no octet clashes where no rule rewrites
pub none_clash : (header : List Rule) (i : Interval) (clash : Bool) (rows : List Rule) → rows ≡ stream_rows header i clash → (length rows == 0) ≡ true → clash ≡ false
none_clash header i false rows are none = refl
none_clash header i true rows are none =
    let before = header ++ where_holds i.below rules.TOld ++ where_holds i.window rules.TWindow ++ where_holds i.end rules.TEnd in
    let long = ap length are ∙ length-append before (rules.TClash ∷ []) in
    grind (arith, nat_tests, long, none)

-- The frame of a segment of the stream has the octets of its interval, those that went in first.

-- A segment of the stream on which no rule holds is its own frame.

-- the number of an offset that is not below 0
turned : (base n sequence : ℕ) (turns : ℤ) → pos n ≡ ((pos sequence -ℤ pos base) +ℤ (turns *ℤ pos (2 ^ 32))) → sequence < 2 ^ 32 → (base + n) % 2 ^ 32 ≡ sequence
turned base n sequence (pos t) is fits = omega (arith, ints)
turned base n sequence (negsuc t) is fits = omega (arith, ints)

pub number_back : OffsetsAreRead → (base at n sequence : ℕ) → off base at sequence ≡ pos n → sequence < 2 ^ 32 → (base + n) % 2 ^ 32 ≡ sequence
number_back reads base at n sequence is fits =
    let o = (reads base at sequence (pos n)).1 (sym is) in
    turned base n sequence o.turns o.place fits

-- how far octets may go, of a segment whose octets end in the window and before the end
far : (end : Option ℤ) (most place : ℕ) → place ≤ most → ends_below end (pos place) ≡ false → place ≤ up_to_end end most
far None most place le e = le
far (Some (pos z)) most place le e = let under : place ≤ z = grind (arith, nat_tests, e) in omega arith
far (Some (negsuc z)) most place le e = cc

-- of a segment with octets
spans_some : (b : Bounds) (at : ℤ) (len : ℕ) → 0 < len → int_lt at (pos b.acked) ≡ false → int_lt (pos (b.edge + 1)) (at +ℤ pos len) ≡ false
    → ends_below b.end (at +ℤ pos len) ≡ false → (n : ℕ) × (at ≡ pos n) × (low b at ≡ n) × (n + len ≡ high b at len)
spans_some b (negsuc m) len some below window end = cc
spans_some b (pos n) len some below window end =
    let above : b.acked ≤ n = grind (arith, nat_tests, below) in
    let near : n + len ≤ b.edge + 1 = grind (arith, nat_tests, window) in
    let most : n + len ≤ reach b = far b.end (b.edge + 1) (n + len) near end in
    (n, refl, omega arith, omega arith)

-- of one without
spans_none : (b : Bounds) (at : ℤ) → low b at ≡ high b at 0
spans_none b (pos n) = let less : n + 0 ≡ n = omega arith in omega arith
spans_none b (negsuc n) =
    let same : (negsuc n +ℤ pos 0) ≡ negsuc n = omega (arith, ints) in
    let number = ap nat_of same in
    omega (arith, number)

fin_same : (fin kept : Bool) → (fin && not kept) ≡ false → fin ≡ (fin && kept)
fin_same true true e = refl
fin_same true false e = cc
fin_same false kept e = refl

-- on a segment none of the rules on its octets and its FIN holds
pub record NoRow (b : Bounds) (at : ℤ) (len : ℕ) (fin : Bool) : Type 0 where
  pub below : begins_below b at len ≡ false
  pub window : passes_window b at len ≡ false
  pub end : passes_end b at len fin ≡ false

pub record Own (b : Bounds) (at : ℤ) (len : ℕ) (fin : Bool) : Type 0 where
  pub long : low b at + len ≡ high b at len
  pub fin_is : fin ≡ keeps_fin b at len fin
  pub begins : 0 < len → (n : ℕ) × (at ≡ pos n) × (low b at ≡ n)

some_true : (len : ℕ) (t : Bool) → 0 < len → (nat_lt 0 len && t) ≡ false → t ≡ false
some_true len t some e =
    let test : nat_lt 0 len ≡ true = grind (arith, nat_tests, some) in
    sym (ap (λ s. s && t) test) ∙ e

pub own : (b : Bounds) (at : ℤ) (len : ℕ) (fin : Bool) → NoRow b at len fin → Own b at len fin
own b at zero fin h = record {
  long = omega (arith, spans_none b at);
  fin_is = fin_same fin (is_kept_fin b.end b (at +ℤ pos 0)) (or_parts (nat_lt 0 0 && ends_below b.end (at +ℤ pos 0)) _ h.end).1;
  begins = λ some. absurd (omega arith);
}
own b at (suc k) fin h =
    let len = suc k in
    let some : 0 < len = omega arith in
    let last = or_parts (nat_lt 0 len && ends_below b.end (at +ℤ pos len)) (fin && not (is_kept_fin b.end b (at +ℤ pos len))) h.end in
    let s = spans_some b at len some (some_true len _ some h.below) (some_true len _ some h.window) (some_true len _ some last.0) in
    record {
      long = omega (arith, s.2, s.3);
      fin_is = fin_same fin (is_kept_fin b.end b (at +ℤ pos len)) last.1;
      begins = λ more. (s.0, s.1, s.2);
    }

-- an offset at which a FIN is kept is not below 0
kept_place : (end : Option ℕ) (b : Bounds) (place : ℤ) → is_kept_fin (whole end) b place ≡ true → (n : ℕ) × (place ≡ pos n)
kept_place end b (pos n) kept = (n, refl)
kept_place None b (negsuc n) kept = cc
kept_place (Some z) b (negsuc n) kept = cc

-- the frame's sequence number is the segment's own
pub own_sequence : OffsetsAreRead → (base from : ℕ) (end : Option ℕ) (b : Bounds) (at : ℤ) (sequence len : ℕ) (fin : Bool)
    → b.end ≡ whole end → off base from sequence ≡ at → sequence < 2 ^ 32 → Own b at len fin → sequence ≡ frame_sequence base b at sequence len fin
own_sequence reads base from end b at sequence len fin ends is fits o = first_case (nat_lt (low b at) (high b at len)) refl
  where
    second_case : (t : Bool) → keeps_fin b at len fin ≡ t → nat_lt (low b at) (high b at len) ≡ false
        → sequence ≡ cond t ((base + nat_of (at +ℤ pos len)) % 2 ^ 32) sequence
    second_case false e empty = refl
    second_case true e empty =
        let none : len ≡ 0 = grind (arith, nat_tests, empty, o.long) in
        let kept = kept_place end b (at +ℤ pos len) (subst (λ z. is_kept_fin z b (at +ℤ pos len) ≡ true) ends (and_parts fin (is_kept_fin b.end b (at +ℤ pos len)) e).1) in
        let place : at ≡ pos kept.0 = omega (arith, ints, none, kept.1) in
        sym (ap (λ z. (base + nat_of z) % 2 ^ 32) kept.1 ∙ number_back reads base from kept.0 sequence (is ∙ place) fits)

    first_case : (t : Bool) → nat_lt (low b at) (high b at len) ≡ t
        → sequence ≡ cond t ((base + low b at) % 2 ^ 32) (cond (keeps_fin b at len fin) ((base + nat_of (at +ℤ pos len)) % 2 ^ 32) sequence)
    first_case true e =
        let some : 0 < len = grind (arith, nat_tests, e, o.long) in
        let s = o.begins some in
        sym (ap (λ n. (base + n) % 2 ^ 32) s.2 ∙ number_back reads base from s.0 sequence (is ∙ s.1) fits)
    first_case false e = second_case (keeps_fin b at len fin) refl e

-- a segment of the stream on which none of these rules holds is its own frame
pub verbatim : OffsetsAreRead → (place : Option ℕ) (ws : List Written) (w : Written) (i : Interval) → whole place ≡ end_of (base_at ws) ws → KeptOf ws w i → OfStream ws w → w.seq < 2 ^ 32
    → i.below ≡ false → i.window ≡ false → i.end ≡ false → IsFrame ws w i w
verbatim reads place ws w i pinned is f fits below window end =
    let b = bounds_of ws in
    let at = offset_of ws w.seq in
    let stream : (t : Bool) (row : Bool) → t ≡ (era.is_of_stream ws w && row) → t ≡ false → row ≡ false =
    λ t row same none. sym (ap (λ s. s && row) f.whole) ∙ (sym same ∙ none) in
    let o = own b at (length w.octets) (tcp.has_fin w.flags) (record {
      below = stream i.below _ is.below_is below;
      window = stream i.window _ is.window_is window;
      end = stream i.end _ is.end_is end;
    }) in
    record {
      inward = f.inward;
      no_syn = f.no_syn;
      fin_is = o.fin_is ∙ sym is.spans.fin_is;
      long = ap (λ n. n + length w.octets) is.spans.lo_is ∙ (o.long ∙ sym is.spans.hi_is);
      sequence_is = own_sequence reads (base_at ws) (acked (base_at ws) ws) place b at w.seq (length w.octets) (tcp.has_fin w.flags) (sym pinned) refl fits o;
    }

-- What is written of a segment of the stream is the frame of its interval, with the octets that
-- went in first.

-- where none is named, none holds
pub empty_left : (xs ys : List Rule) → xs ++ ys ≡ [] → (xs ≡ []) × (ys ≡ [])
empty_left [] ys e = (refl, e)
empty_left (x ∷ xs) ys e = cc

pub holds_not : (b : Bool) (x : Rule) → where_holds b x ≡ [] → b ≡ false
holds_not false x e = refl
holds_not true x e = cc

pub none_held : (rows : List Rule) (tests : List (Rule × Bool)) → and_those rows tests ≡ [] → (rows ≡ []) × AllByRecursion (λ test. test.1 ≡ false) tests
none_held rows [] none = (none, tt)
none_held rows (test ∷ more) none =
    let later = none_held (rows ++ where_holds test.1 test.0) more none in
    let here = empty_left rows (where_holds test.1 test.0) later.0 in
    (here.0, (holds_not test.1 test.0 here.1, later.1))

-- the octets of a segment on which no rule holds are those that are sent
pub own_octets : (ws : List Written) (w : Written) → Own (bounds_of ws) (offset_of ws w.seq) (length w.octets) (tcp.has_fin w.flags) → clashes ws w ≡ false → w.octets ≡ octets_sent ws w
own_octets ws w o none =
    list_is w.octets (own_octet ws w) (low_of ws w) (high_of ws w - low_of ws w) (omega (arith, o.long)) (λ i lt. place i (omega (arith, o.long, lt)))
    ∙ sym (differ_nowhere (octet_sent ws w) (own_octet ws w) (kept_offsets ws w) none)
  where
    place : (i : ℕ) → i < length w.octets → slice_index w.octets i ≡ own_octet ws w (low_of ws w + i)
    place i lt =
        let s = o.begins (omega arith) in
        let at : (pos (low_of ws w + i) -ℤ offset_of ws w.seq) ≡ pos i = ap₂ (λ n z. pos (n + i) -ℤ z) s.2 s.1 ∙ omega (arith, ints) in
        sym (ap (λ z. slice_index w.octets (nat_of z)) at)

pub writes_frame : OffsetsAreRead → AreReadBack → (settings : PlainSettings) (place : Option ℕ) (ws : List Written) (d : Datagram) (i : Interval) (clash : Bool)
    → whole place ≡ end_of (base_at ws) ws → OfStream ws (segment_in d) → KeptOf ws (segment_in d) i → clash ≡ clashes ws (segment_in d)
    → (segment_in d).seq < 2 ^ 32 → Fits (stream_segment ws d) → (header named : List Rule) → stream_rows header i clash ≡ named
    → WritesFrame ws (segment_in d) i (read true (packet_by settings ws d d.fixes named).octets)
writes_frame reads back settings place ws d i clash pinned f is clashed number fits header [] none =
    let rows = (none_held header (stream_tests i clash) none).1 in
    let w = segment_in d in
    let framed : IsFrame ws w i w = verbatim reads place ws w i pinned is f number rows.0 rows.1.0 rows.1.1.0 in
    let stream : (t : Bool) (row : Bool) → t ≡ (era.is_of_stream ws w && row) → t ≡ false → row ≡ false =
    λ t row same out. sym (ap (λ s. s && row) f.whole) ∙ (sym same ∙ out) in
    let o = own (bounds_of ws) (offset_of ws w.seq) (length w.octets) (tcp.has_fin w.flags) (record {
      below = stream i.below _ is.below_is rows.0;
      window = stream i.window _ is.window_is rows.1.0;
      end = stream i.end _ is.end_is rows.1.1.0;
    }) in
    let same : read true (packet_by settings ws d d.fixes []).octets ≡ w = ap (read true) (as_read d.fixes) ∙ ap (λ b. read b d.octets) (sym f.inward) in
    subst (WritesFrame ws w i) (sym same) (record { framed = framed; octets_are = own_octets ws w o (sym clashed ∙ rows.1.1.1.0) })
  where
    as_read : (fixes : List Rule) → (packet_by settings ws d fixes []).octets ≡ d.octets
    as_read [] = refl
    as_read (x ∷ xs) = refl
writes_frame reads back settings place ws d i clash pinned f is clashed number fits header (rule ∷ more) some =
    let w = segment_in d in
    let same : (packet_by settings ws d d.fixes (rule ∷ more)).octets ≡ segment_octets (stream_segment ws d) = mended d.fixes ∙ anew in
    subst (λ m. WritesFrame ws w i (read true m)) (sym same) (record { framed = anew_is_frame back ws d i is f fits; octets_are = (back (stream_segment ws d) fits).octets })
  where
    mended : (fixes : List Rule) → (packet_by settings ws d fixes (rule ∷ more)).octets ≡ segment_sent ws d (rule ∷ more)
    mended [] = refl
    mended (x ∷ xs) = refl

    anew : segment_sent ws d (rule ∷ more) ≡ segment_octets (stream_segment ws d)
    anew =
        ap (λ b. cond b (segment_octets (segment_anew ws d)) (sum_mended d)) f.inward
        ∙ ap₂ (λ a b. segment_octets (cond (a || b) (bare_segment d) (stream_segment ws d))) f.no_syn f.no_rst
