-- Lists of segments with the same numbers, as with a silent segment more, or with one of two that
-- are read alike; and what later segments preserve.
use Rattle.std.proofs.Common.{◌≡◌, ℕ, ◌+◌, ◌%◌, ◌^◌, List, [], ◌∷◌, ◌++◌, Option, Some, None, Bool, true, false, not, ◌||◌, ◌&&◌, refl, ◌∙◌, ap, length, sym, append_assoc, append-nil, arith, max, min, ℤ, pos, ◌+ℤ◌, ◌-ℤ◌, nat_lt, is_some, if◌then◌else◌}
use Rattle.std.specs.Option.{option_or}
use Rattle.std.proofs.Math.Bool.{or-false}
use Rattle.std.proofs.Math.Nat.{max-zero}
use Rattle.wire_base.specs.Tcp as tcp
use Rattle.wire_base.specs.Segments.{Written}
use Rattle.era_state.specs.Offsets.{off, natural, nat_of, number_in}
use Rattle.era_state.specs.SegmentMarks.{has_octets, number_behind, ack_of, edge_place, top_place, octet_at, get_at, fin_place, fixes, is_outbound_syn, is_inbound_syn}
use Rattle.era_state.specs.Quantities.{base_of, iss, out, out_fin, acked, edge, top, first, end_of, behind_end, is_opened, shift, shift_with, out_seen, in_seen, in_scaled, out_scaled, out_scale, base_at, octets_with, octets_of, is_over, Untouched}
use Rattle.era_state.specs.SilentSegments.{SameNumbers, SilenceChangesNothing, Same}
use Rattle.era_state.specs.EmissionLaws.{WrittenRemains, UnacknowledgedHasNoOctet}
use Rattle.era_state.specs.declared.era.Era.{Era}
use Rattle.era_state.specs.declared.era.Era.TheVariants.{Called, Offered, Warm, Closed}
use Rattle.era_state.specs.declared.warm.Warm as w
use Rattle.era_state.specs.States.{offered, warm, closed, state_with}
use Rattle.era_state.specs.EraFields.{WarmFor, is_over_in}
use Rattle.era_state.specs.Eras.{StandsFor, StatesAreTheLists, SilenceStands, octets_in}
use Rattle.era_state.specs.AlikeSegments.{IsAlike, AlikeChangesAlike, AlikeStands}
use Rattle.era_state.proofs.Quantities.{or_none, count_same, base_push, iss_push, out_push, out_fin_push, out_seen_push, in_seen_push, in_scaled_push, out_scaled_push, out_scale_push, acked_push, opened_push, edge_push, top_push, octet_push, end_push, or_kept, count_none, first_past, syns_kept}

-- What an inward segment leaves unchanged.

pub no_ack : (base a : ℕ) (w : Written) → w.inward ≡ true → ack_of base a w ≡ None
no_ack base a w inward = λ i. if not (inward i) && tcp.has_ack w.flags then natural (off base a w.ack) else None

-- one without SYN
pub same_numbers : (ws : List Written) (w : Written) → w.inward ≡ true → tcp.has_syn w.flags ≡ false → SameNumbers ws (ws ++ w ∷ [])
same_numbers ws w inward mute = record {
  base_is = base_push ws w ∙ (λ i. option_or (base_of ws) (if inward i then (if mute i then Some ((w.seq + 1) % 2 ^ 32) else None) else (if tcp.has_ack w.flags && not (tcp.has_rst w.flags) then Some w.ack else None))) ∙ or_none (base_of ws);
  iss_is = iss_push ws w ∙ (λ i. option_or (iss ws) (if not (inward i) && tcp.has_syn w.flags then Some w.seq else None)) ∙ or_none (iss ws);
  out_is = out_push ws w ∙ (λ i. option_or (if inward i then None else Some (number_behind w)) (out ws));
  out_fin_is = out_fin_push ws w ∙ (λ i. out_fin ws || (not (inward i) && tcp.has_fin w.flags)) ∙ or-false (out_fin ws);
  out_seen_is = out_seen_push ws w ∙ (λ i. out_seen ws || (not (inward i) && tcp.has_syn w.flags)) ∙ or-false (out_seen ws);
  in_seen_is = in_seen_push ws w ∙ (λ i. in_seen ws || (inward i && mute i)) ∙ or-false (in_seen ws);
  out_scaled_is = out_scaled_push ws w ∙ (λ i. out_scaled ws || ((not (inward i) && tcp.has_syn w.flags) && is_some w.scale)) ∙ or-false (out_scaled ws);
  in_scaled_is = in_scaled_push ws w ∙ (λ i. in_scaled ws || ((inward i && mute i) && is_some w.scale)) ∙ or-false (in_scaled ws);
  out_scale_is = out_scale_push ws w ∙ (λ i. max (out_scale ws) (min 14 (if not (inward i) && tcp.has_syn w.flags then number_in w.scale else 0))) ∙ max-zero (out_scale ws);
  acked_is = λ base. acked_push base ws w ∙ (λ i. max (acked base ws) (number_in (no_ack base (acked base ws) w inward i))) ∙ max-zero (acked base ws);
  opened_is = λ base. opened_push base ws w ∙ (λ i. is_opened base ws || is_some (no_ack base (acked base ws) w inward i)) ∙ or-false (is_opened base ws);
  edge_is = λ base. edge_push base ws w ∙ (λ i. max (edge base ws) (edge_place (no_ack base (acked base ws) w inward i) (shift ws) w)) ∙ max-zero (edge base ws);
}

get_none : (o : Option ℕ) → get_at [] o ≡ None
get_none None = refl
get_none (Some n) = refl

pub if_same : {A : Type 0} (b : Bool) (x : A) → (if b then x else x) ≡ x
if_same true x = refl
if_same false x = refl

-- one without octets
pub no_octet : (base a : ℕ) (w : Written) (offset : ℤ) → w.octets ≡ [] → octet_at base a offset w ≡ None
no_octet base a w offset none =
    (λ i. if w.inward then get_at (none i) (natural (offset -ℤ off base a w.seq)) else None)
    ∙ (λ i. if w.inward then get_none (natural (offset -ℤ off base a w.seq)) i else None)
    ∙ if_same w.inward None

pub no_top : (base a : ℕ) (w : Written) → w.octets ≡ [] → top_place base a w ≡ 0
no_top base a w none = by w.inward
  where
    by : (b : Bool) → (if b && has_octets w then nat_of (off base a w.seq +ℤ pos (length w.octets)) else 0) ≡ 0
    by true = λ i. if nat_lt 0 (length (none i)) then nat_of (off base a w.seq +ℤ pos (length w.octets)) else 0
    by false = refl

-- one without FIN
pub no_end : (base a : ℕ) (w : Written) → tcp.has_fin w.flags ≡ false → fin_place base a w ≡ None
no_end base a w endless = by w.inward
  where
    by : (b : Bool) → (if b && tcp.has_fin w.flags then Some (off base a w.seq +ℤ pos (length w.octets)) else None) ≡ None
    by true = λ i. if endless i then Some (off base a w.seq +ℤ pos (length w.octets)) else None
    by false = refl

pub shift_kept : (ws vs : List Written) → SameNumbers ws vs → shift vs ≡ shift ws
shift_kept ws vs h = λ i. shift_with (h.out_seen_is i) (h.in_seen_is i) (h.out_scaled_is i) (h.in_scaled_is i) (h.out_scale_is i)

pub silence_changes_nothing : SilenceChangesNothing
silence_changes_nothing ws w h = record {
  numbers = numbers;
  top_is = tops;
  end_is = ends;
  first_is = firsts;
  next_is = λ base i. max (numbers.acked_is base i) (max (tops base i) (behind_end (ends base i)));
  octets_are = λ base. count_same base ws (ws ++ w ∷ []) (tops base) (firsts base);
  shift_is = shift_kept ws (ws ++ w ∷ []) numbers;
}
  where
    numbers : SameNumbers ws (ws ++ w ∷ [])
    numbers = same_numbers ws w h.inward h.no_syn

    tops : (base : ℕ) → top base (ws ++ w ∷ []) ≡ top base ws
    tops base = top_push base ws w ∙ ap (max (top base ws)) (no_top base (acked base ws) w h.no_octets) ∙ max-zero (top base ws)

    firsts : (base : ℕ) (offset : ℤ) → first base (ws ++ w ∷ []) offset ≡ first base ws offset
    firsts base offset = octet_push base ws w offset ∙ ap (option_or (first base ws offset)) (no_octet base (acked base ws) w offset h.no_octets) ∙ or_none (first base ws offset)

    ends : (base : ℕ) → end_of base (ws ++ w ∷ []) ≡ end_of base ws
    ends base = end_push base ws w ∙ ap (option_or (end_of base ws)) (no_end base (acked base ws) w h.no_fin) ∙ or_none (end_of base ws)

-- What is preserved when further segments are written.

-- one more, and then the others
pub pushed : (ws : List Written) (w : Written) (vs : List Written) → ws ++ (w ∷ vs) ≡ (ws ++ w ∷ []) ++ vs
pushed ws w vs = sym (append_assoc ws (w ∷ []) vs)

-- what one more preserves, all preserve
stays : {A : Type 0} (q : List Written → Option A) (x : A) → ((ws : List Written) (w : Written) → q ws ≡ Some x → q (ws ++ w ∷ []) ≡ Some x) → (ws vs : List Written) → q ws ≡ Some x → q (ws ++ vs) ≡ Some x
stays q x push ws [] e = ap q (append-nil ws) ∙ e
stays q x push ws (v ∷ vs) e = ap q (pushed ws v vs) ∙ stays q x push (ws ++ v ∷ []) vs (push ws v e)

base_stays : (b : ℕ) (ws vs : List Written) → base_of ws ≡ Some b → base_of (ws ++ vs) ≡ Some b
base_stays b ws vs e = stays base_of b (λ us w h. base_push us w ∙ or_kept (base_of us) (fixes w) b h) ws vs e

first_stays : (base : ℕ) (o : ℤ) (x : ℕ) (ws vs : List Written) → first base ws o ≡ Some x → first base (ws ++ vs) o ≡ Some x
first_stays base o x ws vs e = stays (λ us. first base us o) x (λ us w h. octet_push base us w o ∙ or_kept (first base us o) (octet_at base (acked base us) o w) x h) ws vs e

end_stays : (base : ℕ) (z : ℤ) (ws vs : List Written) → end_of base ws ≡ Some z → end_of base (ws ++ vs) ≡ Some z
end_stays base z ws vs e = stays (end_of base) z (λ us w h. end_push base us w ∙ or_kept (end_of base us) (fin_place base (acked base us) w) z h) ws vs e

pub written_remains : WrittenRemains
written_remains base ws later = record {
  base_is = λ number e. base_stays number ws later e;
  octet_is = λ offset octet e. first_stays base offset octet ws later e;
  end_is = λ place e. end_stays base place ws later e;
}

-- an inward segment acknowledges nothing
pub acked_same : (base : ℕ) (ws : List Written) (w : Written) → w.inward ≡ true → acked base (ws ++ w ∷ []) ≡ acked base ws
acked_same base ws w inward = acked_push base ws w ∙ (λ i. max (acked base ws) (number_in (no_ack base (acked base ws) w inward i))) ∙ max-zero (acked base ws)

pub edge_same : (base : ℕ) (ws : List Written) (w : Written) → w.inward ≡ true → edge base (ws ++ w ∷ []) ≡ edge base ws
edge_same base ws w inward = edge_push base ws w ∙ (λ i. max (edge base ws) (edge_place (no_ack base (acked base ws) w inward i) (shift ws) w)) ∙ max-zero (edge base ws)

-- What holds for every era and its list.

over_same : (e : w.Warm) (ws : List Written) → WarmFor e ws → is_over (acked e.base ws) (end_of e.base ws) (out_fin ws) ≡ is_over_in e
over_same e ws h = λ i. is_over (sym h.acked_is i) (sym h.end_is i) (sym h.out_fin_is i)

pub states_are_the_lists : StatesAreTheLists
states_are_the_lists (Called e) ws h = record { state_is = sym (ap (λ b. state_with b ws) h.unbased); base_is = sym h.unbased; iss_is = sym h.iss_is }
states_are_the_lists (Offered e) ws h = record { state_is = sym (ap (λ b. state_with b ws) h.base_is ∙ (λ i. if h.untouched.unopened i then (if is_over (acked e.base ws) (end_of e.base ws) (out_fin ws) then closed else warm) else offered)); base_is = sym h.base_is; iss_is = h.iss_is }
states_are_the_lists (Warm e) ws h = record { state_is = sym (ap (λ b. state_with b ws) h.0.base_is ∙ (λ i. if h.0.opened i then (if (over_same e ws h.0 ∙ h.1) i then closed else warm) else offered)); base_is = sym h.0.base_is; iss_is = h.0.iss_is }
states_are_the_lists (Closed e) ws h = record { state_is = sym (ap (λ b. state_with b ws) h.base_is ∙ (λ i. if h.opened i then (if (over_same e.last ws h ∙ e.over) i then closed else warm) else offered)); base_is = sym h.base_is; iss_is = h.iss_is }

-- the number of octets of an era is its list's: before an offset is acknowledged, no octet was
-- written
pub octets_are_the_lists : (e : Era) (ws : List Written) → StandsFor e ws → octets_in e ≡ octets_of ws
octets_are_the_lists (Called e) ws h = sym (ap (λ b. octets_with b ws) h.unbased)
octets_are_the_lists (Offered e) ws h = sym (ap (λ b. octets_with b ws) h.base_is ∙ count_none e.base ws h.untouched.top_is)
octets_are_the_lists (Warm e) ws h = h.0.octets_are ∙ sym (ap (λ b. octets_with b ws) h.0.base_is)
octets_are_the_lists (Closed e) ws h = h.octets_are ∙ sym (ap (λ b. octets_with b ws) h.base_is)

untouched_kept : (base : ℕ) (ws vs : List Written) → Same ws vs → Untouched base ws → Untouched base vs
untouched_kept base ws vs s h = record {
  unopened = s.numbers.opened_is base ∙ h.unopened;
  acked_is = s.numbers.acked_is base ∙ h.acked_is;
  edge_is = s.numbers.edge_is base ∙ h.edge_is;
  top_is = s.top_is base ∙ h.top_is;
  end_is = s.end_is base ∙ h.end_is;
}

warm_kept : (e : w.Warm) (ws vs : List Written) → Same ws vs → WarmFor e ws → WarmFor e vs
warm_kept e ws vs s h = record {
  base_is = s.numbers.base_is ∙ h.base_is;
  opened = s.numbers.opened_is e.base ∙ h.opened;
  iss_is = h.iss_is ∙ sym s.numbers.iss_is;
  out_is = s.numbers.out_is ∙ h.out_is;
  syns_are = syns_kept e.syns ws vs s.numbers h.syns_are;
  acked_is = h.acked_is ∙ sym (s.numbers.acked_is e.base);
  edge_is = h.edge_is ∙ sym (s.numbers.edge_is e.base);
  top_is = h.top_is ∙ sym (s.top_is e.base);
  end_is = h.end_is ∙ sym (s.end_is e.base);
  out_fin_is = h.out_fin_is ∙ sym s.numbers.out_fin_is;
  octets_are = h.octets_are ∙ sym (s.octets_are e.base);
}

pub kept : (e : Era) (ws vs : List Written) → Same ws vs → StandsFor e ws → StandsFor e vs
kept (Called e) ws vs s h = record {
  unbased = s.numbers.base_is ∙ h.unbased;
  untouched = λ base. untouched_kept base ws vs s (h.untouched base);
  iss_is = s.numbers.iss_is ∙ h.iss_is;
  out_is = s.numbers.out_is ∙ h.out_is;
  syns_are = syns_kept e.syns ws vs s.numbers h.syns_are;
  unfinished = s.numbers.out_fin_is ∙ h.unfinished;
}
kept (Offered e) ws vs s h = record {
  base_is = s.numbers.base_is ∙ h.base_is;
  untouched = untouched_kept e.base ws vs s h.untouched;
  iss_is = h.iss_is ∙ sym s.numbers.iss_is;
  out_is = h.out_is ∙ sym s.numbers.out_is;
  syns_are = syns_kept e.syns ws vs s.numbers h.syns_are;
  out_fin_is = h.out_fin_is ∙ sym s.numbers.out_fin_is;
}
kept (Warm e) ws vs s h = (warm_kept e ws vs s h.0, h.1)
kept (Closed e) ws vs s h = warm_kept e.last ws vs s h

pub silence_stands : SilenceStands
silence_stands e ws w silent h = kept e ws (ws ++ w ∷ []) (silence_changes_nothing ws w silent) h

-- before an offset is acknowledged no octet was written
pub unacknowledged_has_no_octet : UnacknowledgedHasNoOctet
unacknowledged_has_no_octet (Called e) ws h before place = first_past (base_at ws) ws place (let t = (h.untouched (base_at ws)).top_is in omega (arith, t))
unacknowledged_has_no_octet (Offered e) ws h before place =
    let t = h.untouched.top_is in
    ap (λ b. first b ws (pos place)) (ap number_in h.base_is) ∙ first_past e.base ws place (omega (arith, t))
unacknowledged_has_no_octet (Warm e) ws h before place = cc
unacknowledged_has_no_octet (Closed e) ws h before place = cc

-- Inward segments that are read alike.

-- a quantity that one more segment changes by its own contribution
step : {A B : Type 0} (q : List Written → A) (f : A → B → A) (g : Written → B) → ((us : List Written) (u : Written) → q (us ++ u ∷ []) ≡ f (q us) (g u)) → (ws : List Written) (w v : Written) → g v ≡ g w → q (ws ++ v ∷ []) ≡ q (ws ++ w ∷ [])
step q f g push ws w v e = push ws v ∙ ap (f (q ws)) e ∙ sym (push ws w)

picked : {A : Type 0} (b : Bool) (x y : A) → b ≡ true → (if b then x else y) ≡ x
picked true x y e = refl
picked false x y e = cc

numbers : (ws : List Written) (w v : Written) → IsAlike w v → SameNumbers (ws ++ w ∷ []) (ws ++ v ∷ [])
numbers ws w v h = record {
  base_is = step base_of option_or fixes base_push ws w v (picked v.inward (if tcp.has_syn v.flags then Some ((v.seq + 1) % 2 ^ 32) else None) _ h.inward_too ∙ (λ j. if h.syn_is j then Some ((h.sequence_is j + 1) % 2 ^ 32) else None) ∙ sym (picked w.inward _ _ h.inward));
  iss_is = step iss option_or (λ (u : Written). if is_outbound_syn u then Some u.seq else None) iss_push ws w v (ap (λ b. if b then Some v.seq else None) (outward v h.inward_too (tcp.has_syn v.flags)) ∙ sym (ap (λ b. if b then Some w.seq else None) (outward w h.inward (tcp.has_syn w.flags))));
  out_is = step out (λ o p. option_or p o) (λ (u : Written). if u.inward then None else Some (number_behind u)) out_push ws w v (picked v.inward None (Some (number_behind v)) h.inward_too ∙ sym (picked w.inward None (Some (number_behind w)) h.inward));
  out_fin_is = step out_fin (λ a b. a || b) (λ (u : Written). not u.inward && tcp.has_fin u.flags) out_fin_push ws w v (both (tcp.has_fin v.flags) (tcp.has_fin w.flags));
  out_seen_is = step out_seen (λ a b. a || b) is_outbound_syn out_seen_push ws w v syns;
  in_seen_is = step in_seen (λ a b. a || b) is_inbound_syn in_seen_push ws w v calls;
  out_scaled_is = step out_scaled (λ a b. a || b) (λ (u : Written). is_outbound_syn u && is_some u.scale) out_scaled_push ws w v ((λ j. outward v h.inward_too (tcp.has_syn v.flags) j && is_some v.scale) ∙ sym (λ j. outward w h.inward (tcp.has_syn w.flags) j && is_some w.scale));
  in_scaled_is = step in_scaled (λ a b. a || b) (λ (u : Written). is_inbound_syn u && is_some u.scale) in_scaled_push ws w v ((λ j. calls j && is_some v.scale) ∙ scaled (tcp.has_syn w.flags) refl);
  out_scale_is = step out_scale (λ a b. max a (min 14 b)) (λ (u : Written). if is_outbound_syn u then number_in u.scale else 0) out_scale_push ws w v (ap (λ b. if b then number_in v.scale else 0) (outward v h.inward_too (tcp.has_syn v.flags)) ∙ sym (ap (λ b. if b then number_in w.scale else 0) (outward w h.inward (tcp.has_syn w.flags))));
  acked_is = λ base. acked_same base ws v h.inward_too ∙ sym (acked_same base ws w h.inward);
  opened_is = λ base. opened_push base ws v ∙ (λ j. is_opened base ws || is_some (no_ack base (acked base ws) v h.inward_too j)) ∙ sym (opened_push base ws w ∙ (λ j. is_opened base ws || is_some (no_ack base (acked base ws) w h.inward j)));
  edge_is = λ base. edge_same base ws v h.inward_too ∙ sym (edge_same base ws w h.inward);
}
  where
    outward : (u : Written) → u.inward ≡ true → (b : Bool) → (not u.inward && b) ≡ false
    outward u inward b = λ j. not (inward j) && b

    both : (b c : Bool) → (not v.inward && b) ≡ (not w.inward && c)
    both b c = outward v h.inward_too b ∙ sym (outward w h.inward c)

    syns : is_outbound_syn v ≡ is_outbound_syn w
    syns = both (tcp.has_syn v.flags) (tcp.has_syn w.flags)

    calls : is_inbound_syn v ≡ is_inbound_syn w
    calls = λ j. (h.inward_too ∙ sym h.inward) j && h.syn_is j

    scaled : (b : Bool) → tcp.has_syn w.flags ≡ b → (is_inbound_syn w && is_some v.scale) ≡ (is_inbound_syn w && is_some w.scale)
    scaled true e = ap (λ b. is_inbound_syn w && b) (h.scale_is e)
    scaled false e = let mute : is_inbound_syn w ≡ false = (λ j. h.inward j && e j) in (λ j. mute j && is_some v.scale) ∙ sym (λ j. mute j && is_some w.scale)

pub alike_changes_alike : AlikeChangesAlike
alike_changes_alike ws w v h = record {
  numbers = same;
  top_is = tops;
  end_is = ends;
  first_is = firsts;
  next_is = λ base j. max (same.acked_is base j) (max (tops base j) (behind_end (ends base j)));
  octets_are = λ base. count_same base (ws ++ w ∷ []) (ws ++ v ∷ []) (tops base) (firsts base);
  shift_is = shift_kept (ws ++ w ∷ []) (ws ++ v ∷ []) same;
}
  where
    same : SameNumbers (ws ++ w ∷ []) (ws ++ v ∷ [])
    same = numbers ws w v h

    inward : v.inward ≡ w.inward
    inward = h.inward_too ∙ sym h.inward

    tops : (base : ℕ) → top base (ws ++ v ∷ []) ≡ top base (ws ++ w ∷ [])
    tops base = top_push base ws v ∙ (λ j. max (top base ws) (if inward j && nat_lt 0 (length (h.octets_are j)) then nat_of (off base (acked base ws) (h.sequence_is j) +ℤ pos (length (h.octets_are j))) else 0)) ∙ sym (top_push base ws w)

    firsts : (base : ℕ) (offset : ℤ) → first base (ws ++ v ∷ []) offset ≡ first base (ws ++ w ∷ []) offset
    firsts base offset = octet_push base ws v offset ∙ (λ j. option_or (first base ws offset) (if inward j then get_at (h.octets_are j) (natural (offset -ℤ off base (acked base ws) (h.sequence_is j))) else None)) ∙ sym (octet_push base ws w offset)

    ends : (base : ℕ) → end_of base (ws ++ v ∷ []) ≡ end_of base (ws ++ w ∷ [])
    ends base = end_push base ws v ∙ (λ j. option_or (end_of base ws) (if inward j && h.fin_is j then Some (off base (acked base ws) (h.sequence_is j) +ℤ pos (length (h.octets_are j))) else None)) ∙ sym (end_push base ws w)

pub alike_stands : AlikeStands
alike_stands e ws w v h stands = kept e (ws ++ w ∷ []) (ws ++ v ∷ []) (alike_changes_alike ws w v h) stands
