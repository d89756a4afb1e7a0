-- Eras with one more segment, before and after an offset is acknowledged.
use Rattle.std.proofs.Common.{◌≡◌, ℕ, Bool, true, false, refl, List, [], ◌∷◌, ◌++◌, Some, None, not, ◌||◌, ◌&&◌, sym, ◌∙◌, ap, subst, ◌<◌, ◌^◌, Option, arith, ◌+◌, ◌%◌, max, is_some, if◌then◌else◌, pos}
use Rattle.std.specs.Option.{option_or}
use Rattle.std.proofs.Math.Bool.{or-false}
use Rattle.std.proofs.Math.Nat.{max-zero, zero-max}
use Rattle.std.proofs.lemmas.Bool.{or_left}
use Rattle.wire_base.specs.Tcp as tcp
use Rattle.wire_base.specs.Segments.{Written}
use Rattle.era_state.specs.declared.segment.Seg.{Seg}
use Rattle.era_state.specs.declared.syns.Syns.{Syns}
use Rattle.era_state.specs.declared.called.Called.{Called}
use Rattle.era_state.specs.declared.offered.Offered.{Offered}
use Rattle.era_state.specs.Offsets.{number_in, off, natural, turn_past, whole}
use Rattle.era_state.specs.SegmentMarks.{fixes, number_behind, ack_of, edge_place, top_place, fin_place}
use Rattle.era_state.specs.working.FirstSyns.{iss_after}
use Rattle.era_state.specs.Quantities.{base_of, acked, iss, out, out_fin, shift, Untouched, edge, top, first, end_of, is_opened, octet_count}
use Rattle.era_state.specs.SegmentFields.{sent, came}
use Rattle.era_state.specs.WindowScales.{SynsFor}
use Rattle.era_state.specs.working.ScaleChanges.{SynsAfter}
use Rattle.era_state.specs.EraFields.{CalledFor, OfferedFor, WarmFor}
use Rattle.era_state.specs.declared.warm.Warm.{Warm}
use Rattle.era_state.specs.working.WarmChanges.{WarmAfter, WarmOpens, WarmCalled}
use Rattle.era_state.proofs.Quantities.{or_none, or_kept, base_push, iss_push, out_push, out_fin_push, acked_push, opened_push, edge_push, top_push, end_push, syns_push, octet_push, shift_same, count_same, count_none}
use Rattle.era_state.proofs.SameNumbers.{no_end, no_octet}

-- Flags that are legal together.

no_fin : (syn fin rst ack : Bool) → tcp.go_together syn fin rst ack ≡ true → syn ≡ true → fin ≡ false
no_fin true false rst ack legal is = refl
no_fin true true rst ack legal is = cc
no_fin false fin rst ack legal is = cc

-- a SYN has no FIN
pub legal_syn : (flags : ℕ) → tcp.are_legal flags ≡ true → tcp.has_syn flags ≡ true → tcp.has_fin flags ≡ false
legal_syn flags legal syn = no_fin (tcp.has_syn flags) (tcp.has_fin flags) (tcp.has_rst flags) (tcp.has_ack flags) legal syn

-- An era in which no offset is acknowledged, with one more segment.

pub untouched_none : (base : ℕ) → Untouched base []
untouched_none base = record { unopened = refl; acked_is = refl; edge_is = refl; top_is = refl; end_is = refl }

-- one that acknowledges no offset, and adds neither octets nor FIN
untouched_push : (base : ℕ) (ws : List Written) (w : Written) → Untouched base ws → ack_of base (acked base ws) w ≡ None → top_place base (acked base ws) w ≡ 0 → fin_place base (acked base ws) w ≡ None → Untouched base (ws ++ w ∷ [])
untouched_push base ws w h none low endless = record {
  unopened = opened_push base ws w ∙ (λ i. h.unopened i || is_some (none i));
  acked_is = acked_push base ws w ∙ (λ i. max (h.acked_is i) (number_in (none i)));
  edge_is = edge_push base ws w ∙ (λ i. max (h.edge_is i) (edge_place (none i) (shift ws) w));
  top_is = top_push base ws w ∙ (λ i. max (h.top_is i) (low i));
  end_is = end_push base ws w ∙ (λ i. option_or (h.end_is i) (endless i));
}

-- an outbound SYN without ACK, the first one or one more
pub called_push : (s : Seg) (octets : List ℕ) (ws : List Written) (syns : Syns) (new : Called) → tcp.has_fin s.flags.0 ≡ false → tcp.has_ack s.flags.0 ≡ false → base_of ws ≡ None → ((base : ℕ) → Untouched base ws) → SynsFor syns ws → out_fin ws ≡ false → iss (ws ++ sent s octets ∷ []) ≡ Some new.iss → new.out ≡ number_behind (sent s octets) → SynsAfter (sent s octets) syns new.syns → CalledFor new (ws ++ sent s octets ∷ [])
called_push s octets ws syns new endless mute unbased untouched have unfinished iss_is out_is after = record {
  unbased = base_push ws w ∙ (λ i. option_or (unbased i) (if mute i && not (tcp.has_rst w.flags) then Some w.ack else None));
  untouched = λ base. untouched_push base ws w (untouched base) (rw mute refl) refl refl;
  iss_is = iss_is;
  out_is = out_push ws w ∙ ap (λ n. Some n) (sym out_is);
  syns_are = syns_push w syns new.syns ws after have;
  unfinished = out_fin_push ws w ∙ (λ i. unfinished i || endless i);
}
  where
    w : Written
    w = sent s octets

-- an inbound SYN that fixes the base
pub offered_first : (s : Seg) (new : Offered) (syns : Syns) (ws : List Written) → tcp.has_syn s.flags.0 ≡ true → tcp.has_fin s.flags.0 ≡ false → base_of ws ≡ None → ((base : ℕ) → Untouched base ws) → new.base ≡ (s.seq + 1) % 2 ^ 32 → new.iss ≡ iss ws → new.out ≡ out ws → SynsFor syns ws → SynsAfter (came s) syns new.syns → new.out_fin ≡ out_fin ws → OfferedFor new (ws ++ came s ∷ [])
offered_first s new syns ws syn endless unbased untouched base_is iss_is out_is have after fin_is = record {
  base_is = base_push ws w ∙ (λ i. option_or (unbased i) (if syn i then Some ((s.seq + 1) % 2 ^ 32) else None)) ∙ ap (λ n. Some n) (sym base_is);
  untouched = untouched_push new.base ws w (untouched new.base) refl refl (no_end new.base (acked new.base ws) w endless);
  iss_is = iss_is ∙ sym (iss_push ws w ∙ or_none (iss ws));
  out_is = out_is ∙ sym (out_push ws w);
  syns_are = syns_push w syns new.syns ws after have;
  out_fin_is = fin_is ∙ sym (out_fin_push ws w ∙ or-false (out_fin ws));
}
  where
    w : Written
    w = came s

-- one more inbound SYN
pub offered_came : (s : Seg) (old new : Offered) (ws : List Written) → tcp.has_fin s.flags.0 ≡ false → new.base ≡ old.base → new.iss ≡ old.iss → new.out ≡ old.out → new.out_fin ≡ old.out_fin → SynsAfter (came s) old.syns new.syns → OfferedFor old ws → OfferedFor new (ws ++ came s ∷ [])
offered_came s old new ws endless base_is iss_is out_is fin_is after h = record {
  base_is = base_push ws w ∙ or_kept (base_of ws) (fixes w) old.base h.base_is ∙ ap (λ n. Some n) (sym base_is);
  untouched = subst (λ b. Untouched b (ws ++ w ∷ [])) (sym base_is) (untouched_push old.base ws w h.untouched refl refl (no_end old.base (acked old.base ws) w endless));
  iss_is = iss_is ∙ h.iss_is ∙ sym (iss_push ws w ∙ or_none (iss ws));
  out_is = out_is ∙ h.out_is ∙ sym (out_push ws w);
  syns_are = syns_push w old.syns new.syns ws after h.syns_are;
  out_fin_is = fin_is ∙ h.out_fin_is ∙ sym (out_fin_push ws w ∙ or-false (out_fin ws));
}
  where
    w : Written
    w = came s

-- an outbound segment that acknowledges no offset
pub offered_sent : (s : Seg) (octets : List ℕ) (old new : Offered) (ws : List Written) → ack_of old.base 0 (sent s octets) ≡ None → new.base ≡ old.base → new.iss ≡ iss_after old.iss (sent s octets) → new.out ≡ Some (number_behind (sent s octets)) → SynsAfter (sent s octets) old.syns new.syns → new.out_fin ≡ (old.out_fin || tcp.has_fin s.flags.0) → OfferedFor old ws → OfferedFor new (ws ++ sent s octets ∷ [])
offered_sent s octets old new ws mute base_is iss_is out_is syns_are fin_is h = record {
  base_is = base_push ws w ∙ or_kept (base_of ws) (fixes w) old.base h.base_is ∙ ap (λ n. Some n) (sym base_is);
  untouched = subst (λ b. Untouched b (ws ++ w ∷ [])) (sym base_is) (untouched_push old.base ws w h.untouched (ap (λ a. ack_of old.base a w) h.untouched.acked_is ∙ mute) refl refl);
  iss_is = iss_is ∙ ap (λ o. iss_after o w) h.iss_is ∙ sym (iss_push ws w);
  out_is = out_is ∙ sym (out_push ws w);
  syns_are = syns_push w old.syns new.syns ws syns_are h.syns_are;
  out_fin_is = fin_is ∙ ap (λ b. b || tcp.has_fin w.flags) h.out_fin_is ∙ sym (out_fin_push ws w);
}
  where
    w : Written
    w = sent s octets

-- An era in which an offset is acknowledged, with one more segment.

-- an outbound segment
pub warm_sent : (s : Seg) (octets : List ℕ) (old new : Warm) (ws : List Written) → WarmAfter (sent s octets) old new → WarmFor old ws → WarmFor new (ws ++ sent s octets ∷ [])
warm_sent s octets old new ws t h = record {
  base_is = base_push ws w ∙ or_kept (base_of ws) (fixes w) old.base h.base_is ∙ ap (λ n. Some n) (sym t.base_is);
  opened = ap (λ b. is_opened b (ws ++ w ∷ [])) t.base_is ∙ opened_push old.base ws w ∙ or_left (is_opened old.base ws) (is_some (ack_of old.base (acked old.base ws) w)) h.opened;
  iss_is = t.iss_is ∙ ap (λ o. iss_after o w) h.iss_is ∙ sym (iss_push ws w);
  out_is = out_push ws w ∙ ap (λ n. Some n) (sym t.out_is);
  syns_are = syns_push w old.syns new.syns ws t.syns_are h.syns_are;
  acked_is = t.acked_is ∙ ap (λ a. max a (number_in (ack_of old.base a w))) h.acked_is ∙ sym (acked_push old.base ws w) ∙ ap (λ b. acked b (ws ++ w ∷ [])) (sym t.base_is);
  edge_is = t.edge_is ∙ (λ i. max (h.edge_is i) (edge_place (ack_of old.base (h.acked_is i) w) (shift_same old.syns ws h.syns_are i) w)) ∙ sym (edge_push old.base ws w) ∙ ap (λ b. edge b (ws ++ w ∷ [])) (sym t.base_is);
  top_is = t.top_is ∙ h.top_is ∙ sym (top_push old.base ws w ∙ max-zero (top old.base ws)) ∙ ap (λ b. top b (ws ++ w ∷ [])) (sym t.base_is);
  end_is = ap whole t.end_is ∙ h.end_is ∙ sym (end_push old.base ws w ∙ or_none (end_of old.base ws)) ∙ ap (λ b. end_of b (ws ++ w ∷ [])) (sym t.base_is);
  out_fin_is = t.out_fin_is ∙ ap (λ b. b || tcp.has_fin w.flags) h.out_fin_is ∙ sym (out_fin_push ws w);
  octets_are = t.octets_are ∙ h.octets_are ∙ sym (count_same old.base ws (ws ++ w ∷ []) (top_push old.base ws w ∙ max-zero (top old.base ws)) (λ o. octet_push old.base ws w o ∙ or_none (first old.base ws o))) ∙ ap (λ b. octet_count b (ws ++ w ∷ [])) (sym t.base_is);
}
  where
    w : Written
    w = sent s octets

-- an inbound SYN
pub warm_came : (s : Seg) (old new : Warm) (ws : List Written) → tcp.has_fin s.flags.0 ≡ false → WarmCalled (came s) old new → WarmFor old ws → WarmFor new (ws ++ came s ∷ [])
warm_came s old new ws endless t h = record {
  base_is = base_push ws w ∙ or_kept (base_of ws) (fixes w) old.base h.base_is ∙ ap (λ n. Some n) (sym t.base_is);
  opened = ap (λ b. is_opened b (ws ++ w ∷ [])) t.base_is ∙ opened_push old.base ws w ∙ or-false (is_opened old.base ws) ∙ h.opened;
  iss_is = t.iss_is ∙ h.iss_is ∙ sym (iss_push ws w ∙ or_none (iss ws));
  out_is = out_push ws w ∙ h.out_is ∙ ap (λ n. Some n) (sym t.out_is);
  syns_are = syns_push w old.syns new.syns ws t.syns_are h.syns_are;
  acked_is = t.acked_is ∙ h.acked_is ∙ sym (acked_push old.base ws w ∙ max-zero (acked old.base ws)) ∙ ap (λ b. acked b (ws ++ w ∷ [])) (sym t.base_is);
  edge_is = t.edge_is ∙ h.edge_is ∙ sym (edge_push old.base ws w ∙ max-zero (edge old.base ws)) ∙ ap (λ b. edge b (ws ++ w ∷ [])) (sym t.base_is);
  top_is = t.top_is ∙ h.top_is ∙ sym (top_push old.base ws w ∙ max-zero (top old.base ws)) ∙ ap (λ b. top b (ws ++ w ∷ [])) (sym t.base_is);
  end_is = ap whole t.end_is ∙ h.end_is ∙ sym (end_push old.base ws w ∙ ap (option_or (end_of old.base ws)) (no_end old.base (acked old.base ws) w endless) ∙ or_none (end_of old.base ws)) ∙ ap (λ b. end_of b (ws ++ w ∷ [])) (sym t.base_is);
  out_fin_is = t.out_fin_is ∙ h.out_fin_is ∙ sym (out_fin_push ws w ∙ or-false (out_fin ws));
  octets_are = t.octets_are ∙ h.octets_are ∙ sym (count_same old.base ws (ws ++ w ∷ []) (top_push old.base ws w ∙ max-zero (top old.base ws)) (λ o. octet_push old.base ws w o ∙ ap (option_or (first old.base ws o)) (no_octet old.base (acked old.base ws) w o refl) ∙ or_none (first old.base ws o))) ∙ ap (λ b. octet_count b (ws ++ w ∷ [])) (sym t.base_is);
}
  where
    w : Written
    w = came s

-- the first outbound segment that acknowledges an offset
warm_opens : (base : ℕ) (old_iss : Option ℕ) (syns : Syns) (fin : Bool) (place : ℕ) (s : Seg) (octets : List ℕ) (new : Warm) (ws : List Written) → WarmOpens base old_iss syns fin place (sent s octets) new → base_of (ws ++ sent s octets ∷ []) ≡ Some base → Untouched base ws → ack_of base 0 (sent s octets) ≡ Some place → old_iss ≡ iss ws → SynsFor syns ws → fin ≡ out_fin ws → WarmFor new (ws ++ sent s octets ∷ [])
warm_opens base old_iss syns fin place s octets new ws t based h acks first have finned = record {
  base_is = based ∙ ap (λ n. Some n) (sym t.base_is);
  opened = ap (λ b. is_opened b (ws ++ w ∷ [])) t.base_is ∙ opened_push base ws w ∙ (λ i. h.unopened i || is_some (place_is i));
  iss_is = t.iss_is ∙ ap (λ o. iss_after o w) first ∙ sym (iss_push ws w);
  out_is = out_push ws w ∙ ap (λ n. Some n) (sym t.out_is);
  syns_are = syns_push w syns new.syns ws t.syns_are have;
  acked_is = t.acked_is ∙ sym (acked_push base ws w ∙ (λ i. max (h.acked_is i) (number_in (place_is i))) ∙ zero-max place) ∙ ap (λ b. acked b (ws ++ w ∷ [])) (sym t.base_is);
  edge_is = t.edge_is ∙ (λ i. edge_place (Some place) (shift_same syns ws have i) w) ∙ sym (edge_push base ws w ∙ (λ i. max (h.edge_is i) (edge_place (place_is i) (shift ws) w)) ∙ zero-max (edge_place (Some place) (shift ws) w)) ∙ ap (λ b. edge b (ws ++ w ∷ [])) (sym t.base_is);
  top_is = t.top_is ∙ sym (top_push base ws w ∙ ap (λ n. max n 0) h.top_is) ∙ ap (λ b. top b (ws ++ w ∷ [])) (sym t.base_is);
  end_is = ap whole t.end_is ∙ sym (end_push base ws w ∙ ap (λ o. option_or o None) h.end_is) ∙ ap (λ b. end_of b (ws ++ w ∷ [])) (sym t.base_is);
  out_fin_is = t.out_fin_is ∙ ap (λ b. b || tcp.has_fin w.flags) finned ∙ sym (out_fin_push ws w);
  octets_are = t.octets_are ∙ sym (count_none base (ws ++ w ∷ []) (top_push base ws w ∙ ap (λ n. max n 0) h.top_is)) ∙ ap (λ b. octet_count b (ws ++ w ∷ [])) (sym t.base_is);
}
  where
    w : Written
    w = sent s octets

    place_is : ack_of base (acked base ws) (sent s octets) ≡ Some place
    place_is = ap (λ a. ack_of base a (sent s octets)) h.acked_is ∙ acks

-- a number is at the offset 0 of the base that it fixes
own_ack : (s : Seg) (octets : List ℕ) → s.ack < 2 ^ 32 → tcp.has_ack s.flags.0 ≡ true → ack_of s.ack 0 (sent s octets) ≡ Some 0
own_ack s octets small answers = rw answers (ap natural own_place)
  where
    own_place : off s.ack 0 s.ack ≡ pos 0
    own_place = let e : turn_past (s.ack + 0) s.ack ≡ 0 = omega arith in rw e refl

-- of a Called era
pub called_opens : (s : Seg) (octets : List ℕ) (old : Called) (new : Warm) (ws : List Written) → s.ack < 2 ^ 32 → tcp.has_ack s.flags.0 ≡ true → tcp.has_rst s.flags.0 ≡ false → WarmOpens s.ack (Some old.iss) old.syns false 0 (sent s octets) new → CalledFor old ws → WarmFor new (ws ++ sent s octets ∷ [])
called_opens s octets old new ws small answers lives t h =
    warm_opens s.ack (Some old.iss) old.syns false 0 s octets new ws t
    (base_push ws (sent s octets) ∙ (λ i. option_or (h.unbased i) (if answers i && not (lives i) then Some s.ack else None)))
    (h.untouched s.ack) (own_ack s octets small answers) (sym h.iss_is) h.syns_are (sym h.unfinished)

-- of an Offered era
pub offered_opens : (s : Seg) (octets : List ℕ) (old : Offered) (new : Warm) (place : ℕ) (ws : List Written) → ack_of old.base 0 (sent s octets) ≡ Some place → WarmOpens old.base old.iss old.syns old.out_fin place (sent s octets) new → OfferedFor old ws → WarmFor new (ws ++ sent s octets ∷ [])
offered_opens s octets old new place ws acks t h =
    warm_opens old.base old.iss old.syns old.out_fin place s octets new ws t
    (base_push ws (sent s octets) ∙ or_kept (base_of ws) (fixes (sent s octets)) old.base h.base_is)
    h.untouched acks h.iss_is h.syns_are h.out_fin_is

-- of no era
pub begins_warm : (s : Seg) (octets : List ℕ) (none : Syns) (new : Warm) → s.ack < 2 ^ 32 → tcp.has_ack s.flags.0 ≡ true → tcp.has_rst s.flags.0 ≡ false → SynsFor none [] → WarmOpens s.ack None none false 0 (sent s octets) new → WarmFor new (sent s octets ∷ [])
begins_warm s octets none new small answers lives have t =
    warm_opens s.ack None none false 0 s octets new [] t
    (λ i. option_or (if answers i && not (lives i) then Some s.ack else None) None)
    (untouched_none s.ack) (own_ack s octets small answers) refl have refl
