-- What receivers read of eras: records brought it, and two eras are read as one if the second goes
-- on past the first.
use Rattle.std.proofs.Common.{◌≡◌, ℕ, ◌+◌, Bool, false, List, [], ◌∷◌, ◌++◌, length, ℤ, pos, ◌≤ℤ◌, Some, refl, ap, subst, ◌∙◌, append_assoc}
use Rattle.std.specs.List.{AllByRecursion}
use Rattle.wire_base.specs.declared.address.Link.{Link}
use Rattle.norm_settings.specs.SettingValues.{PlainSettings}
use Rattle.receiver_model.specs.StreamParts.{EachReadsPart, ReadsPart}
use Rattle.era_state.specs.Quantities.{acked, base_of, first, end_of}
use Rattle.era_agreement.specs.SentPackets.{inward_packets, inward_places, written_in}
use Rattle.tcp_norm.specs.BroughtOctets.{HasAt}
use Rattle.norm_engine.specs.Items.{Item}
use Rattle.norm_engine.specs.Agreement.{sent_in}
use Rattle.norm_engine.specs.BroughtOctets.{AreBrought, Brings, InventsNothing, IsBrought, IsConsistent, LawfulClashesAreReal, LawfulInventsNothing, OctetIsAdded, names_clash}
use Rattle.norm_engine.specs.GivenOctets.{IsGivenAt, LawfulReadsRecords, ReadsBrought, ReadsGiven, ReadsItsRecords}
use Rattle.norm_engine.specs.TraceLaws.{LawfulReadsOneStream}
use Rattle.norm_engine.proofs.BroughtOctets.{without_clash}
use Rattle.era_agreement.specs.TwoEras.{EmittedErasAreReadAsOne, EmittedIsNotReadAgain, EmittedIsReadToAcked}
use Rattle.norm_engine.specs.CertainReading.{LawfulIsEmitted}
use Rattle.norm_engine.specs.TwoEras.{LawfulErasGoOn}

-- What was brought.

-- a record of a trace in which none differs from an earlier one
consistent_at : (settings : PlainSettings) (link : Link) (era : ℕ) (newer : List Item) (item : Item) (older : List Item) → IsConsistent settings link era (newer ++ (item ∷ older))
    → (base : ℕ) (offset : ℤ) (octet other : ℕ) → IsBrought settings link era (HasAt base offset octet) older
    → pos (acked base (written_in era (sent_in link older))) ≤ℤ offset → Brings settings link era (HasAt base offset other) item older → octet ≡ other
consistent_at settings link era [] item older same = same.1
consistent_at settings link era (x ∷ newer) item older same = consistent_at settings link era newer item older same.0

module _ (settings : PlainSettings) (link : Link) (era base : ℕ) (trace : List Item) (start : ℕ) (stream : List ℕ) (ended : Bool) where
  -- a part of a stream that records brought
  part_brought : AreBrought settings link era base trace
      → ReadsPart (first base (written_in era (sent_in link trace))) (end_of base (written_in era (sent_in link trace))) start stream ended
      → ReadsBrought settings link era base trace start stream ended
  part_brought brought part = record {
    octets = λ i octet at. brought.octets (pos (start + i)) octet (part.octets i octet at);
    end = λ e. brought.end (pos (start + length stream)) (part.ends e);
  }

  -- what was added, if no record differs from an earlier one
  octet_given : IsConsistent settings link era trace → (offset : ℤ) (octet : ℕ) → OctetIsAdded settings link era base offset octet trace
      → IsGivenAt settings link era base offset octet trace
  octet_given same offset octet b = record {
    added = b;
    before = λ other past other_brought.
        consistent_at settings link era b.newer b.item b.older (subst (IsConsistent settings link era) b.trace_is same) base offset other octet other_brought past b.brings;
    again = λ newer item older other is past brings.
        let history = older ++ (b.item ∷ b.older) in
        let whole : trace ≡ newer ++ (item ∷ history) = b.trace_is ∙ ap (λ xs. xs ++ (b.item ∷ b.older)) is ∙ append_assoc newer (item ∷ older) (b.item ∷ b.older) in
        let here = consistent_at settings link era newer item history (subst (IsConsistent settings link era) whole same) in
        here base offset octet other (record { newer = older; item = b.item; older = b.older; trace_is = refl; brings = b.brings }) past brings;
  }

  part_given : IsConsistent settings link era trace → ReadsBrought settings link era base trace start stream ended → ReadsGiven settings link era base trace start stream ended
  part_given same brought = record { octets = λ i octet at. octet_given same (pos (start + i)) octet (brought.octets i octet at); end = brought.end }

pub reads_its_records : (settings : PlainSettings) (link : Link) (trace lines : List Item) (places : (era base : ℕ) → List ℤ) (frames : (era : ℕ) → List (List ℕ))
    → InventsNothing settings link trace
    → ((era base : ℕ) → let ws = written_in era (sent_in link trace) in
    base_of ws ≡ Some base → EachReadsPart settings.hops base (places era base) (frames era) (first base ws) (end_of base ws))
    → ((era : ℕ) → IsConsistent settings link era trace → AllByRecursion (λ item. item.entry.era ≡ Some era → names_clash item.entry.rules ≡ false) lines)
    → ReadsItsRecords settings link trace lines places frames
reads_its_records settings link trace lines places frames nothing parts none = record {
  brought = λ era base based member start schedule stream ended is delivers.
      part_brought settings link era base trace start stream ended (nothing era base based) (parts era base based member start schedule stream ended is delivers);
  given = λ era same. record {
    no_clash = none era same;
    reads = λ base based member start schedule stream ended is delivers.
        part_given settings link era base trace start stream ended same
        (part_brought settings link era base trace start stream ended (nothing era base based) (parts era base based member start schedule stream ended is delivers));
  };
}

pub lawful_reads_records : LawfulInventsNothing → LawfulClashesAreReal → LawfulReadsOneStream → LawfulReadsRecords
lawful_reads_records nothing real reads settings link trace sound =
    let sent = sent_in link trace in
    reads_its_records settings link trace trace (λ era base. inward_places era base sent) (λ era. inward_packets era sent) (nothing settings link trace sound)
    (reads settings link trace sound) (λ era. without_clash settings link era trace (real settings link trace sound))

-- Two eras.

pub eras_go_on : LawfulIsEmitted → EmittedIsNotReadAgain → EmittedErasAreReadAsOne → EmittedIsReadToAcked → LawfulErasGoOn
eras_go_on emitted again one acknowledged settings link trace sound = record {
  again = λ era later base next shift.
      again settings.hops era later base next shift (sent_in link trace) (emitted settings link trace sound era) (emitted settings link trace sound later);
  one = λ era later base next shift.
      one settings.hops era later base next shift (sent_in link trace) (emitted settings link trace sound era) (emitted settings link trace sound later);
  acknowledged = λ era base member start schedule stream ended.
      acknowledged settings.hops era base (sent_in link trace) member start schedule stream ended (emitted settings link trace sound era);
}
