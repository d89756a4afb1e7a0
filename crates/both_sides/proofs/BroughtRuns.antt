-- What a run writes was recorded: nothing is invented, each clash in its lines is real, receivers
-- read what records brought, and a run that changes nothing inwards was read as it was recorded.
use Rattle.std.proofs.Common.{◌≡◌, ℕ, List, [], ◌∷◌, ◌++◌, map, refl, sym, ap, subst, ◌∙◌, append_assoc}
use Rattle.wire_base.specs.declared.address.Link.{Link}
use Rattle.pcap_file.specs.Records.{Packet}
use Rattle.norm_settings.specs.SettingValues.{PlainSettings}
use Rattle.era_agreement.specs.SentPackets.{inward_packets, inward_places}
use Rattle.norm_engine.specs.Items.{Item, packets}
use Rattle.norm_engine.specs.Agreement.{ReadsOneStream, sent_in}
use Rattle.norm_engine.specs.BroughtOctets.{LawfulClashesAreReal, LawfulInventsNothing}
use Rattle.norm_engine.specs.HeldFragments.{LawfulFragmentClashesAreReal}
use Rattle.norm_engine.specs.TraceLaws.{IsSound}
use Rattle.norm_engine.proofs.BroughtOctets.{without_clash}
use Rattle.norm_engine.proofs.EraReadings.{reads_its_records}
use Rattle.both_sides.specs.Traces.{behind, mirrored, record_of, records_of}
use Rattle.norm_engine.specs.WrittenTrace.{ReadsOneStreamAsWritten, WrittenWhole, WrittenClashesAreReal, WrittenFragmentClashesAreReal}
use Rattle.both_sides.specs.RunTraces.{RunTrace, one, two}
use Rattle.both_sides.specs.RunLaws.{RunIsWrittenSoundly, RunsAreWrittenSoundly}
use Rattle.both_sides.specs.BroughtOctets.{AreFramesOf, IsFrameOf, RunIsBrought, RunReadsRecords, RunsAreBrought, RunsReadRecords}
use Rattle.norm_engine.specs.RecordedHost.{LawfulWasReadSo, UnchangedWasReadSo}
use Rattle.norm_engine.specs.TwoEras.{ErasGoOn, LawfulErasGoOn}
use Rattle.both_sides.specs.RecordedHost.{ErasOfRunsGoOn, RunsWereReadSo}
use Rattle.norm_engine.proofs.WrittenClashes.{reads_written}

-- The records of the second engine.

-- a fact of each record and those before it, newest first
abbrev EachWith : (Packet → List Packet → Type 0) → List Packet → Type 0
EachWith P [] = Unit {0}
EachWith P (r ∷ older) = EachWith P older × P r older

each_at : (P : Packet → List Packet → Type 0) (newer : List Item) (item : Item) (older : List Item) → EachWith P (packets (newer ++ (item ∷ older))) → P item.packet (packets older)
each_at P [] item older all = all.1
each_at P (x ∷ newer) item older all = each_at P newer item older all.0

-- the frames up to one more
behind_more : (f : List ℕ → Packet) (earlier : List (List ℕ)) (frame : List ℕ) (older : List Packet)
    → behind (map f (earlier ++ (frame ∷ []))) older ≡ f frame ∷ behind (map f earlier) older
behind_more f [] frame older = refl
behind_more f (x ∷ earlier) frame older = behind_more f earlier frame (f x ∷ older)

module _ (trace : List Item) where
  -- the frames of one item
  each_frame : (newer : List Item) (item : Item) (older : List Item) → trace ≡ newer ++ (item ∷ older) → (earlier later : List (List ℕ)) → item.frames ≡ earlier ++ later
      → EachWith (IsFrameOf trace) (behind (map (record_of item.packet.seconds item.packet.fraction) earlier) (records_of older))
      → EachWith (IsFrameOf trace)
      (behind (map (record_of item.packet.seconds item.packet.fraction) later) (behind (map (record_of item.packet.seconds item.packet.fraction) earlier) (records_of older)))
  each_frame newer item older is earlier [] frames all = all
  each_frame newer item older is earlier (frame ∷ later) frames all =
      let f = record_of item.packet.seconds item.packet.fraction in
      let here : IsFrameOf trace (f frame) (behind (map f earlier) (records_of older)) = record {
        newer = newer;
        item = item;
        older = older;
        trace_is = is;
        earlier = earlier;
        frame = frame;
        later = later;
        frames_are = frames;
        record_is = refl;
        before_is = refl;
      } in
      let more = behind_more f earlier frame (records_of older) in
      subst (λ rs. EachWith (IsFrameOf trace) (behind (map f later) rs)) more
      (each_frame newer item older is (earlier ++ (frame ∷ [])) later (frames ∙ sym (append_assoc earlier (frame ∷ []) later)) (subst (EachWith (IsFrameOf trace)) (sym more) (all, here)))

  each_item : (newer rest : List Item) → trace ≡ newer ++ rest → EachWith (IsFrameOf trace) (records_of rest)
  each_item newer [] is = tt
  each_item newer (item ∷ older) is =
      each_frame newer item older is [] item.frames refl (each_item (newer ++ (item ∷ [])) older (is ∙ sym (append_assoc newer (item ∷ []) older)))

  frames_of_first : (mirror : List Item) → packets mirror ≡ records_of trace → AreFramesOf trace mirror
  frames_of_first mirror handed newer item older is =
      each_at (IsFrameOf trace) newer item older (subst (EachWith (IsFrameOf trace)) (sym handed ∙ ap packets is) (each_item [] trace refl))

-- A run.

-- the laws of one engine that this is based on
pub record BroughtLaws : Type 0 where
  pub nothing : LawfulInventsNothing
  pub real : LawfulClashesAreReal
  pub fragments : LawfulFragmentClashesAreReal
  pub written : WrittenClashesAreReal
  pub written_fragments : WrittenFragmentClashesAreReal

pub runs_are_brought : BroughtLaws → RunsAreBrought
runs_are_brought laws settings link (one trace) hops lawful octets =
    let sound : IsSound settings link trace = record { hops = hops; octets = octets.0; lawful = lawful.1 } in
    record {
      brought = laws.nothing settings link trace sound;
      clashes = laws.written settings link trace sound;
      fragment_clashes = laws.written_fragments settings link trace sound;
    }
runs_are_brought laws settings link (two trace mirror) hops lawful octets =
    let front : IsSound settings link trace = record { hops = hops; octets = octets.0; lawful = lawful.1.first } in
    let back : IsSound (mirrored settings) link mirror = record { hops = hops; octets = octets.1; lawful = lawful.1.second } in
    record {
      brought = (laws.nothing settings link trace front, laws.nothing (mirrored settings) link mirror back, frames_of_first trace mirror lawful.1.handed);
      clashes = (laws.real settings link trace front, laws.real (mirrored settings) link mirror back);
      fragment_clashes = (laws.fragments settings link trace lawful.1.first, laws.fragments (mirrored settings) link mirror lawful.1.second);
    }

-- receivers of what is written read parts of one stream, on the side of each engine
abbrev pub ReadsOneStreamOf : PlainSettings → Link → RunTrace → Type 0
ReadsOneStreamOf settings link (one trace) = ReadsOneStreamAsWritten settings link trace
ReadsOneStreamOf settings link (two trace mirror) = ReadsOneStream settings.hops link trace × ReadsOneStream settings.hops link mirror

-- receivers read what the records of a run brought
pub run_reads_records : (settings : PlainSettings) (link : Link) (run : RunTrace) → RunIsBrought settings link run → ReadsOneStreamOf settings link run → RunReadsRecords settings link run
run_reads_records settings link (one trace) brought reads = reads_written settings link trace brought.brought brought.clashes reads
run_reads_records settings link (two trace mirror) brought reads =
    let front = sent_in link trace in
    let back = sent_in link mirror in (
      reads_its_records settings link trace trace (λ era base. inward_places era base front) (λ era. inward_packets era front) brought.brought.0 reads.0
          (λ era. without_clash settings link era trace brought.clashes.0),
      reads_its_records (mirrored settings) link mirror mirror (λ era base. inward_places era base back) (λ era. inward_packets era back) brought.brought.1 reads.1
          (λ era. without_clash (mirrored settings) link era mirror brought.clashes.1),
    )

reads_in : (settings : PlainSettings) (link : Link) (run : RunTrace) → RunIsWrittenSoundly settings link run → ReadsOneStreamOf settings link run
reads_in settings link (one trace) sound = sound.reads
reads_in settings link (two trace mirror) sound = (sound.reads, sound.reads_behind)

pub runs_read_records : RunsAreWrittenSoundly → RunsAreBrought → RunsReadRecords
runs_read_records soundly brought settings link run range together lawful octets sideless =
    run_reads_records settings link run (brought settings link run range.hops lawful octets) (reads_in settings link run (soundly settings link run range together lawful octets sideless))

-- A run that changes nothing inwards, and eras of a run that are read as one.

pub runs_were_read_so : LawfulWasReadSo → WrittenWhole → RunsWereReadSo
runs_were_read_so read whole settings link trace hops lawful octets none =
    subst (UnchangedWasReadSo settings link) (sym (whole settings link trace none)) (read settings link trace (record { hops = hops; octets = octets.0; lawful = lawful.1 }))

pub eras_of_runs_go_on : LawfulErasGoOn → WrittenWhole → ErasOfRunsGoOn
eras_of_runs_go_on go whole settings link (one trace) hops lawful octets = λ none.
    subst (ErasGoOn settings.hops link) (sym (whole settings link trace none)) (go settings link trace (record { hops = hops; octets = octets.0; lawful = lawful.1 }))
eras_of_runs_go_on go whole settings link (two trace mirror) hops lawful octets = (
  go settings link trace (record { hops = hops; octets = octets.0; lawful = lawful.1.first }),
  go (mirrored settings) link mirror (record { hops = hops; octets = octets.1; lawful = lawful.1.second }),
)
