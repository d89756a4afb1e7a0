-- The items of a lawful trace have the numbers, the entries and the frames of the lines of a
-- report, as they are made and as they are written.
use Rattle.std.proofs.Common.{◌≡◌, ℕ, ◌+◌, ◌*◌, ◌<◌, ◌≤◌, ◌&&◌, ◌||◌, not, if◌then◌else◌, is_none, Bool, true, false, List, [], ◌∷◌, ◌++◌, length, reverse, Option, Some, None, refl, sym, ap, ap₂, ◌∙◌, subst, arith}
use Rattle.std.specs.List.{AllByRecursion, list_any}
use Rattle.std.proofs.lemmas.List.{length-append, length-map, length-reverse}
use Rattle.wire_base.specs.declared.address.Link.{Link}
use Rattle.rule_book.specs.ReportReading.{EntryFits, IsEntryOf}
use Rattle.rule_book.specs.Rules.{touches_payload}
use Rattle.rule_book.specs.declared.entry.Verdict.{Verdict}
use Rattle.rule_book.specs.declared.entry.Verdict.TheVariants as verdicts
use Rattle.rule_book.specs.declared.rule.Rule.{Rule}
use Rattle.norm_settings.specs.SettingValues.{AreInRange, PlainSettings}
use Rattle.norm_engine.specs.Items.{Item, entries}
use Rattle.norm_engine.specs.TraceLaws.{IsCounted, IsSound, ItemsAreCounted, LawfulKeepsClean}
use Rattle.norm_engine.specs.OutgoingFrames.{IsOutgoing, ItemsGoOut}
use Rattle.norm_engine.specs.CleanRecords.{KeepsPayload, is_clean}
use Rattle.norm_engine.specs.Trace.{Read, dropped_by, is_held, named_rows, read_after, verdict_by}
use Rattle.norm_engine.proofs.ItemFrames.{none_before}
use Rattle.emit_mtu.specs.CutLaws.{AreFew}
use Rattle.emit_mtu.specs.LongFrames.{e_cut, e_mtu}
use Rattle.emit_mtu.specs.CutStreams.{PlainHeadersAreWhole, frames_of}
use Rattle.emit_mtu.specs.declared.long.LongKind.TheVariants.{Fits, Cut, Drop}
use Rattle.norm_engine.specs.WrittenTrace.{HaveFrameOctets, cuts_some, frames_written, item_written, keeps_some_back, rules_cut, verdict_cut, written}
use Rattle.both_sides.specs.RunLaws.{TwoPutTheirMirror}
use Rattle.norm_engine.proofs.WrittenFrames.{all_sent, written_few}
use Rattle.norm_engine.proofs.WrittenItems.{packets_written, version_written}
use Rattle.run_audit.specs.LawfulFiles.{EntriesFit, frames_written as frames_of_trace}
use Rattle.run_view.specs.ViewLaws.{RunsAreViewed}
use Rattle.run_laws.specs.CaptureReadBack.{RunsAreReadBack}

-- if the record passed, exactly its frame was written
abbrev pub IsUnchanged : Item → Type 0
IsUnchanged item = item.entry.verdict ≡ verdicts.Pass → item.frames ≡ item.packet.octets ∷ []

-- after this number of items an item has the next number, counts its frames, and its entry is one
-- of version 2
pub record Good (before : ℕ) (item : Item) : Type 0 where
  pub fits : IsEntryOf 2 item.entry
  pub number : item.entry.number ≡ before + 1
  pub packets : item.entry.packets ≡ length item.frames
  pub unchanged : IsUnchanged item

abbrev pub AreGood : List Item → Type 0
AreGood [] = Unit {0}
AreGood (item ∷ older) = Good (length older) item × AreGood older

pub good_behind : (front back : List Item) → AreGood (front ++ back) → AreGood back
good_behind [] back good = good
good_behind (item ∷ front) back good = good_behind front back good.1

pub record ViewLaws : Type 0 where
  pub read_back : RunsAreReadBack
  pub clean : LawfulKeepsClean
  pub counted : ItemsAreCounted
  pub outgoing : ItemsGoOut
  pub fit : EntriesFit
  pub whole : PlainHeadersAreWhole
  pub few : AreFew
  pub mirror : TwoPutTheirMirror
  pub viewed : RunsAreViewed

rules_few : (cut kept_back : Bool) → length (rules_cut cut kept_back) ≤ 2
rules_few true true = omega arith
rules_few true false = omega arith
rules_few false true = omega arith
rules_few false false = omega arith

-- an entry as it is written is in the ranges of a report
entry_fits : (mtu : Option ℕ) (link : Link) (item : Item) → EntryFits item.entry → length item.entry.rules ≤ 14
    → length (frames_written mtu link item.frames) < 256 → EntryFits (item_written mtu link item).entry
entry_fits None link item fits named few = fits
entry_fits (Some mtu) link item fits named few =
    record {
      number = fits.number;
      packets = omega (arith, few);
      rules = rules _ _;
      era = fits.era;
      begun = fits.begun;
      ended = fits.ended;
      eras = fits.eras;
    }
  where
    rules : (cut kept_back : Bool) → length (item.entry.rules ++ rules_cut cut kept_back) ≤ 16
    rules cut kept_back = omega (arith, length-append item.entry.rules (rules_cut cut kept_back), rules_few cut kept_back, named)

-- no rule drops a record that passes, and none rewrites it
pass_parts : (dropped : Option Rule) (held : Bool) (named : List Rule) → verdict_by dropped held named ≡ verdicts.Pass → (dropped ≡ None) × (named ≡ [])
pass_parts None false [] h = (refl, refl)
pass_parts None false (rule ∷ more) h = absurd (cc)
pass_parts None true named h = absurd (cc)
pass_parts (Some rule) held named h = absurd (cc)

-- what is written under an MTU of a record that passes is its frame, too
uncut : (verdict : Verdict) (cut kept_back : Bool) → verdict_cut cut kept_back verdict ≡ verdicts.Pass → (verdict ≡ verdicts.Pass) × (cut ≡ false) × (kept_back ≡ false)
uncut verdict true true h = absurd (cc)
uncut verdict true false h = absurd (cc)
uncut verdict false true h = absurd (cc)
uncut verdict false false h = (h, refl, refl)

written_alone : (link : Link) (mtu : ℕ) (frame : List ℕ) → list_any (e_cut link mtu) (frame ∷ []) ≡ false → list_any (e_mtu link mtu) (frame ∷ []) ≡ false
    → frames_written (Some mtu) link (frame ∷ []) ≡ frame ∷ []
written_alone link mtu frame none_cut none_kept = by (e_cut link mtu frame) (e_mtu link mtu frame) none_cut none_kept where
  by : (cut kept : Bool) → (cut || false) ≡ false → (kept || false) ≡ false
      → frames_of (if cut then Cut else if kept then Drop else Fits) link mtu frame ++ [] ≡ frame ∷ []
  by false false c k = refl
  by false true c k = absurd (cc)
  by true kept c k = absurd (cc)

unchanged_written : (mtu : Option ℕ) (link : Link) (item : Item) → IsUnchanged item → IsUnchanged (item_written mtu link item)
unchanged_written None link item same = same
unchanged_written (Some mtu) link item same = λ passed.
    let parts = uncut item.entry.verdict (cuts_some (Some mtu) link item.frames) (keeps_some_back (Some mtu) link item.frames) passed in
    let one = same parts.0 in
    let cut = ap (λ fs. list_any (e_cut link mtu) fs) (sym one) ∙ parts.1 in
    let kept = ap (λ fs. list_any (e_mtu link mtu) fs) (sym one) ∙ parts.2 in
    ap (λ fs. frames_written (Some mtu) link fs) one ∙ written_alone link mtu item.packet.octets cut kept

module _ (laws : ViewLaws) (settings : PlainSettings) (link : Link) where
  unchanged : (item : Item) (older : List Item) → IsSound settings link (item ∷ older) → IsUnchanged item
  unchanged item older sound passed = kept.only ∙ ap (λ f. f ∷ []) (kept.whole passed) where
    read : Read
    read = read_after settings link older item.packet

    parts : (dropped_by settings link read item.packet ≡ None) × (named_rows settings link read item.packet ≡ [])
    parts =
        pass_parts (dropped_by settings link read item.packet) (is_held read) (named_rows settings link read item.packet)
        (sym (ap (λ (x : Item). x.entry.verdict) sound.lawful.1) ∙ passed)

    clean : is_clean settings link older item.packet ≡ true
    clean = ap₂ (λ d n. is_none d && not (list_any touches_payload n)) parts.0 parts.1

    kept : KeepsPayload link item
    kept = (laws.clean settings link (item ∷ older) sound).1 clean

  counts : (item : Item) (older : List Item) → IsSound settings link (item ∷ older) → IsCounted item
  counts item older sound = subst IsCounted (sym sound.lawful.1) (laws.counted settings link older item.packet)

  pub good : (trace : List Item) → IsSound settings link trace → AllByRecursion EntryFits (entries trace) → AreGood trace
  good [] sound fits = tt
  good (item ∷ older) sound fits = (
    record {
      fits = record { fits = fits.0; octets = (counts item older sound).octets };
      number = ap (λ (x : Item). x.entry.number) sound.lawful.1;
      packets = (counts item older sound).packets;
      unchanged = unchanged item older sound;
    },
    good older (none_before settings link item older sound) fits.1,
  )

  pub good_written : (range : AreInRange settings) (trace : List Item) → IsSound settings link trace → HaveFrameOctets settings.mtu trace
      → AllByRecursion EntryFits (entries trace) → AreGood (written settings link trace)
  good_written range [] sound octets fits = tt
  good_written range (item ∷ older) sound octets fits =
      let counted = counts item older sound in
      let out = laws.outgoing settings link older item.packet sound.hops sound.octets.0 sound.octets.1 in
      let goes = subst (IsOutgoing link) (sym sound.lawful.1) out in
      let few = written_few laws.few settings.mtu link item.frames range.mtu (all_sent laws.whole link item.frames goes.each) octets.0 goes.behind counted.few in (
        record {
          fits =
              record { fits = entry_fits settings.mtu link item fits.0 goes.few few; octets = version_written settings.mtu link item counted.octets };
          number = number settings.mtu ∙ ap (λ n. n + 1) (sym (length-map older (item_written settings.mtu link)));
          packets = packets_written settings.mtu link item counted;
          unchanged = unchanged_written settings.mtu link item (unchanged item older sound);
        },
        good_written range older (none_before settings link item older sound) octets.1 fits.1,
      )
    where
      number : (mtu : Option ℕ) → (item_written mtu link item).entry.number ≡ length older + 1
      number None = ap (λ (x : Item). x.entry.number) sound.lawful.1
      number (Some mtu) = ap (λ (x : Item). x.entry.number) sound.lawful.1

  -- at most two frames for each record
  pub frames_few : (trace : List Item) → IsSound settings link trace → length (frames_of_trace trace) ≤ 2 * length trace
  frames_few [] sound = omega arith
  frames_few (item ∷ older) sound =
      omega (
        arith,
        length-append (reverse item.frames) (frames_of_trace older),
        length-reverse item.frames,
        (counts item older sound).few,
        frames_few older (none_before settings link item older sound),
      )
