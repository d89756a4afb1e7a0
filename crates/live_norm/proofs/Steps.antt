-- A history goes on by the item of its next record, and what was written of it stays normal.
use Rattle.std.proofs.Common.{◌≡◌, ℕ, ◌+◌, ◌*◌, ◌<◌, ◌≤◌, ◌^◌, ◌-◌, Bool, true, false, All, List, [], ◌∷◌, length, Option, Some, None, IfSome, refl, sym, ap, ◌∙◌, subst, arith}
use Rattle.std.specs.List.{AllByRecursion}
use Rattle.std.proofs.lemmas.List.Elements.{All-nil}
use Rattle.wire_base.specs.declared.address.Link.{Link}
use Rattle.pcap_file.specs.Records.{Packet}
use Rattle.rule_book.specs.Entries.{PlainEntry, HasOctets as HasEndOctets, IsOfVersion}
use Rattle.norm_settings.specs.SettingValues.{PlainSettings, AreInRange}
use Rattle.emit_mtu.specs.FrameParts.{IsSent}
use Rattle.norm_engine.specs.Items.{Item, frame_count}
use Rattle.norm_engine.specs.Trace.{item_of}
use Rattle.norm_engine.specs.EngineState.{Engaged, StandsFor, frames_given}
use Rattle.norm_engine.specs.CleanRecords.{HasOctets}
use Rattle.norm_engine.specs.TraceLaws.{IsSound, ItemsAreCounted}
use Rattle.norm_engine.specs.BroughtOctets.{LawfulInventsNothing}
use Rattle.norm_engine.specs.WrittenTrace.{FramesHaveOctets, HaveFrameOctets, LawfulIsWrittenSoundly, WrittenClashesAreReal, WrittenFragmentClashesAreReal, WrittenReadsRecords, entry_written, frames_written, item_written, written}
use Rattle.norm_engine.specs.working.FrameReports.{CanWrite}
use Rattle.norm_engine.proofs.WrittenFrames.{InRange}
use Rattle.norm_engine.proofs.WrittenItems.{packets_written, version_written}
use Rattle.live_norm.specs.Live.{Gives, IsNormal, Lived, RepresentedIsNormal, Represents, next_item}
use Rattle.live_norm.specs.working.LiveState.{IsLive}

-- ---- before the first record

pub least_in : (mtu : Option ℕ) → InRange mtu → IfSome mtu (λ most. 576 ≤ most)
least_in None range = tt
least_in (Some most) range = range.0

none_written : (mtu : Option ℕ) (link : Link) → length (frames_written mtu link []) < 256
none_written None link = omega arith
none_written (Some most) link = omega arith

pub can_write_none : (mtu : Option ℕ) (link : Link) → InRange mtu → CanWrite mtu link []
can_write_none mtu link range = record { sent = All-nil (IsSent link); least = least_in mtu range; few = none_written mtu link }

-- ---- the next record

-- the laws that this is based on
pub record Laws : Type 0 where
  pub counted : ItemsAreCounted
  pub soundly : LawfulIsWrittenSoundly
  pub invents : LawfulInventsNothing
  pub clashes : WrittenClashesAreReal
  pub fragments : WrittenFragmentClashesAreReal
  pub reads : WrittenReadsRecords

sound_next : (settings : PlainSettings) (link : Link) (history : List Item) (r : Packet) → IsSound settings link history → HasOctets r
    → IsSound settings link (item_of settings link history r ∷ history)
sound_next settings link history r s o = record { hops = s.hops; octets = (s.octets, o); lawful = (s.lawful, refl) }

normal_next : Laws → (settings : PlainSettings) (link : Link) (trace : List Item) → AreInRange settings → IsSound settings link trace → HaveFrameOctets settings.mtu trace
    → IsNormal settings link trace
normal_next laws settings link trace range sound octets = record {
  sound = laws.soundly settings link trace range sound octets;
  brought = laws.invents settings link trace sound;
  clashes = laws.clashes settings link trace sound;
  fragment_clashes = laws.fragments settings link trace sound;
  reads_records = laws.reads settings link trace range sound octets;
}

-- what a step of the engine and the cutting of its frames give
pub record Stepped (before after : Lived) (r : Packet) (as_read : Bool) (given : List (List ℕ)) (entry : PlainEntry) (history : List Item) : Type 0 where
  pub settings : after.engine.settings ≡ before.engine.settings
  pub link : after.engine.link ≡ before.engine.link
  pub stands : StandsFor after.engine (next_item before history r ∷ history)
  pub entry_is : entry ≡ (next_item before history r).entry
  pub frames_are : given ≡ (next_item before history r).frames
  pub octets : FramesHaveOctets before.engine.settings.mtu (next_item before history r).frames
  pub entry_out : after.entry ≡ entry_written before.engine.settings.mtu before.engine.link given entry
  pub frames_out : frames_given as_read r.octets after.frames ≡ frames_written before.engine.settings.mtu before.engine.link given
  pub written_is : after.written ≡ before.written + after.entry.packets

module _ (laws : Laws) (before after : Lived) (r : Packet) (as_read : Bool) (given : List (List ℕ)) (entry : PlainEntry) (history : List Item)
    (range : AreInRange before.engine.settings) (read : HasOctets r) (s : Stepped before after r as_read given entry history) (old : Represents before history) where
  abbrev mtu : Option ℕ
  mtu = before.engine.settings.mtu

  abbrev link : Link
  link = before.engine.link

  abbrev item : Item
  item = next_item before history r

  pub entry_given : after.entry ≡ (item_written mtu link item).entry
  entry_given = s.entry_out ∙ (λ i. entry_written mtu link (s.frames_are i) (s.entry_is i))

  sound : IsSound before.engine.settings link (item ∷ history)
  sound = sound_next before.engine.settings link history r old.sound read

  octets : HaveFrameOctets mtu (item ∷ history)
  octets = (s.octets, old.octets)

  counts : after.written ≡ frame_count (written before.engine.settings link (item ∷ history))
  counts =
      s.written_is
      ∙ ap (λ n. n + after.entry.packets) old.counted
      ∙ ap (λ n. frame_count (written before.engine.settings link history) + n)
      (ap (λ (e : PlainEntry). e.packets) entry_given ∙ packets_written mtu link item (laws.counted before.engine.settings link history r))

  pub represents_next : Represents after (item ∷ history)
  represents_next = record {
    stands = s.stands;
    sound = subst (λ (x : PlainSettings). IsSound x after.engine.link (item ∷ history)) (sym s.settings)
        (subst (λ (l : Link). IsSound before.engine.settings l (item ∷ history)) (sym s.link) sound);
    octets = subst (λ (x : PlainSettings). HaveFrameOctets x.mtu (item ∷ history)) (sym s.settings) octets;
    counted = subst (λ (x : PlainSettings). after.written ≡ frame_count (written x after.engine.link (item ∷ history))) (sym s.settings)
        (subst (λ (l : Link). after.written ≡ frame_count (written before.engine.settings l (item ∷ history))) (sym s.link) counts);
  }

  pub gives_next : Gives before after r as_read history
  gives_next = record {
    entry = entry_given;
    frames = s.frames_out ∙ ap (frames_written mtu link) s.frames_are;
    count = ap (λ (e : PlainEntry). e.packets) entry_given ∙ packets_written mtu link item (laws.counted before.engine.settings link history r);
    represents = represents_next;
    normal = normal_next laws before.engine.settings link (item ∷ history) range sound octets;
  }

  pub version_next : IsOfVersion 2 after.entry
  version_next = subst (IsOfVersion 2) (sym entry_given) (version_written mtu link item (laws.counted before.engine.settings link history r).octets)

  pub few_next : before.written ≤ 255 * before.engine.records → after.entry.packets ≤ 255 → after.written ≤ 255 * after.engine.records
  few_next few packets =
      let was = old.stands.counted in
      let now = s.stands.counted in
      omega (arith, few, packets, was, now, s.written_is)

-- the invariant goes on
pub live_next : (laws : Laws) (other : Link) (bound : Option ℕ) (before after : Lived) (r : Packet) (as_read : Bool) (given out : List (List ℕ)) (entry : PlainEntry)
    (was : List (List ℕ)) (live : IsLive other bound was before) → HasOctets r → Stepped before after r as_read given entry live.history
    → CanWrite bound other out → after.entry.packets ≤ 255 → IsLive other bound out after
live_next laws other bound before after r as_read given out entry was live read s ready packets = record {
  same = s.link ∙ live.same;
  bound = ap (λ (x : PlainSettings). x.mtu) s.settings ∙ live.bound;
  range = subst AreInRange (sym s.settings) live.range;
  history = next_item before live.history r ∷ live.history;
  represents = represents_next laws before after r as_read given entry live.history live.range read s live.represents;
  ready = ready;
  version = version_next laws before after r as_read given entry live.history live.range read s live.represents;
  few = few_next laws before after r as_read given entry live.history live.range read s live.represents live.few packets;
}

-- it begins with the history that has no record
pub live_at_first : (opened linked : Engaged) (settings : PlainSettings) (link : Link) (out frames : List (List ℕ)) (entry : PlainEntry) → opened.settings ≡ settings
    → StandsFor opened [] → linked ≡ record opened { link = link } → AreInRange settings → out ≡ [] → entry.ended ≡ []
    → IsLive link settings.mtu out (record { engine = linked; frames = frames; entry = entry; written = 0 })
live_at_first opened linked settings link out frames entry same stands is range none blank = record {
  same = ap (λ (e : Engaged). e.link) is;
  bound = ap (λ (x : PlainSettings). x.mtu) now;
  range = subst AreInRange (sym now) range;
  history = [];
  represents = record {
    stands = subst (λ (e : Engaged). StandsFor e []) (sym is) (record { counted = stands.counted; latest = stands.latest; flows = stands.flows; pieces = stands.pieces });
    sound = record { hops = subst (λ (x : PlainSettings). x.hops ≤ 254) (sym now) range.hops; octets = tt; lawful = tt };
    octets = tt;
    counted = refl;
  };
  ready = subst (CanWrite settings.mtu link) (sym none) (can_write_none settings.mtu link range.mtu);
  version = subst (AllByRecursion (HasEndOctets 2)) (sym blank) tt;
  few = omega arith;
}
  where
    now : linked.settings ≡ settings
    now = ap (λ (e : Engaged). e.settings) is ∙ same

-- all that was written of a represented history is normal
pub represented_normal : Laws → RepresentedIsNormal
represented_normal laws live history range rep = normal_next laws live.engine.settings live.engine.link history range rep.sound rep.octets
