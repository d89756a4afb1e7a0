-- Each clash in a line, as it is written, is real, and receivers read what records brought.
use Rattle.std.proofs.Common.{◌≡◌, ℕ, ◌||◌, Bool, true, false, List, [], ◌∷◌, ◌++◌, map, Option, Some, None, refl, sym, ap, ◌∙◌}
use Rattle.std.specs.List.{AllByRecursion, list_any}
use Rattle.wire_base.specs.declared.address.Link.{Link}
use Rattle.rule_book.specs.declared.rule.Rule.{Rule}
use Rattle.norm_settings.specs.SettingValues.{PlainSettings}
use Rattle.era_agreement.specs.SentPackets.{inward_packets, inward_places}
use Rattle.norm_engine.specs.Items.{Item}
use Rattle.norm_engine.specs.Agreement.{sent_in}
use Rattle.norm_engine.specs.BroughtOctets.{LawfulClashesAreReal, LawfulInventsNothing, NamesEachClash, is_clash, names_clash, InventsNothing}
use Rattle.norm_engine.specs.HeldFragments.{LawfulFragmentClashesAreReal, NamesEachFragmentClash, is_fragment_clash, names_fragment_clash}
use Rattle.norm_engine.proofs.BroughtOctets.{without_clash}
use Rattle.norm_engine.proofs.EraReadings.{reads_its_records}
use Rattle.norm_engine.specs.WrittenTrace.{cuts_some, item_written, keeps_some_back, places_written, rules_cut, written, ReadsOneStreamAsWritten, NamesEachClashAsWritten, NamesEachFragmentClashAsWritten, ReadsRecordsAsWritten, WrittenClashesAreReal, WrittenFragmentClashesAreReal, WrittenReadsRecords, LawfulIsWrittenSoundly}

-- What is named in a line, as it is written.

-- a rule named after others, which does not pass the test
any_before : (test : Rule → Bool) (xs ys : List Rule) → list_any test ys ≡ false → list_any test (xs ++ ys) ≡ list_any test xs
any_before test [] ys none = none
any_before test (x ∷ xs) ys none = ap (λ b. test x || b) (any_before test xs ys none)

-- the rules on cuts are neither of the two
no_clash_cut : (cut kept_back : Bool) → names_clash (rules_cut cut kept_back) ≡ false
no_clash_cut true true = refl
no_clash_cut true false = refl
no_clash_cut false true = refl
no_clash_cut false false = refl

no_fragment_clash_cut : (cut kept_back : Bool) → names_fragment_clash (rules_cut cut kept_back) ≡ false
no_fragment_clash_cut true true = refl
no_fragment_clash_cut true false = refl
no_fragment_clash_cut false true = refl
no_fragment_clash_cut false false = refl

clash_written : (mtu : Option ℕ) (link : Link) (item : Item) → names_clash (item_written mtu link item).entry.rules ≡ names_clash item.entry.rules
clash_written None link item = refl
clash_written (Some mtu) link item =
    any_before is_clash item.entry.rules (rules_cut (cuts_some (Some mtu) link item.frames) (keeps_some_back (Some mtu) link item.frames))
    (no_clash_cut (cuts_some (Some mtu) link item.frames) (keeps_some_back (Some mtu) link item.frames))

fragment_clash_written : (mtu : Option ℕ) (link : Link) (item : Item)
    → names_fragment_clash (item_written mtu link item).entry.rules ≡ names_fragment_clash item.entry.rules
fragment_clash_written None link item = refl
fragment_clash_written (Some mtu) link item =
    any_before is_fragment_clash item.entry.rules (rules_cut (cuts_some (Some mtu) link item.frames) (keeps_some_back (Some mtu) link item.frames))
    (no_fragment_clash_cut (cuts_some (Some mtu) link item.frames) (keeps_some_back (Some mtu) link item.frames))

era_written : (mtu : Option ℕ) (link : Link) (item : Item) → (item_written mtu link item).entry.era ≡ item.entry.era
era_written None link item = refl
era_written (Some mtu) link item = refl

clashes_written : (settings : PlainSettings) (link : Link) (trace : List Item) → NamesEachClash settings link trace → NamesEachClashAsWritten settings link trace
clashes_written settings link [] real = tt
clashes_written settings link (item ∷ older) real =
    let same = clash_written settings.mtu link item in
    (clashes_written settings link older real.0, (λ e. real.1.0 (sym same ∙ e), λ c. same ∙ real.1.1 c))

fragment_clashes_written : (settings : PlainSettings) (link : Link) (trace : List Item) → NamesEachFragmentClash settings link trace
    → NamesEachFragmentClashAsWritten settings link trace
fragment_clashes_written settings link [] real = tt
fragment_clashes_written settings link (item ∷ older) real =
    let same = fragment_clash_written settings.mtu link item in
    (fragment_clashes_written settings link older real.0, (λ e. real.1.0 (sym same ∙ e), λ c. same ∙ real.1.1 c))

-- each as the trace is written
clashes_in_trace : (settings : PlainSettings) (link : Link) (trace : List Item) → NamesEachClashAsWritten settings link trace → NamesEachClash settings link trace
clashes_in_trace settings link [] real = tt
clashes_in_trace settings link (item ∷ older) real =
    let same = clash_written settings.mtu link item in
    (clashes_in_trace settings link older real.0, (λ e. real.1.0 (same ∙ e), λ c. sym same ∙ real.1.1 c))

none_written : (mtu : Option ℕ) (link : Link) (era : ℕ) (trace : List Item) → AllByRecursion (λ item. item.entry.era ≡ Some era → names_clash item.entry.rules ≡ false) trace
    → AllByRecursion (λ item. item.entry.era ≡ Some era → names_clash item.entry.rules ≡ false) (map (item_written mtu link) trace)
none_written mtu link era [] none = tt
none_written mtu link era (item ∷ older) none =
    (λ e. clash_written mtu link item ∙ none.0 (sym (era_written mtu link item) ∙ e), none_written mtu link era older none.1)

pub written_clashes : LawfulClashesAreReal → WrittenClashesAreReal
written_clashes real settings link trace sound = clashes_written settings link trace (real settings link trace sound)

pub written_fragment_clashes : LawfulFragmentClashesAreReal → WrittenFragmentClashesAreReal
written_fragment_clashes real settings link trace sound = fragment_clashes_written settings link trace (real settings link trace sound.lawful)

-- What receivers read.

pub reads_written : (settings : PlainSettings) (link : Link) (trace : List Item) → InventsNothing settings link trace → NamesEachClashAsWritten settings link trace
    → ReadsOneStreamAsWritten settings link trace → ReadsRecordsAsWritten settings link trace
reads_written settings link trace nothing clashes reads =
    let sent = sent_in link trace in
    let lines = written settings link trace in
    reads_its_records settings link trace lines (λ era base. places_written settings.mtu (inward_places era base sent) (inward_packets era sent)) (λ era. inward_packets era (sent_in link lines))
    nothing reads
    (λ era same. none_written settings.mtu link era trace (without_clash settings link era trace (clashes_in_trace settings link trace clashes) same))

pub written_reads_records : LawfulInventsNothing → WrittenClashesAreReal → LawfulIsWrittenSoundly → WrittenReadsRecords
written_reads_records nothing clashes soundly settings link trace range sound octets =
    reads_written settings link trace (nothing settings link trace sound) (clashes settings link trace sound) (soundly settings link trace range sound octets).reads
