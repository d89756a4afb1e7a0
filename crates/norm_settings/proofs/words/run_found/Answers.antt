use Rattle.std.proofs.Common.{◌≡◌, List, false, map, string_bytes, nat_lt, length, ap₂, sym, ◌∙◌, rules, Ok, bytes_eq}
use Rattle.norm_settings.specs.SettingValues.{plain_settings, settings_of}
use Rattle.norm_settings.specs.OptionTable.{Text}
use Rattle.norm_settings.specs.RunWords.{given}
use Rattle.norm_settings.specs.AskedCommand.{run}
use Rattle.norm_settings.proofs.Runs.{names_are, run_reads, few_enough}
use Rattle.norm_settings.proofs.words.run_found.Goals as goal

pub returns-clause-ok : goal.returns-clause-ok
returns-clause-ok c line reads =
    let input : Text = c.in-Some.input.now in
    let output : Text = c.in-Some-get_str.output.now in
    let words : List Text = map (λ w. w.now) c.in-Some-get_strs.prefixes.now in
    let prefixes = c.in_ok-prefixes.prefixes.items in
    let settings = plain_settings c.settings_found.result in
    let apart : bytes_eq input output ≡ false = search rules in
    let few : nat_lt 16 (length words) ≡ false = few_enough (λ w. w.now) c.in-Some-get_strs.prefixes.now c.if-prefixes-gt16.false in
    let told : settings ≡ settings_of (λ choice. given choice line.uses) prefixes = c.settings_found.ensures.exact ∙ reads.0 prefixes in
    let first : input ≡ string_bytes c.in_ok-from_str.field-0 = search rules in
    let second : output ≡ string_bytes c.in_ok-from_str-2.field-0 = search rules in
    let a = c.in-Some.ensures in
    let b = c.in-Some-get_str.ensures in
    let d = c.in-Some-get_strs.ensures in
    let names = names_are c.args.matches.now line.names input output words reads.1 (sym a) (sym b) (sym d) in
    run_reads line input output words prefixes settings names apart few c.in_ok-prefixes.ensures.ok told
    ∙ ap₂ (λ x y. Ok (run (record { input = x; output = y }) settings)) first second
