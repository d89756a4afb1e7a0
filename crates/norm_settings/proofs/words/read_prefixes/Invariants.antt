use Rattle.std.proofs.Common.{◌≡◌, ◌≤◌, All, map, drop, length, []}
use Rattle.norm_settings.specs.AskedCommand.{prefixes_from}
use Rattle.norm_settings.proofs.words.read_prefixes.Given as goal

abbrev pub invariant-loop-place : goal.invariant-loop-place
invariant-loop-place l = record {
  count : length l.prefixes.items ≡ l.place;
  in_range : All (λ prefix. prefix.len ≤ 32) l.prefixes.items;
  same : prefixes_from [] (map (λ word. word.now) l.words) ≡ prefixes_from l.prefixes.items (map (λ word. word.now) (drop l.place l.words));
}
