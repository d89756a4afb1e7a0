-- The settings of a run as plain values (this project's profile).
use Rattle.std.specs.Prelude.{ℕ, ◌≡◌, ◌≤◌, Bool, true, false, List, All, Option, Some, None, IfSome, option_map, option_and_then, unwrap_or, codes, if◌then◌else◌}
use Rattle.std.specs.Str.{bytes_eq}
use Rattle.wire_base.specs.declared.address.Prefix.{Prefix}
use Rattle.norm_settings.specs.OptionTable.{Text, kind_of, is_value, number_by, standard_of, greatest_of, IsInRange}
use Rattle.norm_settings.specs.declared.options.Choice.{Choice}
use Rattle.norm_settings.specs.declared.options.Choice.TheVariants.{Hops, Flows, Cells, Frags, FragCells, Idle, FragTime, Seed, Quota, Mtu, Inside, Offload, Both}
use Rattle.norm_settings.specs.declared.options.Kind.TheVariants.{Name}
use Rattle.norm_settings.specs.declared.settings.Settings.{Settings}

-- settings with their prefixes as a list
pub record PlainSettings : Type 0 where
  pub prefixes : List Prefix
  pub hops : ℕ
  pub flows : ℕ
  pub cells : ℕ
  pub frags : ℕ
  pub frag_cells : ℕ
  pub idle : ℕ
  pub frag_time : ℕ
  pub seed : ℕ
  pub offload : Bool
  pub quota : Option ℕ
  pub both : Bool
  pub mirror : Bool
  pub inside : Option (List ℕ)
  pub mtu : Option ℕ

-- settings of the code, over plain values
abbrev pub plain_settings : Settings → PlainSettings
plain_settings s =
    record {
      prefixes = s.prefixes.items;
      hops = s.hops;
      flows = s.flows;
      cells = s.cells;
      frags = s.frags;
      frag_cells = s.frag_cells;
      idle = s.idle;
      frag_time = s.frag_time;
      seed = s.seed;
      offload = s.offload;
      quota = s.quota;
      both = s.both;
      mirror = s.mirror;
      inside = option_map (λ octets. octets.items) s.inside;
      mtu = s.mtu;
    }

-- the number of an option with this value found, or None if there is no value or it does not fit
abbrev pub limit_told : Choice → Option Text → Option ℕ
limit_told choice found = option_and_then (number_by (kind_of choice)) found

-- the number of an option, or else its default
abbrev pub number_told : Choice → Option Text → ℕ
number_told choice found = unwrap_or (limit_told choice found) (standard_of (kind_of choice))

-- the name given, if it fits
abbrev pub name_told : Option Text → Option Text
name_told found = option_and_then (λ name. if is_value Name name then Some name else None) found

-- whether an option without a value is given: its value found is then `true`
abbrev pub is_told : Option Text → Bool
is_told None = false
is_told (Some value) = bytes_eq value (codes "true")

-- the settings of the values found for the options, and of the prefixes
abbrev pub settings_of : (Choice → Option Text) → List Prefix → PlainSettings
settings_of found prefixes =
    record {
      prefixes = prefixes;
      hops = number_told Hops (found Hops);
      flows = number_told Flows (found Flows);
      cells = number_told Cells (found Cells);
      frags = number_told Frags (found Frags);
      frag_cells = number_told FragCells (found FragCells);
      idle = number_told Idle (found Idle);
      frag_time = number_told FragTime (found FragTime);
      seed = number_told Seed (found Seed);
      offload = is_told (found Offload);
      quota = limit_told Quota (found Quota);
      both = is_told (found Both);
      mirror = false;
      inside = name_told (found Inside);
      mtu = limit_told Mtu (found Mtu);
    }

-- the default settings with these prefixes, by the table of options
abbrev pub standard : List Prefix → PlainSettings
standard prefixes = settings_of (λ choice. None) prefixes

-- Each number is in the range of its option, and each prefix has at most 32 bits. `hops` needs no
-- lower bound, since the least value of its option is 0, and a seed may be any number.
pub record AreInRange (s : PlainSettings) : Type 0 where
  pub prefixes : All (λ prefix. prefix.len ≤ 32) s.prefixes
  pub hops : s.hops ≤ greatest_of (kind_of Hops)
  pub flows : IsInRange (kind_of Flows) s.flows
  pub cells : IsInRange (kind_of Cells) s.cells
  pub frags : IsInRange (kind_of Frags) s.frags
  pub frag_cells : IsInRange (kind_of FragCells) s.frag_cells
  pub idle : IsInRange (kind_of Idle) s.idle
  pub frag_time : IsInRange (kind_of FragTime) s.frag_time
  pub quota : IfSome s.quota (IsInRange (kind_of Quota))
  pub mtu : IfSome s.mtu (IsInRange (kind_of Mtu))

-- The settings do not conflict: with `both` they do not exchange sides (the second engine has its
-- own settings), and have neither an inside interface nor a maximum packet length.
pub record GoTogether (s : PlainSettings) : Type 0 where
  pub mirror : s.both ≡ true → s.mirror ≡ false
  pub inside : s.both ≡ true → s.inside ≡ None
  pub mtu : s.both ≡ true → s.mtu ≡ None
