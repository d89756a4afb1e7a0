-- Why words open no gate, and what a gate that they open is, for private functions (this project's
-- profile).
use Rattle.std.specs.Prelude.{◌≡◌, ℕ, List, [], false}
use Rattle.std.specs.Str.{IsUtf8}
use Rattle.norm_settings.specs.AskedCommand.{asked}
use Rattle.norm_settings.specs.OptionTable.{Text}
use Rattle.norm_gate.specs.declared.arrival.Frames.{Frames}
use Rattle.norm_gate.specs.GateState.{Gated, Represents, settings_of}
use Rattle.norm_c.specs.declared.opening.OpenFault.{OpenFault}
use Rattle.norm_c.specs.declared.opening.OpenFault.TheVariants.{NoMemory, NoRun, Unfit}
use Rattle.norm_c.specs.Opening.{AreAsked, AreUnfit, HasNoUtf8, IsNoRun, is_run, words_in}

-- why a text opens no gate
abbrev pub Explains : (text : List ℕ) → OpenFault → Type 0
Explains text NoMemory = Unit {0}
Explains text NoRun = IsNoRun text
Explains text Unfit = AreUnfit (words_in text)

-- why words open no gate
abbrev pub Refuses : (words : List Text) → OpenFault → Type 0
Refuses words NoMemory = Unit {0}
Refuses words NoRun = is_run (asked words) ≡ false
Refuses words Unfit = AreUnfit words

-- why octets are no words
abbrev pub ExplainsWords : (text : List ℕ) → OpenFault → Type 0
ExplainsWords text NoMemory = Unit {0}
ExplainsWords text NoRun = HasNoUtf8 text
ExplainsWords text Unfit = ⊥

-- why octets are no word
abbrev pub ExplainsWord : (word : Text) → OpenFault → Type 0
ExplainsWord word NoMemory = Unit {0}
ExplainsWord word NoRun = IsUtf8 word → ⊥
ExplainsWord word Unfit = ⊥

-- A gate that was opened for these frames by these words.
pub record Opens (given : Frames) (text : List ℕ) (gate : Gated) : Type 0 where
  pub asked : AreAsked (words_in text) (settings_of gate)
  pub given_is : gate.given ≡ given
  pub represents : Represents gate []
