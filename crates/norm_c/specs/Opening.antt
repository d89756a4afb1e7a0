-- The words that open a gate, and what they ask for (this project's profile, contrib/lib/norm.h).
use Rattle.std.specs.Prelude.{◌≡◌, ◌⊎◌, ℕ, ◌==◌, Bool, true, false, List, [], ◌∷◌, ◌++◌, Option, Some, None, Result, Ok, Err, is_some, All, if◌then◌else◌}
use Rattle.std.specs.Str.{IsUtf8}
use Rattle.norm_settings.specs.AskedCommand.{PlainCommand, PlainNames, run, load, asked}
use Rattle.norm_settings.specs.OptionTable.{Text}
use Rattle.norm_settings.specs.SettingValues.{PlainSettings}
use Rattle.norm_settings.specs.declared.fault.WordFault.{WordFault}

-- the words of a text after the octets of a word that has begun; each space (32) ends a word
abbrev pub words_from : (begun : Text) → List ℕ → List Text
words_from begun [] = begun ∷ []
words_from begun (octet ∷ octets) =
    if octet == 32 then begun ∷ words_from [] octets else words_from (begun ++ octet ∷ []) octets

-- the words of a text, with one space between each two
abbrev pub words_in : List ℕ → List Text
words_in text = words_from [] text

-- the words ask for a run with these settings
pub record AskForRun (words : List Text) (settings : PlainSettings) : Type 0 where
  pub names : PlainNames
  pub asked_is : asked words ≡ Ok (run names settings)

-- the words ask for a run with these settings, by one engine, which needs no inside interface
pub record AreAsked (words : List Text) (settings : PlainSettings) : Type 0 where
  pub run : AskForRun words settings
  pub alone : settings.both ≡ false
  pub no_inside : settings.inside ≡ None

-- the words ask for a run by two engines, or with an inside interface
pub record AreUnfit (words : List Text) : Type 0 where
  pub settings : PlainSettings
  pub run : AskForRun words settings
  pub more : (settings.both ≡ true) ⊎ (is_some settings.inside ≡ true)

-- a command is a run
abbrev pub is_run : Result PlainCommand WordFault → Bool
is_run (Ok (run names settings)) = true
is_run (Ok (load seed count)) = false
is_run (Err fault) = false

-- not each word of the text is UTF-8
abbrev pub HasNoUtf8 : (text : List ℕ) → Type 0
HasNoUtf8 text = All IsUtf8 (words_in text) → ⊥

-- not each word is UTF-8, or the words ask for no run
abbrev pub IsNoRun : (text : List ℕ) → Type 0
IsNoRun text = HasNoUtf8 text ⊎ (is_run (asked (words_in text)) ≡ false)
