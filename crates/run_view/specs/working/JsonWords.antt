-- Words of `normview` that ask for JSON (this project's profile).
use Rattle.std.specs.Prelude.{Bool, List}
use Rattle.std.specs.List.{list_any}
use Rattle.norm_settings.specs.OptionTable.{Text}
use Rattle.run_view.specs.ViewWords.{is_json}

-- JSON is asked for, even by invalid arguments
abbrev pub asks_json : List Text → Bool
asks_json words = list_any is_json words
