-- What three sources have of a finished run after the first line of the report (this project's
-- profile).
use Rattle.std.specs.Prelude.{◌≡◌, ℕ, List, ◌++◌, Some}
use Rattle.run_view.specs.declared.form.Form.{Form}
use Rattle.run_view.specs.Forms.{heading}
use Rattle.run_view.specs.RunFiles.{Sources, sources_of, AreOfARun}

-- the three sources, where all octets are known and the first line of the report was read, are not
-- those of a finished run
abbrev pub AreNoRest : Form → Sources → Type 0
AreNoRest form s = (input output rest : List ℕ) → s ≡ sources_of (Some input) (Some output) (Some rest) → AreOfARun input output (heading form ++ rest) → ⊥
