-- The state of the engine, the history that it represents, and what a step gives.
use Rattle.std.specs.Prelude.{◌≡◌, ℕ, Bool, true, false, List, [], ◌∷◌, length, Option, None}
use Rattle.wire_base.specs.declared.address.Link.{Link}
use Rattle.wire_base.specs.declared.address.Side.{Side}
use Rattle.rule_book.specs.declared.rule.Rule.{Rule}
use Rattle.rule_book.specs.declared.entry.Ended.{Ended}
use Rattle.rule_book.specs.Entries.{PlainEntry}
use Rattle.norm_settings.specs.SettingValues.{PlainSettings}
use Rattle.tcp_norm.specs.declared.state.TcpNorm.{TcpNorm}
use Rattle.tcp_norm.specs.TableAndStore as flows
use Rattle.tcp_norm.specs.Outcomes.{verdict_of}
use Rattle.reassembly.specs.declared.assembly.Assembly.{Assembly}
use Rattle.reassembly.specs.AssemblyState as fragments
use Rattle.norm_engine.specs.Items.{Item, now_at}
use Rattle.norm_engine.specs.Fragments.{piece_calls}
use Rattle.norm_engine.specs.Calls.{flow_calls}

-- an engine as contracts see it: its settings, its link type, the number of records so far, the
-- greatest time of them in seconds, its connections, and the datagrams with held fragments
pub record Engaged : Type 0 where
  pub settings : PlainSettings
  pub link : Link
  pub records : ℕ
  pub latest : ℕ
  pub norm : TcpNorm
  pub pieces : Assembly

-- The engine represents the history: it has counted its items, holds the greatest time of their
-- records, and its connections and its fragments represent the calls that the history makes.
pub record StandsFor (engine : Engaged) (history : List Item) : Type 0 where
  pub counted : engine.records ≡ length history
  pub latest : engine.latest ≡ now_at history
  pub flows : flows.StandsFor engine.settings engine.norm (flow_calls engine.settings engine.link history)
  pub pieces : fragments.StandsFor engine.settings engine.pieces (piece_calls engine.settings engine.link history)

-- the entry of a record that is written, rewritten by these rules, with which these eras ended
abbrev pub entry_written : (number : ℕ) → Option Side → List Rule → List Ended → PlainEntry
entry_written number side named ended =
    record { number = number; side = side; verdict = verdict_of named; packets = 1; rules = named; era = None; begun = None; ended = ended }

-- the frames that a step gives: the record as it was read, or those of the outbox
abbrev pub frames_given : (as_read : Bool) → (octets : List ℕ) → (out : List (List ℕ)) → List (List ℕ)
frames_given true octets out = octets ∷ []
frames_given false octets out = out
