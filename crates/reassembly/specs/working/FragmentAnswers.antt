-- The answer of an assembly to a fragment, and the datagrams that are too old (this project's
-- profile).
use Rattle.std.specs.Prelude.{◌≡◌, ℕ, Bool, false, List, [], ◌∷◌}
use Rattle.reassembly.specs.declared.assembly.Assembly.{Assembly}
use Rattle.reassembly.specs.declared.piece.Offered.{Offered}
use Rattle.reassembly.specs.DatagramFragments.{Fragment, whole_of}
use Rattle.reassembly.specs.Calls.{Answer, Gathered, after, is_old, pieces_in}
use Rattle.reassembly.specs.RuleRows.{Carries, offered}
use Rattle.reassembly.specs.TableAndStore.{HoldsFor}

-- With these datagrams held, a fragment got this answer at this time: what was returned, the
-- datagrams held afterwards, and the buffer, `old` before it and `new` after it.
pub record IsAnswered (now : ℕ) (gs : List Gathered) (p : Fragment) (answer : Answer) (result : Offered) (old new : List ℕ) (a : Assembly) : Type 0 where
  pub says : result ≡ offered answer (whole_of (p ∷ pieces_in gs p.id))
  pub holds : HoldsFor (after now p answer gs) a.table.entries a.store
  pub octets : Carries result old new (p ∷ pieces_in gs p.id)

-- the datagram that began first did so more than `time` seconds before `now`
abbrev pub begins_old : (time now : ℕ) → List Gathered → Bool
begins_old time now [] = false
begins_old time now (g ∷ gs) = is_old time now g

-- the datagrams except the first
abbrev pub without_first : List Gathered → List Gathered
without_first [] = []
without_first (g ∷ gs) = gs
