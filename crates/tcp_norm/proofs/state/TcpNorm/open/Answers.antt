use Rattle.std.proofs.Common.{rules, ◌≡◌, ℕ, zero, suc, List, [], refl, length, ap, ◌∙◌, arith, slice_index_or, replicate}
use Rattle.retain_store.specs.Maps.{Store, Block, chain_of}
use Rattle.tcp_norm.proofs.state.TcpNorm.open.Goals as goal

-- the chains are empty
empty_chain : (n chain : ℕ) → (none : List Block) → none ≡ [] → slice_index_or (replicate n none) chain [] ≡ []
empty_chain zero chain none e = refl
empty_chain (suc n) zero none e = e
empty_chain (suc n) (suc chain) none e = empty_chain n chain none e

pub returns : goal.returns
returns c =
    record {
      opened = record { flows = search rules; chains = search rules; store = search rules; limits = refl };
      holds = record { eras_are = search rules; each = search rules; free = λ chain none. ap (λ (s : Store). chain_of s chain) c.in_ok-store.ensures ∙ empty_chain c.args.settings.now.flows chain [] refl; given = record { below = tt; apart = tt; fresh = λ number above. refl } };
      begun_is = refl;
      latest_is = refl;
      calls_is = refl;
      timely = record { most = tt; rises = tt };
    }

pub invariant_of-result-clause-bounded : goal.invariant_of-result-clause-bounded
invariant_of-result-clause-bounded c chain most is =
    let none = ap length (ap (λ (s : Store). chain_of s chain) c.in_ok-store.ensures ∙ empty_chain c.args.settings.now.flows chain [] refl) in
    omega (arith, none)
