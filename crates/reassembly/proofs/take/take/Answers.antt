use Rattle.std.proofs.Common.{◌≡◌, ℕ, ◌∙◌, ◌∷◌, length, ap, subst, is_none}
use Rattle.std.specs.List.{count_by, range_with_len}
use Rattle.retain_store.specs.Maps.{Places, chain_of, fresh}
use Rattle.reassembly.specs.DatagramFragments.{fragment_of, octet_of}
use Rattle.reassembly.proofs.Pieces.{placed, progress_more, fresh_is, cells_are}
use Rattle.reassembly.proofs.take.take.Goals as goal

pub returns-clause-joined : goal.returns-clause-joined
returns-clause-joined c ps keeps =
    let p = fragment_of c.args.piece.now in
    let before = chain_of c.args.store.now c.args.chain.0 in
    let after = chain_of c.place_counting-fresh.new.self c.args.chain.0 in
    let all = placed before after p ps keeps (subst (λ (n : ℕ). Places before after n c.args.piece.now.bytes.now) c.from-from.ensures c.place_counting-fresh.ensures.octets) in
    let brings : c.place_counting-fresh.result ≡ count_by (λ o. is_none (octet_of ps o)) (range_with_len p.offset (length p.octets)) =
    c.place_counting-fresh.ensures.fresh ∙ (ap (λ n. fresh before n (length p.octets)) c.from-from.ensures ∙ fresh_is before ps p.offset (length p.octets) keeps) in
    record {
      progress = λ h own fits.
          progress_more c.args.progress.now c.with.result p ps c.place_counting-fresh.result h own fits brings c.with.ensures.total c.with.ensures.reach c.with.ensures.filled c.with.ensures.front;
      octets = all;
      count = cells_are after (p ∷ ps) c.place_counting-fresh.ensures.map all c.place_counting-fresh.ensures.held;
    }
