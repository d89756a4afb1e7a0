use Rattle.std.proofs.Common.{length, drop, sym}
use Rattle.std.proofs.lemmas.Bool.Decides.{Decides-eqb}
use Rattle.std.proofs.lemmas.Slice.Eq.{starts_is}
use Rattle.receiver_model.proofs.agreement.is_prefix.Goals as goal

pub returns : goal.returns
returns c =
    let is = starts_is Decides-eqb c.args.b.now c.args.a.now c.starts_with.result c.starts_with.ensures.value in
    (λ h. (drop (length c.args.a.now) c.args.b.now, sym (is.0 h)), λ h. is.1 h.0 (sym h.1))
