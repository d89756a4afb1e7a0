use Rattle.std.proofs.Common.{◌++◌, sym, ◌∙◌}
use Rattle.tcp_codec.proofs.write.put_parts.Goals as goal

pub returns : goal.returns
returns c =
    let header = c.copy_from_slice.ensures.after ∙ c.without_sum.ensures c.args.parts.now.options.items c.args.payload.now (sym c.len-2.ensures.value) in
    let options = c.copy_from_slice-2.ensures.after ∙ c.as_slice.ensures.value in
    let octets = c.copy_from_slice-3.ensures.after in
    λ i. header i ++ (options i ++ octets i)
