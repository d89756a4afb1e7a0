use Rattle.std.proofs.Common.{◌≡◌, min, take, ap, ◌∙◌, arith, take_all, bytes_eq}
use Rattle.pcapng_file.proofs.interface.is_name.Goals as goal

pub returns-then-name-from : goal.returns-then-name-from
returns-then-name-from c = λ value size is.
    let fits = rw c.in-Some.is at c.requires in
    let whole : take (min c.args.size 64) value ≡ value = take_all (min c.args.size 64) value (omega arith) in
    rw c.in-Some.is (c.eq.ensures ∙ ap (λ l. bytes_eq l c.in-Some.name.now) (is ∙ whole))
