use Rattle.std.proofs.Common.{rules, ◌≡◌, ◌≤◌, ◌+◌, ◌++◌, take, drop, arith, ◌<◌, ap, sym, ◌∙◌, slice_range}
use Rattle.std.proofs.lemmas.Result.{err_from_is_err_and}
use Rattle.edge_io.proofs.Moves.{copied, Keeps-Consumes, taken_ahead, end_ahead, range_some, range_parts}
use Rattle.edge_io.specs.ReadAhead.{octets_ahead}
use Rattle.edge_io.proofs.files.read_ahead.ReadAhead.fetch_some.Goals as goal

pub returns-in_err-refill-clause-octets : goal.returns-in_err-refill-clause-octets
returns-in_err-refill-clause-octets g c =
    let p = err_from_is_err_and c.from_residual.result c.from_residual.ensures.1 in
    rw p.1 c.in_err-refill.ensures.kept

pub returns-clause-octets : goal.returns-clause-octets
returns-clause-octets g c =
    let now = c.refill.new.self in
    let n = c.min-count.result in
    let got = c.copy_from_slice.new.self in
    let buf = c.args.buf.now in
    let ahead : now.start + n ≤ now.filled = search rules in
    let stands : take n (got ++ drop n buf) ≡ take n (drop now.start now.buffer) = copied now.buffer buf got now.start n _ c.copy_from_slice.ensures.after (omega arith) (search rules) in (
      search rules,
      Keeps-Consumes _ _ _ _ c.in_ok-refill.ensures.kept (taken_ahead _ now.buffer _ now.start now.filled n ahead stands),
      λ none some. end_ahead _ now.buffer (now.start + n) now.filled (search rules) (c.in_ok-refill.ensures.end (search rules)),
    )

pub returns-clause-buffered : goal.returns-clause-buffered
returns-clause-buffered g c = λ some.
    let old = c.args.self.now in
    let now = c.refill.new.self in
    let n = c.min-count.result in
    let got = c.copy_from_slice.new.self in
    let buf = c.args.buf.now in
    let same : now ≡ old = (c.refill.ensures.buffered (range_some old.buffer old.start old.filled some)).1 in
    let ahead : now.start + n ≤ now.filled = search rules in
    let stands : take n (got ++ drop n buf) ≡ take n (drop now.start now.buffer) = copied now.buffer buf got now.start n _ c.copy_from_slice.ensures.after (omega arith) (search rules) in (
      ap (λ s. s.reader) same,
      ap octets_ahead (sym same)
          ∙ range_parts now.buffer now.start now.filled n ahead
          ∙ ap (λ l. l ++ slice_range now.buffer (now.start + n) now.filled) (sym stands),
    )
