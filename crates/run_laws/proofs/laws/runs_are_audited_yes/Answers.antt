use Rattle.run_laws.proofs.Audits.{runs_audited_yes}
use Rattle.run_laws.proofs.laws.runs_are_audited_yes.Goals as goal

pub returns : goal.returns
returns c =
    runs_audited_yes (record {
      whole = c.unbounded_is_written_whole.ensures.whole;
      puts = c.one_puts_its_trace.ensures;
      counted = c.items_are_counted.ensures;
      in_order = c.items_are_written_in_order.ensures;
      yes = c.written_is_yes.ensures;
      one_answer = c.answers_are_one.ensures;
    })
