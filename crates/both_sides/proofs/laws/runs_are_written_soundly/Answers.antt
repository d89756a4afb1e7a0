use Rattle.both_sides.proofs.Runs.{soundly}
use Rattle.both_sides.proofs.laws.runs_are_written_soundly.Goals as goal

pub returns : goal.returns
returns c = soundly (record {
  written = c.lawful_is_written_soundly.ensures;
  clean = c.lawful_keeps_clean.ensures;
  within = c.lawful_is_within.ensures;
  through = c.frames_go_through.ensures;
  agree = c.both_agree.ensures;
  reads = c.lawful_reads_one_stream.ensures.receivers;
  misses = c.lawful_misses_nothing.ensures;
  plain = c.lawful_is_plain_inwards.ensures;
  short = c.lawful_is_short.ensures;
})
