use Rattle.tcp_codec.proofs.CleanedAreas.{keeps_scale}
use Rattle.tcp_codec.proofs.laws.cleaned_keep_the_scale.Goals as goal

pub returns : goal.returns
returns c = keeps_scale
