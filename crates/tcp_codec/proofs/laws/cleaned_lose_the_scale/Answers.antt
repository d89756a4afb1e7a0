use Rattle.tcp_codec.proofs.CleanedAreas.{loses_scale}
use Rattle.tcp_codec.proofs.laws.cleaned_lose_the_scale.Goals as goal

pub returns : goal.returns
returns c = loses_scale
