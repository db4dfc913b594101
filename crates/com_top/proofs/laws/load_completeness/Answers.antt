use Rattle.com_commands.proofs.Answering.{responds_whole}
use Rattle.com_top.specs.Loading.{IsLoaded, load_input}
use Rattle.com_top.proofs.laws.load_completeness.Goals as goal

pub returns : goal.returns
returns c = λ number. responds_whole (load_input number) IsLoaded
