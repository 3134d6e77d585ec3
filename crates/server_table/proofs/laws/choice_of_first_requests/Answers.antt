use Rattle.server_table.proofs.Dispatch.{chooses_among_heads}
use Rattle.server_table.proofs.laws.choice_of_first_requests.Goals as goal

pub returns : goal.returns
returns c = chooses_among_heads
