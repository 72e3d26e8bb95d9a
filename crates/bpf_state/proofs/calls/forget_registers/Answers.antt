use Rattle.std.proofs.lemmas.List.Elements.{All-set}
use Rattle.bpf_state.specs.State.{IsRegister}
use Rattle.bpf_state.proofs.calls.forget_registers.Goals as goal

pub returns-clause-ordered : goal.returns-clause-ordered
returns-clause-ordered c =
    All-set IsRegister _ 5 _ tt (All-set IsRegister _ 4 _ tt (All-set IsRegister _ 3 _ tt (All-set IsRegister _ 2 _ tt (All-set IsRegister _ 1 _ tt (All-set IsRegister _ 0 _ tt c.requires)))))
