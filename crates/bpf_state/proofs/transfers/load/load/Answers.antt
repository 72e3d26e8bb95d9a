use Rattle.std.proofs.Common.{rules, sym, ◌∙◌}
use Rattle.bpf_state.specs.Condition.{fault_number}
use Rattle.bpf_state.proofs.MemoryLemmas.{load_is, load_refused}
use Rattle.bpf_state.proofs.transfers.load.load.Goals as goal

pub returns-in-Ok-clause-outcome : goal.returns-in-Ok-clause-outcome
returns-in-Ok-clause-outcome c = λ order.
    c.load_at.ensures.outcome
    ∙ sym (load_is order c.args.extension c.args.size c.args.dst c.args.src c.args.off c.args.least c.args.state.now c.in-Ok.reach (search rules))

pub returns-in-Err-clause-outcome : goal.returns-in-Err-clause-outcome
returns-in-Err-clause-outcome c = λ order.
    sym (load_refused order c.args.extension c.args.size c.args.dst c.args.src c.args.off c.args.least (fault_number c.in-Err.fault) c.args.state.now (search rules))
