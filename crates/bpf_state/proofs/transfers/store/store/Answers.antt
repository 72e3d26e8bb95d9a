use Rattle.std.proofs.Common.{◌≡◌, rules, sym, ◌∙◌, false}
use Rattle.bpf_state.specs.Answer.{outcome_told}
use Rattle.bpf_state.specs.Condition.{fault_number}
use Rattle.bpf_state.specs.Fault.{operand, is_any, is_pointer}
use Rattle.bpf_state.specs.Transfer.{operand_tag}
use Rattle.bpf_state.specs.code.Parts.{store_outcome}
use Rattle.bpf_state.proofs.MemoryLemmas.{store_is, store_unset, store_refused}
use Rattle.bpf_state.proofs.transfers.store.store.Goals as goal

pub returns-then-is_any-clause-outcome : goal.returns-then-is_any-clause-outcome
returns-then-is_any-clause-outcome c = λ order.
    sym (store_unset order c.args.size c.args.dst c.args.off c.args.src c.args.least c.args.state.now (search rules))

pub returns-in-Ok-clause-outcome : goal.returns-in-Ok-clause-outcome
returns-in-Ok-clause-outcome c = λ order.
    let s = c.args.state.now in
    let told : outcome_told c.store_at.result c.store_at.new.state ≡ store_outcome (is_pointer (operand s c.args.src)) (operand s c.args.src) (operand_tag s c.args.src) c.args.least c.in-Ok.reach s = search rules in
    told ∙ sym (store_is order c.args.size c.args.dst c.args.off c.args.src c.args.least s c.in-Ok.reach (search rules) (search rules))

pub returns-in-Err-clause-outcome : goal.returns-in-Err-clause-outcome
returns-in-Err-clause-outcome c = λ order.
    let s = c.args.state.now in
    let set : is_any (operand s c.args.src) ≡ false = search rules in
    sym (store_refused order c.args.size c.args.dst c.args.off c.args.src c.args.least (fault_number c.in-Err.fault) s set (search rules))
