use Rattle.std.proofs.Common.{◌∙◌, ◌≡◌, ◌%◌, ◌-◌, ℕ, subst, arith}
use Rattle.bpf_insn.specs.Instruction.{byte_count}
use Rattle.bpf_machine.specs.code.PackedStack.{IsMask}
use Rattle.bpf_machine.proofs.StackLemmas.{number_found}
use Rattle.bpf_machine.proofs.stack.Stack.number_in_slot.Goals as goal

pub returns-then-self-at-clause-number : goal.returns-then-self-at-clause-number
returns-then-self-at-clause-number c =
    let k : ℕ = byte_count c.args.size in
    let count : c.from-count.result ≡ k = c.from-count.ensures ∙ c.bytes.ensures in
    let mask : IsMask (c.args.at % 8) k c.mask_of-wanted.result = subst (λ n. IsMask (c.args.at % 8) n c.mask_of-wanted.result) count c.mask_of-wanted.ensures in
    number_found c.args.order k c.number_in.result c.args.at (512 - c.args.at) c.mask_of-wanted.result c.self.inside.bytes _ _ c.args.self.now c.self.view_is c.self.told.0 c.requires (omega (arith, count)) (omega arith) mask c.if-self-at.true c.number_in.ensures.number
