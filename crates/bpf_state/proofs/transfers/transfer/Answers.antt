use Rattle.std.proofs.Common.{◌≡◌, ℕ, ℤ, sym, ap, ◌∙◌, rules, to_z, of_z, FitsSigned}
use Rattle.std.specs.Int.{w16, w32}
use Rattle.std.proofs.lemmas.Int.{to_z-of_z}
use Rattle.bpf_insn.specs.declared.order.Order.{Order}
use Rattle.bpf_insn.specs.declared.instruction.Insn.{Insn}
use Rattle.bpf_insn.specs.declared.instruction.Insn.TheVariants.{Load, LoadSx, Store, StoreImm, Atomic}
use Rattle.bpf_state.specs.State.{AbstractState}
use Rattle.bpf_state.specs.Transfer.{Outcome, transfer}
use Rattle.bpf_state.proofs.transfers.transfer.Goals as goal

-- what an arm tells is told of the instruction
arm : (order : Order) (least : ℕ) (s : AbstractState) (o : Outcome) (i j : Insn) → j ≡ i → o ≡ transfer order i least s → o ≡ transfer order j least s
arm order least s o i j e h = h ∙ ap (λ x. transfer order x least s) (sym e)

-- the same of an instruction with an offset, which the code holds in 16 bits
offset_arm : (order : Order) (least : ℕ) (s : AbstractState) (o : Outcome) (at : ℤ → Insn) (off : ℤ) (j : Insn) → FitsSigned w16 off → j ≡ at off → o ≡ transfer order (at (to_z w16 (of_z w16 off))) least s → o ≡ transfer order j least s
offset_arm order least s o at off j f e h = arm order least s o (at off) j e (h ∙ ap (λ z. transfer order (at z) least s) (to_z-of_z w16 off f))

pub returns-in-Alu-clause-outcome : goal.returns-in-Alu-clause-outcome
returns-in-Alu-clause-outcome c = arm c.args.order c.args.least c.args.state.now _ _ c.args.insn.now c.in-Alu.is (c.alu.ensures.outcome c.args.order c.args.least)

pub returns-in-Neg-clause-outcome : goal.returns-in-Neg-clause-outcome
returns-in-Neg-clause-outcome c = arm c.args.order c.args.least c.args.state.now _ _ c.args.insn.now c.in-Neg.is (c.neg.ensures.outcome c.args.order c.args.least)

pub returns-in-MovSx-clause-outcome : goal.returns-in-MovSx-clause-outcome
returns-in-MovSx-clause-outcome c = arm c.args.order c.args.least c.args.state.now _ _ c.args.insn.now c.in-MovSx.is (c.mov_sx.ensures.outcome c.args.order c.args.least)

pub returns-in-End-clause-outcome : goal.returns-in-End-clause-outcome
returns-in-End-clause-outcome c = arm c.args.order c.args.least c.args.state.now _ _ c.args.insn.now c.in-End.is (c.end.ensures.outcome c.args.least)

pub returns-in-LoadImm64-clause-outcome : goal.returns-in-LoadImm64-clause-outcome
returns-in-LoadImm64-clause-outcome c = arm c.args.order c.args.least c.args.state.now _ _ c.args.insn.now c.in-LoadImm64.is (c.load_imm64.ensures.outcome c.args.order c.args.least)

pub returns-in-Load-clause-outcome : goal.returns-in-Load-clause-outcome
returns-in-Load-clause-outcome c =
    let x = c.in-Load in
    offset_arm c.args.order c.args.least c.args.state.now _ (λ off. Load x.size x.dst x.src off) x.off c.args.insn.now (search rules) x.is (c.load.ensures.outcome c.args.order)

pub returns-in-LoadSx-clause-outcome : goal.returns-in-LoadSx-clause-outcome
returns-in-LoadSx-clause-outcome c =
    let x = c.in-LoadSx in
    offset_arm c.args.order c.args.least c.args.state.now _ (λ off. LoadSx x.size x.dst x.src off) x.off c.args.insn.now (search rules) x.is (c.load-in-LoadSx.ensures.outcome c.args.order)

pub returns-in-Store-clause-outcome : goal.returns-in-Store-clause-outcome
returns-in-Store-clause-outcome c =
    let x = c.in-Store in
    offset_arm c.args.order c.args.least c.args.state.now _ (λ off. Store x.size x.dst off x.src) x.off c.args.insn.now (search rules) x.is (c.store.ensures.outcome c.args.order)

pub returns-in-StoreImm-clause-outcome : goal.returns-in-StoreImm-clause-outcome
returns-in-StoreImm-clause-outcome c =
    let x = c.in-StoreImm in
    let fits : FitsSigned w32 x.imm = search rules in
    offset_arm c.args.order c.args.least c.args.state.now _ (λ off. StoreImm x.size x.dst off x.imm) x.off c.args.insn.now (search rules) x.is
    (c.store-in-StoreImm.ensures.outcome c.args.order ∙ ap (λ imm. transfer c.args.order (StoreImm x.size x.dst (to_z w16 (of_z w16 x.off)) imm) c.args.least c.args.state.now) (to_z-of_z w32 x.imm fits))

pub returns-in-Atomic-clause-outcome : goal.returns-in-Atomic-clause-outcome
returns-in-Atomic-clause-outcome c =
    let x = c.in-Atomic in
    offset_arm c.args.order c.args.least c.args.state.now _ (λ off. Atomic x.wide x.op x.dst off x.src) x.off c.args.insn.now (search rules) x.is (c.atomic.ensures.outcome c.args.order)

pub returns-in-JumpIf-clause-outcome : goal.returns-in-JumpIf-clause-outcome
returns-in-JumpIf-clause-outcome c = arm c.args.order c.args.least c.args.state.now _ _ c.args.insn.now c.in-JumpIf.is (c.jump_if.ensures.outcome c.args.order c.in-JumpIf._off c.args.least)

pub returns-in-Exit-clause-outcome : goal.returns-in-Exit-clause-outcome
returns-in-Exit-clause-outcome c = arm c.args.order c.args.least c.args.state.now _ _ c.args.insn.now c.in-Exit.is (c.exit.ensures.outcome c.args.order c.args.least)
