-- Visits and edges as code passes over them.
use Rattle.std.specs.Prelude.{ℕ, ◌+◌, ℤ, ◌-ℤ◌, Bool, false, List, ◌++◌, Option, Some, None, is_some, option_map, option_and_then, option_copied, if◌then◌else◌}
use Rattle.bpf_insn.specs.declared.instruction.Insn.{Insn}
use Rattle.bpf_insn.specs.declared.instruction.Insn.TheVariants.{JumpIf, CallLocal, Exit}
use Rattle.bpf_insn.specs.Instruction.{slot_count, goes_on}
use Rattle.bpf_insn.specs.declared.instruction.Reg.{Reg}
use Rattle.bpf_insn.specs.declared.instruction.Operand.{Operand}
use Rattle.bpf_insn.specs.declared.instruction.Operand.TheVariants.{Imm, Reg as FromReg}
use Rattle.bpf_state.specs.declared.known.RegState.{RegState}
use Rattle.bpf_state.specs.State.{AbstractState, caller_state, with_register}
use Rattle.bpf_state.specs.Transfer.{branch}
use Rattle.bpf_state.specs.Fault.{some_passes}
use Rattle.bpf_cert.specs.View.{LabelView, CertificateView, label_view}
use Rattle.bpf_safety.specs.Labels.{label_at}
use Rattle.bpf_safety.specs.Budget.{budget, least_budget, least_slack}
use Rattle.bpf_safety.specs.Flow.{Arrival, Visit, callee, jump_target, jump_state}
use Rattle.bpf_safety.specs.Flaw.{Edge, edge_to, is_negative_if, is_refused_by}
use Rattle.bpf_check.specs.code.Slack.{at_label}
use Rattle.bpf_check.specs.declared.judge.JudgedEdge.{JudgedEdge}

-- a visit, of which the arrival isn't looked at
abbrev pub visit : ℕ → Insn → Visit
visit slot i = record { slot = slot; insn = i; arrival = None }

-- the budget at a label doesn't cover the cost and the budget at the end of an edge
abbrev pub unpaid_from : CertificateView → LabelView → Option ℤ → Edge → Bool
unpaid_from c old cost e =
    some_passes (λ new. is_negative_if (option_and_then (λ spent. least_slack (budget old) (at_label old) spent e.state (budget new)) cost)) (label_at c e.slot)

-- what is left of the budget at a label on an edge, after the cost and the budget at the label at its end, if there is one
abbrev pub slack_to : LabelView → Option ℤ → AbstractState → Option LabelView → Option ℤ
slack_to old cost s there = option_and_then (λ new. option_and_then (λ spent. least_slack (budget old) (at_label old) spent s (budget new)) cost) there

abbrev pub slack_from : CertificateView → LabelView → Option ℤ → Edge → Option ℤ
slack_from c old cost e = slack_to old cost e.state (label_at c e.slot)

-- what is left of the budget at the last label after the cost at EXIT
abbrev pub left_at_exit : Arrival → Option ℤ → Insn → Option ℤ
left_at_exit a cost Exit = option_and_then (λ spent. option_map (λ b. b -ℤ spent) (least_budget (budget a.label) a.at_label)) cost
left_at_exit a cost _ = None

-- ---- what is seen of an edge

-- where it leads, whether a state goes along it, the label at its end, whether that doesn't take the state, and what is left of the budget there
pub record EdgeSeen : Type 0 where
  pub to : ℕ
  pub is_live : Bool
  pub label : Option LabelView
  pub is_refused : Bool
  pub left : Option ℤ

-- of an edge to a slot, from a label and after a cost, with the state that goes along it, if one does
abbrev pub edge_seen : CertificateView → LabelView → Option ℤ → ℕ → Option AbstractState → EdgeSeen
edge_seen c old cost to o = record {
  to = to;
  is_live = is_some o;
  label = label_at c to;
  is_refused = some_passes (λ s. is_refused_by c (record { slot = to; state = s })) o;
  left = option_and_then (λ s. slack_from c old cost (record { slot = to; state = s })) o;
}

-- as code keeps it
abbrev pub seen_of : JudgedEdge → EdgeSeen
seen_of e = record {
  to = e.to;
  is_live = e.is_live;
  label = option_map label_view (option_copied e.label);
  is_refused = e.is_refused;
  left = option_map (λ s. s.left) e.slack;
}

-- yes and no follow from it

abbrev pub is_unpaid : JudgedEdge → Bool
is_unpaid e = is_negative_if (option_map (λ s. s.left) e.slack)

abbrev pub has_refused : Option JudgedEdge → Bool
has_refused o = some_passes (λ e. e.is_refused) o

abbrev pub has_unpaid : Option JudgedEdge → Bool
has_unpaid o = some_passes is_unpaid o

-- ---- edges from the state after an instruction

-- the state on the edge to the next instruction, from the state after this one
abbrev pub next_of : CertificateView → ℕ → Insn → AbstractState → Option AbstractState
next_of c slot (JumpIf cond width dst src off) s = branch (JumpIf cond width dst src off) false s
next_of c slot (CallLocal off) s = option_and_then (λ g. caller_state g.ret s) (callee c slot (CallLocal off))
next_of c slot i s = if goes_on i then Some s else None

-- a state with something known of the operands of a test, of the second only where it is a register
abbrev pub with_operands : Reg → Operand → RegState → RegState → AbstractState → AbstractState
with_operands dst (FromReg r) left right s = with_register (with_register s dst left) r right
with_operands dst (Imm imm) left right s = with_register s dst left

-- the live edges, from the state after an instruction
abbrev pub edges_of : CertificateView → ℕ → Insn → AbstractState → List Edge
edges_of c slot i s = edge_to (jump_target slot i) (jump_state slot i s) ++ edge_to (Some (slot + slot_count i)) (next_of c slot i s)

-- what is seen of the edge of its jump, if it is one, from the state after an instruction
abbrev pub jump_seen : CertificateView → LabelView → Option ℤ → ℕ → Insn → AbstractState → Option EdgeSeen
jump_seen c old cost slot i s = option_map (λ to. edge_seen c old cost to (jump_state slot i s)) (jump_target slot i)

-- and of the one to the next instruction, which is dead where it doesn't go on there
abbrev pub next_seen : CertificateView → LabelView → Option ℤ → ℕ → Insn → AbstractState → EdgeSeen
next_seen c old cost slot i s = edge_seen c old cost (slot + slot_count i) (next_of c slot i s)
