-- What it means that an instruction has no fault in an abstract state, and that it stands where the machine is.
use Rattle.std.proofs.Common.{◌≡◌, ℕ, refl, subst, Option, Some, None, Bool, true, false, cond, List}
use Rattle.std.proofs.lemmas.Bool.{or_parts}
use Rattle.bpf_insn.specs.declared.instruction.Insn.{Insn}
use Rattle.bpf_insn.specs.Instruction.{Instructions, insn_at}
use Rattle.bpf_semantics.specs.State as machine
use Rattle.bpf_semantics.specs.State.{IsFrame}
use Rattle.bpf_semantics.specs.Step.{Step, step_of, does}
use Rattle.bpf_insn.specs.Effects.{writes_frame_pointer}
use Rattle.bpf_state.specs.State.{AbstractState}
use Rattle.bpf_state.specs.Fault.{fault_of, reads_any, has_wrong_kinds, is_out_of_bounds, reads_unknown_byte, writes_protected}
use Rattle.bpf_safety.specs.Laws.{Leads}

pub record NoFault (least : ℕ) (s : AbstractState) (i : Insn) : Type 0 where
  pub reads : reads_any s i ≡ false
  pub kinds : has_wrong_kinds s i ≡ false
  pub bounds : is_out_of_bounds least s i ≡ false
  pub bytes : reads_unknown_byte s i ≡ false
  pub protected : writes_protected s i ≡ false

pub no_fault_is : (least : ℕ) (s : AbstractState) (i : Insn) → fault_of least s i ≡ None → NoFault least s i
no_fault_is least s i h =
    let t = five (reads_any s i) (has_wrong_kinds s i) (is_out_of_bounds least s i) (reads_unknown_byte s i) (writes_protected s i) h in
    record { reads = t.0; kinds = t.1; bounds = t.2; bytes = t.3; protected = t.4 }
  where
    five : (a b c d e : Bool) → cond {A = Option ℕ} a (Some 3) (cond {A = Option ℕ} b (Some 4) (cond {A = Option ℕ} c (Some 5) (cond {A = Option ℕ} d (Some 6) (cond {A = Option ℕ} e (Some 7) None)))) ≡ None → (a ≡ false) × (b ≡ false) × (c ≡ false) × (d ≡ false) × (e ≡ false)
    five true b c d e h = cc
    five false true c d e h = cc
    five false false true d e h = cc
    five false false false true e h = cc
    five false false false false true h = cc
    five false false false false false h = (refl, refl, refl, refl, refl)

-- an instruction without fault doesn't write r10
pub not_protected : (least : ℕ) (s : AbstractState) (i : Insn) → fault_of least s i ≡ None → writes_frame_pointer i ≡ false
not_protected least s i h = (or_parts (writes_frame_pointer i) _ (no_fault_is least s i h).protected).0

-- a step where an instruction stands is what that instruction does
pub step_is : (p : Instructions) (m m' : machine.State) (i : Insn) → insn_at p.list m.top.slot ≡ Some i → Step p m m' → does p.order i m ≡ Some m'
unfolding step_of
step_is p m m' i stands step = rw stands at step

pub leads_at : (p : Instructions) (least most : ℕ) (x : List ℕ) (t : Option AbstractState) (m m' : machine.State) → m ≡ m' → Leads p least most x t m → Leads p least most x t m'
leads_at p least most x t m m' e l = subst (λ n. Leads p least most x t n) e l

pub top_frame : (m : machine.State) → machine.IsState m → IsFrame m.top
top_frame m ok = ok.each_frame.0
