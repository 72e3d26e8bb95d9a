-- What a label's state keeps as a place of it is told.
use Rattle.std.proofs.Common.{◌≡◌, ℕ, zero, suc, ◌-◌, ◌≤◌, Bool, true, eqb, List, [], ◌∷◌, length, refl, sym, ap, ◌∙◌, arith}
use Rattle.std.specs.Prelude.{◌&&◌, is_none}
use Rattle.std.specs.List.{list_all}
use Rattle.std.proofs.Math.ListN.{set}
use Rattle.std.proofs.lemmas.List.{length-set, get_or-set_other}
use Rattle.bpf_insn.specs.Instruction.{register_number}
use Rattle.bpf_insn.specs.declared.instruction.Reg.{Reg}
use Rattle.bpf_insn.specs.declared.instruction.Reg.TheVariants.{R10}
use Rattle.bpf_state.specs.State.{AbstractState, register, value_slot, with_register, with_slot, blank}
use Rattle.bpf_state.specs.declared.known.RegState.{RegState}
use Rattle.bpf_state.specs.declared.known.RegState.TheVariants as reg
use Rattle.bpf_state.specs.declared.known.SlotState.{SlotState}
use Rattle.bpf_cert.specs.Limits.{is_frame_end, is_limited_register, is_limited_slot, has_shape}
use Rattle.bpf_cert.specs.code.Sound.{IsLabelState}
use Rattle.bpf_cert.proofs.Bools.{both_true}

pub all_set : {A : Type 0} (p : A → Bool) (xs : List A) (i : ℕ) (v : A) → list_all p xs ≡ true → p v ≡ true → list_all p (set xs i v) ≡ true
all_set p [] i v e f = refl
all_set p (x ∷ xs) zero v e f = let parts = both_true (p x) (list_all p xs) e in rw (f, parts.1) refl
all_set p (x ∷ xs) (suc i) v e f = let parts = both_true (p x) (list_all p xs) e in rw (parts.0, all_set p xs i v parts.1 f) refl

limited_value : (v : RegState) → is_limited_slot (value_slot v) ≡ is_limited_register v
limited_value reg.Any = refl
limited_value (reg.Num n) = refl
limited_value (reg.Ptr p) = refl

pub blank_state : IsLabelState blank
blank_state = record { canonical = refl; limited = refl }

pub state_register : (s : AbstractState) (r : Reg) (v : RegState) (content : SlotState) → register_number r ≤ 9 → IsLabelState s → value_slot v ≡ content → is_limited_slot content ≡ true → IsLabelState (with_register s r v)
state_register s r v content few is e limited =
    let other : register (with_register s r v) R10 ≡ register s R10 = get_or-set_other s.registers (register_number r) 10 v reg.Any (λ same. omega arith) in
    let fits : is_limited_register v ≡ true = sym (limited_value v) ∙ ap is_limited_slot e ∙ limited in
    let parts = both_true (has_shape s && list_all is_limited_register s.registers) (list_all is_limited_slot s.slots) is.limited in
    let shape = both_true (has_shape s) (list_all is_limited_register s.registers) parts.0 in
    let same : has_shape (with_register s r v) ≡ has_shape s = ap (λ n. ((eqb n 11 && eqb (length s.slots) 64) && eqb (length s.register_tags) 11) && eqb (length s.slot_tags) 64) (length-set s.registers (register_number r) v) in
    record {
      canonical = ap (λ x. (is_frame_end x && list_all is_none s.register_tags) && list_all is_none s.slot_tags) other ∙ is.canonical;
      limited = rw (same, shape.0, all_set is_limited_register s.registers (register_number r) v shape.1 fits, parts.1) refl;
    }

pub state_slot : (s : AbstractState) (k : ℕ) (content : SlotState) → IsLabelState s → is_limited_slot content ≡ true → IsLabelState (with_slot s k content)
state_slot s k content is limited =
    let parts = both_true (has_shape s && list_all is_limited_register s.registers) (list_all is_limited_slot s.slots) is.limited in
    let shape = both_true (has_shape s) (list_all is_limited_register s.registers) parts.0 in
    let same : has_shape (with_slot s k content) ≡ has_shape s = ap (λ n. ((eqb (length s.registers) 11 && eqb n 64) && eqb (length s.register_tags) 11) && eqb (length s.slot_tags) 64) (length-set s.slots (k - 1) content) in
    record {
      canonical = is.canonical;
      limited = rw (same, shape.0, shape.1, all_set is_limited_slot s.slots (k - 1) content parts.1 limited) refl;
    }
