-- How registers, cells and places of a state lie in a flat state that fits it.
use Rattle.std.proofs.Common.{◌≡◌, suc, zero, List, [], ◌∷◌, Option, Some, None, refl, subst, length, ◌<◌, ◌+◌, ◌-◌, ℕ, arith, ◌∙◌, inl, inr}
use Rattle.std.specs.Prelude.{◌==◌, Bool, true, false, get_or, set, cond}
use Rattle.std.proofs.lemmas.Option.{none-some, same_Some}
use Rattle.std.proofs.lemmas.Bool.{cases_eq}
use Rattle.std.proofs.lemmas.List.{length-set, get_or-set_same, get_or-set_other}
use Rattle.bpf_insn.specs.Instruction.{register_number}
use Rattle.bpf_insn.proofs.RegisterLemmas.{reg_below}
use Rattle.bpf_semantics.specs.State.{StackFrame, State, depth, register, with_register, put, at_slot}
use Rattle.bpf_semantics.specs.Flat.{addresses, Placement, FlatState, frame_start, flat_register, flat_put, flat_at}
use Rattle.bpf_semantics.specs.Placement.{Fits, StandsFor, StandsForCell}
use Rattle.bpf_insn.specs.declared.order.Order.{Order}
use Rattle.bpf_insn.specs.declared.instruction.Reg.{Reg}
use Rattle.bpf_semantics.specs.declared.value.Value.{Value}

-- ---- registers

pub reg_fits : {order : Order} {place : Placement} {s : State} {f : FlatState} → Fits order place s f → (r : Reg) → StandsFor place (flat_register f r) (register s r)
reg_fits fit r = fit.registers_fit (register_number r) (reg_below r)

-- what stands for a register's value, where that is known
pub stands : {order : Order} {place : Placement} {s : State} {f : FlatState} → Fits order place s f → (r : Reg) (v : Value) → register s r ≡ Some v → StandsFor place (flat_register f r) (Some v)
stands {place = place} {f = f} fit r v e = subst (λ o. StandsFor place (flat_register f r) o) e (reg_fits fit r)

-- ---- a state that differs in the top frame's slot and registers alone

pub same_stack : (xs : List StackFrame) (k : ℕ) (a b : StackFrame) → a.stack ≡ b.stack → (get_or xs k a).stack ≡ (get_or xs k b).stack
same_stack [] k a b e = e
same_stack (x ∷ xs) zero a b e = refl
same_stack (x ∷ xs) (suc k) a b e = same_stack xs k a b e

pub same_top_stack : (xs : List StackFrame) (k : ℕ) (a b : StackFrame) → a.stack ≡ b.stack → (get_or (a ∷ xs) k a).stack ≡ (get_or (b ∷ xs) k b).stack
same_top_stack xs zero a b e = e
same_top_stack xs (suc k) a b e = same_stack xs k a b e

pub fits_at : {order : Order} {place : Placement} {s : State} {f : FlatState} → Fits order place s f → (n : ℕ) → Fits order place (at_slot n s) (flat_at n f)
fits_at {order = order} {place = place} {s = s} {f = f} fit n =
    record {
      flat = record { eleven = fit.flat.eleven; numbers = fit.flat.numbers; bytes = fit.flat.bytes; kept = fit.flat.kept };
      slot_is = refl;
      context_fits = fit.context_fits;
      registers_fit = fit.registers_fit;
      cells_fit = λ m j hm hj. subst (λ st. StandsForCell order place (f.memory (frame_start place m + j)) (get_or st j None)) (same_top_stack s.waiting (depth s - m) s.top (at_slot n s).top refl) (fit.cells_fit m j hm hj);
      returns_fit = fit.returns_fit;
    }

registers_after : (place : Placement) (xs : List ℕ) (vs : List (Option Value)) (k x : ℕ) (v : Value) → length xs ≡ 11 → length vs ≡ 11 → ((r : ℕ) → r < 11 → StandsFor place (get_or xs r 0) (get_or vs r None)) → StandsFor place x (Some v) → (r : ℕ) → r < 11 → StandsFor place (get_or (set xs k x) r 0) (get_or (set vs k (Some v)) r None)
registers_after place xs vs k x v lx lv old new r hr = elim (cases_eq r k) [
  | inl e ↦ rw (e, get_or-set_same xs k x 0 (omega arith), get_or-set_same vs k (Some v) None (omega arith)) new
  | inr n ↦ rw (get_or-set_other xs k r x 0 n, get_or-set_other vs k r (Some v) None n) (old r hr)
]

pub numbers_after : (xs : List ℕ) (k x : ℕ) → k < length xs → x < addresses → ((r : ℕ) → get_or xs r 0 < addresses) → (r : ℕ) → get_or (set xs k x) r 0 < addresses
numbers_after xs k x lx hx old r = elim (cases_eq r k) [
  | inl e ↦ rw (e, get_or-set_same xs k x 0 lx) hx
  | inr n ↦ rw (get_or-set_other xs k r x 0 n) (old r)
]

pub fits_with_register : {order : Order} {place : Placement} {s : State} {f : FlatState} → Fits order place s f → length s.top.registers ≡ 11 → (r : Reg) (x : ℕ) (v : Value) → x < addresses → StandsFor place x (Some v) → Fits order place (with_register s (register_number r) (Some v)) (flat_put r x f)
fits_with_register {order = order} {place = place} {s = s} {f = f} fit l r x v hx st =
    let e11 : length f.registers ≡ 11 = fit.flat.eleven in
    record {
      flat = record { eleven = length-set f.registers (register_number r) x ∙ e11; numbers = numbers_after f.registers (register_number r) x (rw e11 (reg_below r)) hx fit.flat.numbers; bytes = fit.flat.bytes; kept = fit.flat.kept };
      slot_is = fit.slot_is;
      context_fits = fit.context_fits;
      registers_fit = registers_after place f.registers s.top.registers (register_number r) x v e11 l fit.registers_fit st;
      cells_fit = λ m j hm hj. subst (λ st. StandsForCell order place (f.memory (frame_start place m + j)) (get_or st j None)) (same_top_stack s.waiting (depth s - m) s.top (with_register s (register_number r) (Some v)).top refl) (fit.cells_fit m j hm hj);
      returns_fit = fit.returns_fit;
    }

cond_none : {A : Type 0} (b : Bool) (x y : A) → cond b None (Some x) ≡ Some y → x ≡ y
cond_none true x y e = absurd (none-some _ e)
cond_none false x y e = same_Some _ _ e

pub fits_put : {order : Order} {place : Placement} {s : State} {f : FlatState} → Fits order place s f → length s.top.registers ≡ 11 → (r : Reg) (x : ℕ) (v : Value) (t : State) → x < addresses → StandsFor place x (Some v) → put r v s ≡ Some t → Fits order place t (flat_put r x f)
fits_put {order = order} {place = place} {s = s} {f = f} fit l r x v t hx st e =
    subst (λ t. Fits order place t (flat_put r x f)) (cond_none (register_number r == 10) _ t e) (fits_with_register fit l r x v hx st)
