-- Writes to a register: of the machine, and of an abstract state that describes it.
use Rattle.std.proofs.Common.{◌≡◌, ℕ, ◌<◌, refl, sym, ◌∙◌, ap, subst, arith, List, length, get_or, set, inl, inr, Option, Some, None, false, cond}
use Rattle.std.specs.Prelude.{◌==◌}
use Rattle.std.proofs.lemmas.Bool.{cases_lt}
use Rattle.std.proofs.lemmas.List.{get_or-set_same, get_or-set_other, length-set}
use Rattle.bpf_semantics.specs.declared.value.Value.{Value}
use Rattle.bpf_insn.specs.Instruction.{register_number, Instructions}
use Rattle.bpf_insn.specs.declared.instruction.Reg.{Reg}
use Rattle.bpf_insn.proofs.RegisterLemmas.{reg_below}
use Rattle.bpf_semantics.specs.State as machine
use Rattle.bpf_semantics.specs.State.{put, IsFrame}
use Rattle.bpf_state.specs.declared.known.RegState.{RegState}
use Rattle.bpf_state.specs.declared.known.RegState.TheVariants.{Any}
use Rattle.bpf_state.specs.declared.known.Tag.{Tag}
use Rattle.bpf_state.specs.State.{AbstractState, put_register, IsAbstract, IsAbstractRegister}
use Rattle.bpf_safety.specs.Describes.{Describes, DescribesRegister, TaggedRegister}
use Rattle.bpf_safety.specs.Laws.{Leads}

-- two lists of which the same place is changed
pub both_set : {A B : Type 0} (P : A → B → Type 0) (xs : List A) (ys : List B) (k j : ℕ) (a d : A) (b e : B) → k < length xs → k < length ys → P a b → P (get_or xs j d) (get_or ys j e) → P (get_or (set xs k a) j d) (get_or (set ys k b) j e)
both_set P xs ys k j a d b e fits fits' new old =
    elim (cases_lt k j) [
      | inl less ↦ subst (λ u. P u (get_or (set ys k b) j e)) (sym (get_or-set_other xs k j a d (λ q. omega (arith, q)))) (subst (λ v. P (get_or xs j d) v) (sym (get_or-set_other ys k j b e (λ q. omega (arith, q)))) old)
      | inr more ↦ elim (cases_lt j k) [
        | inl less ↦ subst (λ u. P u (get_or (set ys k b) j e)) (sym (get_or-set_other xs k j a d (λ q. omega (arith, q)))) (subst (λ v. P (get_or xs j d) v) (sym (get_or-set_other ys k j b e (λ q. omega (arith, q)))) old)
        | inr equal ↦
            let q : k ≡ j = omega arith in
            subst (λ n. P (get_or (set xs k a) n d) (get_or (set ys k b) n e)) q
            (subst (λ u. P u (get_or (set ys k b) k e)) (sym (get_or-set_same xs k a d fits)) (subst (λ v. P a v) (sym (get_or-set_same ys k b e fits')) new))
      ]
    ]

-- the machine at another slot, with another value in a register
abbrev pub reg_top : machine.State → ℕ → Reg → Value → machine.State
reg_top m sl r v = record { top = record { slot = sl; registers = set m.top.registers (register_number r) (Some v); stack = m.top.stack }; waiting = m.waiting; context = m.context }

pub put_is : (r : Reg) (v : Value) (sl : ℕ) (m : machine.State) → (register_number r == 10) ≡ false → put r v (machine.at_slot sl m) ≡ Some (reg_top m sl r v)
put_is r v sl m other = ap (λ b. cond b None (Some (reg_top m sl r v))) other

-- a value is put into a register
pub register_put : (p : Instructions) (least most : ℕ) (x : List ℕ) (s : AbstractState) (m : machine.State) (r : Reg) (v : Value) (sl : ℕ) (value : RegState) (tag : Option Tag) → IsAbstract s → IsFrame m.top → Describes p.order least most x s m → DescribesRegister (machine.depth m) value (Some v) → TaggedRegister x tag (Some v) → IsAbstractRegister value → Leads p least most x (Some (put_register r value tag s)) (reg_top m sl r v)
register_put p least most x s m r v sl value tag valid frame d is tagged ok =
    let eleven = frame.eleven in
    let lt = reg_below r in
    let here = valid.eleven in
    let tags = valid.eleven_tags in
    record {
      state = put_register r value tag s;
      is_there = refl;
      valid = record {
        eleven = length-set s.registers (register_number r) value ∙ valid.eleven;
        slots_are = valid.slots_are;
        eleven_tags = length-set s.register_tags (register_number r) tag ∙ valid.eleven_tags;
        slot_tags_are = valid.slot_tags_are;
        registers = λ q. both_set (λ a b. IsAbstractRegister a) s.registers s.registers (register_number r) (register_number q) value Any value Any (omega arith) (omega arith) ok (valid.registers q);
        slots = valid.slots;
      };
      describes = record {
        length_within = d.length_within;
        registers = λ q. both_set (DescribesRegister (machine.depth m)) s.registers m.top.registers (register_number r) (register_number q) value Any (Some v) None (omega arith) (omega arith) is (d.registers q);
        slots = d.slots;
        register_tags = λ q. both_set (TaggedRegister x) s.register_tags m.top.registers (register_number r) (register_number q) tag None (Some v) None (omega arith) (omega arith) tagged (d.register_tags q);
        slot_tags = d.slot_tags;
      };
    }
