use Rattle.bpf_state.proofs.state.State.tighten.Goals as goal

pub invariant_of-self : goal.invariant_of-self
invariant_of-self c =
    let kept = c.self.invariant in
    record {
      register_count = c.tighten_registers.ensures.long;
      slot_count = c.tighten_slots.ensures.long;
      register_tag_count = kept.register_tag_count;
      slot_tag_count = kept.slot_tag_count;
      registers = c.tighten_registers.ensures.ordered;
      slots = c.tighten_slots.ensures.ordered;
    }

pub invariant_of-self-else-tighten_registers : goal.invariant_of-self-else-tighten_registers
invariant_of-self-else-tighten_registers c =
    let kept = c.self.invariant in
    record {
      register_count = c.tighten_registers.ensures.long;
      slot_count = kept.slot_count;
      register_tag_count = kept.register_tag_count;
      slot_tag_count = kept.slot_tag_count;
      registers = c.tighten_registers.ensures.ordered;
      slots = kept.slots;
    }
