use Rattle.std.proofs.Common.{rules}
use Rattle.std.proofs.lemmas.List.Elements.{All-set}
use Rattle.bpf_state.specs.State.{IsRegister}
use Rattle.bpf_state.proofs.state.State.set_reg.Goals as goal

pub invariant_of-self : goal.invariant_of-self
invariant_of-self c =
    record {
      register_count = search rules;
      slot_count = c.self.invariant.slot_count;
      register_tag_count = c.self.invariant.register_tag_count;
      slot_tag_count = c.self.invariant.slot_tag_count;
      registers = All-set IsRegister c.self.inside.registers _ c.args.value c.requires c.self.invariant.registers;
      slots = c.self.invariant.slots;
    }

pub returns : goal.returns
returns c = search rules
