use Rattle.std.proofs.Common.{◌≡◌, ◌≤◌, ◌+◌, ◌<◌, None, option_map, sym, ap, ap₂, ◌∙◌, arith}
use Rattle.bpf_insn.specs.Instruction.{slots, insn_at, groups_in, with_group, group_of}
use Rattle.bpf_insn.proofs.LayoutLemmas.{insns_below, below_insn, below_second, below_all, groups_in-more, mapped, unmapped}
use Rattle.bpf_insn.proofs.groups.groups_of.Goals as goal
use Rattle.bpf_insn.proofs.groups.groups_of.Goals.{in-Some, in_default}

pub loop-slot-preserved : goal.loop-slot-preserved
loop-slot-preserved g c =
    let is = (g.C.Code.program c.args.code.now).list in
    let slot = c.loop-slot.slot in
    let inside : slot < slots is = omega arith in
    let here : option_map group_of (insn_at is slot) ≡ c.group.result = sym c.group.ensures in
    let grown : c.match-group.groups ≡ groups_in (insns_below (slot + 1) is) = elim c.match-group.branch [
      | in-Some w ↦
          let one = mapped (insn_at is slot) w.in-Some.group (here ∙ w.in-Some.is) in
          let below = below_insn slot is one.0 inside one.1 in
          let added : c.match-group.groups ≡ with_group (group_of one.0) (groups_in (insns_below slot is)) = w.groups-is ∙ w.add.ensures ∙ ap₂ with_group (sym one.2) c.loop-slot.invariant in
          added ∙ sym (groups_in-more (insns_below slot is) one.0) ∙ ap groups_in (sym below)
      | in_default w ↦
          let none : insn_at is slot ≡ None = unmapped (insn_at is slot) (here ∙ w.in_default.is) in
          w.groups-is ∙ c.loop-slot.invariant ∙ ap groups_in (sym (below_second slot is inside none))
    ] in
    grown

pub returns : goal.returns
returns g c =
    let is = (g.C.Code.program c.args.code.now).list in
    let all : slots is ≤ c.loop-slot.slot = omega arith in
    c.loop-slot.invariant ∙ ap groups_in (below_all c.loop-slot.slot is all)
