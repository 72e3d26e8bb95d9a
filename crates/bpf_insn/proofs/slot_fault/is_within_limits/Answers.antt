use Rattle.std.proofs.Common.{◌≡◌, ◌<◌, slice_index, drop, ap, sym, ◌∙◌, arith}
use Rattle.std.proofs.lemmas.List.{take_rest}
use Rattle.bpf_insn.specs.Order.{number_of}
use Rattle.bpf_insn.proofs.LimitLemmas.{within_limits}
use Rattle.bpf_insn.proofs.slot_fault.is_within_limits.Goals as goal

pub returns : goal.returns
returns c e =
    let order = c.args.order in
    let bytes = c.args.bytes.now in
    let small : slice_index bytes 0 < 256 = omega (arith, c.type_inv.bytes 0) in
    let offset : c.u16_in.result ≡ number_of order 2 (drop 2 bytes) = c.u16_in.ensures ∙ ap (number_of order 2) (take_rest bytes 2) in
    let imm : c.u32_in.result ≡ number_of order 4 (drop 4 bytes) = c.u32_in.ensures ∙ ap (number_of order 4) (take_rest bytes 4) in
    within_limits order bytes c.in-Some.limits small (sym c.limits_of.ensures ∙ c.in-Some.is) c.registers_in-dst.result.0 c.registers_in-dst.result.1 c.u16_in.result c.u32_in.result c.registers_in-dst.ensures.dst c.registers_in-dst.ensures.src offset imm (sym c.allow.ensures ∙ e)
