use Rattle.std.proofs.Common.{◌∙◌, ap, drop, length, replicate, ◌-◌, arith}
use Rattle.bpf_insn.specs.Order.{number_of}
use Rattle.bpf_insn.specs.Instruction.{byte_count}
use Rattle.bpf_flat.specs.code.Frames.{FramesSeen}
use Rattle.bpf_flat.proofs.FrameLemmas.{kept_there, part_is_long, number_there}
use Rattle.bpf_flat.proofs.frames.Frames.number.Goals as goal

pub slice_bounds-number_in-count : goal.slice_bounds-number_in-count
slice_bounds-number_in-count g c = omega (arith, kept_there _ _ (byte_count c.args.size) c.args.first c.self.inside.bytes c.self.inside.callers c.args.self.now c.self.invariant c.self.view_is c.requires.live, c.self.invariant.long)

pub slice_bounds-number_in-start : goal.slice_bounds-number_in-start
slice_bounds-number_in-start g c = omega (arith, kept_there _ _ (byte_count c.args.size) c.args.first c.self.inside.bytes c.self.inside.callers c.args.self.now c.self.invariant c.self.view_is c.requires.live, c.self.invariant.long)

pub number_in-requires : goal.number_in-requires
number_in-requires g c = part_is_long (byte_count c.args.size) c.args.first c.self.inside.bytes (kept_there _ _ (byte_count c.args.size) c.args.first c.self.inside.bytes c.self.inside.callers c.args.self.now c.self.invariant c.self.view_is c.requires.live)

pub returns-clause-number : goal.returns-clause-number
returns-clause-number g c =
    c.number_in.ensures.number
    ∙ number_there c.args.order (byte_count c.args.size) c.args.first c.self.inside.bytes (replicate (4096 - length c.self.inside.bytes) 0) (kept_there _ _ (byte_count c.args.size) c.args.first c.self.inside.bytes c.self.inside.callers c.args.self.now c.self.invariant c.self.view_is c.requires.live)
    ∙ ap (λ (m : FramesSeen). number_of c.args.order (byte_count c.args.size) (drop c.args.first m.bytes)) c.self.view_is
