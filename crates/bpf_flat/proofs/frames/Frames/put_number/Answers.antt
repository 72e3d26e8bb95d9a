use Rattle.std.proofs.Common.{arith}
use Rattle.bpf_insn.specs.Order.{bytes_of}
use Rattle.bpf_insn.specs.Instruction.{byte_count}
use Rattle.bpf_insn.proofs.ByteLemmas.{bytes_long}
use Rattle.bpf_flat.proofs.FrameLemmas.{kept_there, part_is_long, put_has, put_view}
use Rattle.bpf_flat.proofs.frames.Frames.put_number.Goals as goal

pub slice_bounds-put_number-count : goal.slice_bounds-put_number-count
slice_bounds-put_number-count g c = omega (arith, kept_there _ _ (byte_count c.args.size) c.args.first c.self.inside.bytes c.self.inside.callers c.args.self.now c.self.invariant c.self.view_is c.requires.live, c.self.invariant.long)

pub slice_bounds-put_number-start : goal.slice_bounds-put_number-start
slice_bounds-put_number-start g c = omega (arith, kept_there _ _ (byte_count c.args.size) c.args.first c.self.inside.bytes c.self.inside.callers c.args.self.now c.self.invariant c.self.view_is c.requires.live, c.self.invariant.long)

pub put_number-requires : goal.put_number-requires
put_number-requires g c = part_is_long (byte_count c.args.size) c.args.first c.self.inside.bytes (kept_there _ _ (byte_count c.args.size) c.args.first c.self.inside.bytes c.self.inside.callers c.args.self.now c.self.invariant c.self.view_is c.requires.live)

pub invariant_of-self : goal.invariant_of-self
invariant_of-self g c =
    let k = byte_count c.args.size in
    put_has _ _ c.args.first k (bytes_of c.args.order k c.args.x) c.put_number.new.bytes c.self.inside.bytes c.self.inside.callers (bytes_long c.args.order k c.args.x) (kept_there _ _ (byte_count c.args.size) c.args.first c.self.inside.bytes c.self.inside.callers c.args.self.now c.self.invariant c.self.view_is c.requires.live) c.self.invariant c.put_number.ensures

pub returns : goal.returns
returns g c =
    let k = byte_count c.args.size in
    put_view c.args.first k (bytes_of c.args.order k c.args.x) c.put_number.new.bytes c.self.inside.bytes c.self.inside.callers c.args.self.now (bytes_long c.args.order k c.args.x) (kept_there _ _ (byte_count c.args.size) c.args.first c.self.inside.bytes c.self.inside.callers c.args.self.now c.self.invariant c.self.view_is c.requires.live) c.self.view_is c.put_number.ensures
