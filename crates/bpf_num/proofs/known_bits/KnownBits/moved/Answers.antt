use Rattle.bpf_num.specs.Word.{exact}
use Rattle.bpf_num.specs.Tristate.{tristate}
use Rattle.bpf_num.specs.Laws.MovedLaws.{moved_is_tristate}
use Rattle.bpf_num.proofs.Parts.{shift_moves}
use Rattle.bpf_num.proofs.known_bits.KnownBits.moved.Goals as goal

pub invariant_of-result : goal.invariant_of-result
invariant_of-result c =
    let t = tristate c.self.inside.value c.self.inside.mask in
    rw (c.compute_64.ensures, c.compute_64-2.ensures, c.from.ensures, c.from-2.ensures)
    (moved_is_tristate (λ x. exact c.args.op x c.args.amount) t (shift_moves c.args.op c.args.amount c.requires.shift c.requires.below) c.self.invariant)
