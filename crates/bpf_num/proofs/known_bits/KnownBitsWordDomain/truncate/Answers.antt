use Rattle.std.proofs.Common.{◌*◌}
use Rattle.bpf_insn.specs.Arithmetic.{swap_size}
use Rattle.bpf_num.specs.Word.{truncated}
use Rattle.bpf_num.specs.Tristate.{tristate}
use Rattle.bpf_num.specs.Laws.MovedLaws.{moved_is_tristate, truncated_moves}
use Rattle.bpf_num.specs.Laws.TristateKeeps.{at_most_word}
use Rattle.bpf_num.proofs.known_bits.KnownBitsWordDomain.truncate.Goals as goal

pub invariant_of-result : goal.invariant_of-result
invariant_of-result c =
    rw (c.truncated.ensures, c.truncated-2.ensures)
    (moved_is_tristate (λ x. truncated (8 * swap_size c.args.size) x) (tristate c.self.inside.value c.self.inside.mask) (truncated_moves (8 * swap_size c.args.size) (at_most_word c.args.size)) c.self.invariant)
