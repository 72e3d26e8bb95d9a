use Rattle.bpf_num.proofs.TightenLaws.{narrowed_is_tristate}
use Rattle.bpf_num.proofs.num.Num.bits_from_unsigned.Goals as goal

pub new-bits-requires : goal.new-bits-requires
new-bits-requires c =
    rw (c.value-value.ensures, c.mask-mask.ensures)
    (narrowed_is_tristate c.self.inside.bits c.lo-lo.result c.ones_up_to-open.result c.valid.ensures c.lo-lo.type_inv c.ones_up_to-open.type_inv)
