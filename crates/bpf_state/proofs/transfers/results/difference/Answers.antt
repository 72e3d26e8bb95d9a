use Rattle.std.proofs.Common.{ap, ap₂, ◌∙◌}
use Rattle.std.specs.Prelude.{option_map}
use Rattle.std.specs.Int.{w64}
use Rattle.std.proofs.lemmas.Int.{to_z-of_z}
use Rattle.bpf_num.specs.Tristate.{bits_top}
use Rattle.bpf_num.specs.Interval.{unsigned_top}
use Rattle.bpf_num.specs.SignedInterval.{signed_interval, signed_sub}
use Rattle.bpf_num.specs.Number.{number, tighten}
use Rattle.bpf_state.specs.declared.known.RegState.TheVariants.{Num}
use Rattle.bpf_state.proofs.transfers.results.difference.Goals as goal

pub returns-clause-value : goal.returns-clause-value
returns-clause-value c =
    c.number_state.ensures.value
    ∙ ap (option_map Num)
    (c.tighten.ensures.exact
    ∙ ap tighten
    (c.of.ensures
    ∙ ap (λ b. number b c.top-2.result c.alu-signed.result) c.top.ensures
    ∙ ap (λ u. number bits_top u c.alu-signed.result) c.top-2.ensures
    ∙ ap (number bits_top unsigned_top)
    (c.alu-signed.ensures
    ∙ ap₂ signed_sub
    (c.new.ensures ∙ ap₂ signed_interval (to_z-of_z w64 c.args.lo c.ranges.lo) (to_z-of_z w64 c.args.hi c.ranges.hi))
    (c.new-2.ensures ∙ ap₂ signed_interval (to_z-of_z w64 c.args.least c.ranges.least) (to_z-of_z w64 c.args.most c.ranges.most)))))
