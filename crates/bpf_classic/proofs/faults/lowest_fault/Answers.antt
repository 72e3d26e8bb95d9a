use Rattle.std.proofs.Common.{rules, ◌≡◌, ◌+◌, ◌-◌, ◌<◌, None, length, ap, ◌∙◌}
use Rattle.std.specs.Prelude.{get_or}
use Rattle.bpf_classic.specs.declared.raw.Raw.{Raw}
use Rattle.std.specs.Prelude.{option_and_then}
use Rattle.std.proofs.lemmas.Option.{slice_get-get_or}
use Rattle.bpf_classic.specs.Auxiliary.{instruction_in}
use Rattle.bpf_classic.specs.Valid.{fault_at, fault_of_raw}
use Rattle.bpf_classic.proofs.FilterLemmas.{grows}
use Rattle.bpf_classic.proofs.faults.lowest_fault.Goals as goal

pub loop-at-preserved : goal.loop-at-preserved
loop-at-preserved c =
    let raws = c.args.raws.now in
    let within : c.loop-at.at < length raws = search rules in
    let blank : Raw = record { code = 0; jt = 0; jf = 0; k = 0 } in
    let none : fault_of_raw c.args.kind c.loop-at.at (length raws - (c.loop-at.at + 1)) (instruction_in c.args.kind (get_or raws c.loop-at.at blank)) ≡ None = search rules in
    let here : fault_at c.args.kind raws c.loop-at.at ≡ None = ap (λ o. fault_of_raw c.args.kind c.loop-at.at (length raws - (c.loop-at.at + 1)) (option_and_then (instruction_in c.args.kind) o)) (slice_get-get_or raws c.loop-at.at blank within) ∙ none in
    grows (λ j. fault_at c.args.kind raws j ≡ None) c.loop-at.at c.loop-at.invariant here
