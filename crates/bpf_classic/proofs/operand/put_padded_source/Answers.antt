use Rattle.std.proofs.Common.{rules, ◌≡◌, ◌++◌, length}
use Rattle.std.specs.String.{string_bytes}
use Rattle.bpf_classic.specs.Listing.{test_source}
use Rattle.bpf_classic.proofs.PadLemmas.{padded_if}
use Rattle.bpf_classic.proofs.operand.put_padded_source.Goals as goal

pub returns : goal.returns
returns c =
    let old = string_bytes c.args.out.now in
    let text = test_source c.args.source in
    let middle = string_bytes c.put_test_source.new.out in
    let from : c.len-start.result ≡ length old = search rules in
    let is : middle ≡ old ++ text = search rules in
    padded_if c.pad.result old text middle (string_bytes c.pad.new.out) 16 c.len-start.result from is c.pad.ensures
