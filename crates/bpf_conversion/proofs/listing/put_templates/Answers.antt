use Rattle.std.proofs.Common.{rules, ◌<◌, length}
use Rattle.bpf_conversion.proofs.ListedLemmas.{templates_more}
use Rattle.bpf_conversion.proofs.listing.put_templates.Goals as goal

pub loop-at-preserved : goal.loop-at-preserved
loop-at-preserved c =
    let raws = c.args.raws.now in
    let at = c.loop-at.at in
    let low : at < length raws = search rules in
    templates_more c.args.converted.now raws c.loop-at.out.items c.put_template.new.out.items _ at _ low c.in_ok-put_template.ensures c.loop-at.invariant
