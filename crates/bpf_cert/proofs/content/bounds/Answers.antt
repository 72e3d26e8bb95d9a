use Rattle.std.proofs.Common.{sym, rules}
use mir.Val.{SFits}
use mir.Syntax.{w64, w128}
use Rattle.std.proofs.lemmas.Int.{to_z-of_z}
use Rattle.bpf_cert.specs.code.Seen.{signed_seen}
use Rattle.bpf_cert.proofs.ContentLemmas.{bounds_ok, bounds_err}
use Rattle.bpf_cert.proofs.content.bounds.Goals as goal

pub returns-in-Ok-clause-value : goal.returns-in-Ok-clause-value
returns-in-Ok-clause-value c =
    let low : SFits w128 c.signed_value-lo.result = search rules in
    let high : SFits w128 c.signed_value-hi.result = search rules in
    let range = simp to_z-of_z at c.is_int_range-limited.ensures in
    let first = simp to_z-of_z at c.narrow.ensures in
    let second = simp to_z-of_z at c.narrow-in-Ok.ensures in
    let short : SFits w64 c.narrow.result = search rules in
    let short_too : SFits w64 c.narrow-in-Ok.result = search rules in
    simp to_z-of_z (rw (first, second) (bounds_ok (signed_seen c.args.low) (signed_seen c.args.high) c.signed_value-lo.result c.signed_value-hi.result c.are_plain_signed.result c.is_int_range-limited.result c.in-Ok.field-0
    c.requires.low c.requires.high c.signed_value-lo.ensures c.signed_value-hi.ensures c.are_plain_signed.ensures range (sym c.in-Ok.ensures)))

pub returns-in-Err-clause-value : goal.returns-in-Err-clause-value
returns-in-Err-clause-value c =
    let low : SFits w128 c.signed_value-lo.result = search rules in
    let high : SFits w128 c.signed_value-hi.result = search rules in
    let range = simp to_z-of_z at c.is_int_range-limited.ensures in
    bounds_err (signed_seen c.args.low) (signed_seen c.args.high) c.signed_value-lo.result c.signed_value-hi.result c.are_plain_signed.result c.is_int_range-limited.result c.in-Err.flaw
    c.signed_value-lo.ensures c.signed_value-hi.ensures c.are_plain_signed.ensures range (sym c.in-Err.ensures)
