use Rattle.std.proofs.Common.{sym}
use Rattle.bpf_cert.proofs.StandingLemmas.{no_entry, entry_long, entry_then, entry_nowhere, uncons_none}
use Rattle.bpf_cert.proofs.standing.entry_form.Goals as goal
use Rattle.std.specs.Prelude.{option_map}
use Rattle.bpf_cert.specs.code.Standing.{fields_in}
use Rattle.bpf_cert.specs.code.Seen.{place_seen}

pub returns-in_default : goal.returns-in_default
returns-in_default c = no_entry c.args.name.now _ (uncons_none _ (sym c.in_default.ensures))

pub returns-in_default-next_field : goal.returns-in_default-next_field
returns-in_default-next_field c = entry_long c.args.name.now _ (fields_in (option_map (λ x. x.now) c.in-Some.rest)) (fields_in (option_map (λ x. x.now) c.in_default-next_field.field-0.1)) c.in-Some.said.now c.in_default-next_field.field-0.0.now c.in-Some.ensures c.in_default-next_field.ensures

pub returns-in-Some-place : goal.returns-in-Some-place
returns-in-Some-place c = entry_then c.args.name.now _ (fields_in (option_map (λ x. x.now) c.in-Some.rest)) c.in-Some.said.now (place_seen c.in-Some-place.place) c.in-Some.ensures c.in-None.ensures c.in-Some-place.ensures

pub returns-in-None-place : goal.returns-in-None-place
returns-in-None-place c = entry_nowhere c.args.name.now _ (fields_in (option_map (λ x. x.now) c.in-Some.rest)) c.in-Some.said.now c.in-Some.ensures c.in-None.ensures c.in-None-place.ensures
