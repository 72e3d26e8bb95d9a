use Rattle.std.proofs.Common.{rules, ◌≡◌, ◌⊎◌, inl, Some, None, Ok, Err, refl}
use Rattle.bpf_insn.specs.Limits.{max_slots}
use Rattle.bpf_follows.specs.declared.error.NotesError.TheVariants.{Memory}
use Rattle.bpf_follows.specs.NotesText.{note_lines}
use Rattle.bpf_follows.specs.code.Reading.{lines_in, head_in}
use Rattle.bpf_follows.proofs.Found.{no_head}
use Rattle.bpf_follows.proofs.Said.{lines_said}
use Rattle.bpf_follows.proofs.Whole.{whole_found, whole_only, whole_none, whole_refused}
use Rattle.bpf_follows.proofs.reading.read.Goals as goal

pub returns-in-Ok-clause-found : goal.returns-in-Ok-clause-found
returns-in-Ok-clause-found c =
    let first : head_in c.args.text.now ≡ Some (c.in-Some.runs, c.in-Some.rest.now) = search rules in
    let lines : lines_in max_slots 0 c.in-Some.rest.now ≡ Ok c.in-Ok.notes.items = search rules in
    whole_found c.args.text.now c.in-Some.runs c.in-Some.rest.now first c.in-Ok.notes.items lines

pub returns-in-Ok-clause-whole : goal.returns-in-Ok-clause-whole
returns-in-Ok-clause-whole c =
    let lines : lines_in max_slots 0 c.in-Some.rest.now ≡ Ok c.in-Ok.notes.items = search rules in
    lines_said max_slots 0 c.in-Some.rest.now c.in-Ok.notes.items lines

pub returns-in-Ok-clause-only : goal.returns-in-Ok-clause-only
returns-in-Ok-clause-only c = λ runs notes fits are e.
    let first : head_in c.args.text.now ≡ Some (c.in-Some.runs, c.in-Some.rest.now) = search rules in
    let lines : lines_in max_slots 0 c.in-Some.rest.now ≡ Ok c.in-Ok.notes.items = search rules in
    whole_only c.args.text.now c.in-Some.runs c.in-Some.rest.now first c.in-Ok.notes.items lines runs notes fits are e

pub returns-clause-only : goal.returns-clause-only
returns-clause-only c = λ runs notes fits are e.
    let first : head_in c.args.text.now ≡ Some (c.in-Some.runs, c.in-Some.rest.now) = search rules in
    let stop : (c.in-Err.error ≡ Memory) ⊎ (lines_in max_slots 0 c.in-Some.rest.now ≡ Err c.in-Err.error) = search rules in
    whole_none c.args.text.now c.in-Some.runs c.in-Some.rest.now first c.in-Err.error stop runs notes fits are e

pub returns-clause-err : goal.returns-clause-err
returns-clause-err c =
    let first : head_in c.args.text.now ≡ Some (c.in-Some.runs, c.in-Some.rest.now) = search rules in
    let stop : (c.in-Err.error ≡ Memory) ⊎ (lines_in max_slots 0 c.in-Some.rest.now ≡ Err c.in-Err.error) = search rules in
    whole_refused c.args.text.now c.in-Some.runs c.in-Some.rest.now first c.in-Err.error stop

pub returns-in_default-clause-only : goal.returns-in_default-clause-only
returns-in_default-clause-only c = λ runs notes fits are e.
    let none : head_in c.args.text.now ≡ None = search rules in
    absurd (no_head c.args.text.now none runs (note_lines 0 notes) fits e)

pub returns-in_default-clause-err : goal.returns-in_default-clause-err
returns-in_default-clause-err c =
    let none : head_in c.args.text.now ≡ None = search rules in
    inl (refl, no_head c.args.text.now none)
