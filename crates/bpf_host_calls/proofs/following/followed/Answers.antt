use Rattle.std.proofs.Common.{◌≡◌, refl, sym, ap, subst, ◌∙◌}
use Rattle.bpf_kept.specs.Matching.{shown_turns}
use Rattle.bpf_follows.specs.NotesText.{notes_text}
use Rattle.bpf_host_calls.specs.Followed.{following_of}
use Rattle.bpf_host_calls.proofs.FollowedLemmas.{flawed, followed_by, mismatched, read_from}
use Rattle.bpf_host_calls.proofs.following.followed.Goals as goal

pub returns-in-Err-check-clause-err : goal.returns-in-Err-check-clause-err
returns-in-Err-check-clause-err c =
    let asked = c.args.asked in
    let order = c.args.order in
    let old = c.in-Ok.ensures in
    let new = c.in-Ok-of.ensures in
    let noted = c.in-Ok-read_notes.noted in
    flawed order asked.old.now asked.new.now asked.notes.now asked.certificate.now c.in-Ok.program c.in-Ok-of.program noted.runs noted.notes.items c.in-Ok-read_certificate.certificate c.in-Err-check.refusal c.refusal_of-in-Err-check.result (read_from order asked.old.now c.in-Ok.program old.ok.0 old.ok.1 old.program) (read_from order asked.new.now c.in-Ok-of.program new.ok.0 new.ok.1 new.program) c.in-Ok-read_notes.ensures.found c.in-Ok-read_certificate.ensures.ok c.in-Err-check.ensures.err c.refusal_of-in-Err-check.ensures

pub returns-clause-err : goal.returns-clause-err
returns-clause-err c =
    let asked = c.args.asked in
    let order = c.args.order in
    let old = c.in-Ok.ensures in
    let new = c.in-Ok-of.ensures in
    let noted = c.in-Ok-read_notes.noted in
    let notes_are = c.in-Ok-read_notes.ensures.found ∙ ap (notes_text noted.runs) (sym c.deref.ensures.value) in
    mismatched order asked.old.now asked.new.now asked.notes.now asked.certificate.now c.in-Ok.program c.in-Ok-of.program noted.runs c.deref.result.now c.in-Ok-read_certificate.certificate c.in-Err-shows.mismatch c.refusal_of-in-Err-shows.result (read_from order asked.old.now c.in-Ok.program old.ok.0 old.ok.1 old.program) (read_from order asked.new.now c.in-Ok-of.program new.ok.0 new.ok.1 new.program) notes_are c.in-Ok-read_certificate.ensures.ok c.in-Ok-check.ensures.certified c.in-Err-shows.ensures.err c.refusal_of-in-Err-shows.ensures

pub returns-in-Ok-shows-clause-ok : goal.returns-in-Ok-shows-clause-ok
returns-in-Ok-shows-clause-ok c =
    let asked = c.args.asked in
    let order = c.args.order in
    let old = c.in-Ok.ensures in
    let new = c.in-Ok-of.ensures in
    let noted = c.in-Ok-read_notes.noted in
    let notes = c.deref.result.now in
    let k = c.in-Ok-read_certificate.certificate in
    let by = c.in-Ok-check.ensures.certified in
    let notes_are = c.in-Ok-read_notes.ensures.found ∙ ap (notes_text noted.runs) (sym c.deref.ensures.value) in
    let turns_are : c.turns_shown-turns.result ≡ shown_turns notes noted.runs.turns
    = c.turns_shown-turns.ensures ∙ ap (λ ns. shown_turns ns noted.runs.turns) (c.deref-in-Ok-shows.ensures.value ∙ sym c.deref.ensures.value) in
    let told : c.told_of.result ≡ following_of noted.runs (shown_turns notes noted.runs.turns) c.steps.result
    = subst (λ turns. c.told_of.result ≡ following_of noted.runs turns c.steps.result) turns_are c.told_of.ensures in
    followed_by order asked.old.now asked.new.now asked.notes.now asked.certificate.now c.in-Ok.program c.in-Ok-of.program noted.runs notes k c.told_of.result (read_from order asked.old.now c.in-Ok.program old.ok.0 old.ok.1 old.program) (read_from order asked.new.now c.in-Ok-of.program new.ok.0 new.ok.1 new.program) notes_are c.in-Ok-read_certificate.ensures.ok by (c.in-Ok-shows.ensures.exact.0 refl) (c.in-Ok-shows.ensures.keeps refl by.certified)
    (subst (λ steps. c.told_of.result ≡ following_of noted.runs (shown_turns notes noted.runs.turns) steps) c.steps.ensures told)
