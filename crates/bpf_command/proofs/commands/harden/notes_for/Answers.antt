use Rattle.std.proofs.Common.{◌≡◌, IfSome, refl, rules, subst}
use Rattle.bpf_kept.specs.Matching.{shown_turns}
use Rattle.bpf_follows.specs.NotesText.{notes_text}
use Rattle.bpf_command.proofs.HardenedLemmas.{kept_of}
use Rattle.bpf_command.proofs.commands.harden.notes_for.Goals as goal

pub returns-clause-kept : goal.returns-clause-kept
returns-clause-kept c =
    let asked = c.args.asked in
    let found = c.in_ok-found.found in
    let runs = c.bounds_of-bounds.result in
    let same : c.deref.result.now ≡ found.notes.items = search rules in (
      found.notes.items,
      kept_of c.args.program.now c.args.hardened.now.program asked c.args.hardened.now.certificate found.notes.items _ found.untouched found.mismatch c.bounds_of-bounds.ensures (subst (λ b. c.turns_of.result ≡ shown_turns found.notes.items b.turns) c.bounds_of-bounds.ensures c.turns_of.ensures) refl c.in_ok-found.ensures.left c.said_of.ensures
          c.in_ok-found.ensures.kept c.in_ok-found.ensures.proved c.in_ok-found.ensures.there,
      subst (λ n. IfSome asked.notes (λ _. c.in_ok-notes.notes.items ≡ notes_text runs n)) same c.in_ok-notes.ensures,
    )
