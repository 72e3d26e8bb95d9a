use Rattle.std.proofs.Common.{◌++◌, ◌∷◌, [], ◌∙◌, sym, ap, subst}
use Rattle.bpf_state.specs.code.Entries.{AreEntries, IsNew, put, state_of}
use Rattle.bpf_state.proofs.EntryLemmas.{more_entries, state_more}
use Rattle.bpf_state.proofs.entries.Entries.push.Goals as goal

pub invariant_of-self : goal.invariant_of-self
invariant_of-self c =
    let es = c.self.inside.entries.items in
    let new = subst (λ s. IsNew s c.args.entry) (sym c.self.view_is) c.requires.unknown in
    subst AreEntries (ap (λ e. es ++ e ∷ []) c.in-Register.is ∙ sym c.in_ok-push-in-Register.ensures.items) (more_entries es c.args.entry c.self.invariant c.requires.placed c.requires.ordered c.requires.known new)

pub invariant_of-self-in-Continue-branch-2 : goal.invariant_of-self-in-Continue-branch-2
invariant_of-self-in-Continue-branch-2 c =
    let es = c.self.inside.entries.items in
    let new = subst (λ s. IsNew s c.args.entry) (sym c.self.view_is) c.requires.unknown in
    subst AreEntries (ap (λ e. es ++ e ∷ []) c.in-Slot.is ∙ sym c.in_ok-push-in-Slot.ensures.items) (more_entries es c.args.entry c.self.invariant c.requires.placed c.requires.ordered c.requires.known new)

pub returns-in_ok-push-in-Register : goal.returns-in_ok-push-in-Register
returns-in_ok-push-in-Register c =
    let es = c.self.inside.entries.items in
    ap state_of (c.in_ok-push-in-Register.ensures.items ∙ sym (ap (λ e. es ++ e ∷ []) c.in-Register.is)) ∙ state_more es c.args.entry ∙ ap (λ s. put s c.args.entry) c.self.view_is

pub returns-in_ok-push-in-Slot : goal.returns-in_ok-push-in-Slot
returns-in_ok-push-in-Slot c =
    let es = c.self.inside.entries.items in
    ap state_of (c.in_ok-push-in-Slot.ensures.items ∙ sym (ap (λ e. es ++ e ∷ []) c.in-Slot.is)) ∙ state_more es c.args.entry ∙ ap (λ s. put s c.args.entry) c.self.view_is
