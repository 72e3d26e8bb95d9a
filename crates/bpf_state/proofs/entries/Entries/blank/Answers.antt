use Rattle.std.proofs.Common.{sym, subst}
use Rattle.bpf_state.specs.code.Entries.{AreEntries}
use Rattle.bpf_state.proofs.EntryLemmas.{none_are_entries}
use Rattle.bpf_state.proofs.entries.Entries.blank.Goals as goal

pub invariant_of-result : goal.invariant_of-result
invariant_of-result c = subst AreEntries (sym c.new.ensures.items) none_are_entries
