-- What it says of the old program where a run of the new one ends at a trap.
use Rattle.std.proofs.Common.{◌≡◌, ℕ, zero, suc, true, false, List, sym, subst, ap, ◌∙◌}
use Rattle.std.specs.Prelude.{◌==◌, not}
use Rattle.std.specs.Option.{option_map_or}
use Rattle.std.proofs.lemmas.Bool.{false≢true}
use Rattle.bpf_insn.specs.Instruction.{Instructions}
use Rattle.bpf_semantics.specs.State.{start}
use Rattle.bpf_semantics.specs.MachineLaws.{FinishIsLast, RunsAreOne}
use Rattle.bpf_kept.specs.Matching.{Notes, StandsForExit, note_at}
use Rattle.bpf_kept.specs.Meaning.{EndsAt, with_turns}
use Rattle.bpf_kept.specs.Shown.{KeepsRuns}
use Rattle.bpf_follows.specs.Traps.{EndsByNotes, is_body, is_trap}
use Rattle.bpf_follows.specs.Laws.{TrapsHaveNoAnswer}
use Rattle.bpf_follows.proofs.ExitLemmas.{one_end}

-- a trap stands for no EXIT of the old program
pub stands_for_none : (old : Instructions) (notes : Notes) (slot : ℕ) → is_trap notes slot ≡ true → StandsForExit old notes slot → ⊥
stands_for_none old notes slot trap exit =
    let body : option_map_or is_body (note_at notes slot) false ≡ true = ap (λ o. option_map_or is_body o false) exit.noted ∙ ap (λ n. n == 0) exit.body in
    false≢true (sym (ap not body) ∙ trap)

-- a run that ends at a trap doesn't end at an EXIT that stands for one
pub ends_nowhere : FinishIsLast → RunsAreOne → (old new : Instructions) (notes : Notes) (context : List ℕ) (v w n most : ℕ) → EndsByNotes new context notes w n true
    → EndsAt new context v (StandsForExit old notes) most → ⊥
ends_nowhere last one old new notes context v w zero most at_trap ends = at_trap.1
ends_nowhere last one old new notes context v w (suc n) most (slot, (s, made, finish, here), trap) ends =
    let same : ends.state ≡ s = one_end last one new ends.steps n (start context) ends.state s v w ends.run ends.finish made finish in
    stands_for_none old notes slot (sym trap) (subst (StandsForExit old notes) (ap (λ t. t.top.slot) same ∙ here) ends.at_exit)

pub traps_have_no_answer : FinishIsLast → RunsAreOne → TrapsHaveNoAnswer
traps_have_no_answer last one old new notes bounds keeps turns within own context w n bytes long given trap =
    let kept : KeepsRuns old new notes (with_turns turns bounds) = keeps.runs turns within in
    record {
      flat = λ v k l near wide. ends_nowhere last one old new notes context v w n _ trap (kept.flat own context v k l bytes long given near wide);
      far = λ v all. ends_nowhere last one old new notes context v w n _ trap (kept.far own context v bytes long given all).1;
      exact = λ few v k ends. ends_nowhere last one old new notes context v w n _ trap (kept.exact few own context v k bytes long given ends);
    }
