-- Starts, the end of a run, and runs of many steps.
use Rattle.std.proofs.Common.{◌≡◌, suc, zero, [], Some, None, refl, ap, sym, subst, length, ◌+◌, ◌*◌, ℕ, arith, ◌∙◌, inl}
use Rattle.std.specs.Prelude.{get_or, option_and_then}
use Rattle.std.proofs.lemmas.Option.{same_Some, option_and_then_some}
use Rattle.bpf_insn.specs.Instruction.{insn_at}
use Rattle.bpf_semantics.specs.State.{State, number_of_register, FitsMachine, IsNumberCell, start, IsState}
use Rattle.bpf_insn.specs.declared.order.Order.{Order}
use Rattle.bpf_insn.specs.declared.instruction.Reg.TheVariants.{R0}
use Rattle.bpf_semantics.specs.Step.{does, step_of, finish_of}
use Rattle.bpf_insn.specs.declared.instruction.Insn.TheVariants.{Exit}
use Rattle.bpf_semantics.specs.MachineLaws.{StartIsState, RunsAreOne, FinishIsLast, StepsAreComputed, RunsKeepStates}
use Rattle.bpf_semantics.specs.Run.{state_after}
use Rattle.bpf_semantics.proofs.StateLemmas.{left_is, all_none, exit_is}
use Rattle.bpf_semantics.proofs.StateLaw.{step_keeps_states}

pub start_is_state : StartIsState
start_is_state context bytes few = record {
  few_frames = omega arith;
  each_frame = (record { eleven = refl; values = values; cells = refl; whole = λ k hk. inl (λ j hj. subst IsNumberCell (sym (all_none 512 (8 * k + j))) tt) }, tt);
  bytes = bytes;
}
  where
    values : (r : ℕ) → FitsMachine (get_or (start context).top.registers r None)
    values zero = tt
    values (suc zero) = record { sfits = omega arith }
    values (suc (suc zero)) = few
    values (suc (suc (suc zero))) = tt
    values (suc (suc (suc (suc zero)))) = tt
    values (suc (suc (suc (suc (suc zero))))) = tt
    values (suc (suc (suc (suc (suc (suc zero)))))) = tt
    values (suc (suc (suc (suc (suc (suc (suc zero))))))) = tt
    values (suc (suc (suc (suc (suc (suc (suc (suc zero)))))))) = tt
    values (suc (suc (suc (suc (suc (suc (suc (suc (suc zero))))))))) = tt
    values (suc (suc (suc (suc (suc (suc (suc (suc (suc (suc zero)))))))))) = (omega arith, record { sfits = omega arith })
    values (suc (suc (suc (suc (suc (suc (suc (suc (suc (suc (suc r))))))))))) = tt

pub runs_are_one : RunsAreOne
runs_are_one p zero s t u h k = h ∙ sym k
runs_are_one p (suc k) s t u (m, h, e) (m', h', e') =
    let same : m ≡ m' = runs_are_one p k s m m' h h' in
    same_Some _ _ (sym e ∙ ap (step_of p) same ∙ e')

no_return : (order : Order) (s t : State) → s.waiting ≡ [] → does order Exit s ≡ Some t → ⊥
unfolding does
no_return order s t ew e = option_and_then_some _ (number_of_register s R0) t e (λ v ev e1.
    let h = left_is s.waiting v s.context t e1 in
    let bad : suc (length h.1) ≡ 0 = ap length (sym h.2 ∙ ew) in
    absurd (omega arith))

pub finish_is_last : FinishIsLast
unfolding finish_of step_of
finish_is_last p s t v f e = option_and_then_some _ (insn_at p.list s.top.slot) v f (λ i ei er.
    let h = exit_is s.waiting (number_of_register s R0) i v er in
    let here : insn_at p.list s.top.slot ≡ Some Exit = ei ∙ ap Some h.1 in
    no_return p.order s t h.0 (ap (λ o. option_and_then (λ i. does p.order i s) o) (sym here) ∙ e))

pub steps_are_computed : StepsAreComputed
unfolding state_after
steps_are_computed p zero s t = (λ e. ap Some (sym e), λ e. sym (same_Some _ _ e))
steps_are_computed p (suc k) s t = (
  λ (mid, steps, step). ap (option_and_then (step_of p)) ((steps_are_computed p k s mid).0 steps) ∙ step,
  λ e. option_and_then_some (step_of p) (state_after p k s) t e (λ mid em et. (mid, (steps_are_computed p k s mid).1 em, et)),
)

pub runs_keep_states : RunsKeepStates
runs_keep_states p context zero s prog bytes few e = subst IsState (sym e) (start_is_state context bytes few)
runs_keep_states p context (suc k) s prog bytes few (mid, steps, step) = step_keeps_states p mid s prog (runs_keep_states p context k mid prog bytes few steps) step
