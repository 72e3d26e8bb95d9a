-- The simulation to its end: extra instructions, then the one that stands for the old one, in each call.
use Rattle.std.proofs.Common.{◌≡◌, ℕ, zero, suc, ◌+◌, ◌≤◌, ◌⊎◌, inl, inr, refl, sym, ap, ◌∙◌, subst, arith, Bool, true, false, Option, Some, None}
use Rattle.std.specs.Prelude.{◌↔◌, IsTrue, ◌||◌}
use Rattle.std.specs.Option.{option_map_or}
use Rattle.std.proofs.lemmas.Bool.{and_parts, or_cases, false≢true}
use Rattle.bpf_insn.specs.Instruction.{insn_at, target}
use Rattle.bpf_insn.specs.declared.instruction.Insn.{Insn}
use Rattle.bpf_insn.specs.declared.instruction.Insn.TheVariants.{CallLocal, Exit}
use Rattle.bpf_kept.specs.Rules.{undirected, paired}
use Rattle.bpf_kept.specs.Calls.{apart_waits}
use Rattle.bpf_kept.specs.Matching.{returns, calls_to, calls, goes, stands, IsBody, IsEither}
use Rattle.bpf_kept.proofs.Setting.{Setting}
use Rattle.bpf_kept.proofs.Beside.{old, new}
use Rattle.bpf_kept.proofs.Arrivals.{Ready, extra_step}
use Rattle.bpf_kept.proofs.Follow.{At, known, by_pair}
use Rattle.bpf_kept.proofs.Calling.{Somewhere, Ended, by_call, by_exit}

module _ (given : Setting) where
  open given use {order, is, js, notes, bounds, states, matches, k}

  -- from in front of an old instruction to in front of the next one, or to the end
  by_body : (deep j : ℕ) (q : Ready given deep j) → q.note.extras ≡ 0 → IsBody (old given) (new given) notes bounds (states q.state.top.slot) q.state.top.slot q.note → Somewhere given (suc j) ⊎ Ended given
  unfolding stands
  by_body deep j q body b =
      by_insns b.insn b.moved (record { ready = q; body = body; here = ap (insn_at is) q.old_is ∙ b.insn_is; there = b.moved_is }) b.same_is
      (subst (λ slot. (returns (known given deep q) b.insn b.moved || (calls notes (known given deep q) slot q.state.top.slot b.insn b.moved || option_map_or (goes notes (known given deep q) slot q.state.top.slot b.insn b.moved) (paired (known given deep q) b.same b.insn b.moved) false)) ≡ true) (sym q.old_is) b.good)
    where
      nowhere : (test : ℕ → ℕ → Bool) (o : Option ℕ) → option_map_or (λ to. option_map_or (test to) None false) o false ≡ true → ⊥
      nowhere test None e = false≢true e
      nowhere test (Some to) e = false≢true e

      by_calls : (i moved : Insn) (at : At given deep j i moved) → calls notes (known given deep at.ready) at.ready.fn.slot at.ready.state.top.slot i moved ≡ true → Somewhere given (suc j)
      by_calls (CallLocal off) (CallLocal new_off) at e = by_call given deep j off new_off at e
      by_calls (CallLocal off) moved at e =
          absurd (nowhere (λ to. calls_to notes (known given deep at.ready) at.ready.fn.slot at.ready.state.top.slot to) (target at.ready.fn.slot off) (and_parts (apart_waits (known given deep at.ready)) (option_map_or (λ to. option_map_or (calls_to notes (known given deep at.ready) at.ready.fn.slot at.ready.state.top.slot to) None false) (target at.ready.fn.slot off) false) e).1)
      by_calls i moved at e = absurd (false≢true (and_parts (apart_waits (known given deep at.ready)) false e).1)

      by_returns : (i moved : Insn) (at : At given deep j i moved) → returns (known given deep at.ready) i moved ≡ true → Somewhere given (suc j) ⊎ Ended given
      by_returns Exit Exit at e = by_exit given deep j at e
      by_returns Exit moved at e = absurd (false≢true e)
      by_returns i moved at e = absurd (false≢true e)

      by_insns : (i moved : Insn) (at : At given deep j i moved) → IsTrue b.same ↔ (undirected moved ≡ undirected i)
          → (returns (known given deep at.ready) i moved || (calls notes (known given deep at.ready) at.ready.fn.slot at.ready.state.top.slot i moved || option_map_or (goes notes (known given deep at.ready) at.ready.fn.slot at.ready.state.top.slot i moved) (paired (known given deep at.ready) b.same i moved) false)) ≡ true → Somewhere given (suc j) ⊎ Ended given
      by_insns i moved at same_is good =
          let rest : Bool = option_map_or (goes notes (known given deep at.ready) at.ready.fn.slot at.ready.state.top.slot i moved) (paired (known given deep at.ready) b.same i moved) false in
          let call : Bool = calls notes (known given deep at.ready) at.ready.fn.slot at.ready.state.top.slot i moved in
          elim (or_cases (returns (known given deep at.ready) i moved) (call || rest) good) [
            | inl ends ↦ by_returns i moved at ends
            | inr other ↦ elim (or_cases call rest other) [
              | inl enters ↦ inl (by_calls i moved at enters)
              | inr pair ↦ inl (record { deep = deep; ready = by_pair given deep j i moved at b.same same_is pair })
            ]
          ]

  -- the old instruction's, or one extra instruction less
  body_or_extra : (deep j : ℕ) (q : Ready given deep j) → (Somewhere given (suc j) ⊎ Ended given) ⊎ ((n : Ready given deep j) × (suc n.note.extras ≤ q.note.extras))
  body_or_extra deep j q = by_extras q.note.extras refl (matches.each q.state.top.slot q.note q.noted)
    where
      by_extras : (e : ℕ) → q.note.extras ≡ e → IsEither (old given) (new given) notes bounds (states q.state.top.slot) q.state.top.slot q.note e → (Somewhere given (suc j) ⊎ Ended given) ⊎ ((n : Ready given deep j) × (suc n.note.extras ≤ q.note.extras))
      by_extras zero e x = inl (by_body deep j q e x)
      by_extras (suc left) e x = let n = extra_step given deep j left q e x in let few = n.1 in inr (n.0, omega arith)

  -- first the extra instructions
  follow : (fuel deep j : ℕ) (q : Ready given deep j) → q.note.extras ≤ fuel → Somewhere given (suc j) ⊎ Ended given
  follow zero deep j q le = elim (body_or_extra deep j q) [
    | inl done ↦ done
    | inr n ↦ (let less = n.1 in absurd (omega arith))
  ]
  follow (suc fuel) deep j q le = elim (body_or_extra deep j q) [
    | inl done ↦ done
    | inr n ↦ follow fuel deep j n.0 (let less = n.1 in omega arith)
  ]

  pub ends : (left j : ℕ) → j + left ≡ k → Somewhere given j → Ended given
  ends zero j e r = elim (follow r.ready.note.extras r.deep j r.ready (omega arith)) [
    | inl next ↦ (let before = next.ready.old_at.near_before in absurd (omega arith))
    | inr done ↦ done
  ]
  ends (suc left) j e r = elim (follow r.ready.note.extras r.deep j r.ready (omega arith)) [
    | inl next ↦ ends left (suc j) (omega arith) next
    | inr done ↦ done
  ]
