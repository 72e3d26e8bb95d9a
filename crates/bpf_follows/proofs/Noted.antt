-- What is noted of the slots of a program, instruction by instruction.
use Rattle.std.proofs.Common.{◌≡◌, inl, inr, ℕ, zero, suc, ◌+◌, ◌-◌, ◌<◌, ◌≤◌, sym, ap, ◌∙◌, subst, arith, Option, None, length}
use Rattle.std.specs.Prelude.{◌↔◌, Result, Ok, Err, IfErr, IsOk}
use Rattle.std.proofs.lemmas.Bool.{cases_lt, false≢true}
use Rattle.std.proofs.lemmas.List.{get_or_past}
use Rattle.std.proofs.lemmas.Option.{none-some}
use Rattle.bpf_insn.specs.Instruction.{Instructions, insn_at}
use Rattle.bpf_state.specs.State.{AbstractState}
use Rattle.bpf_kept.specs.declared.notes.Note.{Note}
use Rattle.bpf_kept.specs.declared.bounds.Bounds.{Bounds}
use Rattle.bpf_kept.specs.Matching.{Notes, IsEither, HoldsAt}
use Rattle.bpf_kept.specs.Mismatches.{IsEitherFault, FailsBy, IsAt, IsLowest}
use Rattle.bpf_kept.specs.States.{States}
use Rattle.bpf_kept.specs.declared.mismatch.NoteFault.{NoteFault}
use Rattle.bpf_kept.specs.declared.mismatch.Mismatch.{Mismatch}
use Rattle.bpf_kept.specs.declared.mismatch.Mismatch.TheVariants.{Order, TooMany, Start, At, Length, NoExit}
use Rattle.bpf_follows.specs.Stretch.{HoldFrom, FailsFrom}

module _ (old new : Instructions) (notes : Notes) (bounds : Bounds) where
  -- where nothing stands, nothing may be noted, whatever the state
  either_stateless : (s t : Option AbstractState) (slot : ℕ) (note : Note) (extras : ℕ) → insn_at new.list slot ≡ None → IsEither old new notes bounds s slot note extras → IsEither old new notes bounds t slot note extras
  either_stateless s t slot note zero none b = absurd (none-some b.moved (sym none ∙ b.moved_is))
  either_stateless s t slot note (suc left) none b = absurd (none-some b.moved (sym none ∙ b.moved_is))

  pub stateless : (s t : Option AbstractState) (slot : ℕ) → insn_at new.list slot ≡ None → HoldsAt old new notes bounds s slot → HoldsAt old new notes bounds t slot
  stateless s t slot none h note noted = either_stateless s t slot note note.extras none (h note noted)

  -- and it fails by the same
  either_fault_stateless : (s t : Option AbstractState) (slot : ℕ) (note : Note) (fault : NoteFault) (extras : ℕ) → insn_at new.list slot ≡ None → IsEitherFault old new notes bounds s slot note fault extras
      → IsEitherFault old new notes bounds t slot note fault extras
  either_fault_stateless s t slot note fault zero none (inl h) = inl h
  either_fault_stateless s t slot note fault zero none (inr b) = absurd (none-some b.moved (sym none ∙ b.moved_is))
  either_fault_stateless s t slot note fault (suc left) none (inl h) = inl h
  either_fault_stateless s t slot note fault (suc left) none (inr b) = absurd (none-some b.moved (sym none ∙ b.moved_is))

  pub fault_stateless : (s t : Option AbstractState) (slot before : ℕ) (fault : NoteFault) → insn_at new.list slot ≡ None → FailsBy old new notes bounds s slot before fault → FailsBy old new notes bounds t slot before fault
  fault_stateless s t slot before fault none h =
      record { note = h.note; noted = h.noted; before_is = h.before_is; fails = either_fault_stateless s t slot h.note fault h.note.extras none h.fails }

  -- behind the last note nothing is noted
  pub past : (s : Option AbstractState) (slot : ℕ) → length notes ≤ slot → HoldsAt old new notes bounds s slot
  past s slot long note noted = absurd (none-some note (sym (get_or_past notes slot None long) ∙ noted))

  module _ (states : States) where
    abbrev Holds : ℕ → Type 0
    Holds slot = HoldsAt old new notes bounds (states slot) slot

    -- so many slots more
    pub further : (slot count : ℕ) → ((n : ℕ) → n < slot → Holds n) → HoldFrom old new notes bounds states slot count → (n : ℕ) → n < slot + count → Holds n
    further slot count before here n lt = elim (cases_lt n slot) [
      | inl less ↦ before n less
      | inr more ↦ by_distance n more lt
    ]
      where
        by_distance : (n : ℕ) → slot ≤ n → n < slot + count → Holds n
        by_distance n le lt = let d : ℕ = n - slot in let same : slot + d ≡ n = omega arith in subst Holds same (here d (omega arith))

    -- one or two slots
    pub one_here : (slot : ℕ) → Holds slot → HoldFrom old new notes bounds states slot 1
    one_here slot h n lt = let same : slot ≡ slot + n = omega arith in subst Holds same h

    pub two_here : (slot : ℕ) → Holds slot → Holds (slot + 1) → HoldFrom old new notes bounds states slot 2
    two_here slot h k zero lt = let same : slot ≡ slot + 0 = omega arith in subst Holds same h
    two_here slot h k (suc zero) lt = k
    two_here slot h k (suc (suc n)) lt = absurd (omega arith)

    -- the second of two fails
    pub second_fails : {T : Type 0} (slot count : ℕ) (s : Option AbstractState) (r : Result T Mismatch) → count ≡ 2 → insn_at new.list (slot + 1) ≡ None → Holds slot → IsOk r ↔ HoldsAt old new notes bounds s (slot + 1)
        → IfErr r (IsAt (λ at before fault. (at ≡ slot + 1) × FailsBy old new notes bounds s at before fault)) → IfErr r (FailsFrom old new notes bounds states slot count)
    second_fails slot count s (Ok v) two none first decides h = tt
    second_fails slot count s (Err Order) two none first decides h = h
    second_fails slot count s (Err TooMany) two none first decides h = h
    second_fails slot count s (Err Start) two none first decides h = h
    second_fails slot count s (Err (At at before fault)) two none first decides h =
        let there : at ≡ slot + 1 = h.0 in
        let nothing : insn_at new.list at ≡ None = ap (insn_at new.list) there ∙ none in
        record {
          from = omega arith;
          to = omega arith;
          fails = λ holds. false≢true (decides.1 (stateless (states (slot + 1)) s (slot + 1) none (subst Holds there holds)));
          lower = λ n le lt. let same : slot ≡ n = omega arith in subst Holds same first;
          by = fault_stateless s (states at) at before fault nothing h.1;
        }
    second_fails slot count s (Err Length) two none first decides h = h
    second_fails slot count s (Err NoExit) two none first decides h = h

    -- the lowest of these is the lowest of all
    pub lowest : (slot count : ℕ) (fault : Mismatch) → ((n : ℕ) → n < slot → Holds n) → FailsFrom old new notes bounds states slot count fault → IsAt (IsLowest old new notes bounds states) fault
    lowest slot count Order before h = h
    lowest slot count TooMany before h = h
    lowest slot count Start before h = h
    lowest slot count (At at old_slot fault) before h = (h.fails, λ n lt. elim (cases_lt n slot) [ inl less ↦ before n less | inr more ↦ h.lower n more lt ], h.by)
    lowest slot count Length before h = h
    lowest slot count NoExit before h = h

    -- a slot at which it fails
    pub fails_somewhere : (slot count : ℕ) (fault : Mismatch) → FailsFrom old new notes bounds states slot count fault → ((n : ℕ) → Holds n) → ⊥
    fails_somewhere slot count Order h all = h
    fails_somewhere slot count TooMany h all = h
    fails_somewhere slot count Start h all = h
    fails_somewhere slot count (At at old_slot fault) h all = h.fails (all at)
    fails_somewhere slot count Length h all = h
    fails_somewhere slot count NoExit h all = h
