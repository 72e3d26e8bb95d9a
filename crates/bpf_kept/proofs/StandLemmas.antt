-- What is noted of a slot is decided by tests.
use Rattle.std.proofs.Common.{◌≡◌, ℕ, suc, ◌-◌, ◌<◌, Bool, true, false, Option, Some, None, refl, sym, ap, ◌∙◌, subst, arith}
use Rattle.std.specs.Prelude.{◌↔◌, IsTrue}
use Rattle.std.proofs.lemmas.Bool.{false≢true}
use Rattle.std.proofs.lemmas.Option.{none-some, same_Some}
use Rattle.bpf_insn.specs.Instruction.{Instructions, insn_at}
use Rattle.bpf_insn.specs.declared.instruction.Insn.{Insn}
use Rattle.bpf_kept.specs.declared.notes.Note.{Note}
use Rattle.bpf_kept.specs.Meaning.{Bounds}
use Rattle.bpf_state.specs.State.{AbstractState}
use Rattle.bpf_kept.specs.Rules.{undirected}
use Rattle.bpf_kept.specs.Matching.{Notes, note_at, left_alone, known_at, stands, adds, IsBody, IsExtra, IsEither, HoldsAt}
use Rattle.bpf_kept.specs.Knowns.{known_for}

-- what two tests decide alike they answer alike
pub same_answers : (P : Type 0) (a b : Bool) → IsTrue a ↔ P → IsTrue b ↔ P → a ≡ b
same_answers P true true h k = refl
same_answers P true false h k = absurd (false≢true (k.1 (h.0 refl)))
same_answers P false true h k = absurd (false≢true (h.1 (k.0 refl)))
same_answers P false false h k = refl

module _ (old new : Instructions) (notes : Notes) (bounds : Bounds) (state : Option AbstractState) (slot : ℕ) (note : Note) where
  -- what is known there
  known_is : (left : ℕ) → left ≡ left_alone new bounds.untouched → known_for bounds.turns left state note ≡ known_at new bounds state note
  known_is left is = ap (λ left. known_for bounds.turns left state note) is

  -- ---- an instruction that stands for an old one

  pub no_old : insn_at old.list note.old ≡ None → IsTrue false ↔ IsBody old new notes bounds state slot note
  no_old e = (λ h. absurd (false≢true h), λ b. absurd (none-some b.insn (sym e ∙ b.insn_is)))

  pub no_new : insn_at new.list slot ≡ None → IsTrue false ↔ IsBody old new notes bounds state slot note
  no_new e = (λ h. absurd (false≢true h), λ b. absurd (none-some b.moved (sym e ∙ b.moved_is)))

  pub body_is : (left : ℕ) (insn moved : Insn) (same good : Bool) → left ≡ left_alone new bounds.untouched → insn_at old.list note.old ≡ Some insn → insn_at new.list slot ≡ Some moved → IsTrue same ↔ (undirected moved ≡ undirected insn)
      → good ≡ stands notes (known_for bounds.turns left state note) same note.old slot insn moved → IsTrue good ↔ IsBody old new notes bounds state slot note
  body_is left insn moved same good alone insn_is moved_is decides is = (
    λ h. record { insn = insn; insn_is = insn_is; moved = moved; moved_is = moved_is; same = same; same_is = decides; good = ap (λ k. stands notes k same note.old slot insn moved) (sym (known_is left alone)) ∙ sym is ∙ h },
    λ b.
        let same_insn : b.insn ≡ insn = same_Some _ _ (sym b.insn_is ∙ insn_is) in
        let same_moved : b.moved ≡ moved = same_Some _ _ (sym b.moved_is ∙ moved_is) in
        let by_insn : IsTrue b.same ↔ (undirected b.moved ≡ undirected insn) = subst (λ i. IsTrue b.same ↔ (undirected b.moved ≡ undirected i)) same_insn b.same_is in
        let by_both : IsTrue b.same ↔ (undirected moved ≡ undirected insn) = subst (λ i. IsTrue b.same ↔ (undirected i ≡ undirected insn)) same_moved by_insn in
        let answer : same ≡ b.same = same_answers (undirected moved ≡ undirected insn) same b.same decides by_both in
        is ∙ ap (λ k. stands notes k same note.old slot insn moved) (known_is left alone) ∙ ap (λ same. stands notes (known_at new bounds state note) same note.old slot insn moved) answer
        ∙ ap (λ i. stands notes (known_at new bounds state note) b.same note.old slot i moved) (sym same_insn) ∙ ap (λ i. stands notes (known_at new bounds state note) b.same note.old slot b.insn i) (sym same_moved) ∙ b.good,
  )

  -- ---- an extra instruction

  pub no_extra : (left : ℕ) → insn_at new.list slot ≡ None → IsTrue false ↔ IsExtra old new notes bounds state slot note left
  no_extra left e = (λ h. absurd (false≢true h), λ b. absurd (none-some b.moved (sym e ∙ b.moved_is)))

  pub extra_is : (alone left : ℕ) (moved : Insn) (good : Bool) → alone ≡ left_alone new bounds.untouched → insn_at new.list slot ≡ Some moved
      → good ≡ adds notes (record { old = old; slot = note.old; bounds = bounds }) (known_for bounds.turns alone state note) left slot moved
      → IsTrue good ↔ IsExtra old new notes bounds state slot note left
  extra_is alone left moved good alone_is moved_is is =
      let here : good ≡ adds notes (record { old = old; slot = note.old; bounds = bounds }) (known_at new bounds state note) left slot moved =
      is ∙ ap (λ k. adds notes (record { old = old; slot = note.old; bounds = bounds }) k left slot moved) (known_is alone alone_is) in (
        λ h. record { moved = moved; moved_is = moved_is; good = sym here ∙ h },
        λ b.
            let same_moved : b.moved ≡ moved = same_Some _ _ (sym b.moved_is ∙ moved_is) in
            here ∙ ap (λ i. adds notes (record { old = old; slot = note.old; bounds = bounds }) (known_at new bounds state note) left slot i) (sym same_moved) ∙ b.good,
      )

  -- ---- what is noted

  pub holds_body : (good : Bool) → note_at notes slot ≡ Some note → note.extras ≡ 0 → IsTrue good ↔ IsBody old new notes bounds state slot note → IsTrue good ↔ HoldsAt old new notes bounds state slot
  holds_body good noted none body = (
    λ h other is. subst (λ note. IsEither old new notes bounds state slot note note.extras) (same_Some note other (sym noted ∙ is)) (subst (IsEither old new notes bounds state slot note) (sym none) (body.0 h)),
    λ all. body.1 (subst (IsEither old new notes bounds state slot note) none (all note noted)),
  )

  pub holds_extra : (good : Bool) → note_at notes slot ≡ Some note → 0 < note.extras → IsTrue good ↔ IsExtra old new notes bounds state slot note (note.extras - 1) → IsTrue good ↔ HoldsAt old new notes bounds state slot
  holds_extra good noted some extra =
      let more : suc (note.extras - 1) ≡ note.extras = omega arith in (
        λ h other is. subst (λ note. IsEither old new notes bounds state slot note note.extras) (same_Some note other (sym noted ∙ is)) (subst (IsEither old new notes bounds state slot note) more (extra.0 h)),
        λ all. extra.1 (subst (IsEither old new notes bounds state slot note) (sym more) (all note noted)),
      )

pub holds_none : (old new : Instructions) (notes : Notes) (bounds : Bounds) (state : Option AbstractState) (slot : ℕ) → note_at notes slot ≡ None → HoldsAt old new notes bounds state slot
holds_none old new notes bounds state slot none note noted = absurd (none-some note (sym none ∙ noted))
