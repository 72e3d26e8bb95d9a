-- Ways that are dead: neither program goes them.
use Rattle.std.proofs.Common.{◌≡◌, ℕ, refl, sym, ◌∙◌, subst, Bool, true, false}
use Rattle.std.specs.Prelude.{ℤ, ◌||◌}
use Rattle.std.proofs.lemmas.Bool.{false≢true, true≢false}
use Rattle.bpf_insn.specs.Arithmetic.{jumps}
use Rattle.bpf_insn.specs.declared.order.Order.{Order}
use Rattle.bpf_insn.specs.declared.instruction.Reg.{Reg}
use Rattle.bpf_insn.specs.declared.instruction.Operand.{Operand}
use Rattle.bpf_insn.specs.declared.instruction.Width.{Width}
use Rattle.bpf_insn.specs.declared.instruction.Width.TheVariants.{W32}
use Rattle.bpf_insn.specs.declared.instruction.Cond.{Cond}
use Rattle.bpf_insn.specs.declared.instruction.Insn.{Insn}
use Rattle.bpf_insn.specs.declared.instruction.Insn.TheVariants.{Alu, Ja, JaLong, JumpIf, Exit}
use Rattle.bpf_semantics.specs.Flat.{FlatState, flat_register, flat_operand}
use Rattle.bpf_kept.specs.Terms.{Packet}
use Rattle.bpf_kept.specs.Rules.{Known, is_widened, is_jump}
use Rattle.bpf_kept.specs.Ways.{surely_jumps, surely_falls, surely_not, never_answers, is_dead}
use Rattle.bpf_kept.proofs.StatesLaw.{answer_is}
use Rattle.bpf_kept.proofs.PutLaw.{AtOnce}
use Rattle.bpf_kept.proofs.TestLaw.{always_jumps, never_jumps}

-- what is widened is no end
no_wide_exit : (known : Known) (i : Insn) → is_widened known i Exit ≡ true → ⊥
unfolding is_widened
no_wide_exit known (Alu op W32 dst src) h = false≢true h
no_wide_exit known i h = false≢true h

pub widened_moved : (known : Known) (i moved : Insn) → is_widened known i moved ≡ true → moved ≡ Exit → ⊥
widened_moved known i moved h e = no_wide_exit known i (subst (λ m. is_widened known i m ≡ true) e h)

-- ways that aren't dead
pub jump_alive : (known : Known) (i moved : Insn) → is_jump i ≡ true → is_dead known i moved true ≡ false
unfolding is_dead
jump_alive known (Ja off) moved e = refl
jump_alive known (JaLong off) moved e = refl
jump_alive known i moved e = absurd (false≢true e)

only_false : (b : Bool) → (b ≡ true → ⊥) → b ≡ false
only_false true h = absurd (h refl)
only_false false h = refl

neither : (a b : Bool) → a ≡ false → b ≡ false → (a || b) ≡ false
neither false b ea eb = eb
neither true b ea eb = absurd (true≢false ea)

module _ (order : Order) (start : ℕ) (packet : Packet) (known : Known) (f g : FlatState) (at : AtOnce order start packet known f g) where
  -- the old one may go the way that it goes
  not_ruled_out : (cond : Cond) (width : Width) (dst : Reg) (src : Operand) (off : ℤ) (taken : Bool) → jumps width cond (flat_register f dst) (flat_operand f src) ≡ taken
      → surely_not known.facts (JumpIf cond width dst src off) taken ≡ false
  not_ruled_out cond width dst src off true on =
      only_false (surely_falls known.facts (JumpIf cond width dst src off)) (λ e. false≢true (sym (never_jumps order start packet known f g at cond width dst src off e) ∙ on))
  not_ruled_out cond width dst src off false on =
      only_false (surely_jumps known.facts (JumpIf cond width dst src off)) (λ e. false≢true (sym on ∙ always_jumps order start packet known f g at cond width dst src off e))

  pub test_alive : (cond other : Cond) (width : Width) (dst : Reg) (src : Operand) (off new_off : ℤ) (taken : Bool)
      → jumps width cond (flat_register f dst) (flat_operand f src) ≡ taken → jumps width other (flat_register g dst) (flat_operand g src) ≡ taken
      → is_dead known (JumpIf cond width dst src off) (JumpIf other width dst src new_off) taken ≡ false
  unfolding is_dead
  test_alive cond other width dst src off new_off taken on dn =
      neither (surely_not known.facts (JumpIf cond width dst src off) taken) (never_answers known (JumpIf other width dst src new_off) taken)
      (not_ruled_out cond width dst src off taken on) (answer_is known.state g at.numbers other width dst src taken dn)
