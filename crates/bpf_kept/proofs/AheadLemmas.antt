-- One instruction further.
use Rattle.std.proofs.Common.{◌≡◌, ℕ, zero, suc, ◌+◌, ◌-◌, ◌<◌, ◌≤◌, Bool, true, false, cond, List, [], ◌++◌, Option, Some, None, refl, ap, ◌∙◌, arith}
use Rattle.std.specs.Prelude.{if◌then◌else◌, ◌||◌}
use Rattle.std.specs.List.{list_any}
use Rattle.std.specs.Option.{option_map_or}
use Rattle.std.proofs.lemmas.List.Folds.{list_any-append}
use Rattle.bpf_insn.specs.Effects.{Access}
use Rattle.bpf_insn.specs.Instruction.{Instructions, slot_count, insn_at}
use Rattle.bpf_insn.specs.declared.instruction.Insn.{Insn}
use Rattle.bpf_insn.specs.declared.instruction.Insn.TheVariants.{LoadImm64}
use Rattle.bpf_insn.specs.declared.instruction.Reg.{Reg}
use Rattle.bpf_kept.specs.declared.notes.Need.{Need}
use Rattle.bpf_kept.specs.Guards.{accesses_by, is_passed, is_met, accesses_ahead}

module _ (old : Instructions) (r : Reg) (need : Need) where
  -- such an access follows among the next n instructions
  abbrev pub ahead : ℕ → ℕ → Bool
  ahead n slot = list_any (is_met need) (accesses_ahead old r n slot)

  abbrev here : Insn → Bool
  here i = list_any (is_met need) (accesses_by r i)

  inner : (b : Bool) (xs : List Access) → list_any (is_met need) (cond b xs []) ≡ cond b (list_any (is_met need) xs) false
  inner true xs = refl
  inner false xs = refl

  one : (n slot : ℕ) (o : Option Insn) → insn_at old.list slot ≡ o → ahead (suc n) slot ≡ option_map_or (λ i. here i || cond (is_passed r i) (ahead n (slot + slot_count i)) false) o false
  unfolding accesses_ahead
  one n slot None e = ap (λ o. list_any (is_met need) (option_map_or (λ i. accesses_by r i ++ (if is_passed r i then accesses_ahead old r n (slot + slot_count i) else [])) o [])) e
  one n slot (Some i) e =
      ap (λ o. list_any (is_met need) (option_map_or (λ i. accesses_by r i ++ (if is_passed r i then accesses_ahead old r n (slot + slot_count i) else [])) o [])) e
      ∙ list_any-append (is_met need) (accesses_by r i) (if is_passed r i then accesses_ahead old r n (slot + slot_count i) else []) ∙ ap (λ b. here i || b) (inner (is_passed r i) (accesses_ahead old r n (slot + slot_count i)))

  pub stops : (left slot : ℕ) → 0 < left → insn_at old.list slot ≡ None → ahead left slot ≡ false
  stops zero slot more e = absurd (omega arith)
  stops (suc n) slot more e = one n slot None e

  pub found : (left slot : ℕ) (i : Insn) → 0 < left → insn_at old.list slot ≡ Some i → here i ≡ true → ahead left slot ≡ true
  found zero slot i more e h = absurd (omega arith)
  found (suc n) slot i more e h = one n slot (Some i) e ∙ ap (λ b. b || cond (is_passed r i) (ahead n (slot + slot_count i)) false) h

  pub ends : (left slot : ℕ) (i : Insn) → 0 < left → insn_at old.list slot ≡ Some i → here i ≡ false → is_passed r i ≡ false → ahead left slot ≡ false
  ends zero slot i more e h p = absurd (omega arith)
  ends (suc n) slot i more e h p = one n slot (Some i) e ∙ ap (λ b. b || cond (is_passed r i) (ahead n (slot + slot_count i)) false) h ∙ ap (λ b. cond b (ahead n (slot + slot_count i)) false) p

  pub goes : (left slot : ℕ) (i : Insn) → 0 < left → insn_at old.list slot ≡ Some i → here i ≡ false → is_passed r i ≡ true → ahead left slot ≡ ahead (left - 1) (slot + slot_count i)
  goes zero slot i more e h p = absurd (omega arith)
  goes (suc n) slot i more e h p =
      let same : n ≡ suc n - 1 = omega arith in
      one n slot (Some i) e ∙ ap (λ b. b || cond (is_passed r i) (ahead n (slot + slot_count i)) false) h ∙ ap (λ b. cond b (ahead n (slot + slot_count i)) false) p ∙ ap (λ m. ahead m (slot + slot_count i)) same

  pub over : (left slot : ℕ) → left ≤ 0 → ahead left slot ≡ false
  unfolding accesses_ahead
  over zero slot none = refl
  over (suc n) slot none = absurd (omega arith)

pub few_slots : (i : Insn) → slot_count i ≤ 2
few_slots (LoadImm64 dst value) = omega arith
few_slots i = omega arith
