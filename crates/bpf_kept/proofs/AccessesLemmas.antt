-- Where an access of the exact machine goes.
use Rattle.std.proofs.Common.{◌≡◌, subst, Some}
use Rattle.std.proofs.lemmas.Option.{none-some, same_Some, option_and_then_some}
use Rattle.bpf_insn.specs.Effects.{Access, access_of}
use Rattle.bpf_insn.specs.Instruction.{byte_count, word_size}
use Rattle.bpf_insn.specs.declared.order.Order.{Order}
use Rattle.bpf_insn.specs.declared.instruction.Insn.{Insn}
use Rattle.bpf_insn.specs.declared.instruction.Insn.TheVariants.{Load, LoadSx, Store, StoreImm, Atomic}
use Rattle.bpf_semantics.specs.State.{State, register, number_of_register}
use Rattle.bpf_semantics.specs.Memory.{Location, location_of}
use Rattle.bpf_semantics.specs.Step.{does}
use Rattle.bpf_semantics.specs.declared.value.Value.{Value}

-- where an instruction's access goes
pub record Goes (s : State) (a : Access) : Type 0 where
  pub base : Value
  pub base_is : register s a.base ≡ Some base
  pub location : Location
  pub location_is : location_of s (byte_count a.size) a.offset base ≡ Some location

pub goes : (order : Order) (i : Insn) (a : Access) (s t : State) → does order i s ≡ Some t → access_of i ≡ Some a → Goes s a
unfolding does
goes order (Load size dst src off) a s t e ea =
    subst (Goes s) (same_Some _ _ ea) (option_and_then_some _ (register s src) t e (λ b eb e1. option_and_then_some _ (location_of s (byte_count size) off b) t e1 (λ l el e2. record { base = b; base_is = eb; location = l; location_is = el })))
goes order (LoadSx size dst src off) a s t e ea =
    subst (Goes s) (same_Some _ _ ea) (option_and_then_some _ (register s src) t e (λ b eb e1. option_and_then_some _ (location_of s (byte_count size) off b) t e1 (λ l el e2. record { base = b; base_is = eb; location = l; location_is = el })))
goes order (Store size dst off src) a s t e ea =
    subst (Goes s) (same_Some _ _ ea) (option_and_then_some _ (register s dst) t e (λ b eb e1. option_and_then_some _ (register s src) t e1 (λ x ex e2. option_and_then_some _ (location_of s (byte_count size) off b) t e2 (λ l el e3. record { base = b; base_is = eb; location = l; location_is = el }))))
goes order (StoreImm size dst off imm) a s t e ea =
    subst (Goes s) (same_Some _ _ ea) (option_and_then_some _ (register s dst) t e (λ b eb e1. option_and_then_some _ (location_of s (byte_count size) off b) t e1 (λ l el e2. record { base = b; base_is = eb; location = l; location_is = el })))
goes order (Atomic wide op dst off src) a s t e ea =
    subst (Goes s) (same_Some _ _ ea) (option_and_then_some _ (register s dst) t e (λ b eb e1. option_and_then_some _ (number_of_register s src) t e1 (λ x ex e2. option_and_then_some _ (location_of s (byte_count (word_size wide)) off b) t e2 (λ l el e3. record { base = b; base_is = eb; location = l; location_is = el }))))
goes order i a s t e ea = absurd (none-some _ ea)
