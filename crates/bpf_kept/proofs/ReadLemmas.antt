-- What holds of all registers in places, some of them empty.
use Rattle.std.proofs.Common.{◌≡◌, Bool, true, List, [], ◌∷◌, Option, Some, None, refl, ap}
use Rattle.std.specs.Prelude.{◌&&◌}
use Rattle.std.specs.List.{list_all, filter_map}
use Rattle.std.specs.Option.{option_map_or}
use Rattle.bpf_insn.specs.declared.instruction.Reg.{Reg}

pub all_there : (test : Reg → Bool) (xs : List (Option Reg)) → list_all (λ o. option_map_or test o true) xs ≡ list_all test (filter_map (λ r. r) xs)
all_there test [] = refl
all_there test (None ∷ xs) = all_there test xs
all_there test (Some r ∷ xs) = ap (λ b. test r && b) (all_there test xs)
