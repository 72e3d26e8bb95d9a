use Rattle.std.proofs.Common.{◌↔◌, IsSome, IfSome, subst}
use Rattle.std.proofs.lemmas.List.{take_rest}
use Rattle.bpf_host_calls.specs.Prepared.{IsFoundIn, IsMarked, IsWhole}
use Rattle.bpf_host_calls.proofs.loaded.found_loaded.Goals as goal

pub returns-clause-found : goal.returns-clause-found
returns-clause-found c =
    subst (λ m. IfSome c.found_in.result (IsFoundIn m)) (take_rest c.args.memory.now 24) c.found_in.ensures.found

pub returns-clause-known : goal.returns-clause-known
returns-clause-known c = subst (λ m. IsSome c.found_in.result ↔ (IsMarked m × IsWhole m)) (take_rest c.args.memory.now 24) c.found_in.ensures.known
