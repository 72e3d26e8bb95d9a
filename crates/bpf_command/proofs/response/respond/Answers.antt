use Rattle.std.proofs.Common.{◌≢◌, [], ◌∷◌, subst, refl, inl, inr, rules}
use Rattle.clap.specs.Words.{HasKind, Kinds, kind_of}
use Rattle.clap.specs.declared.error.Error.{Error}
use Rattle.clap.specs.declared.error.ErrorKind.TheVariants.{OutOfMemory}
use Rattle.bpf_answers.proofs.MadeLemmas.{keeps}
use Rattle.bpf_command.proofs.response.respond.Goals as goal

abbrev IsThere : Kinds → Type 0
IsThere [] = ⊥
IsThere (k ∷ ks) = Unit {0}

-- an error that isn't want of memory tells that something is wrong
at_fault : (kinds : Kinds) (e : Error) → HasKind kinds e → kind_of e ≢ OutOfMemory → kinds ≢ []
at_fault [] e (inl memory) other = absurd (other memory)
at_fault [] e (inr h) other = absurd h
at_fault (k ∷ ks) e h other = λ is. subst IsThere is tt

pub returns-in-Err-2 : goal.returns-in-Err-2
returns-in-Err-2 g c =
    let other : kind_of c.in-Err-2.error ≢ OutOfMemory = search rules in
    inr (inl (at_fault _ c.in-Err-2.error c.in-Err-2.ensures.judged other, refl, (refl, keeps _)))
